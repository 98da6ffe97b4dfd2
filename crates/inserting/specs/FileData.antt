-- File data as the code carries them: the file's numbers alone. proofs/FileData.antt says that this is what Insert.antt has.
use Rattle.std.specs.Prelude.{None}
use Rattle.std.specs.Prelude.{ℕ, Bool, cond, List, eqb, length}
use Rattle.codes.specs.Codes.{filestore_rejection}
use Rattle.header.specs.declared.CommonPduConfig.{CommonPduConfig}
use Rattle.transfer.specs.Transfer.{with_file}
use Rattle.transfer.specs.Fault.{handled, reported}
use Rattle.transfer.specs.Put.{Put, put_seen, put_of}
use Rattle.transfer.specs.declared.FileState.{FileState}
use Rattle.transfer.specs.declared.TransferState.{TransferState}
use Rattle.inserting.specs.Insert.{Inserted, segment_offset, segment_bytes, body_refusal, segment_note, inserted, refused_insert}
use Rattle.inserting.specs.declared.Taken as code

-- what file data leave of the file: the answer, the length and progress, and the segment's offset and length; and the store
pub record Taken : Type 0 where
  pub answer : ℕ
  pub file : FileState
  pub offset : ℕ
  pub count : ℕ

pub record Took : Type 0 where
  pub left : Taken
  pub store : List ℕ

abbrev pub took : Taken → List ℕ → Took
took r store = record { left = r; store = store }

abbrev pub taken : ℕ → FileState → ℕ → ℕ → Taken
taken n f o count = record { answer = n; file = f; offset = o; count = count }

-- the code's answer in those terms: what is refused leaves the file f
abbrev pub taken_seen : FileState → code.Taken → Taken
taken_seen f k = taken (put_seen f k.file).answer (put_seen f k.file).file k.offset k.count

abbrev pub took_segment : ℕ → ℕ → Put → Took
took_segment o count p = took (taken p.answered.answer p.answered.file o count) p.store

unfoldable pub taken_of : TransferState → List ℕ → CommonPduConfig → Bool → List ℕ → Took
taken_of t store c m d =
    cond (eqb (body_refusal t c m d) 0)
    (took_segment (segment_offset c m d) (length (segment_bytes c m d)) (put_of t store (segment_offset c m d) (segment_bytes c m d)))
    (took (taken (body_refusal t c m d) t.file 0 0) store)

-- what that leaves of the transfer, with the handler h of fault 4: 0 the file, 19 the fault, any other nothing
unfoldable pub segment_inserted : ℕ → Bool → TransferState → Taken → Inserted
segment_inserted h notify t k =
    cond (eqb k.answer 0)
    (inserted 0 (with_file t k.file) (segment_note notify t k.offset k.count) None None)
    (cond (eqb k.answer 19)
    (inserted 19 (handled h t filestore_rejection) (segment_note notify t k.offset k.count) (reported h t filestore_rejection) None)
    (refused_insert k.answer t))
