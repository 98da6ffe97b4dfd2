-- A segment by the file's numbers alone, as the code carries it: the answer, the file's length and progress, and the store.
-- dest/proofs/FileData.antt says that this, with fault 4 where the answer is 19, is what Segment.antt has.
use Rattle.std.specs.Prelude.{ℕ, cond, List, eqb, length, Result, Ok, Err}
use Rattle.codes.specs.Refusals.{number}
use Rattle.codes.specs.declared.Refusal.{Refusal}
use Rattle.filestore.specs.File.{stored_of}
use Rattle.transfer.specs.Segment.{segment_refusal, received}
use Rattle.transfer.specs.declared.FileState.{FileState}
use Rattle.transfer.specs.declared.TransferState.{TransferState}

-- the answer, and the file
pub record SegmentPut : Type 0 where
  pub answer : ℕ
  pub file : FileState

pub record Put : Type 0 where
  pub answered : SegmentPut
  pub store : List ℕ

abbrev pub put : SegmentPut → List ℕ → Put
put r store = record { answered = r; store = store }

abbrev pub answered : ℕ → FileState → SegmentPut
answered n f = record { answer = n; file = f }

-- the code's answer in those terms: what is refused leaves the file f
abbrev pub put_seen : FileState → Result FileState Refusal → SegmentPut
put_seen f (Ok g) = answered 0 g
put_seen f (Err r) = answered (number r) f

-- by the refusal's number
unfoldable pub put_by : ℕ → TransferState → List ℕ → ℕ → List ℕ → Put
put_by n t store o d =
    cond (eqb n 0)
    (put
    (answered 0 (received t (stored_of store t.file.length o d).len (length d)).file)
    (stored_of store t.file.length o d).store)
    (put (answered n t.file) store)

unfoldable pub put_of : TransferState → List ℕ → ℕ → List ℕ → Put
put_of t store o d = put_by (segment_refusal t (length store) o (length d)) t store o d
