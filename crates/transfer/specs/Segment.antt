-- Segment of n bytes at o. If n > 0 and o + n is above the store's length: fault 4, answer 19, and nothing is written. Else the bytes go
-- to o, and progress grows by n. 20: progress would pass 2^64 - 1.
use Rattle.std.specs.Prelude.{None}
use Rattle.transfer.specs.Transfer.{Note}
use Rattle.std.specs.Prelude.{ℕ, ◌+◌, ◌^◌, Bool, cond, not, List, [], ◌∷◌, leb, eqb, length}
use Rattle.codes.specs.Codes.{filestore_rejection}
use Rattle.laws.specs.First.{first_of}
use Rattle.filestore.specs.File.{segment_fits, stored_of}
use Rattle.transfer.specs.Transfer.{with_file}
use Rattle.transfer.specs.Fault.{handled, reported}
use Rattle.transfer.specs.declared.TransferState.{TransferState}

-- 20: progress would pass 2^64 - 1
unfoldable pub progress_passes : TransferState → ℕ → Bool
progress_passes t n = leb (2 ^ 64) (t.file.progress + n)

-- the last refusals of file data, in 01's order: 20, 19
unfoldable pub segment_order : TransferState → ℕ → ℕ → ℕ → List (ℕ × Bool)
segment_order t size o n = (20, progress_passes t n) ∷ (19, not (segment_fits size o n)) ∷ []

unfoldable pub segment_refusal : TransferState → ℕ → ℕ → ℕ → ℕ
segment_refusal t size o n = first_of (segment_order t size o n)

-- the transfer after a segment of n bytes that left the file at that length
abbrev pub received : TransferState → ℕ → ℕ → TransferState
received t len n = with_file t (record { length = len; progress = t.file.progress + n })

-- what a segment leaves: the answer, the transfer and the fault's report; and the store
pub record Segmented : Type 0 where
  pub answer : ℕ
  pub state : TransferState
  pub report : Note

pub record Kept : Type 0 where
  pub segmented : Segmented
  pub store : List ℕ

abbrev pub kept : Segmented → List ℕ → Kept
kept r store = record { segmented = r; store = store }

abbrev pub segmented : ℕ → TransferState → Note → Segmented
segmented n t i = record { answer = n; state = t; report = i }

-- by the refusal: 19 reports fault 4 and leaves the transfer to its handler h
unfoldable pub segment_by : ℕ → ℕ → TransferState → List ℕ → ℕ → List ℕ → Kept
segment_by n h t store o d =
    cond (eqb n 0)
    (kept
    (segmented 0 (received t (stored_of store t.file.length o d).len (length d)) None)
    (stored_of store t.file.length o d).store)
    (cond (eqb n 19) (kept (segmented 19 (handled h t filestore_rejection) (reported h t filestore_rejection)) store) (kept (segmented n t None) store))

unfoldable pub segmented_of : ℕ → TransferState → List ℕ → ℕ → List ℕ → Kept
segmented_of h t store o d = segment_by (segment_refusal t (length store) o (length d)) h t store o d
