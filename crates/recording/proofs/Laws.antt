-- What the readers of a recording use of its definitions.
use Prim.Native.Nat.{ℕ, ◌+◌, ◌≤◌, ◌<◌}
use mathlib.Core.Path.{◌≡◌, refl}
use mathlib.Core.Bool.{Bool, true, false, cond}
use mathlib.Core.List.{List}
use lib.Dec.{leb, eqb}
use lib.ListN.{length}
use borrow.Author.Tests.{lt-leb, leb-true}
use native.Mathlib.Nat.{zero-add}
use Rattle.std.specs.List.{range_with_len}
use Rattle.std.proofs.lemmas.List.Folds.{list_all_at}
use Rattle.std.proofs.lemmas.List.FromFn.{length-range_with_len, get_or-range_with_len}
use Rattle.laws.proofs.Tests.{both_true}
use Rattle.recording.specs.Settings.{byte_at, entry_start, discards_ok}
use Rattle.recording.specs.Record.{kind, timer, pdu_length, record_whole, record_of}
use Rattle.recording.specs.declared.record.RecordRead.TheVariants.{End, Bad, Poll, Packet}

-- a discard above 1 is bad for every count of entries that has it
pub bad_discard : (s : List ℕ) (i n : ℕ) → i < n → 1 < byte_at s (entry_start i + 12) → discards_ok s n ≡ false
bad_discard s i n h b =
    list_all_at (λ k. leb (byte_at s (entry_start k + 12)) 1) (range_with_len 0 n) i 0 (rw length-range_with_len h) (rw (get_or-range_with_len 0 n i 0 h, zero-add) (lt-leb (byte_at s (entry_start i + 12)) 1 b))

-- a record with a PDU is whole, and its kind is not that of a poll
packet_by : (none whole poll : Bool) (a t : Bool) (m n : ℕ) → cond none End (cond whole (cond poll (Poll a) (Packet a m)) Bad) ≡ Packet t n → (whole ≡ true) × (poll ≡ false) × (m ≡ n)
packet_by true whole poll a t m n e = (cc, cc, cc)
packet_by false true true a t m n e = (cc, cc, cc)
packet_by false true false a t m n e = (refl, refl, cc)
packet_by false false poll a t m n e = (cc, cc, cc)

-- so its bytes stand there
pub packet_fits : (s : List ℕ) (t : Bool) (n : ℕ) → record_of s ≡ Packet t n → 4 + n ≤ length s
unfolding record_of record_whole
packet_fits s t n e =
    let p = packet_by (eqb (length s) 0) (record_whole s) (eqb (kind s) 0) (timer s) t (pdu_length s) n e in
    let parts = (both_true (leb 2 (length s)) _ p.0).1 in
    let rest = (both_true (leb (byte_at s 1) 1) _ (both_true (leb (kind s) 1) _ parts).1).1 in
    let fits = (both_true (leb 4 (length s)) _ (rw p.1 at rest)).1 in
    rw p.2 at (leb-true (4 + pdu_length s) (length s) fits)
