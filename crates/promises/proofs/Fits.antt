-- The numbers of a header that was read fit their widths: n bytes say a number below 256 ^ n.
use Prim.Native.Nat.{ℕ, zero, suc, ◌+◌, ◌*◌, ◌^◌, ◌<◌}
use mathlib.Core.Path.{◌≡◌, refl}
use mathlib.Core.Bool.{Bool, true, false}
use mathlib.Core.List.{List}
use native.Mathlib.Nat.{pow-suc}
use native.Mathlib.Numerals.{add-one}
use native.Mathlib.Omega.{arith}
use lib.Dec.{lit<, ltb}
use lib.ListN.{length}
use borrow.Author.Tests.{lt-ltb, ltb-true, ltb-false}
use Rattle.numbers.specs.Numbers.{number_at, ok_width, width_of}
use Rattle.numbers.proofs.Laws.{number_none, number_more, number_past, width_bytes}
use Rattle.header.specs.Header.{header_refusal, entity_width, sequence_width, sequence_at, destination_at, conf_of}
use Rattle.header.proofs.Laws.{whole}
use Rattle.config.specs.Config.{fits_width}
use Rattle.state.specs.Unfit.{conf_fits}
use Rattle.promises.specs.Reached.{Bytes}

module _ (s : List ℕ) (bytes : Bytes s) where
  -- each byte more is a digit to the base 256, and none past the end counts
  more_below : (at n : ℕ) (b : Bool) → ltb (at + n) (length s) ≡ b → number_at s at n < 256 ^ n → number_at s at (n + 1) < 256 ^ n * 256
  more_below at n true e h = rw (number_more s at n (ltb-true (at + n) (length s) e)) (omega (arith, bytes (at + n)))
  more_below at n false e h =
      let same = number_past s at n (n + 1) (ltb-false (at + n) (length s) e) (omega arith) in
      omega arith

  pub number_below : (at n : ℕ) → number_at s at n < 256 ^ n
  number_below at zero = rw number_none (lit< tt)
  number_below at (suc n) =
      rw (pow-suc, ← (add-one n)) (more_below at n (ltb (at + n) (length s)) refl (number_below at n))

  -- a number of a width that there is
  number_fits : (at n : ℕ) → ok_width n ≡ true → fits_width (width_of n) (number_at s at n) ≡ true
  unfolding fits_width
  number_fits at n h = rw (width_bytes n h) (lt-ltb (number_at s at n) (256 ^ n) (number_below at n))

  pub conf-fits : header_refusal s ≡ 0 → conf_fits (conf_of s) ≡ true
  unfolding conf_fits conf_of
  conf-fits e =
      let w = whole s e in
      rw
      (number_fits 4 (entity_width s) w.entity, number_fits (sequence_at s) (sequence_width s) w.sequence, number_fits (destination_at s) (entity_width s) w.entity)
