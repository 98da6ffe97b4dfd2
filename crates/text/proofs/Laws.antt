-- What the proofs use of the definitions: one digit more, how long each piece is, and when a buffer is a text.
use Prim.Native.Nat.{ℕ, zero-le, zero, suc, ◌+◌, ◌-◌, ◌*◌, ◌/◌, ◌%◌, ◌^◌, ◌<◌, ◌≤◌}
use mathlib.Core.Path.{◌≡◌, refl, ◌∙◌}
use mathlib.Core.List.{List, [], ◌∷◌, ◌++◌, append_assoc}
use native.Mathlib.Nat.{zero-add, div-lt_iff_lt-mul, pow-suc}
use native.Mathlib.Omega.{arith}
use borrow.Author.Tests.{lt-ltb, le-ltb, eq-eqb, ne_eqb}
use lib.Dec.{ltb, lit≤, lit<}
use lib.Seq.{take_all}
use lib.ListN.{length, take, drop, get_or, set, replicate, length-append, length-take, length-drop, length-set, length-replicate, take-append-drop}
use Rattle.laws.specs.Appending.{Room, Appended}
use Rattle.laws.specs.Parts.{pasted, filled}
use Rattle.laws.proofs.Tests.{by_test}
use Rattle.laws.proofs.Lists.{take_one, rest_of}
use Rattle.laws.proofs.Pasting.{pasted-start, pasted_more, pasted_one}
use Rattle.laws.proofs.Appends.{room_here}
use Rattle.text.specs.Text.{digit, digits_from, decimal, hex_of, record_line, pdu_line, record_text, laid, text_of, text_size, pdu_size}
use Rattle.text.specs.declared.Text.{Text}

-- a number of one digit, and the last digit of a longer one
pub digits_one : (p n : ℕ) → (p ≡ 0 → ⊥) → n < 10 → digits_from p n ≡ digit n ∷ []
digits_one zero n h k = absurd (h refl)
digits_one (suc p) n h k = rw (lt-ltb n 10 k)

pub digits_more : (p n : ℕ) → (p ≡ 0 → ⊥) → 10 ≤ n → digits_from p n ≡ digits_from (p - 1) (n / 10) ++ (digit (n % 10) ∷ [])
digits_more zero n h k = absurd (h refl)
digits_more (suc p) n h k = let e : suc p - 1 ≡ p = omega arith in rw (le-ltb n 10 k, e)

-- a number has at most as many digits as places, and a number below a power of ten at most as many as the power
pub digits_at_most : (p n : ℕ) → length (digits_from p n) ≤ p
digits_at_most zero n = lit≤ tt
digits_at_most (suc p) n =
    by_test (λ (l : List ℕ). length l ≤ suc p) (ltb n 10) _ _ (λ e. omega arith)
    (λ e. rw length-append (omega (arith, digits_at_most p (n / 10))))

pub digits_below : (k p n : ℕ) → n < 10 ^ suc k → length (digits_from p n) ≤ suc k
digits_below k zero n h = omega arith
digits_below zero (suc p) n h = rw (lt-ltb n 10 h) (lit≤ tt)
digits_below (suc k) (suc p) n h =
    by_test (λ (l : List ℕ). length l ≤ suc (suc k)) (ltb n 10) _ _ (λ e. omega arith)
    (λ e. rw length-append (omega (arith, digits_below k p (n / 10) ((div-lt_iff_lt-mul (lit< tt)).1 (rw pow-suc at h)))))

-- the same of a decimal, which has 20 places
pub decimal_at_most : (n : ℕ) → length (decimal n) ≤ 20
unfolding decimal
decimal_at_most n = digits_at_most 20 n

pub decimal-below : (k n : ℕ) → n < 10 ^ suc k → length (decimal n) ≤ suc k
unfolding decimal
decimal-below k n h = digits_below k 20 n h

-- hex digits stand as their bytes do, two for each
pub hex_append : (a b : List ℕ) → hex_of (a ++ b) ≡ hex_of a ++ hex_of b
hex_append [] b = refl
hex_append (x ∷ a) b = rw (hex_append a b)

pub length_hex : (d : List ℕ) → length (hex_of d) ≡ 2 * length d
length_hex [] = refl
length_hex (x ∷ d) = omega (arith, length_hex d)

pub hex_one : (l : List ℕ) (i : ℕ) → i < length l → hex_of (take (i + 1) l) ≡ hex_of (take i l) ++ hex_of (get_or l i 0 ∷ [])
hex_one l i h = rw (take_one l i h, hex_append)

pub hex_room : {s : List ℕ} {at : ℕ} (l : List ℕ) (i : ℕ) → i < length l → Room s at (hex_of l) → Room s at (hex_of (take i l) ++ hex_of (get_or l i 0 ∷ []))
hex_room l i h r =
    let e : hex_of l ≡ hex_of (take (i + 1) l) ++ hex_of (drop (i + 1) l) = rw (← (hex_append (take (i + 1) l) (drop (i + 1) l)), take-append-drop) in
    rw (← (hex_one l i h)) (room_here _ (rw e at r))

-- how long the lines are
pub length_record : (number answer sent : ℕ) → length (record_line number answer sent) ≡ length (decimal number) + length (decimal answer) + length (decimal sent) + 3
unfolding record_line
length_record number answer sent = simp length-append (omega arith)

pub length-pdu : (d : List ℕ) → length (pdu_line d) ≡ length (hex_of d) + 5
unfolding pdu_line
length-pdu d = simp length-append (omega arith)

-- the lines of a record are short enough for a text
pub record_at_most : (number answer sent : ℕ) → answer < 256 → sent < 10 → length (record_line number answer sent) ≤ 27
record_at_most number answer sent h k =
    omega (arith, length_record number answer sent, decimal_at_most number, decimal-below 2 answer (omega arith), decimal-below 0 sent k)

pub pdu_at_most : (d : List ℕ) → length (pdu_line (take pdu_size d)) ≤ 85
pdu_at_most d = omega (arith, length-pdu (take pdu_size d), length_hex (take pdu_size d), length-take pdu_size d)

-- a record prints one line, or two where a PDU was sent
pub record_none : (number answer : ℕ) (d : List ℕ) → length d ≡ 0 → record_text number answer d ≡ record_line number answer 0
unfolding record_text
record_none number answer d h = rw (eq-eqb (length d) 0 h)

pub record_sent : (number answer : ℕ) (d : List ℕ) → (length d ≡ 0 → ⊥) → record_text number answer d ≡ record_line number answer 1 ++ pdu_line d
unfolding record_text
record_sent number answer d h = rw (ne_eqb (length d) 0 h)

-- a piece, and another behind it, are one; `append_more` where no room for both is in hand
pub append_then : {s t u : List ℕ} {at n m : ℕ} {d e : List ℕ} → at ≤ length s → Appended s at d n t → Appended t n e m u → Appended s at (d ++ e) m u
append_then {s} {t} {u} {at} {n} {m} {d} {e} h p q =
    record {
      ends = rw length-append (omega (arith, p.ends, q.ends));
      bytes = q.bytes ∙ rw (p.bytes, p.ends) (pasted_more s at d e h);
    }

-- a buffer is no shorter behind a piece
pub no_shorter : {s t : List ℕ} {at n : ℕ} {d : List ℕ} → Appended s at d n t → length s ≤ length t
unfolding pasted
no_shorter {s} {t} {at} {n} {d} p =
    rw p.bytes (simp length-append (omega (arith, length-take at s, length-drop (at + length d) s)))

-- what is left of zeros
pub drop-zeros : (n m : ℕ) → drop {A = ℕ} n (replicate m 0) ≡ replicate (m - n) 0
drop-zeros zero m = let e : m - zero ≡ m = omega arith in rw e
drop-zeros (suc n) zero = let e : zero - suc n ≡ zero = omega arith in rw e
drop-zeros (suc n) (suc m) = let e : suc m - suc n ≡ m - n = omega arith in rw e (drop-zeros n m)

-- bytes that were zeros, and lent while a piece was put at their start, are a text
pub text_of_lem : {l out bytes : List ℕ} {n : ℕ} → Appended (replicate text_size 0) 0 l n out → bytes ≡ out → ◌≡◌ {A = Text} (record { bytes = bytes; len = n }) (text_of l)
unfolding filled
text_of_lem {l} {out} {bytes} {n} p e = rw (e, p.bytes, p.ends, pasted-start, zero-add, drop-zeros)

-- a sheet that was lent while a piece was put on it has that piece laid
pub laid_lem : {s l out sheet : List ℕ} {at n : ℕ} → Appended s at l n out → sheet ≡ out → laid n sheet ≡ laid (at + length l) (pasted s at l)
laid_lem p e = rw (e, p.bytes, p.ends)

-- the two digits of one byte more are stored behind those of the bytes so far
pub hex_stored : (l digits : List ℕ) (k : ℕ) → k < length l → k < 64 → Appended (replicate 128 0) 0 (hex_of (take k l)) (2 * k) digits
    → Appended (replicate 128 0) 0 (hex_of (take (k + 1) l)) (2 * (k + 1)) (set (set digits (2 * k) (digit (get_or l k 0 / 16))) (2 * k + 1) (digit (get_or l k 0 % 16)))
hex_stored l digits k h small p =
    let a = digit (get_or l k 0 / 16) in
    let b = digit (get_or l k 0 % 16) in
    let high = set digits (2 * k) a in
    let long : 128 ≤ length digits = omega (arith, no_shorter p, length-replicate {A = ℕ} 128 0) in
    let one : Appended digits (2 * k) (a ∷ []) (2 * k + 1) high = record { ends = refl; bytes = pasted_one digits (2 * k) a (omega arith) } in
    let room : 2 * k + 1 < length high = simp length-set (omega arith) in
    let two : Appended high (2 * k + 1) (b ∷ []) (2 * k + 1 + 1) (set high (2 * k + 1) b) = record { ends = refl; bytes = pasted_one high (2 * k + 1) b room } in
    let both = append_then zero-le (append_then zero-le p one) two in
    record {
      ends = omega (arith, length_hex (take (k + 1) l), length-take (k + 1) l);
      bytes = rw (hex_one l k h) (simp append_assoc at both.bytes);
    }

-- all digits, and the zeros that are left
pub hex_filled : (l digits : List ℕ) (k n : ℕ) → length l ≤ k → Appended (replicate 128 0) 0 (hex_of (take k l)) n digits
    → digits ≡ hex_of l ++ replicate (128 - 2 * length l) 0
unfolding filled
hex_filled l digits k n h p = rw (p.bytes, take_all k l h, pasted-start, drop-zeros, length_hex)

-- what was taken from the front is behind what was taken before
pub taken_on : (all done left : List ℕ) (n : ℕ) → done ++ left ≡ all → (done ++ take n left) ++ take (length left - n) (drop n left) ≡ all
taken_on all done left n e = rw (rest_of left n, append_assoc, take-append-drop) e
