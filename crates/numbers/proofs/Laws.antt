-- The laws of big-endian numbers, each over the number of bytes.
use Prim.Native.Nat.{ℕ, zero, suc, ◌+◌, ◌-◌, ◌*◌, ◌/◌, ◌%◌, ◌^◌, ◌<◌, ◌≤◌}
use mathlib.Core.Path.{◌≡◌, ◌∙◌, refl, sym, ap}
use mathlib.Core.Bool.{Bool, true, false, cond, ◌||◌}
use mathlib.Core.List.{List, [], ◌∷◌, ◌++◌}
use native.Mathlib.Nat.{zero-add, suc-add, pow-suc, pow-succ', div-add-mod', div-div-eq-div-mul, div-lt_iff_lt-mul, pow-le-pow_right}
use native.Mathlib.Numerals.{add-one}
use native.Mathlib.Omega.{arith, min_cases}
use Rattle.std.specs.Prelude.{min, Result, Ok, Err, not, is_ok, is_err}
use Rattle.std.specs.Result.{result_unwrap_or}
use Rattle.std.specs.Int.{w64, byte_at, bytes_high_first, to_be_bytes}
use lib.Dec.{lit<, lit≤, eqb}
use borrow.Author.Tests.{eqb-true}
use Rattle.laws.specs.Parts.{pasted}
use Rattle.laws.proofs.Pasting.{pasted_snoc}
use lib.ListN.{length, set, drop, get_or, length-append, length-drop}
use lib.Seq.{get_or-drop, take_at, drop_at}
use Rattle.laws.proofs.Lists.{take_one, take_past}
use Rattle.numbers.specs.Numbers.{be_from, be_of, number_at, big_endian, bytes_of, ok_width, width_of, width_read}
use Rattle.numbers.specs.declared.NoWidth.{NoWidth}
use Rattle.numbers.specs.declared.Width.{Width}
use Rattle.numbers.specs.declared.Width.TheVariants.{One, Two, Four, Eight}

be_none : be_of [] ≡ 0
unfolding be_of be_from
be_none = refl

-- one byte more
from_snoc : (acc : ℕ) (xs : List ℕ) (b : ℕ) → be_from acc (xs ++ (b ∷ [])) ≡ be_from acc xs * 256 + b
unfolding be_from
from_snoc acc [] b = refl
from_snoc acc (x ∷ xs) b = from_snoc (acc * 256 + x) xs b

pub be_snoc : (xs : List ℕ) (b : ℕ) → be_of (xs ++ (b ∷ [])) ≡ be_of xs * 256 + b
unfolding be_of
be_snoc xs b = from_snoc 0 xs b

-- a number of no bytes is 0, and each byte more is the last digit to the base 256
pub number_none : (s : List ℕ) (at : ℕ) → number_at s at 0 ≡ 0
unfolding number_at be_of be_from
number_none s at = refl

pub number_more : (s : List ℕ) (at i : ℕ) → at + i < length s → number_at s at (i + 1) ≡ number_at s at i * 256 + get_or s (at + i) 0
unfolding number_at
number_more s at i h =
    let k : i < length (drop at s) = simp length-drop (omega arith) in
    rw (take_one (drop at s) i k, be_snoc, get_or-drop at s i 0)

-- bytes past the end add nothing
pub number_past : (s : List ℕ) (at i n : ℕ) → length s ≤ at + i → i ≤ n → number_at s at i ≡ number_at s at n
unfolding number_at
number_past s at i n h k = ap be_of (take_past (drop at s) i n (simp length-drop (omega arith)) k)

-- the number of a part that is cut at the end of the list
pub number_cut : (s : List ℕ) (at n start end : ℕ) → start ≡ min at (length s) → end ≡ min (at + n) (length s)
    → number_at s start (end - start) ≡ number_at s at n
number_cut s at n start end a e =
    min_cases at (length s) (number_at s start (end - start) ≡ number_at s at n)
    (λ p f.
    min_cases (at + n) (length s) (number_at s start (end - start) ≡ number_at s at n)
    (λ q g. let k : end - start ≡ n = omega arith in let h : start ≡ at = omega arith in rw (k, h))
    (λ q g.
    let h : start ≡ at = omega arith in
    ap (λ (x : ℕ). number_at s x (end - start)) h ∙ number_past s at (end - start) n (omega arith) (omega arith)))
    (λ q f.
    let k : end - start ≡ 0 = omega arith in
    ap (λ (x : ℕ). number_at s start x) k
    ∙ number_none s start
    ∙ sym (number_none s at)
    ∙ number_past s at 0 n (omega arith) (omega arith))

-- as many bytes are written as were asked for
one_longer : (l : List ℕ) (n b : ℕ) → length l ≡ n → length (l ++ (b ∷ [])) ≡ suc n
one_longer l n b h = simp length-append (omega arith)

pub length_big : (n v : ℕ) → length (big_endian n v) ≡ n
unfolding big_endian
length_big zero v = refl
length_big (suc n) v = one_longer _ n _ (length_big n _)

-- a number of no bytes has none, and each byte more is the last
pub big_none : (v : ℕ) → big_endian 0 v ≡ []
unfolding big_endian
big_none v = refl

big_more : (n v : ℕ) → big_endian (n + 1) v ≡ big_endian n (v / 256) ++ (v % 256 ∷ [])
unfolding big_endian
big_more n v = rw add-one

-- the last n of the bytes that the library makes of a number
byte_up : (n v : ℕ) → byte_at (suc n) v ≡ byte_at n (v / 256)
byte_up zero v = refl
byte_up (suc n) v = rw (pow-succ' 256 (suc n), div-div-eq-div-mul v 256 (256 ^ suc n))

high_snoc : (n v : ℕ) → bytes_high_first (suc n) v ≡ bytes_high_first n (v / 256) ++ (v % 256 ∷ [])
high_snoc zero v = refl
high_snoc (suc n) v =
    ap (λ (b : ℕ). b ∷ bytes_high_first (suc n) v) (byte_up n v)
    ∙ ap (λ (l : List ℕ). byte_at n (v / 256) ∷ l) (high_snoc n v)

big_high : (n v : ℕ) → bytes_high_first n v ≡ big_endian n v
unfolding big_endian
big_high zero v = refl
big_high (suc n) v = high_snoc n v ∙ ap (λ (l : List ℕ). l ++ (v % 256 ∷ [])) (big_high n (v / 256))

high_drop : (k n v : ℕ) → drop k (bytes_high_first (k + n) v) ≡ bytes_high_first n v
high_drop zero n v = rw zero-add
high_drop (suc k) n v = rw suc-add (high_drop k n v)

pub big_tail : (n v : ℕ) → n ≤ 8 → drop (8 - n) (to_be_bytes w64 v) ≡ big_endian n v
big_tail n v h =
    let e : 8 - n + n ≡ 8 = omega arith in
    ap (λ (k : ℕ). drop (8 - n) (bytes_high_first k v)) (sym e) ∙ high_drop (8 - n) n v ∙ big_high n v

-- the last byte may be stored before the others are put
pub big_last : (s : List ℕ) (at n v : ℕ) → at + n < length s → pasted (set s (at + n) (v % 256)) at (big_endian n (v / 256)) ≡ pasted s at (big_endian (n + 1) v)
big_last s at n v h =
    let k : at + length (big_endian n (v / 256)) < length s = rw length_big h in
    rw (big_more, pasted_snoc s at (big_endian n (v / 256)) (v % 256) k, length_big)

-- what was written reads back
pub be_big : (n v : ℕ) → v < 256 ^ n → be_of (big_endian n v) ≡ v
unfolding big_endian
be_big zero v h = omega (arith, be_none)
be_big (suc n) v h =
    let k : v / 256 < 256 ^ n = (div-lt_iff_lt-mul (lit< tt)).1 (rw pow-suc at h) in
    rw (be_snoc, be_big n (v / 256) k) (div-add-mod' v 256)

-- powers of 256: at least 1, rising, and 256 times as much at one more
pub power_pos : (n : ℕ) → 0 < 256 ^ n
power_pos zero = lit< tt
power_pos (suc n) = let h : 0 < 256 ^ n = power_pos n in rw pow-suc (omega arith)

pub power_more : (n : ℕ) → 256 ^ (n + 1) ≡ 256 ^ n * 256
power_more n = rw (add-one, pow-suc)

pub power_up : {i j : ℕ} → i ≤ j → 256 ^ i ≤ 256 ^ j
power_up {i} {j} h = pow-le-pow_right (lit< tt) h

-- a width that there is has as many bytes as it says
width_by : (n : ℕ) (one two four : Bool) → eqb n 1 ≡ one → eqb n 2 ≡ two → eqb n 4 ≡ four → (one || (two || (four || eqb n 8))) ≡ true → bytes_of (cond one One (cond two Two (cond four Four Eight))) ≡ n
width_by n true two four p q r h = sym (eqb-true n 1 p)
width_by n false true four p q r h = sym (eqb-true n 2 q)
width_by n false false true p q r h = sym (eqb-true n 4 r)
width_by n false false false p q r h = sym (eqb-true n 8 h)

pub width_bytes : (n : ℕ) → ok_width n ≡ true → bytes_of (width_of n) ≡ n
unfolding ok_width width_of
width_bytes n h = width_by n (eqb n 1) (eqb n 2) (eqb n 4) refl refl refl h

-- what is told of a count that was read as a width: whether there is one, and which, or Eight
read_by : (b : Bool) (w : Width) (e : NoWidth) → is_ok (cond b (Ok w) (Err e)) ≡ b
read_by true w e = refl
read_by false w e = refl

pub width_ok : (n : ℕ) {r : Result Width NoWidth} {b : Bool} → r ≡ width_read n → b ≡ is_ok r → b ≡ ok_width n
unfolding width_read
width_ok n e h = h ∙ ap is_ok e ∙ read_by (ok_width n) (width_of n) (record { 0 = n })

err_by : (b : Bool) (w : Width) (e : NoWidth) → is_err (cond b (Ok w) (Err e)) ≡ not b
err_by true w e = refl
err_by false w e = refl

pub width_err : (n : ℕ) {r : Result Width NoWidth} {b : Bool} → r ≡ width_read n → b ≡ is_err r → b ≡ not (ok_width n)
unfolding width_read
width_err n e h = h ∙ ap is_err e ∙ err_by (ok_width n) (width_of n) (record { 0 = n })

or_by : (e : NoWidth) (one two four eight : Bool)
    → result_unwrap_or (cond (one || (two || (four || eight))) (Ok (cond one One (cond two Two (cond four Four Eight)))) (Err e)) Eight
    ≡ cond one One (cond two Two (cond four Four Eight))
or_by e true two four eight = refl
or_by e false true four eight = refl
or_by e false false true eight = refl
or_by e false false false true = refl
or_by e false false false false = refl

pub width_or : (n : ℕ) {r : Result Width NoWidth} {w : Width} → r ≡ width_read n → w ≡ result_unwrap_or r Eight → w ≡ width_of n
unfolding width_read ok_width width_of
width_or n e h =
    h ∙ ap (λ (r : Result Width NoWidth). result_unwrap_or r Eight) e ∙ or_by (record { 0 = n }) (eqb n 1) (eqb n 2) (eqb n 4) (eqb n 8)

-- a number takes at least one byte and at most eight
pub bytes_pos : (w : Width) → 0 < bytes_of w
bytes_pos One = lit< tt
bytes_pos Two = lit< tt
bytes_pos Four = lit< tt
bytes_pos Eight = lit< tt

pub bytes_small : (w : Width) → bytes_of w ≤ 8
bytes_small One = lit≤ tt
bytes_small Two = lit≤ tt
bytes_small Four = lit≤ tt
bytes_small Eight = lit≤ tt

-- the count of a width's bytes is one that there is, and it tells the width
pub bytes_ok : (w : Width) → ok_width (bytes_of w) ≡ true
unfolding ok_width
bytes_ok One = refl
bytes_ok Two = refl
bytes_ok Four = refl
bytes_ok Eight = refl

pub bytes_width : (w : Width) → width_of (bytes_of w) ≡ w
unfolding width_of
bytes_width One = refl
bytes_width Two = refl
bytes_width Four = refl
bytes_width Eight = refl

-- a number that was written behind pre is the one that is read there
pub number_there : (s pre : List ℕ) (n v : ℕ) (post : List ℕ) (at : ℕ) → s ≡ pre ++ (big_endian n v ++ post) → length pre ≡ at → v < 256 ^ n → number_at s at n ≡ v
unfolding number_at
number_there s pre n v post at e k h =
    rw
    (e, drop_at pre (big_endian n v ++ post) at k, take_at (big_endian n v) post n (length_big n v), be_big n v h)
