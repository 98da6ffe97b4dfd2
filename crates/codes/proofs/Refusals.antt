-- What callers use of an answer: a good one says that no refusal is told, a refused one says which, and a number says which refusal it is.
use Prim.Native.Nat.{ℕ}
use mathlib.Core.Path.{◌≡◌, refl, sym, ap, ◌∙◌}
use mathlib.Core.Bool.{Bool, true, false, cond, not, true≢false, false≢true}
use native.Mathlib.Omega.{arith}
use lib.Dec.{T, ltb, ltb→lt, eqb}
use borrow.Author.Tests.{eq-eqb, ne_eqb, eqb-true, not-true, not-false}
use Rattle.std.specs.Prelude.{Result, Ok, Err, IsErrAnd}
use Rattle.codes.specs.Refusals.{number, Answer, Good, Refused, unless, answered, told, refusal_of}
use Rattle.codes.specs.declared.Refusal.{Refusal}
use Rattle.codes.specs.contracts.Refusal.{the_type}
use denote.Enum.Bare.{sameb}
use Rattle.codes.specs.declared.Refusal.TheVariants.{StoreUnfit, OutTooShort, NotWhole, OtherVersion, OtherWidth, WithCrc, UnknownDirective, ForSender, ForAnotherEntity, NotSupported, Busy, WrongStep, AnotherTransfer, Malformed, UnknownSource, NoSourceName, NoDestName, NotUtf8, DoesNotFit, ProgressAtEnd, Broken}

-- each refusal has a number
numbered : (r : Refusal) → T (ltb 0 (number r))
numbered StoreUnfit = tt
numbered OutTooShort = tt
numbered NotWhole = tt
numbered OtherVersion = tt
numbered OtherWidth = tt
numbered WithCrc = tt
numbered UnknownDirective = tt
numbered ForSender = tt
numbered ForAnotherEntity = tt
numbered NotSupported = tt
numbered Busy = tt
numbered WrongStep = tt
numbered AnotherTransfer = tt
numbered Malformed = tt
numbered UnknownSource = tt
numbered NoSourceName = tt
numbered NoDestName = tt
numbered NotUtf8 = tt
numbered DoesNotFit = tt
numbered ProgressAtEnd = tt
numbered Broken = tt

pub number-zero : (r : Refusal) → number r ≡ 0 → ⊥
number-zero r e = omega (arith, e, ltb→lt 0 (number r) (numbered r))

-- the refusal of a number
abbrev numbered_by : ℕ → Refusal
numbered_by n =
    cond (eqb n 1) StoreUnfit
    (cond (eqb n 2) OutTooShort
    (cond (eqb n 3) NotWhole
    (cond (eqb n 4) OtherVersion
    (cond (eqb n 5) OtherWidth
    (cond (eqb n 6) WithCrc
    (cond (eqb n 7) UnknownDirective
    (cond (eqb n 8) ForSender
    (cond (eqb n 9) ForAnotherEntity
    (cond (eqb n 10) NotSupported
    (cond (eqb n 11) Busy
    (cond (eqb n 12) WrongStep
    (cond (eqb n 13) AnotherTransfer
    (cond (eqb n 14) Malformed
    (cond (eqb n 15) UnknownSource
    (cond (eqb n 16) NoSourceName
    (cond (eqb n 17) NoDestName
    (cond (eqb n 18) NotUtf8
    (cond (eqb n 19) DoesNotFit
    (cond (eqb n 20) ProgressAtEnd Broken)))))))))))))))))))

numbered_back : (r : Refusal) → numbered_by (number r) ≡ r
numbered_back StoreUnfit = refl
numbered_back OutTooShort = refl
numbered_back NotWhole = refl
numbered_back OtherVersion = refl
numbered_back OtherWidth = refl
numbered_back WithCrc = refl
numbered_back UnknownDirective = refl
numbered_back ForSender = refl
numbered_back ForAnotherEntity = refl
numbered_back NotSupported = refl
numbered_back Busy = refl
numbered_back WrongStep = refl
numbered_back AnotherTransfer = refl
numbered_back Malformed = refl
numbered_back UnknownSource = refl
numbered_back NoSourceName = refl
numbered_back NoDestName = refl
numbered_back NotUtf8 = refl
numbered_back DoesNotFit = refl
numbered_back ProgressAtEnd = refl
numbered_back Broken = refl

-- no two refusals have the same number
pub number-injective : (r s : Refusal) → number r ≡ number s → r ≡ s
number-injective r s e = sym (numbered_back r) ∙ ap numbered_by e ∙ numbered_back s

-- a comparison with 19 is one of the numbers
same-19 : (r : Refusal) → sameb the_type r DoesNotFit ≡ eqb (number r) 19
same-19 StoreUnfit = refl
same-19 OutTooShort = refl
same-19 NotWhole = refl
same-19 OtherVersion = refl
same-19 OtherWidth = refl
same-19 WithCrc = refl
same-19 UnknownDirective = refl
same-19 ForSender = refl
same-19 ForAnotherEntity = refl
same-19 NotSupported = refl
same-19 Busy = refl
same-19 WrongStep = refl
same-19 AnotherTransfer = refl
same-19 Malformed = refl
same-19 UnknownSource = refl
same-19 NoSourceName = refl
same-19 NoDestName = refl
same-19 NotUtf8 = refl
same-19 DoesNotFit = refl
same-19 ProgressAtEnd = refl
same-19 Broken = refl

pub other-19 : (r : Refusal) → true ≡ not (sameb the_type r DoesNotFit) → eqb (number r) 19 ≡ false
other-19 r e = sym (same-19 r) ∙ not-true _ (sym e)

pub is-19 : (r : Refusal) → false ≡ not (sameb the_type r DoesNotFit) → eqb (number r) 19 ≡ true
is-19 r e = sym (same-19 r) ∙ not-false _ (sym e)

module _ {A : Type 0} where
  -- what was found, where no refusal is told
  pub good_unless : (n : ℕ) (x : A) → n ≡ 0 → Good x ≡ unless n x
  good_unless n x e = rw (eq-eqb n 0 e)

  -- the refusal that is told
  pub refused_unless : (n : ℕ) (x : A) (r : Refusal) → number r ≡ n → Refused (number r) ≡ unless n x
  refused_unless n x r e = rw (ne_eqb n 0 (λ z. number-zero r (e ∙ z)), e)

  -- the number of an answer
  pub told-unless : (n : ℕ) (x : A) → told (unless n x) ≡ n
  told-unless n x = by_test (eqb n 0) refl
    where
      by_test : (b : Bool) → eqb n 0 ≡ b → told (cond b (Good x) (Refused n)) ≡ n
      by_test true e = sym (eqb-true n 0 e)
      by_test false e = refl

  abbrev found : A → Answer A → A
  found d (Good x) = x
  found d (Refused n) = d

  -- an answer that is good tells no refusal, and is what was found
  pub good_tells : (n : ℕ) (x y : A) → Good y ≡ unless n x → (n ≡ 0) × (y ≡ x)
  good_tells n x y e =
      let none : n ≡ 0 = sym (ap told e ∙ told-unless n x) in
      let taken : Good y ≡ Good x = e ∙ rw (eq-eqb n 0 none) in
      (none, ap (found y) taken)

  -- the same of what the code answers
  pub ok_tells : (n : ℕ) (x y : A) (r : Result A Refusal) → answered r ≡ unless n x → r ≡ Ok y → (n ≡ 0) × (y ≡ x)
  ok_tells n x y r e is = good_tells n x y (sym (ap answered is) ∙ e)

  pub err_tells : (n : ℕ) (x : A) (r : Result A Refusal) (m : Refusal) → answered r ≡ unless n x → r ≡ Err m → number m ≡ n
  err_tells n x r m e is = ap told (sym (ap answered is) ∙ e) ∙ told-unless n x

  -- a number that the code's answer tells
  pub ok_none : {n : ℕ} {r : Result A Refusal} {x : A} → refusal_of r ≡ n → r ≡ Ok x → n ≡ 0
  ok_none e is = sym e ∙ ap refusal_of is

  pub err_told : {n : ℕ} {r : Result A Refusal} {m : Refusal} → refusal_of r ≡ n → r ≡ Err m → number m ≡ n
  err_told e is = sym (ap refusal_of is) ∙ e

  -- a refusal handed on by `?`
  pub handed_on : {r : Result A Refusal} {m : Refusal} → IsErrAnd r (λ x. x ≡ m) → r ≡ Err m
  handed_on {r = Ok x} h = absurd h
  handed_on {r = Err e} h = ap Err h

  pub handed : (r : Result A Refusal) (m : Refusal) → IsErrAnd r (λ x. x ≡ m) → answered r ≡ Refused (number m)
  handed (Ok x) m h = absurd h
  handed (Err e) m h = ap (λ x. Refused (number x)) h

  pub passed : (n : ℕ) (x : A) (r : Result A Refusal) (m : Refusal) → IsErrAnd r (λ x. x ≡ m) → number m ≡ n → answered r ≡ unless n x
  passed n x r m h e = handed r m h ∙ refused_unless n x m e

  abbrev is_good : Answer A → Bool
  is_good (Good x) = true
  is_good (Refused n) = false

  -- a refusal that one test decides
  pub ok_but : (b : Bool) (n : ℕ) (x y : A) (r : Result A Refusal) → answered r ≡ cond b (Refused n) (Good x) → r ≡ Ok y → (b ≡ false) × (y ≡ x)
  ok_but true n x y r e is = absurd (true≢false (ap is_good (sym (ap answered is) ∙ e)))
  ok_but false n x y r e is = (refl, ap (found y) (sym (ap answered is) ∙ e))

  pub err_but : (b : Bool) (n : ℕ) (x : A) (r : Result A Refusal) (m : Refusal) → answered r ≡ cond b (Refused n) (Good x) → r ≡ Err m → (b ≡ true) × (number m ≡ n)
  err_but true n x r m e is = (refl, ap told (sym (ap answered is) ∙ e))
  err_but false n x r m e is = absurd (false≢true (ap is_good (sym (ap answered is) ∙ e)))

  pub unless-test : (b : Bool) (n : ℕ) (x : A) → (n ≡ 0 → ⊥) → cond b (Refused n) (Good x) ≡ unless (cond b n 0) x
  unless-test true n x h = rw (ne_eqb n 0 h)
  unless-test false n x h = refl

  -- where no refusal is told the code answers what is found
  pub ok_when : (n : ℕ) (x : A) (r : Result A Refusal) → answered r ≡ unless n x → n ≡ 0 → r ≡ Ok x
  ok_when n x (Ok y) e none = ap Ok (good_tells n x y e).1
  ok_when n x (Err m) e none = absurd (number-zero m (err_tells n x (Err m) m e refl ∙ none))
