-- `finished::body_len` meets its contract: the data field is two bytes and the fault location.
use mathlib.Core.Path.{◌∙◌, sym}
use native.Mathlib.Omega.{arith}
use Rattle.finished.proofs.Lengths.{length_body, length_none, length-given}
use Rattle.finished.proofs.body_len.Goals as goal

pub returns-then-without_location : goal.returns-then-without_location
returns-then-without_location c =
    let a = c.args in
    let none = sym c.without_location.ensures ∙ c.if-without_location.true in
    omega (arith, length_body a.f a.local, length_none a.f a.local none)

pub returns : goal.returns
returns c =
    let a = c.args in
    let given = sym c.without_location.ensures ∙ c.if-without_location.false in
    omega (arith, length_body a.f a.local, length-given a.f a.local given, c.bytes.ensures.value)
