-- `packet_info::directive` meets its contract: the arm that was taken says what the directive is, and the conditions compute.
use borrow.Author.Tests.{ne_eqb}
use Rattle.packet_info.specs.Routing.{route_of, directive_order}
use Rattle.packet_info.proofs.Laws.{ack_order, ack_told}
use Rattle.packet_info.proofs.directive.Goals as goal

pub returns-then-field-eq0 : goal.returns-then-field-eq0
unfolding route_of directive_order
returns-then-field-eq0 c = rw c.if-field-eq0.true

pub returns-in-4 : goal.returns-in-4
unfolding route_of directive_order
returns-in-4 c = rw (ne_eqb _ _ c.if-field-eq0.false, c.in-4.is)

pub returns-in-5 : goal.returns-in-5
unfolding route_of directive_order
returns-in-5 c = rw (ne_eqb _ _ c.if-field-eq0.false, c.in-5.is)

pub returns-in-6 : goal.returns-in-6
unfolding route_of
returns-in-6 c = rw (ack_order _ c.if-field-eq0.false c.in-6.is, c.ack_refusal.ensures, ne_eqb _ 0 (ack_told c.args.field.now))

pub returns-in-7 : goal.returns-in-7
unfolding route_of directive_order
returns-in-7 c = rw (ne_eqb _ _ c.if-field-eq0.false, c.in-7.is)

pub returns-in-8 : goal.returns-in-8
unfolding route_of directive_order
returns-in-8 c = rw (ne_eqb _ _ c.if-field-eq0.false, c.in-8.is)

pub returns-in-9 : goal.returns-in-9
unfolding route_of directive_order
returns-in-9 c = rw (ne_eqb _ _ c.if-field-eq0.false, c.in-9.is)

pub returns-in-12 : goal.returns-in-12
unfolding route_of directive_order
returns-in-12 c = rw (ne_eqb _ _ c.if-field-eq0.false, c.in-12.is)

pub returns-in_default : goal.returns-in_default
unfolding route_of directive_order
returns-in_default c =
    let r = c.in_default.in_default-own.rest in
    rw
    (ne_eqb _ _ c.if-field-eq0.false, ne_eqb _ _ r.0.0.0.0.0.0.1, ne_eqb _ _ r.0.0.0.0.0.1, ne_eqb _ _ r.0.0.0.0.1, ne_eqb _ _ r.0.0.0.1, ne_eqb _ _ r.0.0.1, ne_eqb _ _ r.0.1, ne_eqb _ _ r.1)
