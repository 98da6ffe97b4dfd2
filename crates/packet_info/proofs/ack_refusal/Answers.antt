-- `packet_info::ack_refusal` meets its contract: the arm that was taken says what the acked code is.
use borrow.Author.Tests.{lt-ltb, le-ltb, ne_eqb}
use Rattle.packet_info.specs.Routing.{ack_refusal}
use Rattle.packet_info.proofs.ack_refusal.Goals as goal

pub returns-then-field-lt2 : goal.returns-then-field-lt2
unfolding ack_refusal
returns-then-field-lt2 c = rw (lt-ltb _ _ c.if-field-lt2.true)

pub returns-in-4 : goal.returns-in-4
unfolding ack_refusal
returns-in-4 c = rw (le-ltb _ _ c.if-field-lt2.false, c.in-4.is)

pub returns-in-5 : goal.returns-in-5
unfolding ack_refusal
returns-in-5 c = rw (le-ltb _ _ c.if-field-lt2.false, c.in-5.is)

pub returns-in_default : goal.returns-in_default
unfolding ack_refusal
returns-in_default c = rw (le-ltb _ _ c.if-field-lt2.false, ne_eqb _ _ c.in_default.in_default-own.rest.0.1, ne_eqb _ _ c.in_default.in_default-own.rest.1)
