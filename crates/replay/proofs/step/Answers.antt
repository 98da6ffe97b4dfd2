-- `replay::step` meets its contract: what stands at the start of the slice decides.
use native.Mathlib.Omega.{arith}
use mathlib.Core.Path.{sym, ◌∙◌}
use Rattle.laws.specs.Parts.{stretch}
use Rattle.recording.proofs.Laws.{packet_fits}
use Rattle.replay.specs.Replay.{step_of, after_call}
use Rattle.replay.proofs.Output.{stepped}
use Rattle.replay.proofs.step.Goals as goal

pub overflow_add-end : goal.overflow_add-end
overflow_add-end c = record { fits = omega (arith, packet_fits _ _ _ (sym c.read-read.ensures ∙ c.in-Packet.is)) }

pub slice_bounds-pdu-end : goal.slice_bounds-pdu-end
slice_bounds-pdu-end c = packet_fits _ _ _ (sym c.read-read.ensures ∙ c.in-Packet.is)

pub returns-in-End-clause-out_after : goal.returns-in-End-clause-out_after
unfolding step_of
returns-in-End-clause-out_after c = rw (← c.read-read.ensures, c.in-End.is, c.no_text.ensures)

pub returns-in-Bad-clause-out_after : goal.returns-in-Bad-clause-out_after
unfolding step_of
returns-in-Bad-clause-out_after c = rw (← c.read-read.ensures, c.in-Bad.is, c.bad_text.ensures)

pub returns-in-Poll-clause-out_after : goal.returns-in-Poll-clause-out_after
unfolding step_of after_call
returns-in-Poll-clause-out_after c = rw (← c.read-read.ensures, c.in-Poll.is, ← c.poll-c.ensures, c.after_call.ensures)

pub returns-in-Packet-clause-out_after : goal.returns-in-Packet-clause-out_after
unfolding step_of after_call stretch
returns-in-Packet-clause-out_after c =
    rw (← c.read-read.ensures, c.in-Packet.is, ← c.insert-c.ensures, c.after_call-in-Packet.ensures, c.data_bytes.ensures)

pub returns-in-End-clause-prints : goal.returns-in-End-clause-prints
returns-in-End-clause-prints c = (stepped _ _ _ _ _ (returns-in-End-clause-out_after c)).1

pub returns-in-Bad-clause-prints : goal.returns-in-Bad-clause-prints
returns-in-Bad-clause-prints c = (stepped _ _ _ _ _ (returns-in-Bad-clause-out_after c)).1

pub returns-in-Poll-clause-prints : goal.returns-in-Poll-clause-prints
returns-in-Poll-clause-prints c = (stepped _ _ _ _ _ (returns-in-Poll-clause-out_after c)).1

pub returns-in-Packet-clause-prints : goal.returns-in-Packet-clause-prints
returns-in-Packet-clause-prints c = (stepped _ _ _ _ _ (returns-in-Packet-clause-out_after c)).1
