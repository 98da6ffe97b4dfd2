-- `replay::quick_step` meets its contract: what stands at the start of the slice decides.
use native.Mathlib.Omega.{arith}
use mathlib.Core.Path.{sym, ◌∙◌}
use Rattle.laws.specs.Parts.{stretch}
use Rattle.recording.proofs.Laws.{packet_fits}
use Rattle.replay.specs.Quick.{quick_step_of}
use Rattle.replay.proofs.quick_step.Goals as goal

pub overflow_add-used : goal.overflow_add-used
overflow_add-used c = record { fits = omega (arith, packet_fits _ _ _ (sym c.read.ensures ∙ c.in-Packet.is)) }

pub slice_bounds-insert-end : goal.slice_bounds-insert-end
slice_bounds-insert-end c = packet_fits _ _ _ (sym c.read.ensures ∙ c.in-Packet.is)

pub returns-in-End : goal.returns-in-End
unfolding quick_step_of
returns-in-End c = rw (← c.read.ensures, c.in-End.is)

pub returns-in-Bad : goal.returns-in-Bad
unfolding quick_step_of
returns-in-Bad c = rw (← c.read.ensures, c.in-Bad.is)

pub returns-in-Poll : goal.returns-in-Poll
unfolding quick_step_of
returns-in-Poll c = rw (← c.read.ensures, c.in-Poll.is)

pub returns-in_err-call-in-Packet : goal.returns-in_err-call-in-Packet
unfolding quick_step_of stretch
returns-in_err-call-in-Packet c =
    rw
    (c.from_residual.ensures, ← c.read.ensures, c.in-Packet.is, ← c.insert.ensures, c.in_err-call-in-Packet.was)

pub returns-in_ok-call-in-Packet : goal.returns-in_ok-call-in-Packet
unfolding quick_step_of stretch
returns-in_ok-call-in-Packet c =
    rw (← c.read.ensures, c.in-Packet.is, ← c.insert.ensures, c.in_ok-call-in-Packet.was)
