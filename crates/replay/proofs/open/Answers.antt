-- `replay::open` meets its contract: the header decides, and a header that is not bad has a configuration that is not broken.
use mathlib.Core.Path.{ap}
use Rattle.std.specs.Prelude.{is_ok}
use Rattle.codes.proofs.Refusals.{ok_tells, ok_when}
use Rattle.recording.proofs.Said.{said_bad, said_good, said_sound}
use Rattle.replay.specs.Replay.{start_of, opened_of}
use Rattle.replay.proofs.Output.{opened}
use Rattle.replay.proofs.open.Goals as goal

pub returns-in_default-clause-value : goal.returns-in_default-clause-value
unfolding opened_of
returns-in_default-clause-value c = rw (c.bad_text.ensures, said_bad _ c.read.ensures c.in_default.is)

pub returns-in_default-clause-prints : goal.returns-in_default-clause-prints
returns-in_default-clause-prints c = (opened _ _ (returns-in_default-clause-value c)).1

pub unwrap-state-requires : goal.unwrap-state-requires
unwrap-state-requires c = ap is_ok (ok_when _ _ _ c.fresh.ensures (rw (said_sound _ c.read.ensures c.in-Some.is)))

pub returns-clause-value : goal.returns-clause-value
unfolding opened_of start_of
returns-clause-value c =
    let said = said_good _ c.read.ensures c.in-Some.is in
    let made = (ok_tells _ _ _ _ c.fresh.ensures c.unwrap-state.ensures).1 in
    rw (c.mark_text.ensures, c.none.ensures, made, said.0, said.1)

pub returns-clause-prints : goal.returns-clause-prints
returns-clause-prints c = (opened _ _ (returns-clause-value c)).1
