-- `finished::put_number` meets its contract: the number's bytes fit, so they are written.
use mathlib.Core.Path.{◌∙◌}
use Rattle.laws.proofs.Pasting.{written-fits}
use Rattle.numbers.proofs.Laws.{length_big}
use Rattle.finished.proofs.put_number.Goals as goal

pub returns-clause-appended : goal.returns-clause-appended
returns-clause-appended c =
    record {
      ends = rw (length_big, c.bytes.ensures.value);
      bytes = c.write.ensures ∙ written-fits _ _ _ c.requires.fits;
    }
