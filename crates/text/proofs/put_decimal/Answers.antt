-- `text::put_decimal` meets its contract: the code is the definition.
use Rattle.text.specs.Text.{decimal}
use Rattle.text.proofs.put_decimal.Goals as goal

pub put_digits-requires : goal.put_digits-requires
unfolding decimal
put_digits-requires c = c.requires

pub returns-clause-appended : goal.returns-clause-appended
unfolding decimal
returns-clause-appended c = c.put_digits.ensures.appended
