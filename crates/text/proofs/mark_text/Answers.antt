-- `text::mark_text` meets its contract: the line was put at the start of zeros.
use Rattle.std.proofs.Common.{rules}
use Rattle.text.proofs.Laws.{text_of_lem}
use Rattle.text.proofs.mark_text.Goals as goal

pub returns : goal.returns
returns c = text_of_lem c.put.ensures.appended (search rules)
