use Rattle.std.proofs.Common.{[], ◌∙◌}
use Rattle.parser.proofs.Scripts.{all_read, text_left}
use Rattle.parser.proofs.script.whole.Goals as goal

pub returns-then-end : goal.returns-then-end
returns-then-end c = rw c.unexpected.ensures (c.in_ok-end.ensures.same [] ∙ text_left _ _ _ c.if-end.true)

pub returns-else-end : goal.returns-else-end
returns-else-end c = c.in_ok-end.ensures.same [] ∙ all_read _ _ _ c.if-end.false
