use Rattle.std.proofs.Common.{sym, ◌∙◌}
use Rattle.parser.proofs.Places.{fits_or_fails}
use Rattle.parser.proofs.Scripts.{constant_go, constant_stop}
use Rattle.parser.proofs.cursor.Cursor.constant.Goals as goal

pub returns : goal.returns
returns c =
    fits_or_fails _ c.pass_if.ensures c.constant_at.ensures.inside (λ h s K. constant_go s _ _ K (c.constant_at.ensures.inside h) (sym h ∙ c.constant_at.ensures.same)) (λ h s K. constant_stop s _ _ K (sym h ∙ c.constant_at.ensures.same))
