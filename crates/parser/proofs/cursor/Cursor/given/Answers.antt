use Rattle.std.proofs.Common.{sym, ◌∙◌}
use Rattle.parser.proofs.Places.{fits_or_fails}
use Rattle.parser.proofs.Scripts.{result_go, result_stop}
use Rattle.parser.proofs.cursor.Cursor.given.Goals as goal

pub returns : goal.returns
returns c =
    fits_or_fails _ c.pass_if.ensures c.result_at.ensures.inside (λ h s K. result_go s _ _ K (c.result_at.ensures.inside h) (sym h ∙ c.result_at.ensures.same)) (λ h s K. result_stop s _ _ K (sym h ∙ c.result_at.ensures.same))
