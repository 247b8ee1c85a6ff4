use Rattle.std.proofs.Common.{sym, ◌∙◌}
use Rattle.parser.proofs.Places.{fits_or_fails}
use Rattle.parser.proofs.Expect.{expected, unexpected}
use Rattle.parser.proofs.cursor.Cursor.expect.Goals as goal

pub returns-clause-same : goal.returns-clause-same
returns-clause-same c =
    λ A w. (fits_or_fails _ c.pass_if.ensures c.is.ensures.inside (λ h s K. expected A _ w s _ _ K (sym c.is.ensures.same ∙ h)) (λ h s K. unexpected A _ w s _ _ K (sym c.is.ensures.same ∙ h))).same
