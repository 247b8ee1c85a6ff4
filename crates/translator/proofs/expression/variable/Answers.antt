use Rattle.std.proofs.Common.{refl}
use Rattle.std.proofs.lemmas.Result.{err_from_is_err_and}
use Rattle.translator.proofs.Operands.{variable_fault, variable_done, name_stands}
use Rattle.translator.proofs.expression.variable.Goals as goal

pub returns-in_err-found-clause-same : goal.returns-in_err-found-clause-same
returns-in_err-found-clause-same c =
    let p = err_from_is_err_and c.from_residual.result c.from_residual.ensures.1 in
    rw (p.1, p.2) (λ x h. variable_fault x _ _ (c.in_err-found.ensures x _ (name_stands _ _ _ _ _ x h)))

pub returns-clause-same : goal.returns-clause-same
returns-clause-same c x h =
    variable_done _ _ _ _ _ _ x h c.token_at.result c.in_ok-found.found _ (c.token_at.ensures.there c.requires) (c.in_ok-found.ensures x _ (name_stands _ _ _ _ _ x h)) c.emit.ensures refl
