use Rattle.std.proofs.Common.{sym}
use Rattle.std.proofs.lemmas.Result.{err_from_is_err_and}
use Rattle.translator.proofs.Wholes.{no_call, valued_fault, value-done}
use Rattle.translator.proofs.expression.whole.Goals as goal

pub returns-then-calls_at-clause-same : goal.returns-then-calls_at-clause-same
returns-then-calls_at-clause-same c = c.begun_by_call.ensures.same (sym c.if-calls_at.ensures.same)

pub returns-in_err-typed-clause-same : goal.returns-in_err-typed-clause-same
returns-in_err-typed-clause-same c =
    let p = err_from_is_err_and c.from_residual.result c.from_residual.ensures.1 in
    rw (p.1, p.2) (λ e q ls h u. valued_fault e _ _ _ (no_call _ _ _ _ _ (sym c.if-calls_at.ensures.same) e h) (c.in_err-typed.ensures.same e h))

pub returns-clause-same : goal.returns-clause-same
returns-clause-same c e q ls h u =
    rw c.into.ensures (value-done _ _ _ _ _ (sym c.if-calls_at.ensures.same) e h _ c.in_ok-typed.typed (c.in_ok-typed.ensures.same e h))
