use Rattle.std.proofs.Common.{sym}
use Rattle.std.proofs.lemmas.Result.{err_from_is_err_and}
use Rattle.translator.proofs.Wholes.{begun, begun-fault, call_alone, call_longer, operand_void, operand_tails, valued_fault, valued_fine}
use Rattle.translator.proofs.expression.begun_by_call.Goals as goal

pub returns-in_err-called-clause-same : goal.returns-in_err-called-clause-same
returns-in_err-called-clause-same c =
    let p = err_from_is_err_and c.from_residual.result c.from_residual.ensures.1 in
    rw (p.1, p.2) (λ z e q ls h u. let b = begun _ _ _ _ _ z e h in begun-fault _ _ _ _ _ z e h _ _ b (c.in_err-called.ensures.same _ _ _ b.there))

pub returns-then-is_at-clause-same : goal.returns-then-is_at-clause-same
returns-then-is_at-clause-same c z e q ls h u =
    let b = begun _ _ _ _ _ z e h in
    call_alone _ _ _ _ _ z e h q ls u b _ c.in_ok-called.called (c.in_ok-called.ensures.same _ _ _ b.there) (sym c.if-is_at.ensures.same)

pub returns-in_default-clause-same : goal.returns-in_default-clause-same
returns-in_default-clause-same c z e q ls h u =
    let b = begun _ _ _ _ _ z e h in
    rw c.at.ensures (operand_void _ _ _ _ _ z e h q ls u b _ c.in_ok-called.called (c.in_ok-called.ensures.same _ _ _ b.there) (sym c.if-is_at.ensures.same)
    (c.value.ensures.none c.in_default.is) c.token_at.result (c.token_at.ensures.there c.requires))

pub returns-in_err-typed-clause-same : goal.returns-in_err-typed-clause-same
returns-in_err-typed-clause-same c =
    let p = err_from_is_err_and c.from_residual-in_err-typed.result c.from_residual-in_err-typed.ensures.1 in
    rw (p.1, p.2) (λ z e q ls h u.
    let b = begun _ _ _ _ _ z e h in
    let d = c.in_ok-called.ensures.same _ _ _ b.there in
    let l = call_longer _ _ _ _ _ z e h q ls u b _ c.in_ok-called.called d (sym c.if-is_at.ensures.same) in
    valued_fault e _ _ _ l.valued (c.in_err-typed.ensures.same e (operand_tails _ _ _ _ _ z e h q ls u b _ c.in_ok-called.called d c.in-Some.first c.in-Some.ensures.some)))

pub returns-clause-same : goal.returns-clause-same
returns-clause-same c z e q ls h u =
    let b = begun _ _ _ _ _ z e h in
    let d = c.in_ok-called.ensures.same _ _ _ b.there in
    let l = call_longer _ _ _ _ _ z e h q ls u b _ c.in_ok-called.called d (sym c.if-is_at.ensures.same) in
    let f = c.in_ok-typed.ensures.same e (operand_tails _ _ _ _ _ z e h q ls u b _ c.in_ok-called.called d c.in-Some.first c.in-Some.ensures.some) in
    rw c.into.ensures (valued_fine e _ _ l.valued f.0, f.1, f.2, l.valued.leaves _)
