-- The record that is found says what the name means.
use Rattle.std.proofs.Common.{take, refl}
use Rattle.std.proofs.lemmas.Result.{err_from_is_err_and}
use Rattle.meaning.specs.Scopes.{cells}
use Rattle.stacks.specs.Held.{seen}
use Rattle.translator.specs.Names.{scope_of}
use Rattle.translator.proofs.Along.{place_is}
use Rattle.translator.proofs.Meant.{absent_callee, callee_as}
use Rattle.translator.proofs.scope.callee_at.Goals as goal

pub returns-in_err-entry : goal.returns-in_err-entry
returns-in_err-entry c =
    let p = err_from_is_err_and c.from_residual.result c.from_residual.ensures.1 in
    rw (p.1, p.2) (λ x ls h.
    let a = c.in_err-entry.ensures x ls h in
    rw a.1 (absent_callee (scope_of c.args.text.now.source.now (seen c.args.names.now).held) x _ a.2 a.0))

pub returns : goal.returns
returns c x ls h =
    let s = c.args.text.now.source.now in
    let ns = (seen c.args.names.now).held in
    let q = place_is s c.args.text.now.tokens.now c.args.at _ _ ls c.token_at.ensures.there h in
    rw c.ok_or.ensures.value
    (callee_as (scope_of s ns) x c.in_ok-entry.entry (cells (scope_of s (take c.in_ok-entry.field-0-0 ns))) _ _ c.callable.ensures (rw c.at.ensures refl) (rw c.at.ensures q)
    (c.in_ok-entry.ensures x ls h))
