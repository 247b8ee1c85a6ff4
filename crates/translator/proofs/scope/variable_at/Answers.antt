-- The record that is found says what the name means.
use Rattle.std.proofs.Common.{take}
use Rattle.std.proofs.lemmas.Result.{err_from_is_err_and}
use Rattle.meaning.specs.Scopes.{cells}
use Rattle.stacks.specs.Held.{seen}
use Rattle.translator.specs.Names.{scope_of}
use Rattle.translator.proofs.Along.{place_is}
use Rattle.translator.proofs.Meant.{absent_variable, a_variable_is, no_variable}
use Rattle.translator.proofs.scope.variable_at.Goals as goal

pub returns-in_err-i : goal.returns-in_err-i
returns-in_err-i c =
    let p = err_from_is_err_and c.from_residual.result c.from_residual.ensures.1 in
    rw (p.1, p.2) (λ x ls h.
    let a = c.in_err-i.ensures x ls h in
    rw a.1 (absent_variable (scope_of c.args.text.now.source.now (seen c.args.names.now).held) x _ a.2 a.0))

pub returns-in-Variable : goal.returns-in-Variable
returns-in-Variable c x ls h =
    let s = c.args.text.now.source.now in
    let ns = (seen c.args.names.now).held in
    a_variable_is (scope_of s ns) x.bytes c.in_ok-i.entry _ (cells (scope_of s (take c.in_ok-i.i ns))) _ c.in-Variable.is (c.in_ok-i.ensures x ls h) (c.cells_in.ensures s)

pub returns-in_default : goal.returns-in_default
returns-in_default c x ls h =
    let s = c.args.text.now.source.now in
    let ns = (seen c.args.names.now).held in
    let q = place_is s c.args.text.now.tokens.now c.args.at _ _ ls c.token_at.ensures.there h in
    rw c.at.ensures (no_variable (scope_of s ns) x _ q c.in_ok-i.entry (cells (scope_of s (take c.in_ok-i.i ns))) c.in_default.not-Variable (c.in_ok-i.ensures x ls h))
