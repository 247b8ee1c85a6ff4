-- The tests come in the order of the faults.
use Rattle.std.proofs.Common.{◌<◌, ◌≤◌, arith}
use Rattle.meaning.specs.Scopes.{cells}
use Rattle.stacks.specs.Held.{seen}
use Rattle.translator.specs.Names.{scope_of}
use Rattle.translator.proofs.Lexemes.{word_is}
use Rattle.translator.proofs.Meant.{defined_twice, defined_late, defined_new}
use Rattle.translator.proofs.Records.{cells_all}
use Rattle.translator.proofs.define.define.Goals as goal

pub returns-then-defined_here : goal.returns-then-defined_here
returns-then-defined_here c x ls h =
    let s = c.args.text.now.source.now in
    let ns = (seen c.args.names.now).held in
    let n = word_is s c.args.text.now.tokens.now c.args.at _ x ls _ c.token_at-place.ensures.there c.bytes_at-word.ensures.there h in
    rw c.at.ensures (defined_twice (scope_of s ns) _ x _ n.0 n.1 _ c.if-defined_here.ensures)

pub returns-then-cells_in-ge-CELLS : goal.returns-then-cells_in-ge-CELLS
returns-then-cells_in-ge-CELLS c x ls h =
    let s = c.args.text.now.source.now in
    let ns = (seen c.args.names.now).held in
    let n = word_is s c.args.text.now.tokens.now c.args.at _ x ls _ c.token_at-place.ensures.there c.bytes_at-word.ensures.there h in
    let m = cells_all s ns _ _ c.len.ensures (c.cells_in.ensures s) in
    let l : 64 ≤ cells (scope_of s ns) = omega arith in rw c.at-then-cells_in-ge-CELLS.ensures (defined_late (scope_of s ns) _ x _ n.0 n.1 _ c.if-defined_here.ensures l)

pub returns : goal.returns
returns c x ls h =
    let s = c.args.text.now.source.now in
    let ns = (seen c.args.names.now).held in
    let n = word_is s c.args.text.now.tokens.now c.args.at _ x ls _ c.token_at-place.ensures.there c.bytes_at-word.ensures.there h in
    let m = cells_all s ns _ _ c.len.ensures (c.cells_in.ensures s) in
    let l : cells (scope_of s ns) < 64 = omega arith in (defined_new (scope_of s ns) _ x _ n.0 n.1 _ c.if-defined_here.ensures l, c.bind.ensures s x ls h)
