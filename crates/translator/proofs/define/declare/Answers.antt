-- The tests come in the order of the faults.
use Rattle.std.proofs.Common.{ℕ, List, sym, ap, ◌∙◌}
use Rattle.meaning.specs.Types.{listed}
use Rattle.stacks.specs.Held.{seen}
use Rattle.translator.specs.Names.{callee_of, scope_of, return_of, types_of}
use Rattle.translator.proofs.Lexemes.{word_is}
use Rattle.translator.proofs.Meant.{unlisted, declared_twice, declared_new}
use Rattle.translator.proofs.define.declare.Goals as goal

pub returns-in_default : goal.returns-in_default
returns-in_default c x ls h =
    let s = c.args.text.now.source.now in
    let ns = (seen c.args.names.now).held in
    let n = word_is s c.args.text.now.tokens.now c.args.at _ x ls _ c.token_at-place.ensures.there c.bytes_at-word.ensures.there h in
    rw c.at.ensures (unlisted (scope_of s ns) _ x _ n.0 n.1 (return_of c.args.gives) (types_of c.args.takes) c.in_default.ensures)

pub returns-then-defined_here : goal.returns-then-defined_here
returns-then-defined_here c x ls h =
    let s = c.args.text.now.source.now in
    let ns = (seen c.args.names.now).held in
    let n = word_is s c.args.text.now.tokens.now c.args.at _ x ls _ c.token_at-place.ensures.there c.bytes_at-word.ensures.there h in
    rw c.at-then-defined_here.ensures (declared_twice (scope_of s ns) _ x _ n.0 n.1 (return_of c.args.gives) (types_of c.args.takes) _ c.in-Some.ensures c.if-defined_here.ensures)

pub returns : goal.returns
returns c x ls h =
    let s = c.args.text.now.source.now in
    let ns = (seen c.args.names.now).held in
    let n = word_is s c.args.text.now.tokens.now c.args.at _ x ls _ c.token_at-place.ensures.there c.bytes_at-word.ensures.there h in
    let f = callee_of c.in-Some.callee in
    let e = ap (λ (y : List ℕ). listed y (return_of c.args.gives) (types_of c.args.takes)) n.0 in
    (f, sym e ∙ c.in-Some.ensures, declared_new (scope_of s ns) _ x _ n.0 n.1 f c.if-defined_here.ensures, c.enter.ensures s)
