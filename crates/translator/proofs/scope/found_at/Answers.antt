use Rattle.std.proofs.Common.{refl}
use Rattle.stacks.specs.Held.{seen}
use Rattle.translator.proofs.Lexemes.{word_is}
use Rattle.translator.proofs.Meant.{found_as}
use Rattle.translator.proofs.scope.found_at.Goals as goal

pub returns : goal.returns
returns c x ls h =
    let n = word_is c.args.text.now.source.now c.args.text.now.tokens.now c.args.at _ x ls _ c.token_at-place.ensures.there c.bytes_at.ensures.there h in
    rw c.ok_or.ensures.value (found_as c.args.text.now.source.now (seen c.args.names.now).held _ x _ _ n.0 (rw c.at.ensures refl) (rw c.at.ensures n.1) c.find.ensures)
