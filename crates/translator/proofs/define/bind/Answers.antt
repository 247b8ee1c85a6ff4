use Rattle.std.proofs.Common.{ℕ, List, refl, ap}
use Rattle.meaning.specs.Scopes.{variable}
use Rattle.stacks.specs.Held.{seen}
use Rattle.translator.proofs.Lexemes.{name_is}
use Rattle.translator.proofs.Records.{enters}
use Rattle.translator.proofs.define.bind.Goals as goal

pub returns : goal.returns
returns c s x ls h =
    let n = name_is s c.args.text.now.tokens.now c.args.at c.token_at-token.result x ls _ c.token_at-token.ensures.there refl h in
    enters s (seen c.args.names.now) _ _ _ c.push.ensures.after (ap (λ (y : List ℕ). variable y c.args.kind) n.0)
