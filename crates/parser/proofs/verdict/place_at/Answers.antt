use Rattle.std.proofs.Common.{◌∙◌, Bor, rules}
use Rattle.lexer.specs.declared.kind.Token.{Token}
use Rattle.parser.proofs.Telling.{place_told, end_told}
use Rattle.parser.proofs.verdict.place_at.Goals as goal

pub returns : goal.returns
returns c =
    let h = c.get.ensures.lookup in
    place_told (λ (x : Bor Token). x.now) _ _ _ _ _ _ _ h.3 c.map_or.ensures (λ x q. search rules) (c.unwrap_or-end.ensures ∙ end_told _ _ c.try_from.ensures)
