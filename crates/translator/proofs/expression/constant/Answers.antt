use Rattle.std.proofs.Common.{refl, w32, SFits, rules}
use Rattle.std.proofs.lemmas.Int.{to_z-of_z}
use Rattle.translator.proofs.Operands.{constant_done}
use Rattle.translator.proofs.expression.constant.Goals as goal

pub returns-clause-same : goal.returns-clause-same
returns-clause-same c s Γ k h =
    let f : SFits w32 c.literal_of-literal.result.value = search rules in
    constant_done s _ _ Γ _ _ k h c.token_at-token.result c.literal_of-literal.result _ (c.token_at-token.ensures.there c.requires) c.literal_of-literal.ensures (simp to_z-of_z at c.emit_constant.ensures) refl
