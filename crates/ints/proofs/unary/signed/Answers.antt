use Rattle.std.proofs.Common.{◌∙◌, w32, SFits, rules, arith}
use Rattle.std.proofs.lemmas.Int.{to_z-of_z}
use Rattle.ints.proofs.Wraps.{bits_wrapped}
use Rattle.ints.proofs.unary.signed.Goals as goal

pub returns : goal.returns
returns c =
    let f : SFits w32 c.cast_signed.result = search rules in
    to_z-of_z w32 c.cast_signed.result f ∙ c.cast_signed.ensures ∙ bits_wrapped c.args.x (omega arith)
