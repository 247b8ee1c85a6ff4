use Rattle.std.proofs.Common.{ap, ◌∙◌}
use Rattle.stacks.specs.Held.{seen}
use Rattle.translator.specs.Code.{codes_by}
use Rattle.translator.proofs.Emitting.{emit_one, emit_two, by_codes}
use Rattle.translator.proofs.expression.operate.Goals as goal

pub returns-in-Some : goal.returns-in-Some
returns-in-Some c s C b l q =
    by_codes _ C _ _ c.args.place (c.operations-first.ensures s ∙ ap (codes_by c.operations-first.result.0) c.in-Some.is) l
    (λ m. emit_two _ (seen c.emit.new.code) _ C _ _ c.args.place c.emit.ensures c.emit-in-Some.ensures b m q)

pub returns-in_default : goal.returns-in_default
returns-in_default c s C b l q =
    by_codes _ C _ _ c.args.place (c.operations-first.ensures s ∙ ap (codes_by c.operations-first.result.0) c.in_default.is) l
    (λ m. emit_one _ _ C _ c.args.place c.emit.ensures b m q)
