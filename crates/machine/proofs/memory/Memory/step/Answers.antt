use Rattle.std.proofs.Common.{◌≡◌, ◌<◌, length, pos, Some, sym, refl, ap, ◌∙◌, w32, SFits, rules}
use Rattle.std.proofs.lemmas.Int.{to_z-of_z}
use Rattle.std.proofs.lemmas.Option.{slice_get-get_or}
use Rattle.std.specs.List.{slice_get}
use Rattle.machine.specs.Codes.{code_of, decode}
use Rattle.machine.specs.Steps.{performed}
use Rattle.machine.specs.Views.{state_of}
use Rattle.machine.proofs.Landing.{unknown_code}
use Rattle.machine.proofs.Stepping.{fetched_is, unknown_is}
use Rattle.machine.proofs.memory.Memory.step.Goals as goal

pub returns-in_err-op : goal.returns-in_err-op
returns-in_err-op g c =
    let i = c.in-Some.instruction.now in
    let here : slice_get c.args.code.now c.args.at.now.position ≡ Some i =
    let inside : c.args.at.now.position < length c.args.code.now = search rules in
    slice_get-get_or c.args.code.now c.args.at.now.position i inside ∙ ap Some (sym c.in-Some.ensures.lookup.1) in
    let f : SFits w32 i.code = search rules in
    let n = simp to_z-of_z at c.in_err-op.ensures in
    let r = c.from_residual.ensures in
    unknown_is c.args.code.now c.args.at.now c.args.self.now (g.B.Board.meaning c.args.board.now) i here (unknown_code i.code i.operand n.1) _ r.1

pub returns : goal.returns
returns g c =
    let i = c.in-Some.instruction.now in
    let here : slice_get c.args.code.now c.args.at.now.position ≡ Some i =
    let inside : c.args.at.now.position < length c.args.code.now = search rules in
    slice_get-get_or c.args.code.now c.args.at.now.position i inside ∙ ap Some (sym c.in-Some.ensures.lookup.1) in
    let f : SFits w32 i.code = search rules in
    let k : SFits w32 i.operand = search rules in
    let e = simp to_z-of_z at c.in_ok-op.ensures in
    let u = state_of c.args.self.now c.args.at.now (g.B.Board.meaning c.args.board.now) in
    c.perform.ensures refl
    ∙ ap (λ z. performed c.args.code.now u (decode (pos (code_of c.in_ok-op.op)) z)) (to_z-of_z w32 i.operand k)
    ∙ fetched_is c.args.code.now u i here _ e
