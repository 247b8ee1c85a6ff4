use Rattle.std.proofs.Common.{◌≡◌, true, ◌∙◌, w32, SFits, rules}
use Rattle.std.proofs.lemmas.Int.{to_z-of_z}
use Rattle.ints.specs.Arith.{is_zero}
use Rattle.machine.proofs.Landing.{no_bits, taken}
use Rattle.machine.proofs.memory.Memory.jump_if_zero.Goals as goal

pub returns : goal.returns
returns c = λ b p.
    let e = c.in_ok-v.ensures in
    let f : SFits w32 c.in_ok-v.v = search rules in
    let g : SFits w32 c.args.to = c.ranges.to in
    let z : is_zero c.in_ok-v.v ≡ true = no_bits c.in_ok-v.v f c.if-v-ne0.false in
    let m = c.args.self.now in
    let j = simp to_z-of_z at (c.jump.ensures m c.args.at.now.height b) in
    rw (← e.1.left) (j ∙ taken c.args.code.now c.args.to c.in_ok-v.v m c.args.at.now.height c.pop.new.at.height c.args.from c.pop.new.at.left b e.0 z)
