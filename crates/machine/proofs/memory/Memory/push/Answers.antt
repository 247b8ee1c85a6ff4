use Rattle.std.proofs.Common.{refl, arith, w32}
use Rattle.std.proofs.lemmas.Int.{to_z-of_z}
use Rattle.machine.proofs.Tops.{room}
use Rattle.machine.proofs.memory.Memory.push.Goals as goal

pub returns : goal.returns
returns c =
    let p = c.put.ensures in
    (rw (room c.args.v c.args.self.now c.args.at.now.height (omega arith), p.cells, p.stack, to_z-of_z w32 c.args.v c.ranges.v) refl, p.level)
