use Rattle.std.proofs.Common.{◌<◌, length, refl, w32, rules}
use Rattle.std.proofs.lemmas.Int.{to_z-of_z}
use Rattle.machine.proofs.Tops.{tops_push}
use Rattle.machine.proofs.memory.Memory.put.Goals as goal

pub returns : goal.returns
returns c =
    let xs = c.args.self.now.values in
    let h = c.args.at.now.height in
    let inside : h < length xs = search rules in
    record { cells = refl; stack = rw (to_z-of_z w32 c.args.v c.ranges.v) (tops_push xs h c.args.v inside); level = record { position = refl; left = refl } }
