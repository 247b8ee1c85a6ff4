use Rattle.std.proofs.Common.{◌≡◌, ◌+◌, ◌-◌, slice_index_or, pos, refl, arith, w32, SFits, rules}
use Rattle.std.proofs.lemmas.Int.{to_z-of_z}
use Rattle.machine.proofs.Tops.{tops_two}
use Rattle.machine.proofs.memory.Memory.pop_two.Goals as goal

pub returns : goal.returns
returns c =
    let xs = c.args.self.now.values in
    let h = c.args.at.now.height in
    let l : SFits w32 (slice_index_or xs (h - 2) (pos 0)) = search rules in
    let r : SFits w32 (slice_index_or xs (h - 1) (pos 0)) = search rules in
    let i : h - 2 + 1 ≡ h - 1 = omega arith in
    (rw (i, to_z-of_z w32 _ r, to_z-of_z w32 _ l) (tops_two xs h c.if-at-lt2.false), record { position = refl; left = refl }, omega arith)
