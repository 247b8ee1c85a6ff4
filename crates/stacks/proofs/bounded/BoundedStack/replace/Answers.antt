-- One of the first n is replaced, or none.
use Rattle.std.proofs.Common.{refl, arith}
use Rattle.stacks.proofs.Fronts.{replaced-there, replaced_missing}
use Rattle.stacks.proofs.bounded.BoundedStack.replace.Goals as goal

pub returns-then-i-self : goal.returns-then-i-self
returns-then-i-self g c =
    record { after = replaced-there c.args.self.now.items.now c.args.self.now.len (omega arith) c.args.i c.args.x (omega arith); tied = refl }

pub returns-else-i-self : goal.returns-else-i-self
returns-else-i-self g c =
    record { after = replaced_missing c.args.self.now.items.now c.args.self.now.len (omega arith) c.args.i c.args.x (omega arith); tied = refl }
