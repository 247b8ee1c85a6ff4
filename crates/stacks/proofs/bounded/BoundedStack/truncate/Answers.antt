-- The oldest of the first n, or all of them.
use Rattle.std.proofs.Common.{refl, arith}
use Rattle.stacks.proofs.Fronts.{cut_short, uncut}
use Rattle.stacks.proofs.bounded.BoundedStack.truncate.Goals as goal

pub returns-then-n-self : goal.returns-then-n-self
returns-then-n-self g c =
    record { after = cut_short c.args.self.now.items.now c.args.self.now.len (omega arith) c.args.n (omega arith); tied = refl }

pub returns-else-n-self : goal.returns-else-n-self
returns-else-n-self g c =
    record { after = uncut c.args.self.now.items.now c.args.self.now.len (omega arith) c.args.n (omega arith); tied = refl }
