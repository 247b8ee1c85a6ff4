-- The newest element is the last of the first n.
use Rattle.std.proofs.Common.{refl, arith}
use Rattle.stacks.proofs.Fronts.{top-there, one_less}
use Rattle.stacks.proofs.bounded.BoundedStack.pop.Goals as goal

pub returns : goal.returns
returns g c =
    let n = c.args.self.now.len in
    let xs = c.args.self.now.items.now in
    record { answer = top-there xs n (omega arith) _ (omega arith); after = one_less xs n (omega arith); tied = refl }
