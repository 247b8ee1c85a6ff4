-- There is room for one more.
use Rattle.std.proofs.Common.{◌≡◌, length, take, sym, refl, arith, lt-ltb}
use Rattle.std.proofs.lemmas.List.{length-take-le}
use Rattle.stacks.proofs.Fronts.{one_more}
use Rattle.stacks.proofs.bounded.BoundedStack.push.Goals as goal

pub returns-then-self : goal.returns-then-self
returns-then-self g c =
    let n = c.args.self.now.len in
    let xs = c.args.self.now.items.now in
    let s : length (take n xs) ≡ n = length-take-le n xs (omega arith) in
    record { answer = sym (lt-ltb _ _ (omega arith)); after = one_more xs n (omega arith) c.args.x (omega arith); tied = refl }
