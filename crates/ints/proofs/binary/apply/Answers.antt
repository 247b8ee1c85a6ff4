use Rattle.std.proofs.Common.{w32, SFits, rules}
use Rattle.std.proofs.lemmas.Int.{wraps}
use Rattle.ints.proofs.Wraps.{quotient_is}
use Rattle.ints.proofs.binary.apply.Goals as goal

pub returns-in-Add : goal.returns-in-Add
returns-in-Add c = search (rules, wraps)

pub returns-in-Sub : goal.returns-in-Sub
returns-in-Sub c = search (rules, wraps)

pub returns-in-Div : goal.returns-in-Div
returns-in-Div c =
    let q = c.wrapping_div.result in
    let f : SFits w32 q = search rules in
    rw c.in-Div.is (quotient_is c.args.l c.args.r q c.ranges.l c.ranges.r f c.if-r-ne0.true c.wrapping_div.ensures)
