use Rattle.std.proofs.Common.{sym, w32, SFits, rules}
use Rattle.std.proofs.lemmas.Int.{to_z-of_z}
use Rattle.stacks.specs.Held.{seen}
use Rattle.translator.proofs.Jumps.{lands_there, lands_nowhere}
use Rattle.translator.proofs.pending.PendingJump.land.Goals as goal

pub returns-in-Some : goal.returns-in-Some
returns-in-Some c =
    let f : SFits w32 c.int.result = search rules in
    lands_there (seen c.args.code.now) (seen c.replace.new.self) c.args.self.at c.args.target c.in-Some.jump c.int.result
    (sym c.in-Some.ensures) c.int.ensures (simp to_z-of_z at c.replace.ensures.after)

pub returns-in_default : goal.returns-in_default
returns-in_default c = lands_nowhere (seen c.args.code.now) c.args.self.at c.args.target (sym c.in_default.ensures)
