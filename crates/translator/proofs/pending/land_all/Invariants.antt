use Rattle.std.proofs.Common.{length}
use Rattle.stacks.specs.Held.{seen}
use Rattle.translator.specs.Code.{LandsOn}
use Rattle.translator.proofs.pending.land_all.Given as goal

abbrev pub invariant-landing : goal.invariant-landing
invariant-landing l = LandsOn (seen l.initial.jumps) (seen l.initial.code) l.mark l.exit l.next (seen l.jumps) (seen l.code)

abbrev pub decreases-landing : goal.decreases-landing
decreases-landing l = length (seen l.jumps).held
