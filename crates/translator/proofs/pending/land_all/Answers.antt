use Rattle.std.proofs.Common.{◌≡◌, ◌<◌, cond, length, sym, arith}
use Rattle.stacks.specs.Held.{seen}
use Rattle.translator.proofs.Jumps.{landing_more, never_empty, landing_done}
use Rattle.translator.proofs.pending.land_all.Goals as goal
use Rattle.translator.proofs.pending.land_all.Goals.{then-jump, else-jump}

pub landing-preserved-in-Some : goal.landing-preserved-in-Some
landing-preserved-in-Some c =
    let j = c.in-Some.jump in
    let K = seen c.landing.jumps in
    let l : c.args.mark < length K.held = omega (arith, c.len.ensures, c.landing-test.true) in
    let t : c.if-jump.target ≡ cond j.leaves c.args.exit c.args.next =
    elim c.if-jump.branch [ then-jump w ↦ rw w.if-jump.true w.target-is | else-jump w ↦ rw w.if-jump.false w.target-is ] in
    landing_more (seen c.args.jumps.now) K (seen c.pop.new.self) (seen c.args.code.now) (seen c.landing.code) (seen c.land.new.code)
    c.args.mark c.args.exit c.args.next c.if-jump.target j c.landing.invariant l (sym c.in-Some.ensures.answer) c.pop.ensures.after t c.land.ensures

pub landing-preserved : goal.landing-preserved
landing-preserved c =
    let K = seen c.landing.jumps in
    let l : c.args.mark < length K.held = omega (arith, c.len.ensures, c.landing-test.true) in
    absurd (never_empty K c.args.mark l (sym c.in_default.ensures.answer))

pub returns : goal.returns
returns c =
    landing_done (seen c.args.jumps.now) (seen c.landing.jumps) (seen c.args.code.now) (seen c.landing.code) c.args.mark c.args.exit c.args.next
    c.landing.invariant (omega (arith, c.len.ensures, c.landing-test.false))
