-- The statements stand after the brace; what they leave is landed and ended.
use Rattle.std.proofs.lemmas.Result.{err_from_is_err_and}
use Rattle.stacks.specs.Held.{seen}
use Rattle.translator.specs.Statements.{held}
use Rattle.translator.proofs.Mains.{main_fault, main_done}
use Rattle.translator.proofs.work.Work.main_rest.Goals as goal

pub returns-in_err-close : goal.returns-in_err-close
returns-in_err-close c =
    let p = err_from_is_err_and c.from_residual.result c.from_residual.ensures.1 in
    rw (p.1, p.2) (λ ss h.
    let s = c.args.text.now.source.now in
    main_fault s c.args.text.now.tokens.now c.args.at (seen c.args.self.now.names) (seen c.enter.new.names) (seen c.enter-2.new.names) (seen c.enter-3.new.names)
    (seen c.args.self.now.jumps) (seen c.args.self.now.code) ss h (c.enter.ensures s) (c.enter-2.ensures s) (c.enter-3.ensures s) c.past.result c.past-body.result c.past.ensures.next
    c.past-body.ensures.next (held c.statements.new.self) _ c.in_err-close.ensures.same)

pub returns : goal.returns
returns c ss h =
    let s = c.args.text.now.source.now in
    main_done s c.args.text.now.tokens.now c.args.at (seen c.args.self.now.names) (seen c.enter.new.names) (seen c.enter-2.new.names) (seen c.enter-3.new.names)
    (seen c.args.self.now.jumps) (seen c.args.self.now.code) ss h (c.enter.ensures s) (c.enter-2.ensures s) (c.enter-3.ensures s) c.past.result c.past-body.result c.past.ensures.next
    c.past-body.ensures.next (held c.statements.new.self) c.in_ok-close.close
    (seen c.land_all.new.jumps) (seen c.land_all.new.code) (seen c.emit.new.code) (seen c.emit-2.new.code) c.token_at-place.result c.in_ok-close.ensures.same
    c.land_all.ensures c.token_at-place.ensures.there c.emit.ensures c.emit-2.ensures
