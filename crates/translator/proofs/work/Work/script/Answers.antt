use Rattle.std.proofs.lemmas.Result.{err_from_is_err_and}
use Rattle.stacks.specs.Held.{seen}
use Rattle.translator.proofs.Mains.{items_faulty, script_done}
use Rattle.translator.proofs.work.Work.script.Goals as goal

pub returns-in_err-rest : goal.returns-in_err-rest
returns-in_err-rest c =
    let p = err_from_is_err_and c.from_residual.result c.from_residual.ensures.1 in
    rw (p.1, p.2) (λ t h.
    items_faulty c.args.text.now.source.now c.args.text.now.tokens.now (seen c.args.self.now.names) (seen c.enter.new.names) (seen c.args.self.now.jumps) (seen c.args.self.now.code) t h
    (c.enter.ensures c.args.text.now.source.now) (seen c.items.new.names) (seen c.items.new.code) c.in_err-rest.field-0.0 c.in_err-rest.ensures)

pub returns : goal.returns
returns c t h =
    script_done c.args.text.now.source.now c.args.text.now.tokens.now (seen c.args.self.now.names) (seen c.enter.new.names) (seen c.args.self.now.jumps) (seen c.args.self.now.code) t h
    (c.enter.ensures c.args.text.now.source.now) c.in_ok-rest.rest (seen c.items.new.names) (seen c.items.new.code) c.in_ok-rest.ensures
    (seen c.main_rest.new.self.code) c.main_rest.result c.main_rest.ensures
