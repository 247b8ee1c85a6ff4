use Rattle.std.proofs.Common.{ap}
use Rattle.lexer.proofs.Filling.{filling_none}
use Rattle.lexer.proofs.list.fill.Goals as goal

pub tokens-init : goal.tokens-init
tokens-init c =
    filling_none c.args.source.now c.args.tokens.now c.new-reader.result (ap (λ q. q.now) c.new-reader.ensures.source) c.new-reader.ensures.at c.new-reader.ensures.state
