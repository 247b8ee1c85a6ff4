use Rattle.lexer.proofs.Unique.{decided}
use Rattle.lexer.proofs.list.read.Goals as goal

pub returns-then-source-gt-SOURCE_LIMIT-clause-decided : goal.returns-then-source-gt-SOURCE_LIMIT-clause-decided
returns-then-source-gt-SOURCE_LIMIT-clause-decided c = decided c.args.source.now

pub returns-then-tokens-lt-TOKEN_LIMIT-clause-decided : goal.returns-then-tokens-lt-TOKEN_LIMIT-clause-decided
returns-then-tokens-lt-TOKEN_LIMIT-clause-decided c = decided c.args.source.now

pub returns-clause-decided : goal.returns-clause-decided
returns-clause-decided c = decided c.args.source.now
