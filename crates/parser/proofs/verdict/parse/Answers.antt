use Rattle.std.proofs.Common.{length, rules}
use Rattle.parser.proofs.Telling.{verdict_told, one-verdict}
use Rattle.parser.proofs.verdict.parse.Goals as goal

pub returns-clause-verdict : goal.returns-clause-verdict
returns-clause-verdict c = verdict_told _ (length c.args.source.now) c.whole.result c.map_err.result c.whole.ensures c.map_err.ensures.cases (λ f x q. search rules)

pub returns-clause-only : goal.returns-clause-only
returns-clause-only c = one-verdict
