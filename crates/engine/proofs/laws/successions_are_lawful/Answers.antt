use Rattle.engine.proofs.Lawful.{successions}
use Rattle.engine.proofs.laws.successions_are_lawful.Goals as goal

pub returns : goal.returns
returns c = successions
