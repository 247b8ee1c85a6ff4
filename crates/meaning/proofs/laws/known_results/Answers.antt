-- Every result is computed by the definitions.
use Rattle.meaning.proofs.Samples as samples
use Rattle.meaning.proofs.laws.known_results.Goals as goal

pub returns : goal.returns
returns c = samples.known_results
