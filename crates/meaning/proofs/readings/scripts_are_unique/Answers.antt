use Rattle.meaning.proofs.Once.{reads_once}
use Rattle.meaning.proofs.readings.scripts_are_unique.Goals as goal

pub returns : goal.returns
returns c = reads_once
