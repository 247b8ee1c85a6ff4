-- The code is the layout of the tree: faithful where the stack suffices, which the depth limit sees to.
use Rattle.layout.proofs.Compiled.{script_code}
use Rattle.layout.proofs.Deep.{script_needs}
use Rattle.layout.proofs.Scripts.{faithful}
use Rattle.layout.proofs.Size.{script_size}
use Rattle.layout.proofs.laws.scripts_have_faithful_code.Goals as goal

pub returns : goal.returns
returns c = λ s g d h. (script_code s, faithful s h (script_needs s g d h), script_size s)
