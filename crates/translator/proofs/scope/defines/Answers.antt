use Rattle.std.proofs.lemmas.Slice.Eq.{slice_eq-Decides}
use Rattle.translator.proofs.Records.{same_name_lem}
use Rattle.translator.proofs.scope.defines.Goals as goal
use Rattle.std.proofs.lemmas.Bool.Decides.{Decides-eqb}

pub returns-in-Variable : goal.returns-in-Variable
returns-in-Variable c =
    let d = slice_eq-Decides Decides-eqb c.args.word.now c.part.result.now c.eq.result c.eq.ensures in
    rw c.in-Variable.is (same_name_lem _ _ _ (rw c.part.ensures at d))
