use Rattle.std.proofs.lemmas.Slice.Eq.{slice_eq-Decides}
use Rattle.translator.proofs.Records.{same_name_lem}
use Rattle.translator.proofs.scope.is_named.Goals as goal
use Rattle.std.proofs.lemmas.Bool.Decides.{Decides-eqb}

pub returns : goal.returns
returns c =
    let d = slice_eq-Decides Decides-eqb c.args.word.now c.callee_name.result.now c.eq.result c.eq.ensures in
    same_name_lem _ _ _ (rw c.callee_name.ensures at d)
