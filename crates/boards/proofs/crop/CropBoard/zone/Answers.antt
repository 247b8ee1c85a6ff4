use Rattle.std.proofs.Common.{refl, ◌∙◌, w32, SFits, rules}
use Rattle.std.proofs.lemmas.Result.{err_from_is_err_and}
use Rattle.std.proofs.lemmas.Int.{to_z-of_z}
use Rattle.boards.specs.Crop.{crop_meaning}
use Rattle.boards.proofs.Indices.{zone_there, zone_missing}
use Rattle.boards.proofs.crop.CropBoard.zone.Goals as goal

pub returns-in_err-k-clause-answer : goal.returns-in_err-k-clause-answer
returns-in_err-k-clause-answer g c =
    let fits : SFits w32 c.args.i = c.ranges.i in
    let p = err_from_is_err_and c.from_residual.result c.from_residual.ensures.1 in
    rw (p.1, p.2)
    (zone_missing (crop_meaning g.B.Board.meaning c.args.self.now) _ _ refl c.args.i _ _ (simp to_z-of_z at c.in_err-k.ensures))

pub returns-clause-answer : goal.returns-clause-answer
returns-clause-answer g c =
    let fits : SFits w32 c.args.i = c.ranges.i in
    let back : SFits w32 c.zone_or_0.result = search rules in
    zone_there (crop_meaning g.B.Board.meaning c.args.self.now) _ _ refl c.args.i c.in_ok-k.k _ (simp to_z-of_z at c.in_ok-k.ensures)
    (to_z-of_z w32 c.zone_or_0.result back
    ∙ c.zone_or_0.ensures.value _ (rw c.columns.ensures at c.place-place.ensures))
