use Rattle.std.proofs.Common.{◌≡◌, true, sym, refl}
use Rattle.boards.specs.Crop.{lies_in}
use Rattle.boards.proofs.Crops.{shows_sound}
use Rattle.boards.proofs.crop.Crop.new.Goals as goal

pub returns-then-lies_in : goal.returns-then-lies_in
returns-then-lies_in g c =
    let m = g.B.Board.meaning c.args.lower in
    let lies : lies_in c.args.window m.columns m.rows ≡ true
    = rw (c.columns.ensures, c.rows.ensures) at (sym c.if-lies_in.ensures) in
    (rw lies refl, refl, refl, refl, shows_sound m c.args.window lies)
