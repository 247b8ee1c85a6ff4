use Rattle.std.proofs.Common.{Some, pos, sym, ap, ◌∙◌, arith, w32, rules}
use Rattle.std.proofs.lemmas.Int.{to_z-of_z}
use Rattle.boards.proofs.Tables.{slice_get-table, slice_get-table_past}
use Rattle.boards.proofs.frame.RefSliceU8Zones.zone.Goals as goal

pub returns-then-k-count : goal.returns-then-k-count
returns-then-k-count c = sym (slice_get-table_past _ _ c.args.k (omega arith))

pub returns : goal.returns
returns c =
    ap Some (to_z-of_z w32 c.mean.result (search rules) ∙ c.mean.ensures)
    ∙ sym (slice_get-table _ _ c.args.k (pos 0) (omega arith))
