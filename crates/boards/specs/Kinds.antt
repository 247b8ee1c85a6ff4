-- The meaning of a board that has zones of its own.
use Rattle.std.specs.Prelude.{ℕ, List, ℤ}
use Rattle.boards.specs.Meaning.{Meaning}
use Rattle.boards.specs.Kept.{board_of}
use Rattle.boards.specs.declared.measured.Measured.{Measured}

-- its zones are what its items make of a grid with its sides
abbrev pub measured_meaning : {Z : Type 0} → (Z → (columns rows : ℕ) → List ℤ) → Measured Z → Meaning
measured_meaning zones s = board_of s.grid.columns s.grid.rows (zones s.zones s.grid.columns s.grid.rows) s.reports
