-- The reports of a board that takes one.
use Rattle.std.specs.Prelude.{List, [], ◌∷◌, ℤ, Some, None, Option}

-- no report, or the one that was taken
abbrev pub reports_of : Option ℤ → List ℤ
reports_of None = []
reports_of (Some v) = v ∷ []
