-- What making a board says, and what it makes.
use Rattle.std.specs.Prelude.{◌≡◌, ℕ, ◌*◌, Bool, cond, ◌&&◌, List, [], ℤ, Ok, Err, Result, ◌==◌, nat_le}
use Rattle.refusal.specs.declared.reason.Refusal.{Refusal}
use Rattle.refusal.specs.Told.{Told, accepted, refused, number_of}
use Rattle.boards.specs.Meaning.{Meaning, Sound}

-- whether a grid may have these sides: 1 to 64 each
abbrev pub sides_fit : (columns rows : ℕ) → Bool
sides_fit c r = nat_le 1 c && nat_le c 64 && nat_le 1 r && nat_le r 64

-- whether so many items make such a grid, where `each` of them make one zone
abbrev pub grid_fits : (columns rows items each : ℕ) → Bool
grid_fits c r n each = sides_fit c r && n == each * (c * r)

-- making a board of its own: 25 for a bad grid, then 26 for an allowance over 64
abbrev pub making_answer : (columns rows items each allowance : ℕ) → Told (Unit {0})
making_answer c r n each a = cond (grid_fits c r n each) (cond (nat_le a 64) (accepted tt) (refused 26 0)) (refused 25 0)

-- a board with no reports
abbrev pub new_board : (columns rows : ℕ) → List ℤ → (allowance : ℕ) → Meaning
new_board c r zs a = record { columns = c; rows = r; zones = zs; reports = []; allowance = a }

-- a making went as it should: it is refused exactly by number and place, and what is made is as said
abbrev pub Made : {X : Type 0} → Result X Refusal → Told (Unit {0}) → (X → Type 0) → Type 0
Made (Ok x) answer Says = (answer ≡ accepted tt) × Says x
Made (Err e) answer Says = answer ≡ refused (number_of e.reason) e.place

-- the meaning of a board that was made: the expected one, and a sound one
abbrev pub Means : (meaning expected : Meaning) → Type 0
Means m expected = (m ≡ expected) × Sound m
