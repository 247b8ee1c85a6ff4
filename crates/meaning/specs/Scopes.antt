-- The names in force at a point of a script.
use Rattle.std.specs.Prelude.{ℕ, suc, Bool, true, false, cond, ◌&&◌, ◌||◌, List, [], ◌∷◌, codes, ◌==◌}

-- a function that a script can name
pub data Callee : Type 0 where
  zone columns rows report main : Callee

-- the bytes of its name
abbrev pub callee_name : Callee → List ℕ
callee_name zone = codes "zone"
callee_name columns = codes "columns"
callee_name rows = codes "rows"
callee_name report = codes "report"
callee_name main = codes "main"

-- whether two names have the same bytes
unfoldable pub same_name : List ℕ → List ℕ → Bool
same_name [] [] = true
same_name [] (b ∷ y) = false
same_name (a ∷ x) [] = false
same_name (a ∷ x) (b ∷ y) = a == b && same_name x y

-- One thing in force; X is the type of a variable where a script is checked, and its value where it runs.
pub data Entry (X : Type 0) : Type 0 where
  -- a level begins here: what is newer belongs to it
  level : Entry X
  variable : List ℕ → X → Entry X
  -- the stop of an open `for`, which has no name
  stop : X → Entry X
  function : Callee → Entry X

-- the names in force, the newest first
abbrev pub Names : Type 0 → Type 0
Names X = List (Entry X)

-- what a name means
pub data Meant (X : Type 0) : Type 0 where
  absent : Meant X
  a_variable : X → Meant X
  a_function : Callee → Meant X

-- a name means its innermost definition so far, which is the newest that is still in force
unfoldable pub lookup : {X : Type 0} → List ℕ → Names X → Meant X
lookup x [] = absent
lookup x (level ∷ r) = lookup x r
lookup x (variable y v ∷ r) = cond (same_name x y) (a_variable v) (lookup x r)
lookup x (stop v ∷ r) = lookup x r
lookup x (function f ∷ r) = cond (same_name x (callee_name f)) (a_function f) (lookup x r)

-- whether the newest level has a definition of the name
unfoldable pub defined_here : {X : Type 0} → List ℕ → Names X → Bool
defined_here x [] = false
defined_here x (level ∷ r) = false
defined_here x (variable y v ∷ r) = same_name x y || defined_here x r
defined_here x (stop v ∷ r) = defined_here x r
defined_here x (function f ∷ r) = same_name x (callee_name f) || defined_here x r

-- the cells in use: one for each variable, and one for the stop of each open `for`
unfoldable pub cells : {X : Type 0} → Names X → ℕ
cells [] = 0
cells (level ∷ r) = cells r
cells (variable y v ∷ r) = suc (cells r)
cells (stop v ∷ r) = suc (cells r)
cells (function f ∷ r) = cells r

-- the newest level is left
unfoldable pub leave : {X : Type 0} → Names X → Names X
leave [] = []
leave (level ∷ r) = r
leave (variable y v ∷ r) = leave r
leave (stop v ∷ r) = leave r
leave (function f ∷ r) = leave r

-- the innermost variable of the name has a new value
unfoldable pub assigned : {X : Type 0} → List ℕ → X → Names X → Names X
assigned x v [] = []
assigned x v (level ∷ r) = level ∷ assigned x v r
assigned x v (variable y w ∷ r) = cond (same_name x y) (variable y v ∷ r) (variable y w ∷ assigned x v r)
assigned x v (stop w ∷ r) = stop w ∷ assigned x v r
assigned x v (function f ∷ r) = function f ∷ assigned x v r
