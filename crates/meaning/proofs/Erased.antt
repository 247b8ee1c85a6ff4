-- The names of a run by their types: what the check knows of them.
use Rattle.std.proofs.Common.{◌≡◌, ℕ, Bool, true, false, cond, List, [], ◌∷◌, sym, refl, ap, ◌∙◌, arith}
use Rattle.meaning.specs.declared.operator.Scalar.{Scalar}
use Rattle.meaning.specs.Scopes.{callee_name, same_name, Names, Entry, level, variable, stop, function, Meant, absent, a_variable, a_function, lookup, leave, assigned}
use Rattle.meaning.specs.Values.{Value, value_type}
use Rattle.meaning.specs.Check.{Scope}

abbrev pub erase_entry : Entry Value → Entry Scalar
erase_entry level = level
erase_entry (variable x v) = variable x (value_type v)
erase_entry (stop v) = stop (value_type v)
erase_entry (function f) = function f

abbrev pub erase : Names Value → Scope
erase [] = []
erase (e ∷ r) = erase_entry e ∷ erase r

abbrev pub erase_meant : Meant Value → Meant Scalar
erase_meant absent = absent
erase_meant (a_variable v) = a_variable (value_type v)
erase_meant (a_function f) = a_function f

either_way : (b : Bool) (m n : Meant Value) → cond b (erase_meant m) (erase_meant n) ≡ erase_meant (cond b m n)
either_way true m n = refl
either_way false m n = refl

pub lookup-erase : (x : List ℕ) (ns : Names Value) → lookup x (erase ns) ≡ erase_meant (lookup x ns)
unfolding lookup
lookup-erase x [] = refl
lookup-erase x (level ∷ r) = lookup-erase x r
lookup-erase x (variable y v ∷ r) =
    ap (cond (same_name x y) (a_variable (value_type v))) (lookup-erase x r) ∙ either_way (same_name x y) (a_variable v) (lookup x r)
lookup-erase x (stop v ∷ r) = lookup-erase x r
lookup-erase x (function f ∷ r) =
    ap (cond (same_name x (callee_name f)) (a_function f)) (lookup-erase x r) ∙ either_way (same_name x (callee_name f)) (a_function f) (lookup x r)

pub leave-erase : (ns : Names Value) → erase (leave ns) ≡ leave (erase ns)
unfolding leave
leave-erase [] = refl
leave-erase (level ∷ r) = refl
leave-erase (variable y v ∷ r) = leave-erase r
leave-erase (stop v ∷ r) = leave-erase r
leave-erase (function f ∷ r) = leave-erase r

-- a new value of the old type
pub assigned-erase : (x : List ℕ) (v w : Value) (ns : Names Value) → lookup x ns ≡ a_variable w → value_type v ≡ value_type w →
    erase (assigned x v ns) ≡ erase ns
unfolding lookup assigned
assigned-erase x v w [] e t = refl
assigned-erase x v w (level ∷ r) e t = ap (◌∷◌ level) (assigned-erase x v w r e t)
assigned-erase x v w (variable y u ∷ r) e t = go (same_name x y) e (assigned-erase x v w r)
  where
    go : (b : Bool) → cond b (a_variable u) (lookup x r) ≡ a_variable w → (lookup x r ≡ a_variable w → value_type v ≡ value_type w → erase (assigned x v r) ≡ erase r) →
        erase (cond b (variable y v ∷ r) (variable y u ∷ assigned x v r)) ≡ variable y (value_type u) ∷ erase r
    go true e h = let d : u ≡ w = cc in ap (λ s. variable y s ∷ erase r) (t ∙ ap value_type (sym d))
    go false e h = ap (◌∷◌ (variable y (value_type u))) (h e t)
assigned-erase x v w (stop u ∷ r) e t = ap (◌∷◌ (stop (value_type u))) (assigned-erase x v w r e t)
assigned-erase x v w (function f ∷ r) e t = go (same_name x (callee_name f)) e (assigned-erase x v w r)
  where
    go : (b : Bool) → cond b (a_function f) (lookup x r) ≡ a_variable w → (lookup x r ≡ a_variable w → value_type v ≡ value_type w → erase (assigned x v r) ≡ erase r) →
        ◌≡◌ {A = Scope} (function f ∷ erase (assigned x v r)) (function f ∷ erase r)
    go true e h = let z : ◌≡◌ {A = ℕ} 0 1 = cc in absurd (omega arith)
    go false e h = ap (◌∷◌ (function f)) (h e t)
