-- How the machine's cells hold the names of a run: the k-th cell that was taken holds the k-th variable or stop.
use Rattle.std.proofs.Common.{◌≡◌, ℕ, suc, ◌<◌, ◌≤◌, Bool, true, false, cond, ◌≢◌, List, [], ◌∷◌, length, get_or, set, ℤ, pos, refl, ap, ◌∙◌, arith, get_or-set_other, get_or-set_same}
use Rattle.meaning.specs.Scopes.{callee_name, same_name, Names, level, variable, stop, function, a_variable, a_function, lookup, leave, assigned, cells}
use Rattle.meaning.specs.Values.{Value}
use Rattle.meaning.proofs.Erased.{erase}
use Rattle.layout.proofs.Compiled.{held, cell_of}

abbrev pub Holds : Names Value → List ℤ → Type 0
Holds [] c = Unit {0}
Holds (level ∷ r) c = Holds r c
Holds (variable x v ∷ r) c = (get_or c (cells r) (pos 0) ≡ held v) × Holds r c
Holds (stop v ∷ r) c = (get_or c (cells r) (pos 0) ≡ held v) × Holds r c
Holds (function f ∷ r) c = Holds r c

pub cells-erase : (ns : Names Value) → cells (erase ns) ≡ cells ns
unfolding cells
cells-erase [] = refl
cells-erase (level ∷ r) = cells-erase r
cells-erase (variable x v ∷ r) = ap suc (cells-erase r)
cells-erase (stop v ∷ r) = ap suc (cells-erase r)
cells-erase (function f ∷ r) = cells-erase r

pub cell_of-erase : (x : List ℕ) (ns : Names Value) → cell_of x (erase ns) ≡ cell_of x ns
unfolding cell_of
cell_of-erase x [] = refl
cell_of-erase x (level ∷ r) = cell_of-erase x r
cell_of-erase x (variable y v ∷ r) = rw (cells-erase r, cell_of-erase x r) refl
cell_of-erase x (stop v ∷ r) = cell_of-erase x r
cell_of-erase x (function f ∷ r) = cell_of-erase x r

-- the cell of a variable that a name means
pub record Cell (x : List ℕ) (v : Value) (ns : Names Value) (c : List ℤ) : Type 0 where
  pub value : get_or c (cell_of x ns) (pos 0) ≡ held v
  pub inside : cell_of x ns < cells ns

pub holds-lookup : (x : List ℕ) (v : Value) (ns : Names Value) (c : List ℤ) → Holds ns c → lookup x ns ≡ a_variable v → Cell x v ns c
unfolding lookup cell_of cells
holds-lookup x v [] c h e = let z : ◌≡◌ {A = ℕ} 0 1 = cc in absurd (omega arith)
holds-lookup x v (level ∷ r) c h e = let i = holds-lookup x v r c h e in record { value = i.value; inside = i.inside }
holds-lookup x v (variable y w ∷ r) c h e = go (same_name x y) refl e (holds-lookup x v r c h.1)
  where
    go : (b : Bool) → same_name x y ≡ b → cond b (a_variable w) (lookup x r) ≡ a_variable v → (lookup x r ≡ a_variable v → Cell x v r c) → Cell x v (variable y w ∷ r) c
    go true s e i = let d : w ≡ v = cc in record { value = rw s (h.0 ∙ ap held d); inside = rw s (omega arith) }
    go false s e i = let k = i e in record { value = rw s k.value; inside = rw s (omega (arith, k.inside)) }
holds-lookup x v (stop w ∷ r) c h e =
    let i = holds-lookup x v r c h.1 e in record { value = i.value; inside = omega (arith, i.inside) }
holds-lookup x v (function f ∷ r) c h e = go (same_name x (callee_name f)) e (holds-lookup x v r c h)
  where
    go : (b : Bool) → cond b (a_function f) (lookup x r) ≡ a_variable v → (lookup x r ≡ a_variable v → Cell x v r c) → Cell x v (function f ∷ r) c
    go true e i = let z : ◌≡◌ {A = ℕ} 0 1 = cc in absurd (omega arith)
    go false e i = let k = i e in record { value = k.value; inside = k.inside }

-- a cell that is not in use can be written
pub holds_beyond : (ns : Names Value) (c : List ℤ) (k : ℕ) (z : ℤ) → cells ns ≤ k → Holds ns c → Holds ns (set c k z)
unfolding cells
holds_beyond [] c k z l h = tt
holds_beyond (level ∷ r) c k z l h = holds_beyond r c k z l h
holds_beyond (variable x v ∷ r) c k z l h =
    let n : cells r ≢ k = omega arith in (get_or-set_other c k (cells r) z (pos 0) n ∙ h.0, holds_beyond r c k z (omega arith) h.1)
holds_beyond (stop v ∷ r) c k z l h =
    let n : cells r ≢ k = omega arith in (get_or-set_other c k (cells r) z (pos 0) n ∙ h.0, holds_beyond r c k z (omega arith) h.1)
holds_beyond (function f ∷ r) c k z l h = holds_beyond r c k z l h

-- a new variable takes the next cell
pub holds_new : (x : List ℕ) (v : Value) (ns : Names Value) (c : List ℤ) → cells ns < length c → Holds ns c → Holds (variable x v ∷ ns) (set c (cells ns) (held v))
holds_new x v ns c l h = (get_or-set_same c (cells ns) (held v) (pos 0) l, holds_beyond ns c (cells ns) (held v) (omega arith) h)

-- an assignment takes no cell
cells-assigned : (x : List ℕ) (v : Value) (ns : Names Value) → cells (assigned x v ns) ≡ cells ns
unfolding cells assigned
cells-assigned x v [] = refl
cells-assigned x v (level ∷ r) = cells-assigned x v r
cells-assigned x v (variable y w ∷ r) = go (same_name x y) (cells-assigned x v r)
  where
    go : (b : Bool) → cells (assigned x v r) ≡ cells r → cells (cond b (variable y v ∷ r) (variable y w ∷ assigned x v r)) ≡ suc (cells r)
    go true i = refl
    go false i = ap suc i
cells-assigned x v (stop w ∷ r) = ap suc (cells-assigned x v r)
cells-assigned x v (function f ∷ r) = cells-assigned x v r

-- an assignment writes the variable's cell
pub holds-assigned : (x : List ℕ) (v w : Value) (ns : Names Value) (c : List ℤ) → cells ns ≤ length c → Holds ns c → lookup x ns ≡ a_variable w →
    Holds (assigned x v ns) (set c (cell_of x ns) (held v))
unfolding lookup assigned cell_of cells
holds-assigned x v w [] c l h e = tt
holds-assigned x v w (level ∷ r) c l h e = holds-assigned x v w r c l h e
holds-assigned x v w (variable y u ∷ r) c l h e = go (same_name x y) e (holds-assigned x v w r c (omega arith) h.1)
  where
    go : (b : Bool) → cond b (a_variable u) (lookup x r) ≡ a_variable w → (lookup x r ≡ a_variable w → Holds (assigned x v r) (set c (cell_of x r) (held v))) →
        Holds (cond b (variable y v ∷ r) (variable y u ∷ assigned x v r)) (set c (cond b (cells r) (cell_of x r)) (held v))
    go true e i = holds_new y v r c (omega arith) h.1
    go false e i =
        let k = holds-lookup x w r c h.1 e in
        let n : cells r ≢ cell_of x r = omega (arith, k.inside) in
        (rw (cells-assigned x v r) (get_or-set_other c (cell_of x r) (cells r) (held v) (pos 0) n ∙ h.0), i e)
holds-assigned x v w (stop u ∷ r) c l h e =
    let k = holds-lookup x w r c h.1 e in
    let n : cells r ≢ cell_of x r = omega (arith, k.inside) in
    (rw (cells-assigned x v r) (get_or-set_other c (cell_of x r) (cells r) (held v) (pos 0) n ∙ h.0), holds-assigned x v w r c (omega arith) h.1 e)
holds-assigned x v w (function f ∷ r) c l h e = go (same_name x (callee_name f)) e (holds-assigned x v w r c l h)
  where
    go : (b : Bool) → cond b (a_function f) (lookup x r) ≡ a_variable w → (lookup x r ≡ a_variable w → Holds (assigned x v r) (set c (cell_of x r) (held v))) →
        Holds (assigned x v r) (set c (cell_of x r) (held v))
    go true e i = let z : ◌≡◌ {A = ℕ} 0 1 = cc in absurd (omega arith)
    go false e i = i e

-- leaving a level gives cells back and changes none
pub holds-leave : (ns : Names Value) (c : List ℤ) → Holds ns c → Holds (leave ns) c
unfolding leave
holds-leave [] c h = tt
holds-leave (level ∷ r) c h = h
holds-leave (variable x v ∷ r) c h = holds-leave r c h.1
holds-leave (stop v ∷ r) c h = holds-leave r c h.1
holds-leave (function f ∷ r) c h = holds-leave r c h
