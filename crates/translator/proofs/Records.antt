-- The names that records put in force, one record after another.
use Rattle.std.proofs.Common.{◌≡◌, ℕ, zero, suc, ◌+◌, ◌-◌, ◌<◌, ◌≤◌, get_or, Bool, true, false, cond, ◌||◌, ltb, List, [], ◌∷◌, ◌++◌, length, take, count_by, Some, None, Decides, sym, refl, ap, ◌∙◌, arith, lt-ltb}
use native.Mathlib.Numerals.{unary_clauses}
use Rattle.std.proofs.lemmas.Slice.Eq.{IsBytesEq, compares_Decides}
use Rattle.std.proofs.lemmas.List.{reverse-append, reverse-reverse, take_all, take_more}
use Rattle.std.proofs.lemmas.Bool.Decides.{same_from_decides}
use Rattle.std.proofs.lemmas.List.Sums.{length-filter, sum_by-cons}
use Rattle.std.specs.List.{slice_get, filter, list_any, prefix_len}
use Rattle.std.proofs.lemmas.Option.{slice_get_within, get_or_from_slice_get}
use mathlib.Core.List.{reverse}
use Rattle.meaning.specs.declared.operator.Scalar.{Scalar}
use Rattle.meaning.specs.Check.{Scope}
use Rattle.meaning.specs.Scopes.{same_name, lookup, defined_here, cells}
use Rattle.meaning.specs.Scopes as Scopes
use Rattle.layout.proofs.Compiled.{cell_of}
use Rattle.stacks.specs.Held.{Held, holding, pushed}
use Rattle.translator.specs.declared.name.Name.{Name}
use Rattle.translator.specs.declared.name.Entry.{Entry}
use Rattle.translator.specs.declared.name.Entry.TheVariants.{Level, Variable, Stop, Function}
use Rattle.translator.specs.Names.{entry_as, entry_of, stacked, scope_of, defining, Says, Finds, Enters}

-- a test of equal bytes tells whether two names are the same
compares_names : IsBytesEq same_name
unfolding same_name
compares_names = record { empty = refl; shorter = λ y ys. refl; longer = λ x xs. refl; heads = λ x y xs ys. refl }

pub same_name_lem : (x y : List ℕ) (r : Bool) → Decides r (x ≡ y) → r ≡ same_name x y
same_name_lem x y r d = same_from_decides r (same_name x y) d (compares_Decides same_name compares_names x y)

-- The newest record puts its entry in force, on top of what the older ones do.

pub stacked_more : (s : List ℕ) (ns : List Name) (n : Name) (Γ : Scope) → stacked s (ns ++ (n ∷ [])) Γ ≡ entry_of s n ∷ stacked s ns Γ
unfolding stacked
stacked_more s [] n Γ = refl
stacked_more s (m ∷ ns) n Γ = stacked_more s ns n (entry_of s m ∷ Γ)

scope_next : (s : List ℕ) (ns : List Name) (i : ℕ) (d : Name) → i < length ns → scope_of s (take (i + 1) ns) ≡ entry_of s (get_or ns i d) ∷ scope_of s (take i ns)
scope_next s ns i d h = ap (scope_of s) (take_more ns i d h) ∙ stacked_more s (take i ns) _ []

pub scope_more : (s : List ℕ) (ns : List Name) (i j : ℕ) → j ≡ i + 1 → (n : Name) → Some n ≡ slice_get ns i → scope_of s (take j ns) ≡ entry_of s n ∷ scope_of s (take i ns)
scope_more s ns i j k n e =
    rw k (scope_next s ns i n (slice_get_within ns i n (sym e)) ∙ ap (λ (m : Name). entry_of s m ∷ scope_of s (take i ns)) (get_or_from_slice_get ns i n n (sym e)))

take_past : (ns : List Name) (i : ℕ) → slice_get ns i ≡ None → take (i + 1) ns ≡ take i ns
take_past [] zero e = refl
take_past [] (suc i) e = simp unary_clauses refl
take_past (m ∷ ns) zero e = let z : ◌≡◌ {A = ℕ} 0 1 = cc in absurd (omega arith)
take_past (m ∷ ns) (suc i) e = simp unary_clauses (ap (λ (l : List Name). m ∷ l) (simp unary_clauses at (take_past ns i e)))

pub scope_past : (s : List ℕ) (ns : List Name) (i j : ℕ) → j ≡ i + 1 → None ≡ slice_get ns i → scope_of s (take j ns) ≡ scope_of s (take i ns)
scope_past s ns i j k e = rw k (ap (scope_of s) (take_past ns i (sym e)))

-- Looking a name up, past an entry that does not define it.

lookup-past : (x : List ℕ) (e : Scopes.Entry Scalar) (Γ : Scope) → defining x e ≡ false → lookup x (e ∷ Γ) ≡ lookup x Γ
unfolding lookup
lookup-past x Scopes.level Γ h = refl
lookup-past x (Scopes.variable y t) Γ h = rw h refl
lookup-past x (Scopes.stop t) Γ h = refl
lookup-past x (Scopes.function f) Γ h = rw h refl

cell_past : (x : List ℕ) (e : Scopes.Entry Scalar) (Γ : Scope) → defining x e ≡ false → cell_of x (e ∷ Γ) ≡ cell_of x Γ
unfolding cell_of
cell_past x Scopes.level Γ h = refl
cell_past x (Scopes.variable y t) Γ h = rw h refl
cell_past x (Scopes.stop t) Γ h = refl
cell_past x (Scopes.function f) Γ h = refl

-- an entry that defines it says what it means
found : (e : Entry) (x y : List ℕ) (Γ : Scope) → defining x (entry_as e y) ≡ true → Says e x (entry_as e y ∷ Γ) (cells Γ)
unfolding lookup cell_of
found Level x y Γ h = let z : ◌≡◌ {A = ℕ} 0 1 = cc in absurd (omega arith)
found (Variable t) x y Γ h = (rw h refl, rw h refl)
found Stop x y Γ h = let z : ◌≡◌ {A = ℕ} 0 1 = cc in absurd (omega arith)
found (Function f) x y Γ h = rw h refl

-- what one scope says, another with the same answers does
said : (e : Entry) (x : List ℕ) (Γ Δ : Scope) (c : ℕ) → lookup x Γ ≡ lookup x Δ → cell_of x Γ ≡ cell_of x Δ → Says e x Δ c → Says e x Γ c
said Level x Γ Δ c p q h = h
said (Variable t) x Γ Δ c p q h = (p ∙ h.0, q ∙ h.1)
said Stop x Γ Δ c p q h = h
said (Function f) x Γ Δ c p q h = p ∙ h

-- The records from i on do not define a name: the older ones say what all of them do.
pub record Unnamed (s : List ℕ) (ns : List Name) (x : List ℕ) (i : ℕ) : Type 0 where
  pub means : lookup x (scope_of s ns) ≡ lookup x (scope_of s (take i ns))
  pub cell : cell_of x (scope_of s ns) ≡ cell_of x (scope_of s (take i ns))

module _ (s : List ℕ) (ns : List Name) (x : List ℕ) where
  pub unnamed_none : Unnamed s ns x (length ns)
  unnamed_none = let a : take (length ns) ns ≡ ns = take_all (length ns) ns (omega arith) in record { means = rw a refl; cell = rw a refl }

  unnamed_by : (i j : ℕ) (Γ : Scope) → scope_of s (take j ns) ≡ Γ → lookup x Γ ≡ lookup x (scope_of s (take i ns)) → cell_of x Γ ≡ cell_of x (scope_of s (take i ns)) → Unnamed s ns x j → Unnamed s ns x i
  unnamed_by i j Γ e p q u = record { means = u.means ∙ ap (lookup x) e ∙ p; cell = u.cell ∙ ap (cell_of x) e ∙ q }

  pub unnamed_past : (i j : ℕ) → j ≡ i + 1 → None ≡ slice_get ns i → Unnamed s ns x j → Unnamed s ns x i
  unnamed_past i j k e u = unnamed_by i j _ (scope_past s ns i j k e) refl refl u

  pub unnamed_more : (i j : ℕ) → j ≡ i + 1 → (n : Name) → Some n ≡ slice_get ns i → false ≡ defining x (entry_of s n) → Unnamed s ns x j → Unnamed s ns x i
  unnamed_more i j k n e h u =
      unnamed_by i j _ (scope_more s ns i j k n e) (lookup-past x (entry_of s n) _ (sym h)) (cell_past x (entry_of s n) _ (sym h)) u

  pub unnamed_finds_some : (i j : ℕ) → j ≡ i + 1 → (n : Name) → Some n ≡ slice_get ns i → true ≡ defining x (entry_of s n) → Unnamed s ns x j → Finds s ns x (Some (i, n.entry))
  unnamed_finds_some i j k n e h u =
      let f : scope_of s (take j ns) ≡ entry_of s n ∷ scope_of s (take i ns) = scope_more s ns i j k n e in
      said n.entry x _ _ _ (u.means ∙ ap (lookup x) f) (u.cell ∙ ap (cell_of x) f) (found n.entry x _ _ (sym h))

  pub unnamed_finds_none : Unnamed s ns x 0 → Finds s ns x None
  unfolding stacked lookup
  unnamed_finds_none u = u.means

module _ (s : List ℕ) (ns : List Name) (x : List ℕ) (d : Name) where
  -- no record from here on defines the name; d stands for a record past the newest
  abbrev pub Misses : ℕ → Type 0
  Misses i = (k : ℕ) → i ≤ k → k < length ns → false ≡ defining x (entry_of s (get_or ns k d))

  unnamed : (m i : ℕ) → i + m ≡ length ns → Misses i → Unnamed s ns x i
  unnamed zero i e h = let a : take i ns ≡ ns = take_all i ns (omega (arith, e)) in record { means = rw a refl; cell = rw a refl }
  unnamed (suc m) i e h =
      let lt : i < length ns = omega (arith, e) in
      let f : false ≡ defining x (entry_of s (get_or ns i d)) = h i (omega arith) lt in
      let g : scope_of s (take (i + 1) ns) ≡ entry_of s (get_or ns i d) ∷ scope_of s (take i ns) = scope_next s ns i d lt in
      let u : Unnamed s ns x (i + 1) = unnamed m (i + 1) (omega (arith, e)) (λ k l. h k (omega (arith, l))) in
      record {
        means = u.means ∙ ap (lookup x) g ∙ lookup-past x _ _ (sym f);
        cell = u.cell ∙ ap (cell_of x) g ∙ cell_past x _ _ (sym f);
      }

  pub finds_none : Misses 0 → Finds s ns x None
  unfolding stacked lookup
  finds_none h = (unnamed (length ns) 0 (omega arith) h).means

  pub finds_some : (i : ℕ) → i < length ns → true ≡ defining x (entry_of s (get_or ns i d)) → Misses (i + 1) → Finds s ns x (Some (i, (get_or ns i d).entry))
  finds_some i lt f h =
      let g : scope_of s (take (i + 1) ns) ≡ entry_of s (get_or ns i d) ∷ scope_of s (take i ns) = scope_next s ns i d lt in
      let u : Unnamed s ns x (i + 1) = unnamed (length ns - (i + 1)) (i + 1) (omega (arith, lt)) h in
      said (get_or ns i d).entry x _ _ _ (u.means ∙ ap (lookup x) g) (u.cell ∙ ap (cell_of x) g) (found (get_or ns i d).entry x _ _ (sym f))

-- The newest level, searched for a definition.

-- whether a record of a kind begins no level
abbrev pub opens_none : Entry → Bool
opens_none Level = false
opens_none (Variable t) = true
opens_none Stop = true
opens_none (Function f) = true

-- the records of the newest level, the newest first
abbrev pub level_of : List Name → List Name
level_of ns = take (prefix_len (λ (n : Name). opens_none n.entry) ns) ns

here_next : (x y : List ℕ) (e : Entry) (Γ : Scope) (b : Bool) → b ≡ defined_here x Γ → cond (opens_none e) (defining x (entry_as e y) || b) false ≡ defined_here x (entry_as e y ∷ Γ)
unfolding defined_here
here_next x y Level Γ b h = refl
here_next x y (Variable t) Γ b h = rw h refl
here_next x y Stop Γ b h = h
here_next x y (Function f) Γ b h = rw h refl

level_next : (p : Name → Bool) (n : Name) (ns : List Name) (b : Bool) → b ≡ opens_none n.entry
    → list_any p (level_of (n ∷ ns)) ≡ cond b (p n || list_any p (level_of ns)) false
level_next p n ns true h =
    let m = prefix_len (λ (k : Name). opens_none k.entry) ns in
    let e : 1 + m ≡ suc m = omega arith in
    rw (sym h) (ap (λ (k : ℕ). list_any p (take k (n ∷ ns))) e)
level_next p n ns false h = rw (sym h) refl

here_reversed : (s x : List ℕ) (ns : List Name) → list_any (λ n. defining x (entry_of s n)) (level_of ns) ≡ defined_here x (scope_of s (reverse ns))
unfolding stacked defined_here
here_reversed s x [] = refl
here_reversed s x (n ∷ ns) =
    level_next (λ n. defining x (entry_of s n)) n ns _ refl ∙ here_next x _ n.entry _ _ (here_reversed s x ns) ∙ ap (defined_here x) (sym (stacked_more s (reverse ns) n []))
    ∙ ap (λ (k : List Name). defined_here x (scope_of s k)) (sym (reverse-append (n ∷ []) ns))

pub here_level : (s x : List ℕ) (ns : List Name) → list_any (λ n. defining x (entry_of s n)) (level_of (reverse ns)) ≡ defined_here x (scope_of s ns)
here_level s x ns = here_reversed s x (reverse ns) ∙ ap (λ (k : List Name). defined_here x (scope_of s k)) (reverse-reverse ns)

-- Counting cells.

-- whether a record of a kind has a cell
abbrev pub has_cell : Entry → Bool
has_cell Level = false
has_cell (Variable t) = true
has_cell Stop = true
has_cell (Function f) = false

cells_more : (e : Entry) (y : List ℕ) (Γ : Scope) → cells (entry_as e y ∷ Γ) ≡ cond (has_cell e) 1 0 + cells Γ
unfolding cells
cells_more Level y Γ = omega arith
cells_more (Variable t) y Γ = omega arith
cells_more Stop y Γ = omega arith
cells_more (Function f) y Γ = omega arith

cells-count_by : (s : List ℕ) (ns : List Name) (Γ : Scope) → cells (stacked s ns Γ) ≡ count_by (λ n. has_cell n.entry) ns + cells Γ
unfolding stacked
cells-count_by s [] Γ = omega arith
cells-count_by s (n ∷ ns) Γ =
    let h : cells (entry_of s n ∷ Γ) ≡ cond (has_cell n.entry) 1 0 + cells Γ = cells_more n.entry _ Γ in
    let k : count_by (λ n. has_cell n.entry) (n ∷ ns) ≡ cond (has_cell n.entry) 1 0 + count_by (λ n. has_cell n.entry) ns = sum_by-cons _ n ns in
    cells-count_by s ns (entry_of s n ∷ Γ) ∙ omega (arith, h, k)

-- as many as the records that have one
pub cells_lem : (s : List ℕ) (ns : List Name) → length (filter (λ (n : Name). has_cell n.entry) ns) ≡ cells (scope_of s ns)
unfolding cells
cells_lem s ns = let h : cells (scope_of s ns) ≡ count_by (λ n. has_cell n.entry) ns + 0 = cells-count_by s ns [] in length-filter _ ns ∙ sym (omega (arith, h))

pub cells_all : (s : List ℕ) (ns : List Name) (n m : ℕ) → n ≡ length ns → m ≡ cells (scope_of s (take n ns)) → m ≡ cells (scope_of s ns)
cells_all s ns n m e h = h ∙ ap (λ (k : List Name). cells (scope_of s k)) (take_all n ns (omega arith))

-- a record that is pushed
pub enters : (s : List ℕ) (before after : Held Name) (n : Name) (e : Scopes.Entry Scalar) → after ≡ pushed before n → entry_of s n ≡ e → Enters s before e after
enters s before after n e h f room =
    let r : ltb (length before.held) before.most ≡ true = lt-ltb _ _ room in
    (n, h ∙ ap (λ (b : Bool). holding (cond b (before.held ++ (n ∷ [])) before.held) before.most) r, f)
