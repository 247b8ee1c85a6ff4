-- What is told of a name, by what its record or the names in force say of its text.
use Rattle.std.proofs.Common.{◌≡◌, ℕ, ◌+◌, ◌<◌, ◌≤◌, Bool, true, false, cond, ◌&&◌, leb, List, [], ◌∷◌, Some, None, Option, sym, refl, ◌∙◌, arith}
use Rattle.std.specs.Option.{ok_or}
use Rattle.std.proofs.lemmas.Bool.Decides.{nat_tests}
use Rattle.refusal.specs.Told.{accepted, refused, number_of}
use Rattle.refusal.specs.declared.reason.Refusal.{Refusal}
use Rattle.meaning.specs.declared.operator.Scalar.{Scalar}
use Rattle.meaning.specs.declared.operator.Scalar.TheVariants.{Bool as bool, Char as char, Int as int}
use Rattle.meaning.specs.Check.{Scope, then, needs, room, as_variable, as_callee, defined, declared}
use Rattle.meaning.specs.Scopes.{Callee, callee_name, same_name, absent, a_variable, a_function, lookup, defined_here, cells}
use Rattle.meaning.specs.Scopes as Scopes
use Rattle.meaning.specs.Trees.{Ident, Return, void, gives}
use Rattle.meaning.specs.Types.{signature, same_return, same_types, declares, listed}
use Rattle.layout.proofs.Compiled.{cell_of}
use Rattle.translator.specs.declared.name.Entry.{Entry}
use Rattle.translator.specs.declared.name.Entry.TheVariants.{Level, Variable, Stop, Function}
use Rattle.translator.specs.declared.name.Callee as Listed
use Rattle.translator.specs.declared.name.Callee.TheVariants as C
use Rattle.translator.specs.declared.name.Name.{Name}
use Rattle.translator.specs.Names.{callee_of, callable_of, Says, Finds, FoundIs, CalleeIs, return_of, types_of, is_int, is_none, fitting}

-- what is told of a name, at another's place
module _ (Γ : Scope) (x : Ident) (p : ℕ) (q : p ≡ x.place) where
  pub absent_variable : lookup x.bytes Γ ≡ absent → as_variable (lookup x.bytes Γ) x.place ≡ refused 13 p
  unfolding as_variable
  absent_variable h = rw (sym q, h) refl

  pub absent_callee : lookup x.bytes Γ ≡ absent → as_callee (lookup x.bytes Γ) x.place ≡ refused 13 p
  unfolding as_callee
  absent_callee h = rw (sym q, h) refl

  pub no_variable : (e : Entry) (c : ℕ) → ((t : Scalar) → e ≡ Variable t → ⊥) → Says e x.bytes Γ c → as_variable (lookup x.bytes Γ) x.place ≡ refused 14 p
  unfolding as_variable
  no_variable Level c n h = absurd h
  no_variable (Variable t) c n h = absurd (n t refl)
  no_variable Stop c n h = absurd h
  no_variable (Function f) c n h = rw (sym q, h) refl

  pub no_callee : (e : Entry) (c : ℕ) → None ≡ callable_of e → Says e x.bytes Γ c → as_callee (lookup x.bytes Γ) x.place ≡ refused 14 p
  unfolding as_callee
  no_callee Level c e h = absurd h
  no_callee (Variable t) c e h = rw (sym q, h.0) refl
  no_callee Stop c e h = absurd h
  no_callee (Function C.Zone) c e h = let z : ◌≡◌ {A = ℕ} 0 1 = cc in absurd (omega arith)
  no_callee (Function C.Columns) c e h = let z : ◌≡◌ {A = ℕ} 0 1 = cc in absurd (omega arith)
  no_callee (Function C.Rows) c e h = let z : ◌≡◌ {A = ℕ} 0 1 = cc in absurd (omega arith)
  no_callee (Function C.Report) c e h = let z : ◌≡◌ {A = ℕ} 0 1 = cc in absurd (omega arith)
  no_callee (Function C.Main) c e h = rw (sym q, h) refl

pub a_variable_is : (Γ : Scope) (x : List ℕ) (e : Entry) (t : Scalar) (c m : ℕ) → e ≡ Variable t → Says e x Γ c → m ≡ c → (lookup x Γ ≡ a_variable t) × (m ≡ cell_of x Γ)
a_variable_is Γ x e t c m k h g = let s : Says (Variable t) x Γ c = rw k at h in (s.0, g ∙ sym s.1)

a_callee_is : (Γ : Scope) (x : List ℕ) (p : ℕ) (f : Callee) → lookup x Γ ≡ a_function f → as_callee (a_function f) p ≡ accepted f → (lookup x Γ ≡ a_function f) × (as_callee (lookup x Γ) p ≡ accepted f)
a_callee_is Γ x p f h e = (h, rw h e)

pub a_function_is : (Γ : Scope) (x : List ℕ) (p : ℕ) (e : Entry) (c : ℕ) (f : Listed.Callee) → Some f ≡ callable_of e → Says e x Γ c
    → (lookup x Γ ≡ a_function (callee_of f)) × (as_callee (lookup x Γ) p ≡ accepted (callee_of f))
unfolding as_callee
a_function_is Γ x p Level c f e h = absurd h
a_function_is Γ x p (Variable t) c f e h = let z : ◌≡◌ {A = ℕ} 0 1 = cc in absurd (omega arith)
a_function_is Γ x p Stop c f e h = absurd h
a_function_is Γ x p (Function C.Zone) c f e h = let k : f ≡ C.Zone = cc in rw k (a_callee_is Γ x p Scopes.zone h refl)
a_function_is Γ x p (Function C.Columns) c f e h = let k : f ≡ C.Columns = cc in rw k (a_callee_is Γ x p Scopes.columns h refl)
a_function_is Γ x p (Function C.Rows) c f e h = let k : f ≡ C.Rows = cc in rw k (a_callee_is Γ x p Scopes.rows h refl)
a_function_is Γ x p (Function C.Report) c f e h = let k : f ≡ C.Report = cc in rw k (a_callee_is Γ x p Scopes.report h refl)
a_function_is Γ x p (Function C.Main) c f e h = let z : ◌≡◌ {A = ℕ} 0 1 = cc in absurd (omega arith)

-- what is found of a name, or the fault of one that is absent
pub found_as : (s : List ℕ) (ns : List Name) (y : List ℕ) (x : Ident) (o : Option (ℕ × Entry)) (f : Refusal) → y ≡ x.bytes → number_of f.reason ≡ 13 → f.place ≡ x.place
    → Finds s ns y o → FoundIs s ns x.bytes x.place (ok_or o f)
found_as s ns y x None f b n q h = (rw b at h, n, q)
found_as s ns y x (Some r) f b n q h = rw b at h

-- the function that a record found stands for, or the fault of one that cannot be called
pub callee_as : (Γ : Scope) (x : Ident) (e : Entry) (c : ℕ) (o : Option Listed.Callee) (f : Refusal) → o ≡ callable_of e → number_of f.reason ≡ 14 → f.place ≡ x.place
    → Says e x.bytes Γ c → CalleeIs Γ x.bytes x.place (ok_or o f)
callee_as Γ x e c None f k n q h = rw n (no_callee Γ x f.place q e c k h)
callee_as Γ x e c (Some g) f k n q h = a_function_is Γ x.bytes x.place e c g k h

-- A name that is defined or declared, which another is, at another's place.
module _ (Γ : Scope) (y : List ℕ) (x : Ident) (p : ℕ) (b : y ≡ x.bytes) (q : p ≡ x.place) where
  pub defined_twice : (t : Scalar) → true ≡ defined_here y Γ → defined x t Γ ≡ refused 12 p
  unfolding defined then needs
  defined_twice t h = rw (sym b, sym h, q) refl

  pub defined_late : (t : Scalar) → false ≡ defined_here y Γ → 64 ≤ cells Γ → defined x t Γ ≡ refused 17 p
  unfolding defined then needs room
  defined_late t h n = let l : leb (cells Γ + 1) 64 ≡ false = grind (arith, nat_tests) in rw (sym b, sym h, l, q) refl

  pub defined_new : (t : Scalar) → false ≡ defined_here y Γ → cells Γ < 64 → defined x t Γ ≡ accepted (Scopes.variable x.bytes t ∷ Γ)
  unfolding defined then needs room
  defined_new t h n = let l : leb (cells Γ + 1) 64 ≡ true = grind (arith, nat_tests) in rw (sym b, sym h, l) refl

  pub unlisted : (r : Return) (ps : List Scalar) → listed y r ps ≡ None → declared x (listed x.bytes r ps) Γ ≡ refused 11 p
  unfolding declared
  unlisted r ps h = rw (sym b, h, q) refl

  pub declared_twice : (r : Return) (ps : List Scalar) (f : Callee) → listed y r ps ≡ Some f → true ≡ defined_here y Γ → declared x (listed x.bytes r ps) Γ ≡ refused 12 p
  unfolding declared then needs
  declared_twice r ps f e h = rw (sym b, e, sym h, q) refl

  pub declared_new : (f : Callee) → false ≡ defined_here y Γ → declared x (Some f) Γ ≡ accepted (Scopes.function f ∷ Γ)
  unfolding declared then needs
  declared_new f h = rw (sym b, sym h) refl

-- The types of a function, one by one.

gives_int : (g : Option Scalar) → same_return (return_of g) (gives int) ≡ is_int g
gives_int None = refl
gives_int (Some bool) = refl
gives_int (Some char) = refl
gives_int (Some int) = refl

gives_nothing_lem : (g : Option Scalar) → same_return (return_of g) void ≡ is_none g
gives_nothing_lem None = refl
gives_nothing_lem (Some t) = refl

takes_int_lem : (p : Option Scalar) → same_types (types_of p) (int ∷ []) ≡ is_int p
unfolding same_types
takes_int_lem None = refl
takes_int_lem (Some bool) = refl
takes_int_lem (Some char) = refl
takes_int_lem (Some int) = refl

takes_nothing : (p : Option Scalar) → same_types (types_of p) [] ≡ is_none p
unfolding same_types
takes_nothing None = refl
takes_nothing (Some t) = refl

fits : (f : Callee) (g p : Option Scalar) → (same_return (return_of g) (signature f).result && same_types (types_of p) (signature f).parameters) ≡ fitting f g p
fits Scopes.zone g p = rw (gives_int g, takes_int_lem p) refl
fits Scopes.columns g p = rw (gives_int g, takes_nothing p) refl
fits Scopes.rows g p = rw (gives_int g, takes_nothing p) refl
fits Scopes.report g p = rw (gives_nothing_lem g, takes_int_lem p) refl
fits Scopes.main g p = rw (gives_int g, takes_nothing p) refl

pub declares_named : (x : List ℕ) (f : Callee) (g p : Option Scalar) → true ≡ same_name x (callee_name f) → fitting f g p ≡ declares x (return_of g) (types_of p) f
declares_named x f g p h = rw (sym h, sym (fits f g p)) refl

-- the four listed functions, tried in turn
pub listed_by : (x : List ℕ) (t : Return) (ps : List Scalar) (a b c d : Bool)
    → a ≡ declares x t ps Scopes.zone → b ≡ declares x t ps Scopes.columns → c ≡ declares x t ps Scopes.rows → d ≡ declares x t ps Scopes.report
    → listed x t ps ≡ cond a (Some Scopes.zone) (cond b (Some Scopes.columns) (cond c (Some Scopes.rows) (cond d (Some Scopes.report) None)))
unfolding listed
listed_by x t ps a b c d i j k l = rw (i, j, k, l) refl
