-- What the records of names stand for.
use Rattle.std.specs.Prelude.{◌≡◌, ℕ, ◌<◌, Bool, true, false, ◌&&◌, List, [], ◌∷◌, ◌++◌, length, take, drop, Some, None, Ok, Err, Option, Result}
use Rattle.refusal.specs.Told.{accepted, refused, number_of}
use Rattle.refusal.specs.declared.reason.Refusal.{Refusal}
use Rattle.meaning.specs.declared.operator.Scalar.{Scalar}
use Rattle.meaning.specs.declared.operator.Scalar.TheVariants.{Bool as bool, Char as char, Int as int}
use Rattle.meaning.specs.Scopes.{Callee, callee_name, same_name, absent, a_variable, a_function, lookup, cells}
use Rattle.meaning.specs.Scopes as Scopes
use Rattle.meaning.specs.Trees.{Ident, Return, void, gives}
use Rattle.meaning.specs.Types.{listed}
use Rattle.meaning.specs.Written.{ident}
use Rattle.meaning.specs.Check.{Scope, as_variable, as_callee, defined, declared}
use Rattle.layout.proofs.Compiled.{cell_of}
use Rattle.lexer.specs.Lexeme.{Lexeme}
use Rattle.lexer.specs.Reading.{lexemes}
use Rattle.lexer.specs.declared.kind.Token.{Token}
use Rattle.stacks.specs.Held.{Held, holding}
use Rattle.translator.specs.declared.name.Name.{Name}
use Rattle.translator.specs.declared.name.Variable.{Variable as Used}
use Rattle.translator.specs.declared.name.Entry.{Entry}
use Rattle.translator.specs.declared.name.Entry.TheVariants.{Level, Variable, Stop, Function}
use Rattle.translator.specs.declared.name.Callee as Listed
use Rattle.translator.specs.declared.name.Callee.TheVariants as C

-- the function that a record names
abbrev pub callee_of : Listed.Callee → Callee
callee_of C.Zone = Scopes.zone
callee_of C.Columns = Scopes.columns
callee_of C.Rows = Scopes.rows
callee_of C.Report = Scopes.report
callee_of C.Main = Scopes.main

-- the bytes of a record's name
abbrev pub text_of : List ℕ → Name → List ℕ
text_of s n = take n.length (drop n.place s)

-- what a record of a kind, with a name, puts in force
abbrev pub entry_as : Entry → List ℕ → Scopes.Entry Scalar
entry_as Level x = Scopes.level
entry_as (Variable t) x = Scopes.variable x t
entry_as Stop x = Scopes.stop int
entry_as (Function f) x = Scopes.function (callee_of f)

-- what a record puts in force
abbrev pub entry_of : List ℕ → Name → Scopes.Entry Scalar
entry_of s n = entry_as n.entry (text_of s n)

-- the names in force, the newest first, with records on top of what is in force
unfoldable pub stacked : List ℕ → List Name → Scope → Scope
stacked s [] Γ = Γ
stacked s (n ∷ ns) Γ = stacked s ns (entry_of s n ∷ Γ)

-- the names in force
abbrev pub scope_of : List ℕ → List Name → Scope
scope_of s ns = stacked s ns []

-- whether what is in force defines a name
abbrev pub defining : List ℕ → Scopes.Entry Scalar → Bool
defining x Scopes.level = false
defining x (Scopes.variable y t) = same_name x y
defining x (Scopes.stop t) = false
defining x (Scopes.function f) = same_name x (callee_name f)

-- what a record says of the name that it defines: a variable's type and cell, or the function; other records define none
abbrev pub Says : Entry → List ℕ → Scope → (cell : ℕ) → Type 0
Says Level x Γ c = ⊥
Says (Variable t) x Γ c = (lookup x Γ ≡ a_variable t) × (cell_of x Γ ≡ c)
Says Stop x Γ c = ⊥
Says (Function f) x Γ c = lookup x Γ ≡ a_function (callee_of f)

-- The newest definition of a name, if there is one: its place among the records, and what it says.
abbrev pub Finds : List ℕ → List Name → List ℕ → Option (ℕ × Entry) → Type 0
Finds s ns x None = lookup x (scope_of s ns) ≡ absent
Finds s ns x (Some f) = Says f.1 x (scope_of s ns) (cells (scope_of s (take f.0 ns)))

-- the newest definition of a name, at a place, or the fault there where there is none
abbrev pub FoundIs : List ℕ → List Name → List ℕ → ℕ → Result (ℕ × Entry) Refusal → Type 0
FoundIs s ns x p (Ok f) = Says f.1 x (scope_of s ns) (cells (scope_of s (take f.0 ns)))
FoundIs s ns x p (Err f) = (lookup x (scope_of s ns) ≡ absent) × (number_of f.reason ≡ 13) × (f.place ≡ p)

-- the same of the name at a place of the tokens
abbrev pub FoundAt : List ℕ → List Token → ℕ → List Name → Result (ℕ × Entry) Refusal → Type 0
FoundAt s ts at ns r = (x : Ident) (ls : List Lexeme) → drop at (lexemes s ts) ≡ ident x ∷ ls → FoundIs s ns x.bytes x.place r

-- a variable as code uses it: its type and its cell
abbrev pub VariableIs : Scope → List ℕ → ℕ → Result Used Refusal → Type 0
VariableIs Γ x p (Ok v) = (lookup x Γ ≡ a_variable v.kind) × (v.cell ≡ cell_of x Γ)
VariableIs Γ x p (Err f) = as_variable (lookup x Γ) p ≡ refused (number_of f.reason) f.place

-- the name at a place of the tokens is a variable, or the fault there
abbrev pub VariableAt : List ℕ → List Token → ℕ → List Name → Result Used Refusal → Type 0
VariableAt s ts at ns r = (x : Ident) (ls : List Lexeme) → drop at (lexemes s ts) ≡ ident x ∷ ls → VariableIs (scope_of s ns) x.bytes x.place r

-- the function that a record stands for, if it can be called
abbrev pub callable_of : Entry → Option Listed.Callee
callable_of Level = None
callable_of (Variable t) = None
callable_of Stop = None
callable_of (Function C.Zone) = Some C.Zone
callable_of (Function C.Columns) = Some C.Columns
callable_of (Function C.Rows) = Some C.Rows
callable_of (Function C.Report) = Some C.Report
callable_of (Function C.Main) = None

-- the function that a called name means, or the fault there
abbrev pub CalleeIs : Scope → List ℕ → ℕ → Result Listed.Callee Refusal → Type 0
CalleeIs Γ x p (Ok f) = (lookup x Γ ≡ a_function (callee_of f)) × (as_callee (lookup x Γ) p ≡ accepted (callee_of f))
CalleeIs Γ x p (Err f) = as_callee (lookup x Γ) p ≡ refused (number_of f.reason) f.place

abbrev pub CalleeAt : List ℕ → List Token → ℕ → List Name → Result Listed.Callee Refusal → Type 0
CalleeAt s ts at ns r = (x : Ident) (ls : List Lexeme) → drop at (lexemes s ts) ≡ ident x ∷ ls → CalleeIs (scope_of s ns) x.bytes x.place r

-- one more record, which puts this in force, where there is room for it
abbrev pub Enters : List ℕ → Held Name → Scopes.Entry Scalar → Held Name → Type 0
Enters s before e after =
    length before.held < before.most → (n : Name) × (after ≡ holding (before.held ++ (n ∷ [])) before.most) × (entry_of s n ≡ e)

-- the name at a place is defined anew as a variable of a type, or the fault there
abbrev pub DefinesAs : List ℕ → Held Name → Held Name → Ident → Scalar → Result (Unit {0}) Refusal → Type 0
DefinesAs s before after x t (Ok u) =
    (defined x t (scope_of s before.held) ≡ accepted (Scopes.variable x.bytes t ∷ scope_of s before.held))
    × Enters s before (Scopes.variable x.bytes t) after
DefinesAs s before after x t (Err f) = defined x t (scope_of s before.held) ≡ refused (number_of f.reason) f.place

abbrev pub Defines : List ℕ → List Token → ℕ → Scalar → Held Name → Held Name → Result (Unit {0}) Refusal → Type 0
Defines s ts at t before after r = (x : Ident) (ls : List Lexeme) → drop at (lexemes s ts) ≡ ident x ∷ ls → DefinesAs s before after x t r

-- the type of a function's result or parameter, where it has one
abbrev pub return_of : Option Scalar → Return
return_of (Some t) = gives t
return_of None = void

abbrev pub types_of : Option Scalar → List Scalar
types_of (Some t) = t ∷ []
types_of None = []

-- whether a function gives or takes an int
abbrev pub is_int : Option Scalar → Bool
is_int None = false
is_int (Some bool) = false
is_int (Some char) = false
is_int (Some int) = true

-- whether a function gives or takes nothing
abbrev pub is_none : Option Scalar → Bool
is_none None = true
is_none (Some t) = false

-- whether a function gives and takes these types
abbrev pub fitting : Callee → Option Scalar → Option Scalar → Bool
fitting Scopes.zone r p = is_int r && is_int p
fitting Scopes.columns r p = is_int r && is_none p
fitting Scopes.rows r p = is_int r && is_none p
fitting Scopes.report r p = is_none r && is_int p
fitting Scopes.main r p = is_int r && is_none p

-- the listed function of that name, result and parameter, if there is one
abbrev pub ListedAs : List ℕ → Option Scalar → Option Scalar → Option Listed.Callee → Type 0
ListedAs x r p (Some f) = listed x (return_of r) (types_of p) ≡ Some (callee_of f)
ListedAs x r p None = listed x (return_of r) (types_of p) ≡ None

-- a function is declared by an extern, or the fault of its name
abbrev pub DeclaresAs : List ℕ → Held Name → Held Name → Ident → Option Scalar → Option Scalar → Result (Unit {0}) Refusal → Type 0
DeclaresAs s before after x g p (Ok u) =
    (f : Callee) × (listed x.bytes (return_of g) (types_of p) ≡ Some f)
    × (declared x (Some f) (scope_of s before.held) ≡ accepted (Scopes.function f ∷ scope_of s before.held))
    × Enters s before (Scopes.function f) after
DeclaresAs s before after x g p (Err f) =
    declared x (listed x.bytes (return_of g) (types_of p)) (scope_of s before.held) ≡ refused (number_of f.reason) f.place

abbrev pub Declares : List ℕ → List Token → ℕ → Option Scalar → Option Scalar → Held Name → Held Name → Result (Unit {0}) Refusal → Type 0
Declares s ts at g p before after r = (x : Ident) (ls : List Lexeme) → drop at (lexemes s ts) ≡ ident x ∷ ls → DeclaresAs s before after x g p r
