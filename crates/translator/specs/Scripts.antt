-- What the translation of externs, globals, main and whole scripts comes to.
use Rattle.std.specs.Prelude.{◌≡◌, ℕ, ◌+◌, ◌<◌, ◌≤◌, false, ◌⊎◌, List, [], ◌∷◌, ◌++◌, length, drop, pos, Ok, Err, Option, Result}
use Rattle.std.proofs.Math.Option as Maybe
use Rattle.refusal.specs.Told.{accepted, refused, number_of}
use Rattle.refusal.specs.declared.reason.Refusal.{Refusal}
use Rattle.stacks.specs.Held.{Held}
use Rattle.lexer.specs.Lexeme.{Lexeme}
use Rattle.lexer.specs.Reading.{lexemes, token_limit}
use Rattle.lexer.specs.declared.kind.Kind.{Kind}
use Rattle.lexer.specs.declared.kind.Kind.TheVariants as K
use Rattle.lexer.specs.declared.kind.Token.{Token}
use Rattle.meaning.specs.declared.operator.Scalar.{Scalar}
use Rattle.meaning.specs.Trees.{Ident, Constant, Stmts, Return, Parameter, Item, extern, global, Script}
use Rattle.meaning.specs.Written.{sign, return_kind, parameter_lexemes, item_lexemes, items_lexemes, head_lexemes, stmts_lexemes}
use Rattle.meaning.specs.Grammar.{Propers, ReadsAs, Accepted}
use Rattle.meaning.specs.Scopes.{level, function, main, cells}
use Rattle.meaning.specs.Types.{parameter_types}
use Rattle.meaning.specs.Check.{Scope, check_items, check_stmts, check_script}
use Rattle.parser.specs.Verdict.{Wrong}
use Rattle.machine.specs.declared.instruction.Instruction.{Instruction}
use Rattle.layout.proofs.Compiled.{ins, items_scope, items_end, items_code, stmts_end, stmts_code, script_code}
use Rattle.translator.specs.Translation.{code_limit, Sized, Refused, Coded, tokens_after}
use Rattle.translator.specs.Code.{coded}
use Rattle.translator.specs.Names.{scope_of, return_of, types_of}
use Rattle.translator.specs.Expressions.{AllPlaced}
use Rattle.translator.specs.declared.name.Name.{Name}
use Rattle.translator.specs.declared.pending.Jump.{Jump}
use Rattle.translator.specs.declared.typed.Parameter as Bracketed

-- what an extern gives, by the keyword
abbrev pub GivenBy : Kind → Option Scalar → Type 0
GivenBy k r = (t : Return) → k ≡ return_kind t → return_of r ≡ t

-- what an extern takes, and the place of the bracket that closes it
abbrev pub TakenAt : List Token → ℕ → Bracketed.Parameter → Type 0
TakenAt ts at r =
    (s : List ℕ) (a : Parameter) (p : ℕ) (ls : List Lexeme) → drop at (lexemes s ts) ≡ parameter_lexemes a (sign K.CloseParen p ∷ ls)
    → (types_of r.takes ≡ parameter_types a) × (drop r.close (lexemes s ts) ≡ sign K.CloseParen p ∷ ls)

-- An extern or a global stands at a place of the tokens, and there is room for what it adds.
pub record ItemAt (s : List ℕ) (ts : List Token) (at : ℕ) (N : Held Name) (C : Held Instruction) (i : Item) : Type 0 where
  pub rest : List Lexeme
  pub code : List Instruction
  pub placed : AllPlaced (lexemes s ts)
  pub few : cells (scope_of s N.held) ≤ 64
  pub stands : drop at (lexemes s ts) ≡ item_lexemes i rest
  pub begun : C ≡ coded code
  pub room : items_end (i ∷ []) (length code) ≤ code_limit
  pub entries : length N.held < N.most

-- What was made of items, where the lexemes after them stand at q: the names in force are those after the items, one record
-- each; the code is more by theirs.
pub record Declared (s : List ℕ) (ts : List Token) (q : ℕ) (N M : Held Name) (D : Held Instruction) (is : List Item) (rest : List Lexeme) (C : List Instruction) : Type 0 where
  pub next : drop q (lexemes s ts) ≡ rest
  pub checked : check_items is (scope_of s N.held) ≡ accepted (scope_of s M.held)
  pub scope : scope_of s M.held ≡ items_scope is (scope_of s N.held)
  pub few : cells (scope_of s M.held) ≤ 64
  pub most : M.most ≡ N.most
  pub entries : length M.held ≡ length N.held + length is
  pub ended : D ≡ coded (C ++ items_code is (scope_of s N.held))

-- what was made of items, or their first fault
abbrev pub ItemsDone : List ℕ → List Token → (N M : Held Name) → Held Instruction → List Item → List Lexeme → List Instruction → Result ℕ Refusal → Type 0
ItemsDone s ts N M D is rest C (Ok q) = Declared s ts q N M D is rest C
ItemsDone s ts N M D is rest C (Err f) = check_items is (scope_of s N.held) ≡ refused (number_of f.reason) f.place

-- whatever extern stands there is declared
abbrev pub TranslatesExtern : List ℕ → List Token → ℕ → (N M : Held Name) → Result ℕ Refusal → Type 0
TranslatesExtern s ts at N M r =
    (q : ℕ × ℕ × ℕ × ℕ × ℕ) (t : Return) (x : Ident) (a : Parameter) (C : Held Instruction) (h : ItemAt s ts at N C (extern q t x a))
    → ItemsDone s ts N M C (extern q t x a ∷ []) h.rest h.code r

-- whatever global stands there, after `static`, is translated
abbrev pub TranslatesGlobal : List ℕ → List Token → ℕ → (N M : Held Name) → (C D : Held Instruction) → Result ℕ Refusal → Type 0
TranslatesGlobal s ts at N M C D r =
    (q : ℕ × ℕ × ℕ) (t : Scalar) (x : Ident) (c : Constant) (h : ItemAt s ts at N C (global Maybe.none q t x c))
    → ItemsDone s ts N M D (global Maybe.none q t x c ∷ []) h.rest h.code r

-- whatever item stands there is translated
abbrev pub TranslatesItem : List ℕ → List Token → ℕ → (N M : Held Name) → (C D : Held Instruction) → Result ℕ Refusal → Type 0
TranslatesItem s ts at N M C D r = (i : Item) (h : ItemAt s ts at N C i) → ItemsDone s ts N M D (i ∷ []) h.rest h.code r

-- Items and the head of main stand at a place, and there is room for what the items add.
pub record ItemsAt (s : List ℕ) (ts : List Token) (at : ℕ) (N : Held Name) (C : Held Instruction) (is : List Item) : Type 0 where
  pub static : Maybe.Option ℕ
  pub marks : ℕ × ℕ × ℕ × ℕ × ℕ
  pub rest : List Lexeme
  pub code : List Instruction
  pub placed : AllPlaced (lexemes s ts)
  pub few : cells (scope_of s N.held) ≤ 64
  pub stands : drop at (lexemes s ts) ≡ items_lexemes is (head_lexemes static marks rest)
  pub begun : C ≡ coded code
  pub room : items_end is (length code) ≤ code_limit
  pub entries : length N.held + length is ≤ N.most

-- what follows `[static] int main (`
abbrev pub main_rest : (ℕ × ℕ × ℕ × ℕ × ℕ) → List Lexeme → List Lexeme
main_rest q r = sign K.CloseParen q.3 ∷ sign K.OpenBrace q.4 ∷ r

-- what was made of the items before main
abbrev pub AllDone : (s : List ℕ) (ts : List Token) (at : ℕ) (N : Held Name) (C : Held Instruction) (is : List Item) → ItemsAt s ts at N C is → Held Name → Held Instruction → Result ℕ Refusal → Type 0
AllDone s ts at N C is h M D r = ItemsDone s ts N M D is (main_rest h.marks h.rest) h.code r

-- whatever items stand there before main are translated
abbrev pub TranslatesItems : List ℕ → List Token → ℕ → (N M : Held Name) → (C D : Held Instruction) → Result ℕ Refusal → Type 0
TranslatesItems s ts at N M C D r = (is : List Item) (h : ItemsAt s ts at N C is) → AllDone s ts at N C is h M D r

-- on the way there: what is made of the items that are left is made of all
abbrev pub ItemsOn : List ℕ → List Token → (at : ℕ) → Held Name → Held Instruction → (now : ℕ) → Held Name → Held Instruction → Type 0
ItemsOn s ts at N C now O E =
    (is : List Item) (h : ItemsAt s ts at N C is)
    → (js : List Item) × (g : ItemsAt s ts now O E js)
    × ((M : Held Name) (D : Held Instruction) (r : Result ℕ Refusal) → AllDone s ts now O E js g M D r → AllDone s ts at N C is h M D r)

-- the names in main's braces
abbrev pub in_main : Scope → Scope
in_main Γ = level ∷ function main ∷ level ∷ Γ

-- Main from its closing bracket on stands at a place, the last of the tokens, and the stacks have room.
pub record MainAt (s : List ℕ) (ts : List Token) (at : ℕ) (N : Held Name) (J : Held Jump) (C : Held Instruction) (ss : Stmts) : Type 0 where
  pub marks : ℕ × ℕ × ℕ × ℕ × ℕ
  pub close : ℕ
  pub code : List Instruction
  pub proper : Propers ss
  pub placed : AllPlaced (lexemes s ts)
  pub few : cells (scope_of s N.held) ≤ 64
  pub stands : drop at (lexemes s ts) ≡ main_rest marks (stmts_lexemes ss (sign K.CloseBrace close ∷ []))
  pub begun : C ≡ coded code
  pub room : stmts_end ss (in_main (scope_of s N.held)) (length code) + 1 + 1 ≤ code_limit
  pub entries : length N.held + 3 + length (stmts_lexemes ss (sign K.CloseBrace close ∷ [])) ≤ N.most
  pub idle : J.held ≡ []
  pub waiting : length (stmts_lexemes ss (sign K.CloseBrace close ∷ [])) ≤ J.most

-- the code of main: its statements, then an end that returns 0
abbrev pub main_code : Stmts → Scope → ℕ → (close : ℕ) → List Instruction
main_code ss Γ o p = stmts_code ss Γ o 0 0 ++ (ins 0 (pos 0) p ∷ ins 21 (pos 0) p ∷ [])

-- what was made of main, or its first fault
abbrev pub MainDone : List ℕ → Held Name → Held Instruction → Stmts → (close : ℕ) → List Instruction → Result (Unit {0}) Refusal → Type 0
MainDone s N D ss p C (Ok u) =
    ((Δ : Scope) × (check_stmts ss false (in_main (scope_of s N.held)) ≡ accepted Δ)) × (D ≡ coded (C ++ main_code ss (in_main (scope_of s N.held)) (length C) p))
MainDone s N D ss p C (Err f) = check_stmts ss false (in_main (scope_of s N.held)) ≡ refused (number_of f.reason) f.place

-- whatever main stands there is translated
abbrev pub TranslatesMain : List ℕ → List Token → ℕ → Held Name → Held Jump → (C D : Held Instruction) → Result (Unit {0}) Refusal → Type 0
TranslatesMain s ts at N J C D r = (ss : Stmts) (h : MainAt s ts at N J C ss) → MainDone s N D ss h.close h.code r

-- The tokens are a script's, and the stacks are empty and have room.
pub record ScriptAt (s : List ℕ) (ts : List Token) (N : Held Name) (J : Held Jump) (C : Held Instruction) (t : Script) : Type 0 where
  pub reads : ReadsAs (lexemes s ts) t
  pub placed : AllPlaced (lexemes s ts)
  pub short : length (lexemes s ts) ≤ token_limit
  pub unnamed : N.held ≡ []
  pub entries : length (lexemes s ts) + 4 ≤ N.most
  pub idle : J.held ≡ []
  pub waiting : length (lexemes s ts) ≤ J.most
  pub begun : C ≡ coded []

-- what was made of a script, or its first fault
abbrev pub ScriptDone : Held Instruction → Script → Result (Unit {0}) Refusal → Type 0
ScriptDone D t (Ok u) = (check_script t ≡ accepted tt) × (D ≡ coded (script_code t))
ScriptDone D t (Err f) = check_script t ≡ refused (number_of f.reason) f.place

-- whatever script the tokens are is translated
abbrev pub TranslatesScript : List ℕ → List Token → Held Name → Held Jump → (C D : Held Instruction) → Result (Unit {0}) Refusal → Type 0
TranslatesScript s ts N J C D r = (t : Script) → ScriptAt s ts N J C t → ScriptDone D t r

-- the first length that is refused, if one is: the token list stays as it is then
abbrev pub SizesAre : List ℕ → List Token → List Instruction → Result (Unit {0}) Refusal → Type 0
SizesAre s ts is (Ok u) = Sized s (length ts) (length is)
SizesAre s ts is (Err f) = Refused s (length ts) (length is) (number_of f.reason) f.place × (ts ≡ tokens_after s (length is) ts)

-- Tokens are compiled: they are a script's that passes the check, and its code stands in front of the list; or the list is as
-- it was, and the grammar or the check refuses them.
abbrev pub CompiledTo : List ℕ → List Token → (before after : List Instruction) → Result ℕ Refusal → Type 0
CompiledTo s ts before after (Ok n) = (t : Script) × Accepted (lexemes s ts) t × (check_script t ≡ accepted tt) × Coded t before after n
CompiledTo s ts before after (Err f) =
    (after ≡ before)
    × (Wrong (lexemes s ts) (length s) (number_of f.reason) f.place
    ⊎ ((t : Script) × Accepted (lexemes s ts) t × (check_script t ≡ refused (number_of f.reason) f.place)))

-- tokens that are few and placed are compiled, where there is room for their code
abbrev pub Compiles : List ℕ → List Token → (before after : List Instruction) → Result ℕ Refusal → Type 0
Compiles s ts before after r = AllPlaced (lexemes s ts) → length ts ≤ token_limit → code_limit ≤ length before → CompiledTo s ts before after r

-- and so are the tokens of a script, which nothing but the check refuses
abbrev pub CompilesScript : List ℕ → List Token → (before after : List Instruction) → Result ℕ Refusal → Type 0
CompilesScript s ts before after r = (t : Script) → Accepted (lexemes s ts) t → Compiles s ts before after r
