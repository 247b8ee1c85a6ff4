-- What the translation of an expression comes to.
use Rattle.std.specs.Prelude.{◌≡◌, ℕ, ◌≤◌, Bool, true, false, not, List, [], ◌∷◌, ◌++◌, length, drop, is_none, Some, None, Ok, Err, Option, Result}
use Rattle.refusal.specs.Told.{accepted, refused, number_of}
use Rattle.refusal.specs.declared.reason.Refusal.{Refusal}
use Rattle.stacks.specs.Held.{Held}
use Rattle.lexer.specs.Lexeme.{Lexeme}
use Rattle.lexer.specs.Reading.{lexemes}
use Rattle.lexer.specs.declared.kind.Kind.TheVariants as K
use Rattle.lexer.specs.declared.kind.Token.{Token}
use Rattle.meaning.specs.declared.operator.Scalar.{Scalar}
use Rattle.meaning.specs.declared.operator.Scalar.TheVariants.{Bool as bool, Char as char, Int as int}
use Rattle.meaning.specs.declared.operator.Operator.{Operator}
use Rattle.meaning.specs.Trees.{Ident, Expr, constant, variable, call, bracket, unary, binary, Args}
use Rattle.meaning.specs.Written.{sign, binary_kind, expr_lexemes, args_lexemes}
use Rattle.meaning.specs.Grammar.{Grouped, GroupedArgs}
use Rattle.meaning.specs.Scopes.{cells}
use Rattle.meaning.specs.Check.{Scope, called, type_of, arg_types, check_whole}
use Rattle.meaning.proofs.Parsed.{EndsE}
use Rattle.machine.specs.declared.instruction.Instruction.{Instruction}
use Rattle.layout.proofs.Compiled.{is_char, codes_of, plainly, past, expr_end, expr_code, args_end, args_code, leaves_nothing}
use Rattle.translator.specs.Translation.{code_limit}
use Rattle.translator.specs.Code.{Placed, coded}
use Rattle.translator.specs.Names.{scope_of, return_of}
use Rattle.translator.specs.declared.name.Name.{Name}
use Rattle.translator.specs.declared.name.Callee.{Callee}
use Rattle.translator.specs.declared.name.Callee.TheVariants as C
use Rattle.translator.specs.declared.typed.Typed.{Typed}
use Rattle.translator.specs.declared.typed.Called.{Called}
use Rattle.translator.specs.declared.typed.Listed.{Listed}
use Rattle.translator.specs.declared.typed.Given.{Given}
use Rattle.translator.specs.declared.typed.Given.TheVariants.{Nothing, One, Many}

-- every place fits an int
unfoldable pub AllPlaced : List Lexeme → Type 0
AllPlaced [] = Unit {0}
AllPlaced (l ∷ ls) = Placed l.place × AllPlaced ls

-- The expression e, with operators outside brackets no looser than n, stands at a place of the tokens, and there is room
-- for its code after what the code stack holds.
pub record ExprAt (n : ℕ) (s : List ℕ) (ts : List Token) (at : ℕ) (Γ : Scope) (C : Held Instruction) (e : Expr) : Type 0 where
  pub rest : List Lexeme
  pub code : List Instruction
  pub placed : AllPlaced (lexemes s ts)
  pub few : cells Γ ≤ 64
  pub grouped : Grouped e n
  pub ends : EndsE n e rest
  pub stands : drop at (lexemes s ts) ≡ expr_lexemes e rest
  pub begun : C ≡ coded code
  pub room : expr_end e Γ (length code) ≤ code_limit

-- What was made of e: its type, the place after it, and its code; or its first fault.
abbrev pub ExprDone : List ℕ → List Token → Scope → Held Instruction → Expr → List Lexeme → List Instruction → Result Typed Refusal → Type 0
ExprDone s ts Γ D e rest code (Ok r) =
    (type_of e Γ ≡ accepted r.kind) × (drop r.end (lexemes s ts) ≡ rest) × (D ≡ coded (code ++ expr_code e Γ (length code)))
ExprDone s ts Γ D e rest code (Err f) = type_of e Γ ≡ refused (number_of f.reason) f.place

-- where the expression e stands there, it is translated
abbrev pub TranslatesAs : ℕ → List ℕ → List Token → ℕ → Held Name → Held Instruction → Held Instruction → Expr → Result Typed Refusal → Type 0
TranslatesAs n s ts at N C D e r =
    (h : ExprAt n s ts at (scope_of s N.held) C e) → ExprDone s ts (scope_of s N.held) D e h.rest h.code r

-- whatever expression stands there is translated
abbrev pub Translates : ℕ → List ℕ → List Token → ℕ → Held Name → Held Instruction → Held Instruction → Result Typed Refusal → Type 0
Translates n s ts at N C D r = (e : Expr) → TranslatesAs n s ts at N C D e r

-- The left operand a of the operator o is translated, and the operator's mark, at p, and the right operand b follow.
pub record JoinAt (n : ℕ) (s : List ℕ) (ts : List Token) (left : Typed) (Γ : Scope) (C : Held Instruction) (o : Operator) (a : Expr) (p : ℕ) (b : Expr) : Type 0 where
  pub rest : List Lexeme
  pub code : List Instruction
  pub mark : Lexeme
  pub placed : AllPlaced (lexemes s ts)
  pub few : cells Γ ≤ 64
  pub grouped : Grouped b n
  pub ends : EndsE n b rest
  pub stands : drop left.end (lexemes s ts) ≡ mark ∷ expr_lexemes b rest
  pub place : mark.place ≡ p
  pub typed : type_of a Γ ≡ accepted left.kind
  pub begun : C ≡ coded (code ++ expr_code a Γ (length code))
  pub room : expr_end (binary o p a b) Γ (length code) ≤ code_limit

-- whatever operands stand there are joined
abbrev pub Joins : ℕ → List ℕ → List Token → Typed → Operator → Held Name → Held Instruction → Held Instruction → Result Typed Refusal → Type 0
Joins n s ts left o N C D r =
    (a : Expr) (p : ℕ) (b : Expr) (h : JoinAt n s ts left (scope_of s N.held) C o a p b)
    → ExprDone s ts (scope_of s N.held) D (binary o p a b) h.rest h.code r

-- the instructions of an operator whose operands are on the stack
abbrev pub Operates : Held Instruction → Operator → Scalar → ℕ → Held Instruction → Type 0
Operates before o t p after =
    (C : List Instruction) → before ≡ coded C → past (codes_of o (is_char (accepted t))) (length C) ≤ code_limit → Placed p
    → after ≡ coded (C ++ plainly (codes_of o (is_char (accepted t))) p)

-- the type that an operator gives, or the fault at its place
abbrev pub Results : Option Scalar → ℕ → ℕ → Result Typed Refusal → Type 0
Results g p end (Ok r) = (g ≡ Some r.kind) × (r.end ≡ end)
Results g p end (Err f) = (g ≡ None) × (number_of f.reason ≡ 15) × (f.place ≡ p)

-- the arguments of a call, as far as they matter
abbrev pub given_of : List Scalar → Given
given_of [] = Nothing
given_of (t ∷ []) = One t
given_of (t ∷ u ∷ ts) = Many

-- whether a function takes an int
abbrev pub takes_int : Callee → Bool
takes_int C.Zone = true
takes_int C.Columns = false
takes_int C.Rows = false
takes_int C.Report = true
takes_int C.Main = false

-- whether what takes an int, or nothing, takes these arguments
abbrev pub takes_given : Bool → Given → Bool
takes_given b Nothing = not b
takes_given b (One bool) = false
takes_given b (One char) = false
takes_given b (One int) = b
takes_given b Many = false

-- Arguments and the bracket that closes them stand at a place of the tokens.
pub record ArgsAt (s : List ℕ) (ts : List Token) (at : ℕ) (Γ : Scope) (C : Held Instruction) (xs : Args) : Type 0 where
  pub close : ℕ
  pub rest : List Lexeme
  pub code : List Instruction
  pub placed : AllPlaced (lexemes s ts)
  pub few : cells Γ ≤ 64
  pub grouped : GroupedArgs xs
  pub stands : drop at (lexemes s ts) ≡ args_lexemes xs (sign K.CloseParen close ∷ rest)
  pub begun : C ≡ coded code
  pub room : args_end xs Γ (length code) ≤ code_limit

-- What was made of them: their types as far as they matter, the place after the bracket, and their code; or the first fault.
abbrev pub ArgsDone : List ℕ → List Token → Scope → Held Instruction → Args → List Lexeme → List Instruction → Result Listed Refusal → Type 0
ArgsDone s ts Γ D xs rest code (Ok r) =
    (us : List Scalar) × (arg_types xs Γ ≡ accepted us) × (r.given ≡ given_of us) × (drop r.end (lexemes s ts) ≡ rest) × (D ≡ coded (code ++ args_code xs Γ (length code)))
ArgsDone s ts Γ D xs rest code (Err f) = arg_types xs Γ ≡ refused (number_of f.reason) f.place

-- whatever arguments stand there are translated
abbrev pub TranslatesArgs : List ℕ → List Token → ℕ → Held Name → Held Instruction → Held Instruction → Result Listed Refusal → Type 0
TranslatesArgs s ts at N C D r =
    (xs : Args) (h : ArgsAt s ts at (scope_of s N.held) C xs) → ArgsDone s ts (scope_of s N.held) D xs h.rest h.code r

-- What was made of a call: what it gives, the place after it, and its code; or its first fault.
abbrev pub CallDone : List ℕ → List Token → Scope → Held Instruction → Ident → ℕ × ℕ → Args → List Lexeme → List Instruction → Result Called Refusal → Type 0
CallDone s ts Γ D x q xs rest code (Ok r) =
    (called Γ x (arg_types xs Γ) ≡ accepted (return_of r.gives)) × (drop r.end (lexemes s ts) ≡ rest) × (D ≡ coded (code ++ expr_code (call x q xs) Γ (length code)))
CallDone s ts Γ D x q xs rest code (Err f) = called Γ x (arg_types xs Γ) ≡ refused (number_of f.reason) f.place

-- whatever call stands there is translated
abbrev pub TranslatesCall : List ℕ → List Token → ℕ → Held Name → Held Instruction → Held Instruction → Result Called Refusal → Type 0
TranslatesCall s ts at N C D r =
    (x : Ident) (q : ℕ × ℕ) (xs : Args) (h : ExprAt 0 s ts at (scope_of s N.held) C (call x q xs))
    → CallDone s ts (scope_of s N.held) D x q xs h.rest h.code r

-- the leftmost operand of an expression
unfoldable pub first_of : Expr → Expr
first_of (constant c) = constant c
first_of (variable x) = variable x
first_of (call x q xs) = call x q xs
first_of (bracket q e) = bracket q e
first_of (unary u p e) = unary u p e
first_of (binary o p a b) = first_of a

-- the lexemes of an expression after its leftmost operand
unfoldable pub after_first : Expr → List Lexeme → List Lexeme
after_first (constant c) r = r
after_first (variable x) r = r
after_first (call x q xs) r = r
after_first (bracket q e) r = r
after_first (unary u p e) r = r
after_first (binary o p a b) r = after_first a (sign (binary_kind o) p ∷ expr_lexemes b r)

-- The leftmost operand of e is translated, and the rest of e follows.
pub record TailsAt (n : ℕ) (s : List ℕ) (ts : List Token) (left : Typed) (Γ : Scope) (C : Held Instruction) (e : Expr) : Type 0 where
  pub rest : List Lexeme
  pub code : List Instruction
  pub placed : AllPlaced (lexemes s ts)
  pub few : cells Γ ≤ 64
  pub grouped : Grouped e n
  pub ends : EndsE n e rest
  pub stands : drop left.end (lexemes s ts) ≡ after_first e rest
  pub typed : type_of (first_of e) Γ ≡ accepted left.kind
  pub begun : C ≡ coded (code ++ expr_code (first_of e) Γ (length code))
  pub room : expr_end e Γ (length code) ≤ code_limit

-- whatever expression began there is translated to its end
abbrev pub Continues : ℕ → List ℕ → List Token → Typed → Held Name → Held Instruction → Held Instruction → Result Typed Refusal → Type 0
Continues n s ts left N C D r =
    (e : Expr) (h : TailsAt n s ts left (scope_of s N.held) C e) → ExprDone s ts (scope_of s N.held) D e h.rest h.code r

-- What was made of a whole expression statement before a semicolon: what it gives, the place of the semicolon, and its
-- code; or its first fault.
abbrev pub WholeDone : List ℕ → List Token → Scope → Held Instruction → Expr → List Lexeme → List Instruction → Result Called Refusal → Type 0
WholeDone s ts Γ D e rest code (Ok r) =
    (check_whole e Γ ≡ accepted tt) × (drop r.end (lexemes s ts) ≡ rest) × (D ≡ coded (code ++ expr_code e Γ (length code))) × (leaves_nothing e Γ ≡ is_none r.gives)
WholeDone s ts Γ D e rest code (Err f) = check_whole e Γ ≡ refused (number_of f.reason) f.place

-- whatever expression stands there before a semicolon is translated as a statement
abbrev pub TranslatesWhole : List ℕ → List Token → ℕ → Held Name → Held Instruction → Held Instruction → Result Called Refusal → Type 0
TranslatesWhole s ts at N C D r =
    (e : Expr) (p : ℕ) (ls : List Lexeme) (h : ExprAt 6 s ts at (scope_of s N.held) C e) → h.rest ≡ sign K.Semicolon p ∷ ls
    → WholeDone s ts (scope_of s N.held) D e h.rest h.code r
