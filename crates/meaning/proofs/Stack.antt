-- A machine that reads scripts token by token. Its state is the stack of what has yet to come. A step takes one token, says
-- the depth of what begins there (0 where nothing does), and gives the next stack; beside it stands how the trees of the
-- old stack are made from those of the new one.
use Rattle.std.proofs.Common.{ℕ, zero, suc, pred, Bool, true, false, cond, not, eqb, List, [], ◌∷◌}
use mathlib.Core.Option.{Option, none, some}
use Rattle.std.specs.Str.{bytes_eq}
use Rattle.meaning.specs.declared.operator.Scalar.{Scalar}
use Rattle.meaning.specs.declared.operator.Scalar.TheVariants.{Bool as bool, Char as char, Int as int}
use Rattle.meaning.specs.declared.operator.Operator.{Operator}
use Rattle.meaning.specs.declared.operator.Operator.TheVariants.{Add, Subtract, Multiply, Divide, Remainder, Less, LessEqual, Greater, GreaterEqual, Equal, NotEqual, And, Or}
use Rattle.meaning.specs.Trees.{Ident, Constant, negate, invert, Expr, constant, variable, call, bracket, unary, binary, Args, no_args, args, Exprs, last, more, Modifier, Stmt, block, define, assign, modify, evaluate, if_then, if_else, while, do_while, for_to, break, continue, return, return_bare, Stmts, nil, cons, Return as Answer, void, gives, Parameter, nothing, takes, Item, extern, global, Script}
use Rattle.meaning.specs.Written.{main_name}
use Rattle.meaning.specs.Grammar.{looseness}
use Rattle.meaning.proofs.Tokens.{Word, Void, Extern, Static, If, Else, While, Do, For, To, Break, Continue, Return, Assign, OpenParen, CloseParen, OpenBrace, CloseBrace, Comma, Semicolon, Tok, name, value, type, operator, bang, modifier, word, stray}

-- Tests of a token.

abbrev pub word_code : Word → ℕ
word_code Void = 0
word_code Extern = 1
word_code Static = 2
word_code If = 3
word_code Else = 4
word_code While = 5
word_code Do = 6
word_code For = 7
word_code To = 8
word_code Break = 9
word_code Continue = 10
word_code Return = 11
word_code Assign = 12
word_code OpenParen = 13
word_code CloseParen = 14
word_code OpenBrace = 15
word_code CloseBrace = 16
word_code Comma = 17
word_code Semicolon = 18

abbrev pub same_word : Word → Word → Bool
same_word v w = eqb (word_code v) (word_code w)

-- the place of a keyword or mark, where the token is that one
abbrev pub at : Word → Tok → Option ℕ
at w (name x) = none
at w (value c) = none
at w (type t p) = none
at w (operator o p) = none
at w (bang p) = none
at w (modifier m p) = none
at w (word v p) = cond (same_word w v) (some p) none
at w stray = none

-- whether the token is that keyword or mark
abbrev pub is_word : Word → Tok → Bool
is_word w (name x) = false
is_word w (value c) = false
is_word w (type t p) = false
is_word w (operator o p) = false
is_word w (bang p) = false
is_word w (modifier m p) = false
is_word w (word v p) = same_word w v
is_word w stray = false

abbrev pub as_name : Tok → Option Ident
as_name (name x) = some x
as_name (value c) = none
as_name (type t p) = none
as_name (operator o p) = none
as_name (bang p) = none
as_name (modifier m p) = none
as_name (word v p) = none
as_name stray = none

abbrev pub as_constant : Tok → Option Constant
as_constant (name x) = none
as_constant (value c) = some c
as_constant (type t p) = none
as_constant (operator o p) = none
as_constant (bang p) = none
as_constant (modifier m p) = none
as_constant (word v p) = none
as_constant stray = none

abbrev pub as_modifier : Tok → Option (Modifier × ℕ)
as_modifier (name x) = none
as_modifier (value c) = none
as_modifier (type t p) = none
as_modifier (operator o p) = none
as_modifier (bang p) = none
as_modifier (modifier m p) = some (m, p)
as_modifier (word v p) = none
as_modifier stray = none

abbrev pub as_type : Tok → Option (Scalar × ℕ)
as_type (name x) = none
as_type (value c) = none
as_type (type t p) = some (t, p)
as_type (operator o p) = none
as_type (bang p) = none
as_type (modifier m p) = none
as_type (word v p) = none
as_type stray = none

abbrev pub as_result : Tok → Option (Answer × ℕ)
as_result (name x) = none
as_result (value c) = none
as_result (type t p) = some (gives t, p)
as_result (operator o p) = none
as_result (bang p) = none
as_result (modifier m p) = none
as_result (word v p) = cond (same_word Void v) (some (void, p)) none
as_result stray = none

abbrev pub int_place : Scalar → ℕ → Option ℕ
int_place bool p = none
int_place char p = none
int_place int p = some p

abbrev pub as_int : Tok → Option ℕ
as_int (name x) = none
as_int (value c) = none
as_int (type t p) = int_place t p
as_int (operator o p) = none
as_int (bang p) = none
as_int (modifier m p) = none
as_int (word v p) = none
as_int stray = none

-- how loosely a token binds as an operator: more than any does, where it is none
abbrev pub loose : Tok → ℕ
loose (name x) = 7
loose (value c) = 7
loose (type t p) = 7
loose (operator o p) = looseness o
loose (bang p) = 7
loose (modifier m p) = 7
loose (word v p) = 7
loose stray = 7

-- how a statement that begins with a name goes on
pub data Assigning : Type 0 where
  plainly : ℕ → Assigning
  modifying : Modifier → ℕ → Assigning
  neither : Assigning

abbrev pub assigning : Tok → Assigning
assigning (name x) = neither
assigning (value c) = neither
assigning (type t p) = neither
assigning (operator o p) = neither
assigning (bang p) = neither
assigning (modifier m p) = modifying m p
assigning (word v p) = cond (same_word Assign v) (plainly p) neither
assigning stray = neither

-- What can stand on the stack, and the trees it stands for.

-- the further operands of one level
pub data Tail : Type 0 where
  done : Tail
  link : Operator → ℕ → Expr → Tail → Tail

-- what follows an argument
pub data More : Type 0 where
  end : More
  comma : ℕ → Exprs → More

-- what follows the body of an `if`
pub data Otherwise : Type 0 where
  absent : Otherwise
  other : ℕ → Stmt → Otherwise

pub data Sym : Type 0 where
  token : Word → Sym
  a_name a_constant a_result an_int parameter : Sym
  -- an expression at a depth with no operator outside brackets that takes two operands; one that has begun with a name
  operand : ℕ → Sym
  called : ℕ → Ident → Sym
  -- further operands of a level, at a depth
  tail : (level depth : ℕ) → Sym
  expr exprs further arguments : ℕ → Sym
  -- a statement; one that has begun with a name, or with `return` at a place
  statement : ℕ → Sym
  named : ℕ → Ident → Sym
  returned : ℕ → ℕ → Sym
  statements orelse : ℕ → Sym
  -- a script; one that has begun with `static`, perhaps; after that with `int`; after that with the name `main`
  script : Sym
  declared : Option ℕ → Sym
  integer : Option ℕ → ℕ → Sym
  mainly : Option ℕ → ℕ → ℕ → Sym

abbrev pub Value : Sym → Type 0
Value (token w) = ℕ
Value a_name = Ident
Value a_constant = Constant
Value a_result = Answer × ℕ
Value an_int = ℕ
Value parameter = Parameter
Value (operand d) = Expr
Value (called d x) = Expr
Value (tail n d) = Tail
Value (expr d) = Expr
Value (exprs d) = Exprs
Value (further d) = More
Value (arguments d) = Args
Value (statement d) = Stmt
Value (named d x) = Stmt
Value (returned d p) = Stmt
Value (statements d) = Stmts
Value (orelse d) = Otherwise
Value script = Script
Value (declared s) = Script
Value (integer s p) = Script
Value (mainly s p q) = Script

abbrev pub Values : List Sym → Type 0
Values [] = Unit {0}
Values (A ∷ K) = Value A × Values K

-- no step, or a step at a depth to a new stack
pub data Step (K : List Sym) : Type 0 where
  stop : Step K
  on : ℕ → (L : List Sym) → (Values L → Values K) → Step K

abbrev pub onto : {K L : List Sym} → (Values K → Values L) → Step K → Step L
onto g stop = stop
onto g (on d M f) = on d M (λ vs. g (f vs))

-- Expressions: an operand, then for each level from 1 the further operands.

abbrev pub tails_to : ℕ → ℕ → List Sym → List Sym
tails_to zero d K = K
tails_to (suc n) d K = tails_to n d (tail (suc n) d ∷ K)

-- an operand with further ones of a level, grouped to the left
abbrev pub attach : Expr → Tail → Expr
attach e done = e
attach e (link o p b t) = attach (binary o p e b) t

abbrev pub gather : (n d : ℕ) (K : List Sym) → Expr → Values (tails_to n d K) → Expr × Values K
gather zero d K e vs = (e, vs)
gather (suc n) d K e vs =
    let g = gather n d (tail (suc n) d ∷ K) e vs in (attach g.0 g.1.0, g.1.1)

-- The rules: what each symbol does with a token.

abbrev pub terminal : (A : Sym) (K : List Sym) → Option (Value A) → Step (A ∷ K)
terminal A K none = stop
terminal A K (some v) = on 0 K (λ vs. (v, vs))

abbrev pub call_rule : (d : ℕ) (x : Ident) (K : List Sym) → Option ℕ → Step (called d x ∷ K)
call_rule d x K none = stop
call_rule d x K (some p) = on 0 (arguments (suc d) ∷ token CloseParen ∷ K) (λ vs. (call x (p, vs.1.0) vs.0, vs.1.1))

abbrev pub called_step : (d : ℕ) (x : Ident) (t : Tok) (K : List Sym) → Step K → Step (called d x ∷ K)
called_step d x t K s = cond (is_word OpenParen t) (call_rule d x K (at OpenParen t)) (onto (λ vs. (variable x, vs)) s)

abbrev pub minus_rule : Operator → (d p : ℕ) (K : List Sym) → Step (operand d ∷ K)
minus_rule Add d p K = stop
minus_rule Subtract d p K = on d (operand (suc d) ∷ K) (λ vs. (unary negate p vs.0, vs.1))
minus_rule Multiply d p K = stop
minus_rule Divide d p K = stop
minus_rule Remainder d p K = stop
minus_rule Less d p K = stop
minus_rule LessEqual d p K = stop
minus_rule Greater d p K = stop
minus_rule GreaterEqual d p K = stop
minus_rule Equal d p K = stop
minus_rule NotEqual d p K = stop
minus_rule And d p K = stop
minus_rule Or d p K = stop

abbrev pub bracket_rule : (d : ℕ) (K : List Sym) → Option ℕ → Step (operand d ∷ K)
bracket_rule d K none = stop
bracket_rule d K (some p) = on d (expr (suc d) ∷ token CloseParen ∷ K) (λ vs. (bracket (p, vs.1.0) vs.0, vs.1.1))

abbrev pub operand_rule : (d : ℕ) → Tok → (K : List Sym) → Step (operand d ∷ K)
operand_rule d (name x) K = on d (called d x ∷ K) (λ vs. vs)
operand_rule d (value c) K = on d K (λ vs. (constant c, vs))
operand_rule d (type t p) K = stop
operand_rule d (operator o p) K = minus_rule o d p K
operand_rule d (bang p) K = on d (operand (suc d) ∷ K) (λ vs. (unary invert p vs.0, vs.1))
operand_rule d (modifier m p) K = stop
operand_rule d (word w p) K = bracket_rule d K (at OpenParen (word w p))
operand_rule d stray K = stop

abbrev pub tail_rule : (n d : ℕ) → Tok → (K : List Sym) → Step (tail n d ∷ K)
tail_rule n d (name x) K = stop
tail_rule n d (value c) K = stop
tail_rule n d (type t p) K = stop
tail_rule n d (operator o p) K = on 0 (operand d ∷ tails_to (pred n) d (tail n d ∷ K)) (λ vs. let g = gather (pred n) d (tail n d ∷ K) vs.0 vs.1 in (link o p g.0 g.1.0, g.1.1))
tail_rule n d (bang p) K = stop
tail_rule n d (modifier m p) K = stop
tail_rule n d (word w p) K = stop
tail_rule n d stray K = stop

abbrev pub tail_step : (n d : ℕ) (t : Tok) (K : List Sym) → Step K → Step (tail n d ∷ K)
tail_step n d t K s = cond (eqb (loose t) n) (tail_rule n d t K) (onto (λ vs. (done, vs)) s)

abbrev pub tails_step : (n d : ℕ) (t : Tok) (K : List Sym) → Step K → Step (tails_to n d K)
tails_step zero d t K s = s
tails_step (suc n) d t K s = tails_step n d t (tail (suc n) d ∷ K) (tail_step (suc n) d t K s)

abbrev pub expr_rule : (d : ℕ) → Tok → (K : List Sym) → Step (expr d ∷ K)
expr_rule d t K = onto (λ vs. gather 6 d K vs.0 vs.1) (operand_rule d t (tails_to 6 d K))

abbrev pub listed : Expr → More → Exprs
listed e end = last e
listed e (comma p es) = more e p es

abbrev pub exprs_rule : (d : ℕ) → Tok → (K : List Sym) → Step (exprs d ∷ K)
exprs_rule d t K = onto (λ vs. (listed vs.0 vs.1.0, vs.1.1)) (expr_rule d t (further d ∷ K))

abbrev pub further_rule : (d : ℕ) (K : List Sym) → Option ℕ → Step (further d ∷ K)
further_rule d K none = stop
further_rule d K (some p) = on 0 (exprs d ∷ K) (λ vs. (comma p vs.0, vs.1))

-- Statements.

abbrev pub branched : ℕ → ℕ × ℕ → Expr → Stmt → Otherwise → Stmt
branched p q e s absent = if_then p q e s
branched p q e s (other o t) = if_else p q e s o t

-- an expression as a statement, and the same after a name
abbrev pub evaluation : (d : ℕ) → Tok → (K : List Sym) → Step (statement d ∷ K)
evaluation d t K = onto (λ vs. (evaluate vs.0 vs.1.0, vs.1.1)) (expr_rule d t (token Semicolon ∷ K))

abbrev pub named_rule : (d : ℕ) (x : Ident) → Tok → (K : List Sym) → Assigning → Step (named d x ∷ K)
named_rule d x t K (plainly p) = on 0 (expr d ∷ token Semicolon ∷ K) (λ vs. (assign x p vs.0 vs.1.0, vs.1.1))
named_rule d x t K (modifying m p) = on 0 (expr d ∷ token Semicolon ∷ K) (λ vs. (modify m x p vs.0 vs.1.0, vs.1.1))
named_rule d x t K neither =
    onto (λ vs. let g = gather 6 d (token Semicolon ∷ K) vs.0 vs.1 in (evaluate g.0 g.1.0, g.1.1))
    (called_step d x t (tails_to 6 d (token Semicolon ∷ K)) (tails_step 6 d t (token Semicolon ∷ K) (terminal (token Semicolon) K (at Semicolon t))))

abbrev pub returned_rule : (d p : ℕ) → Tok → (K : List Sym) → Option ℕ → Step (returned d p ∷ K)
returned_rule d p t K (some q) = on 0 K (λ vs. (return_bare p q, vs))
returned_rule d p t K none = onto (λ vs. (return p vs.0 vs.1.0, vs.1.1)) (expr_rule d t (token Semicolon ∷ K))

-- a statement that begins with a keyword or a mark; e is what it is as an expression
abbrev pub word_rule : Word → (d p : ℕ) (K : List Sym) → Step (statement d ∷ K) → Step (statement d ∷ K)
word_rule Void d p K e = e
word_rule Extern d p K e = e
word_rule Static d p K e = e
word_rule If d p K e = on d (token OpenParen ∷ expr d ∷ token CloseParen ∷ statement (suc d) ∷ orelse d ∷ K) (λ vs. (branched p (vs.0, vs.1.1.0) vs.1.0 vs.1.1.1.0 vs.1.1.1.1.0, vs.1.1.1.1.1))
word_rule Else d p K e = e
word_rule While d p K e = on d (token OpenParen ∷ expr d ∷ token CloseParen ∷ statement (suc d) ∷ K) (λ vs. (while p (vs.0, vs.1.1.0) vs.1.0 vs.1.1.1.0, vs.1.1.1.1))
word_rule Do d p K e = on d (statement (suc d) ∷ token While ∷ token OpenParen ∷ expr d ∷ token CloseParen ∷ token Semicolon ∷ K) (λ vs. (do_while p vs.0 (vs.1.0, vs.1.1.0, vs.1.1.1.1.0, vs.1.1.1.1.1.0) vs.1.1.1.0, vs.1.1.1.1.1.1))
word_rule For d p K e = on d (token OpenParen ∷ an_int ∷ a_name ∷ token Assign ∷ expr d ∷ token To ∷ expr d ∷ token CloseParen ∷ statement (suc d) ∷ K) (λ vs. (for_to p (vs.0, vs.1.0, vs.1.1.1.0, vs.1.1.1.1.1.0, vs.1.1.1.1.1.1.1.0) vs.1.1.0 vs.1.1.1.1.0 vs.1.1.1.1.1.1.0 vs.1.1.1.1.1.1.1.1.0, vs.1.1.1.1.1.1.1.1.1))
word_rule To d p K e = e
word_rule Break d p K e = on d (token Semicolon ∷ K) (λ vs. (break p vs.0, vs.1))
word_rule Continue d p K e = on d (token Semicolon ∷ K) (λ vs. (continue p vs.0, vs.1))
word_rule Return d p K e = on d (returned d p ∷ K) (λ vs. vs)
word_rule Assign d p K e = e
word_rule OpenParen d p K e = e
word_rule CloseParen d p K e = e
word_rule OpenBrace d p K e = on d (statements (suc d) ∷ token CloseBrace ∷ K) (λ vs. (block (p, vs.1.0) vs.0, vs.1.1))
word_rule CloseBrace d p K e = e
word_rule Comma d p K e = e
word_rule Semicolon d p K e = e

abbrev pub statement_rule : (d : ℕ) → Tok → (K : List Sym) → Step (statement d ∷ K)
statement_rule d (name x) K = on d (named d x ∷ K) (λ vs. vs)
statement_rule d (value c) K = evaluation d (value c) K
statement_rule d (type t p) K = on d (a_name ∷ token Assign ∷ expr d ∷ token Semicolon ∷ K) (λ vs. (define t (p, vs.1.0, vs.1.1.1.0) vs.0 vs.1.1.0, vs.1.1.1.1))
statement_rule d (operator o p) K = evaluation d (operator o p) K
statement_rule d (bang p) K = evaluation d (bang p) K
statement_rule d (modifier m p) K = stop
statement_rule d (word w p) K = word_rule w d p K (evaluation d (word w p) K)
statement_rule d stray K = stop

abbrev pub statements_rule : (d : ℕ) → Tok → (K : List Sym) → Step (statements d ∷ K)
statements_rule d t K = onto (λ vs. (cons vs.0 vs.1.0, vs.1.1)) (statement_rule d t (statements d ∷ K))

abbrev pub orelse_rule : (d : ℕ) (K : List Sym) → Option ℕ → Step (orelse d ∷ K)
orelse_rule d K none = stop
orelse_rule d K (some p) = on 0 (statement (suc d) ∷ K) (λ vs. (other p vs.0, vs.1))

-- Scripts.

-- a script with one item more at its front
abbrev pub prepend : Item → Script → Script
prepend i s = record { items = i ∷ s.items; static = s.static; marks = s.marks; body = s.body; close = s.close }

abbrev pub global_row : List Sym → List Sym
global_row K = token Assign ∷ a_constant ∷ token Semicolon ∷ script ∷ K

abbrev pub parameter_rule : (K : List Sym) → Option (Scalar × ℕ) → Step (parameter ∷ K)
parameter_rule K none = stop
parameter_rule K (some t) = on 0 (a_name ∷ K) (λ vs. (takes t.0 t.1 vs.0, vs.1))

abbrev pub mainly_rule : (s : Option ℕ) (p q : ℕ) → Tok → (K : List Sym) → Option ℕ → Step (mainly s p q ∷ K)
mainly_rule s p q t K (some o) =
    on 0 (token CloseParen ∷ token OpenBrace ∷ statements 1 ∷ token CloseBrace ∷ K)
    (λ vs. (record { items = []; static = s; marks = (p, q, o, vs.0, vs.1.0); body = vs.1.1.0; close = vs.1.1.1.0 }, vs.1.1.1.1))
mainly_rule s p q t K none =
    onto (λ vs. (prepend (global s (p, vs.0, vs.1.1.0) int (record { bytes = main_name; place = q }) vs.1.0) vs.1.1.1.0, vs.1.1.1.1))
    (terminal (token Assign) (a_constant ∷ token Semicolon ∷ script ∷ K) (at Assign t))

abbrev pub integer_rule : (s : Option ℕ) (p : ℕ) (K : List Sym) → Option Ident → Step (integer s p ∷ K)
integer_rule s p K none = stop
integer_rule s p K (some x) =
    cond (bytes_eq x.bytes main_name)
    (on 0 (mainly s p x.place ∷ K) (λ vs. vs))
    (on 0 (global_row K) (λ vs. (prepend (global s (p, vs.0, vs.1.1.0) int x vs.1.0) vs.1.1.1.0, vs.1.1.1.1)))

abbrev pub global_rule : (s : Option ℕ) (t : Scalar) (p : ℕ) (K : List Sym) → Step (declared s ∷ K)
global_rule s t p K =
    on 0 (a_name ∷ global_row K)
    (λ vs. (prepend (global s (p, vs.1.0, vs.1.1.1.0) t vs.0 vs.1.1.0) vs.1.1.1.1.0, vs.1.1.1.1.1))

abbrev pub typed_rule : (s : Option ℕ) (t : Scalar) (p : ℕ) (K : List Sym) → Step (declared s ∷ K)
typed_rule s bool p K = global_rule s bool p K
typed_rule s char p K = global_rule s char p K
typed_rule s int p K = on 0 (integer s p ∷ K) (λ vs. vs)

abbrev pub declared_rule : (s : Option ℕ) (K : List Sym) → Option (Scalar × ℕ) → Step (declared s ∷ K)
declared_rule s K none = stop
declared_rule s K (some t) = typed_rule s t.0 t.1 K

abbrev pub extern_row : List Sym → List Sym
extern_row K = a_result ∷ a_name ∷ token OpenParen ∷ parameter ∷ token CloseParen ∷ token Semicolon ∷ script ∷ K

abbrev pub extern_rule : (p : ℕ) (K : List Sym) → Step (script ∷ K)
extern_rule p K =
    on 0 (extern_row K)
    (λ vs. (prepend (extern (p, vs.0.1, vs.1.1.0, vs.1.1.1.1.0, vs.1.1.1.1.1.0) vs.0.0 vs.1.0 vs.1.1.1.0) vs.1.1.1.1.1.1.0, vs.1.1.1.1.1.1.1))

abbrev pub static_rule : (K : List Sym) → Option ℕ → Step (script ∷ K)
static_rule K none = stop
static_rule K (some p) = on 0 (declared (some p) ∷ K) (λ vs. vs)

abbrev pub item_rule : (t : Tok) (K : List Sym) → Option ℕ → Step (script ∷ K)
item_rule t K (some p) = extern_rule p K
item_rule t K none = static_rule K (at Static t)

abbrev pub script_rule : Tok → (K : List Sym) → Step (script ∷ K)
script_rule (name x) K = stop
script_rule (value c) K = stop
script_rule (type t p) K = onto (λ vs. vs) (declared_rule none K (some (t, p)))
script_rule (operator o p) K = stop
script_rule (bang p) K = stop
script_rule (modifier m p) K = stop
script_rule (word w p) K = item_rule (word w p) K (at Extern (word w p))
script_rule stray K = stop

abbrev pub rule : (A : Sym) → Tok → (K : List Sym) → Step (A ∷ K)
rule (token w) t K = terminal (token w) K (at w t)
rule a_name t K = terminal a_name K (as_name t)
rule a_constant t K = terminal a_constant K (as_constant t)
rule a_result t K = terminal a_result K (as_result t)
rule an_int t K = terminal an_int K (as_int t)
rule parameter t K = parameter_rule K (as_type t)
rule (operand d) t K = operand_rule d t K
rule (called d x) t K = call_rule d x K (at OpenParen t)
rule (tail n d) t K = tail_rule n d t K
rule (expr d) t K = expr_rule d t K
rule (exprs d) t K = exprs_rule d t K
rule (further d) t K = further_rule d K (at Comma t)
rule (arguments d) t K = onto (λ vs. (args vs.0, vs.1)) (exprs_rule d t K)
rule (statement d) t K = statement_rule d t K
rule (named d x) t K = named_rule d x t K (assigning t)
rule (returned d p) t K = returned_rule d p t K (at Semicolon t)
rule (statements d) t K = statements_rule d t K
rule (orelse d) t K = orelse_rule d K (at Else t)
rule script t K = script_rule t K
rule (declared s) t K = declared_rule s K (as_type t)
rule (integer s p) t K = integer_rule s p K (as_name t)
rule (mainly s p q) t K = mainly_rule s p q t K (at OpenParen t)

-- the tree of a symbol that may stand for no token
abbrev pub empty : (A : Sym) → Option (Value A)
empty (token w) = none
empty a_name = none
empty a_constant = none
empty a_result = none
empty an_int = none
empty parameter = some nothing
empty (operand d) = none
empty (called d x) = some (variable x)
empty (tail n d) = some done
empty (expr d) = none
empty (exprs d) = none
empty (further d) = some end
empty (arguments d) = some no_args
empty (statement d) = none
empty (named d x) = none
empty (returned d p) = none
empty (statements d) = some nil
empty (orelse d) = some absent
empty script = none
empty (declared s) = none
empty (integer s p) = none
empty (mainly s p q) = none

-- whether such a symbol takes the token
abbrev pub absorbs : Sym → Tok → Bool
absorbs (token w) t = true
absorbs a_name t = true
absorbs a_constant t = true
absorbs a_result t = true
absorbs an_int t = true
absorbs parameter t = not (is_word CloseParen t)
absorbs (operand d) t = true
absorbs (called d x) t = is_word OpenParen t
absorbs (tail n d) t = eqb (loose t) n
absorbs (expr d) t = true
absorbs (exprs d) t = true
absorbs (further d) t = is_word Comma t
absorbs (arguments d) t = not (is_word CloseParen t)
absorbs (statement d) t = true
absorbs (named d x) t = true
absorbs (returned d p) t = true
absorbs (statements d) t = not (is_word CloseBrace t)
absorbs (orelse d) t = is_word Else t
absorbs script t = true
absorbs (declared s) t = true
absorbs (integer s p) t = true
absorbs (mainly s p q) t = true

abbrev pub choose : (A : Sym) (t : Tok) (K : List Sym) → Option (Value A) → Step K → Step (A ∷ K)
choose A t K none s = rule A t K
choose A t K (some v) s = cond (absorbs A t) (rule A t K) (onto (λ vs. (v, vs)) s)

-- A step. A symbol that may stand for no token and does not take this one is left out.
abbrev pub step : (K : List Sym) → Tok → Step K
step [] t = stop
step (A ∷ K) t = choose A t K (empty A) (step K t)

-- whether nothing more has to come
abbrev pub optional : {X : Type 0} → Option X → Bool
optional none = false
optional (some x) = true

abbrev pub closed : List Sym → Bool
closed [] = true
closed (A ∷ K) = cond (optional (empty A)) (cond (absorbs A stray) false (closed K)) false
