-- What stands in the source of a tree: its lexemes in order, and the depth of what begins at each of them. Each function
-- takes as its last argument what follows the tree.
use Rattle.std.specs.Prelude.{ℕ, true, false, List, [], ◌∷◌, pos, codes}
use Rattle.std.proofs.Math.Option.{Option, none, some}
use Rattle.lexer.specs.Lexeme.{Lexeme}
use Rattle.lexer.specs.declared.kind.Kind.{Kind}
use Rattle.lexer.specs.declared.kind.Kind.TheVariants as K
use Rattle.meaning.specs.declared.operator.Scalar.{Scalar}
use Rattle.meaning.specs.declared.operator.Scalar.TheVariants.{Bool as bool, Char as char, Int as int}
use Rattle.meaning.specs.declared.operator.Operator.{Operator}
use Rattle.meaning.specs.declared.operator.Operator.TheVariants.{Add, Subtract, Multiply, Divide, Remainder, Less, LessEqual, Greater, GreaterEqual, Equal, NotEqual, And, Or}
use Rattle.meaning.specs.Trees.{Ident, Constant, number, character, truth, Unary, negate, invert, Expr, constant, variable, call, bracket, unary, binary, Args, no_args, args, Exprs, last, more, Modifier, plus, minus, times, over, modulo, both, either, Stmt, block, define, assign, modify, evaluate, if_then, if_else, while, do_while, for_to, break, continue, return, return_bare, Stmts, nil, cons, Return, void, gives, Parameter, nothing, takes, Item, extern, global, Script}

-- a keyword or a mark at a place
abbrev pub sign : Kind → ℕ → Lexeme
sign k p = record { kind = k; name = []; value = pos 0; place = p }

-- a name
abbrev pub ident : Ident → Lexeme
ident x = record { kind = K.Name; name = x.bytes; value = pos 0; place = x.place }

-- a constant
abbrev pub literal : Constant → Lexeme
literal (number v p) = record { kind = K.Number; name = []; value = v; place = p }
literal (character v p) = record { kind = K.Character; name = []; value = v; place = p }
literal (truth true p) = sign K.True p
literal (truth false p) = sign K.False p

-- the keyword of a type
abbrev pub type_kind : Scalar → Kind
type_kind bool = K.Bool
type_kind char = K.Char
type_kind int = K.Int

-- the mark of a prefix operator
abbrev pub unary_kind : Unary → Kind
unary_kind negate = K.Minus
unary_kind invert = K.Not

-- the mark of an operator
abbrev pub binary_kind : Operator → Kind
binary_kind Add = K.Plus
binary_kind Subtract = K.Minus
binary_kind Multiply = K.Star
binary_kind Divide = K.Slash
binary_kind Remainder = K.Percent
binary_kind Less = K.Less
binary_kind LessEqual = K.LessEqual
binary_kind Greater = K.Greater
binary_kind GreaterEqual = K.GreaterEqual
binary_kind Equal = K.Equal
binary_kind NotEqual = K.NotEqual
binary_kind And = K.And
binary_kind Or = K.Or

-- the mark of a modifier
abbrev pub modifier_kind : Modifier → Kind
modifier_kind plus = K.PlusAssign
modifier_kind minus = K.MinusAssign
modifier_kind times = K.StarAssign
modifier_kind over = K.SlashAssign
modifier_kind modulo = K.PercentAssign
modifier_kind both = K.AndAssign
modifier_kind either = K.OrAssign

-- the lexemes of an expression, and of arguments
unfoldable mutual
  pub expr_lexemes : Expr → List Lexeme → List Lexeme
  expr_lexemes (constant c) r = literal c ∷ r
  expr_lexemes (variable x) r = ident x ∷ r
  expr_lexemes (call x q xs) r = ident x ∷ sign K.OpenParen q.0 ∷ args_lexemes xs (sign K.CloseParen q.1 ∷ r)
  expr_lexemes (bracket q e) r = sign K.OpenParen q.0 ∷ expr_lexemes e (sign K.CloseParen q.1 ∷ r)
  expr_lexemes (unary u p e) r = sign (unary_kind u) p ∷ expr_lexemes e r
  expr_lexemes (binary o p a b) r = expr_lexemes a (sign (binary_kind o) p ∷ expr_lexemes b r)

  pub args_lexemes : Args → List Lexeme → List Lexeme
  args_lexemes no_args r = r
  args_lexemes (args es) r = exprs_lexemes es r

  pub exprs_lexemes : Exprs → List Lexeme → List Lexeme
  exprs_lexemes (last e) r = expr_lexemes e r
  exprs_lexemes (more e p es) r = expr_lexemes e (sign K.Comma p ∷ exprs_lexemes es r)

-- the lexemes of a statement, and of statements
unfoldable mutual
  pub stmt_lexemes : Stmt → List Lexeme → List Lexeme
  stmt_lexemes (block q ss) r = sign K.OpenBrace q.0 ∷ stmts_lexemes ss (sign K.CloseBrace q.1 ∷ r)
  stmt_lexemes (define t q x e) r = sign (type_kind t) q.0 ∷ ident x ∷ sign K.Assign q.1 ∷ expr_lexemes e (sign K.Semicolon q.2 ∷ r)
  stmt_lexemes (assign x p e q) r = ident x ∷ sign K.Assign p ∷ expr_lexemes e (sign K.Semicolon q ∷ r)
  stmt_lexemes (modify m x p e q) r = ident x ∷ sign (modifier_kind m) p ∷ expr_lexemes e (sign K.Semicolon q ∷ r)
  stmt_lexemes (evaluate e q) r = expr_lexemes e (sign K.Semicolon q ∷ r)
  stmt_lexemes (if_then p q e s) r =
      sign K.If p ∷ sign K.OpenParen q.0 ∷ expr_lexemes e (sign K.CloseParen q.1 ∷ stmt_lexemes s r)
  stmt_lexemes (if_else p q e s o t) r =
      sign K.If p ∷ sign K.OpenParen q.0 ∷ expr_lexemes e (sign K.CloseParen q.1 ∷ stmt_lexemes s (sign K.Else o ∷ stmt_lexemes t r))
  stmt_lexemes (while p q e s) r =
      sign K.While p ∷ sign K.OpenParen q.0 ∷ expr_lexemes e (sign K.CloseParen q.1 ∷ stmt_lexemes s r)
  stmt_lexemes (do_while p s q e) r =
      sign K.Do p ∷ stmt_lexemes s (sign K.While q.0 ∷ sign K.OpenParen q.1 ∷ expr_lexemes e (sign K.CloseParen q.2 ∷ sign K.Semicolon q.3 ∷ r))
  stmt_lexemes (for_to p q x a b s) r =
      sign K.For p ∷ sign K.OpenParen q.0 ∷ sign K.Int q.1 ∷ ident x ∷ sign K.Assign q.2
      ∷ expr_lexemes a (sign K.To q.3 ∷ expr_lexemes b (sign K.CloseParen q.4 ∷ stmt_lexemes s r))
  stmt_lexemes (break p q) r = sign K.Break p ∷ sign K.Semicolon q ∷ r
  stmt_lexemes (continue p q) r = sign K.Continue p ∷ sign K.Semicolon q ∷ r
  stmt_lexemes (return p e q) r = sign K.Return p ∷ expr_lexemes e (sign K.Semicolon q ∷ r)
  stmt_lexemes (return_bare p q) r = sign K.Return p ∷ sign K.Semicolon q ∷ r

  pub stmts_lexemes : Stmts → List Lexeme → List Lexeme
  stmts_lexemes nil r = r
  stmts_lexemes (cons s ss) r = stmt_lexemes s (stmts_lexemes ss r)

-- the keyword of what a function gives
abbrev pub return_kind : Return → Kind
return_kind void = K.Void
return_kind (gives t) = type_kind t

-- a parameter, where there is one
abbrev pub parameter_lexemes : Parameter → List Lexeme → List Lexeme
parameter_lexemes nothing r = r
parameter_lexemes (takes t p x) r = sign (type_kind t) p ∷ ident x ∷ r

-- `static`, where it stands
abbrev pub static_lexemes : Option ℕ → List Lexeme → List Lexeme
static_lexemes none r = r
static_lexemes (some p) r = sign K.Static p ∷ r

-- an extern or a global
abbrev pub item_lexemes : Item → List Lexeme → List Lexeme
item_lexemes (extern q t x a) r =
    sign K.Extern q.0 ∷ sign (return_kind t) q.1 ∷ ident x ∷ sign K.OpenParen q.2
    ∷ parameter_lexemes a (sign K.CloseParen q.3 ∷ sign K.Semicolon q.4 ∷ r)
item_lexemes (global s q t x c) r =
    static_lexemes s (sign (type_kind t) q.0 ∷ ident x ∷ sign K.Assign q.1 ∷ literal c ∷ sign K.Semicolon q.2 ∷ r)

-- externs and globals, one after another
unfoldable pub items_lexemes : List Item → List Lexeme → List Lexeme
items_lexemes [] r = r
items_lexemes (i ∷ is) r = item_lexemes i (items_lexemes is r)

-- the name of the function that runs
abbrev pub main_name : List ℕ
main_name = codes "main"

-- [static] int main ( ) {
abbrev pub head_lexemes : Option ℕ → (ℕ × ℕ × ℕ × ℕ × ℕ) → List Lexeme → List Lexeme
head_lexemes s q r =
    static_lexemes s (sign K.Int q.0 ∷ ident (record { bytes = main_name; place = q.1 }) ∷ sign K.OpenParen q.2
    ∷ sign K.CloseParen q.3 ∷ sign K.OpenBrace q.4 ∷ r)

-- the lexemes of a script
unfoldable pub script_lexemes : Script → List Lexeme
script_lexemes s = items_lexemes s.items (head_lexemes s.static s.marks (stmts_lexemes s.body (sign K.CloseBrace s.close ∷ [])))
