-- A script's code has at most four instructions for each of its tokens.
use Rattle.std.proofs.Common.{◌≡◌, ℕ, ◌+◌, ◌*◌, ◌≤◌, Bool, true, false, List, [], ◌∷◌, ◌++◌, length, pos, arith, length-append}
use mathlib.Core.Option.{Option, none, some}
use Rattle.lexer.specs.Lexeme.{Lexeme}
use Rattle.lexer.specs.declared.kind.Kind.TheVariants as K
use Rattle.meaning.specs.declared.operator.Operator.{Operator}
use Rattle.meaning.specs.declared.operator.Operator.TheVariants.{Add, Subtract, Multiply, Divide, Remainder, Less, LessEqual, Greater, GreaterEqual, Equal, NotEqual, And, Or}
use Rattle.meaning.specs.Trees.{Unary, negate, invert, Expr, constant, variable, call, bracket, unary, binary, Args, no_args, args, Exprs, last, more, Stmt, block, define, assign, modify, evaluate, if_then, if_else, while, do_while, for_to, break, continue, return, return_bare, Stmts, nil, cons, Parameter, nothing, takes, Item, extern, global, Script}
use Rattle.meaning.specs.Written.{sign, ident, literal, binary_kind, type_kind, expr_lexemes, args_lexemes, exprs_lexemes, stmt_lexemes, stmts_lexemes, parameter_lexemes, static_lexemes, items_lexemes, main_name, head_lexemes, script_lexemes}
use Rattle.meaning.specs.Scopes.{level}
use Rattle.meaning.specs.Types.{operator_of}
use Rattle.meaning.specs.Check.{Scope, type_of}
use Rattle.machine.specs.declared.instruction.Instruction.{Instruction}
use Rattle.layout.proofs.Compiled.{ins, is_char, codes_of, shape_of, binary_end, unary_end, expr_end, args_end, exprs_end, drop_end, leaves_nothing, scope_after, for_scope, stmt_end, stmts_end, stmts_code, items_end, items_code, main_scope, script_code}
use Rattle.layout.proofs.Walk.{after}
use Rattle.layout.proofs.Ends.{stmts_after}
use Rattle.layout.proofs.Scripts.{items_end_lem}

-- the positions that code takes are its length
after-length : (is : List Instruction) (o : ℕ) → after is o ≡ o + length is
after-length [] o = omega arith
after-length (i ∷ is) o = let h = after-length is (o + 1) in omega arith

-- an operator, by where its operands' code ends: at most three instructions of its own
operator_size : (f : Operator) (c : Bool) (end : ℕ → ℕ) (m k : ℕ) → ((n : ℕ) → end n ≤ n + k) → binary_end (shape_of f) (codes_of f c) end m ≤ m + k + 3
operator_size Add true end m k h = let i = h m in omega arith
operator_size Add false end m k h = let i = h m in omega arith
operator_size Subtract true end m k h = let i = h m in omega arith
operator_size Subtract false end m k h = let i = h m in omega arith
operator_size Multiply true end m k h = let i = h m in omega arith
operator_size Multiply false end m k h = let i = h m in omega arith
operator_size Divide true end m k h = let i = h m in omega arith
operator_size Divide false end m k h = let i = h m in omega arith
operator_size Remainder c end m k h = let i = h m in omega arith
operator_size Less c end m k h = let i = h m in omega arith
operator_size LessEqual c end m k h = let i = h m in omega arith
operator_size Greater c end m k h = let i = h m in omega arith
operator_size GreaterEqual c end m k h = let i = h m in omega arith
operator_size Equal c end m k h = let i = h m in omega arith
operator_size NotEqual c end m k h = let i = h m in omega arith
operator_size And c end m k h = let i = h (m + 1) in omega arith
operator_size Or c end m k h = let i = h (m + 1 + 1 + 1) in omega arith

single_size : (u : Unary) (c : Bool) (end : ℕ → ℕ) (o k : ℕ) → ((n : ℕ) → end n ≤ n + k) → unary_end u c end o ≤ o + k + 3
single_size negate true end o k h = let i = h (o + 1) in omega arith
single_size negate false end o k h = let i = h (o + 1) in omega arith
single_size invert c end o k h = let i = h o in omega arith

-- how many tokens a tree has
unfoldable mutual
  expr_tokens : Expr → ℕ
  expr_tokens (constant c) = 1
  expr_tokens (variable x) = 1
  expr_tokens (call x q xs) = 3 + args_tokens xs
  expr_tokens (bracket q e) = 2 + expr_tokens e
  expr_tokens (unary u p e) = 1 + expr_tokens e
  expr_tokens (binary f p a b) = 1 + expr_tokens a + expr_tokens b

  args_tokens : Args → ℕ
  args_tokens no_args = 0
  args_tokens (args es) = exprs_tokens es

  exprs_tokens : Exprs → ℕ
  exprs_tokens (last e) = expr_tokens e
  exprs_tokens (more e p es) = 1 + expr_tokens e + exprs_tokens es

mutual
  unfolding expr_tokens args_tokens exprs_tokens expr_lexemes args_lexemes exprs_lexemes

  expr_tokens_lem : (e : Expr) (r : List Lexeme) → length (expr_lexemes e r) ≡ expr_tokens e + length r
  expr_tokens_lem (constant c) r = omega arith
  expr_tokens_lem (variable x) r = omega arith
  expr_tokens_lem (call x q xs) r = let i = args_tokens_lem xs (sign K.CloseParen q.1 ∷ r) in omega arith
  expr_tokens_lem (bracket q e) r = let i = expr_tokens_lem e (sign K.CloseParen q.1 ∷ r) in omega arith
  expr_tokens_lem (unary u p e) r = let i = expr_tokens_lem e r in omega arith
  expr_tokens_lem (binary f p a b) r = let j = expr_tokens_lem b r in let i = expr_tokens_lem a (sign (binary_kind f) p ∷ expr_lexemes b r) in omega arith

  args_tokens_lem : (xs : Args) (r : List Lexeme) → length (args_lexemes xs r) ≡ args_tokens xs + length r
  args_tokens_lem no_args r = omega arith
  args_tokens_lem (args es) r = exprs_tokens_lem es r

  exprs_tokens_lem : (es : Exprs) (r : List Lexeme) → length (exprs_lexemes es r) ≡ exprs_tokens es + length r
  exprs_tokens_lem (last e) r = expr_tokens_lem e r
  exprs_tokens_lem (more e p es) r = let j = exprs_tokens_lem es r in let i = expr_tokens_lem e (sign K.Comma p ∷ exprs_lexemes es r) in omega arith

mutual
  unfolding expr_tokens args_tokens exprs_tokens expr_end args_end exprs_end

  expr_size : (e : Expr) (Γ : Scope) (o : ℕ) → expr_end e Γ o ≤ o + 4 * expr_tokens e
  expr_size (constant c) Γ o = omega arith
  expr_size (variable x) Γ o = omega arith
  expr_size (call x q xs) Γ o = let i = args_size xs Γ o in omega arith
  expr_size (bracket q e) Γ o = let i = expr_size e Γ o in omega arith
  expr_size (unary u p e) Γ o = let i = single_size u (is_char (type_of e Γ)) (λ m. expr_end e Γ m) o (4 * expr_tokens e) (λ m. expr_size e Γ m) in omega arith
  expr_size (binary f p a b) Γ o =
      let i = expr_size a Γ o in
      let j = operator_size f (is_char (type_of a Γ)) (λ m. expr_end b Γ m) (expr_end a Γ o) (4 * expr_tokens b) (λ m. expr_size b Γ m) in omega arith

  args_size : (xs : Args) (Γ : Scope) (o : ℕ) → args_end xs Γ o ≤ o + 4 * args_tokens xs
  args_size no_args Γ o = omega arith
  args_size (args es) Γ o = exprs_size es Γ o

  exprs_size : (es : Exprs) (Γ : Scope) (o : ℕ) → exprs_end es Γ o ≤ o + 4 * exprs_tokens es
  exprs_size (last e) Γ o = expr_size e Γ o
  exprs_size (more e p es) Γ o = let i = expr_size e Γ o in let j = exprs_size es Γ (expr_end e Γ o) in omega arith

unfoldable mutual
  stmt_tokens : Stmt → ℕ
  stmt_tokens (block q ss) = 2 + stmts_tokens ss
  stmt_tokens (define t q x e) = 4 + expr_tokens e
  stmt_tokens (assign x p e q) = 3 + expr_tokens e
  stmt_tokens (modify m x p e q) = 3 + expr_tokens e
  stmt_tokens (evaluate e q) = 1 + expr_tokens e
  stmt_tokens (if_then p q e s) = 3 + expr_tokens e + stmt_tokens s
  stmt_tokens (if_else p q e s o t) = 4 + expr_tokens e + stmt_tokens s + stmt_tokens t
  stmt_tokens (while p q e s) = 3 + expr_tokens e + stmt_tokens s
  stmt_tokens (do_while p s q e) = 5 + stmt_tokens s + expr_tokens e
  stmt_tokens (for_to p q x a b s) = 7 + expr_tokens a + expr_tokens b + stmt_tokens s
  stmt_tokens (break p q) = 2
  stmt_tokens (continue p q) = 2
  stmt_tokens (return p e q) = 2 + expr_tokens e
  stmt_tokens (return_bare p q) = 2

  stmts_tokens : Stmts → ℕ
  stmts_tokens nil = 0
  stmts_tokens (cons s ss) = stmt_tokens s + stmts_tokens ss

mutual
  unfolding stmt_tokens stmts_tokens stmt_lexemes stmts_lexemes

  stmt_tokens_lem : (s : Stmt) (r : List Lexeme) → length (stmt_lexemes s r) ≡ stmt_tokens s + length r
  stmt_tokens_lem (block q ss) r = let i = stmts_tokens_lem ss (sign K.CloseBrace q.1 ∷ r) in omega arith
  stmt_tokens_lem (define t q x e) r = let i = expr_tokens_lem e (sign K.Semicolon q.2 ∷ r) in omega arith
  stmt_tokens_lem (assign x p e q) r = let i = expr_tokens_lem e (sign K.Semicolon q ∷ r) in omega arith
  stmt_tokens_lem (modify m x p e q) r = let i = expr_tokens_lem e (sign K.Semicolon q ∷ r) in omega arith
  stmt_tokens_lem (evaluate e q) r = let i = expr_tokens_lem e (sign K.Semicolon q ∷ r) in omega arith
  stmt_tokens_lem (if_then p q e s) r = let j = stmt_tokens_lem s r in let i = expr_tokens_lem e (sign K.CloseParen q.1 ∷ stmt_lexemes s r) in omega arith
  stmt_tokens_lem (if_else p q e s o t) r =
      let k = stmt_tokens_lem t r in
      let j = stmt_tokens_lem s (sign K.Else o ∷ stmt_lexemes t r) in
      let i = expr_tokens_lem e (sign K.CloseParen q.1 ∷ stmt_lexemes s (sign K.Else o ∷ stmt_lexemes t r)) in omega arith
  stmt_tokens_lem (while p q e s) r = let j = stmt_tokens_lem s r in let i = expr_tokens_lem e (sign K.CloseParen q.1 ∷ stmt_lexemes s r) in omega arith
  stmt_tokens_lem (do_while p s q e) r =
      let t = sign K.CloseParen q.2 ∷ sign K.Semicolon q.3 ∷ r in
      let i = expr_tokens_lem e (sign K.CloseParen q.2 ∷ sign K.Semicolon q.3 ∷ r) in
      let j = stmt_tokens_lem s (sign K.While q.0 ∷ sign K.OpenParen q.1 ∷ expr_lexemes e (sign K.CloseParen q.2 ∷ sign K.Semicolon q.3 ∷ r)) in omega arith
  stmt_tokens_lem (for_to p q x a b s) r =
      let k = stmt_tokens_lem s r in
      let j = expr_tokens_lem b (sign K.CloseParen q.4 ∷ stmt_lexemes s r) in
      let i = expr_tokens_lem a (sign K.To q.3 ∷ expr_lexemes b (sign K.CloseParen q.4 ∷ stmt_lexemes s r)) in omega arith
  stmt_tokens_lem (break p q) r = omega arith
  stmt_tokens_lem (continue p q) r = omega arith
  stmt_tokens_lem (return p e q) r = let i = expr_tokens_lem e (sign K.Semicolon q ∷ r) in omega arith
  stmt_tokens_lem (return_bare p q) r = omega arith

  stmts_tokens_lem : (ss : Stmts) (r : List Lexeme) → length (stmts_lexemes ss r) ≡ stmts_tokens ss + length r
  stmts_tokens_lem nil r = omega arith
  stmts_tokens_lem (cons s ss) r = let j = stmts_tokens_lem ss r in let i = stmt_tokens_lem s (stmts_lexemes ss r) in omega arith

drop_size : (b : Bool) (o : ℕ) → drop_end b o ≤ o + 1
drop_size true o = omega arith
drop_size false o = omega arith

mutual
  unfolding stmt_tokens stmts_tokens stmt_end stmts_end expr_tokens

  stmt_size : (s : Stmt) (Γ : Scope) (o : ℕ) → stmt_end s Γ o ≤ o + 4 * stmt_tokens s
  stmt_size (block q ss) Γ o = let i = stmts_size ss (level ∷ Γ) o in omega arith
  stmt_size (define t q x e) Γ o = let i = expr_size e Γ o in omega arith
  stmt_size (assign x p e q) Γ o = let i = expr_size e Γ o in omega arith
  stmt_size (modify m x p e q) Γ o = let i = expr_size (binary (operator_of m) p (variable x) e) Γ o in omega arith
  stmt_size (evaluate e q) Γ o = let i = expr_size e Γ o in let j = drop_size (leaves_nothing e Γ) (expr_end e Γ o) in omega arith
  stmt_size (if_then p q e s) Γ o = let i = expr_size e Γ o in let j = stmt_size s (level ∷ Γ) (expr_end e Γ o + 1) in omega arith
  stmt_size (if_else p q e s r t) Γ o =
      let i = expr_size e Γ o in
      let j = stmt_size s (level ∷ Γ) (expr_end e Γ o + 1) in
      let k = stmt_size t (level ∷ Γ) (stmt_end s (level ∷ Γ) (expr_end e Γ o + 1) + 1) in omega arith
  stmt_size (while p q e s) Γ o = let i = expr_size e Γ (o + 1) in let j = stmt_size s (level ∷ Γ) (expr_end e Γ (o + 1) + 1) in omega arith
  stmt_size (do_while p s q e) Γ o = let j = stmt_size s (level ∷ Γ) (o + 1) in let i = expr_size e Γ (stmt_end s (level ∷ Γ) (o + 1)) in omega arith
  stmt_size (for_to p q x a b s) Γ o =
      let i = expr_size a Γ o in
      let j = expr_size b Γ (expr_end a Γ o) in
      let k = stmt_size s (level ∷ for_scope x.bytes Γ) (expr_end b Γ (expr_end a Γ o) + 1 + 1 + 1 + 1 + 1 + 1 + 1) in omega arith
  stmt_size (break p q) Γ o = omega arith
  stmt_size (continue p q) Γ o = omega arith
  stmt_size (return p e q) Γ o = let i = expr_size e Γ o in omega arith
  stmt_size (return_bare p q) Γ o = omega arith

  stmts_size : (ss : Stmts) (Γ : Scope) (o : ℕ) → stmts_end ss Γ o ≤ o + 4 * stmts_tokens ss
  stmts_size nil Γ o = omega arith
  stmts_size (cons s ss) Γ o = let i = stmt_size s Γ o in let j = stmts_size ss (scope_after s Γ) (stmt_end s Γ o) in omega arith

-- each item has at least its four further tokens
static_more : (s : Option ℕ) (r : List Lexeme) → length r ≤ length (static_lexemes s r)
static_more none r = omega arith
static_more (some p) r = omega arith

parameter_more : (a : Parameter) (r : List Lexeme) → length r ≤ length (parameter_lexemes a r)
parameter_more nothing r = omega arith
parameter_more (takes t p x) r = omega arith

items_size : (is : List Item) (o : ℕ) (r : List Lexeme) → items_end is o + 4 * length r ≤ o + 4 * length (items_lexemes is r)
unfolding items_end items_lexemes
items_size [] o r = omega arith
items_size (extern q t x a ∷ is) o r =
    let i = items_size is o r in
    let j = parameter_more a (sign K.CloseParen q.3 ∷ sign K.Semicolon q.4 ∷ items_lexemes is r) in omega arith
items_size (global s q t x c ∷ is) o r =
    let i = items_size is (o + 1 + 1) r in
    let j = static_more s (sign (type_kind t) q.0 ∷ ident x ∷ sign K.Assign q.1 ∷ literal c ∷ sign K.Semicolon q.2 ∷ items_lexemes is r) in omega arith

pub script_size : (s : Script) → length (script_code s) ≤ 4 * length (script_lexemes s)
unfolding script_code script_lexemes
script_size s =
    let o = items_end s.items 0 in
    let Γ = main_scope s in
    let items = items_code s.items (level ∷ []) in
    let body = stmts_code s.body Γ o 0 0 in
    let last = ins 0 (pos 0) s.close ∷ ins 21 (pos 0) s.close ∷ [] in
    let text = stmts_lexemes s.body (sign K.CloseBrace s.close ∷ []) in
    let head = sign K.Int s.marks.0 ∷ ident (record { bytes = main_name; place = s.marks.1 }) ∷ sign K.OpenParen s.marks.2 ∷ sign K.CloseParen s.marks.3 ∷ sign K.OpenBrace s.marks.4 ∷ text in
    omega (
      arith,
      after-length items 0,
      items_end_lem s.items (level ∷ []) 0,
      after-length body o,
      stmts_after s.body Γ o 0 0,
      length-append items (body ++ last),
      length-append body last,
      stmts_size s.body Γ o,
      stmts_tokens_lem s.body (sign K.CloseBrace s.close ∷ []),
      items_size s.items 0 (head_lexemes s.static s.marks text),
      static_more s.static head,
    )
