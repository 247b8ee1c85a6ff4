-- Going along the lexemes of a script, from one place of the tokens to the next.
use Rattle.std.proofs.Common.{◌≡◌, ℕ, zero, suc, ◌+◌, ◌<◌, ◌≤◌, List, [], ◌∷◌, length, drop, Some, sym, refl, ap, arith}
use Rattle.std.specs.List.{slice_get}
use Rattle.lexer.specs.Lexeme.{Lexeme}
use Rattle.lexer.specs.Reading.{lexemes}
use Rattle.lexer.specs.declared.kind.Kind.TheVariants as K
use Rattle.lexer.specs.declared.kind.Token.{Token}
use Rattle.meaning.specs.Trees.{Expr, constant, variable, call, bracket, unary, binary, Args, no_args, args, Exprs, last, more}
use Rattle.meaning.specs.Written.{sign, binary_kind, expr_lexemes, args_lexemes, exprs_lexemes}
use Rattle.meaning.proofs.Parsed.{EndsE}
use Rattle.translator.specs.Code.{Placed}
use Rattle.translator.specs.Expressions.{AllPlaced}
use Rattle.translator.proofs.Lexemes.{inside, token_is, next_is}

module _ (s : List ℕ) (ts : List Token) where
  -- the token of a lexeme
  pub place_is : (at : ℕ) (t : Token) (l : Lexeme) (r : List Lexeme) → (at < length ts → slice_get ts at ≡ Some t) → drop at (lexemes s ts) ≡ l ∷ r → t.place ≡ l.place
  place_is at t l r e h = ap (λ (m : Lexeme). m.place) (token_is s ts at t l r (e (inside s ts at l r h)) h)

  pub kind_is : (at : ℕ) (t : Token) (l : Lexeme) (r : List Lexeme) → (at < length ts → slice_get ts at ≡ Some t) → drop at (lexemes s ts) ≡ l ∷ r → t.kind ≡ l.kind
  kind_is at t l r e h = ap (λ (m : Lexeme). m.kind) (token_is s ts at t l r (e (inside s ts at l r h)) h)

  -- what stands at the next place
  pub on_by : (at q : ℕ) (l : Lexeme) (r : List Lexeme) → (at < length ts → q ≡ at + 1) → drop at (lexemes s ts) ≡ l ∷ r → drop q (lexemes s ts) ≡ r
  on_by at q l r e h = rw (e (inside s ts at l r h)) (next_is (lexemes s ts) at l r h)

-- a lexeme's place fits an int
pub placed_at : (ls : List Lexeme) (at : ℕ) (l : Lexeme) (r : List Lexeme) → AllPlaced ls → drop at ls ≡ l ∷ r → Placed l.place
unfolding AllPlaced
placed_at [] zero l r a h = let z : ◌≡◌ {A = ℕ} 0 1 = cc in absurd (omega arith)
placed_at [] (suc at) l r a h = let z : ◌≡◌ {A = ℕ} 0 1 = cc in absurd (omega arith)
placed_at (m ∷ ls) zero l r a h = let e : m ≡ l = cc in rw (sym e) a.0
placed_at (m ∷ ls) (suc at) l r a h = placed_at ls at l r a.1 h

-- an expression ends before these marks

pub ends_close : (e : Expr) (q : ℕ) (r : List Lexeme) → EndsE 6 e (sign K.CloseParen q ∷ r)
ends_close e q r = (λ _. refl, omega arith)

pub ends_semicolon : (e : Expr) (q : ℕ) (r : List Lexeme) → EndsE 6 e (sign K.Semicolon q ∷ r)
ends_semicolon e q r = (λ _. refl, omega arith)

pub ends_to : (e : Expr) (q : ℕ) (r : List Lexeme) → EndsE 6 e (sign K.To q ∷ r)
ends_to e q r = (λ _. refl, omega arith)

-- what follows an expression is shorter than what begins with it
mutual
  unfolding expr_lexemes args_lexemes exprs_lexemes

  pub expr_more : (e : Expr) (r : List Lexeme) → length r < length (expr_lexemes e r)
  expr_more (constant c) r = omega arith
  expr_more (variable x) r = omega arith
  expr_more (call x q xs) r = let i = args_more xs (sign K.CloseParen q.1 ∷ r) in omega arith
  expr_more (bracket q e) r = let i = expr_more e (sign K.CloseParen q.1 ∷ r) in omega arith
  expr_more (unary u p e) r = let i = expr_more e r in omega arith
  expr_more (binary o p a b) r = let i = expr_more b r in let j = expr_more a (sign (binary_kind o) p ∷ expr_lexemes b r) in omega arith

  args_more : (xs : Args) (r : List Lexeme) → length r ≤ length (args_lexemes xs r)
  args_more no_args r = omega arith
  args_more (args es) r = exprs_more es r

  exprs_more : (es : Exprs) (r : List Lexeme) → length r ≤ length (exprs_lexemes es r)
  exprs_more (last e) r = let i = expr_more e r in omega arith
  exprs_more (more e p es) r = let i = exprs_more es r in let j = expr_more e (sign K.Comma p ∷ exprs_lexemes es r) in omega arith
