-- Each step builds: trees for the new stack make trees for the old one, which begin with the token taken.
use Rattle.std.proofs.Common.{◌≡◌, ℕ, zero, suc, pred, Bool, true, false, cond, not, eqb, List, [], ◌∷◌, get_or, sym, refl, ap, ◌∙◌, arith}
use mathlib.Core.Option.{Option, none, some}
use Rattle.std.proofs.lemmas.Slice.Eq.{bytes_eq-Decides}
use Rattle.std.proofs.lemmas.Bool.Decides.{nat_tests}
use Rattle.std.specs.Str.{bytes_eq}
use Rattle.lexer.specs.Lexeme.{Lexeme}
use Rattle.lexer.specs.declared.kind.Kind.TheVariants as Kinds
use Rattle.meaning.specs.declared.operator.Scalar.{Scalar}
use Rattle.meaning.specs.declared.operator.Scalar.TheVariants.{Bool as bool, Char as char, Int as int}
use Rattle.meaning.specs.declared.operator.Operator.{Operator}
use Rattle.meaning.specs.declared.operator.Operator.TheVariants.{Add, Subtract, Multiply, Divide, Remainder, Less, LessEqual, Greater, GreaterEqual, Equal, NotEqual, And, Or}
use Rattle.meaning.specs.Trees.{Ident, Constant, Expr, variable, no_args, args, Modifier, Stmt, evaluate, for_to, return, nil, cons, Return as Answer, void, gives, nothing, global}
use Rattle.meaning.specs.Written.{sign, ident, literal, type_kind, modifier_kind, return_kind, main_name, expr_lexemes, args_lexemes, exprs_lexemes, stmt_lexemes, stmts_lexemes, items_lexemes}
use Rattle.meaning.specs.Depths.{expr_depths, args_depths, exprs_depths, stmt_depths, stmts_depths, items_depths}
use Rattle.meaning.specs.Grammar.{ends_open}
use Rattle.meaning.proofs.Tokens.{Word, Void, Extern, Static, If, Else, While, Do, For, To, Break, Continue, Return, Assign, OpenParen, CloseParen, OpenBrace, CloseBrace, Comma, Semicolon, Tok, name, value, type, operator, bang, modifier, word, stray, word_kind, tok_of, Spelled}
use Rattle.meaning.proofs.Stack.{word_code, same_word, at, is_word, as_name, as_constant, as_type, as_result, int_place, as_int, loose, Assigning, plainly, modifying, neither, assigning, done, More, end, comma, Otherwise, absent, other, Sym, token, a_name, a_constant, a_result, an_int, parameter, operand, called, tail, expr, exprs, further, arguments, statement, named, returned, statements, orelse, script, declared, integer, mainly, Value, Values, Step, stop, on, onto, tails_to, gather, terminal, call_rule, called_step, minus_rule, bracket_rule, operand_rule, tail_rule, tail_step, tails_step, expr_rule, listed, exprs_rule, further_rule, branched, evaluation, named_rule, returned_rule, word_rule, statement_rule, statements_rule, orelse_rule, prepend, global_row, parameter_rule, mainly_rule, integer_rule, global_rule, typed_rule, declared_rule, extern_rule, static_rule, item_rule, script_rule, rule, empty, absorbs, choose, step}
use Rattle.meaning.proofs.Parsed.{lex_v, dep_v, before, before_d, FineV, EndsV, NoElse, Parsed, Builds}
use Rattle.meaning.proofs.Spine.{gathered}

pub never : {X : Type 0} → false ≡ true → X
never e = let z : ◌≡◌ {A = ℕ} 0 1 = cc in absurd (omega arith)

-- What a token that was taken is.

word_of : ℕ → Word
word_of n = get_or (Void ∷ Extern ∷ Static ∷ If ∷ Else ∷ While ∷ Do ∷ For ∷ To ∷ Break ∷ Continue ∷ Return ∷ Assign ∷ OpenParen ∷ CloseParen ∷ OpenBrace ∷ CloseBrace ∷ Comma ∷ Semicolon ∷ []) n Void

decoded : (w : Word) → word_of (word_code w) ≡ w
unfolding word_of
decoded Void = refl
decoded Extern = refl
decoded Static = refl
decoded If = refl
decoded Else = refl
decoded While = refl
decoded Do = refl
decoded For = refl
decoded To = refl
decoded Break = refl
decoded Continue = refl
decoded Return = refl
decoded Assign = refl
decoded OpenParen = refl
decoded CloseParen = refl
decoded OpenBrace = refl
decoded CloseBrace = refl
decoded Comma = refl
decoded Semicolon = refl

pub same_word_lem : (v w : Word) → same_word v w ≡ true → v ≡ w
same_word_lem v w h = let c : word_code v ≡ word_code w = grind (arith, nat_tests) in sym (decoded v) ∙ ap word_of c ∙ decoded w

no_some : {X : Type 0} {Y : Type 0} (x : X) → none ≡ some x → Y
no_some x e = let z : ◌≡◌ {A = ℕ} 0 1 = cc in absurd (omega arith)

pub at_is : (w : Word) (t : Tok) (q : ℕ) → at w t ≡ some q → (l : Lexeme) → Spelled l t → l ≡ sign (word_kind w) q
at_is w (name x) q e l h = no_some q e
at_is w (value c) q e l h = no_some q e
at_is w (type t p) q e l h = no_some q e
at_is w (operator o p) q e l h = no_some q e
at_is w (bang p) q e l h = no_some q e
at_is w (modifier m p) q e l h = no_some q e
at_is w (word v p) q e l h = go (same_word w v) refl e
  where
    go : (b : Bool) → same_word w v ≡ b → cond b (some p) none ≡ some q → l ≡ sign (word_kind w) q
    go true s e = let z : p ≡ q = cc in rw (same_word_lem w v s, ← z) h
    go false s e = no_some q e
at_is w stray q e l h = no_some q e

name_is : (t : Tok) (v : Ident) → as_name t ≡ some v → (l : Lexeme) → Spelled l t → l ≡ ident v
name_is (name x) v e l h = let z : x ≡ v = cc in rw (← z) h
name_is (value c) v e l h = no_some v e
name_is (type t p) v e l h = no_some v e
name_is (operator o p) v e l h = no_some v e
name_is (bang p) v e l h = no_some v e
name_is (modifier m p) v e l h = no_some v e
name_is (word u p) v e l h = no_some v e
name_is stray v e l h = no_some v e

constant_is : (t : Tok) (v : Constant) → as_constant t ≡ some v → (l : Lexeme) → Spelled l t → l ≡ literal v
constant_is (name x) v e l h = no_some v e
constant_is (value c) v e l h = let z : c ≡ v = cc in rw (← z) h
constant_is (type t p) v e l h = no_some v e
constant_is (operator o p) v e l h = no_some v e
constant_is (bang p) v e l h = no_some v e
constant_is (modifier m p) v e l h = no_some v e
constant_is (word u p) v e l h = no_some v e
constant_is stray v e l h = no_some v e

type_is : (t : Tok) (v : Scalar × ℕ) → as_type t ≡ some v → (l : Lexeme) → Spelled l t → l ≡ sign (type_kind v.0) v.1
type_is (name x) v e l h = no_some v e
type_is (value c) v e l h = no_some v e
type_is (type t p) v e l h = let z : ◌≡◌ {A = Scalar × ℕ} (t, p) v = cc in rw (← z) h
type_is (operator o p) v e l h = no_some v e
type_is (bang p) v e l h = no_some v e
type_is (modifier m p) v e l h = no_some v e
type_is (word u p) v e l h = no_some v e
type_is stray v e l h = no_some v e

result_is : (t : Tok) (v : Answer × ℕ) → as_result t ≡ some v → (l : Lexeme) → Spelled l t → l ≡ sign (return_kind v.0) v.1
result_is (name x) v e l h = no_some v e
result_is (value c) v e l h = no_some v e
result_is (type t p) v e l h = let z : ◌≡◌ {A = Answer × ℕ} (gives t, p) v = cc in rw (← z) h
result_is (operator o p) v e l h = no_some v e
result_is (bang p) v e l h = no_some v e
result_is (modifier m p) v e l h = no_some v e
result_is (word u p) v e l h = go (same_word Void u) refl e
  where
    go : (b : Bool) → same_word Void u ≡ b → cond b (some (void, p)) none ≡ some v → l ≡ sign (return_kind v.0) v.1
    go true s e = let z : ◌≡◌ {A = Answer × ℕ} (void, p) v = cc in let w = same_word_lem Void u s in rw (← z) (h ∙ ap (λ (y : Word). sign (word_kind y) p) (sym w))
    go false s e = no_some v e
result_is stray v e l h = no_some v e

int_is_at : (s : Scalar) (p q : ℕ) → int_place s p ≡ some q → (l : Lexeme) → l ≡ sign (type_kind s) p → l ≡ sign Kinds.Int q
int_is_at bool p q e l h = no_some q e
int_is_at char p q e l h = no_some q e
int_is_at int p q e l h = let z : p ≡ q = cc in rw (← z) h

int_is : (t : Tok) (v : ℕ) → as_int t ≡ some v → (l : Lexeme) → Spelled l t → l ≡ sign Kinds.Int v
int_is (name x) v e l h = no_some v e
int_is (value c) v e l h = no_some v e
int_is (type t p) v e l h = int_is_at t p v e l h
int_is (operator o p) v e l h = no_some v e
int_is (bang p) v e l h = no_some v e
int_is (modifier m p) v e l h = no_some v e
int_is (word u p) v e l h = no_some v e
int_is stray v e l h = no_some v e

is_at : (w : Word) (t : Tok) → is_word w t ≡ true → (q : ℕ) × (at w t ≡ some q)
is_at w (name x) h = never h
is_at w (value c) h = never h
is_at w (type t p) h = never h
is_at w (operator o p) h = never h
is_at w (bang p) h = never h
is_at w (modifier m p) h = never h
is_at w (word v p) h = (p, rw h refl)
is_at w stray h = never h

some_same : {X : Type 0} (x y : X) → some x ≡ some y → x ≡ y
some_same x y e = cc

-- Steps made from steps.

pub builds_onto : (K L : List Sym) (t : Tok) (g : Values K → Values L) → ((vs : Values K) (ls : List Lexeme) (ds : List ℕ) → Parsed K vs ls ds → Parsed L (g vs) ls ds)
    → (s : Step K) → Builds K t s → Builds L t (onto g s)
builds_onto K L t g h stop b = tt
builds_onto K L t g h (on d M f) b = λ l k e ws ls es p. h (f ws) (l ∷ ls) (d ∷ es) (b l k e ws ls es p)

builds_cond : (K : List Sym) (t : Tok) (b : Bool) (x y : Step K) → (b ≡ true → Builds K t x) → (b ≡ false → Builds K t y) → Builds K t (cond b x y)
builds_cond K t true x y h i = h refl
builds_cond K t false x y h i = i refl

-- a step that takes the token and no more
builds_terminal : (A : Sym) (K : List Sym) (t : Tok) (o : Option (Value A))
    → ((v : Value A) → o ≡ some v → (l : Lexeme) → Spelled l t → (ls : List Lexeme) (es : List ℕ) → (before A (l ∷ ls) ≡ lex_v A v ls) × (before_d A (0 ∷ es) ≡ dep_v A v es) × FineV A v × EndsV A v ls)
    → Builds (A ∷ K) t (terminal A K o)
builds_terminal A K t none h = tt
builds_terminal A K t (some v) h =
    λ l k e ws ls es p. let x = h v refl l e ls es in record { rest = ls; depths = es; fine = x.2; lexemes = x.0; marks = x.1; ends = x.3; after = p }

front : (l m : Lexeme) (ls : List Lexeme) → l ≡ m → l ∷ ls ≡ m ∷ ls
front l m ls e = ap (λ (x : Lexeme). x ∷ ls) e

pub builds_token : (w : Word) (K : List Sym) (t : Tok) → Builds (token w ∷ K) t (terminal (token w) K (at w t))
builds_token w K t = builds_terminal (token w) K t (at w t) (λ v e l h ls es. (front l _ ls (at_is w t v e l h), refl, tt, tt))

builds_name : (K : List Sym) (t : Tok) → Builds (a_name ∷ K) t (terminal a_name K (as_name t))
builds_name K t = builds_terminal a_name K t (as_name t) (λ v e l h ls es. (front l _ ls (name_is t v e l h), refl, tt, tt))

builds_constant : (K : List Sym) (t : Tok) → Builds (a_constant ∷ K) t (terminal a_constant K (as_constant t))
builds_constant K t = builds_terminal a_constant K t (as_constant t) (λ v e l h ls es. (front l _ ls (constant_is t v e l h), refl, tt, tt))

builds_result : (K : List Sym) (t : Tok) → Builds (a_result ∷ K) t (terminal a_result K (as_result t))
builds_result K t = builds_terminal a_result K t (as_result t) (λ v e l h ls es. (front l _ ls (result_is t v e l h), refl, tt, tt))

builds_int : (K : List Sym) (t : Tok) → Builds (an_int ∷ K) t (terminal an_int K (as_int t))
builds_int K t = builds_terminal an_int K t (as_int t) (λ v e l h ls es. (front l _ ls (int_is t v e l h), refl, tt, tt))

builds_parameter : (K : List Sym) (t : Tok) (o : Option (Scalar × ℕ)) → as_type t ≡ o → Builds (parameter ∷ K) t (parameter_rule K o)
builds_parameter K t none e = tt
builds_parameter K t (some v) e = λ l k h ws ls es s.
    let x = type_is t v e l h in let a = s.lexemes in let b = s.marks in
    record { rest = s.rest; depths = s.depths; fine = tt; lexemes = cc; marks = cc; ends = tt; after = s.after }

-- Expressions.

builds_call : (d : ℕ) (x : Ident) (K : List Sym) (t : Tok) (o : Option ℕ) → at OpenParen t ≡ o → Builds (called d x ∷ K) t (call_rule d x K o)
unfolding expr_lexemes expr_depths
builds_call d x K t none e = tt
builds_call d x K t (some q) e = λ l k h ws ls es s.
    let y = at_is OpenParen t q e l h in let a = s.lexemes in let a' = s.marks in let b = s.after.lexemes in let b' = s.after.marks in
    record { rest = s.after.rest; depths = s.after.depths; fine = s.fine; lexemes = cc; marks = cc; ends = never; after = s.after.after }

builds_minus : (o : Operator) (d p : ℕ) (K : List Sym) → Builds (operand d ∷ K) (operator o p) (minus_rule o d p K)
unfolding expr_lexemes expr_depths
builds_minus Add d p K = tt
builds_minus Subtract d p K = λ l k h ws ls es s.
    let a = s.lexemes in let b = s.marks in
    record { rest = s.rest; depths = s.depths; fine = s.fine; lexemes = cc; marks = cc; ends = s.ends; after = s.after }
builds_minus Multiply d p K = tt
builds_minus Divide d p K = tt
builds_minus Remainder d p K = tt
builds_minus Less d p K = tt
builds_minus LessEqual d p K = tt
builds_minus Greater d p K = tt
builds_minus GreaterEqual d p K = tt
builds_minus Equal d p K = tt
builds_minus NotEqual d p K = tt
builds_minus And d p K = tt
builds_minus Or d p K = tt

builds_bracket : (d : ℕ) (K : List Sym) (t : Tok) (o : Option ℕ) → at OpenParen t ≡ o → Builds (operand d ∷ K) t (bracket_rule d K o)
unfolding expr_lexemes expr_depths
builds_bracket d K t none e = tt
builds_bracket d K t (some q) e = λ l k h ws ls es s.
    let y = at_is OpenParen t q e l h in let a = s.lexemes in let a' = s.marks in let b = s.after.lexemes in let b' = s.after.marks in
    record { rest = s.after.rest; depths = s.after.depths; fine = s.fine; lexemes = cc; marks = cc; ends = never; after = s.after.after }

pub builds_operand : (d : ℕ) (t : Tok) (K : List Sym) → Builds (operand d ∷ K) t (operand_rule d t K)
unfolding expr_lexemes expr_depths
builds_operand d (name x) K = λ l k h ws ls es s.
    let a = s.lexemes in
    record { rest = s.rest; depths = s.depths; fine = s.fine; lexemes = cc; marks = s.marks; ends = s.ends; after = s.after }
builds_operand d (value c) K = λ l k h ws ls es s.
    record { rest = ls; depths = es; fine = tt; lexemes = front l _ ls h; marks = refl; ends = never; after = s }
builds_operand d (type t p) K = tt
builds_operand d (operator o p) K = builds_minus o d p K
builds_operand d (bang p) K = λ l k h ws ls es s.
    let a = s.lexemes in let b = s.marks in
    record { rest = s.rest; depths = s.depths; fine = s.fine; lexemes = cc; marks = cc; ends = s.ends; after = s.after }
builds_operand d (modifier m p) K = tt
builds_operand d (word w p) K = builds_bracket d K (word w p) (at OpenParen (word w p)) refl
builds_operand d stray K = tt

-- further operands of a level
builds_tail : (n d : ℕ) (t : Tok) (K : List Sym) → eqb (loose t) n ≡ true → Builds (tail n d ∷ K) t (tail_rule n d t K)
builds_tail n d (name x) K e = tt
builds_tail n d (value c) K e = tt
builds_tail n d (type t p) K e = tt
builds_tail n d (operator o p) K e = λ l k h ws ls es s.
    let g = gathered (pred n) d (tail n d ∷ K) ws.0 ws.1 ls es s in
    let j = g.after in
    let a = g.lexemes in let b = g.marks in let a' = j.lexemes in let b' = j.marks in
    record {
      rest = j.rest;
      depths = j.depths;
      fine = (grind (arith, nat_tests), g.fine, j.fine);
      lexemes = cc;
      marks = cc;
      ends = (rw a' at g.ends, j.ends);
      after = j.after;
    }
builds_tail n d (bang p) K e = tt
builds_tail n d (modifier m p) K e = tt
builds_tail n d (word v p) K e = tt
builds_tail n d stray K e = tt

-- a symbol left out before a step, since it does not take the token
builds_skip : (A : Sym) (K : List Sym) (t : Tok) (v : Value A) → FineV A v → ((ls : List Lexeme) → before A ls ≡ lex_v A v ls) → ((es : List ℕ) → before_d A es ≡ dep_v A v es)
    → ((l : Lexeme) (ls : List Lexeme) → tok_of l ≡ t → EndsV A v (l ∷ ls)) → (s : Step K) → Builds K t s → Builds (A ∷ K) t (onto (λ vs. (v, vs)) s)
builds_skip A K t v f x y h stop b = tt
builds_skip A K t v f x y h (on d M g) b = λ l k e ws ls es p.
    record { rest = l ∷ ls; depths = d ∷ es; fine = f; lexemes = x (l ∷ ls); marks = y (d ∷ es); ends = h l ls k; after = b l k e ws ls es p }

pub builds_tail_step : (n d : ℕ) (t : Tok) (K : List Sym) (s : Step K) → Builds K t s → Builds (tail n d ∷ K) t (tail_step n d t K s)
builds_tail_step n d t K s b =
    builds_cond (tail n d ∷ K) t (eqb (loose t) n) _ _ (builds_tail n d t K)
    (λ e. builds_skip (tail n d) K t done tt (λ _. refl) (λ _. refl) (λ l ls k. ap (λ (u : Tok). eqb (loose u) n) k ∙ e) s b)

pub builds_tails : (n d : ℕ) (t : Tok) (K : List Sym) (s : Step K) → Builds K t s → Builds (tails_to n d K) t (tails_step n d t K s)
builds_tails zero d t K s b = b
builds_tails (suc n) d t K s b = builds_tails n d t (tail (suc n) d ∷ K) (tail_step (suc n) d t K s) (builds_tail_step (suc n) d t K s b)

pub builds_called_step : (d : ℕ) (x : Ident) (t : Tok) (K : List Sym) (s : Step K) → Builds K t s → Builds (called d x ∷ K) t (called_step d x t K s)
unfolding expr_lexemes expr_depths
builds_called_step d x t K s b =
    builds_cond (called d x ∷ K) t (is_word OpenParen t) _ _ (λ _. builds_call d x K t (at OpenParen t) refl)
    (λ e. builds_skip (called d x) K t (variable x) tt (λ _. refl) (λ _. refl) (λ l ls k _. ap (is_word OpenParen) k ∙ e) s b)

-- an operand with its further operands is an expression
expr_of : (d : ℕ) (K : List Sym) (vs : Values (operand d ∷ tails_to 6 d K)) (ls : List Lexeme) (ds : List ℕ)
    → Parsed (operand d ∷ tails_to 6 d K) vs ls ds → Parsed (expr d ∷ K) (gather 6 d K vs.0 vs.1) ls ds
expr_of d K vs ls ds p =
    let g = gathered 6 d K vs.0 vs.1 ls ds p in
    record { rest = g.rest; depths = g.depths; fine = g.fine; lexemes = g.lexemes; marks = g.marks; ends = g.ends; after = g.after }

pub builds_expr : (d : ℕ) (t : Tok) (K : List Sym) → Builds (expr d ∷ K) t (expr_rule d t K)
builds_expr d t K = builds_onto (operand d ∷ tails_to 6 d K) (expr d ∷ K) t (λ vs. gather 6 d K vs.0 vs.1) (expr_of d K) _ (builds_operand d t (tails_to 6 d K))

exprs_of : (d : ℕ) (K : List Sym) (e : Expr) (m : More) (vs : Values K) (ls : List Lexeme) (ds : List ℕ)
    → Parsed (expr d ∷ further d ∷ K) (e, (m, vs)) ls ds → Parsed (exprs d ∷ K) (listed e m, vs) ls ds
unfolding exprs_lexemes exprs_depths
exprs_of d K e end vs ls ds p =
    let a = p.after.lexemes in let b = p.after.marks in let c = p.lexemes in let f = p.marks in
    record { rest = p.after.rest; depths = p.after.depths; fine = p.fine; lexemes = cc; marks = cc; ends = (rw a at p.ends, p.after.ends); after = p.after.after }
exprs_of d K e (comma q es) vs ls ds p =
    let a = p.after.lexemes in let b = p.after.marks in let c = p.lexemes in let f = p.marks in
    record { rest = p.after.rest; depths = p.after.depths; fine = (p.fine, p.after.fine); lexemes = cc; marks = cc; ends = p.after.ends; after = p.after.after }

pub builds_exprs : (d : ℕ) (t : Tok) (K : List Sym) → Builds (exprs d ∷ K) t (exprs_rule d t K)
builds_exprs d t K = builds_onto (expr d ∷ further d ∷ K) (exprs d ∷ K) t (λ vs. (listed vs.0 vs.1.0, vs.1.1)) (λ vs. exprs_of d K vs.0 vs.1.0 vs.1.1) _ (builds_expr d t (further d ∷ K))

args_of : (d : ℕ) (K : List Sym) (vs : Values (exprs d ∷ K)) (ls : List Lexeme) (ds : List ℕ) → Parsed (exprs d ∷ K) vs ls ds → Parsed (arguments d ∷ K) (args vs.0, vs.1) ls ds
unfolding args_lexemes args_depths
args_of d K vs ls ds p = record { rest = p.rest; depths = p.depths; fine = p.fine; lexemes = p.lexemes; marks = p.marks; ends = p.ends; after = p.after }

builds_further : (d : ℕ) (K : List Sym) (t : Tok) (o : Option ℕ) → at Comma t ≡ o → Builds (further d ∷ K) t (further_rule d K o)
builds_further d K t none e = tt
builds_further d K t (some q) e = λ l k h ws ls es s.
    let y = at_is Comma t q e l h in let a = s.lexemes in let b = s.marks in
    record { rest = s.rest; depths = s.depths; fine = s.fine; lexemes = cc; marks = cc; ends = s.ends; after = s.after }

-- Statements.

evaluate_of : (d : ℕ) (K : List Sym) (vs : Values (expr d ∷ token Semicolon ∷ K)) (ls : List Lexeme) (ds : List ℕ)
    → Parsed (expr d ∷ token Semicolon ∷ K) vs ls ds → Parsed (statement d ∷ K) (evaluate vs.0 vs.1.0, vs.1.1) ls ds
unfolding stmt_lexemes stmt_depths ends_open
evaluate_of d K vs ls ds p =
    let a = p.after.lexemes in let b = p.after.marks in let c = p.lexemes in let f = p.marks in
    record { rest = p.after.rest; depths = p.after.depths; fine = p.fine; lexemes = cc; marks = cc; ends = never; after = p.after.after }

builds_evaluation : (d : ℕ) (t : Tok) (K : List Sym) → Builds (statement d ∷ K) t (evaluation d t K)
builds_evaluation d t K = builds_onto (expr d ∷ token Semicolon ∷ K) (statement d ∷ K) t (λ vs. (evaluate vs.0 vs.1.0, vs.1.1)) (evaluate_of d K) _ (builds_expr d t (token Semicolon ∷ K))

-- what a statement that began with a name goes on with
assign_is : (t : Tok) (q : ℕ) → assigning t ≡ plainly q → (l : Lexeme) → Spelled l t → l ≡ sign Kinds.Assign q
assign_is (name x) q e l h = let z : ◌≡◌ {A = ℕ} 0 1 = cc in absurd (omega arith)
assign_is (value c) q e l h = let z : ◌≡◌ {A = ℕ} 0 1 = cc in absurd (omega arith)
assign_is (type t p) q e l h = let z : ◌≡◌ {A = ℕ} 0 1 = cc in absurd (omega arith)
assign_is (operator o p) q e l h = let z : ◌≡◌ {A = ℕ} 0 1 = cc in absurd (omega arith)
assign_is (bang p) q e l h = let z : ◌≡◌ {A = ℕ} 0 1 = cc in absurd (omega arith)
assign_is (modifier m p) q e l h = let z : ◌≡◌ {A = ℕ} 0 1 = cc in absurd (omega arith)
assign_is (word v p) q e l h = go (same_word Assign v) refl e
  where
    go : (b : Bool) → same_word Assign v ≡ b → cond b (plainly p) neither ≡ plainly q → l ≡ sign Kinds.Assign q
    go true s e = let z : p ≡ q = cc in let w = same_word_lem Assign v s in rw (← z) (h ∙ ap (λ (y : Word). sign (word_kind y) p) (sym w))
    go false s e = let z : ◌≡◌ {A = ℕ} 0 1 = cc in absurd (omega arith)
assign_is stray q e l h = let z : ◌≡◌ {A = ℕ} 0 1 = cc in absurd (omega arith)

modifier_is : (t : Tok) (n : Modifier) (q : ℕ) → assigning t ≡ modifying n q → (l : Lexeme) → Spelled l t → l ≡ sign (modifier_kind n) q
modifier_is (name x) n q e l h = let z : ◌≡◌ {A = ℕ} 0 1 = cc in absurd (omega arith)
modifier_is (value c) n q e l h = let z : ◌≡◌ {A = ℕ} 0 1 = cc in absurd (omega arith)
modifier_is (type t p) n q e l h = let z : ◌≡◌ {A = ℕ} 0 1 = cc in absurd (omega arith)
modifier_is (operator o p) n q e l h = let z : ◌≡◌ {A = ℕ} 0 1 = cc in absurd (omega arith)
modifier_is (bang p) n q e l h = let z : ◌≡◌ {A = ℕ} 0 1 = cc in absurd (omega arith)
modifier_is (modifier m p) n q e l h = let y : m ≡ n = cc in let z : p ≡ q = cc in rw (← y, ← z) h
modifier_is (word v p) n q e l h = go (same_word Assign v) e
  where
    go : (b : Bool) → cond b (plainly p) neither ≡ modifying n q → l ≡ sign (modifier_kind n) q
    go true e = let z : ◌≡◌ {A = ℕ} 0 1 = cc in absurd (omega arith)
    go false e = let z : ◌≡◌ {A = ℕ} 0 1 = cc in absurd (omega arith)
modifier_is stray n q e l h = let z : ◌≡◌ {A = ℕ} 0 1 = cc in absurd (omega arith)

-- a name put back before what began with it
name_back : (d : ℕ) (x : Ident) (K : List Sym) (vs : Values (called d x ∷ K)) (ls : List Lexeme) (ds : List ℕ)
    → Parsed (called d x ∷ K) vs ls ds → Parsed (operand d ∷ K) vs (ident x ∷ ls) (d ∷ ds)
name_back d x K vs ls ds p = record { rest = p.rest; depths = p.depths; fine = p.fine; lexemes = p.lexemes; marks = p.marks; ends = p.ends; after = p.after }

pub named_of : (d : ℕ) (x : Ident) (K : List Sym) (vs : Values (called d x ∷ tails_to 6 d (token Semicolon ∷ K))) (ls : List Lexeme) (ds : List ℕ)
    → Parsed (called d x ∷ tails_to 6 d (token Semicolon ∷ K)) vs ls ds
    → Parsed (named d x ∷ K) (evaluate (gather 6 d (token Semicolon ∷ K) vs.0 vs.1).0 (gather 6 d (token Semicolon ∷ K) vs.0 vs.1).1.0, (gather 6 d (token Semicolon ∷ K) vs.0 vs.1).1.1) ls ds
named_of d x K vs ls ds p =
    let e = expr_of d (token Semicolon ∷ K) vs (ident x ∷ ls) (d ∷ ds) (name_back d x (tails_to 6 d (token Semicolon ∷ K)) vs ls ds p) in
    let s = evaluate_of d K (gather 6 d (token Semicolon ∷ K) vs.0 vs.1) (ident x ∷ ls) (d ∷ ds) e in
    record { rest = s.rest; depths = s.depths; fine = s.fine; lexemes = s.lexemes; marks = s.marks; ends = s.ends; after = s.after }

builds_named : (d : ℕ) (x : Ident) (t : Tok) (K : List Sym) (a : Assigning) → assigning t ≡ a → Builds (named d x ∷ K) t (named_rule d x t K a)
unfolding stmt_lexemes stmt_depths ends_open
builds_named d x t K (plainly q) e = λ l k h ws ls es s.
    let y = assign_is t q e l h in let a = s.lexemes in let a' = s.marks in let b = s.after.lexemes in let b' = s.after.marks in
    record { rest = s.after.rest; depths = s.after.depths; fine = s.fine; lexemes = cc; marks = cc; ends = never; after = s.after.after }
builds_named d x t K (modifying m q) e = λ l k h ws ls es s.
    let y = modifier_is t m q e l h in let a = s.lexemes in let a' = s.marks in let b = s.after.lexemes in let b' = s.after.marks in
    record { rest = s.after.rest; depths = s.after.depths; fine = s.fine; lexemes = cc; marks = cc; ends = never; after = s.after.after }
builds_named d x t K neither e =
    builds_onto (called d x ∷ tails_to 6 d (token Semicolon ∷ K)) (named d x ∷ K) t _ (named_of d x K) _
    (builds_called_step d x t (tails_to 6 d (token Semicolon ∷ K)) _ (builds_tails 6 d t (token Semicolon ∷ K) _ (builds_token Semicolon K t)))

return_of_lem : (d p : ℕ) (K : List Sym) (vs : Values (expr d ∷ token Semicolon ∷ K)) (ls : List Lexeme) (ds : List ℕ)
    → Parsed (expr d ∷ token Semicolon ∷ K) vs ls ds → Parsed (returned d p ∷ K) (return p vs.0 vs.1.0, vs.1.1) ls ds
unfolding stmt_lexemes stmt_depths ends_open
return_of_lem d p K vs ls ds s =
    let a = s.lexemes in let a' = s.marks in let b = s.after.lexemes in let b' = s.after.marks in
    record { rest = s.after.rest; depths = s.after.depths; fine = s.fine; lexemes = cc; marks = cc; ends = never; after = s.after.after }

builds_returned : (d p : ℕ) (t : Tok) (K : List Sym) (o : Option ℕ) → at Semicolon t ≡ o → Builds (returned d p ∷ K) t (returned_rule d p t K o)
unfolding stmt_lexemes stmt_depths ends_open
builds_returned d p t K (some q) e = λ l k h ws ls es s.
    let y = at_is Semicolon t q e l h in
    record { rest = ls; depths = es; fine = tt; lexemes = cc; marks = refl; ends = never; after = s }
builds_returned d p t K none e = builds_onto (expr d ∷ token Semicolon ∷ K) (returned d p ∷ K) t _ (return_of_lem d p K) _ (builds_expr d t (token Semicolon ∷ K))

-- a body before `else` does not end with an `if` that has none
closed_body : (s : Stmt) (q : ℕ) (r : List Lexeme) → NoElse s (sign Kinds.Else q ∷ r) → ends_open s ≡ false
closed_body s q r h = go (ends_open s) refl
  where
    go : (b : Bool) → ends_open s ≡ b → b ≡ false
    go true e = h e
    go false e = refl

if_of : (d p : ℕ) (K : List Sym) (q : ℕ) (e : Expr) (q' : ℕ) (s : Stmt) (o : Otherwise) (vs : Values K) (l : Lexeme) (ls : List Lexeme) (es : List ℕ) → l ≡ sign Kinds.If p
    → Parsed (token OpenParen ∷ expr d ∷ token CloseParen ∷ statement (suc d) ∷ orelse d ∷ K) (q, (e, (q', (s, (o, vs))))) ls es
    → Parsed (statement d ∷ K) (branched p (q, q') e s o, vs) (l ∷ ls) (d ∷ es)
unfolding stmt_lexemes stmt_depths ends_open
if_of d p K q e q' s absent vs l ls es h x =
    let a = x.lexemes in let a' = x.marks in let t = x.after in let b = t.lexemes in let b' = t.marks in
    let u = t.after in let c = u.lexemes in let c' = u.marks in let v = u.after in let f = v.lexemes in let f' = v.marks in
    let w = v.after in let g = w.lexemes in let g' = w.marks in
    record { rest = w.rest; depths = w.depths; fine = (t.fine, v.fine); lexemes = cc; marks = cc; ends = λ _. w.ends; after = w.after }
if_of d p K q e q' s (other r o) vs l ls es h x =
    let a = x.lexemes in let a' = x.marks in let t = x.after in let b = t.lexemes in let b' = t.marks in
    let u = t.after in let c = u.lexemes in let c' = u.marks in let v = u.after in let f = v.lexemes in let f' = v.marks in
    let w = v.after in let g = w.lexemes in let g' = w.marks in
    record { rest = w.rest; depths = w.depths; fine = (t.fine, v.fine, closed_body s r (stmt_lexemes o w.rest) (rw g at v.ends), w.fine); lexemes = cc; marks = cc; ends = w.ends; after = w.after }

for_of : (d p : ℕ) (K : List Sym) (ws : Values (token OpenParen ∷ an_int ∷ a_name ∷ token Assign ∷ expr d ∷ token To ∷ expr d ∷ token CloseParen ∷ statement (suc d) ∷ K)) (l : Lexeme) (ls : List Lexeme) (es : List ℕ) → l ≡ sign Kinds.For p
    → Parsed (token OpenParen ∷ an_int ∷ a_name ∷ token Assign ∷ expr d ∷ token To ∷ expr d ∷ token CloseParen ∷ statement (suc d) ∷ K) ws ls es
    → Parsed (statement d ∷ K) (for_to p (ws.0, ws.1.0, ws.1.1.1.0, ws.1.1.1.1.1.0, ws.1.1.1.1.1.1.1.0) ws.1.1.0 ws.1.1.1.1.0 ws.1.1.1.1.1.1.0 ws.1.1.1.1.1.1.1.1.0, ws.1.1.1.1.1.1.1.1.1) (l ∷ ls) (d ∷ es)
unfolding stmt_lexemes stmt_depths ends_open
for_of d p K ws l ls es h x =
    let a = x.lexemes in let a' = x.marks in let x₁ = x.after in let b = x₁.lexemes in let b' = x₁.marks in
    let x₂ = x₁.after in let c = x₂.lexemes in let c' = x₂.marks in let x₃ = x₂.after in let f = x₃.lexemes in let f' = x₃.marks in
    let x₄ = x₃.after in let g = x₄.lexemes in let g' = x₄.marks in let x₅ = x₄.after in let i = x₅.lexemes in let i' = x₅.marks in
    let x₆ = x₅.after in let j = x₆.lexemes in let j' = x₆.marks in let x₇ = x₆.after in let m = x₇.lexemes in let m' = x₇.marks in
    let x₈ = x₇.after in let n = x₈.lexemes in let n' = x₈.marks in
    record { rest = x₈.rest; depths = x₈.depths; fine = (x₄.fine, x₆.fine, x₈.fine); lexemes = cc; marks = cc; ends = x₈.ends; after = x₈.after }

builds_word : (w : Word) (d p : ℕ) (K : List Sym) (e : Step (statement d ∷ K)) → Builds (statement d ∷ K) (word w p) e → Builds (statement d ∷ K) (word w p) (word_rule w d p K e)
unfolding stmt_lexemes stmt_depths ends_open
builds_word Void d p K e b = b
builds_word Extern d p K e b = b
builds_word Static d p K e b = b
builds_word If d p K e b = λ l k h ws ls es s. if_of d p K ws.0 ws.1.0 ws.1.1.0 ws.1.1.1.0 ws.1.1.1.1.0 ws.1.1.1.1.1 l ls es h s
builds_word Else d p K e b = b
builds_word While d p K e b = λ l k h ws ls es s.
    let a = s.lexemes in let a' = s.marks in let t = s.after in let b = t.lexemes in let b' = t.marks in
    let u = t.after in let c = u.lexemes in let c' = u.marks in let v = u.after in let f = v.lexemes in let f' = v.marks in
    record { rest = v.rest; depths = v.depths; fine = (t.fine, v.fine); lexemes = cc; marks = cc; ends = v.ends; after = v.after }
builds_word Do d p K e b = λ l k h ws ls es s.
    let a = s.lexemes in let a' = s.marks in let t = s.after in let b = t.lexemes in let b' = t.marks in
    let u = t.after in let c = u.lexemes in let c' = u.marks in let v = u.after in let f = v.lexemes in let f' = v.marks in
    let w = v.after in let g = w.lexemes in let g' = w.marks in let x = w.after in let i = x.lexemes in let i' = x.marks in
    record { rest = x.rest; depths = x.depths; fine = (s.fine, v.fine); lexemes = cc; marks = cc; ends = never; after = x.after }
builds_word For d p K e b = λ l k h ws ls es s. for_of d p K ws l ls es h s
builds_word To d p K e b = b
builds_word Break d p K e b = λ l k h ws ls es s.
    let a = s.lexemes in let b = s.marks in
    record { rest = s.rest; depths = s.depths; fine = tt; lexemes = cc; marks = cc; ends = never; after = s.after }
builds_word Continue d p K e b = λ l k h ws ls es s.
    let a = s.lexemes in let b = s.marks in
    record { rest = s.rest; depths = s.depths; fine = tt; lexemes = cc; marks = cc; ends = never; after = s.after }
builds_word Return d p K e b = λ l k h ws ls es s.
    let a = s.lexemes in
    record { rest = s.rest; depths = s.depths; fine = s.fine; lexemes = cc; marks = s.marks; ends = s.ends; after = s.after }
builds_word Assign d p K e b = b
builds_word OpenParen d p K e b = b
builds_word CloseParen d p K e b = b
builds_word OpenBrace d p K e b = λ l k h ws ls es s.
    let a = s.lexemes in let a' = s.marks in let b = s.after.lexemes in let b' = s.after.marks in
    record { rest = s.after.rest; depths = s.after.depths; fine = s.fine; lexemes = cc; marks = cc; ends = never; after = s.after.after }
builds_word CloseBrace d p K e b = b
builds_word Comma d p K e b = b
builds_word Semicolon d p K e b = b

pub builds_statement : (d : ℕ) (t : Tok) (K : List Sym) → Builds (statement d ∷ K) t (statement_rule d t K)
unfolding stmt_lexemes stmt_depths ends_open
builds_statement d (name x) K = λ l k h ws ls es s.
    let a = s.lexemes in
    record { rest = s.rest; depths = s.depths; fine = s.fine; lexemes = cc; marks = s.marks; ends = s.ends; after = s.after }
builds_statement d (value c) K = builds_evaluation d (value c) K
builds_statement d (type t p) K = λ l k h ws ls es s.
    let a = s.lexemes in let a' = s.marks in let x = s.after in let b = x.lexemes in let b' = x.marks in
    let u = x.after in let c = u.lexemes in let c' = u.marks in let v = u.after in let f = v.lexemes in let f' = v.marks in
    record { rest = v.rest; depths = v.depths; fine = u.fine; lexemes = cc; marks = cc; ends = never; after = v.after }
builds_statement d (operator o p) K = builds_evaluation d (operator o p) K
builds_statement d (bang p) K = builds_evaluation d (bang p) K
builds_statement d (modifier m p) K = tt
builds_statement d (word w p) K = builds_word w d p K (evaluation d (word w p) K) (builds_evaluation d (word w p) K)
builds_statement d stray K = tt

statements_of : (d : ℕ) (K : List Sym) (vs : Values (statement d ∷ statements d ∷ K)) (ls : List Lexeme) (ds : List ℕ)
    → Parsed (statement d ∷ statements d ∷ K) vs ls ds → Parsed (statements d ∷ K) (cons vs.0 vs.1.0, vs.1.1) ls ds
unfolding stmts_lexemes stmts_depths
statements_of d K vs ls ds p =
    let a = p.lexemes in let a' = p.marks in let b = p.after.lexemes in let b' = p.after.marks in
    record { rest = p.after.rest; depths = p.after.depths; fine = (p.fine, p.after.fine); lexemes = cc; marks = cc; ends = p.after.ends; after = p.after.after }

builds_statements : (d : ℕ) (t : Tok) (K : List Sym) → Builds (statements d ∷ K) t (statements_rule d t K)
builds_statements d t K = builds_onto (statement d ∷ statements d ∷ K) (statements d ∷ K) t _ (statements_of d K) _ (builds_statement d t (statements d ∷ K))

builds_orelse : (d : ℕ) (K : List Sym) (t : Tok) (o : Option ℕ) → at Else t ≡ o → Builds (orelse d ∷ K) t (orelse_rule d K o)
builds_orelse d K t none e = tt
builds_orelse d K t (some q) e = λ l k h ws ls es s.
    let y = at_is Else t q e l h in let a = s.lexemes in let b = s.marks in
    record { rest = s.rest; depths = s.depths; fine = s.fine; lexemes = cc; marks = cc; ends = s.ends; after = s.after }

-- Scripts.

mainly_of : (s : Option ℕ) (p q : ℕ) (K : List Sym) (ws : Values (global_row K)) (ls : List Lexeme) (es : List ℕ) → Parsed (global_row K) ws ls es
    → Parsed (mainly s p q ∷ K) (prepend (global s (p, ws.0, ws.1.1.0) int (record { bytes = main_name; place = q }) ws.1.0) ws.1.1.1.0, ws.1.1.1.1) ls es
unfolding items_lexemes items_depths
mainly_of s p q K ws ls es x =
    let a = x.lexemes in let a' = x.marks in let x₁ = x.after in let b = x₁.lexemes in let b' = x₁.marks in
    let x₂ = x₁.after in let c = x₂.lexemes in let c' = x₂.marks in let x₃ = x₂.after in let f = x₃.lexemes in let f' = x₃.marks in
    record { rest = x₃.rest; depths = x₃.depths; fine = (x₃.fine, refl); lexemes = cc; marks = cc; ends = tt; after = x₃.after }

builds_mainly : (s : Option ℕ) (p q : ℕ) (t : Tok) (K : List Sym) (o : Option ℕ) → at OpenParen t ≡ o → Builds (mainly s p q ∷ K) t (mainly_rule s p q t K o)
unfolding items_lexemes items_depths
builds_mainly s p q t K (some o) e = λ l k h ws ls es x.
    let y = at_is OpenParen t o e l h in
    let a = x.lexemes in let a' = x.marks in let x₁ = x.after in let b = x₁.lexemes in let b' = x₁.marks in
    let x₂ = x₁.after in let c = x₂.lexemes in let c' = x₂.marks in let x₃ = x₂.after in let f = x₃.lexemes in let f' = x₃.marks in
    record { rest = x₃.rest; depths = x₃.depths; fine = (x₂.fine, refl); lexemes = cc; marks = cc; ends = tt; after = x₃.after }
builds_mainly s p q t K none e =
    builds_onto (token Assign ∷ a_constant ∷ token Semicolon ∷ script ∷ K) (mainly s p q ∷ K) t _ (mainly_of s p q K)
    _ (builds_token Assign (a_constant ∷ token Semicolon ∷ script ∷ K) t)

builds_integer : (s : Option ℕ) (p : ℕ) (K : List Sym) (t : Tok) (o : Option Ident) → as_name t ≡ o → Builds (integer s p ∷ K) t (integer_rule s p K o)
unfolding items_lexemes items_depths
builds_integer s p K t none e = tt
builds_integer s p K t (some i) e =
    builds_cond (integer s p ∷ K) t (bytes_eq i.bytes main_name) _ _
    (λ m l k h ws ls es x.
    let y = name_is t i e l h in let z = (bytes_eq-Decides i.bytes main_name).0 m in let a = x.lexemes in
    let w : ident i ≡ ident (record { bytes = main_name; place = i.place }) = ap (λ (b : List ℕ). ident (record { bytes = b; place = i.place })) z in
    record { rest = x.rest; depths = x.depths; fine = x.fine; lexemes = cc; marks = x.marks; ends = tt; after = x.after })
    (λ m l k h ws ls es x.
    let y = name_is t i e l h in
    let a = x.lexemes in let a' = x.marks in let x₁ = x.after in let b = x₁.lexemes in let b' = x₁.marks in
    let x₂ = x₁.after in let c = x₂.lexemes in let c' = x₂.marks in let x₃ = x₂.after in let f = x₃.lexemes in let f' = x₃.marks in
    record { rest = x₃.rest; depths = x₃.depths; fine = (x₃.fine, refl); lexemes = cc; marks = cc; ends = tt; after = x₃.after })

builds_global : (s : Option ℕ) (c : Scalar) (p : ℕ) (K : List Sym) (t : Tok) → ((l : Lexeme) → Spelled l t → l ≡ sign (type_kind c) p) → Builds (declared s ∷ K) t (global_rule s c p K)
unfolding items_lexemes items_depths
builds_global s c p K t is = λ l k h ws ls es x.
    let y = is l h in
    let a = x.lexemes in let a' = x.marks in let x₁ = x.after in let b = x₁.lexemes in let b' = x₁.marks in
    let x₂ = x₁.after in let c = x₂.lexemes in let c' = x₂.marks in let x₃ = x₂.after in let f = x₃.lexemes in let f' = x₃.marks in
    let x₄ = x₃.after in let g = x₄.lexemes in let g' = x₄.marks in
    record { rest = x₄.rest; depths = x₄.depths; fine = (x₄.fine, refl); lexemes = cc; marks = cc; ends = tt; after = x₄.after }

builds_typed : (s : Option ℕ) (c : Scalar) (p : ℕ) (K : List Sym) (t : Tok) → ((l : Lexeme) → Spelled l t → l ≡ sign (type_kind c) p) → Builds (declared s ∷ K) t (typed_rule s c p K)
builds_typed s bool p K t is = builds_global s bool p K t is
builds_typed s char p K t is = builds_global s char p K t is
builds_typed s int p K t is = λ l k h ws ls es x.
    let y = is l h in let a = x.lexemes in
    record { rest = x.rest; depths = x.depths; fine = x.fine; lexemes = cc; marks = x.marks; ends = tt; after = x.after }

builds_declared : (s : Option ℕ) (K : List Sym) (t : Tok) (o : Option (Scalar × ℕ)) → as_type t ≡ o → Builds (declared s ∷ K) t (declared_rule s K o)
builds_declared s K t none e = tt
builds_declared s K t (some v) e = builds_typed s v.0 v.1 K t (type_is t v e)

builds_extern : (q : ℕ) (K : List Sym) (t : Tok) → at Extern t ≡ some q → Builds (script ∷ K) t (extern_rule q K)
unfolding items_lexemes items_depths
builds_extern q K t e = λ l k h ws ls es x.
    let y = at_is Extern t q e l h in
    let a = x.lexemes in let a' = x.marks in let x₁ = x.after in let b = x₁.lexemes in let b' = x₁.marks in
    let x₂ = x₁.after in let c = x₂.lexemes in let c' = x₂.marks in let x₃ = x₂.after in let f = x₃.lexemes in let f' = x₃.marks in
    let x₄ = x₃.after in let g = x₄.lexemes in let g' = x₄.marks in let x₅ = x₄.after in let i = x₅.lexemes in let i' = x₅.marks in
    let x₆ = x₅.after in let j = x₆.lexemes in let j' = x₆.marks in
    record { rest = x₆.rest; depths = x₆.depths; fine = x₆.fine; lexemes = cc; marks = cc; ends = tt; after = x₆.after }

builds_static : (K : List Sym) (t : Tok) (o : Option ℕ) → at Static t ≡ o → Builds (script ∷ K) t (static_rule K o)
builds_static K t none e = tt
builds_static K t (some q) e = λ l k h ws ls es x.
    let y = at_is Static t q e l h in let a = x.lexemes in
    record { rest = x.rest; depths = x.depths; fine = x.fine.0; lexemes = cc; marks = x.marks; ends = tt; after = x.after }

builds_item : (t : Tok) (K : List Sym) (o : Option ℕ) → at Extern t ≡ o → Builds (script ∷ K) t (item_rule t K o)
builds_item t K (some q) e = builds_extern q K t e
builds_item t K none e = builds_static K t (at Static t) refl

builds_script : (t : Tok) (K : List Sym) → Builds (script ∷ K) t (script_rule t K)
builds_script (name x) K = tt
builds_script (value c) K = tt
builds_script (type t p) K =
    builds_onto (declared none ∷ K) (script ∷ K) (type t p) (λ vs. vs)
    (λ vs ls ds x. record { rest = x.rest; depths = x.depths; fine = x.fine.0; lexemes = x.lexemes; marks = x.marks; ends = tt; after = x.after })
    _ (builds_declared none K (type t p) (some (t, p)) refl)
builds_script (operator o p) K = tt
builds_script (bang p) K = tt
builds_script (modifier m p) K = tt
builds_script (word w p) K = builds_item (word w p) K (at Extern (word w p)) refl
builds_script stray K = tt

-- All of them.

builds_rule : (A : Sym) (t : Tok) (K : List Sym) → absorbs A t ≡ true → Builds (A ∷ K) t (rule A t K)
builds_rule (token w) t K e = builds_token w K t
builds_rule a_name t K e = builds_name K t
builds_rule a_constant t K e = builds_constant K t
builds_rule a_result t K e = builds_result K t
builds_rule an_int t K e = builds_int K t
builds_rule parameter t K e = builds_parameter K t (as_type t) refl
builds_rule (operand d) t K e = builds_operand d t K
builds_rule (called d x) t K e = builds_call d x K t (at OpenParen t) refl
builds_rule (tail n d) t K e = builds_tail n d t K e
builds_rule (expr d) t K e = builds_expr d t K
builds_rule (exprs d) t K e = builds_exprs d t K
builds_rule (further d) t K e = builds_further d K t (at Comma t) refl
builds_rule (arguments d) t K e = builds_onto (exprs d ∷ K) (arguments d ∷ K) t _ (args_of d K) _ (builds_exprs d t K)
builds_rule (statement d) t K e = builds_statement d t K
builds_rule (named d x) t K e = builds_named d x t K (assigning t) refl
builds_rule (returned d p) t K e = builds_returned d p t K (at Semicolon t) refl
builds_rule (statements d) t K e = builds_statements d t K
builds_rule (orelse d) t K e = builds_orelse d K t (at Else t) refl
builds_rule script t K e = builds_script t K
builds_rule (declared s) t K e = builds_declared s K t (as_type t) refl
builds_rule (integer s p) t K e = builds_integer s p K t (as_name t) refl
builds_rule (mainly s p q) t K e = builds_mainly s p q t K (at OpenParen t) refl

-- a symbol that may stand for no token, left out before one that it does not take
left_out : (A : Sym) (t : Tok) (K : List Sym) (v : Value A) → empty A ≡ some v → absorbs A t ≡ false → (s : Step K) → Builds K t s → Builds (A ∷ K) t (onto (λ vs. (v, vs)) s)
unfolding expr_lexemes expr_depths args_lexemes args_depths stmts_lexemes stmts_depths
left_out (token w) t K v e n s b = no_some v e
left_out a_name t K v e n s b = no_some v e
left_out a_constant t K v e n s b = no_some v e
left_out a_result t K v e n s b = no_some v e
left_out an_int t K v e n s b = no_some v e
left_out parameter t K v e n s b = rw (← some_same _ v e) (builds_skip parameter K t nothing tt (λ _. refl) (λ _. refl) (λ l ls k. ap (λ (u : Tok). not (is_word CloseParen u)) k ∙ n) s b)
left_out (operand d) t K v e n s b = no_some v e
left_out (called d x) t K v e n s b = rw (← some_same _ v e) (builds_skip (called d x) K t (variable x) tt (λ _. refl) (λ _. refl) (λ l ls k _. ap (is_word OpenParen) k ∙ n) s b)
left_out (tail m d) t K v e n s b = rw (← some_same _ v e) (builds_skip (tail m d) K t done tt (λ _. refl) (λ _. refl) (λ l ls k. ap (λ (u : Tok). eqb (loose u) m) k ∙ n) s b)
left_out (expr d) t K v e n s b = no_some v e
left_out (exprs d) t K v e n s b = no_some v e
left_out (further d) t K v e n s b = rw (← some_same _ v e) (builds_skip (further d) K t end tt (λ _. refl) (λ _. refl) (λ l ls k. ap (is_word Comma) k ∙ n) s b)
left_out (arguments d) t K v e n s b = rw (← some_same _ v e) (builds_skip (arguments d) K t no_args tt (λ _. refl) (λ _. refl) (λ l ls k. ap (λ (u : Tok). not (is_word CloseParen u)) k ∙ n) s b)
left_out (statement d) t K v e n s b = no_some v e
left_out (named d x) t K v e n s b = no_some v e
left_out (returned d p) t K v e n s b = no_some v e
left_out (statements d) t K v e n s b = rw (← some_same _ v e) (builds_skip (statements d) K t nil tt (λ _. refl) (λ _. refl) (λ l ls k. ap (λ (u : Tok). not (is_word CloseBrace u)) k ∙ n) s b)
left_out (orelse d) t K v e n s b = rw (← some_same _ v e) (builds_skip (orelse d) K t absent tt (λ _. refl) (λ _. refl) (λ l ls k. ap (is_word Else) k ∙ n) s b)
left_out script t K v e n s b = no_some v e
left_out (declared m) t K v e n s b = no_some v e
left_out (integer m p) t K v e n s b = no_some v e
left_out (mainly m p q) t K v e n s b = no_some v e

always : (A : Sym) (t : Tok) → empty A ≡ none → absorbs A t ≡ true
always (token w) t e = refl
always a_name t e = refl
always a_constant t e = refl
always a_result t e = refl
always an_int t e = refl
always parameter t e = no_some _ (sym e)
always (operand d) t e = refl
always (called d x) t e = no_some _ (sym e)
always (tail m d) t e = no_some _ (sym e)
always (expr d) t e = refl
always (exprs d) t e = refl
always (further d) t e = no_some _ (sym e)
always (arguments d) t e = no_some _ (sym e)
always (statement d) t e = refl
always (named d x) t e = refl
always (returned d p) t e = refl
always (statements d) t e = no_some _ (sym e)
always (orelse d) t e = no_some _ (sym e)
always script t e = refl
always (declared s) t e = refl
always (integer s p) t e = refl
always (mainly s p q) t e = refl

builds_choose : (A : Sym) (t : Tok) (K : List Sym) (o : Option (Value A)) → empty A ≡ o → (s : Step K) → Builds K t s → Builds (A ∷ K) t (choose A t K o s)
builds_choose A t K none e s b = builds_rule A t K (always A t e)
builds_choose A t K (some v) e s b =
    builds_cond (A ∷ K) t (absorbs A t) (rule A t K) (onto (λ vs. (v, vs)) s) (builds_rule A t K) (λ n. left_out A t K v e n s b)

pub builds : (K : List Sym) (t : Tok) → Builds K t (step K t)
builds [] t = tt
builds (A ∷ K) t = builds_choose A t K (empty A) refl (step K t) (builds K t)
