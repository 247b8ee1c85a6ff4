-- What a stack stands for: the lexemes, and the depths of what begins at each, that its trees are written as.
use Rattle.std.proofs.Common.{◌≡◌, ℕ, suc, pred, ◌<◌, Bool, true, false, not, eqb, List, [], ◌∷◌}
use mathlib.Core.Option.{Option, some}
use Rattle.lexer.specs.Lexeme.{Lexeme}
use Rattle.lexer.specs.declared.kind.Kind.TheVariants as K
use Rattle.meaning.specs.Trees.{Expr, constant, variable, call, bracket, unary, binary, Args, no_args, args, Exprs, last, more, Stmt, Parameter, nothing, takes, Item, extern, global, Script}
use Rattle.meaning.specs.Written.{sign, ident, literal, main_name, return_kind, binary_kind, expr_lexemes, exprs_lexemes, args_lexemes, stmt_lexemes, stmts_lexemes, parameter_lexemes, static_lexemes, items_lexemes, head_lexemes}
use Rattle.meaning.specs.Depths.{expr_depths, exprs_depths, args_depths, stmt_depths, stmts_depths, parameter_depths, static_depths, items_depths}
use Rattle.meaning.specs.Grammar.{looseness, Grouped, GroupedArgs, GroupedExprs, ends_open, Proper, Propers}
use Rattle.meaning.proofs.Tokens.{OpenParen, CloseParen, CloseBrace, Comma, Else, Tok, word_kind, tok_of, next, Spelled}
use Rattle.meaning.proofs.Stack.{is_word, loose, Tail, done, link, More, end, comma, Otherwise, absent, other, Sym, token, a_name, a_constant, a_result, an_int, parameter, operand, called, tail, expr, exprs, further, arguments, statement, named, returned, statements, orelse, script, declared, integer, mainly, Value, Values, Step, stop, on, empty, step, closed}

-- How trees are written.

abbrev pub tail_lexemes : Tail → List Lexeme → List Lexeme
tail_lexemes done r = r
tail_lexemes (link o p b t) r = sign (binary_kind o) p ∷ expr_lexemes b (tail_lexemes t r)

abbrev pub more_lexemes : More → List Lexeme → List Lexeme
more_lexemes end r = r
more_lexemes (comma p es) r = sign K.Comma p ∷ exprs_lexemes es r

abbrev pub other_lexemes : Otherwise → List Lexeme → List Lexeme
other_lexemes absent r = r
other_lexemes (other p s) r = sign K.Else p ∷ stmt_lexemes s r

abbrev pub whole_lexemes : Script → List Lexeme → List Lexeme
whole_lexemes s r = items_lexemes s.items (head_lexemes s.static s.marks (stmts_lexemes s.body (sign K.CloseBrace s.close ∷ r)))

abbrev pub lex_v : (A : Sym) → Value A → List Lexeme → List Lexeme
lex_v (token w) v r = sign (word_kind w) v ∷ r
lex_v a_name v r = ident v ∷ r
lex_v a_constant v r = literal v ∷ r
lex_v a_result v r = sign (return_kind v.0) v.1 ∷ r
lex_v an_int v r = sign K.Int v ∷ r
lex_v parameter v r = parameter_lexemes v r
lex_v (operand d) v r = expr_lexemes v r
lex_v (called d x) v r = expr_lexemes v r
lex_v (tail n d) v r = tail_lexemes v r
lex_v (expr d) v r = expr_lexemes v r
lex_v (exprs d) v r = exprs_lexemes v r
lex_v (further d) v r = more_lexemes v r
lex_v (arguments d) v r = args_lexemes v r
lex_v (statement d) v r = stmt_lexemes v r
lex_v (named d x) v r = stmt_lexemes v r
lex_v (returned d p) v r = stmt_lexemes v r
lex_v (statements d) v r = stmts_lexemes v r
lex_v (orelse d) v r = other_lexemes v r
lex_v script v r = whole_lexemes v r
lex_v (declared s) v r = whole_lexemes v r
lex_v (integer s p) v r = whole_lexemes v r
lex_v (mainly s p q) v r = whole_lexemes v r

abbrev pub tail_depths : Tail → ℕ → List ℕ → List ℕ
tail_depths done d r = r
tail_depths (link o p b t) d r = 0 ∷ expr_depths b d (tail_depths t d r)

abbrev pub more_depths : More → ℕ → List ℕ → List ℕ
more_depths end d r = r
more_depths (comma p es) d r = 0 ∷ exprs_depths es d r

abbrev pub other_depths : Otherwise → ℕ → List ℕ → List ℕ
other_depths absent d r = r
other_depths (other p s) d r = 0 ∷ stmt_depths s (suc d) r

abbrev pub whole_depths : Script → List ℕ → List ℕ
whole_depths s r = items_depths s.items (static_depths s.static (0 ∷ 0 ∷ 0 ∷ 0 ∷ 0 ∷ stmts_depths s.body 1 (0 ∷ r)))

abbrev pub dep_v : (A : Sym) → Value A → List ℕ → List ℕ
dep_v (token w) v r = 0 ∷ r
dep_v a_name v r = 0 ∷ r
dep_v a_constant v r = 0 ∷ r
dep_v a_result v r = 0 ∷ r
dep_v an_int v r = 0 ∷ r
dep_v parameter v r = parameter_depths v r
dep_v (operand d) v r = expr_depths v d r
dep_v (called d x) v r = expr_depths v d r
dep_v (tail n d) v r = tail_depths v d r
dep_v (expr d) v r = expr_depths v d r
dep_v (exprs d) v r = exprs_depths v d r
dep_v (further d) v r = more_depths v d r
dep_v (arguments d) v r = args_depths v d r
dep_v (statement d) v r = stmt_depths v d r
dep_v (named d x) v r = stmt_depths v d r
dep_v (returned d p) v r = stmt_depths v d r
dep_v (statements d) v r = stmts_depths v d r
dep_v (orelse d) v r = other_depths v d r
dep_v script v r = whole_depths v r
dep_v (declared s) v r = whole_depths v r
dep_v (integer s p) v r = whole_depths v r
dep_v (mainly s p q) v r = whole_depths v r

-- the lexemes that a symbol's tree began with, put back
abbrev pub before : Sym → List Lexeme → List Lexeme
before (token w) ls = ls
before a_name ls = ls
before a_constant ls = ls
before a_result ls = ls
before an_int ls = ls
before parameter ls = ls
before (operand d) ls = ls
before (called d x) ls = ident x ∷ ls
before (tail n d) ls = ls
before (expr d) ls = ls
before (exprs d) ls = ls
before (further d) ls = ls
before (arguments d) ls = ls
before (statement d) ls = ls
before (named d x) ls = ident x ∷ ls
before (returned d p) ls = sign K.Return p ∷ ls
before (statements d) ls = ls
before (orelse d) ls = ls
before script ls = ls
before (declared s) ls = static_lexemes s ls
before (integer s p) ls = static_lexemes s (sign K.Int p ∷ ls)
before (mainly s p q) ls = static_lexemes s (sign K.Int p ∷ ident (record { bytes = main_name; place = q }) ∷ ls)

abbrev pub before_d : Sym → List ℕ → List ℕ
before_d (token w) ds = ds
before_d a_name ds = ds
before_d a_constant ds = ds
before_d a_result ds = ds
before_d an_int ds = ds
before_d parameter ds = ds
before_d (operand d) ds = ds
before_d (called d x) ds = d ∷ ds
before_d (tail n d) ds = ds
before_d (expr d) ds = ds
before_d (exprs d) ds = ds
before_d (further d) ds = ds
before_d (arguments d) ds = ds
before_d (statement d) ds = ds
before_d (named d x) ds = d ∷ ds
before_d (returned d p) ds = d ∷ ds
before_d (statements d) ds = ds
before_d (orelse d) ds = ds
before_d script ds = ds
before_d (declared s) ds = static_depths s ds
before_d (integer s p) ds = static_depths s (0 ∷ ds)
before_d (mainly s p q) ds = static_depths s (0 ∷ 0 ∷ ds)

-- Which trees are grouped as the grammar has it.

abbrev pub FineTail : ℕ → Tail → Type 0
FineTail n done = Unit {0}
FineTail n (link o p b t) = (looseness o ≡ n) × Grouped b (pred n) × FineTail n t

abbrev pub FineMore : More → Type 0
FineMore end = Unit {0}
FineMore (comma p es) = GroupedExprs es

abbrev pub FineOther : Otherwise → Type 0
FineOther absent = Unit {0}
FineOther (other p s) = Proper s

-- a script that begins with `static` or without, and not with an extern
abbrev pub Begins : Option ℕ → List Item → Option ℕ → Type 0
Begins s [] t = t ≡ s
Begins s (extern q t x a ∷ is) u = ⊥
Begins s (global t q c x v ∷ is) u = t ≡ s

abbrev pub FineV : (A : Sym) → Value A → Type 0
FineV (token w) v = Unit {0}
FineV a_name v = Unit {0}
FineV a_constant v = Unit {0}
FineV a_result v = Unit {0}
FineV an_int v = Unit {0}
FineV parameter v = Unit {0}
FineV (operand d) v = Grouped v 0
FineV (called d x) v = Grouped v 0
FineV (tail n d) v = FineTail n v
FineV (expr d) v = Grouped v 6
FineV (exprs d) v = GroupedExprs v
FineV (further d) v = FineMore v
FineV (arguments d) v = GroupedArgs v
FineV (statement d) v = Proper v
FineV (named d x) v = Proper v
FineV (returned d p) v = Proper v
FineV (statements d) v = Propers v
FineV (orelse d) v = FineOther v
FineV script v = Propers v.body
FineV (declared s) v = Propers v.body × Begins s v.items v.static
FineV (integer s p) v = Propers v.body × Begins s v.items v.static
FineV (mainly s p q) v = Propers v.body × Begins s v.items v.static

-- Where a tree ends: what follows does not go on with it.

-- whether an expression ends with a variable, so that `(` after it would make it a call
abbrev pub ends_name : Expr → Bool
ends_name (constant c) = false
ends_name (variable x) = true
ends_name (call x q xs) = false
ends_name (bracket q e) = false
ends_name (unary u p e) = ends_name e
ends_name (binary o p a b) = ends_name b

abbrev pub NoCall : Expr → List Lexeme → Type 0
NoCall e r = ends_name e ≡ true → is_word OpenParen (next r) ≡ false

abbrev pub EndsE : ℕ → Expr → List Lexeme → Type 0
EndsE n e r = NoCall e r × (n < loose (next r))

abbrev pub EndsTail : ℕ → Tail → List Lexeme → Type 0
EndsTail n done r = eqb (loose (next r)) n ≡ false
EndsTail n (link o p b t) r = EndsE (pred n) b (tail_lexemes t r) × EndsTail n t r

abbrev pub EndsEs : Exprs → List Lexeme → Type 0
EndsEs (last e) r = EndsE 6 e r × (is_word Comma (next r) ≡ false)
EndsEs (more e p es) r = EndsEs es r

abbrev pub EndsMore : More → List Lexeme → Type 0
EndsMore end r = is_word Comma (next r) ≡ false
EndsMore (comma p es) r = EndsEs es r

abbrev pub EndsArgs : Args → List Lexeme → Type 0
EndsArgs no_args r = not (is_word CloseParen (next r)) ≡ false
EndsArgs (args es) r = EndsEs es r

abbrev pub NoElse : Stmt → List Lexeme → Type 0
NoElse s r = ends_open s ≡ true → is_word Else (next r) ≡ false

abbrev pub EndsOther : Otherwise → List Lexeme → Type 0
EndsOther absent r = is_word Else (next r) ≡ false
EndsOther (other p s) r = NoElse s r

abbrev pub EndsParameter : Parameter → List Lexeme → Type 0
EndsParameter nothing r = not (is_word CloseParen (next r)) ≡ false
EndsParameter (takes t p x) r = Unit {0}

abbrev pub EndsV : (A : Sym) → Value A → List Lexeme → Type 0
EndsV (token w) v r = Unit {0}
EndsV a_name v r = Unit {0}
EndsV a_constant v r = Unit {0}
EndsV a_result v r = Unit {0}
EndsV an_int v r = Unit {0}
EndsV parameter v r = EndsParameter v r
EndsV (operand d) v r = NoCall v r
EndsV (called d x) v r = NoCall v r
EndsV (tail n d) v r = EndsTail n v r
EndsV (expr d) v r = EndsE 6 v r
EndsV (exprs d) v r = EndsEs v r
EndsV (further d) v r = EndsMore v r
EndsV (arguments d) v r = EndsArgs v r
EndsV (statement d) v r = NoElse v r
EndsV (named d x) v r = NoElse v r
EndsV (returned d p) v r = NoElse v r
EndsV (statements d) v r = not (is_word CloseBrace (next r)) ≡ false
EndsV (orelse d) v r = EndsOther v r
EndsV script v r = Unit {0}
EndsV (declared s) v r = Unit {0}
EndsV (integer s p) v r = Unit {0}
EndsV (mainly s p q) v r = Unit {0}

-- The tree v of the symbol stands at the front of ls, and R holds of what follows.
pub record Stands (A : Sym) (v : Value A) (R : List Lexeme → List ℕ → Type 0) (ls : List Lexeme) (ds : List ℕ) : Type 0 where
  pub rest : List Lexeme
  pub depths : List ℕ
  pub fine : FineV A v
  pub lexemes : before A ls ≡ lex_v A v rest
  pub marks : before_d A ds ≡ dep_v A v depths
  pub ends : EndsV A v rest
  pub after : R rest depths

-- The trees of a stack stand there one after the other, and nothing after them.
abbrev pub Parsed : (K : List Sym) → Values K → List Lexeme → List ℕ → Type 0
Parsed [] vs ls ds = (ls ≡ []) × (ds ≡ [])
Parsed (A ∷ K) vs ls ds = Stands A vs.0 (Parsed K vs.1) ls ds

-- A step leads from trees to trees: those of the new stack give those of the old one ..
abbrev pub Builds : (K : List Sym) → Tok → Step K → Type 0
Builds K t stop = Unit {0}
Builds K t (on d L f) = (l : Lexeme) → tok_of l ≡ t → Spelled l t → (ws : Values L) (ls : List Lexeme) (es : List ℕ) → Parsed L ws ls es → Parsed K (f ws) (l ∷ ls) (d ∷ es)

-- .. and those of the old one come from some of the new one.
abbrev pub After : {K : List Sym} → Step K → Values K → List Lexeme → List ℕ → Type 0
After stop vs ls ds = ⊥
After (on d L f) vs ls ds = (ws : Values L) × (es : List ℕ) × (ds ≡ d ∷ es) × (vs ≡ f ws) × Parsed L ws ls es

-- every tree is the one with no token
abbrev pub Blank : (K : List Sym) → Values K → Type 0
Blank [] vs = Unit {0}
Blank (A ∷ K) vs = (empty A ≡ some vs.0) × Blank K vs.1

abbrev pub Moves : (K : List Sym) → Values K → List Lexeme → List ℕ → Type 0
Moves K vs [] ds = (closed K ≡ true) × (ds ≡ []) × Blank K vs
Moves K vs (l ∷ ls) ds = After (step K (tok_of l)) vs ls ds
