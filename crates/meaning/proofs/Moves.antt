-- Each tree moves: where the trees of a stack stand, the machine takes the first token, and the trees of the new stack, from
-- which these are made, stand after it.
use Rattle.std.proofs.Common.{◌≡◌, ℕ, zero, suc, pred, ◌+◌, Bool, true, false, cond, not, eqb, List, [], ◌∷◌, sym, refl, ap, ◌∙◌, subst, arith}
use mathlib.Core.Option.{Option, none, some}
use Rattle.std.proofs.lemmas.Slice.Eq.{bytes_eq-Decides}
use Rattle.std.proofs.lemmas.Bool.Decides.{nat_tests}
use Rattle.std.specs.Str.{bytes_eq}
use Rattle.lexer.specs.Lexeme.{Lexeme}
use Rattle.lexer.specs.declared.kind.Kind.TheVariants as Kinds
use Rattle.meaning.specs.declared.operator.Scalar.{Scalar}
use Rattle.meaning.specs.declared.operator.Scalar.TheVariants.{Bool as bool, Char as char, Int as int}
use Rattle.meaning.specs.declared.operator.Operator.{Operator}
use Rattle.meaning.specs.declared.operator.Operator.TheVariants.{Subtract}
use Rattle.meaning.specs.Trees.{Ident, Constant, negate, invert, Expr, constant, variable, call, bracket, unary, binary, Args, no_args, args, Exprs, last, more, Stmt, block, define, assign, modify, evaluate, if_then, if_else, while, do_while, for_to, break, continue, return, return_bare, Stmts, nil, cons, Return as Answer, void, gives, Parameter, nothing, takes, Item, extern, global, Script}
use Rattle.meaning.specs.Written.{sign, ident, literal, type_kind, modifier_kind, binary_kind, main_name, expr_lexemes, args_lexemes, exprs_lexemes, stmt_lexemes, stmts_lexemes, static_lexemes, items_lexemes}
use Rattle.meaning.specs.Depths.{expr_depths, args_depths, exprs_depths, stmt_depths, stmts_depths, static_depths, items_depths}
use Rattle.meaning.specs.Grammar.{looseness, Grouped, Proper, Propers, ends_open}
use Rattle.meaning.proofs.Tokens.{Word, Void, Extern, Static, If, Else, While, Do, For, To, Break, Continue, Return, Assign, OpenParen, CloseParen, OpenBrace, CloseBrace, Comma, Semicolon, Tok, name, value, type, operator, bang, modifier, word, stray, word_kind, tok_of, next, tok_word, tok_type, tok_operator, tok_modifier, tok_literal}
use Rattle.meaning.proofs.Stack.{word_code, same_word, at, is_word, Tail, done, link, end, comma, absent, other, Sym, token, a_name, a_constant, a_result, an_int, parameter, operand, called, tail, expr, exprs, further, arguments, statement, named, returned, statements, orelse, script, declared, integer, mainly, Value, Values, Step, stop, on, onto, tails_to, gather, terminal, operand_rule, expr_rule, listed, statement_rule, exprs_rule, global_row, typed_rule, empty, absorbs, step, closed}
use Rattle.meaning.proofs.Parsed.{tail_lexemes, tail_depths, EndsEs, EndsArgs, EndsParameter, NoCall, NoElse, Begins, FineV, EndsV, lex_v, dep_v, before, before_d, whole_lexemes, whole_depths, Stands, Parsed, After, Moves}
use Rattle.meaning.proofs.Spine.{looseness_positive, gather-nulls, nulls, parsed_nulls, spread}
use Rattle.meaning.proofs.Builds.{never, named_of}

-- what is to be shown of every stack
abbrev AllMoves : List Sym → Type 0
AllMoves K = (vs : Values K) (ls : List Lexeme) (ds : List ℕ) → Parsed K vs ls ds → Moves K vs ls ds

-- the step that the token of the first lexeme makes
taking : (K : List Sym) (t : Tok) (l : Lexeme) → tok_of l ≡ t → (vs : Values K) (ls : List Lexeme) (ds : List ℕ) → After (step K t) vs ls ds → Moves K vs (l ∷ ls) ds
taking K t l e vs ls ds a = subst (λ (u : Tok). After (step K u) vs ls ds) (sym e) a

after-onto : (K L : List Sym) (g : Values K → Values L) (s : Step K) (vs : Values K) (ls : List Lexeme) (ds : List ℕ) → After s vs ls ds → After (onto g s) (g vs) ls ds
after-onto K L g stop vs ls ds a = absurd a
after-onto K L g (on d M f) vs ls ds a = (a.0, a.1, a.2, ap g a.3, a.4)

after_same : (K : List Sym) (s : Step K) (vs ws : Values K) (ls : List Lexeme) (ds : List ℕ) → vs ≡ ws → After s vs ls ds → After s ws ls ds
after_same K s vs ws ls ds e a = subst (λ (x : Values K). After s x ls ds) e a

after_else : (K : List Sym) (b : Bool) (x y : Step K) (vs : Values K) (ls : List Lexeme) (ds : List ℕ) → b ≡ false → After y vs ls ds → After (cond b x y) vs ls ds
after_else K true x y vs ls ds e a = never (sym e)
after_else K false x y vs ls ds e a = a

after_then : (K : List Sym) (b : Bool) (x y : Step K) (vs : Values K) (ls : List Lexeme) (ds : List ℕ) → b ≡ true → After x vs ls ds → After (cond b x y) vs ls ds
after_then K true x y vs ls ds e a = a
after_then K false x y vs ls ds e a = never e

-- a tree with no token moves as what follows it does
skipped : (A : Sym) (K : List Sym) (v : Value A) → empty A ≡ some v → (vs : Values K) (r : List Lexeme) (rs : List ℕ) → absorbs A (next r) ≡ false → Moves K vs r rs → Moves (A ∷ K) (v, vs) r rs
skipped A K v e vs [] rs h m = (rw (e, h) m.0, m.1, (e, m.2))
skipped A K v e vs (l ∷ ls) rs h m =
    rw e (after_else (A ∷ K) (absorbs A (tok_of l)) _ _ (v, vs) ls rs h (after-onto K (A ∷ K) (λ ws. (v, ws)) (step K (tok_of l)) vs ls rs m))

-- a symbol that puts nothing back: it is enough to look at the lexemes of its trees
abbrev MovesAt : (A : Sym) (K : List Sym) → Type 0
MovesAt A K = (v : Value A) (vs : Values K) (r : List Lexeme) (rs : List ℕ) → FineV A v → EndsV A v r → Parsed K vs r rs → Moves (A ∷ K) (v, vs) (lex_v A v r) (dep_v A v rs)

from_front : (A : Sym) (K : List Sym) → ((ls : List Lexeme) → before A ls ≡ ls) → ((ds : List ℕ) → before_d A ds ≡ ds) → MovesAt A K → AllMoves (A ∷ K)
from_front A K f g m vs ls ds p =
    let a : ls ≡ lex_v A vs.0 p.rest = sym (f ls) ∙ p.lexemes in
    let b : ds ≡ dep_v A vs.0 p.depths = sym (g ds) ∙ p.marks in
    subst (λ (x : List Lexeme). Moves (A ∷ K) vs x ds) (sym a) (subst (λ (x : List ℕ). Moves (A ∷ K) vs (lex_v A vs.0 p.rest) x) (sym b) (m vs.0 vs.1 p.rest p.depths p.fine p.ends p.after))

-- Tokens.

self_word : (w : Word) → same_word w w ≡ true
self_word w = grind (arith, nat_tests)

at_own : (w : Word) (p : ℕ) → at w (word w p) ≡ some p
at_own w p = rw (self_word w) refl

token_at : (w : Word) (K : List Sym) → MovesAt (token w) K
token_at w K v vs r rs f e p =
    taking (token w ∷ K) (word w v) (sign (word_kind w) v) (tok_word w v) (v, vs) r (0 ∷ rs)
    (subst (λ (o : Option ℕ). After (terminal (token w) K o) (v, vs) r (0 ∷ rs)) (sym (at_own w v)) (vs, rs, refl, refl, p))

moves_token : (w : Word) (K : List Sym) → AllMoves (token w ∷ K)
moves_token w K = from_front (token w) K (λ _. refl) (λ _. refl) (token_at w K)

moves_name : (K : List Sym) → AllMoves (a_name ∷ K)
moves_name K = from_front a_name K (λ _. refl) (λ _. refl) (λ v vs r rs f e p. (vs, rs, refl, refl, p))

moves_constant : (K : List Sym) → AllMoves (a_constant ∷ K)
moves_constant K = from_front a_constant K (λ _. refl) (λ _. refl) (λ v vs r rs f e p. taking (a_constant ∷ K) (value v) (literal v) (tok_literal v) (v, vs) r (0 ∷ rs) (vs, rs, refl, refl, p))

result-at : (K : List Sym) (a : Answer) (q : ℕ) (vs : Values K) (r : List Lexeme) (rs : List ℕ) → Parsed K vs r rs → Moves (a_result ∷ K) ((a, q), vs) (lex_v a_result (a, q) r) (0 ∷ rs)
result-at K void q vs r rs p = (vs, rs, refl, refl, p)
result-at K (gives t) q vs r rs p = taking (a_result ∷ K) (type t q) (sign (type_kind t) q) (tok_type t q) ((gives t, q), vs) r (0 ∷ rs) (vs, rs, refl, refl, p)

moves_result : (K : List Sym) → AllMoves (a_result ∷ K)
moves_result K = from_front a_result K (λ _. refl) (λ _. refl) (λ v vs r rs f e p. result-at K v.0 v.1 vs r rs p)

moves_int : (K : List Sym) → AllMoves (an_int ∷ K)
moves_int K = from_front an_int K (λ _. refl) (λ _. refl) (λ v vs r rs f e p. (vs, rs, refl, refl, p))

parameter_at : (K : List Sym) → AllMoves K → MovesAt parameter K
parameter_at K m nothing vs r rs f e p = skipped parameter K nothing refl vs r rs e (m vs r rs p)
parameter_at K m (takes t q x) vs r rs f e p =
    taking (parameter ∷ K) (type t q) (sign (type_kind t) q) (tok_type t q) (takes t q x, vs) (ident x ∷ r) (0 ∷ 0 ∷ rs)
    ((x, vs), 0 ∷ rs, refl, refl, record { rest = r; depths = rs; fine = tt; lexemes = refl; marks = refl; ends = tt; after = p })

-- Expressions.

-- a name goes on as it may
begun : (d : ℕ) (x : Ident) (K : List Sym) (e : Expr) (vs : Values K) (ls r : List Lexeme) (ds rs : List ℕ) → Grouped e 0 → NoCall e r → Parsed K vs r rs
    → ident x ∷ ls ≡ expr_lexemes e r → d ∷ ds ≡ expr_depths e d rs → Parsed (called d x ∷ K) (e, vs) ls ds
begun d x K e vs ls r ds rs f n p a b = record { rest = r; depths = rs; fine = f; lexemes = a; marks = b; ends = n; after = p }

operand_at : (d : ℕ) (K : List Sym) → MovesAt (operand d) K
unfolding expr_lexemes expr_depths
operand_at d K (constant c) vs r rs f e p = taking (operand d ∷ K) (value c) (literal c) (tok_literal c) (constant c, vs) r (d ∷ rs) (vs, rs, refl, refl, p)
operand_at d K (variable x) vs r rs f e p = ((variable x, vs), rs, refl, refl, begun d x K (variable x) vs _ r _ rs f e p refl refl)
operand_at d K (call x q xs) vs r rs f e p = ((call x q xs, vs), _, refl, refl, begun d x K (call x q xs) vs _ r _ rs f e p refl refl)
operand_at d K (bracket q e) vs r rs f n p = (
  (e, (q.1, vs)),
  expr_depths e (suc d) (0 ∷ rs),
  refl,
  refl,
  record {
    rest = sign Kinds.CloseParen q.1 ∷ r;
    depths = 0 ∷ rs;
    fine = f;
    lexemes = refl;
    marks = refl;
    ends = (λ _. refl, omega arith);
    after = record { rest = r; depths = rs; fine = tt; lexemes = refl; marks = refl; ends = tt; after = p };
  },
)
operand_at d K (unary negate q e) vs r rs f n p =
    ((e, vs), expr_depths e (suc d) rs, refl, refl, record { rest = r; depths = rs; fine = f; lexemes = refl; marks = refl; ends = n; after = p })
operand_at d K (unary invert q e) vs r rs f n p =
    ((e, vs), expr_depths e (suc d) rs, refl, refl, record { rest = r; depths = rs; fine = f; lexemes = refl; marks = refl; ends = n; after = p })
operand_at d K (binary o q a b) vs r rs f e p = absurd (omega (arith, f.0, looseness_positive o))

moves_operand : (d : ℕ) (K : List Sym) → AllMoves (operand d ∷ K)
moves_operand d K = from_front (operand d) K (λ _. refl) (λ _. refl) (operand_at d K)

ident_of : Lexeme → Ident
ident_of l = record { bytes = l.name; place = l.place }

same_ident : (x y : Ident) (ls ms : List Lexeme) → ident x ∷ ls ≡ ident y ∷ ms → (x ≡ y) × (ls ≡ ms)
unfolding ident_of
same_ident x y ls ms e = let h : ident x ≡ ident y = cc in (ap ident_of h, cc)

same_head : (l m : Lexeme) (ls ms : List Lexeme) → l ∷ ls ≡ m ∷ ms → (tok_of l ≡ tok_of m) × (ls ≡ ms)
same_head l m ls ms e = (ap next e, cc)

same_depth : (c d : ℕ) (cs ds : List ℕ) → c ∷ cs ≡ d ∷ ds → cs ≡ ds
same_depth c d cs ds e = cc

-- two tokens of different kinds are not the same
abbrev tok_code : Tok → ℕ
tok_code (name x) = 0
tok_code (value c) = 1
tok_code (type t p) = 2
tok_code (operator o p) = 3
tok_code (bang p) = 4
tok_code (modifier m p) = 5
tok_code (word w p) = 10 + word_code w
tok_code stray = 7

differ : {X : Type 0} (s t : Tok) → s ≡ t → (tok_code s ≡ tok_code t → ⊥) → X
differ s t e n = absurd (n (ap tok_code e))

-- after a name: a variable, or a call
exprs_end_lem : (es : Exprs) (q : ℕ) (r : List Lexeme) → EndsEs es (sign Kinds.CloseParen q ∷ r)
exprs_end_lem (last e) q r = ((λ _. refl, omega arith), refl)
exprs_end_lem (more e p es) q r = exprs_end_lem es q r

args_end_lem : (xs : Args) (q : ℕ) (r : List Lexeme) → EndsArgs xs (sign Kinds.CloseParen q ∷ r)
args_end_lem no_args q r = refl
args_end_lem (args es) q r = exprs_end_lem es q r

called_by : (d : ℕ) (x : Ident) (K : List Sym) → AllMoves K → (e : Expr) (vs : Values K) (ls r : List Lexeme) (ds rs : List ℕ) → Grouped e 0 → NoCall e r → Parsed K vs r rs
    → ident x ∷ ls ≡ expr_lexemes e r → d ∷ ds ≡ expr_depths e d rs → Moves (called d x ∷ K) (e, vs) ls ds
unfolding expr_lexemes expr_depths
called_by d x K m (constant c) vs ls r ds rs f n p a b = differ (name x) (value c) ((same_head _ _ _ _ a).0 ∙ tok_literal c) (omega arith)
called_by d x K m (variable y) vs ls r ds rs f n p a b =
    let i = same_ident x y ls r a in let j : ds ≡ rs = same_depth _ _ _ _ b in
    rw (i.1, j, ← i.0) (skipped (called d x) K (variable x) refl vs r rs (n refl) (m vs r rs p))
called_by d x K m (call y q xs) vs ls r ds rs f n p a b =
    let i = same_ident x y ls _ a in let j : ds ≡ 0 ∷ args_depths xs (suc d) (0 ∷ rs) = same_depth _ _ _ _ b in
    rw (i.1, j, ← i.0) (
      (xs, (q.1, vs)),
      args_depths xs (suc d) (0 ∷ rs),
      refl,
      refl,
      record {
        rest = sign Kinds.CloseParen q.1 ∷ r;
        depths = 0 ∷ rs;
        fine = f;
        lexemes = refl;
        marks = refl;
        ends = args_end_lem xs q.1 r;
        after = record { rest = r; depths = rs; fine = tt; lexemes = refl; marks = refl; ends = tt; after = p };
      },
    )
called_by d x K m (bracket q e) vs ls r ds rs f n p a b = differ (name x) (word OpenParen q.0) (same_head _ _ _ _ a).0 (omega arith)
called_by d x K m (unary negate q e) vs ls r ds rs f n p a b = differ (name x) (operator Subtract q) (same_head _ _ _ _ a).0 (omega arith)
called_by d x K m (unary invert q e) vs ls r ds rs f n p a b = differ (name x) (bang q) (same_head _ _ _ _ a).0 (omega arith)
called_by d x K m (binary o q c e) vs ls r ds rs f n p a b = absurd (omega (arith, f.0, looseness_positive o))

moves_called : (d : ℕ) (x : Ident) (K : List Sym) → AllMoves K → AllMoves (called d x ∷ K)
moves_called d x K m vs ls ds p = called_by d x K m vs.0 vs.1 ls p.rest ds p.depths p.fine p.ends p.after p.lexemes p.marks

eqb_of : (m n : ℕ) → m ≡ n → eqb m n ≡ true
eqb_of m n e = grind (arith, nat_tests)

abbrev link_of : (K : List Sym) → Operator → ℕ → Expr × (Tail × Values K) → Tail × Values K
link_of K o q x = (link o q x.0 x.1.0, x.1.1)

tail_at : (n d : ℕ) (K : List Sym) → AllMoves K → MovesAt (tail n d) K
tail_at n d K m done vs r rs f e p = skipped (tail n d) K done refl vs r rs e (m vs r rs p)
tail_at n d K m (link o q b t) vs r rs f e p =
    let L = tail n d ∷ K in
    let k : Parsed L (t, vs) (tail_lexemes t r) (tail_depths t d rs) = record { rest = r; depths = rs; fine = f.2; lexemes = refl; marks = refl; ends = e.1; after = p } in
    let h = e.0.1 in
    let s = spread d b (pred n) L (nulls (pred n) d L (t, vs)) (tail_lexemes t r) (tail_depths t d rs) f.1 e.0.0 (omega arith) (parsed_nulls (pred n) d L (t, vs) _ _ h k) in
    let g : gather (pred n) d L s.first s.tails ≡ (b, (t, vs)) = s.same ∙ gather-nulls (pred n) d L b (t, vs) in
    taking L (operator o q) (sign (binary_kind o) q) (tok_operator o q) (link o q b t, vs) _ _
    (after_then L (eqb (looseness o) n) _ _ (link o q b t, vs) (expr_lexemes b (tail_lexemes t r)) (0 ∷ expr_depths b d (tail_depths t d rs)) (eqb_of (looseness o) n f.0) (
      (s.first, s.tails),
      expr_depths b d (tail_depths t d rs),
      refl,
      sym (ap (link_of K o q) g),
      s.stands,
    ))

moves_tail : (n d : ℕ) (K : List Sym) → AllMoves K → AllMoves (tail n d ∷ K)
moves_tail n d K m = from_front (tail n d) K (λ _. refl) (λ _. refl) (tail_at n d K m)

moves_tails : (n d : ℕ) (K : List Sym) → AllMoves K → AllMoves (tails_to n d K)
moves_tails zero d K m = m
moves_tails (suc n) d K m = moves_tails n d (tail (suc n) d ∷ K) (moves_tail (suc n) d K m)

expr_moves : (d : ℕ) (K : List Sym) (e : Expr) (ts : Values (tails_to 6 d K)) (vs : Values (expr d ∷ K)) → gather 6 d K e ts ≡ vs → (ls : List Lexeme) (ds : List ℕ)
    → Moves (operand d ∷ tails_to 6 d K) (e, ts) ls ds → Moves (expr d ∷ K) vs ls ds
expr_moves d K e ts vs g [] ds m = never m.0
expr_moves d K e ts vs g (l ∷ ls) ds m =
    after_same (expr d ∷ K) (expr_rule d (tok_of l) K) (gather 6 d K e ts) vs ls ds g
    (after-onto (operand d ∷ tails_to 6 d K) (expr d ∷ K) (λ x. gather 6 d K x.0 x.1) (operand_rule d (tok_of l) (tails_to 6 d K)) (e, ts) ls ds m)

expr_at : (d : ℕ) (K : List Sym) → MovesAt (expr d) K
expr_at d K e vs r rs f n p =
    let s = spread d e 6 K (nulls 6 d K vs) r rs f n.0 (omega (arith, n.1)) (parsed_nulls 6 d K vs r rs n.1 p) in
    let g : gather 6 d K s.first s.tails ≡ (e, vs) = s.same ∙ gather-nulls 6 d K e vs in
    expr_moves d K s.first s.tails (e, vs) g (expr_lexemes e r) (expr_depths e d rs) (moves_operand d (tails_to 6 d K) (s.first, s.tails) _ _ s.stands)

moves_expr : (d : ℕ) (K : List Sym) → AllMoves (expr d ∷ K)
moves_expr d K = from_front (expr d) K (λ _. refl) (λ _. refl) (expr_at d K)

-- a step made from another, at a stack whose first symbol stands for some token
moves_onto : (K L : List Sym) (g : Values K → Values L) → ((t : Tok) → step L t ≡ onto g (step K t)) → closed K ≡ false → AllMoves K
    → (vs : Values K) (ls : List Lexeme) (ds : List ℕ) → Parsed K vs ls ds → Moves L (g vs) ls ds
moves_onto K L g e c m vs [] ds p = never (sym c ∙ (m vs [] ds p).0)
moves_onto K L g e c m vs (l ∷ ls) ds p = rw (e (tok_of l)) (after-onto K L g (step K (tok_of l)) vs ls ds (m vs (l ∷ ls) ds p))

exprs_at : (d : ℕ) (K : List Sym) → MovesAt (exprs d) K
unfolding exprs_lexemes exprs_depths
exprs_at d K (last e) vs r rs f n p =
    moves_onto (expr d ∷ further d ∷ K) (exprs d ∷ K) (λ x. (listed x.0 x.1.0, x.1.1)) (λ t. refl) refl (moves_expr d (further d ∷ K)) (e, (end, vs)) _ _
    (record {
      rest = r;
      depths = rs;
      fine = f;
      lexemes = refl;
      marks = refl;
      ends = n.0;
      after = record { rest = r; depths = rs; fine = tt; lexemes = refl; marks = refl; ends = n.1; after = p };
    })
exprs_at d K (more e q es) vs r rs f n p =
    moves_onto (expr d ∷ further d ∷ K) (exprs d ∷ K) (λ x. (listed x.0 x.1.0, x.1.1)) (λ t. refl) refl (moves_expr d (further d ∷ K)) (e, (comma q es, vs)) _ _
    (record {
      rest = sign Kinds.Comma q ∷ exprs_lexemes es r;
      depths = 0 ∷ exprs_depths es d rs;
      fine = f.0;
      lexemes = refl;
      marks = refl;
      ends = (λ _. refl, omega arith);
      after = record { rest = r; depths = rs; fine = f.1; lexemes = refl; marks = refl; ends = n; after = p };
    })

moves_exprs : (d : ℕ) (K : List Sym) → AllMoves (exprs d ∷ K)
moves_exprs d K = from_front (exprs d) K (λ _. refl) (λ _. refl) (exprs_at d K)

further_at : (d : ℕ) (K : List Sym) → AllMoves K → MovesAt (further d) K
further_at d K m end vs r rs f n p = skipped (further d) K end refl vs r rs n (m vs r rs p)
further_at d K m (comma q es) vs r rs f n p =
    ((es, vs), exprs_depths es d rs, refl, refl, record { rest = r; depths = rs; fine = f; lexemes = refl; marks = refl; ends = n; after = p })

-- no argument begins with `)`, no statement with `}`
not_close : (d : ℕ) (K : List Sym) (t : Tok) (vs : Values (exprs d ∷ K)) (ls : List Lexeme) (ds : List ℕ) → After (exprs_rule d t K) vs ls ds → not (is_word CloseParen t) ≡ true
not_close d K (name x) vs ls ds a = refl
not_close d K (value c) vs ls ds a = refl
not_close d K (type t p) vs ls ds a = refl
not_close d K (operator o p) vs ls ds a = refl
not_close d K (bang p) vs ls ds a = refl
not_close d K (modifier m p) vs ls ds a = refl
not_close d K (word Void p) vs ls ds a = refl
not_close d K (word Extern p) vs ls ds a = refl
not_close d K (word Static p) vs ls ds a = refl
not_close d K (word If p) vs ls ds a = refl
not_close d K (word Else p) vs ls ds a = refl
not_close d K (word While p) vs ls ds a = refl
not_close d K (word Do p) vs ls ds a = refl
not_close d K (word For p) vs ls ds a = refl
not_close d K (word To p) vs ls ds a = refl
not_close d K (word Break p) vs ls ds a = refl
not_close d K (word Continue p) vs ls ds a = refl
not_close d K (word Return p) vs ls ds a = refl
not_close d K (word Assign p) vs ls ds a = refl
not_close d K (word OpenParen p) vs ls ds a = refl
not_close d K (word CloseParen p) vs ls ds a = absurd a
not_close d K (word OpenBrace p) vs ls ds a = refl
not_close d K (word CloseBrace p) vs ls ds a = refl
not_close d K (word Comma p) vs ls ds a = refl
not_close d K (word Semicolon p) vs ls ds a = refl
not_close d K stray vs ls ds a = refl

args_moves : (d : ℕ) (K : List Sym) (es : Exprs) (vs : Values K) (ls : List Lexeme) (ds : List ℕ) → Moves (exprs d ∷ K) (es, vs) ls ds → Moves (arguments d ∷ K) (args es, vs) ls ds
args_moves d K es vs [] ds m = never m.0
args_moves d K es vs (l ∷ ls) ds m =
    after_then (arguments d ∷ K) (not (is_word CloseParen (tok_of l))) _ _ (args es, vs) ls ds (not_close d K (tok_of l) (es, vs) ls ds m)
    (after-onto (exprs d ∷ K) (arguments d ∷ K) (λ x. (args x.0, x.1)) (exprs_rule d (tok_of l) K) (es, vs) ls ds m)

arguments_at : (d : ℕ) (K : List Sym) → AllMoves K → MovesAt (arguments d) K
unfolding args_lexemes args_depths
arguments_at d K m no_args vs r rs f n p = skipped (arguments d) K no_args refl vs r rs n (m vs r rs p)
arguments_at d K m (args es) vs r rs f n p = args_moves d K es vs (exprs_lexemes es r) (exprs_depths es d rs) (exprs_at d K es vs r rs f n p)

-- Statements.

-- an expression as a statement; one that begins with a name goes on as a statement that does
evaluated : (d : ℕ) (K : List Sym) (t : Tok) (e : Expr) (q : ℕ) (vs : Values K) (ls : List Lexeme) (ds : List ℕ)
    → After (expr_rule d t (token Semicolon ∷ K)) (e, (q, vs)) ls ds → After (statement_rule d t K) (evaluate e q, vs) ls ds
evaluated d K (name x) e q vs ls ds a =
    let g : Values (expr d ∷ token Semicolon ∷ K) → Values (named d x ∷ K) = λ y. (evaluate y.0 y.1.0, y.1.1) in (
      (evaluate e q, vs),
      a.1,
      a.2,
      refl,
      subst (λ (y : Values (expr d ∷ token Semicolon ∷ K)). Parsed (named d x ∷ K) (g y) ls a.1) (sym a.3) (named_of d x K a.0 ls a.1 a.4),
    )
evaluated d K (value c) e q vs ls ds a = after-onto (expr d ∷ token Semicolon ∷ K) (statement d ∷ K) (λ y. (evaluate y.0 y.1.0, y.1.1)) (expr_rule d (value c) (token Semicolon ∷ K)) (e, (q, vs)) ls ds a
evaluated d K (type t p) e q vs ls ds a = absurd a
evaluated d K (operator o p) e q vs ls ds a = after-onto (expr d ∷ token Semicolon ∷ K) (statement d ∷ K) (λ y. (evaluate y.0 y.1.0, y.1.1)) (expr_rule d (operator o p) (token Semicolon ∷ K)) (e, (q, vs)) ls ds a
evaluated d K (bang p) e q vs ls ds a = after-onto (expr d ∷ token Semicolon ∷ K) (statement d ∷ K) (λ y. (evaluate y.0 y.1.0, y.1.1)) (expr_rule d (bang p) (token Semicolon ∷ K)) (e, (q, vs)) ls ds a
evaluated d K (modifier m p) e q vs ls ds a = absurd a
evaluated d K (word Void p) e q vs ls ds a = absurd a
evaluated d K (word Extern p) e q vs ls ds a = absurd a
evaluated d K (word Static p) e q vs ls ds a = absurd a
evaluated d K (word If p) e q vs ls ds a = absurd a
evaluated d K (word Else p) e q vs ls ds a = absurd a
evaluated d K (word While p) e q vs ls ds a = absurd a
evaluated d K (word Do p) e q vs ls ds a = absurd a
evaluated d K (word For p) e q vs ls ds a = absurd a
evaluated d K (word To p) e q vs ls ds a = absurd a
evaluated d K (word Break p) e q vs ls ds a = absurd a
evaluated d K (word Continue p) e q vs ls ds a = absurd a
evaluated d K (word Return p) e q vs ls ds a = absurd a
evaluated d K (word Assign p) e q vs ls ds a = absurd a
evaluated d K (word OpenParen p) e q vs ls ds a = after-onto (expr d ∷ token Semicolon ∷ K) (statement d ∷ K) (λ y. (evaluate y.0 y.1.0, y.1.1)) (expr_rule d (word OpenParen p) (token Semicolon ∷ K)) (e, (q, vs)) ls ds a
evaluated d K (word CloseParen p) e q vs ls ds a = absurd a
evaluated d K (word OpenBrace p) e q vs ls ds a = absurd a
evaluated d K (word CloseBrace p) e q vs ls ds a = absurd a
evaluated d K (word Comma p) e q vs ls ds a = absurd a
evaluated d K (word Semicolon p) e q vs ls ds a = absurd a
evaluated d K stray e q vs ls ds a = absurd a

evaluate_moves : (d : ℕ) (K : List Sym) (e : Expr) (q : ℕ) (vs : Values K) (ls : List Lexeme) (ds : List ℕ) → Moves (expr d ∷ token Semicolon ∷ K) (e, (q, vs)) ls ds → Moves (statement d ∷ K) (evaluate e q, vs) ls ds
evaluate_moves d K e q vs [] ds m = never m.0
evaluate_moves d K e q vs (l ∷ ls) ds m = evaluated d K (tok_of l) e q vs ls ds m

-- a token at the front
front : (w : Word) (q : ℕ) (R : List Lexeme → List ℕ → Type 0) (r : List Lexeme) (rs : List ℕ) → R r rs → Stands (token w) q R (sign (word_kind w) q ∷ r) (0 ∷ rs)
front w q R r rs p = record { rest = r; depths = rs; fine = tt; lexemes = refl; marks = refl; ends = tt; after = p }

-- an expression before a token that does not go on with one
holding : (d : ℕ) (e : Expr) (w : Word) (q : ℕ) (R : List Lexeme → List ℕ → Type 0) (r : List Lexeme) (rs : List ℕ) → same_word OpenParen w ≡ false → Grouped e 6 → R r rs
    → Stands (expr d) e (Stands (token w) q R) (expr_lexemes e (sign (word_kind w) q ∷ r)) (expr_depths e d (0 ∷ rs))
holding d e w q R r rs n g p =
    record {
      rest = sign (word_kind w) q ∷ r;
      depths = 0 ∷ rs;
      fine = g;
      lexemes = refl;
      marks = refl;
      ends = (λ _. ap (is_word OpenParen) (tok_word w q) ∙ n, rw (tok_word w q) (omega arith));
      after = front w q R r rs p;
    }

-- a statement as one that has begun with a name
naming : (d : ℕ) (x : Ident) (K : List Sym) (s : Stmt) (vs : Values K) (ls r : List Lexeme) (ds rs : List ℕ) → Proper s → NoElse s r → Parsed K vs r rs
    → ident x ∷ ls ≡ stmt_lexemes s r → d ∷ ds ≡ stmt_depths s d rs → Parsed (named d x ∷ K) (s, vs) ls ds
naming d x K s vs ls r ds rs f n p a b = record { rest = r; depths = rs; fine = f; lexemes = a; marks = b; ends = n; after = p }

returning : (d q : ℕ) (K : List Sym) (s : Stmt) (vs : Values K) (ls r : List Lexeme) (ds rs : List ℕ) → Proper s → NoElse s r → Parsed K vs r rs
    → sign Kinds.Return q ∷ ls ≡ stmt_lexemes s r → d ∷ ds ≡ stmt_depths s d rs → Parsed (returned d q ∷ K) (s, vs) ls ds
returning d q K s vs ls r ds rs f n p a b = record { rest = r; depths = rs; fine = f; lexemes = a; marks = b; ends = n; after = p }

-- a body
bodied : (d : ℕ) (s : Stmt) (R : List Lexeme → List ℕ → Type 0) (r : List Lexeme) (rs : List ℕ) → Proper s → NoElse s r → R r rs → Stands (statement d) s R (stmt_lexemes s r) (stmt_depths s d rs)
bodied d s R r rs f n p = record { rest = r; depths = rs; fine = f; lexemes = refl; marks = refl; ends = n; after = p }

statement_at : (d : ℕ) (K : List Sym) → MovesAt (statement d) K
unfolding stmt_lexemes stmt_depths ends_open
statement_at d K (block q ss) vs r rs f n p =
    ((ss, (q.1, vs)), _, refl, refl, record { rest = sign Kinds.CloseBrace q.1 ∷ r; depths = 0 ∷ rs; fine = f; lexemes = refl; marks = refl; ends = refl; after = front CloseBrace q.1 _ r rs p })
statement_at d K (define t q x e) vs r rs f n p =
    taking (statement d ∷ K) (type t q.0) (sign (type_kind t) q.0) (tok_type t q.0) (define t q x e, vs) _ _ (
      (x, (q.1, (e, (q.2, vs)))),
      _,
      refl,
      refl,
      record { rest = _; depths = _; fine = tt; lexemes = refl; marks = refl; ends = tt; after = front Assign q.1 _ _ _ (holding d e Semicolon q.2 _ r rs refl f p) },
    )
statement_at d K (assign x o e q) vs r rs f n p = ((assign x o e q, vs), _, refl, refl, naming d x K (assign x o e q) vs _ r _ rs f n p refl refl)
statement_at d K (modify m x o e q) vs r rs f n p = ((modify m x o e q, vs), _, refl, refl, naming d x K (modify m x o e q) vs _ r _ rs f n p refl refl)
statement_at d K (evaluate e q) vs r rs f n p =
    evaluate_moves d K e q vs (expr_lexemes e (sign Kinds.Semicolon q ∷ r)) (expr_depths e d (0 ∷ rs))
    (moves_expr d (token Semicolon ∷ K) (e, (q, vs)) _ _ (holding d e Semicolon q (Parsed K vs) r rs refl f p))
statement_at d K (if_then o q e s) vs r rs f n p = (
  (q.0, (e, (q.1, (s, (absent, vs))))),
  _,
  refl,
  refl,
  front OpenParen q.0 _ _ _ (holding d e CloseParen q.1 _ _ _ refl f.0 (bodied (suc d) s _ r rs f.1 (λ _. n refl)
      (record { rest = r; depths = rs; fine = tt; lexemes = refl; marks = refl; ends = n refl; after = p }))),
)
statement_at d K (if_else o q e s b t) vs r rs f n p = (
  (q.0, (e, (q.1, (s, (other b t, vs))))),
  _,
  refl,
  refl,
  front OpenParen q.0 _ _ _ (holding d e CloseParen q.1 _ _ _ refl f.0 (bodied (suc d) s _ (sign Kinds.Else b ∷ stmt_lexemes t r) (0 ∷ stmt_depths t (suc d) rs) f.1 (λ z. never (sym f.2 ∙ z))
      (record { rest = r; depths = rs; fine = f.3; lexemes = refl; marks = refl; ends = n; after = p }))),
)
statement_at d K (while o q e s) vs r rs f n p = (
  (q.0, (e, (q.1, (s, vs)))),
  _,
  refl,
  refl,
  front OpenParen q.0 _ _ _ (holding d e CloseParen q.1 _ _ _ refl f.0 (bodied (suc d) s _ r rs f.1 n p)),
)
statement_at d K (do_while o s q e) vs r rs f n p = (
  (s, (q.0, (q.1, (e, (q.2, (q.3, vs)))))),
  _,
  refl,
  refl,
  bodied (suc d) s _ (sign Kinds.While q.0 ∷ sign Kinds.OpenParen q.1 ∷ expr_lexemes e (sign Kinds.CloseParen q.2 ∷ sign Kinds.Semicolon q.3 ∷ r)) (0 ∷ 0 ∷ expr_depths e d (0 ∷ 0 ∷ rs)) f.0 (λ _. refl)
      (front While q.0 _ _ _ (front OpenParen q.1 _ _ _ (holding d e CloseParen q.2 _ _ _ refl f.1 (front Semicolon q.3 _ r rs p)))),
)
statement_at d K (for_to o q x a b s) vs r rs f n p = (
  (q.0, (q.1, (x, (q.2, (a, (q.3, (b, (q.4, (s, vs))))))))),
  _,
  refl,
  refl,
  front OpenParen q.0 _ _ _
      (record {
        rest = _;
        depths = _;
        fine = tt;
        lexemes = refl;
        marks = refl;
        ends = tt;
        after = record {
          rest = _;
          depths = _;
          fine = tt;
          lexemes = refl;
          marks = refl;
          ends = tt;
          after = front Assign q.2 _ _ _ (holding d a To q.3 _ _ _ refl f.0 (holding d b CloseParen q.4 _ _ _ refl f.1 (bodied (suc d) s _ r rs f.2 n p)));
        };
      }),
)
statement_at d K (break o q) vs r rs f n p = ((q, vs), 0 ∷ rs, refl, refl, front Semicolon q _ r rs p)
statement_at d K (continue o q) vs r rs f n p = ((q, vs), 0 ∷ rs, refl, refl, front Semicolon q _ r rs p)
statement_at d K (return o e q) vs r rs f n p = ((return o e q, vs), _, refl, refl, returning d o K (return o e q) vs _ r _ rs f n p refl refl)
statement_at d K (return_bare o q) vs r rs f n p = ((return_bare o q, vs), _, refl, refl, returning d o K (return_bare o q) vs _ r _ rs f n p refl refl)

moves_statement : (d : ℕ) (K : List Sym) → AllMoves (statement d ∷ K)
moves_statement d K = from_front (statement d) K (λ _. refl) (λ _. refl) (statement_at d K)

-- A statement that began with a name. Where it is an expression, no assignment follows the name.

abbrev finished : (d : ℕ) (x : Ident) (K : List Sym) → Values (called d x ∷ tails_to 6 d (token Semicolon ∷ K)) → Values (named d x ∷ K)
finished d x K vs = let g = gather 6 d (token Semicolon ∷ K) vs.0 vs.1 in (evaluate g.0 g.1.0, g.1.1)

named_step : (d : ℕ) (x : Ident) (K : List Sym) (t : Tok) (vs : Values (called d x ∷ tails_to 6 d (token Semicolon ∷ K))) (ls : List Lexeme) (ds : List ℕ)
    → After (step (called d x ∷ tails_to 6 d (token Semicolon ∷ K)) t) vs ls ds → After (step (named d x ∷ K) t) (finished d x K vs) ls ds
named_step d x K (name y) vs ls ds a = after-onto (called d x ∷ tails_to 6 d (token Semicolon ∷ K)) (named d x ∷ K) (finished d x K) (step (called d x ∷ tails_to 6 d (token Semicolon ∷ K)) (name y)) vs ls ds a
named_step d x K (value c) vs ls ds a = after-onto (called d x ∷ tails_to 6 d (token Semicolon ∷ K)) (named d x ∷ K) (finished d x K) (step (called d x ∷ tails_to 6 d (token Semicolon ∷ K)) (value c)) vs ls ds a
named_step d x K (type t p) vs ls ds a = after-onto (called d x ∷ tails_to 6 d (token Semicolon ∷ K)) (named d x ∷ K) (finished d x K) (step (called d x ∷ tails_to 6 d (token Semicolon ∷ K)) (type t p)) vs ls ds a
named_step d x K (operator o p) vs ls ds a = after-onto (called d x ∷ tails_to 6 d (token Semicolon ∷ K)) (named d x ∷ K) (finished d x K) (step (called d x ∷ tails_to 6 d (token Semicolon ∷ K)) (operator o p)) vs ls ds a
named_step d x K (bang p) vs ls ds a = after-onto (called d x ∷ tails_to 6 d (token Semicolon ∷ K)) (named d x ∷ K) (finished d x K) (step (called d x ∷ tails_to 6 d (token Semicolon ∷ K)) (bang p)) vs ls ds a
named_step d x K (modifier m p) vs ls ds a = absurd a
named_step d x K (word Void p) vs ls ds a = after-onto (called d x ∷ tails_to 6 d (token Semicolon ∷ K)) (named d x ∷ K) (finished d x K) (step (called d x ∷ tails_to 6 d (token Semicolon ∷ K)) (word Void p)) vs ls ds a
named_step d x K (word Extern p) vs ls ds a = after-onto (called d x ∷ tails_to 6 d (token Semicolon ∷ K)) (named d x ∷ K) (finished d x K) (step (called d x ∷ tails_to 6 d (token Semicolon ∷ K)) (word Extern p)) vs ls ds a
named_step d x K (word Static p) vs ls ds a = after-onto (called d x ∷ tails_to 6 d (token Semicolon ∷ K)) (named d x ∷ K) (finished d x K) (step (called d x ∷ tails_to 6 d (token Semicolon ∷ K)) (word Static p)) vs ls ds a
named_step d x K (word If p) vs ls ds a = after-onto (called d x ∷ tails_to 6 d (token Semicolon ∷ K)) (named d x ∷ K) (finished d x K) (step (called d x ∷ tails_to 6 d (token Semicolon ∷ K)) (word If p)) vs ls ds a
named_step d x K (word Else p) vs ls ds a = after-onto (called d x ∷ tails_to 6 d (token Semicolon ∷ K)) (named d x ∷ K) (finished d x K) (step (called d x ∷ tails_to 6 d (token Semicolon ∷ K)) (word Else p)) vs ls ds a
named_step d x K (word While p) vs ls ds a = after-onto (called d x ∷ tails_to 6 d (token Semicolon ∷ K)) (named d x ∷ K) (finished d x K) (step (called d x ∷ tails_to 6 d (token Semicolon ∷ K)) (word While p)) vs ls ds a
named_step d x K (word Do p) vs ls ds a = after-onto (called d x ∷ tails_to 6 d (token Semicolon ∷ K)) (named d x ∷ K) (finished d x K) (step (called d x ∷ tails_to 6 d (token Semicolon ∷ K)) (word Do p)) vs ls ds a
named_step d x K (word For p) vs ls ds a = after-onto (called d x ∷ tails_to 6 d (token Semicolon ∷ K)) (named d x ∷ K) (finished d x K) (step (called d x ∷ tails_to 6 d (token Semicolon ∷ K)) (word For p)) vs ls ds a
named_step d x K (word To p) vs ls ds a = after-onto (called d x ∷ tails_to 6 d (token Semicolon ∷ K)) (named d x ∷ K) (finished d x K) (step (called d x ∷ tails_to 6 d (token Semicolon ∷ K)) (word To p)) vs ls ds a
named_step d x K (word Break p) vs ls ds a = after-onto (called d x ∷ tails_to 6 d (token Semicolon ∷ K)) (named d x ∷ K) (finished d x K) (step (called d x ∷ tails_to 6 d (token Semicolon ∷ K)) (word Break p)) vs ls ds a
named_step d x K (word Continue p) vs ls ds a = after-onto (called d x ∷ tails_to 6 d (token Semicolon ∷ K)) (named d x ∷ K) (finished d x K) (step (called d x ∷ tails_to 6 d (token Semicolon ∷ K)) (word Continue p)) vs ls ds a
named_step d x K (word Return p) vs ls ds a = after-onto (called d x ∷ tails_to 6 d (token Semicolon ∷ K)) (named d x ∷ K) (finished d x K) (step (called d x ∷ tails_to 6 d (token Semicolon ∷ K)) (word Return p)) vs ls ds a
named_step d x K (word Assign p) vs ls ds a = absurd a
named_step d x K (word OpenParen p) vs ls ds a = after-onto (called d x ∷ tails_to 6 d (token Semicolon ∷ K)) (named d x ∷ K) (finished d x K) (step (called d x ∷ tails_to 6 d (token Semicolon ∷ K)) (word OpenParen p)) vs ls ds a
named_step d x K (word CloseParen p) vs ls ds a = after-onto (called d x ∷ tails_to 6 d (token Semicolon ∷ K)) (named d x ∷ K) (finished d x K) (step (called d x ∷ tails_to 6 d (token Semicolon ∷ K)) (word CloseParen p)) vs ls ds a
named_step d x K (word OpenBrace p) vs ls ds a = after-onto (called d x ∷ tails_to 6 d (token Semicolon ∷ K)) (named d x ∷ K) (finished d x K) (step (called d x ∷ tails_to 6 d (token Semicolon ∷ K)) (word OpenBrace p)) vs ls ds a
named_step d x K (word CloseBrace p) vs ls ds a = after-onto (called d x ∷ tails_to 6 d (token Semicolon ∷ K)) (named d x ∷ K) (finished d x K) (step (called d x ∷ tails_to 6 d (token Semicolon ∷ K)) (word CloseBrace p)) vs ls ds a
named_step d x K (word Comma p) vs ls ds a = after-onto (called d x ∷ tails_to 6 d (token Semicolon ∷ K)) (named d x ∷ K) (finished d x K) (step (called d x ∷ tails_to 6 d (token Semicolon ∷ K)) (word Comma p)) vs ls ds a
named_step d x K (word Semicolon p) vs ls ds a = after-onto (called d x ∷ tails_to 6 d (token Semicolon ∷ K)) (named d x ∷ K) (finished d x K) (step (called d x ∷ tails_to 6 d (token Semicolon ∷ K)) (word Semicolon p)) vs ls ds a
named_step d x K stray vs ls ds a = after-onto (called d x ∷ tails_to 6 d (token Semicolon ∷ K)) (named d x ∷ K) (finished d x K) (step (called d x ∷ tails_to 6 d (token Semicolon ∷ K)) stray) vs ls ds a

named_moves : (d : ℕ) (x : Ident) (K : List Sym) (vs : Values (called d x ∷ tails_to 6 d (token Semicolon ∷ K))) (ws : Values (named d x ∷ K)) → finished d x K vs ≡ ws → (ls : List Lexeme) (ds : List ℕ)
    → Moves (called d x ∷ tails_to 6 d (token Semicolon ∷ K)) vs ls ds → Moves (named d x ∷ K) ws ls ds
named_moves d x K vs ws e [] ds m = never m.0
named_moves d x K vs ws e (l ∷ ls) ds m = after_same (named d x ∷ K) (step (named d x ∷ K) (tok_of l)) (finished d x K vs) ws ls ds e (named_step d x K (tok_of l) vs ls ds m)

named_evaluate : (d : ℕ) (x : Ident) (K : List Sym) (e : Expr) (q : ℕ) (vs : Values K) (ls r : List Lexeme) (ds rs : List ℕ) → Grouped e 6 → Parsed K vs r rs
    → ident x ∷ ls ≡ expr_lexemes e (sign Kinds.Semicolon q ∷ r) → d ∷ ds ≡ expr_depths e d (0 ∷ rs) → Moves (named d x ∷ K) (evaluate e q, vs) ls ds
named_evaluate d x K e q vs ls r ds rs f p a b =
    let L = token Semicolon ∷ K in
    let k = parsed_nulls 6 d L (q, vs) (sign Kinds.Semicolon q ∷ r) (0 ∷ rs) (omega arith) (front Semicolon q (Parsed K vs) r rs p) in
    let s = spread d e 6 L (nulls 6 d L (q, vs)) (sign Kinds.Semicolon q ∷ r) (0 ∷ rs) f (λ _. refl) (omega arith) k in
    let h = s.stands in
    let g : gather 6 d L s.first s.tails ≡ (e, (q, vs)) = s.same ∙ gather-nulls 6 d L e (q, vs) in
    named_moves d x K (s.first, s.tails) (evaluate e q, vs) (ap (λ (y : Expr × Values L). (evaluate y.0 y.1.0, y.1.1)) g) ls ds
    (moves_called d x (tails_to 6 d L) (moves_tails 6 d L (moves_token Semicolon K)) (s.first, s.tails) ls ds
    (record { rest = h.rest; depths = h.depths; fine = h.fine; lexemes = a ∙ h.lexemes; marks = b ∙ h.marks; ends = h.ends; after = h.after }))

named_by : (d : ℕ) (x : Ident) (K : List Sym) (s : Stmt) (vs : Values K) (ls r : List Lexeme) (ds rs : List ℕ) → Proper s → NoElse s r → Parsed K vs r rs
    → ident x ∷ ls ≡ stmt_lexemes s r → d ∷ ds ≡ stmt_depths s d rs → Moves (named d x ∷ K) (s, vs) ls ds
unfolding stmt_lexemes stmt_depths ends_open
named_by d x K (block q ss) vs ls r ds rs f n p a b = differ (name x) (word OpenBrace q.0) (same_head _ _ _ _ a).0 (omega arith)
named_by d x K (define t q y e) vs ls r ds rs f n p a b = differ (name x) (type t q.0) ((same_head _ _ _ _ a).0 ∙ tok_type t q.0) (omega arith)
named_by d x K (assign y o e q) vs ls r ds rs f n p a b =
    let i = same_ident x y ls _ a in let j = same_depth d d ds _ b in
    rw (i.1, j, ← i.0) ((e, (q, vs)), expr_depths e d (0 ∷ rs), refl, refl, holding d e Semicolon q _ r rs refl f p)
named_by d x K (modify m y o e q) vs ls r ds rs f n p a b =
    let i = same_ident x y ls _ a in let j = same_depth d d ds _ b in
    rw (i.1, j, ← i.0) (taking (named d x ∷ K) (modifier m o) (sign (modifier_kind m) o) (tok_modifier m o) (modify m x o e q, vs) _ _
    ((e, (q, vs)), expr_depths e d (0 ∷ rs), refl, refl, holding d e Semicolon q _ r rs refl f p))
named_by d x K (evaluate e q) vs ls r ds rs f n p a b = named_evaluate d x K e q vs ls r ds rs f p a b
named_by d x K (if_then o q e s) vs ls r ds rs f n p a b = differ (name x) (word If o) (same_head _ _ _ _ a).0 (omega arith)
named_by d x K (if_else o q e s u t) vs ls r ds rs f n p a b = differ (name x) (word If o) (same_head _ _ _ _ a).0 (omega arith)
named_by d x K (while o q e s) vs ls r ds rs f n p a b = differ (name x) (word While o) (same_head _ _ _ _ a).0 (omega arith)
named_by d x K (do_while o s q e) vs ls r ds rs f n p a b = differ (name x) (word Do o) (same_head _ _ _ _ a).0 (omega arith)
named_by d x K (for_to o q y u v s) vs ls r ds rs f n p a b = differ (name x) (word For o) (same_head _ _ _ _ a).0 (omega arith)
named_by d x K (break o q) vs ls r ds rs f n p a b = differ (name x) (word Break o) (same_head _ _ _ _ a).0 (omega arith)
named_by d x K (continue o q) vs ls r ds rs f n p a b = differ (name x) (word Continue o) (same_head _ _ _ _ a).0 (omega arith)
named_by d x K (return o e q) vs ls r ds rs f n p a b = differ (name x) (word Return o) (same_head _ _ _ _ a).0 (omega arith)
named_by d x K (return_bare o q) vs ls r ds rs f n p a b = differ (name x) (word Return o) (same_head _ _ _ _ a).0 (omega arith)

moves_named : (d : ℕ) (x : Ident) (K : List Sym) → AllMoves (named d x ∷ K)
moves_named d x K vs ls ds p = named_by d x K vs.0 vs.1 ls p.rest ds p.depths p.fine p.ends p.after p.lexemes p.marks

-- A statement that began with `return`.

returned-step : (d o : ℕ) (K : List Sym) (t : Tok) (e : Expr) (q : ℕ) (vs : Values K) (ls : List Lexeme) (ds : List ℕ)
    → After (expr_rule d t (token Semicolon ∷ K)) (e, (q, vs)) ls ds → After (step (returned d o ∷ K) t) (return o e q, vs) ls ds
returned-step d o K (name x) e q vs ls ds a = after-onto (expr d ∷ token Semicolon ∷ K) (returned d o ∷ K) (λ y. (return o y.0 y.1.0, y.1.1)) (expr_rule d (name x) (token Semicolon ∷ K)) (e, (q, vs)) ls ds a
returned-step d o K (value c) e q vs ls ds a = after-onto (expr d ∷ token Semicolon ∷ K) (returned d o ∷ K) (λ y. (return o y.0 y.1.0, y.1.1)) (expr_rule d (value c) (token Semicolon ∷ K)) (e, (q, vs)) ls ds a
returned-step d o K (type t p) e q vs ls ds a = after-onto (expr d ∷ token Semicolon ∷ K) (returned d o ∷ K) (λ y. (return o y.0 y.1.0, y.1.1)) (expr_rule d (type t p) (token Semicolon ∷ K)) (e, (q, vs)) ls ds a
returned-step d o K (operator u p) e q vs ls ds a = after-onto (expr d ∷ token Semicolon ∷ K) (returned d o ∷ K) (λ y. (return o y.0 y.1.0, y.1.1)) (expr_rule d (operator u p) (token Semicolon ∷ K)) (e, (q, vs)) ls ds a
returned-step d o K (bang p) e q vs ls ds a = after-onto (expr d ∷ token Semicolon ∷ K) (returned d o ∷ K) (λ y. (return o y.0 y.1.0, y.1.1)) (expr_rule d (bang p) (token Semicolon ∷ K)) (e, (q, vs)) ls ds a
returned-step d o K (modifier m p) e q vs ls ds a = after-onto (expr d ∷ token Semicolon ∷ K) (returned d o ∷ K) (λ y. (return o y.0 y.1.0, y.1.1)) (expr_rule d (modifier m p) (token Semicolon ∷ K)) (e, (q, vs)) ls ds a
returned-step d o K (word Void p) e q vs ls ds a = after-onto (expr d ∷ token Semicolon ∷ K) (returned d o ∷ K) (λ y. (return o y.0 y.1.0, y.1.1)) (expr_rule d (word Void p) (token Semicolon ∷ K)) (e, (q, vs)) ls ds a
returned-step d o K (word Extern p) e q vs ls ds a = after-onto (expr d ∷ token Semicolon ∷ K) (returned d o ∷ K) (λ y. (return o y.0 y.1.0, y.1.1)) (expr_rule d (word Extern p) (token Semicolon ∷ K)) (e, (q, vs)) ls ds a
returned-step d o K (word Static p) e q vs ls ds a = after-onto (expr d ∷ token Semicolon ∷ K) (returned d o ∷ K) (λ y. (return o y.0 y.1.0, y.1.1)) (expr_rule d (word Static p) (token Semicolon ∷ K)) (e, (q, vs)) ls ds a
returned-step d o K (word If p) e q vs ls ds a = after-onto (expr d ∷ token Semicolon ∷ K) (returned d o ∷ K) (λ y. (return o y.0 y.1.0, y.1.1)) (expr_rule d (word If p) (token Semicolon ∷ K)) (e, (q, vs)) ls ds a
returned-step d o K (word Else p) e q vs ls ds a = after-onto (expr d ∷ token Semicolon ∷ K) (returned d o ∷ K) (λ y. (return o y.0 y.1.0, y.1.1)) (expr_rule d (word Else p) (token Semicolon ∷ K)) (e, (q, vs)) ls ds a
returned-step d o K (word While p) e q vs ls ds a = after-onto (expr d ∷ token Semicolon ∷ K) (returned d o ∷ K) (λ y. (return o y.0 y.1.0, y.1.1)) (expr_rule d (word While p) (token Semicolon ∷ K)) (e, (q, vs)) ls ds a
returned-step d o K (word Do p) e q vs ls ds a = after-onto (expr d ∷ token Semicolon ∷ K) (returned d o ∷ K) (λ y. (return o y.0 y.1.0, y.1.1)) (expr_rule d (word Do p) (token Semicolon ∷ K)) (e, (q, vs)) ls ds a
returned-step d o K (word For p) e q vs ls ds a = after-onto (expr d ∷ token Semicolon ∷ K) (returned d o ∷ K) (λ y. (return o y.0 y.1.0, y.1.1)) (expr_rule d (word For p) (token Semicolon ∷ K)) (e, (q, vs)) ls ds a
returned-step d o K (word To p) e q vs ls ds a = after-onto (expr d ∷ token Semicolon ∷ K) (returned d o ∷ K) (λ y. (return o y.0 y.1.0, y.1.1)) (expr_rule d (word To p) (token Semicolon ∷ K)) (e, (q, vs)) ls ds a
returned-step d o K (word Break p) e q vs ls ds a = after-onto (expr d ∷ token Semicolon ∷ K) (returned d o ∷ K) (λ y. (return o y.0 y.1.0, y.1.1)) (expr_rule d (word Break p) (token Semicolon ∷ K)) (e, (q, vs)) ls ds a
returned-step d o K (word Continue p) e q vs ls ds a = after-onto (expr d ∷ token Semicolon ∷ K) (returned d o ∷ K) (λ y. (return o y.0 y.1.0, y.1.1)) (expr_rule d (word Continue p) (token Semicolon ∷ K)) (e, (q, vs)) ls ds a
returned-step d o K (word Return p) e q vs ls ds a = after-onto (expr d ∷ token Semicolon ∷ K) (returned d o ∷ K) (λ y. (return o y.0 y.1.0, y.1.1)) (expr_rule d (word Return p) (token Semicolon ∷ K)) (e, (q, vs)) ls ds a
returned-step d o K (word Assign p) e q vs ls ds a = after-onto (expr d ∷ token Semicolon ∷ K) (returned d o ∷ K) (λ y. (return o y.0 y.1.0, y.1.1)) (expr_rule d (word Assign p) (token Semicolon ∷ K)) (e, (q, vs)) ls ds a
returned-step d o K (word OpenParen p) e q vs ls ds a = after-onto (expr d ∷ token Semicolon ∷ K) (returned d o ∷ K) (λ y. (return o y.0 y.1.0, y.1.1)) (expr_rule d (word OpenParen p) (token Semicolon ∷ K)) (e, (q, vs)) ls ds a
returned-step d o K (word CloseParen p) e q vs ls ds a = after-onto (expr d ∷ token Semicolon ∷ K) (returned d o ∷ K) (λ y. (return o y.0 y.1.0, y.1.1)) (expr_rule d (word CloseParen p) (token Semicolon ∷ K)) (e, (q, vs)) ls ds a
returned-step d o K (word OpenBrace p) e q vs ls ds a = after-onto (expr d ∷ token Semicolon ∷ K) (returned d o ∷ K) (λ y. (return o y.0 y.1.0, y.1.1)) (expr_rule d (word OpenBrace p) (token Semicolon ∷ K)) (e, (q, vs)) ls ds a
returned-step d o K (word CloseBrace p) e q vs ls ds a = after-onto (expr d ∷ token Semicolon ∷ K) (returned d o ∷ K) (λ y. (return o y.0 y.1.0, y.1.1)) (expr_rule d (word CloseBrace p) (token Semicolon ∷ K)) (e, (q, vs)) ls ds a
returned-step d o K (word Comma p) e q vs ls ds a = after-onto (expr d ∷ token Semicolon ∷ K) (returned d o ∷ K) (λ y. (return o y.0 y.1.0, y.1.1)) (expr_rule d (word Comma p) (token Semicolon ∷ K)) (e, (q, vs)) ls ds a
returned-step d o K (word Semicolon p) e q vs ls ds a = absurd a
returned-step d o K stray e q vs ls ds a = after-onto (expr d ∷ token Semicolon ∷ K) (returned d o ∷ K) (λ y. (return o y.0 y.1.0, y.1.1)) (expr_rule d stray (token Semicolon ∷ K)) (e, (q, vs)) ls ds a

returned_moves : (d o : ℕ) (K : List Sym) (e : Expr) (q : ℕ) (vs : Values K) (ls : List Lexeme) (ds : List ℕ) → Moves (expr d ∷ token Semicolon ∷ K) (e, (q, vs)) ls ds → Moves (returned d o ∷ K) (return o e q, vs) ls ds
returned_moves d o K e q vs [] ds m = never m.0
returned_moves d o K e q vs (l ∷ ls) ds m = returned-step d o K (tok_of l) e q vs ls ds m

same_place : (v w : Word) (p q : ℕ) → word v p ≡ word w q → p ≡ q
same_place v w p q e = cc

returned_by : (d u : ℕ) (K : List Sym) (s : Stmt) (vs : Values K) (ls r : List Lexeme) (ds rs : List ℕ) → Proper s → NoElse s r → Parsed K vs r rs
    → sign Kinds.Return u ∷ ls ≡ stmt_lexemes s r → d ∷ ds ≡ stmt_depths s d rs → Moves (returned d u ∷ K) (s, vs) ls ds
unfolding stmt_lexemes stmt_depths ends_open
returned_by d u K (block q ss) vs ls r ds rs f n p a b = differ (word Return u) (word OpenBrace q.0) (same_head _ _ _ _ a).0 (omega arith)
returned_by d u K (define t q y e) vs ls r ds rs f n p a b = differ (word Return u) (type t q.0) ((same_head _ _ _ _ a).0 ∙ tok_type t q.0) (omega arith)
returned_by d u K (assign y o e q) vs ls r ds rs f n p a b = differ (word Return u) (name y) (same_head _ _ _ _ a).0 (omega arith)
returned_by d u K (modify m y o e q) vs ls r ds rs f n p a b = differ (word Return u) (name y) (same_head _ _ _ _ a).0 (omega arith)
returned_by d u K (evaluate e q) vs ls r ds rs f n p a b =
    absurd (subst (λ (y : List Lexeme). Moves (expr d ∷ token Semicolon ∷ K) (e, (q, vs)) y (expr_depths e d (0 ∷ rs))) (sym a)
    (moves_expr d (token Semicolon ∷ K) (e, (q, vs)) (expr_lexemes e (sign Kinds.Semicolon q ∷ r)) (expr_depths e d (0 ∷ rs)) (holding d e Semicolon q (Parsed K vs) r rs refl f p)))
returned_by d u K (if_then o q e s) vs ls r ds rs f n p a b = differ (word Return u) (word If o) (same_head _ _ _ _ a).0 (omega arith)
returned_by d u K (if_else o q e s v t) vs ls r ds rs f n p a b = differ (word Return u) (word If o) (same_head _ _ _ _ a).0 (omega arith)
returned_by d u K (while o q e s) vs ls r ds rs f n p a b = differ (word Return u) (word While o) (same_head _ _ _ _ a).0 (omega arith)
returned_by d u K (do_while o s q e) vs ls r ds rs f n p a b = differ (word Return u) (word Do o) (same_head _ _ _ _ a).0 (omega arith)
returned_by d u K (for_to o q y v w s) vs ls r ds rs f n p a b = differ (word Return u) (word For o) (same_head _ _ _ _ a).0 (omega arith)
returned_by d u K (break o q) vs ls r ds rs f n p a b = differ (word Return u) (word Break o) (same_head _ _ _ _ a).0 (omega arith)
returned_by d u K (continue o q) vs ls r ds rs f n p a b = differ (word Return u) (word Continue o) (same_head _ _ _ _ a).0 (omega arith)
returned_by d u K (return o e q) vs ls r ds rs f n p a b =
    let i = same_head _ _ ls _ a in let j = same_depth d d ds _ b in let k = same_place Return Return u o i.0 in
    rw (i.1, j, ← k) (returned_moves d u K e q vs (expr_lexemes e (sign Kinds.Semicolon q ∷ r)) (expr_depths e d (0 ∷ rs))
    (moves_expr d (token Semicolon ∷ K) (e, (q, vs)) _ _ (holding d e Semicolon q (Parsed K vs) r rs refl f p)))
returned_by d u K (return_bare o q) vs ls r ds rs f n p a b =
    let i = same_head _ _ ls _ a in let j = same_depth d d ds _ b in let k = same_place Return Return u o i.0 in
    rw (i.1, j, ← k) (vs, rs, refl, refl, p)

moves_returned : (d u : ℕ) (K : List Sym) → AllMoves (returned d u ∷ K)
moves_returned d u K vs ls ds p = returned_by d u K vs.0 vs.1 ls p.rest ds p.depths p.fine p.ends p.after p.lexemes p.marks

-- Statements in a row. None begins with `else` or `}`.

expr_not_else : (e : Expr) (r : List Lexeme) → is_word Else (next (expr_lexemes e r)) ≡ false
unfolding expr_lexemes
expr_not_else (constant c) r = ap (is_word Else) (tok_literal c)
expr_not_else (variable x) r = refl
expr_not_else (call x q xs) r = refl
expr_not_else (bracket q e) r = refl
expr_not_else (unary negate p e) r = refl
expr_not_else (unary invert p e) r = refl
expr_not_else (binary o p a b) r = expr_not_else a (sign (binary_kind o) p ∷ expr_lexemes b r)

stmt_not_else : (s : Stmt) (r : List Lexeme) → is_word Else (next (stmt_lexemes s r)) ≡ false
unfolding stmt_lexemes
stmt_not_else (block q ss) r = refl
stmt_not_else (define t q x e) r = ap (is_word Else) (tok_type t q.0)
stmt_not_else (assign x p e q) r = refl
stmt_not_else (modify m x p e q) r = refl
stmt_not_else (evaluate e q) r = expr_not_else e (sign Kinds.Semicolon q ∷ r)
stmt_not_else (if_then p q e s) r = refl
stmt_not_else (if_else p q e s o t) r = refl
stmt_not_else (while p q e s) r = refl
stmt_not_else (do_while p s q e) r = refl
stmt_not_else (for_to p q x a b s) r = refl
stmt_not_else (break p q) r = refl
stmt_not_else (continue p q) r = refl
stmt_not_else (return p e q) r = refl
stmt_not_else (return_bare p q) r = refl

brace_not_else : (t : Tok) → not (is_word CloseBrace t) ≡ false → is_word Else t ≡ false
brace_not_else (name x) h = refl
brace_not_else (value c) h = refl
brace_not_else (type t p) h = refl
brace_not_else (operator o p) h = refl
brace_not_else (bang p) h = refl
brace_not_else (modifier m p) h = refl
brace_not_else (word Void p) h = refl
brace_not_else (word Extern p) h = refl
brace_not_else (word Static p) h = refl
brace_not_else (word If p) h = refl
brace_not_else (word Else p) h = never (sym h)
brace_not_else (word While p) h = refl
brace_not_else (word Do p) h = refl
brace_not_else (word For p) h = refl
brace_not_else (word To p) h = refl
brace_not_else (word Break p) h = refl
brace_not_else (word Continue p) h = refl
brace_not_else (word Return p) h = refl
brace_not_else (word Assign p) h = refl
brace_not_else (word OpenParen p) h = refl
brace_not_else (word CloseParen p) h = refl
brace_not_else (word OpenBrace p) h = refl
brace_not_else (word CloseBrace p) h = refl
brace_not_else (word Comma p) h = refl
brace_not_else (word Semicolon p) h = refl
brace_not_else stray h = refl

stmts_not_else : (ss : Stmts) (r : List Lexeme) → not (is_word CloseBrace (next r)) ≡ false → is_word Else (next (stmts_lexemes ss r)) ≡ false
unfolding stmts_lexemes
stmts_not_else nil r h = brace_not_else (next r) h
stmts_not_else (cons s ss) r h = stmt_not_else s (stmts_lexemes ss r)

not_brace : (d : ℕ) (K : List Sym) (t : Tok) (vs : Values (statement d ∷ K)) (ls : List Lexeme) (ds : List ℕ) → After (statement_rule d t K) vs ls ds → not (is_word CloseBrace t) ≡ true
not_brace d K (name x) vs ls ds a = refl
not_brace d K (value c) vs ls ds a = refl
not_brace d K (type t p) vs ls ds a = refl
not_brace d K (operator o p) vs ls ds a = refl
not_brace d K (bang p) vs ls ds a = refl
not_brace d K (modifier m p) vs ls ds a = refl
not_brace d K (word Void p) vs ls ds a = refl
not_brace d K (word Extern p) vs ls ds a = refl
not_brace d K (word Static p) vs ls ds a = refl
not_brace d K (word If p) vs ls ds a = refl
not_brace d K (word Else p) vs ls ds a = refl
not_brace d K (word While p) vs ls ds a = refl
not_brace d K (word Do p) vs ls ds a = refl
not_brace d K (word For p) vs ls ds a = refl
not_brace d K (word To p) vs ls ds a = refl
not_brace d K (word Break p) vs ls ds a = refl
not_brace d K (word Continue p) vs ls ds a = refl
not_brace d K (word Return p) vs ls ds a = refl
not_brace d K (word Assign p) vs ls ds a = refl
not_brace d K (word OpenParen p) vs ls ds a = refl
not_brace d K (word CloseParen p) vs ls ds a = refl
not_brace d K (word OpenBrace p) vs ls ds a = refl
not_brace d K (word CloseBrace p) vs ls ds a = absurd a
not_brace d K (word Comma p) vs ls ds a = refl
not_brace d K (word Semicolon p) vs ls ds a = refl
not_brace d K stray vs ls ds a = refl

cons_moves : (d : ℕ) (K : List Sym) (s : Stmt) (ss : Stmts) (vs : Values K) (ls : List Lexeme) (ds : List ℕ) → Moves (statement d ∷ statements d ∷ K) (s, (ss, vs)) ls ds → Moves (statements d ∷ K) (cons s ss, vs) ls ds
cons_moves d K s ss vs [] ds m = never m.0
cons_moves d K s ss vs (l ∷ ls) ds m =
    after_then (statements d ∷ K) (not (is_word CloseBrace (tok_of l))) _ _ (cons s ss, vs) ls ds (not_brace d (statements d ∷ K) (tok_of l) (s, (ss, vs)) ls ds m)
    (after-onto (statement d ∷ statements d ∷ K) (statements d ∷ K) (λ y. (cons y.0 y.1.0, y.1.1)) (statement_rule d (tok_of l) (statements d ∷ K)) (s, (ss, vs)) ls ds m)

statements_at : (d : ℕ) (K : List Sym) → AllMoves K → MovesAt (statements d) K
unfolding stmts_lexemes stmts_depths
statements_at d K m nil vs r rs f n p = skipped (statements d) K nil refl vs r rs n (m vs r rs p)
statements_at d K m (cons s ss) vs r rs f n p =
    cons_moves d K s ss vs (stmt_lexemes s (stmts_lexemes ss r)) (stmt_depths s d (stmts_depths ss d rs))
    (moves_statement d (statements d ∷ K) (s, (ss, vs)) _ _
    (bodied d s (Stands (statements d) ss (Parsed K vs)) (stmts_lexemes ss r) (stmts_depths ss d rs) f.0 (λ _. stmts_not_else ss r n)
    (record { rest = r; depths = rs; fine = f.1; lexemes = refl; marks = refl; ends = n; after = p })))

orelse_at : (d : ℕ) (K : List Sym) → AllMoves K → MovesAt (orelse d) K
orelse_at d K m absent vs r rs f n p = skipped (orelse d) K absent refl vs r rs n (m vs r rs p)
orelse_at d K m (other q s) vs r rs f n p = ((s, vs), stmt_depths s (suc d) rs, refl, refl, bodied (suc d) s (Parsed K vs) r rs f n p)

-- Scripts.

abbrev Marks : Type 0
Marks = ℕ × ℕ × ℕ × ℕ × ℕ

abbrev whole : List Item → Option ℕ → Marks → Stmts → ℕ → Script
whole is s m b c = record { items = is; static = s; marks = m; body = b; close = c }

static_same : (s : Option ℕ) (a b : List Lexeme) → static_lexemes s a ≡ static_lexemes s b → a ≡ b
static_same none a b e = e
static_same (some p) a b e = cc

static_same_depths : (s : Option ℕ) (a b : List ℕ) → static_depths s a ≡ static_depths s b → a ≡ b
static_same_depths none a b e = e
static_same_depths (some p) a b e = cc

parameter_ends : (a : Parameter) (q : ℕ) (r : List Lexeme) → EndsParameter a (sign Kinds.CloseParen q ∷ r)
parameter_ends nothing q r = refl
parameter_ends (takes t p x) q r = tt

-- `= constant ;` before the rest of a script
row : (q u : ℕ) (v : Constant) (w : Script) (K : List Sym) (vs : Values K) (r : List Lexeme) (rs : List ℕ) → Propers w.body → Parsed K vs r rs
    → Parsed (global_row K) (q, (v, (u, (w, vs)))) (sign Kinds.Assign q ∷ literal v ∷ sign Kinds.Semicolon u ∷ whole_lexemes w r) (0 ∷ 0 ∷ 0 ∷ whole_depths w rs)
row q u v w K vs r rs f p =
    front Assign q _ _ _ (record {
      rest = _;
      depths = _;
      fine = tt;
      lexemes = refl;
      marks = refl;
      ends = tt;
      after = front Semicolon u _ _ _ (record { rest = r; depths = rs; fine = f; lexemes = refl; marks = refl; ends = tt; after = p });
    })

-- After `[static] int main`: main itself, or a global of that name.

mainly_main : (s : Option ℕ) (m : Marks) (b : Stmts) (c : ℕ) (K : List Sym) (vs : Values K) (r : List Lexeme) (rs : List ℕ) → Propers b → Parsed K vs r rs
    → Moves (mainly s m.0 m.1 ∷ K) (whole [] s m b c, vs) (sign Kinds.OpenParen m.2 ∷ sign Kinds.CloseParen m.3 ∷ sign Kinds.OpenBrace m.4 ∷ stmts_lexemes b (sign Kinds.CloseBrace c ∷ r)) (0 ∷ 0 ∷ 0 ∷ stmts_depths b 1 (0 ∷ rs))
mainly_main s m b c K vs r rs f p = (
  (m.3, (m.4, (b, (c, vs)))),
  _,
  refl,
  refl,
  front CloseParen m.3 _ _ _ (front OpenBrace m.4 _ _ _ (record { rest = sign Kinds.CloseBrace c ∷ r; depths = 0 ∷ rs; fine = f; lexemes = refl; marks = refl; ends = refl; after = front CloseBrace c _ r rs p })),
)

mainly_global : (s : Option ℕ) (q : ℕ × ℕ × ℕ) (u : ℕ) (v : Constant) (is : List Item) (t : Option ℕ) (m : Marks) (b : Stmts) (c : ℕ) (K : List Sym) (vs : Values K) (r : List Lexeme) (rs : List ℕ) → Propers b → Parsed K vs r rs
    → Moves (mainly s q.0 u ∷ K) (whole (global s q int (record { bytes = main_name; place = u }) v ∷ is) t m b c, vs)
    (sign Kinds.Assign q.1 ∷ literal v ∷ sign Kinds.Semicolon q.2 ∷ whole_lexemes (whole is t m b c) r) (0 ∷ 0 ∷ 0 ∷ whole_depths (whole is t m b c) rs)
unfolding row front
mainly_global s q u v is t m b c K vs r rs f p =
    ((v, (q.2, (whole is t m b c, vs))), _, refl, refl, (row q.1 q.2 v (whole is t m b c) K vs r rs f p).after)

type_place : (a b : Scalar) (p q : ℕ) → type a p ≡ type b q → (a ≡ b) × (p ≡ q)
type_place a b p q e = (cc, cc)

mainly_by : (s : Option ℕ) (u w : ℕ) (K : List Sym) (is : List Item) (t : Option ℕ) (m : Marks) (b : Stmts) (c : ℕ) (vs : Values K) (ls r : List Lexeme) (ds rs : List ℕ) → Propers b → Begins s is t → Parsed K vs r rs
    → static_lexemes s (sign Kinds.Int u ∷ ident (record { bytes = main_name; place = w }) ∷ ls) ≡ whole_lexemes (whole is t m b c) r → static_depths s (0 ∷ 0 ∷ ds) ≡ whole_depths (whole is t m b c) rs
    → Moves (mainly s u w ∷ K) (whole is t m b c, vs) ls ds
unfolding items_lexemes items_depths
mainly_by s u w K [] t m b c vs ls r ds rs f g p a d =
    let a' = rw g at a in let d' = rw g at d in
    let i = same_head _ _ _ _ (static_same s _ _ a') in
    let j = same_ident _ _ ls _ i.1 in
    let k = same_depth _ _ ds _ (same_depth _ _ _ _ (static_same_depths s _ _ d')) in
    let x : u ≡ m.0 = (type_place int int u m.0 i.0).1 in
    let y : w ≡ m.1 = ap (λ (z : Ident). z.place) j.0 in
    rw (g, j.1, k, x, y) (mainly_main s m b c K vs r rs f p)
mainly_by s u w K (extern q o x v ∷ is) t m b c vs ls r ds rs f g p a d = absurd g
mainly_by s u w K (global o q e x v ∷ is) t m b c vs ls r ds rs f g p a d =
    let a' = rw g at a in let d' = rw g at d in
    let i = same_head _ _ _ _ (static_same s _ _ a') in
    let j = same_ident _ x ls _ i.1 in
    let k = same_depth _ _ ds _ (same_depth _ _ _ _ (static_same_depths s _ _ d')) in
    let h = type_place int e u q.0 (i.0 ∙ tok_type e q.0) in
    subst (λ (z : ℕ). Moves (mainly s z w ∷ K) (whole (global o q e x v ∷ is) t m b c, vs) ls ds) (sym h.1)
    (rw (g, j.1, k, ← h.0, ← j.0) (mainly_global s q w v is t m b c K vs r rs f p))

moves_mainly : (s : Option ℕ) (u w : ℕ) (K : List Sym) → AllMoves (mainly s u w ∷ K)
moves_mainly s u w K vs ls ds p =
    let v = vs.0 in
    mainly_by s u w K v.items v.static v.marks v.body v.close vs.1 ls p.rest ds p.depths p.fine.0 p.fine.1 p.after p.lexemes p.marks

-- After `[static] int`: main or a global.

integer_main : (s : Option ℕ) (m : Marks) (b : Stmts) (c : ℕ) (K : List Sym) (vs : Values K) (r : List Lexeme) (rs : List ℕ) → Propers b → Parsed K vs r rs
    → Moves (integer s m.0 ∷ K) (whole [] s m b c, vs) (ident (record { bytes = main_name; place = m.1 }) ∷ sign Kinds.OpenParen m.2 ∷ sign Kinds.CloseParen m.3 ∷ sign Kinds.OpenBrace m.4 ∷ stmts_lexemes b (sign Kinds.CloseBrace c ∷ r))
    (0 ∷ 0 ∷ 0 ∷ 0 ∷ stmts_depths b 1 (0 ∷ rs))
unfolding items_lexemes items_depths
integer_main s m b c K vs r rs f p =
    ((whole [] s m b c, vs), _, refl, refl, record { rest = r; depths = rs; fine = (f, refl); lexemes = refl; marks = refl; ends = tt; after = p })

integer_global : (s : Option ℕ) (q : ℕ × ℕ × ℕ) (x : Ident) (v : Constant) (is : List Item) (t : Option ℕ) (m : Marks) (b : Stmts) (c : ℕ) (K : List Sym) (vs : Values K) (r : List Lexeme) (rs : List ℕ) → Propers b → Parsed K vs r rs
    → Moves (integer s q.0 ∷ K) (whole (global s q int x v ∷ is) t m b c, vs)
    (ident x ∷ sign Kinds.Assign q.1 ∷ literal v ∷ sign Kinds.Semicolon q.2 ∷ whole_lexemes (whole is t m b c) r) (0 ∷ 0 ∷ 0 ∷ 0 ∷ whole_depths (whole is t m b c) rs)
unfolding items_lexemes items_depths
integer_global s q x v is t m b c K vs r rs f p = go (bytes_eq x.bytes main_name) refl
  where
    go : (z : Bool) → bytes_eq x.bytes main_name ≡ z
        → Moves (integer s q.0 ∷ K) (whole (global s q int x v ∷ is) t m b c, vs)
        (ident x ∷ sign Kinds.Assign q.1 ∷ literal v ∷ sign Kinds.Semicolon q.2 ∷ whole_lexemes (whole is t m b c) r) (0 ∷ 0 ∷ 0 ∷ 0 ∷ whole_depths (whole is t m b c) rs)
    go true e = after_then (integer s q.0 ∷ K) (bytes_eq x.bytes main_name) _ _ _ _ _ e (
      (whole (global s q int x v ∷ is) t m b c, vs),
      _,
      refl,
      refl,
      record {
        rest = r;
        depths = rs;
        fine = (f, refl);
        marks = refl;
        ends = tt;
        after = p;
        lexemes = ap (λ (y : List ℕ). static_lexemes s (sign Kinds.Int q.0 ∷ ident (record { bytes = y; place = x.place }) ∷ sign Kinds.Assign q.1 ∷ literal v ∷ sign Kinds.Semicolon q.2 ∷ whole_lexemes (whole is t m b c) r)) (sym ((bytes_eq-Decides x.bytes main_name).0 e));
      },
    )
    go false e = after_else (integer s q.0 ∷ K) (bytes_eq x.bytes main_name) _ _ _ _ _ e
        ((q.1, (v, (q.2, (whole is t m b c, vs)))), _, refl, refl, row q.1 q.2 v (whole is t m b c) K vs r rs f p)

integer_by : (s : Option ℕ) (u : ℕ) (K : List Sym) (is : List Item) (t : Option ℕ) (m : Marks) (b : Stmts) (c : ℕ) (vs : Values K) (ls r : List Lexeme) (ds rs : List ℕ) → Propers b → Begins s is t → Parsed K vs r rs
    → static_lexemes s (sign Kinds.Int u ∷ ls) ≡ whole_lexemes (whole is t m b c) r → static_depths s (0 ∷ ds) ≡ whole_depths (whole is t m b c) rs
    → Moves (integer s u ∷ K) (whole is t m b c, vs) ls ds
unfolding items_lexemes items_depths
integer_by s u K [] t m b c vs ls r ds rs f g p a d =
    let a' = rw g at a in let d' = rw g at d in
    let i = same_head _ _ ls _ (static_same s _ _ a') in
    let k = same_depth _ _ ds _ (static_same_depths s _ _ d') in
    let x : u ≡ m.0 = (type_place int int u m.0 i.0).1 in
    rw (g, i.1, k, x) (integer_main s m b c K vs r rs f p)
integer_by s u K (extern q o x v ∷ is) t m b c vs ls r ds rs f g p a d = absurd g
integer_by s u K (global o q e x v ∷ is) t m b c vs ls r ds rs f g p a d =
    let a' = rw g at a in let d' = rw g at d in
    let i = same_head _ _ ls _ (static_same s _ _ a') in
    let k = same_depth _ _ ds _ (static_same_depths s _ _ d') in
    let h = type_place int e u q.0 (i.0 ∙ tok_type e q.0) in
    subst (λ (z : ℕ). Moves (integer s z ∷ K) (whole (global o q e x v ∷ is) t m b c, vs) ls ds) (sym h.1)
    (rw (g, i.1, k, ← h.0) (integer_global s q x v is t m b c K vs r rs f p))

moves_integer : (s : Option ℕ) (u : ℕ) (K : List Sym) → AllMoves (integer s u ∷ K)
moves_integer s u K vs ls ds p =
    let v = vs.0 in
    integer_by s u K v.items v.static v.marks v.body v.close vs.1 ls p.rest ds p.depths p.fine.0 p.fine.1 p.after p.lexemes p.marks

-- After `static`, or where a script begins with a type.

typed_main : (s : Option ℕ) (m : Marks) (b : Stmts) (c : ℕ) (K : List Sym) (vs : Values K) (r : List Lexeme) (rs : List ℕ) → Propers b → Parsed K vs r rs
    → After (typed_rule s int m.0 K) (whole [] s m b c, vs) (ident (record { bytes = main_name; place = m.1 }) ∷ sign Kinds.OpenParen m.2 ∷ sign Kinds.CloseParen m.3 ∷ sign Kinds.OpenBrace m.4 ∷ stmts_lexemes b (sign Kinds.CloseBrace c ∷ r))
    (0 ∷ 0 ∷ 0 ∷ 0 ∷ 0 ∷ stmts_depths b 1 (0 ∷ rs))
unfolding items_lexemes items_depths
typed_main s m b c K vs r rs f p =
    ((whole [] s m b c, vs), _, refl, refl, record { rest = r; depths = rs; fine = (f, refl); lexemes = refl; marks = refl; ends = tt; after = p })

typed_global : (s : Option ℕ) (e : Scalar) (q : ℕ × ℕ × ℕ) (x : Ident) (v : Constant) (is : List Item) (t : Option ℕ) (m : Marks) (b : Stmts) (c : ℕ) (K : List Sym) (vs : Values K) (r : List Lexeme) (rs : List ℕ) → Propers b → Parsed K vs r rs
    → After (typed_rule s e q.0 K) (whole (global s q e x v ∷ is) t m b c, vs)
    (ident x ∷ sign Kinds.Assign q.1 ∷ literal v ∷ sign Kinds.Semicolon q.2 ∷ whole_lexemes (whole is t m b c) r) (0 ∷ 0 ∷ 0 ∷ 0 ∷ 0 ∷ whole_depths (whole is t m b c) rs)
unfolding items_lexemes items_depths
typed_global s bool q x v is t m b c K vs r rs f p = (
  (x, (q.1, (v, (q.2, (whole is t m b c, vs))))),
  _,
  refl,
  refl,
  record { rest = _; depths = _; fine = tt; lexemes = refl; marks = refl; ends = tt; after = row q.1 q.2 v (whole is t m b c) K vs r rs f p },
)
typed_global s char q x v is t m b c K vs r rs f p = (
  (x, (q.1, (v, (q.2, (whole is t m b c, vs))))),
  _,
  refl,
  refl,
  record { rest = _; depths = _; fine = tt; lexemes = refl; marks = refl; ends = tt; after = row q.1 q.2 v (whole is t m b c) K vs r rs f p },
)
typed_global s int q x v is t m b c K vs r rs f p =
    ((whole (global s q int x v ∷ is) t m b c, vs), _, refl, refl, record { rest = r; depths = rs; fine = (f, refl); lexemes = refl; marks = refl; ends = tt; after = p })

declared_by : (s : Option ℕ) (K : List Sym) (is : List Item) (t : Option ℕ) (m : Marks) (b : Stmts) (c : ℕ) (vs : Values K) (ls r : List Lexeme) (ds rs : List ℕ) → Propers b → Begins s is t → Parsed K vs r rs
    → static_lexemes s ls ≡ whole_lexemes (whole is t m b c) r → static_depths s ds ≡ whole_depths (whole is t m b c) rs → Moves (declared s ∷ K) (whole is t m b c, vs) ls ds
unfolding items_lexemes items_depths
declared_by s K [] t m b c vs ls r ds rs f g p a d =
    let a' = static_same s ls _ (rw g at a) in let d' = static_same_depths s ds _ (rw g at d) in
    rw (g, a', d') (typed_main s m b c K vs r rs f p)
declared_by s K (extern q o x v ∷ is) t m b c vs ls r ds rs f g p a d = absurd g
declared_by s K (global o q e x v ∷ is) t m b c vs ls r ds rs f g p a d =
    let a' = static_same s ls _ (rw g at a) in let d' = static_same_depths s ds _ (rw g at d) in
    rw (g, a', d') (taking (declared s ∷ K) (type e q.0) (sign (type_kind e) q.0) (tok_type e q.0) _ _ _ (typed_global s e q x v is t m b c K vs r rs f p))

moves_declared : (s : Option ℕ) (K : List Sym) → AllMoves (declared s ∷ K)
moves_declared s K vs ls ds p =
    let v = vs.0 in
    declared_by s K v.items v.static v.marks v.body v.close vs.1 ls p.rest ds p.depths p.fine.0 p.fine.1 p.after p.lexemes p.marks

script_by : (K : List Sym) (is : List Item) (t : Option ℕ) (m : Marks) (b : Stmts) (c : ℕ) (vs : Values K) (r : List Lexeme) (rs : List ℕ) → Propers b → Parsed K vs r rs
    → Moves (script ∷ K) (whole is t m b c, vs) (whole_lexemes (whole is t m b c) r) (whole_depths (whole is t m b c) rs)
unfolding items_lexemes items_depths
script_by K [] none m b c vs r rs f p = after-onto (declared none ∷ K) (script ∷ K) (λ y. y) (typed_rule none int m.0 K) _ _ _ (typed_main none m b c K vs r rs f p)
script_by K [] (some q) m b c vs r rs f p =
    ((whole [] (some q) m b c, vs), _, refl, refl, record { rest = r; depths = rs; fine = (f, refl); lexemes = refl; marks = refl; ends = tt; after = p })
script_by K (extern q o x a ∷ is) t m b c vs r rs f p = (
  ((o, q.1), (x, (q.2, (a, (q.3, (q.4, (whole is t m b c, vs))))))),
  _,
  refl,
  refl,
  record {
    rest = _;
    depths = _;
    fine = tt;
    lexemes = refl;
    marks = refl;
    ends = tt;
    after = record {
      rest = _;
      depths = _;
      fine = tt;
      lexemes = refl;
      marks = refl;
      ends = tt;
      after = front OpenParen q.2 _ _ _ (record {
        rest = sign Kinds.CloseParen q.3 ∷ sign Kinds.Semicolon q.4 ∷ whole_lexemes (whole is t m b c) r;
        depths = 0 ∷ 0 ∷ whole_depths (whole is t m b c) rs;
        fine = tt;
        lexemes = refl;
        marks = refl;
        ends = parameter_ends a q.3 _;
        after = front CloseParen q.3 _ _ _ (front Semicolon q.4 _ _ _ (record { rest = r; depths = rs; fine = f; lexemes = refl; marks = refl; ends = tt; after = p }));
      });
    };
  },
)
script_by K (global none q e x v ∷ is) t m b c vs r rs f p =
    taking (script ∷ K) (type e q.0) (sign (type_kind e) q.0) (tok_type e q.0) (whole (global none q e x v ∷ is) t m b c, vs) _ _
    (after-onto (declared none ∷ K) (script ∷ K) (λ y. y) (typed_rule none e q.0 K) _ _ _ (typed_global none e q x v is t m b c K vs r rs f p))
script_by K (global (some s) q e x v ∷ is) t m b c vs r rs f p =
    ((whole (global (some s) q e x v ∷ is) t m b c, vs), _, refl, refl, record { rest = r; depths = rs; fine = (f, refl); lexemes = refl; marks = refl; ends = tt; after = p })

moves_script : (K : List Sym) → AllMoves (script ∷ K)
moves_script K = from_front script K (λ _. refl) (λ _. refl) (λ v vs r rs f e p. script_by K v.items v.static v.marks v.body v.close vs r rs f p)

-- All of them.

pub moves : (K : List Sym) → AllMoves K
moves [] = λ vs ls ds p. rw (p.0, p.1) (refl, refl, tt)
moves (token w ∷ K) = moves_token w K
moves (a_name ∷ K) = moves_name K
moves (a_constant ∷ K) = moves_constant K
moves (a_result ∷ K) = moves_result K
moves (an_int ∷ K) = moves_int K
moves (parameter ∷ K) = from_front parameter K (λ _. refl) (λ _. refl) (parameter_at K (moves K))
moves (operand d ∷ K) = moves_operand d K
moves (called d x ∷ K) = moves_called d x K (moves K)
moves (tail n d ∷ K) = moves_tail n d K (moves K)
moves (expr d ∷ K) = moves_expr d K
moves (exprs d ∷ K) = moves_exprs d K
moves (further d ∷ K) = from_front (further d) K (λ _. refl) (λ _. refl) (further_at d K (moves K))
moves (arguments d ∷ K) = from_front (arguments d) K (λ _. refl) (λ _. refl) (arguments_at d K (moves K))
moves (statement d ∷ K) = moves_statement d K
moves (named d x ∷ K) = moves_named d x K
moves (returned d u ∷ K) = moves_returned d u K
moves (statements d ∷ K) = from_front (statements d) K (λ _. refl) (λ _. refl) (statements_at d K (moves K))
moves (orelse d ∷ K) = from_front (orelse d) K (λ _. refl) (λ _. refl) (orelse_at d K (moves K))
moves (script ∷ K) = moves_script K
moves (declared s ∷ K) = moves_declared s K
moves (integer s u ∷ K) = moves_integer s u K
moves (mainly s u w ∷ K) = moves_mainly s u w K
