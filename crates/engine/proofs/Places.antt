-- The place of a refusal is a place in the source, or its end: a fault of reading stands where something begins, a fault of
-- the grammar or of the check at a token.
use Rattle.std.proofs.Common.{◌≡◌, ℕ, zero, suc, ◌+◌, ◌≤◌, Bool, true, false, List, [], ◌∷◌, length, Some, None, sym, refl, subst, zero-le, arith, length-drop}
use mathlib.Core.Option.{Option, none, some}
use Rattle.std.specs.declared.option.Option as Std
use Rattle.refusal.specs.Told.{Told, accepted, refused}
use Rattle.lexer.specs.declared.kind.Token.{Token}
use Rattle.lexer.specs.Lexeme.{Lexeme}
use Rattle.lexer.specs.Laws.{Line, Long, Gap, Ordered, Reads}
use Rattle.lexer.specs.Laws.Line.{feed, end}
use Rattle.lexer.specs.Laws.Line.{more as onward}
use Rattle.lexer.specs.Laws.Long.{close, further}
use Rattle.lexer.specs.Laws.Gap.{empty, blank, line, long}
use Rattle.lexer.specs.Reading.{fault, reading, token_limit, lexemes}
use Rattle.lexer.proofs.Unique.{decided}
use Rattle.meaning.specs.declared.operator.Scalar.{Scalar}
use Rattle.meaning.specs.Trees.{Ident, Expr, constant, variable, call, bracket, unary, binary, Args, no_args, args, Exprs, last, more, Stmt, block, define, assign, modify, evaluate, if_then, if_else, while, do_while, for_to, break, continue, return, return_bare, Stmts, nil, cons, Return, void, gives, Parameter, nothing, takes, Item, extern, global, Script}
use Rattle.meaning.specs.Written.{expr_lexemes, args_lexemes, exprs_lexemes, stmt_lexemes, stmts_lexemes, parameter_lexemes, static_lexemes, item_lexemes, items_lexemes, script_lexemes}
use Rattle.meaning.specs.Scopes.{Callee, zone, columns, rows, report, main, Meant, absent, a_variable, a_function}
use Rattle.meaning.specs.Check.{Scope, then, needs, there, as_variable, as_callee, called, value, type_of, arg_types, expr_types, needs_type, check_whole, defined, check_stmt, check_stmts, declared, check_item, check_items, check_script}
use Rattle.meaning.specs.Sources.{lexemes_of, Refuses}
use Rattle.parser.specs.Verdict.{place_at, Wrong, unexpected, early, deep}
use Rattle.translator.specs.Translation.{Refused, long as source-long, few_tokens, few_records, unread, wrong, unfit}

-- Reading: between tokens nothing of the source is lost, so no fault stands past its end.

line_whole : {p q : ℕ} {t u : List ℕ} → Line p t q u → p + length t ≡ q + length u
line_whole feed = omega arith
line_whole end = refl
line_whole (onward n l) = omega (arith, line_whole l)

long_whole : {p q : ℕ} {t u : List ℕ} → Long p t q u → p + length t ≡ q + length u
long_whole close = omega arith
long_whole (further n l) = omega (arith, long_whole l)

gap-whole : {p q : ℕ} {t u : List ℕ} → Gap p t q u → p + length t ≡ q + length u
gap-whole empty = refl
gap-whole (blank b g) = omega (arith, gap-whole g)
gap-whole (line l g) = omega (arith, line_whole l, gap-whole g)
gap-whole (long l g) = omega (arith, long_whole l, gap-whole g)

fault_inside : (room p : ℕ) (t : List ℕ) (ts : List Token) (n q : ℕ) → Reads room p t ts (fault n q) → q ≤ p + length t
fault_inside room p t [] n q r = omega (arith, gap-whole r.1)
fault_inside zero p t (x ∷ xs) n q r = absurd r
fault_inside (suc room) p t (x ∷ xs) n q r =
    omega (arith, fault_inside room _ _ xs n q r.3, gap-whole r.1, length-drop x.length r.0, r.2.longest.within)

reading-fault : (source : List ℕ) (n p : ℕ) → (reading source).fault ≡ fault n p → p ≤ length source
reading-fault source n p e =
    omega (arith, fault_inside token_limit 0 source (reading source).tokens n p (subst (Reads token_limit 0 source (reading source).tokens) e (decided source).reads))

-- Lexemes: all of them stand in the source.

module _ (m : ℕ) where
  -- all lexemes stand at m or before
  abbrev Inside : List Lexeme → Type 0
  Inside [] = Unit {0}
  Inside (l ∷ ls) = (l.place ≤ m) × Inside ls

  place_inside : (ls : List Lexeme) (k : ℕ) → Inside ls → place_at ls k ≤ m
  place_inside [] k h = zero-le
  place_inside (l ∷ ls) zero h = h.0
  place_inside (l ∷ ls) (suc k) h = place_inside ls k h.1

  ordered_least : (p : ℕ) (ts : List Token) → Ordered p m ts → p ≤ m
  ordered_least p [] o = o
  ordered_least p (x ∷ xs) o = omega (arith, o.0, ordered_least (x.place + x.length) xs o.2)

  ordered_inside : (source : List ℕ) (p : ℕ) (ts : List Token) → Ordered p m ts → Inside (lexemes source ts)
  ordered_inside source p [] o = tt
  ordered_inside source p (x ∷ xs) o =
      (omega (arith, ordered_least (x.place + x.length) xs o.2), ordered_inside source (x.place + x.length) xs o.2)

  -- The check: a fault stands at a token of the tree.

  -- a fault, if any, stands at m or before
  abbrev Placed : {X : Type 0} → Told X → Type 0
  Placed (accepted x) = Unit {0}
  Placed (refused n p) = p ≤ m

  then_placed : {X Y : Type 0} (a : Told X) (f : X → Told Y) → Placed a → ((x : X) → Placed (f x)) → Placed (then a f)
  unfolding then
  then_placed (accepted x) f a b = b x
  then_placed (refused n p) f a b = a

  needs_placed : (b : Bool) (n p : ℕ) → p ≤ m → Placed (needs b n p)
  unfolding needs
  needs_placed true n p h = tt
  needs_placed false n p h = h

  there_placed : {X : Type 0} (o : Std.Option X) (n p : ℕ) → p ≤ m → Placed (there o n p)
  unfolding there
  there_placed (Some x) n p h = tt
  there_placed None n p h = h

  variable_placed : (w : Meant Scalar) (p : ℕ) → p ≤ m → Placed (as_variable w p)
  unfolding as_variable
  variable_placed absent p h = h
  variable_placed (a_variable t) p h = tt
  variable_placed (a_function f) p h = h

  callee_placed : (w : Meant Scalar) (p : ℕ) → p ≤ m → Placed (as_callee w p)
  unfolding as_callee
  callee_placed absent p h = h
  callee_placed (a_variable t) p h = h
  callee_placed (a_function zone) p h = tt
  callee_placed (a_function columns) p h = tt
  callee_placed (a_function rows) p h = tt
  callee_placed (a_function report) p h = tt
  callee_placed (a_function main) p h = h

  value_placed : (r : Return) (p : ℕ) → p ≤ m → Placed (value r p)
  unfolding value
  value_placed void p h = h
  value_placed (gives t) p h = tt

  called_placed : (Γ : Scope) (x : Ident) (given : Told (List Scalar)) → Placed given → x.place ≤ m → Placed (called Γ x given)
  unfolding called
  called_placed Γ x given a h = then_placed _ _ (callee_placed _ _ h) (λ f. then_placed _ _ a (λ ts. then_placed _ _ (needs_placed _ 15 _ h) (λ _. tt)))

  mutual
    unfolding type_of arg_types expr_types expr_lexemes args_lexemes exprs_lexemes

    expr_placed : (e : Expr) (r : List Lexeme) → Inside (expr_lexemes e r) → ((Γ : Scope) → Placed (type_of e Γ)) × Inside r
    expr_placed (constant c) r h = (λ Γ. tt, h.1)
    expr_placed (variable x) r h = (λ Γ. variable_placed _ _ h.0, h.1)
    expr_placed (call x q xs) r h =
        let a = args_placed xs _ h.1.1 in
        (λ Γ. then_placed _ _ (called_placed Γ x _ (a.0 Γ) h.0) (λ t. value_placed t _ h.0), a.1.1)
    expr_placed (bracket q e) r h = let a = expr_placed e _ h.1 in (a.0, a.1.1)
    expr_placed (unary u p e) r h = let a = expr_placed e r h.1 in (λ Γ. then_placed _ _ (a.0 Γ) (λ t. there_placed _ 15 p h.0), a.1)
    expr_placed (binary o p a b) r h =
        let x = expr_placed a _ h in
        let y = expr_placed b r x.1.1 in
        (λ Γ. then_placed _ _ (x.0 Γ) (λ s. then_placed _ _ (y.0 Γ) (λ t. there_placed _ 15 p x.1.0)), y.1)

    args_placed : (xs : Args) (r : List Lexeme) → Inside (args_lexemes xs r) → ((Γ : Scope) → Placed (arg_types xs Γ)) × Inside r
    args_placed no_args r h = (λ Γ. tt, h)
    args_placed (args es) r h = exprs_placed es r h

    exprs_placed : (es : Exprs) (r : List Lexeme) → Inside (exprs_lexemes es r) → ((Γ : Scope) → Placed (expr_types es Γ)) × Inside r
    exprs_placed (last e) r h = let a = expr_placed e r h in (λ Γ. then_placed _ _ (a.0 Γ) (λ t. tt), a.1)
    exprs_placed (more e p es) r h =
        let a = expr_placed e _ h in
        let b = exprs_placed es r a.1.1 in
        (λ Γ. then_placed _ _ (a.0 Γ) (λ t. then_placed _ _ (b.0 Γ) (λ ts. tt)), b.1)

  type_placed : (e : Expr) (Γ : Scope) (t : Scalar) (p : ℕ) → ((Δ : Scope) → Placed (type_of e Δ)) → p ≤ m → Placed (needs_type e Γ t p)
  unfolding needs_type
  type_placed e Γ t p a h = then_placed _ _ (a Γ) (λ s. needs_placed _ 15 p h)

  -- a whole expression is checked as an expression, but for the value of a call
  whole_placed : (e : Expr) (r : List Lexeme) → Inside (expr_lexemes e r) → ((Γ : Scope) → Placed (check_whole e Γ)) × Inside r
  unfolding check_whole expr_lexemes type_of
  whole_placed (constant c) r h = (λ Γ. tt, h.1)
  whole_placed (variable x) r h = let a = expr_placed (variable x) r h in (λ Γ. then_placed _ _ (a.0 Γ) (λ _. tt), a.1)
  whole_placed (call x q xs) r h =
      let a = args_placed xs _ h.1.1 in
      (λ Γ. then_placed _ _ (called_placed Γ x _ (a.0 Γ) h.0) (λ _. tt), a.1.1)
  whole_placed (bracket q e) r h = let a = expr_placed e _ h.1 in (λ Γ. then_placed _ _ (a.0 Γ) (λ _. tt), a.1.1)
  whole_placed (unary u p e) r h = let a = expr_placed (unary u p e) r h in (λ Γ. then_placed _ _ (a.0 Γ) (λ _. tt), a.1)
  whole_placed (binary o p a b) r h = let x = expr_placed (binary o p a b) r h in (λ Γ. then_placed _ _ (x.0 Γ) (λ _. tt), x.1)

  defined_placed : (x : Ident) (t : Scalar) (Γ : Scope) → x.place ≤ m → Placed (defined x t Γ)
  unfolding defined
  defined_placed x t Γ h = then_placed _ _ (needs_placed _ 12 _ h) (λ _. then_placed _ _ (needs_placed _ 17 _ h) (λ _. tt))

  mutual
    unfolding check_stmt check_stmts stmt_lexemes stmts_lexemes

    stmt_placed : (s : Stmt) (r : List Lexeme) → Inside (stmt_lexemes s r) → ((l : Bool) (Γ : Scope) → Placed (check_stmt s l Γ)) × Inside r
    stmt_placed (block q ss) r h = let a = stmts_placed ss _ h.1 in (λ l Γ. then_placed _ _ (a.0 l _) (λ _. tt), a.1.1)
    stmt_placed (define t q x e) r h =
        let a = expr_placed e _ h.1.1.1 in
        (λ l Γ. then_placed _ _ (type_placed e Γ t _ a.0 h.1.0) (λ _. defined_placed x t Γ h.1.0), a.1.1)
    stmt_placed (assign x p e q) r h =
        let a = expr_placed e _ h.1.1 in
        (λ l Γ. then_placed _ _ (variable_placed _ _ h.0) (λ t. then_placed _ _ (type_placed e Γ t p a.0 h.1.0) (λ _. tt)), a.1.1)
    stmt_placed (modify o x p e q) r h =
        let a = expr_placed e _ h.1.1 in
        (λ l Γ. then_placed _ _ (variable_placed _ _ h.0) (λ t. then_placed _ _ (a.0 Γ) (λ s. then_placed _ _ (there_placed _ 15 p h.1.0) (λ _. tt))), a.1.1)
    stmt_placed (evaluate e q) r h = let a = whole_placed e _ h in (λ l Γ. then_placed _ _ (a.0 Γ) (λ _. tt), a.1.1)
    stmt_placed (if_then p q e s) r h =
        let a = expr_placed e _ h.1.1 in
        let b = stmt_placed s r a.1.1 in
        (λ l Γ. then_placed _ _ (type_placed e Γ _ p a.0 h.0) (λ _. then_placed _ _ (b.0 l _) (λ _. tt)), b.1)
    stmt_placed (if_else p q e s o t) r h =
        let a = expr_placed e _ h.1.1 in
        let b = stmt_placed s _ a.1.1 in
        let d = stmt_placed t r b.1.1 in
        (λ l Γ. then_placed _ _ (type_placed e Γ _ p a.0 h.0) (λ _. then_placed _ _ (b.0 l _) (λ _. then_placed _ _ (d.0 l _) (λ _. tt))), d.1)
    stmt_placed (while p q e s) r h =
        let a = expr_placed e _ h.1.1 in
        let b = stmt_placed s r a.1.1 in
        (λ l Γ. then_placed _ _ (type_placed e Γ _ p a.0 h.0) (λ _. then_placed _ _ (b.0 true _) (λ _. tt)), b.1)
    stmt_placed (do_while p s q e) r h =
        let b = stmt_placed s _ h.1 in
        let a = expr_placed e _ b.1.1.1 in
        (λ l Γ. then_placed _ _ (b.0 true _) (λ _. then_placed _ _ (type_placed e Γ _ p a.0 h.0) (λ _. tt)), a.1.1.1)
    stmt_placed (for_to p q x a b s) r h =
        let from = expr_placed a _ h.1.1.1.1.1 in
        let to = expr_placed b _ from.1.1 in
        let body = stmt_placed s r to.1.1 in (
          λ l Γ. then_placed _ _ (from.0 Γ) (λ t. then_placed _ _ (to.0 Γ) (λ u. then_placed _ _ (needs_placed _ 15 p h.0) (λ _.
              then_placed _ _ (needs_placed _ 17 _ h.1.1.1.0) (λ _. then_placed _ _ (body.0 true _) (λ _. tt))))),
          body.1,
        )
    stmt_placed (break p q) r h = (λ l Γ. then_placed _ _ (needs_placed l 16 p h.0) (λ _. tt), h.1.1)
    stmt_placed (continue p q) r h = (λ l Γ. then_placed _ _ (needs_placed l 16 p h.0) (λ _. tt), h.1.1)
    stmt_placed (return p e q) r h = let a = expr_placed e _ h.1 in (λ l Γ. then_placed _ _ (type_placed e Γ _ p a.0 h.0) (λ _. tt), a.1.1)
    stmt_placed (return_bare p q) r h = (λ l Γ. h.0, h.1.1)

    stmts_placed : (ss : Stmts) (r : List Lexeme) → Inside (stmts_lexemes ss r) → ((l : Bool) (Γ : Scope) → Placed (check_stmts ss l Γ)) × Inside r
    stmts_placed nil r h = (λ l Γ. tt, h)
    stmts_placed (cons s ss) r h =
        let a = stmt_placed s _ h in
        let b = stmts_placed ss r a.1 in
        (λ l Γ. then_placed _ _ (a.0 l Γ) (λ Δ. b.0 l Δ), b.1)

  parameter_inside : (a : Parameter) (r : List Lexeme) → Inside (parameter_lexemes a r) → Inside r
  parameter_inside nothing r h = h
  parameter_inside (takes t p x) r h = h.1.1

  static_inside : (s : Option ℕ) (r : List Lexeme) → Inside (static_lexemes s r) → Inside r
  static_inside none r h = h
  static_inside (some p) r h = h.1

  declared_placed : (x : Ident) (o : Std.Option Callee) (Γ : Scope) → x.place ≤ m → Placed (declared x o Γ)
  unfolding declared
  declared_placed x None Γ h = h
  declared_placed x (Some f) Γ h = then_placed _ _ (needs_placed _ 12 _ h) (λ _. tt)

  item_placed : (i : Item) (r : List Lexeme) → Inside (item_lexemes i r) → ((Γ : Scope) → Placed (check_item i Γ)) × Inside r
  unfolding check_item
  item_placed (extern q t x a) r h = (λ Γ. declared_placed x _ Γ h.1.1.0, (parameter_inside a _ h.1.1.1.1).1.1)
  item_placed (global s q t x c) r h =
      let g = static_inside s _ h in
      (λ Γ. then_placed _ _ (needs_placed _ 15 _ g.1.0) (λ _. defined_placed x t Γ g.1.0), g.1.1.1.1.1)

  items_placed : (is : List Item) (r : List Lexeme) → Inside (items_lexemes is r) → ((Γ : Scope) → Placed (check_items is Γ)) × Inside r
  unfolding check_items items_lexemes
  items_placed [] r h = (λ Γ. tt, h)
  items_placed (i ∷ is) r h =
      let a = item_placed i _ h in
      let b = items_placed is r a.1 in
      (λ Γ. then_placed _ _ (a.0 Γ) (λ Δ. b.0 Δ), b.1)

  script_placed : (s : Script) → Inside (script_lexemes s) → Placed (check_script s)
  unfolding check_script script_lexemes
  script_placed s h =
      let a = items_placed s.items _ h in
      let b = stmts_placed s.body _ (static_inside s.static _ a.1).1.1.1.1.1 in
      then_placed _ _ (a.0 _) (λ Γ. then_placed _ _ (b.0 false _) (λ _. tt))

-- the lexemes of a source stand in it
source_inside : (source : List ℕ) → Inside (length source) (lexemes_of source)
source_inside source = ordered_inside (length source) source 0 (reading source).tokens (decided source).ordered

wrong_inside : (source : List ℕ) (n p : ℕ) → Wrong (lexemes_of source) (length source) n p → p ≤ length source
wrong_inside source n p (unexpected k u) = place_inside (length source) (lexemes_of source) k (source_inside source)
wrong_inside source n p (early e) = omega arith
wrong_inside source n p (deep k d) = place_inside (length source) (lexemes_of source) k (source_inside source)

unfit_inside : (source : List ℕ) (n p : ℕ) → Refuses source n p → p ≤ length source
unfit_inside source n p r =
    let all : Inside (length source) (script_lexemes r.script) = subst (Inside (length source)) (sym r.reads.script.reads.lexemes) (source_inside source) in
    subst (Placed (length source)) r.checked (script_placed (length source) r.script all)

-- the place of a refusal has few enough bits to stand beside its number
pub place_small : (source : List ℕ) (room slots n p : ℕ) → Refused source room slots n p → p ≤ 16384
place_small source room slots n p (source-long l) = zero-le
place_small source room slots n p (few_tokens s t) = zero-le
place_small source room slots n p (few_records s t c) = zero-le
place_small source room slots n p (unread z f) = omega (arith, reading-fault source n p f, z.bytes)
place_small source room slots n p (wrong z f w) = omega (arith, wrong_inside source n p w, z.bytes)
place_small source room slots n p (unfit z r) = omega (arith, unfit_inside source n p r, z.bytes)
