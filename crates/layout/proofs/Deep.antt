-- A script of depth at most 32 needs far less than 256 values on the stack: at one depth at most four operands wait for
-- the operators of `* / %`, `+ -`, the relations and the equalities, and one 0 for a unary minus.
use Rattle.std.proofs.Common.{◌≡◌, ℕ, suc, pred, ◌+◌, ◌*◌, ◌≤◌, min, max, Bool, true, false, ◌⊎◌, List, [], ◌∷◌, length, sym, refl, ap, inl, inr, arith}
use mathlib.Core.Option.{Option, none, some}
use Rattle.refusal.specs.Told.{accepted}
use Rattle.meaning.specs.declared.operator.Scalar.{Scalar}
use Rattle.meaning.specs.declared.operator.Scalar.TheVariants.{Bool as bool, Char as char, Int as int}
use Rattle.meaning.specs.declared.operator.Operator.{Operator}
use Rattle.meaning.specs.declared.operator.Operator.TheVariants.{Add, Subtract, Multiply, Divide, Remainder, Less, LessEqual, Greater, GreaterEqual, Equal, NotEqual, And, Or}
use Rattle.meaning.specs.Trees.{Ident, Unary, negate, invert, Expr, constant, variable, call, bracket, unary, binary, Args, no_args, args, Exprs, last, more, Modifier, plus, minus, times, over, modulo, both, either, Stmt, block, define, assign, modify, evaluate, if_then, if_else, while, do_while, for_to, break, continue, return, return_bare, Stmts, nil, cons, Return, nothing, takes, Item, extern, global, Script}
use Rattle.meaning.specs.Depths.{expr_depths, args_depths, exprs_depths, stmt_depths, stmts_depths, static_depths, items_depths, script_depths, greatest}
use Rattle.meaning.specs.Grammar.{looseness, Grouped, GroupedArgs, GroupedExprs, Proper, Propers, Grammatical}
use Rattle.meaning.specs.Scopes.{Callee, zone, columns, rows, report, main, level, function}
use Rattle.meaning.specs.Types.{same_types, signature, operator_of}
use Rattle.meaning.specs.Check.{Scope, called, type_of, arg_types, expr_types, needs_type, check_whole, check_stmt, check_stmts, check_items, check_script}
use Rattle.meaning.proofs.Fits.{false_true}
use Rattle.meaning.proofs.Sound.{then_passed, needs_passed}
use Rattle.layout.proofs.Compiled.{shape_of, for_scope}
use Rattle.layout.proofs.Room.{binary_needs, unary_needs, expr_needs, args_need, exprs_need, stmt_needs, stmts_need}

-- how many depths an expression takes
unfoldable mutual
  pub expr_height : Expr → ℕ
  expr_height (constant c) = 1
  expr_height (variable x) = 1
  expr_height (call x q xs) = 1 + args_height xs
  expr_height (bracket q e) = 1 + expr_height e
  expr_height (unary u p e) = 1 + expr_height e
  expr_height (binary f p a b) = max (expr_height a) (expr_height b)

  pub args_height : Args → ℕ
  args_height no_args = 0
  args_height (args es) = exprs_height es

  pub exprs_height : Exprs → ℕ
  exprs_height (last e) = expr_height e
  exprs_height (more e p es) = max (expr_height e) (exprs_height es)

-- the depths of an expression reach as far as its height, and what follows keeps its own
mutual
  unfolding expr_depths args_depths exprs_depths expr_height args_height exprs_height greatest

  pub expr_tall : (e : Expr) (d : ℕ) (r : List ℕ) → (d + expr_height e ≤ 1 + greatest (expr_depths e d r)) × (greatest r ≤ greatest (expr_depths e d r))
  expr_tall (constant c) d r = omega arith
  expr_tall (variable x) d r = omega arith
  expr_tall (call x q xs) d r = let i = args_tall xs (suc d) (0 ∷ r) in omega arith
  expr_tall (bracket q e) d r = let i = expr_tall e (suc d) (0 ∷ r) in omega arith
  expr_tall (unary u p e) d r = let i = expr_tall e (suc d) r in omega arith
  expr_tall (binary f p a b) d r =
      let j = expr_tall b d r in let i = expr_tall a d (0 ∷ expr_depths b d r) in omega arith

  args_tall : (xs : Args) (d : ℕ) (r : List ℕ) → ((d + args_height xs ≤ 1 + greatest (args_depths xs d r)) ⊎ (args_height xs ≡ 0)) × (greatest r ≤ greatest (args_depths xs d r))
  args_tall no_args d r = (inr refl, omega arith)
  args_tall (args es) d r = let i = exprs_tall es d r in (inl i.0, i.1)

  exprs_tall : (es : Exprs) (d : ℕ) (r : List ℕ) → (d + exprs_height es ≤ 1 + greatest (exprs_depths es d r)) × (greatest r ≤ greatest (exprs_depths es d r))
  exprs_tall (last e) d r = expr_tall e d r
  exprs_tall (more e p es) d r =
      let j = exprs_tall es d r in let i = expr_tall e d (0 ∷ exprs_depths es d r) in omega arith

-- a listed function takes at most one argument
one_parameter : (f : Callee) (ts : List Scalar) → same_types ts (signature f).parameters ≡ true → length ts ≤ 1
unfolding same_types
one_parameter zone [] h = omega arith
one_parameter zone (t ∷ []) h = omega arith
one_parameter zone (bool ∷ (u ∷ ts)) h = false_true h
one_parameter zone (char ∷ (u ∷ ts)) h = false_true h
one_parameter zone (int ∷ (u ∷ ts)) h = false_true h
one_parameter columns [] h = omega arith
one_parameter columns (t ∷ ts) h = false_true h
one_parameter rows [] h = omega arith
one_parameter rows (t ∷ ts) h = false_true h
one_parameter report [] h = omega arith
one_parameter report (t ∷ []) h = omega arith
one_parameter report (bool ∷ (u ∷ ts)) h = false_true h
one_parameter report (char ∷ (u ∷ ts)) h = false_true h
one_parameter report (int ∷ (u ∷ ts)) h = false_true h
one_parameter main [] h = omega arith
one_parameter main (t ∷ ts) h = false_true h

pub few_arguments : (Γ : Scope) (x : Ident) (xs : Args) (r : Return) → called Γ x (arg_types xs Γ) ≡ accepted r → (ts : List Scalar) × (arg_types xs Γ ≡ accepted ts) × (length ts ≤ 1)
unfolding called
few_arguments Γ x xs r h =
    let i = then_passed _ _ r h in
    let j = then_passed (arg_types xs Γ) _ r i.2 in
    let n = then_passed _ _ r j.2 in
    (j.0, j.1, one_parameter i.0 j.0 (needs_passed _ _ _ n.0 n.1))

exprs_some : (es : Exprs) (Γ : Scope) (ts : List Scalar) → expr_types es Γ ≡ accepted ts → 1 ≤ length ts
unfolding expr_types
exprs_some (last e) Γ ts h = let i = then_passed (type_of e Γ) _ ts h in let q : i.0 ∷ [] ≡ ts = let g = i.2 in cc in rw (sym q) (omega arith)
exprs_some (more e p es) Γ ts h =
    let i = then_passed (type_of e Γ) _ ts h in
    let j = then_passed (expr_types es Γ) _ ts i.2 in
    let q : i.0 ∷ j.0 ≡ ts = let g = j.2 in cc in rw (sym q) (omega arith)

-- the room that an operator needs over its operands, by how loosely it binds
operator_needs : (f : Operator) (a b h k n : ℕ) → looseness f ≤ n → a + 2 ≤ 4 * h + min (looseness f) 4 → b + 2 ≤ 4 * k + min (pred (looseness f)) 4 →
    binary_needs (shape_of f) a b + 2 ≤ 4 * max h k + min n 4
operator_needs Add a b h k n l i j = omega arith
operator_needs Subtract a b h k n l i j = omega arith
operator_needs Multiply a b h k n l i j = omega arith
operator_needs Divide a b h k n l i j = omega arith
operator_needs Remainder a b h k n l i j = omega arith
operator_needs Less a b h k n l i j = omega arith
operator_needs LessEqual a b h k n l i j = omega arith
operator_needs Greater a b h k n l i j = omega arith
operator_needs GreaterEqual a b h k n l i j = omega arith
operator_needs Equal a b h k n l i j = omega arith
operator_needs NotEqual a b h k n l i j = omega arith
operator_needs And a b h k n l i j = omega arith
operator_needs Or a b h k n l i j = omega arith

single_needs : (u : Unary) (a h n : ℕ) → a + 2 ≤ 4 * h + min 0 4 → unary_needs u a + 2 ≤ 4 * (1 + h) + min n 4
single_needs negate a h n i = omega arith
single_needs invert a h n i = omega arith

mutual
  unfolding expr_needs args_need exprs_need expr_height args_height exprs_height type_of arg_types expr_types

  pub expr_needs_lem : (e : Expr) (n : ℕ) (Γ : Scope) (t : Scalar) → type_of e Γ ≡ accepted t → Grouped e n → expr_needs e + 2 ≤ 4 * expr_height e + min n 4
  expr_needs_lem (constant c) n Γ t h g = omega arith
  expr_needs_lem (variable x) n Γ t h g = omega arith
  expr_needs_lem (call x q xs) n Γ t h g =
      let i = then_passed _ _ t h in
      let w = few_arguments Γ x xs i.0 i.1 in
      let k = args_need_lem xs Γ w.0 w.1 w.2 g in omega arith
  expr_needs_lem (bracket q e) n Γ t h g = let i = expr_needs_lem e 6 Γ t h g in omega arith
  expr_needs_lem (unary u p e) n Γ t h g =
      let i = then_passed (type_of e Γ) _ t h in single_needs u _ _ n (expr_needs_lem e 0 Γ i.0 i.1 g)
  expr_needs_lem (binary f p a b) n Γ t h g =
      let i = then_passed (type_of a Γ) _ t h in
      let j = then_passed (type_of b Γ) _ t i.2 in
      operator_needs f _ _ _ _ n g.0 (expr_needs_lem a (looseness f) Γ i.0 i.1 g.1) (expr_needs_lem b (pred (looseness f)) Γ j.0 j.1 g.2)

  pub args_need_lem : (xs : Args) (Γ : Scope) (ts : List Scalar) → arg_types xs Γ ≡ accepted ts → length ts ≤ 1 → GroupedArgs xs → args_need xs + 2 ≤ 4 * args_height xs + 4
  args_need_lem no_args Γ ts h l g = omega arith
  args_need_lem (args es) Γ ts h l g = exprs_need_lem es Γ ts h l g

  exprs_need_lem : (es : Exprs) (Γ : Scope) (ts : List Scalar) → expr_types es Γ ≡ accepted ts → length ts ≤ 1 → GroupedExprs es → exprs_need es + 2 ≤ 4 * exprs_height es + 4
  exprs_need_lem (last e) Γ ts h l g = let i = then_passed (type_of e Γ) _ ts h in let k = expr_needs_lem e 6 Γ i.0 i.1 g in omega arith
  exprs_need_lem (more e p es) Γ ts h l g =
      let i = then_passed (type_of e Γ) _ ts h in
      let j = then_passed (expr_types es Γ) _ ts i.2 in
      let m = exprs_some es Γ j.0 j.1 in
      let q : i.0 ∷ j.0 ≡ ts = let z = j.2 in cc in
      let b : length ts ≡ suc (length j.0) = sym (ap length q) in absurd (omega arith)

-- an expression at depth d, in a script no deeper than 32
shallow_needs : (e : Expr) (Γ : Scope) (t : Scalar) (d : ℕ) (r : List ℕ) → type_of e Γ ≡ accepted t → Grouped e 6 → 1 ≤ d → greatest (expr_depths e d r) ≤ 32 → expr_needs e ≤ 130
shallow_needs e Γ t d r h g l m = let i = expr_needs_lem e 6 Γ t h g in let k = expr_tall e d r in omega arith

-- a whole expression statement
whole-needs : (e : Expr) (Γ : Scope) (u : Unit {0}) (d : ℕ) (r : List ℕ) → check_whole e Γ ≡ accepted u → Grouped e 6 → 1 ≤ d → greatest (expr_depths e d r) ≤ 32 → expr_needs e ≤ 130
unfolding check_whole type_of expr_needs expr_height
whole-needs (constant c) Γ u d r h g l m = omega arith
whole-needs (variable x) Γ u d r h g l m = omega arith
whole-needs (call x q xs) Γ u d r h g l m =
    let i = then_passed _ _ u h in
    let w = few_arguments Γ x xs i.0 i.1 in
    let k = args_need_lem xs Γ w.0 w.1 w.2 g in
    let y = expr_tall (call x q xs) d r in omega arith
whole-needs (bracket q e) Γ u d r h g l m = let i = then_passed (type_of e Γ) _ u h in shallow_needs (bracket q e) Γ i.0 d r i.1 g l m
whole-needs (unary f p e) Γ u d r h g l m = let i = then_passed (type_of (unary f p e) Γ) _ u h in shallow_needs (unary f p e) Γ i.0 d r i.1 g l m
whole-needs (binary f p a b) Γ u d r h g l m = let i = then_passed (type_of (binary f p a b) Γ) _ u h in shallow_needs (binary f p a b) Γ i.0 d r i.1 g l m

needed_needs : (e : Expr) (Γ : Scope) (t : Scalar) (p : ℕ) (u : Unit {0}) (d : ℕ) (r : List ℕ) → needs_type e Γ t p ≡ accepted u → Grouped e 6 → 1 ≤ d → greatest (expr_depths e d r) ≤ 32 → expr_needs e ≤ 130
unfolding needs_type
needed_needs e Γ t p u d r h g l m = let i = then_passed (type_of e Γ) _ u h in shallow_needs e Γ i.0 d r i.1 g l m

-- a modifier works its right side out over the variable
modifier_needs : (m : Modifier) (x : Ident) (p : ℕ) (e : Expr) → expr_needs e ≤ 130 → expr_needs (binary (operator_of m) p (variable x) e) ≤ 131
unfolding expr_needs
modifier_needs plus x p e h = omega arith
modifier_needs minus x p e h = omega arith
modifier_needs times x p e h = omega arith
modifier_needs over x p e h = omega arith
modifier_needs modulo x p e h = omega arith
modifier_needs both x p e h = omega arith
modifier_needs either x p e h = omega arith

-- what follows a statement keeps its own depths
mutual
  unfolding stmt_depths stmts_depths greatest

  pub stmt_keeps : (s : Stmt) (d : ℕ) (r : List ℕ) → greatest r ≤ greatest (stmt_depths s d r)
  stmt_keeps (block q ss) d r = let i = stmts_keep ss (suc d) (0 ∷ r) in omega arith
  stmt_keeps (define t q x e) d r = let i = expr_tall e d (0 ∷ r) in omega arith
  stmt_keeps (assign x p e q) d r = let i = expr_tall e d (0 ∷ r) in omega arith
  stmt_keeps (modify m x p e q) d r = let i = expr_tall e d (0 ∷ r) in omega arith
  stmt_keeps (evaluate e q) d r = let i = expr_tall e d (0 ∷ r) in omega arith
  stmt_keeps (if_then p q e s) d r = let j = stmt_keeps s (suc d) r in let i = expr_tall e d (0 ∷ stmt_depths s (suc d) r) in omega arith
  stmt_keeps (if_else p q e s o t) d r =
      let k = stmt_keeps t (suc d) r in
      let j = stmt_keeps s (suc d) (0 ∷ stmt_depths t (suc d) r) in
      let i = expr_tall e d (0 ∷ stmt_depths s (suc d) (0 ∷ stmt_depths t (suc d) r)) in omega arith
  stmt_keeps (while p q e s) d r = let j = stmt_keeps s (suc d) r in let i = expr_tall e d (0 ∷ stmt_depths s (suc d) r) in omega arith
  stmt_keeps (do_while p s q e) d r =
      let i = expr_tall e d (0 ∷ 0 ∷ r) in let j = stmt_keeps s (suc d) (0 ∷ 0 ∷ expr_depths e d (0 ∷ 0 ∷ r)) in omega arith
  stmt_keeps (for_to p q x a b s) d r =
      let k = stmt_keeps s (suc d) r in
      let j = expr_tall b d (0 ∷ stmt_depths s (suc d) r) in
      let i = expr_tall a d (0 ∷ expr_depths b d (0 ∷ stmt_depths s (suc d) r)) in omega arith
  stmt_keeps (break p q) d r = omega arith
  stmt_keeps (continue p q) d r = omega arith
  stmt_keeps (return p e q) d r = let i = expr_tall e d (0 ∷ r) in omega arith
  stmt_keeps (return_bare p q) d r = omega arith

  pub stmts_keep : (ss : Stmts) (d : ℕ) (r : List ℕ) → greatest r ≤ greatest (stmts_depths ss d r)
  stmts_keep nil d r = omega arith
  stmts_keep (cons s ss) d r = let j = stmts_keep ss d r in let i = stmt_keeps s d (stmts_depths ss d r) in omega arith

mutual
  unfolding stmt_depths stmts_depths greatest check_stmt check_stmts stmt_needs stmts_need

  pub stmt_needs_lem : (s : Stmt) (l : Bool) (Γ Δ : Scope) (d : ℕ) (r : List ℕ) → check_stmt s l Γ ≡ accepted Δ → Proper s → 1 ≤ d → greatest (stmt_depths s d r) ≤ 32 → stmt_needs s ≤ 131
  stmt_needs_lem (block q ss) l Γ Δ d r h g y m =
      let i = then_passed (check_stmts ss l (level ∷ Γ)) _ Δ h in stmts_need_lem ss l (level ∷ Γ) i.0 (suc d) (0 ∷ r) i.1 g (omega arith) (omega arith)
  stmt_needs_lem (define t q x e) l Γ Δ d r h g y m =
      let i = then_passed (needs_type e Γ t x.place) _ Δ h in let k = needed_needs e Γ t _ _ d (0 ∷ r) i.1 g y (omega arith) in omega arith
  stmt_needs_lem (assign x p e q) l Γ Δ d r h g y m =
      let i = then_passed _ _ Δ h in
      let j = then_passed (needs_type e Γ i.0 p) _ Δ i.2 in
      let k = needed_needs e Γ i.0 _ _ d (0 ∷ r) j.1 g y (omega arith) in omega arith
  stmt_needs_lem (modify m x p e q) l Γ Δ d r h g y n =
      let i = then_passed _ _ Δ h in
      let j = then_passed (type_of e Γ) _ Δ i.2 in
      let k = shallow_needs e Γ j.0 d (0 ∷ r) j.1 g y (omega arith) in modifier_needs m x p e k
  stmt_needs_lem (evaluate e q) l Γ Δ d r h g y m =
      let i = then_passed (check_whole e Γ) _ Δ h in let k = whole-needs e Γ i.0 d (0 ∷ r) i.1 g y m in omega arith
  stmt_needs_lem (if_then p q e s) l Γ Δ d r h g y m =
      let i = then_passed (needs_type e Γ bool p) _ Δ h in
      let j = then_passed (check_stmt s l (level ∷ Γ)) _ Δ i.2 in
      let t = expr_tall e d (0 ∷ stmt_depths s (suc d) r) in
      let a = needed_needs e Γ bool _ _ d (0 ∷ stmt_depths s (suc d) r) i.1 g.0 y (omega arith) in
      let b = stmt_needs_lem s l (level ∷ Γ) j.0 (suc d) r j.1 g.1 (omega arith) (omega arith) in omega arith
  stmt_needs_lem (if_else p q e s o s2) l Γ Δ d r h g y m =
      let i = then_passed (needs_type e Γ bool p) _ Δ h in
      let j = then_passed (check_stmt s l (level ∷ Γ)) _ Δ i.2 in
      let n = then_passed (check_stmt s2 l (level ∷ Γ)) _ Δ j.2 in
      let t = expr_tall e d (0 ∷ stmt_depths s (suc d) (0 ∷ stmt_depths s2 (suc d) r)) in
      let w = stmt_keeps s (suc d) (0 ∷ stmt_depths s2 (suc d) r) in
      let a = needed_needs e Γ bool _ _ d (0 ∷ stmt_depths s (suc d) (0 ∷ stmt_depths s2 (suc d) r)) i.1 g.0 y (omega arith) in
      let b = stmt_needs_lem s l (level ∷ Γ) j.0 (suc d) (0 ∷ stmt_depths s2 (suc d) r) j.1 g.1 (omega arith) (omega arith) in
      let c = stmt_needs_lem s2 l (level ∷ Γ) n.0 (suc d) r n.1 g.3 (omega arith) (omega arith) in omega arith
  stmt_needs_lem (while p q e s) l Γ Δ d r h g y m =
      let i = then_passed (needs_type e Γ bool p) _ Δ h in
      let j = then_passed (check_stmt s true (level ∷ Γ)) _ Δ i.2 in
      let t = expr_tall e d (0 ∷ stmt_depths s (suc d) r) in
      let a = needed_needs e Γ bool _ _ d (0 ∷ stmt_depths s (suc d) r) i.1 g.0 y (omega arith) in
      let b = stmt_needs_lem s true (level ∷ Γ) j.0 (suc d) r j.1 g.1 (omega arith) (omega arith) in omega arith
  stmt_needs_lem (do_while p s q e) l Γ Δ d r h g y m =
      let i = then_passed (check_stmt s true (level ∷ Γ)) _ Δ h in
      let j = then_passed (needs_type e Γ bool p) _ Δ i.2 in
      let w = stmt_keeps s (suc d) (0 ∷ 0 ∷ expr_depths e d (0 ∷ 0 ∷ r)) in
      let a = needed_needs e Γ bool _ _ d (0 ∷ 0 ∷ r) j.1 g.1 y (omega arith) in
      let b = stmt_needs_lem s true (level ∷ Γ) i.0 (suc d) (0 ∷ 0 ∷ expr_depths e d (0 ∷ 0 ∷ r)) i.1 g.0 (omega arith) (omega arith) in omega arith
  stmt_needs_lem (for_to p q x a b s) l Γ Δ d r h g y m =
      let i = then_passed (type_of a Γ) _ Δ h in
      let j = then_passed (type_of b Γ) _ Δ i.2 in
      let n = then_passed _ _ Δ j.2 in
      let o = then_passed _ _ Δ n.2 in
      let w = then_passed (check_stmt s true (level ∷ for_scope x.bytes Γ)) _ Δ o.2 in
      let t = expr_tall a d (0 ∷ expr_depths b d (0 ∷ stmt_depths s (suc d) r)) in
      let u = expr_tall b d (0 ∷ stmt_depths s (suc d) r) in
      let k = shallow_needs a Γ i.0 d (0 ∷ expr_depths b d (0 ∷ stmt_depths s (suc d) r)) i.1 g.0 y (omega arith) in
      let c = shallow_needs b Γ j.0 d (0 ∷ stmt_depths s (suc d) r) j.1 g.1 y (omega arith) in
      let f = stmt_needs_lem s true _ w.0 (suc d) r w.1 g.2 (omega arith) (omega arith) in omega arith
  stmt_needs_lem (break p q) l Γ Δ d r h g y m = omega arith
  stmt_needs_lem (continue p q) l Γ Δ d r h g y m = omega arith
  stmt_needs_lem (return p e q) l Γ Δ d r h g y m =
      let i = then_passed (needs_type e Γ int p) _ Δ h in let k = needed_needs e Γ int _ _ d (0 ∷ r) i.1 g y (omega arith) in omega arith
  stmt_needs_lem (return_bare p q) l Γ Δ d r h g y m = omega arith

  pub stmts_need_lem : (ss : Stmts) (l : Bool) (Γ Δ : Scope) (d : ℕ) (r : List ℕ) → check_stmts ss l Γ ≡ accepted Δ → Propers ss → 1 ≤ d → greatest (stmts_depths ss d r) ≤ 32 → stmts_need ss ≤ 131
  stmts_need_lem nil l Γ Δ d r h g y m = omega arith
  stmts_need_lem (cons s ss) l Γ Δ d r h g y m =
      let i = then_passed (check_stmt s l Γ) _ Δ h in
      let w = stmt_keeps s d (stmts_depths ss d r) in
      let a = stmt_needs_lem s l Γ i.0 d (stmts_depths ss d r) i.1 g.0 y m in
      let b = stmts_need_lem ss l i.0 Δ d r i.2 g.1 y (omega arith) in omega arith

-- the body of a script that is no deeper than 32
items_keep : (is : List Item) (r : List ℕ) → greatest r ≤ greatest (items_depths is r)
unfolding items_depths greatest
items_keep [] r = omega arith
items_keep (extern q t x nothing ∷ is) r = let i = items_keep is r in omega arith
items_keep (extern q t x (takes u p y) ∷ is) r = let i = items_keep is r in omega arith
items_keep (global none q t x c ∷ is) r = let i = items_keep is r in omega arith
items_keep (global (some p) q t x c ∷ is) r = let i = items_keep is r in omega arith

static_keeps : (s : Option ℕ) (r : List ℕ) → greatest r ≤ greatest (static_depths s r)
unfolding greatest
static_keeps none r = omega arith
static_keeps (some p) r = omega arith

pub script_needs : (s : Script) → Grammatical s → greatest (script_depths s) ≤ 32 → check_script s ≡ accepted tt → stmts_need s.body ≤ 256
unfolding check_script script_depths greatest
script_needs s g d h =
    let i = then_passed (check_items s.items (level ∷ [])) _ tt h in
    let m = then_passed (check_stmts s.body false (level ∷ function main ∷ level ∷ i.0)) _ tt i.2 in
    let b = stmts_depths s.body 1 (0 ∷ []) in
    let r = 0 ∷ 0 ∷ 0 ∷ 0 ∷ 0 ∷ b in
    let a = items_keep s.items (static_depths s.static r) in
    let c = static_keeps s.static r in
    let k = stmts_need_lem s.body false _ m.0 1 (0 ∷ []) m.1 g (omega arith) (omega arith) in omega arith
