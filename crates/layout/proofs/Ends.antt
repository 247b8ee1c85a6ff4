-- The code of a tree takes the room that its end position says, and code is never empty where a jump must go forward.
use Rattle.std.proofs.Common.{◌≡◌, ℕ, ◌+◌, ◌<◌, ◌≤◌, Bool, true, false, List, [], ◌∷◌, ◌++◌, refl, ◌∙◌, arith}
use Rattle.meaning.specs.Trees.{Unary, negate, invert, Expr, constant, variable, call, bracket, unary, binary, Args, no_args, args, Exprs, last, more, Stmt, block, define, assign, modify, evaluate, if_then, if_else, while, do_while, for_to, break, continue, return, return_bare, Stmts, nil, cons}
use Rattle.meaning.specs.Scopes.{level}
use Rattle.meaning.specs.Types.{operator_of}
use Rattle.meaning.specs.Check.{Scope}
use Rattle.machine.specs.declared.instruction.Instruction.{Instruction}
use Rattle.layout.proofs.Compiled.{low, Shape, strict, both, either, shape_of, plainly, past, binary_end, unary_end, expr_end, args_end, exprs_end, binary_code, unary_code, expr_code, args_code, exprs_code, drop_end, drop_code, leaves_nothing, scope_after, for_scope, stmt_end, stmts_end, stmt_code, stmts_code}
use Rattle.layout.proofs.Walk.{after, after-append}

pub after-plainly : (cs : List ℕ) (p o : ℕ) → after (plainly cs p) o ≡ past cs o
after-plainly [] p o = refl
after-plainly (c ∷ cs) p o = after-plainly cs p (o + 1)

binary_after : (h : Shape) (cs : List ℕ) (p : ℕ) (left : List Instruction) (right : ℕ → List Instruction) (end : ℕ → ℕ) (m o : ℕ) → after left o ≡ m →
    ((k : ℕ) → after (right k) k ≡ end k) → after (binary_code h cs p left right end m) o ≡ binary_end h cs end m
binary_after strict cs p left right end m o e h =
    after-append left _ o ∙ rw e (after-append (right m) (plainly cs p) m ∙ rw (h m) (after-plainly cs p (end m)))
binary_after both cs p left right end m o e h = after-append left _ o ∙ rw e (after-append (right (m + 1)) _ (m + 1) ∙ rw (h (m + 1)) refl)
binary_after either cs p left right end m o e h = after-append left _ o ∙ rw e (h (m + 1 + 1 + 1))

unary_after : (u : Unary) (c : Bool) (p : ℕ) (operand : ℕ → List Instruction) (end : ℕ → ℕ) (o : ℕ) → ((k : ℕ) → after (operand k) k ≡ end k) →
    after (unary_code u c p operand o) o ≡ unary_end u c end o
unary_after negate c p operand end o h = after-append (operand (o + 1)) _ (o + 1) ∙ rw (h (o + 1)) (after-plainly (5 ∷ low c) p (end (o + 1)))
unary_after invert c p operand end o h = after-append (operand o) _ o ∙ rw (h o) refl

mutual
  unfolding expr_code args_code exprs_code expr_end args_end exprs_end

  pub expr_after : (e : Expr) (Γ : Scope) (o : ℕ) → after (expr_code e Γ o) o ≡ expr_end e Γ o
  expr_after (constant c) Γ o = refl
  expr_after (variable x) Γ o = refl
  expr_after (call x q xs) Γ o = after-append (args_code xs Γ o) _ o ∙ rw (args_after xs Γ o) refl
  expr_after (bracket q e) Γ o = expr_after e Γ o
  expr_after (unary u p e) Γ o = unary_after u _ p _ _ o (λ k. expr_after e Γ k)
  expr_after (binary f p a b) Γ o = binary_after (shape_of f) _ p _ _ _ _ o (expr_after a Γ o) (λ k. expr_after b Γ k)

  pub args_after : (xs : Args) (Γ : Scope) (o : ℕ) → after (args_code xs Γ o) o ≡ args_end xs Γ o
  args_after no_args Γ o = refl
  args_after (args es) Γ o = exprs_after es Γ o

  pub exprs_after : (es : Exprs) (Γ : Scope) (o : ℕ) → after (exprs_code es Γ o) o ≡ exprs_end es Γ o
  exprs_after (last e) Γ o = expr_after e Γ o
  exprs_after (more e p es) Γ o = after-append (expr_code e Γ o) _ o ∙ rw (expr_after e Γ o) (exprs_after es Γ (expr_end e Γ o))

pub past_grows : (cs : List ℕ) (o : ℕ) → o ≤ past cs o
past_grows [] o = omega arith
past_grows (c ∷ cs) o = let h = past_grows cs (o + 1) in omega arith

binary_grows : (h : Shape) (cs : List ℕ) (end : ℕ → ℕ) (m o : ℕ) → o < m → ((k : ℕ) → k < end k) → o < binary_end h cs end m
binary_grows strict cs end m o l g = let a = g m in let b = past_grows cs (end m) in omega arith
binary_grows both cs end m o l g = let a = g (m + 1) in omega arith
binary_grows either cs end m o l g = let a = g (m + 1 + 1 + 1) in omega arith

unary_grows : (u : Unary) (c : Bool) (end : ℕ → ℕ) (o : ℕ) → ((k : ℕ) → k < end k) → o < unary_end u c end o
unary_grows negate c end o g = let a = g (o + 1) in let b = past_grows (5 ∷ low c) (end (o + 1)) in omega arith
unary_grows invert c end o g = let a = g o in omega arith

-- the code of an expression is not empty
mutual
  unfolding expr_end args_end exprs_end

  pub expr_grows : (e : Expr) (Γ : Scope) (o : ℕ) → o < expr_end e Γ o
  expr_grows (constant c) Γ o = omega arith
  expr_grows (variable x) Γ o = omega arith
  expr_grows (call x q xs) Γ o = let h = args_grow xs Γ o in omega arith
  expr_grows (bracket q e) Γ o = expr_grows e Γ o
  expr_grows (unary u p e) Γ o = unary_grows u _ _ o (λ k. expr_grows e Γ k)
  expr_grows (binary f p a b) Γ o = binary_grows (shape_of f) _ _ _ o (expr_grows a Γ o) (λ k. expr_grows b Γ k)

  pub args_grow : (xs : Args) (Γ : Scope) (o : ℕ) → o ≤ args_end xs Γ o
  args_grow no_args Γ o = omega arith
  args_grow (args es) Γ o = exprs_grow es Γ o

  pub exprs_grow : (es : Exprs) (Γ : Scope) (o : ℕ) → o ≤ exprs_end es Γ o
  exprs_grow (last e) Γ o = let h = expr_grows e Γ o in omega arith
  exprs_grow (more e p es) Γ o = let h = expr_grows e Γ o in let k = exprs_grow es Γ (expr_end e Γ o) in omega arith

drop-after : (b : Bool) (p o : ℕ) → after (drop_code b p) o ≡ drop_end b o
drop-after true p o = refl
drop-after false p o = refl

-- code in front, which ends at m
front : (is js : List Instruction) (o m z : ℕ) → after is o ≡ m → after js m ≡ z → after (is ++ js) o ≡ z
front is js o m z e h = after-append is js o ∙ rw e h

mutual
  unfolding stmt_code stmts_code stmt_end stmts_end

  pub stmt_after : (s : Stmt) (Γ : Scope) (o k c : ℕ) → after (stmt_code s Γ o k c) o ≡ stmt_end s Γ o
  stmt_after (block q ss) Γ o k c = stmts_after ss (level ∷ Γ) o k c
  stmt_after (define t q x e) Γ o k c = front (expr_code e Γ o) _ o _ _ (expr_after e Γ o) refl
  stmt_after (assign x p e q) Γ o k c = front (expr_code e Γ o) _ o _ _ (expr_after e Γ o) refl
  stmt_after (modify m x p e q) Γ o k c =
      let f = binary (operator_of m) p (variable x) e in front (expr_code f Γ o) _ o _ _ (expr_after f Γ o) refl
  stmt_after (evaluate e q) Γ o k c = front (expr_code e Γ o) _ o _ _ (expr_after e Γ o) (drop-after (leaves_nothing e Γ) q _)
  stmt_after (if_then p q e s) Γ o k c = front (expr_code e Γ o) _ o _ _ (expr_after e Γ o) (stmt_after s (level ∷ Γ) _ k c)
  stmt_after (if_else p q e s r t) Γ o k c =
      let m = expr_end e Γ o in
      front (expr_code e Γ o) _ o _ _ (expr_after e Γ o)
      (front (stmt_code s (level ∷ Γ) (m + 1) k c) _ _ _ _ (stmt_after s (level ∷ Γ) (m + 1) k c) (stmt_after t (level ∷ Γ) _ k c))
  stmt_after (while p q e s) Γ o k c =
      let m = expr_end e Γ (o + 1) in
      front (expr_code e Γ (o + 1)) _ _ _ _ (expr_after e Γ (o + 1))
      (front (stmt_code s (level ∷ Γ) (m + 1) (stmt_end s (level ∷ Γ) (m + 1) + 1) o) _ _ _ _ (stmt_after s (level ∷ Γ) (m + 1) _ o) refl)
  stmt_after (do_while p s q e) Γ o k c =
      let m = stmt_end s (level ∷ Γ) (o + 1) in
      front (stmt_code s (level ∷ Γ) (o + 1) (expr_end e Γ m + 1 + 1) m) _ _ _ _ (stmt_after s (level ∷ Γ) (o + 1) _ m)
      (front (expr_code e Γ m) _ _ _ _ (expr_after e Γ m) refl)
  stmt_after (for_to p q x a b s) Γ o k c =
      let m = expr_end b Γ (expr_end a Γ o) + 1 + 1 + 1 + 1 + 1 + 1 + 1 in
      let Δ = level ∷ for_scope x.bytes Γ in
      let n = stmt_end s Δ m in
      front (expr_code a Γ o) _ _ _ _ (expr_after a Γ o) (front (expr_code b Γ (expr_end a Γ o)) _ _ _ _ (expr_after b Γ _)
      (front (stmt_code s Δ m (n + 1 + 1 + 1 + 1 + 1) n) _ _ _ _ (stmt_after s Δ m _ n) refl))
  stmt_after (break p q) Γ o k c = refl
  stmt_after (continue p q) Γ o k c = refl
  stmt_after (return p e q) Γ o k c = front (expr_code e Γ o) _ _ _ _ (expr_after e Γ o) refl
  stmt_after (return_bare p q) Γ o k c = refl

  pub stmts_after : (ss : Stmts) (Γ : Scope) (o k c : ℕ) → after (stmts_code ss Γ o k c) o ≡ stmts_end ss Γ o
  stmts_after nil Γ o k c = refl
  stmts_after (cons s ss) Γ o k c =
      front (stmt_code s Γ o k c) _ _ _ _ (stmt_after s Γ o k c) (stmts_after ss (scope_after s Γ) (stmt_end s Γ o) k c)

drop_grows : (b : Bool) (o : ℕ) → o ≤ drop_end b o
drop_grows true o = omega arith
drop_grows false o = omega arith

mutual
  unfolding stmt_end stmts_end

  pub stmt_grows : (s : Stmt) (Γ : Scope) (o : ℕ) → o ≤ stmt_end s Γ o
  stmt_grows (block q ss) Γ o = stmts_grow ss (level ∷ Γ) o
  stmt_grows (define t q x e) Γ o = let h = expr_grows e Γ o in omega arith
  stmt_grows (assign x p e q) Γ o = let h = expr_grows e Γ o in omega arith
  stmt_grows (modify m x p e q) Γ o = let h = expr_grows (binary (operator_of m) p (variable x) e) Γ o in omega arith
  stmt_grows (evaluate e q) Γ o = let h = expr_grows e Γ o in let g = drop_grows (leaves_nothing e Γ) (expr_end e Γ o) in omega arith
  stmt_grows (if_then p q e s) Γ o = let h = expr_grows e Γ o in let g = stmt_grows s (level ∷ Γ) (expr_end e Γ o + 1) in omega arith
  stmt_grows (if_else p q e s r t) Γ o =
      let h = expr_grows e Γ o in
      let g = stmt_grows s (level ∷ Γ) (expr_end e Γ o + 1) in
      let f = stmt_grows t (level ∷ Γ) (stmt_end s (level ∷ Γ) (expr_end e Γ o + 1) + 1) in omega arith
  stmt_grows (while p q e s) Γ o = let h = expr_grows e Γ (o + 1) in let g = stmt_grows s (level ∷ Γ) (expr_end e Γ (o + 1) + 1) in omega arith
  stmt_grows (do_while p s q e) Γ o = let g = stmt_grows s (level ∷ Γ) (o + 1) in let h = expr_grows e Γ (stmt_end s (level ∷ Γ) (o + 1)) in omega arith
  stmt_grows (for_to p q x a b s) Γ o =
      let f = expr_grows a Γ o in
      let g = expr_grows b Γ (expr_end a Γ o) in
      let h = stmt_grows s (level ∷ for_scope x.bytes Γ) (expr_end b Γ (expr_end a Γ o) + 1 + 1 + 1 + 1 + 1 + 1 + 1) in omega arith
  stmt_grows (break p q) Γ o = omega arith
  stmt_grows (continue p q) Γ o = omega arith
  stmt_grows (return p e q) Γ o = let h = expr_grows e Γ o in omega arith
  stmt_grows (return_bare p q) Γ o = omega arith

  pub stmts_grow : (ss : Stmts) (Γ : Scope) (o : ℕ) → o ≤ stmts_end ss Γ o
  stmts_grow nil Γ o = omega arith
  stmts_grow (cons s ss) Γ o = let g = stmt_grows s Γ o in let h = stmts_grow ss (scope_after s Γ) (stmt_end s Γ o) in omega arith
