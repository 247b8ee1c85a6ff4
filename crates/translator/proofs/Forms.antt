-- The first lexeme of a tree tells its form.
use Rattle.std.proofs.Common.{◌≡◌, ℕ, zero, suc, ◌+◌, ◌<◌, Bool, true, false, cond, ◌||◌, ◌⊎◌, List, [], ◌∷◌, length, drop, Option, Some, None, Result, sym, refl, ap, ◌∙◌, subst, inl, inr, ⊎_elim, arith}
use Rattle.stacks.specs.Held.{Held}
use Rattle.std.specs.List.{slice_get}
use Rattle.machine.specs.declared.instruction.Instruction.{Instruction}
use Rattle.refusal.specs.declared.reason.Refusal.{Refusal}
use Rattle.lexer.specs.Lexeme.{Lexeme}
use Rattle.lexer.specs.Reading.{lexemes}
use Rattle.lexer.specs.declared.kind.Kind.{Kind}
use Rattle.lexer.specs.declared.kind.Kind.TheVariants as K
use Rattle.lexer.specs.declared.kind.Token.{Token}
use Rattle.lookahead.specs.Seen.{seen, is_valued, is_zero, is_kind, lead_of, assigns_of}
use Rattle.lookahead.specs.declared.class.Lead.{Lead}
use Rattle.lookahead.specs.declared.class.Lead.TheVariants as L
use Rattle.meaning.specs.declared.operator.Scalar.{Scalar}
use Rattle.meaning.specs.declared.operator.Scalar.TheVariants.{Bool as bool, Char as char, Int as int}
use Rattle.meaning.specs.declared.operator.Operator.{Operator}
use Rattle.meaning.specs.declared.operator.Operator.TheVariants.{Add, Subtract, Multiply, Divide, Remainder, Less, LessEqual, Greater, GreaterEqual, Equal, NotEqual, And, Or}
use Rattle.meaning.specs.Trees.{Ident, number, character, truth, negate, invert, Expr, constant, variable, call, bracket, unary, binary, Modifier, plus, minus, times, over, modulo, both, either, Stmt, block, define, assign, modify, evaluate, if_then, if_else, while, do_while, for_to, break, continue, return, return_bare, Stmts, nil, cons}
use Rattle.meaning.specs.Types.{operator_of}
use Rattle.meaning.specs.Written.{sign, ident, literal, type_kind, unary_kind, binary_kind, modifier_kind, expr_lexemes, stmt_lexemes, stmts_lexemes}
use Rattle.meaning.proofs.Tokens.{Else, next}
use Rattle.meaning.proofs.Stack.{is_word}
use Rattle.translator.specs.Look.{ModifierOf}
use Rattle.translator.specs.Statements.{Work, work, StmtAt, Makes, TranslatesStmt, TranslatesAssignment, TranslatesModification, TranslatesEvaluation}
use Rattle.translator.specs.declared.name.Name.{Name}
use Rattle.translator.specs.declared.pending.Jump.{Jump}
use Rattle.translator.proofs.Along.{kind_is}
use Rattle.translator.proofs.Lexemes.{next_is, seen-sign, seen-ident, seen-literal}

-- the lexeme that an expression begins with
abbrev pub first_of : Expr → Lexeme
first_of (constant c) = literal c
first_of (variable x) = ident x
first_of (call x q xs) = ident x
first_of (bracket q e) = sign K.OpenParen q.0
first_of (unary u p e) = sign (unary_kind u) p
first_of (binary o p a b) = first_of a

-- what holds of each kind that it can be
first_kind_lem : (P : Kind → Type 0) → P K.Name → P K.Number → P K.Character → P K.True → P K.False → P K.OpenParen → P K.Minus → P K.Not → (e : Expr) → P (first_of e).kind
first_kind_lem P a b c d f g h i (constant (number v p)) = b
first_kind_lem P a b c d f g h i (constant (character v p)) = c
first_kind_lem P a b c d f g h i (constant (truth true p)) = d
first_kind_lem P a b c d f g h i (constant (truth false p)) = f
first_kind_lem P a b c d f g h i (variable x) = a
first_kind_lem P a b c d f g h i (call x q xs) = a
first_kind_lem P a b c d f g h i (bracket q e) = g
first_kind_lem P a b c d f g h i (unary negate p e) = h
first_kind_lem P a b c d f g h i (unary invert p e) = i
first_kind_lem P a b c d f g h i (binary o p x y) = first_kind_lem P a b c d f g h i x

first_lead : (e : Expr) → (lead_of (Some (first_of e).kind) ≡ Some L.Name) ⊎ (lead_of (Some (first_of e).kind) ≡ Some L.Expression)
first_lead e =
    first_kind_lem (λ k. (lead_of (Some k) ≡ Some L.Name) ⊎ (lead_of (Some k) ≡ Some L.Expression))
    (inl refl) (inr refl) (inr refl) (inr refl) (inr refl) (inr refl) (inr refl) (inr refl) e

pub seen_expr : (s : List ℕ) (ts : List Token) (at : ℕ) (e : Expr) (r : List Lexeme) → drop at (lexemes s ts) ≡ expr_lexemes e r → seen ts at ≡ Some (first_of e).kind
unfolding expr_lexemes
seen_expr s ts at (constant c) r h = seen-literal s ts at c r h
seen_expr s ts at (variable x) r h = seen-ident s ts at x r h
seen_expr s ts at (call x q xs) r h = seen-ident s ts at x _ h
seen_expr s ts at (bracket q e) r h = seen-sign s ts at K.OpenParen q.0 _ h
seen_expr s ts at (unary u p e) r h = seen-sign s ts at (unary_kind u) p _ h
seen_expr s ts at (binary o p a b) r h = seen_expr s ts at a _ h

-- no expression begins with a semicolon
pub not_semicolon : (s : List ℕ) (ts : List Token) (at : ℕ) (e : Expr) (r : List Lexeme) → drop at (lexemes s ts) ≡ expr_lexemes e r → is_kind (seen ts at) K.Semicolon ≡ false
not_semicolon s ts at e r h =
    rw (seen_expr s ts at e r h) (first_kind_lem (λ k. is_kind (Some k) K.Semicolon ≡ false) refl refl refl refl refl refl refl refl e)

-- An expression that begins with a name does not go on with an assignment.

abbrev Unassigned : List Lexeme → Type 0
Unassigned [] = Unit {0}
Unassigned (l ∷ ls) = assigns_of (Some l.kind) ≡ false

operator_unassigned : (o : Operator) → assigns_of (Some (binary_kind o)) ≡ false
operator_unassigned Add = refl
operator_unassigned Subtract = refl
operator_unassigned Multiply = refl
operator_unassigned Divide = refl
operator_unassigned Remainder = refl
operator_unassigned Less = refl
operator_unassigned LessEqual = refl
operator_unassigned Greater = refl
operator_unassigned GreaterEqual = refl
operator_unassigned Equal = refl
operator_unassigned NotEqual = refl
operator_unassigned And = refl
operator_unassigned Or = refl

after-name : (e : Expr) (r : List Lexeme) → lead_of (Some (first_of e).kind) ≡ Some L.Name → Unassigned r → (ls : List Lexeme) × (expr_lexemes e r ≡ first_of e ∷ ls) × Unassigned ls
unfolding expr_lexemes
after-name (constant (number v p)) r h u = let z : ◌≡◌ {A = ℕ} 0 1 = cc in absurd (omega arith)
after-name (constant (character v p)) r h u = let z : ◌≡◌ {A = ℕ} 0 1 = cc in absurd (omega arith)
after-name (constant (truth true p)) r h u = let z : ◌≡◌ {A = ℕ} 0 1 = cc in absurd (omega arith)
after-name (constant (truth false p)) r h u = let z : ◌≡◌ {A = ℕ} 0 1 = cc in absurd (omega arith)
after-name (variable x) r h u = (r, refl, u)
after-name (call x q xs) r h u = (_, refl, refl)
after-name (bracket q e) r h u = let z : ◌≡◌ {A = ℕ} 0 1 = cc in absurd (omega arith)
after-name (unary negate p e) r h u = let z : ◌≡◌ {A = ℕ} 0 1 = cc in absurd (omega arith)
after-name (unary invert p e) r h u = let z : ◌≡◌ {A = ℕ} 0 1 = cc in absurd (omega arith)
after-name (binary o p a b) r h u = after-name a (sign (binary_kind o) p ∷ expr_lexemes b r) h (operator_unassigned o)

seen_unassigned : (s : List ℕ) (ts : List Token) (at : ℕ) (ls : List Lexeme) → drop at (lexemes s ts) ≡ ls → Unassigned ls → assigns_of (seen ts at) ≡ false
seen_unassigned s [] zero ls h u = refl
seen_unassigned s [] (suc at) ls h u = refl
seen_unassigned s (t ∷ ts) zero ls h u =
    let P : List Lexeme → Type 0 = Unassigned in
    let w : assigns_of (Some t.kind) ≡ false = subst P (sym h) u in
    elim (is_valued t.kind || is_zero t.value) as (λ b. assigns_of (cond b (Some t.kind) None) ≡ false) [ true ↦ w | false ↦ refl ]
seen_unassigned s (t ∷ ts) (suc at) ls h u = seen_unassigned s ts at ls h u

-- the second place of an expression statement that begins with a name
pub named_unassigned : (s : List ℕ) (ts : List Token) (at : ℕ) (e : Expr) (q : ℕ) (r : List Lexeme) → drop at (lexemes s ts) ≡ expr_lexemes e (sign K.Semicolon q ∷ r) →
    lead_of (Some (first_of e).kind) ≡ Some L.Name → assigns_of (seen ts (at + 1)) ≡ false
named_unassigned s ts at e q r h l =
    let a = after-name e (sign K.Semicolon q ∷ r) l refl in
    seen_unassigned s ts (at + 1) a.0 (next_is (lexemes s ts) at (first_of e) a.0 (h ∙ a.1)) a.2

-- Statements.

-- how a statement begins
abbrev pub lead_by : Stmt → Option Lead
lead_by (block q ss) = Some L.Block
lead_by (define t q x e) = Some L.Definition
lead_by (assign x p e q) = Some L.Name
lead_by (modify m x p e q) = Some L.Name
lead_by (evaluate e q) = lead_of (Some (first_of e).kind)
lead_by (if_then p q e s) = Some L.If
lead_by (if_else p q e s o t) = Some L.If
lead_by (while p q e s) = Some L.While
lead_by (do_while p s q e) = Some L.Do
lead_by (for_to p q x a b s) = Some L.For
lead_by (break p q) = Some L.Jump
lead_by (continue p q) = Some L.Jump
lead_by (return p e q) = Some L.Return
lead_by (return_bare p q) = Some L.Return

type_lead : (t : Scalar) → lead_of (Some (type_kind t)) ≡ Some L.Definition
type_lead bool = refl
type_lead char = refl
type_lead int = refl

pub seen_lead : (s : List ℕ) (ts : List Token) (at : ℕ) (t : Stmt) (r : List Lexeme) → drop at (lexemes s ts) ≡ stmt_lexemes t r → lead_of (seen ts at) ≡ lead_by t
unfolding stmt_lexemes
seen_lead s ts at (block q ss) r h = ap lead_of (seen-sign s ts at K.OpenBrace _ _ h)
seen_lead s ts at (define t q x e) r h = ap lead_of (seen-sign s ts at (type_kind t) _ _ h) ∙ type_lead t
seen_lead s ts at (assign x p e q) r h = ap lead_of (seen-ident s ts at x _ h)
seen_lead s ts at (modify m x p e q) r h = ap lead_of (seen-ident s ts at x _ h)
seen_lead s ts at (evaluate e q) r h = ap lead_of (seen_expr s ts at e _ h)
seen_lead s ts at (if_then p q e t) r h = ap lead_of (seen-sign s ts at K.If _ _ h)
seen_lead s ts at (if_else p q e t o u) r h = ap lead_of (seen-sign s ts at K.If _ _ h)
seen_lead s ts at (while p q e t) r h = ap lead_of (seen-sign s ts at K.While _ _ h)
seen_lead s ts at (do_while p t q e) r h = ap lead_of (seen-sign s ts at K.Do _ _ h)
seen_lead s ts at (for_to p q x a b t) r h = ap lead_of (seen-sign s ts at K.For _ _ h)
seen_lead s ts at (break p q) r h = ap lead_of (seen-sign s ts at K.Break _ _ h)
seen_lead s ts at (continue p q) r h = ap lead_of (seen-sign s ts at K.Continue _ _ h)
seen_lead s ts at (return p e q) r h = ap lead_of (seen-sign s ts at K.Return _ _ h)
seen_lead s ts at (return_bare p q) r h = ap lead_of (seen-sign s ts at K.Return _ _ h)

-- what is to show of the statements that begin in a way
abbrev pub ByLead : (Stmt → Type 0) → Option Lead → Type 0
ByLead P (Some L.Block) = (q : ℕ × ℕ) (ss : Stmts) → P (block q ss)
ByLead P (Some L.Definition) = (t : Scalar) (q : ℕ × ℕ × ℕ) (x : Ident) (e : Expr) → P (define t q x e)
ByLead P (Some L.Name) =
    ((x : Ident) (p : ℕ) (e : Expr) (q : ℕ) → P (assign x p e q)) × ((m : Modifier) (x : Ident) (p : ℕ) (e : Expr) (q : ℕ) → P (modify m x p e q))
    × ((e : Expr) (q : ℕ) → lead_of (Some (first_of e).kind) ≡ Some L.Name → P (evaluate e q))
ByLead P (Some L.If) =
    ((p : ℕ) (q : ℕ × ℕ) (e : Expr) (t : Stmt) → P (if_then p q e t))
    × ((p : ℕ) (q : ℕ × ℕ) (e : Expr) (t : Stmt) (o : ℕ) (u : Stmt) → P (if_else p q e t o u))
ByLead P (Some L.While) = (p : ℕ) (q : ℕ × ℕ) (e : Expr) (t : Stmt) → P (while p q e t)
ByLead P (Some L.Do) = (p : ℕ) (t : Stmt) (q : ℕ × ℕ × ℕ × ℕ) (e : Expr) → P (do_while p t q e)
ByLead P (Some L.For) = (p : ℕ) (q : ℕ × ℕ × ℕ × ℕ × ℕ) (x : Ident) (a b : Expr) (t : Stmt) → P (for_to p q x a b t)
ByLead P (Some L.Jump) = (p q : ℕ) → P (break p q) × P (continue p q)
ByLead P (Some L.Return) = ((p : ℕ) (e : Expr) (q : ℕ) → P (return p e q)) × ((p q : ℕ) → P (return_bare p q))
ByLead P (Some L.Expression) = (e : Expr) (q : ℕ) → P (evaluate e q)
ByLead P None = Unit {0}

by_lead : (P : Stmt → Type 0) (t : Stmt) → ByLead P (lead_by t) → P t
by_lead P (block q ss) b = b q ss
by_lead P (define t q x e) b = b t q x e
by_lead P (assign x p e q) b = b.0 x p e q
by_lead P (modify m x p e q) b = b.1 m x p e q
by_lead P (evaluate e q) b =
    ⊎_elim (λ l. let c : ByLead P (Some L.Name) = rw l at b in c.2 e q l) (λ l. let c : ByLead P (Some L.Expression) = rw l at b in c e q) (first_lead e)
by_lead P (if_then p q e t) b = b.0 p q e t
by_lead P (if_else p q e t o u) b = b.1 p q e t o u
by_lead P (while p q e t) b = b p q e t
by_lead P (do_while p t q e) b = b p t q e
by_lead P (for_to p q x a c t) b = b p q x a c t
by_lead P (break p q) b = (b p q).0
by_lead P (continue p q) b = (b p q).1
by_lead P (return p e q) b = b.0 p e q
by_lead P (return_bare p q) b = b.1 p q

-- whatever statement stands there begins as the code has seen
pub dispatch : (s : List ℕ) (ts : List Token) (at : ℕ) (l : Bool) (W V : Work) (r : Result ℕ Refusal) (k : Option Lead) → k ≡ lead_of (seen ts at) → ByLead (λ t. Makes s ts at l W V t r) k →
    TranslatesStmt s ts at l W V r
dispatch s ts at l W V r k e b t h =
    let P : Stmt → Type 0 = λ u. Makes s ts at l W V u r in
    by_lead P t (rw (e ∙ seen_lead s ts at t h.rest h.ready.stands) at b) h

-- no statement begins with the brace that closes others ..
type_unclosing : (t : Scalar) → is_kind (Some (type_kind t)) K.CloseBrace ≡ false
type_unclosing bool = refl
type_unclosing char = refl
type_unclosing int = refl

pub not_close : (s : List ℕ) (ts : List Token) (at : ℕ) (t : Stmt) (r : List Lexeme) → drop at (lexemes s ts) ≡ stmt_lexemes t r → is_kind (seen ts at) K.CloseBrace ≡ false
unfolding stmt_lexemes
not_close s ts at (block q ss) r h = rw (seen-sign s ts at K.OpenBrace _ _ h) refl
not_close s ts at (define t q x e) r h = rw (seen-sign s ts at (type_kind t) _ _ h) (type_unclosing t)
not_close s ts at (assign x p e q) r h = rw (seen-ident s ts at x _ h) refl
not_close s ts at (modify m x p e q) r h = rw (seen-ident s ts at x _ h) refl
not_close s ts at (evaluate e q) r h =
    rw (seen_expr s ts at e _ h) (first_kind_lem (λ k. is_kind (Some k) K.CloseBrace ≡ false) refl refl refl refl refl refl refl refl e)
not_close s ts at (if_then p q e t) r h = rw (seen-sign s ts at K.If _ _ h) refl
not_close s ts at (if_else p q e t o u) r h = rw (seen-sign s ts at K.If _ _ h) refl
not_close s ts at (while p q e t) r h = rw (seen-sign s ts at K.While _ _ h) refl
not_close s ts at (do_while p t q e) r h = rw (seen-sign s ts at K.Do _ _ h) refl
not_close s ts at (for_to p q x a b t) r h = rw (seen-sign s ts at K.For _ _ h) refl
not_close s ts at (break p q) r h = rw (seen-sign s ts at K.Break _ _ h) refl
not_close s ts at (continue p q) r h = rw (seen-sign s ts at K.Continue _ _ h) refl
not_close s ts at (return p e q) r h = rw (seen-sign s ts at K.Return _ _ h) refl
not_close s ts at (return_bare p q) r h = rw (seen-sign s ts at K.Return _ _ h) refl

-- .. or with `else`

expr_otherwise : (e : Expr) (r : List Lexeme) → is_word Else (next (expr_lexemes e r)) ≡ false
unfolding expr_lexemes
expr_otherwise (constant (number v p)) r = refl
expr_otherwise (constant (character v p)) r = refl
expr_otherwise (constant (truth true p)) r = refl
expr_otherwise (constant (truth false p)) r = refl
expr_otherwise (variable x) r = refl
expr_otherwise (call x q xs) r = refl
expr_otherwise (bracket q e) r = refl
expr_otherwise (unary negate p e) r = refl
expr_otherwise (unary invert p e) r = refl
expr_otherwise (binary o p a b) r = expr_otherwise a (sign (binary_kind o) p ∷ expr_lexemes b r)

stmt_otherwise : (t : Stmt) (r : List Lexeme) → is_word Else (next (stmt_lexemes t r)) ≡ false
unfolding stmt_lexemes
stmt_otherwise (block q ss) r = refl
stmt_otherwise (define bool q x e) r = refl
stmt_otherwise (define char q x e) r = refl
stmt_otherwise (define int q x e) r = refl
stmt_otherwise (assign x p e q) r = refl
stmt_otherwise (modify m x p e q) r = refl
stmt_otherwise (evaluate e q) r = expr_otherwise e (sign K.Semicolon q ∷ r)
stmt_otherwise (if_then p q e t) r = refl
stmt_otherwise (if_else p q e t o u) r = refl
stmt_otherwise (while p q e t) r = refl
stmt_otherwise (do_while p t q e) r = refl
stmt_otherwise (for_to p q x a b t) r = refl
stmt_otherwise (break p q) r = refl
stmt_otherwise (continue p q) r = refl
stmt_otherwise (return p e q) r = refl
stmt_otherwise (return_bare p q) r = refl

pub stmts_otherwise : (ss : Stmts) (q : ℕ) (r : List Lexeme) → is_word Else (next (stmts_lexemes ss (sign K.CloseBrace q ∷ r))) ≡ false
unfolding stmts_lexemes
stmts_otherwise nil q r = refl
stmts_otherwise (cons t ss) q r = stmt_otherwise t (stmts_lexemes ss (sign K.CloseBrace q ∷ r))

-- Statements that begin with a name, by what follows it.

modifier_assigns : (m : Modifier) → assigns_of (Some (modifier_kind m)) ≡ true
modifier_assigns plus = refl
modifier_assigns minus = refl
modifier_assigns times = refl
modifier_assigns over = refl
modifier_assigns modulo = refl
modifier_assigns both = refl
modifier_assigns either = refl

module _ (s : List ℕ) (ts : List Token) (at : ℕ) (l : Bool) (N : Held Name) (J : Held Jump) (C D : Held Instruction) (r : Result ℕ Refusal) where
  abbrev Becomes : Stmt → Type 0
  Becomes t = Makes s ts at l (work N J C) (work N J D) t r

  assign_mark : (x : Ident) (p : ℕ) (e : Expr) (q : ℕ) → StmtAt s ts at (work N J C) (assign x p e q) → (ls : List Lexeme) × (drop (at + 1) (lexemes s ts) ≡ sign K.Assign p ∷ ls)
  unfolding stmt_lexemes
  assign_mark x p e q h = (_, next_is (lexemes s ts) at _ _ h.ready.stands)

  modify_mark : (m : Modifier) (x : Ident) (p : ℕ) (e : Expr) (q : ℕ) → StmtAt s ts at (work N J C) (modify m x p e q) → (ls : List Lexeme) × (drop (at + 1) (lexemes s ts) ≡ sign (modifier_kind m) p ∷ ls)
  unfolding stmt_lexemes
  modify_mark m x p e q h = (_, next_is (lexemes s ts) at _ _ h.ready.stands)

  -- no assignment: an expression
  pub names_evaluate : false ≡ assigns_of (seen ts (at + 1)) → TranslatesEvaluation s ts at N C D r → ByLead Becomes (Some L.Name)
  names_evaluate b f = (
    (λ x p e q h.
        let k = assign_mark x p e q h in
        let y = ap assigns_of (seen-sign s ts (at + 1) K.Assign p k.0 k.1) in
        let z : ◌≡◌ {A = ℕ} 0 1 = cc in absurd (omega arith)),
    (λ m x p e q h.
        let k = modify_mark m x p e q h in
        let y = ap assigns_of (seen-sign s ts (at + 1) (modifier_kind m) p k.0 k.1) ∙ modifier_assigns m in
        let z : ◌≡◌ {A = ℕ} 0 1 = cc in absurd (omega arith)),
    (λ e q _ h. f e q J l h),
  )

  -- an assignment: not an expression
  not_evaluated : true ≡ assigns_of (seen ts (at + 1)) → (e : Expr) (q : ℕ) → lead_of (Some (first_of e).kind) ≡ Some L.Name → Becomes (evaluate e q)
  unfolding stmt_lexemes
  not_evaluated b e q n h =
      let y = named_unassigned s ts at e q h.rest h.ready.stands n in
      let z : ◌≡◌ {A = ℕ} 0 1 = cc in absurd (omega arith)

  module _ (b : true ≡ assigns_of (seen ts (at + 1))) (k : Token) (m : at + 1 < length ts → slice_get ts (at + 1) ≡ Some k) where
    pub names_modify : (o : Operator) → ModifierOf k.kind (Some o) → TranslatesModification s ts at o N C D r → ByLead Becomes (Some L.Name)
    names_modify o f g = (
      (λ x p e q h.
          let n = assign_mark x p e q h in
          let y = f.assigns (kind_is s ts (at + 1) k _ n.0 m n.1) in
          let z : ◌≡◌ {A = ℕ} 0 1 = cc in absurd (omega arith)),
      (λ w x p e q h.
          let n = modify_mark w x p e q h in
          let y : Some o ≡ Some (operator_of w) = f.modifies w (kind_is s ts (at + 1) k _ n.0 m n.1) in
          let z : o ≡ operator_of w = cc in g w x p e q z J l h),
      not_evaluated b,
    )

    pub names_assign : ModifierOf k.kind None → TranslatesAssignment s ts at N C D r → ByLead Becomes (Some L.Name)
    names_assign f g = (
      (λ x p e q h. g x p e q J l h),
      (λ w x p e q h.
          let n = modify_mark w x p e q h in
          let y : None ≡ Some (operator_of w) = f.modifies w (kind_is s ts (at + 1) k _ n.0 m n.1) in
          let z : ◌≡◌ {A = ℕ} 0 1 = cc in absurd (omega arith)),
      not_evaluated b,
    )
