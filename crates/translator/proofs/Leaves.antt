-- Statements without bodies.
use Rattle.std.proofs.Common.{◌≡◌, ℕ, ◌+◌, ◌<◌, ◌≤◌, Bool, true, false, not, List, [], ◌∷◌, ◌++◌, length, take, drop, pos, Some, Ok, Err, Option, sym, refl, ap, ◌∙◌, append_assoc, append-nil, arith, length-append, is_some, is_none}
use lib.Seq.{take-length, take-append_seam}
use Rattle.refusal.specs.Told.{Told, accepted, refused}
use Rattle.refusal.specs.declared.reason.Refusal.{Refusal}
use Rattle.refusal.specs.declared.reason.Reason.TheVariants.{TypeMismatch}
use Rattle.stacks.specs.Held.{Held, holding}
use Rattle.std.specs.List.{slice_get}
use Rattle.lookahead.specs.Seen.{seen, is_kind}
use Rattle.lexer.specs.Lexeme.{Lexeme}
use Rattle.lexer.specs.Reading.{lexemes}
use Rattle.lexer.specs.declared.kind.Kind.{Kind}
use Rattle.lexer.specs.declared.kind.Kind.TheVariants as K
use Rattle.lexer.specs.declared.kind.Token.{Token}
use Rattle.machine.specs.declared.instruction.Instruction.{Instruction}
use Rattle.meaning.specs.declared.operator.Scalar.{Scalar}
use Rattle.meaning.specs.declared.operator.Scalar.TheVariants.{Bool as bool, Int as int}
use Rattle.meaning.specs.declared.operator.Operator.{Operator}
use Rattle.meaning.specs.Trees.{Ident, Expr, variable, binary, Modifier, define, assign, modify, evaluate, return, return_bare}
use Rattle.meaning.specs.Written.{sign, modifier_kind, expr_lexemes, stmt_lexemes}
use Rattle.meaning.specs.Grammar.{Grouped}
use Rattle.meaning.specs.Scopes.{lookup, cells}
use Rattle.meaning.specs.Scopes as Scopes
use Rattle.meaning.specs.Types.{same_type, operator_of, result_of}
use Rattle.meaning.specs.Check.{Scope, then, there, as_variable, type_of, needs_type, check_whole, check_stmt}
use Rattle.layout.proofs.Compiled.{ins, cell_of, expr_end, expr_code, drop_code, leaves_nothing, drop_end, stmt_end, stmt_code}
use Rattle.layout.proofs.Ends.{expr_grows}
use Rattle.translator.specs.Translation.{code_limit}
use Rattle.translator.specs.Code.{Placed, coded, Emits}
use Rattle.translator.specs.Look.{ScalarOf}
use Rattle.translator.specs.Names.{scope_of, VariableAt, Defines}
use Rattle.translator.specs.Expressions.{ExprAt, JoinAt, Translates, Joins, TranslatesWhole}
use Rattle.translator.specs.Statements.{Work, work, Ready, Worked, StmtAt, TranslatesNeeded, ConditionAt, TranslatesCondition, TranslatesDefinition, TranslatesAssignment, TranslatesModification, TranslatesEvaluation, TranslatesReturn}
use Rattle.translator.specs.declared.name.Name.{Name}
use Rattle.translator.specs.declared.name.Variable.{Variable as Used}
use Rattle.translator.specs.declared.pending.Jump.{Jump}
use Rattle.translator.specs.declared.typed.Typed.{Typed}
use Rattle.translator.specs.declared.typed.Called.{Called}
use Rattle.translator.proofs.Along.{place_is, kind_is, on_by, placed_at, ends_close, ends_semicolon, expr_more}
use Rattle.translator.proofs.Checked.{then_stops, then-goes, need_met, need_unmet, need_fails, cell_low}
use Rattle.translator.proofs.Emitting.{code-length}
use Rattle.translator.proofs.Growing.{grown_plain}
use Rattle.translator.proofs.Forms.{not_semicolon}
use Rattle.translator.proofs.Lexemes.{next_is, seen-sign}
use Rattle.translator.proofs.Records.{stacked_more}

-- Expressions of a type, and conditions.

abbrev mismatch : ℕ → Refusal
mismatch p = record { reason = TypeMismatch; place = p }

module _ (s : List ℕ) (ts : List Token) (at p : ℕ) (t : Scalar) (N : Held Name) (C D : Held Instruction) where
  pub needed_met : (v : Typed) → Translates 6 s ts at N C D (Ok v) → true ≡ same_type v.kind t → TranslatesNeeded s ts at t p N C D (Ok v.end)
  needed_met v f g e h = let d = f e h in (need_met e _ t p v.kind d.0 (sym g), d.1, d.2)

  pub needed_unmet : (v : Typed) → Translates 6 s ts at N C D (Ok v) → false ≡ same_type v.kind t → TranslatesNeeded s ts at t p N C D (Err (mismatch p))
  needed_unmet v f g e h = let d = f e h in need_unmet e _ t p v.kind d.0 (sym g)

  pub needed_fails : (f : Refusal) → Translates 6 s ts at N C D (Err f) → TranslatesNeeded s ts at t p N C D (Err f)
  needed_fails f g e h = need_fails e _ t p _ _ (g e h)

module _ (s : List ℕ) (ts : List Token) (at b p : ℕ) (N : Held Name) (C D : Held Instruction) (o : at < length ts → b ≡ at + 1) where
  abbrev within_brackets : (e : Expr) (h : ConditionAt s ts at (scope_of s N.held) C e) → ExprAt 6 s ts b (scope_of s N.held) C e
  within_brackets e h =
      record {
        rest = sign K.CloseParen h.closed ∷ h.rest;
        code = h.code;
        placed = h.placed;
        few = h.few;
        grouped = h.grouped;
        ends = ends_close e h.closed h.rest;
        stands = on_by s ts at b _ _ o h.stands;
        begun = h.begun;
        room = h.room;
      }

  pub condition_done : (end q : ℕ) → TranslatesNeeded s ts b bool p N C D (Ok end) → (end < length ts → q ≡ end + 1) → TranslatesCondition s ts at p N C D (Ok q)
  condition_done end q f n e h = let d = f e (within_brackets e h) in (d.0, on_by s ts end q _ _ n d.1, d.2)

  pub condition_fails : (f : Refusal) → TranslatesNeeded s ts b bool p N C D (Err f) → TranslatesCondition s ts at p N C D (Err f)
  condition_fails f g e h = g e (within_brackets e h)

-- an expression before a semicolon
abbrev before_semicolon : (s : List ℕ) (ts : List Token) (at b q : ℕ) (W : Work) (e : Expr) (ls rest : List Lexeme) (end : ℕ → ℕ) (h : Ready s ts at W ls end) → Grouped e 6 →
    drop b (lexemes s ts) ≡ expr_lexemes e (sign K.Semicolon q ∷ rest) → expr_end e (scope_of s W.names.held) (length h.code) ≤ code_limit →
    ExprAt 6 s ts b (scope_of s W.names.held) W.code e
before_semicolon s ts at b q W e ls rest end h g st r =
    record { rest = sign K.Semicolon q ∷ rest; code = h.code; placed = h.placed; few = h.few; grouped = g; ends = ends_semicolon e q rest; stands = st; begun = h.begun; room = r }

-- one more instruction after an expression
emit_after : (D E : Held Instruction) (C : List Instruction) (e : Expr) (Γ : Scope) (c a p : ℕ) → Emits D c a p E → D ≡ coded (C ++ expr_code e Γ (length C)) → expr_end e Γ (length C) + 1 ≤ code_limit → Placed a → Placed p →
    E ≡ coded (C ++ (expr_code e Γ (length C) ++ (ins c (pos a) p ∷ [])))
emit_after D E C e Γ c a p f d r l m =
    let n = code-length C e Γ in
    f (C ++ expr_code e Γ (length C)) d (omega arith) l m ∙ ap coded (append_assoc C (expr_code e Γ (length C)) (ins c (pos a) p ∷ []))

-- The stacks after a statement without open jumps.
pub worked_plain : (s : List ℕ) (ts : List Token) (q : ℕ) (N M : Held Name) (J : Held Jump) (B A : Held Instruction) (ls rest : List Lexeme) (C X : List Instruction) → drop q (lexemes s ts) ≡ rest →
    take (length N.held) M.held ≡ N.held → M.most ≡ N.most → length M.held + length rest ≤ length N.held + length ls → length rest ≤ length ls → A ≡ coded (C ++ X) →
    Worked s ts q (work N J B) (work M J A) ls rest C (λ _ _. X)
worked_plain s ts q N M J B A ls rest C X n k m e l a =
    record {
      next = n;
      kept = k;
      names = m;
      entries = e;
      new = [];
      jumps = ap (λ (js : List Jump). holding js J.most) (sym (append-nil J.held));
      waiting = omega arith;
      code = C ++ X;
      ended = a;
      grows = grown_plain C X;
    }

pub worked_same : (s : List ℕ) (ts : List Token) (q : ℕ) (N : Held Name) (J : Held Jump) (B A : Held Instruction) (ls rest : List Lexeme) (C X : List Instruction) → drop q (lexemes s ts) ≡ rest →
    length rest ≤ length ls → A ≡ coded (C ++ X) → Worked s ts q (work N J B) (work N J A) ls rest C (λ _ _. X)
worked_same s ts q N J B A ls rest C X n l a = worked_plain s ts q N N J B A ls rest C X n (take-length N.held) refl (omega arith) l a

-- NAME = e ;
module _ (s : List ℕ) (ts : List Token) (at b : ℕ) (k : Token) (N : Held Name) (C : Held Instruction)
    (m : at + 1 < length ts → slice_get ts (at + 1) ≡ Some k) (n : at + 1 < length ts → b ≡ at + 1 + 1) where
  assigned-at : (x : Ident) (p : ℕ) (e : Expr) (z : ℕ) (J : Held Jump) (h : StmtAt s ts at (work N J C) (assign x p e z)) → ExprAt 6 s ts b (scope_of s N.held) C e
  unfolding stmt_lexemes stmt_end
  assigned-at x p e z J h =
      let r : expr_end e (scope_of s N.held) (length h.ready.code) + 1 ≤ code_limit = h.ready.room in
      before_semicolon s ts at b z (work N J C) e _ h.rest _ h.ready h.proper
      (on_by s ts (at + 1) b _ _ n (next_is (lexemes s ts) at _ _ h.ready.stands)) (omega arith)

  pub assigned-done : (v : Used) (end q : ℕ) (D E : Held Instruction) → VariableAt s ts at N.held (Ok v) → TranslatesNeeded s ts b v.kind k.place N C D (Ok end) →
      Emits D 2 v.cell k.place E → (end < length ts → q ≡ end + 1) → TranslatesAssignment s ts at N C E (Ok q)
  unfolding stmt_lexemes stmt_end stmt_code check_stmt as_variable assigned-at
  assigned-done v end q D E f g i o x p e z J l h =
      let Γ = scope_of s N.held in
      let c = h.ready.code in
      let st = next_is (lexemes s ts) at _ _ h.ready.stands in
      let y = f x _ h.ready.stands in
      let w : k.place ≡ p = place_is s ts (at + 1) k _ _ m st in
      let d = g e (assigned-at x p e z J h) in
      let r : expr_end e Γ (length c) + 1 ≤ code_limit = h.ready.room in
      let a = cell_low x.bytes Γ in
      let u = h.ready.few in
      let t = y.1 in
      let pl : Placed p = placed_at (lexemes s ts) (at + 1) _ _ h.ready.placed st in
      let em : E ≡ coded (c ++ (expr_code e Γ (length c) ++ (ins 2 (pos (cell_of x.bytes Γ)) p ∷ []))) =
      emit_after D E c e Γ 2 (cell_of x.bytes Γ) p (rw (y.1, w) at i) d.2 r (omega arith) pl in
      let more = expr_more e (sign K.Semicolon z ∷ h.rest) in (
        then-goes (as_variable (lookup x.bytes Γ) x.place) _ v.kind (rw y.0 refl) ∙ then-goes (needs_type e Γ v.kind p) _ tt (rw w at d.0),
        worked_same s ts q N J C E _ h.rest c _ (on_by s ts end q _ _ o d.1) (omega arith) em,
      )

  pub assigned_fails : (v : Used) (f : Refusal) (D : Held Instruction) → VariableAt s ts at N.held (Ok v) → TranslatesNeeded s ts b v.kind k.place N C D (Err f) → TranslatesAssignment s ts at N C D (Err f)
  unfolding stmt_lexemes check_stmt as_variable
  assigned_fails v f D g i x p e z J l h =
      let Γ = scope_of s N.held in
      let st = next_is (lexemes s ts) at _ _ h.ready.stands in
      let y = g x _ h.ready.stands in
      let w : k.place ≡ p = place_is s ts (at + 1) k _ _ m st in
      then-goes (as_variable (lookup x.bytes Γ) x.place) _ v.kind (rw y.0 refl)
      ∙ then_stops (needs_type e Γ v.kind p) _ _ _ (rw w at (i e (assigned-at x p e z J h)))

pub assigned_absent : (s : List ℕ) (ts : List Token) (at : ℕ) (N : Held Name) (C : Held Instruction) (f : Refusal) → VariableAt s ts at N.held (Err f) → TranslatesAssignment s ts at N C C (Err f)
unfolding stmt_lexemes check_stmt
assigned_absent s ts at N C f g x p e z J l h = then_stops (as_variable (lookup x.bytes (scope_of s N.held)) x.place) _ _ _ (g x _ h.ready.stands)

-- NAME op= e ;

-- the check of it is that of NAME op e
modify_as : (a b : Told Scalar) (f : Scalar → Scalar → Told Scalar) (Γ : Scope) →
    then a (λ t. then b (λ u. then (f t u) (λ _. accepted Γ))) ≡ then (then a (λ t. then b (λ u. f t u))) (λ _. accepted Γ)
unfolding then
modify_as (accepted t) (accepted u) f Γ = refl
modify_as (accepted t) (refused n p) f Γ = refl
modify_as (refused n p) b f Γ = refl

modify_check : (m : Modifier) (x : Ident) (p : ℕ) (e : Expr) (q : ℕ) (l : Bool) (Γ : Scope) →
    check_stmt (modify m x p e q) l Γ ≡ then (type_of (binary (operator_of m) p (variable x) e) Γ) (λ _. accepted Γ)
unfolding check_stmt type_of
modify_check m x p e q l Γ = modify_as (as_variable (lookup x.bytes Γ) x.place) (type_of e Γ) (λ t u. there (result_of (operator_of m) t u) 15 p) Γ

pub modified_absent : (s : List ℕ) (ts : List Token) (at : ℕ) (o : Operator) (N : Held Name) (C : Held Instruction) (f : Refusal) → VariableAt s ts at N.held (Err f) → TranslatesModification s ts at o N C C (Err f)
unfolding stmt_lexemes check_stmt
modified_absent s ts at o N C f g m x p e z i J l h = then_stops (as_variable (lookup x.bytes (scope_of s N.held)) x.place) _ _ _ (g x _ h.ready.stands)

module _ (s : List ℕ) (ts : List Token) (at : ℕ) (o : Operator) (k : Token) (v : Used) (N : Held Name) (C D : Held Instruction)
    (m : at < length ts → slice_get ts at ≡ Some k) (f : VariableAt s ts at N.held (Ok v)) (g : Emits C 1 v.cell k.place D) where
  abbrev modified_left : Typed
  modified_left = record { kind = v.kind; end = at + 1 }

  modified_at : (w : Modifier) (x : Ident) (p : ℕ) (e : Expr) (z : ℕ) → o ≡ operator_of w → (J : Held Jump) (h : StmtAt s ts at (work N J C) (modify w x p e z)) →
      JoinAt 6 s ts modified_left (scope_of s N.held) D o (variable x) p e
  unfolding stmt_lexemes stmt_end type_of as_variable expr_code
  modified_at w x p e z i J h =
      let Γ = scope_of s N.held in
      let c = h.ready.code in
      let y = f x _ h.ready.stands in
      let q : k.place ≡ x.place = place_is s ts at k _ _ m h.ready.stands in
      let r : expr_end (binary (operator_of w) p (variable x) e) Γ (length c) + 1 ≤ code_limit = h.ready.room in
      let u = expr_grows (binary (operator_of w) p (variable x) e) Γ (length c) in
      let a = cell_low x.bytes Γ in
      let few = h.ready.few in
      let pl : Placed x.place = placed_at (lexemes s ts) at _ _ h.ready.placed h.ready.stands in
      record {
        rest = sign K.Semicolon z ∷ h.rest;
        code = c;
        mark = sign (modifier_kind w) p;
        placed = h.ready.placed;
        few = few;
        grouped = h.proper;
        ends = ends_semicolon e z h.rest;
        stands = next_is (lexemes s ts) at _ _ h.ready.stands;
        place = refl;
        typed = rw y.0 refl;
        begun = (rw (y.1, q) at g) c h.ready.begun (omega arith) (omega arith) pl;
        room = rw i (omega arith);
      }

  pub modified_done : (t : Token) (w : Typed) (q : ℕ) (E F : Held Instruction) → (at + 1 < length ts → slice_get ts (at + 1) ≡ Some t) → Joins 6 s ts modified_left o N D E (Ok w) →
      Emits E 2 v.cell t.place F → (w.end < length ts → q ≡ w.end + 1) → TranslatesModification s ts at o N C F (Ok q)
  unfolding stmt_lexemes stmt_end stmt_code modified_at
  modified_done t w q E F n j i b y x p e z oe J l h =
      let Γ = scope_of s N.held in
      let c = h.ready.code in
      let st = next_is (lexemes s ts) at _ _ h.ready.stands in
      let va = f x _ h.ready.stands in
      let pp : t.place ≡ p = place_is s ts (at + 1) t _ _ n st in
      let d = j (variable x) p e (modified_at y x p e z oe J h) in
      let r : expr_end (binary (operator_of y) p (variable x) e) Γ (length c) + 1 ≤ code_limit = h.ready.room in
      let a = cell_low x.bytes Γ in
      let few = h.ready.few in
      let pl : Placed p = placed_at (lexemes s ts) (at + 1) _ _ h.ready.placed st in
      let ty : type_of (binary (operator_of y) p (variable x) e) Γ ≡ accepted w.kind = rw oe at d.0 in
      let co : E ≡ coded (c ++ expr_code (binary (operator_of y) p (variable x) e) Γ (length c)) = rw oe at d.2 in
      let em = emit_after E F c (binary (operator_of y) p (variable x) e) Γ 2 (cell_of x.bytes Γ) p (rw (va.1, pp) at i) co r (omega arith) pl in
      let more = expr_more e (sign K.Semicolon z ∷ h.rest) in (
        modify_check y x p e z l Γ ∙ then-goes (type_of (binary (operator_of y) p (variable x) e) Γ) _ w.kind ty,
        worked_same s ts q N J C F (stmt_lexemes (modify y x p e z) h.rest) h.rest c _ (on_by s ts w.end q (sign K.Semicolon z) h.rest b d.1) (omega arith) em,
      )

  pub modified_fails : (r : Refusal) (E : Held Instruction) → Joins 6 s ts modified_left o N D E (Err r) → TranslatesModification s ts at o N C E (Err r)
  modified_fails r E j y x p e z oe J l h =
      let Γ = scope_of s N.held in
      modify_check y x p e z l Γ ∙ then_stops (type_of (binary (operator_of y) p (variable x) e) Γ) _ _ _ (rw oe at (j (variable x) p e (modified_at y x p e z oe J h)))

-- e ;

drop_grows : (b : Bool) (o : ℕ) → o ≤ drop_end b o
drop_grows true o = omega arith
drop_grows false o = omega arith

module _ (s : List ℕ) (ts : List Token) (at : ℕ) (N : Held Name) (C D : Held Instruction) where
  evaluated_at : (e : Expr) (z : ℕ) (J : Held Jump) (h : StmtAt s ts at (work N J C) (evaluate e z)) → ExprAt 6 s ts at (scope_of s N.held) C e
  unfolding stmt_lexemes stmt_end
  evaluated_at e z J h =
      let Γ = scope_of s N.held in
      let c = h.ready.code in
      let r : drop_end (leaves_nothing e Γ) (expr_end e Γ (length c)) ≤ code_limit = h.ready.room in
      let g : expr_end e Γ (length c) ≤ drop_end (leaves_nothing e Γ) (expr_end e Γ (length c)) = drop_grows (leaves_nothing e Γ) (expr_end e Γ (length c)) in
      before_semicolon s ts at at z (work N J C) e _ h.rest _ h.ready h.proper h.ready.stands (omega arith)

  pub evaluated_fails : (f : Refusal) → TranslatesWhole s ts at N C D (Err f) → TranslatesEvaluation s ts at N C D (Err f)
  unfolding check_stmt evaluated_at
  evaluated_fails f g e z J l h = then_stops (check_whole e (scope_of s N.held)) _ _ _ (g e z h.rest (evaluated_at e z J h) refl)

  module _ (w : Called) (q : ℕ) (g : TranslatesWhole s ts at N C D (Ok w)) (n : w.end < length ts → q ≡ w.end + 1) where
    -- whatever becomes of the value
    evaluated_with : (v : Bool) (E : Held Instruction) → ((e : Expr) (Γ : Scope) → leaves_nothing e Γ ≡ is_none w.gives → leaves_nothing e Γ ≡ v) →
        ((e : Expr) (z : ℕ) (c : List Instruction) (r : List Lexeme) → drop w.end (lexemes s ts) ≡ sign K.Semicolon z ∷ r → D ≡ coded (c ++ expr_code e (scope_of s N.held) (length c)) →
        drop_end v (expr_end e (scope_of s N.held) (length c)) ≤ code_limit → Placed z → E ≡ coded (c ++ (expr_code e (scope_of s N.held) (length c) ++ drop_code v z))) → TranslatesEvaluation s ts at N C E (Ok q)
    unfolding stmt_lexemes stmt_end stmt_code check_stmt evaluated_at
    evaluated_with v E same f e z J l h =
        let Γ = scope_of s N.held in
        let c = h.ready.code in
        let d = g e z h.rest (evaluated_at e z J h) refl in
        let b : leaves_nothing e Γ ≡ v = same e Γ d.3 in
        let r : drop_end (leaves_nothing e Γ) (expr_end e Γ (length c)) ≤ code_limit = h.ready.room in
        let em : E ≡ coded (c ++ (expr_code e Γ (length c) ++ drop_code (leaves_nothing e Γ) z)) =
        rw b (f e z c h.rest d.1 d.2 (rw b at r) (placed_at (lexemes s ts) w.end _ _ h.ready.placed d.1)) in
        let more = expr_more e (sign K.Semicolon z ∷ h.rest) in
        (then-goes (check_whole e Γ) _ tt d.0, worked_same s ts q N J C E _ h.rest c _ (on_by s ts w.end q _ _ n d.1) (omega arith) em)

    pub evaluated_drops : (t : Token) (E : Held Instruction) → (w.end < length ts → slice_get ts w.end ≡ Some t) → is_some w.gives ≡ true → Emits D 3 0 t.place E → TranslatesEvaluation s ts at N C E (Ok q)
    evaluated_drops t E m b f =
        evaluated_with false E (λ e Γ y. y ∙ ap not b)
        (λ e z c r st d k pl. emit_after D E c e (scope_of s N.held) 3 0 z (rw (place_is s ts w.end t _ _ m st) at f) d k (omega arith) pl)

    pub evaluated_leaves : is_some w.gives ≡ false → TranslatesEvaluation s ts at N C D (Ok q)
    evaluated_leaves b =
        evaluated_with true D (λ e Γ y. y ∙ ap not b)
        (λ e z c r st d k pl. d ∙ ap (λ (X : List Instruction). coded (c ++ X)) (sym (append-nil (expr_code e (scope_of s N.held) (length c)))))

-- TYPE NAME = e ;
module _ (s : List ℕ) (ts : List Token) (at a b : ℕ) (k n : Token) (t : Scalar) (N : Held Name) (C D : Held Instruction)
    (mk : at < length ts → slice_get ts at ≡ Some k) (sc : ScalarOf k.kind t) (mn : at + 1 < length ts → slice_get ts (at + 1) ≡ Some n)
    (na : at + 1 < length ts → a ≡ at + 1 + 1) (nb : a < length ts → b ≡ a + 1) where
  defined-at : (u : Scalar) (q : ℕ × ℕ × ℕ) (x : Ident) (e : Expr) (J : Held Jump) (h : StmtAt s ts at (work N J C) (define u q x e)) → ExprAt 6 s ts b (scope_of s N.held) C e
  unfolding stmt_lexemes stmt_end
  defined-at u q x e J h =
      let r : expr_end e (scope_of s N.held) (length h.ready.code) + 1 ≤ code_limit = h.ready.room in
      before_semicolon s ts at b q.2 (work N J C) e _ h.rest _ h.ready h.proper
      (on_by s ts a b _ _ nb (on_by s ts (at + 1) a _ _ na (next_is (lexemes s ts) at _ _ h.ready.stands))) (omega arith)

  -- the type, and the name's place
  type_is : (u : Scalar) (q : ℕ × ℕ × ℕ) (x : Ident) (e : Expr) (J : Held Jump) (h : StmtAt s ts at (work N J C) (define u q x e)) → (t ≡ u) × (n.place ≡ x.place)
  unfolding stmt_lexemes
  type_is u q x e J h =
      (sc u (kind_is s ts at k _ _ mk h.ready.stands), place_is s ts (at + 1) n _ _ mn (next_is (lexemes s ts) at _ _ h.ready.stands))

  pub defined_unfit : (f : Refusal) → TranslatesNeeded s ts b t n.place N C D (Err f) → TranslatesDefinition s ts at N C N D (Err f)
  unfolding check_stmt defined-at
  defined_unfit f g u q x e J l h =
      let i = type_is u q x e J h in then_stops (needs_type e (scope_of s N.held) u x.place) _ _ _ (rw (i.0, i.1) at (g e (defined-at u q x e J h)))

  module _ (end : ℕ) (g : TranslatesNeeded s ts b t n.place N C D (Ok end)) where
    pub defined_twice : (f : Refusal) (M : Held Name) → Defines s ts (at + 1) t N M (Err f) → TranslatesDefinition s ts at N C M D (Err f)
    unfolding stmt_lexemes check_stmt defined-at
    defined_twice f M d u q x e J l h =
        let Γ = scope_of s N.held in
        let i = type_is u q x e J h in
        let j = g e (defined-at u q x e J h) in
        let o = d x _ (next_is (lexemes s ts) at _ _ h.ready.stands) in
        then-goes (needs_type e Γ u x.place) _ tt (rw (i.0, i.1) at j.0) ∙ rw i.0 at o

    pub defined-done : (cell z : ℕ) (M : Held Name) (E : Held Instruction) → Defines s ts (at + 1) t N M (Ok tt) → cell ≡ cells (scope_of s N.held) → Emits D 2 cell n.place E →
        (end < length ts → z ≡ end + 1) → TranslatesDefinition s ts at N C M E (Ok z)
    unfolding stmt_lexemes stmt_end stmt_code check_stmt defined-at
    defined-done cell z M E d ce f o u q x e J l h =
        let Γ = scope_of s N.held in
        let c = h.ready.code in
        let i = type_is u q x e J h in
        let j = g e (defined-at u q x e J h) in
        let st = next_is (lexemes s ts) at _ _ h.ready.stands in
        let p = d x _ st in
        let more = expr_more e (sign K.Semicolon q.2 ∷ h.rest) in
        let en = h.ready.entries in
        let few = h.ready.few in
        let y = p.1 (omega arith) in
        let r : expr_end e Γ (length c) + 1 ≤ code_limit = h.ready.room in
        let pl : Placed x.place = placed_at (lexemes s ts) (at + 1) _ _ h.ready.placed st in
        let em : E ≡ coded (c ++ (expr_code e Γ (length c) ++ (ins 2 (pos (cells Γ)) x.place ∷ []))) =
        emit_after D E c e Γ 2 (cells Γ) x.place (rw (ce, i.1) at f) j.2 r (omega arith) pl in
        let held : M.held ≡ N.held ++ (y.0 ∷ []) = ap (λ (H : Held Name). H.held) y.1 in
        let long = length-append N.held (y.0 ∷ []) in
        let sco : scope_of s M.held ≡ Scopes.variable x.bytes t ∷ Γ = ap (scope_of s) held ∙ stacked_more s N.held y.0 [] ∙ ap (λ (w : Scopes.Entry Scalar). w ∷ Γ) y.2 in (
          then-goes (needs_type e Γ u x.place) _ tt (rw (i.0, i.1) at j.0) ∙ rw i.0 at (p.0 ∙ ap accepted (sym sco)),
          worked_plain s ts z N M J C E _ h.rest c _ (on_by s ts end z _ _ o j.1) (ap (take (length N.held)) held ∙ take-append_seam N.held (y.0 ∷ []))
              (ap (λ (H : Held Name). H.most) y.1) (rw held (omega arith)) (omega arith) em,
        )

-- return e ; and return ;
module _ (s : List ℕ) (ts : List Token) (at : ℕ) (k : Token) (N : Held Name) (C : Held Instruction) (m : at < length ts → slice_get ts at ≡ Some k) where
  returned-at : (p : ℕ) (e : Expr) (z : ℕ) (J : Held Jump) (h : StmtAt s ts at (work N J C) (return p e z)) → ExprAt 6 s ts (at + 1) (scope_of s N.held) C e
  unfolding stmt_lexemes stmt_end
  returned-at p e z J h =
      let r : expr_end e (scope_of s N.held) (length h.ready.code) + 1 ≤ code_limit = h.ready.room in
      before_semicolon s ts at (at + 1) z (work N J C) e _ h.rest _ h.ready h.proper (next_is (lexemes s ts) at _ _ h.ready.stands) (omega arith)

  pub returned-bare : true ≡ is_kind (seen ts (at + 1)) K.Semicolon → TranslatesReturn s ts at N C C (Err (mismatch k.place))
  unfolding stmt_lexemes check_stmt
  returned-bare b = (
    (λ p e z J l h. let u = not_semicolon s ts (at + 1) e _ (next_is (lexemes s ts) at _ _ h.ready.stands) in let z : ◌≡◌ {A = ℕ} 0 1 = cc in absurd (omega arith)),
    (λ p z J l h. ap (refused 15) (sym (place_is s ts at k _ _ m h.ready.stands))),
  )

  module _ (b : false ≡ is_kind (seen ts (at + 1)) K.Semicolon) (D : Held Instruction) where
    not_bare : {X : Type 0} (p z : ℕ) (J : Held Jump) → StmtAt s ts at (work N J C) (return_bare p z) → X
    unfolding stmt_lexemes
    not_bare p z J h =
        let u = ap (λ (y : Option Kind). is_kind y K.Semicolon) (seen-sign s ts (at + 1) K.Semicolon z _ (next_is (lexemes s ts) at _ _ h.ready.stands)) in
        let z : ◌≡◌ {A = ℕ} 0 1 = cc in absurd (omega arith)

    pub returned_fails : (f : Refusal) → TranslatesNeeded s ts (at + 1) int k.place N C D (Err f) → TranslatesReturn s ts at N C D (Err f)
    unfolding stmt_lexemes check_stmt returned-at
    returned_fails f g = (
      (λ p e z J l h.
          let w : k.place ≡ p = place_is s ts at k _ _ m h.ready.stands in
          then_stops (needs_type e (scope_of s N.held) int p) _ _ _ (rw w at (g e (returned-at p e z J h)))),
      (λ p z J l h. not_bare p z J h),
    )

    pub returned-done : (end q : ℕ) (E : Held Instruction) → TranslatesNeeded s ts (at + 1) int k.place N C D (Ok end) → Emits D 21 0 k.place E → (end < length ts → q ≡ end + 1) →
        TranslatesReturn s ts at N C E (Ok q)
    unfolding stmt_lexemes stmt_end stmt_code check_stmt returned-at
    returned-done end q E g f o = (
      (λ p e z J l h.
          let Γ = scope_of s N.held in
          let c = h.ready.code in
          let w : k.place ≡ p = place_is s ts at k _ _ m h.ready.stands in
          let j = g e (returned-at p e z J h) in
          let r : expr_end e Γ (length c) + 1 ≤ code_limit = h.ready.room in
          let pl : Placed p = placed_at (lexemes s ts) at _ _ h.ready.placed h.ready.stands in
          let more = expr_more e (sign K.Semicolon z ∷ h.rest) in
          let em = emit_after D E c e Γ 21 0 p (rw w at f) j.2 r (omega arith) pl in
          (then-goes (needs_type e Γ int p) _ tt (rw w at j.0), worked_same s ts q N J C E _ h.rest c _ (on_by s ts end q _ _ o j.1) (omega arith) em)),
      (λ p z J l h. not_bare p z J h),
    )
