-- Whole expression statements: a call alone may give nothing, any other expression has a value.
use Rattle.std.proofs.Common.{◌≡◌, ℕ, ◌+◌, ◌≤◌, Bool, true, false, not, ◌&&◌, ◌⊎◌, List, ◌∷◌, length, drop, is_some, Some, None, Ok, Option, sym, refl, ap, ◌∙◌, subst, inl, inr, ⊎_elim, arith}
use Rattle.refusal.specs.Told.{Told, accepted, refused}
use Rattle.stacks.specs.Held.{Held}
use Rattle.std.specs.List.{slice_get}
use Rattle.lexer.specs.Lexeme.{Lexeme}
use Rattle.lexer.specs.Reading.{lexemes}
use Rattle.lexer.specs.declared.kind.Kind.{Kind}
use Rattle.lexer.specs.declared.kind.Kind.TheVariants as K
use Rattle.lexer.specs.declared.kind.Token.{Token}
use Rattle.lookahead.specs.Seen.{seen, is_kind, start_of}
use Rattle.lookahead.specs.declared.class.Start.TheVariants as S
use Rattle.meaning.specs.declared.operator.Scalar.{Scalar}
use Rattle.meaning.specs.declared.operator.Operator.{Operator}
use Rattle.meaning.specs.declared.operator.Operator.TheVariants as O
use Rattle.meaning.specs.Trees.{Ident, Expr, constant, variable, call, bracket, unary, binary, Args, Return, void, gives}
use Rattle.meaning.specs.Written.{sign, ident, binary_kind, expr_lexemes}
use Rattle.meaning.specs.Scopes.{zone, columns, rows, report, main, Meant, absent, a_variable, a_function, lookup}
use Rattle.meaning.specs.Types.{signature, same_types}
use Rattle.meaning.specs.Check.{Scope, then, needs, as_callee, called, type_of, arg_types, check_whole}
use Rattle.machine.specs.declared.instruction.Instruction.{Instruction}
use Rattle.layout.proofs.Compiled.{expr_end, gives_nothing, leaves_nothing}
use Rattle.translator.specs.declared.typed.Called.{Called}
use Rattle.translator.specs.declared.typed.Typed.{Typed}
use Rattle.translator.specs.Translation.{code_limit}
use Rattle.translator.specs.Look.{call_seen}
use Rattle.translator.specs.Names.{return_of}
use Rattle.translator.specs.Expressions.{ExprAt, ExprDone, CallDone, TailsAt, WholeDone, first_of, after_first}
use Rattle.translator.proofs.Lexemes.{seen-sign, seen-ident, next_is}
use Rattle.translator.proofs.Arguments.{kind_found}
use Rattle.translator.proofs.Tails.{first_at, first_fault}
use Rattle.translator.proofs.Operands.{start_is, never_binary, variable_alone}
use Rattle.translator.proofs.Calls.{call-fault, call_void, call_gives, call_place}

-- An expression that has to have a value, as a whole statement.
pub record Valued (e : Expr) : Type 0 where
  pub checks : (Γ : Scope) → check_whole e Γ ≡ then (type_of e Γ) (λ _. accepted tt)
  pub leaves : (Γ : Scope) → leaves_nothing e Γ ≡ false

pub valued_fine : (e : Expr) (Γ : Scope) (t : Scalar) → Valued e → type_of e Γ ≡ accepted t → check_whole e Γ ≡ accepted tt
unfolding then
valued_fine e Γ t v h = v.checks Γ ∙ rw h refl

pub valued_fault : (e : Expr) (Γ : Scope) (n p : ℕ) → Valued e → type_of e Γ ≡ refused n p → check_whole e Γ ≡ refused n p
unfolding then
valued_fault e Γ n p v h = v.checks Γ ∙ rw h refl

-- A whole expression is a call, or has to have a value.
pub whole_is : (e : Expr) → ((x : Ident) × (q : ℕ × ℕ) × (xs : Args) × (e ≡ call x q xs)) ⊎ Valued e
unfolding check_whole then type_of
whole_is (constant c) = inr (record { checks = λ Γ. refl; leaves = λ Γ. refl })
whole_is (variable x) = inr (record { checks = λ Γ. refl; leaves = λ Γ. refl })
whole_is (call x q xs) = inl (x, q, xs, refl)
whole_is (bracket q e) = inr (record { checks = λ Γ. refl; leaves = λ Γ. refl })
whole_is (unary u p e) = inr (record { checks = λ Γ. refl; leaves = λ Γ. refl })
whole_is (binary o p a b) = inr (record { checks = λ Γ. refl; leaves = λ Γ. refl })

-- where no call stands, the expression is none
module _ (s : List ℕ) (ts : List Token) (at : ℕ) (Γ : Scope) (C : Held Instruction) where
  call-seen : (x : Ident) (q : ℕ × ℕ) (xs : Args) (h : ExprAt 6 s ts at Γ C (call x q xs)) → call_seen ts at ≡ true
  unfolding expr_lexemes
  call-seen x q xs h =
      let a = seen-ident s ts at x _ h.stands in
      let b = seen-sign s ts (at + 1) K.OpenParen q.0 _ (next_is (lexemes s ts) at (ident x) _ h.stands) in
      rw (a, b) refl

  pub no_call : call_seen ts at ≡ false → (e : Expr) (h : ExprAt 6 s ts at Γ C e) → Valued e
  no_call z e h = ⊎_elim (λ c. absurd (never_call c.0 c.1 c.2 (subst (λ (g : Expr). ExprAt 6 s ts at Γ C g) c.3 h))) (λ v. v) (whole_is e)
    where
      never_call : (x : Ident) (q : ℕ × ℕ) (xs : Args) → ExprAt 6 s ts at Γ C (call x q xs) → ⊥
      never_call x q xs k = let b : true ≡ false = sym (call-seen x q xs k) ∙ z in let w : ◌≡◌ {A = ℕ} 0 1 = cc in omega arith

  pub value-done : call_seen ts at ≡ false → (e : Expr) (h : ExprAt 6 s ts at Γ C e) (D : Held Instruction) (t : Typed) → ExprDone s ts Γ D e h.rest h.code (Ok t) →
      WholeDone s ts Γ D e h.rest h.code (Ok (record { gives = Some t.kind; end = t.end }))
  value-done z e h D t d = let v = no_call z e h in (valued_fine e Γ t.kind v d.0, d.1, d.2, v.leaves Γ)

-- After the leftmost operand comes nothing more, or an operator.

pub record Longer (e : Expr) : Type 0 where
  pub valued : Valued e
  pub goes_on : (r : List Lexeme) → (o : Operator) × (p : ℕ) × (l : List Lexeme) × (after_first e r ≡ sign (binary_kind o) p ∷ l)

pub record Alone (e : Expr) : Type 0 where
  pub first : first_of e ≡ e
  pub nothing_more : (r : List Lexeme) → after_first e r ≡ r

pub alone_or_longer : (e : Expr) → Alone e ⊎ Longer e
unfolding first_of after_first check_whole then
alone_or_longer (constant c) = inl (record { first = refl; nothing_more = λ r. refl })
alone_or_longer (variable x) = inl (record { first = refl; nothing_more = λ r. refl })
alone_or_longer (call x q xs) = inl (record { first = refl; nothing_more = λ r. refl })
alone_or_longer (bracket q e) = inl (record { first = refl; nothing_more = λ r. refl })
alone_or_longer (unary u p e) = inl (record { first = refl; nothing_more = λ r. refl })
alone_or_longer (binary o p a b) =
    inr (record {
      valued = record { checks = λ Γ. refl; leaves = λ Γ. refl };
      goes_on = λ r. ⊎_elim
          (λ i. (o, p, expr_lexemes b r, i.nothing_more (sign (binary_kind o) p ∷ expr_lexemes b r)))
          (λ i. i.goes_on (sign (binary_kind o) p ∷ expr_lexemes b r)) (alone_or_longer a);
    })

no_semicolon : (o : Operator) → is_kind (Some (binary_kind o)) K.Semicolon ≡ false
no_semicolon O.Add = refl
no_semicolon O.Subtract = refl
no_semicolon O.Multiply = refl
no_semicolon O.Divide = refl
no_semicolon O.Remainder = refl
no_semicolon O.Less = refl
no_semicolon O.LessEqual = refl
no_semicolon O.Greater = refl
no_semicolon O.GreaterEqual = refl
no_semicolon O.Equal = refl
no_semicolon O.NotEqual = refl
no_semicolon O.And = refl
no_semicolon O.Or = refl

-- what a call gives, and what it leaves

abbrev is_void : Return → Bool
is_void void = true
is_void (gives t) = false

void_is : (g : Option Scalar) → is_void (return_of g) ≡ not (is_some g)
void_is None = refl
void_is (Some t) = refl

by_test : (b : Bool) (p : ℕ) (x r : Return) → then (needs b 15 p) (λ _. accepted x) ≡ accepted r → is_void x ≡ is_void r
unfolding then needs
by_test true p x r h = let e : x ≡ r = cc in ap is_void e
by_test false p x r h = let w : ◌≡◌ {A = ℕ} 0 1 = cc in absurd (omega arith)

both_true : (a b : Bool) → (a && b) ≡ true → (a ≡ true) × (b ≡ true)
both_true true true h = (refl, refl)
both_true true false h = let w : ◌≡◌ {A = ℕ} 0 1 = cc in absurd (omega arith)
both_true false b h = let w : ◌≡◌ {A = ℕ} 0 1 = cc in absurd (omega arith)

-- a function that was called leaves what its result says
leaves_by : (m : Meant Scalar) (p : ℕ) (given : Told (List Scalar)) (r : Return) →
    then (as_callee m p) (λ f. then given (λ ts. then (needs (same_types ts (signature f).parameters) 15 p) (λ _. accepted (signature f).result))) ≡ accepted r → gives_nothing m ≡ is_void r
unfolding then as_callee
leaves_by absent p given r h = let w : ◌≡◌ {A = ℕ} 0 1 = cc in absurd (omega arith)
leaves_by (a_variable t) p given r h = let w : ◌≡◌ {A = ℕ} 0 1 = cc in absurd (omega arith)
leaves_by (a_function main) p given r h = let w : ◌≡◌ {A = ℕ} 0 1 = cc in absurd (omega arith)
leaves_by (a_function zone) p (refused n q) r h = let w : ◌≡◌ {A = ℕ} 0 1 = cc in absurd (omega arith)
leaves_by (a_function zone) p (accepted us) r h = by_test (same_types us (signature zone).parameters) p (signature zone).result r h
leaves_by (a_function columns) p (refused n q) r h = let w : ◌≡◌ {A = ℕ} 0 1 = cc in absurd (omega arith)
leaves_by (a_function columns) p (accepted us) r h = by_test (same_types us (signature columns).parameters) p (signature columns).result r h
leaves_by (a_function rows) p (refused n q) r h = let w : ◌≡◌ {A = ℕ} 0 1 = cc in absurd (omega arith)
leaves_by (a_function rows) p (accepted us) r h = by_test (same_types us (signature rows).parameters) p (signature rows).result r h
leaves_by (a_function report) p (refused n q) r h = let w : ◌≡◌ {A = ℕ} 0 1 = cc in absurd (omega arith)
leaves_by (a_function report) p (accepted us) r h = by_test (same_types us (signature report).parameters) p (signature report).result r h

pub call_leaves : (x : Ident) (q : ℕ × ℕ) (xs : Args) (Γ : Scope) (g : Option Scalar) → called Γ x (arg_types xs Γ) ≡ accepted (return_of g) → leaves_nothing (call x q xs) Γ ≡ not (is_some g)
unfolding called
call_leaves x q xs Γ g h = leaves_by (lookup x.bytes Γ) x.place (arg_types xs Γ) (return_of g) h ∙ void_is g

pub call_fine : (x : Ident) (q : ℕ × ℕ) (xs : Args) (Γ : Scope) (r : Return) → called Γ x (arg_types xs Γ) ≡ accepted r → check_whole (call x q xs) Γ ≡ accepted tt
unfolding check_whole then
call_fine x q xs Γ r h = rw h refl

pub call_refused : (x : Ident) (q : ℕ × ℕ) (xs : Args) (Γ : Scope) (n p : ℕ) → called Γ x (arg_types xs Γ) ≡ refused n p → check_whole (call x q xs) Γ ≡ refused n p
unfolding check_whole then
call_refused x q xs Γ n p h = rw h refl

-- An expression that begins with a call.

module _ (s : List ℕ) (ts : List Token) (at : ℕ) (Γ : Scope) (C : Held Instruction) (seen-call : call_seen ts at ≡ true) where
  name-seen : (Some S.Name) ≡ start_of (seen ts at)
  name-seen = sym (ap start_of (kind_found (seen ts at) K.Name (both_true _ _ seen-call).0))

  -- the operand there is a call
  the_call : (g : Expr) → ExprAt 0 s ts at Γ C g → (x : Ident) × (q : ℕ × ℕ) × (xs : Args) × (g ≡ call x q xs)
  the_call (constant c) h = let f = name-seen ∙ start_is s ts at (constant c) h.rest h.grouped h.stands in let w : ◌≡◌ {A = ℕ} 0 1 = cc in absurd (omega arith)
  the_call (variable x) h = let e : true ≡ false = sym (both_true _ _ seen-call).1 ∙ variable_alone s ts at Γ C x h in let w : ◌≡◌ {A = ℕ} 0 1 = cc in absurd (omega arith)
  the_call (call x q xs) h = (x, q, xs, refl)
  the_call (bracket q e) h = let f = name-seen ∙ start_is s ts at (bracket q e) h.rest h.grouped h.stands in let w : ◌≡◌ {A = ℕ} 0 1 = cc in absurd (omega arith)
  the_call (unary u p e) h = let f = name-seen ∙ start_is s ts at (unary u p e) h.rest h.grouped h.stands in let w : ◌≡◌ {A = ℕ} 0 1 = cc in absurd (omega arith)
  the_call (binary o p a b) h = never_binary o 0 p a b h.grouped

  module _ (e : Expr) (h : ExprAt 6 s ts at Γ C e) where
    -- the call that it begins with
    pub record Begun : Type 0 where
      pub name : Ident
      pub round : ℕ × ℕ
      pub list : Args
      pub first : first_of e ≡ call name round list
      pub there : ExprAt 0 s ts at Γ C (call name round list)
      pub rests : there.rest ≡ after_first e h.rest
      pub codes : there.code ≡ h.code

    begun_by : (g : Expr) → first_of e ≡ g → (k : ExprAt 0 s ts at Γ C g) → k.rest ≡ after_first e h.rest → k.code ≡ h.code → Begun
    begun_by g i k u v =
        let c = the_call g k in
        make c.0 c.1 c.2 g c.3 i k u v
      where
        make : (x : Ident) (q : ℕ × ℕ) (xs : Args) (f : Expr) → f ≡ call x q xs → first_of e ≡ f → (j : ExprAt 0 s ts at Γ C f) → j.rest ≡ after_first e h.rest → j.code ≡ h.code → Begun
        make x q xs f n m j a b =
            record {
              name = x;
              round = q;
              list = xs;
              first = m ∙ n;
              rests = a;
              codes = b;
              there = record {
                rest = j.rest;
                code = j.code;
                placed = j.placed;
                few = j.few;
                grouped = rw n at j.grouped;
                ends = rw n at j.ends;
                stands = j.stands ∙ ap (λ (y : Expr). expr_lexemes y j.rest) n;
                begun = j.begun;
                room = subst (λ (y : Expr). expr_end y Γ (length j.code) ≤ code_limit) n j.room;
              };
            }

    pub begun : Begun
    begun = let k = first_at 6 s ts at Γ C e h in begun_by (first_of e) refl k refl refl

    -- a fault of the call is the whole's
    pub begun-fault : (n p : ℕ) (b : Begun) → called Γ b.name (arg_types b.list Γ) ≡ refused n p → check_whole e Γ ≡ refused n p
    begun-fault n p b f =
        let t = first_fault e Γ n p (ap (λ (y : Expr). type_of y Γ) b.first ∙ call-fault b.name b.round b.list Γ n p f) in
        ⊎_elim
        (λ a. ap (λ (y : Expr). check_whole y Γ) (sym a.first ∙ b.first) ∙ call_refused b.name b.round b.list Γ n p f)
        (λ l. valued_fault e Γ n p l.valued t) (alone_or_longer e)

    module _ (p : ℕ) (ls : List Lexeme) (semicolon : h.rest ≡ sign K.Semicolon p ∷ ls) (b : Begun) (D : Held Instruction) (c : Called) (d : CallDone s ts Γ D b.name b.round b.list b.there.rest b.there.code (Ok c)) where
      -- a semicolon follows: the call is the whole
      pub call_alone : is_kind (seen ts c.end) K.Semicolon ≡ true → WholeDone s ts Γ D e h.rest h.code (Ok c)
      call_alone z = ⊎_elim
          (λ a.
          let i : e ≡ call b.name b.round b.list = sym a.first ∙ b.first in (
            ap (λ (y : Expr). check_whole y Γ) i ∙ call_fine b.name b.round b.list Γ _ d.0,
            d.1 ∙ b.rests ∙ a.nothing_more h.rest,
            d.2 ∙ rw (b.codes, i) refl,
            ap (λ (y : Expr). leaves_nothing y Γ) i ∙ call_leaves b.name b.round b.list Γ c.gives d.0,
          ))
          (λ l. absurd (clash (l.goes_on h.rest))) (alone_or_longer e)
        where
          clash : (o : Operator) × (q : ℕ) × (m : List Lexeme) × (after_first e h.rest ≡ sign (binary_kind o) q ∷ m) → ⊥
          clash g =
              let k = seen-sign s ts c.end (binary_kind g.0) g.1 g.2 (d.1 ∙ b.rests ∙ g.3) in
              let y : true ≡ false = sym z ∙ ap (λ (v : Option Kind). is_kind v K.Semicolon) k ∙ no_semicolon g.0 in let w : ◌≡◌ {A = ℕ} 0 1 = cc in omega arith

      -- none follows: the call is an operand
      pub call_longer : is_kind (seen ts c.end) K.Semicolon ≡ false → Longer e
      call_longer z = ⊎_elim (λ a. absurd (clash a)) (λ l. l) (alone_or_longer e)
        where
          clash : Alone e → ⊥
          clash a =
              let k = seen-sign s ts c.end K.Semicolon p ls (d.1 ∙ b.rests ∙ a.nothing_more h.rest ∙ semicolon) in
              let y : true ≡ false = ap (λ (v : Option Kind). is_kind v K.Semicolon) (sym k) ∙ z in let w : ◌≡◌ {A = ℕ} 0 1 = cc in omega arith

      pub operand_void : is_kind (seen ts c.end) K.Semicolon ≡ false → c.gives ≡ None → (t : Token) → slice_get ts at ≡ Some t → check_whole e Γ ≡ refused 15 t.place
      operand_void z n t k =
          let f = call_void b.name b.round b.list Γ (d.0 ∙ rw n refl) in
          let g = first_fault e Γ _ _ (ap (λ (y : Expr). type_of y Γ) b.first ∙ f) in
          valued_fault e Γ _ _ (call_longer z).valued g ∙ ap (refused 15) (sym (call_place s ts at Γ C b.name b.round b.list b.there t k))

      abbrev pub operand_tails : (f : Typed) → c ≡ record { gives = Some f.kind; end = f.end } → TailsAt 6 s ts f Γ D e
      operand_tails f n =
          record {
            rest = h.rest;
            code = h.code;
            placed = h.placed;
            few = h.few;
            grouped = h.grouped;
            ends = h.ends;
            stands = ap (λ (k : Called). drop k.end (lexemes s ts)) (sym n) ∙ d.1 ∙ b.rests;
            typed = ap (λ (y : Expr). type_of y Γ) b.first ∙ call_gives b.name b.round b.list Γ f.kind (d.0 ∙ ap (λ (k : Called). accepted (return_of k.gives)) n);
            begun = d.2 ∙ rw (b.codes, b.first) refl;
            room = h.room;
          }
