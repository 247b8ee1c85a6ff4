-- Operands: which tree stands where code sees a token, and what becomes of it.
use Rattle.std.proofs.Common.{◌≡◌, ℕ, suc, ◌+◌, ◌<◌, ◌≤◌, true, false, cond, ◌⊎◌, List, [], ◌∷◌, ◌++◌, length, drop, pos, Some, None, Ok, Err, Option, Result, sym, refl, ap, ◌∙◌, inl, inr, append_assoc, arith, length-append}
use Rattle.refusal.specs.Told.{Told, accepted, refused, number_of}
use Rattle.refusal.specs.declared.reason.Refusal.{Refusal}
use Rattle.stacks.specs.Held.{Held}
use Rattle.std.specs.List.{slice_get}
use Rattle.lexer.specs.Lexeme.{Lexeme}
use Rattle.lexer.specs.Reading.{lexemes}
use Rattle.lexer.specs.declared.kind.Kind.{Kind}
use Rattle.lexer.specs.declared.kind.Kind.TheVariants as K
use Rattle.lexer.specs.declared.kind.Token.{Token}
use Rattle.lookahead.specs.declared.class.Start.{Start}
use Rattle.lookahead.specs.declared.class.Start.TheVariants as S
use Rattle.lookahead.specs.Seen.{seen, is_kind, start_of}
use Rattle.meaning.specs.declared.operator.Scalar.{Scalar}
use Rattle.meaning.specs.declared.operator.Scalar.TheVariants.{Char as char, Int as int}
use Rattle.meaning.specs.declared.operator.Operator.TheVariants.{Subtract}
use Rattle.meaning.specs.Trees.{Ident, Constant, number, character, truth, Unary, negate, invert, Expr, constant, variable, call, bracket, unary, binary, Args}
use Rattle.meaning.specs.Written.{sign, ident, literal, unary_kind, expr_lexemes}
use Rattle.meaning.specs.Grammar.{Grouped}
use Rattle.meaning.specs.Scopes.{Names, level, stop, function, a_variable, lookup, cells, same_name}
use Rattle.meaning.specs.Scopes
use Rattle.meaning.specs.Types.{unary_result}
use Rattle.meaning.specs.Values.{constant_value}
use Rattle.meaning.specs.Check.{Scope, then, there, as_variable, type_of}
use Rattle.meaning.proofs.Tokens.{next, OpenParen}
use Rattle.meaning.proofs.Stack.{is_word}
use Rattle.meaning.proofs.Spine.{looseness_positive, loose_positive}
use Rattle.parser.proofs.Expect.{word_at}
use Rattle.machine.specs.declared.instruction.Instruction.{Instruction}
use Rattle.layout.proofs.Compiled.{ins, held, cell_of, is_char, low, codes_of, past, expr_end, expr_code, literal_code}
use Rattle.layout.proofs.Ends.{past_grows, expr_grows}
use Rattle.translator.specs.declared.look.Literal.{Literal}
use Rattle.translator.specs.declared.name.Variable.{Variable as Used}
use Rattle.translator.specs.declared.typed.Typed.{Typed}
use Rattle.translator.specs.Translation.{code_limit}
use Rattle.translator.specs.Code.{Placed, coded, Emits, Pushes}
use Rattle.translator.specs.Look.{LiteralOf}
use Rattle.translator.specs.Names.{VariableIs}
use Rattle.translator.specs.Expressions.{ExprAt, ExprDone, Operates}
use Rattle.translator.proofs.Lexemes.{inside, token_is, next_is, seen-sign, seen-ident, seen-literal}
use Rattle.translator.proofs.Emitting.{code-length}
use Rattle.translator.proofs.Joining.{place_is, placed_at}

-- How an operand begins.

abbrev pub start_by : Expr → Option Start
start_by (constant c) = Some S.Constant
start_by (variable x) = Some S.Name
start_by (call x q xs) = Some S.Name
start_by (bracket q e) = Some S.Bracket
start_by (unary u p e) = Some S.Prefix
start_by (binary o p a b) = None

literal-start : (c : Constant) → start_of (Some (literal c).kind) ≡ Some S.Constant
literal-start (number v p) = refl
literal-start (character v p) = refl
literal-start (truth true p) = refl
literal-start (truth false p) = refl

unary_start : (u : Unary) → start_of (Some (unary_kind u)) ≡ Some S.Prefix
unary_start negate = refl
unary_start invert = refl

pub start_is : (s : List ℕ) (ts : List Token) (at : ℕ) (e : Expr) (r : List Lexeme) → Grouped e 0 → drop at (lexemes s ts) ≡ expr_lexemes e r → start_of (seen ts at) ≡ start_by e
unfolding expr_lexemes
start_is s ts at (constant c) r g h = ap start_of (seen-literal s ts at c r h) ∙ literal-start c
start_is s ts at (variable x) r g h = ap start_of (seen-ident s ts at x r h)
start_is s ts at (call x q xs) r g h = ap start_of (seen-ident s ts at x _ h)
start_is s ts at (bracket q e) r g h = ap start_of (seen-sign s ts at K.OpenParen q.0 _ h)
start_is s ts at (unary u p e) r g h = ap start_of (seen-sign s ts at (unary_kind u) p _ h) ∙ unary_start u
start_is s ts at (binary o p a b) r g h = let l = looseness_positive o in let z = g.0 in absurd (omega arith)

-- an operand begins somehow
pub never_starts : (e : Expr) → Grouped e 0 → None ≡ start_by e → ⊥
never_starts (constant c) g z = let w : ◌≡◌ {A = ℕ} 0 1 = cc in omega arith
never_starts (variable x) g z = let w : ◌≡◌ {A = ℕ} 0 1 = cc in omega arith
never_starts (call x q xs) g z = let w : ◌≡◌ {A = ℕ} 0 1 = cc in omega arith
never_starts (bracket q e) g z = let w : ◌≡◌ {A = ℕ} 0 1 = cc in omega arith
never_starts (unary u p e) g z = let w : ◌≡◌ {A = ℕ} 0 1 = cc in omega arith
never_starts (binary o p a b) g z = let l = looseness_positive o in let h = g.0 in omega arith

-- no operand is an operator between two
pub never_binary : {X : Type 0} (o : _) (n p : ℕ) (a b : Expr) → Grouped (binary o p a b) 0 → X
never_binary o n p a b g = let l = looseness_positive o in let z = g.0 in absurd (omega arith)

module _ (s : List ℕ) (ts : List Token) (at : ℕ) (Γ : Scope) (C : Held Instruction) where
  -- a bracket follows a name exactly where it is called
  pub variable_alone : (x : Ident) (h : ExprAt 0 s ts at Γ C (variable x)) → is_kind (seen ts (at + 1)) K.OpenParen ≡ false
  unfolding expr_lexemes
  variable_alone x h =
      sym (word_at OpenParen s ts (at + 1)) ∙ ap (λ (ls : List Lexeme). is_word OpenParen (next ls)) (next_is (lexemes s ts) at (ident x) h.rest h.stands) ∙ h.ends.0 refl

  pub call_open : (x : Ident) (q : ℕ × ℕ) (xs : Args) (h : ExprAt 0 s ts at Γ C (call x q xs)) → is_kind (seen ts (at + 1)) K.OpenParen ≡ true
  unfolding expr_lexemes
  call_open x q xs h =
      ap (λ (o : Option Kind). is_kind o K.OpenParen) (seen-sign s ts (at + 1) K.OpenParen q.0 _ (next_is (lexemes s ts) at (ident x) _ h.stands))

module _ (s : List ℕ) (ts : List Token) (at : ℕ) (Γ : Scope) (C D : Held Instruction) (r : Result Typed Refusal) where
  -- what is to be shown of a tree
  abbrev pub Handled : Expr → Type 0
  Handled e = (h : ExprAt 0 s ts at Γ C e) → ExprDone s ts Γ D e h.rest h.code r

  seen_start : (x : Option Start) → x ≡ start_of (seen ts at) → (e : Expr) (h : ExprAt 0 s ts at Γ C e) → x ≡ start_by e
  seen_start x z e h = z ∙ start_is s ts at e h.rest h.grouped h.stands

  pub when_constant : (Some S.Constant) ≡ start_of (seen ts at) → ((k : Constant) → Handled (constant k)) → (e : Expr) → Handled e
  when_constant z f (constant k) h = f k h
  when_constant z f (variable x) h = let q = seen_start (Some S.Constant) z (variable x) h in let w : ◌≡◌ {A = ℕ} 0 1 = cc in absurd (omega arith)
  when_constant z f (call x p xs) h = let q = seen_start (Some S.Constant) z (call x p xs) h in let w : ◌≡◌ {A = ℕ} 0 1 = cc in absurd (omega arith)
  when_constant z f (bracket p e) h = let q = seen_start (Some S.Constant) z (bracket p e) h in let w : ◌≡◌ {A = ℕ} 0 1 = cc in absurd (omega arith)
  when_constant z f (unary u p e) h = let q = seen_start (Some S.Constant) z (unary u p e) h in let w : ◌≡◌ {A = ℕ} 0 1 = cc in absurd (omega arith)
  when_constant z f (binary o p a b) h = never_binary o 0 p a b h.grouped

  pub when_prefix : (Some S.Prefix) ≡ start_of (seen ts at) → ((u : Unary) (p : ℕ) (e : Expr) → Handled (unary u p e)) → (e : Expr) → Handled e
  when_prefix z f (constant k) h = let q = seen_start (Some S.Prefix) z (constant k) h in let w : ◌≡◌ {A = ℕ} 0 1 = cc in absurd (omega arith)
  when_prefix z f (variable x) h = let q = seen_start (Some S.Prefix) z (variable x) h in let w : ◌≡◌ {A = ℕ} 0 1 = cc in absurd (omega arith)
  when_prefix z f (call x p xs) h = let q = seen_start (Some S.Prefix) z (call x p xs) h in let w : ◌≡◌ {A = ℕ} 0 1 = cc in absurd (omega arith)
  when_prefix z f (bracket p e) h = let q = seen_start (Some S.Prefix) z (bracket p e) h in let w : ◌≡◌ {A = ℕ} 0 1 = cc in absurd (omega arith)
  when_prefix z f (unary u p e) h = f u p e h
  when_prefix z f (binary o p a b) h = never_binary o 0 p a b h.grouped

  pub when_bracket : (Some S.Bracket) ≡ start_of (seen ts at) → ((q : ℕ × ℕ) (e : Expr) → Handled (bracket q e)) → (e : Expr) → Handled e
  when_bracket z f (constant k) h = let q = seen_start (Some S.Bracket) z (constant k) h in let w : ◌≡◌ {A = ℕ} 0 1 = cc in absurd (omega arith)
  when_bracket z f (variable x) h = let q = seen_start (Some S.Bracket) z (variable x) h in let w : ◌≡◌ {A = ℕ} 0 1 = cc in absurd (omega arith)
  when_bracket z f (call x p xs) h = let q = seen_start (Some S.Bracket) z (call x p xs) h in let w : ◌≡◌ {A = ℕ} 0 1 = cc in absurd (omega arith)
  when_bracket z f (bracket p e) h = f p e h
  when_bracket z f (unary u p e) h = let q = seen_start (Some S.Bracket) z (unary u p e) h in let w : ◌≡◌ {A = ℕ} 0 1 = cc in absurd (omega arith)
  when_bracket z f (binary o p a b) h = never_binary o 0 p a b h.grouped

  pub when_nothing : None ≡ start_of (seen ts at) → (e : Expr) → Handled e
  when_nothing z e h = absurd (never_starts e h.grouped (seen_start None z e h))

  pub when_call : (Some S.Name) ≡ start_of (seen ts at) → is_kind (seen ts (at + 1)) K.OpenParen ≡ true → ((x : Ident) (q : ℕ × ℕ) (xs : Args) → Handled (call x q xs)) → (e : Expr) → Handled e
  when_call z y f (constant k) h = let q = seen_start (Some S.Name) z (constant k) h in let w : ◌≡◌ {A = ℕ} 0 1 = cc in absurd (omega arith)
  when_call z y f (variable x) h = let q : true ≡ false = sym y ∙ variable_alone s ts at Γ C x h in let w : ◌≡◌ {A = ℕ} 0 1 = cc in absurd (omega arith)
  when_call z y f (call x p xs) h = f x p xs h
  when_call z y f (bracket p e) h = let q = seen_start (Some S.Name) z (bracket p e) h in let w : ◌≡◌ {A = ℕ} 0 1 = cc in absurd (omega arith)
  when_call z y f (unary u p e) h = let q = seen_start (Some S.Name) z (unary u p e) h in let w : ◌≡◌ {A = ℕ} 0 1 = cc in absurd (omega arith)
  when_call z y f (binary o p a b) h = never_binary o 0 p a b h.grouped

  pub when_variable : (Some S.Name) ≡ start_of (seen ts at) → is_kind (seen ts (at + 1)) K.OpenParen ≡ false → ((x : Ident) → Handled (variable x)) → (e : Expr) → Handled e
  when_variable z y f (constant k) h = let q = seen_start (Some S.Name) z (constant k) h in let w : ◌≡◌ {A = ℕ} 0 1 = cc in absurd (omega arith)
  when_variable z y f (variable x) h = f x h
  when_variable z y f (call x p xs) h = let q : true ≡ false = sym (call_open s ts at Γ C x p xs h) ∙ y in let w : ◌≡◌ {A = ℕ} 0 1 = cc in absurd (omega arith)
  when_variable z y f (bracket p e) h = let q = seen_start (Some S.Name) z (bracket p e) h in let w : ◌≡◌ {A = ℕ} 0 1 = cc in absurd (omega arith)
  when_variable z y f (unary u p e) h = let q = seen_start (Some S.Name) z (unary u p e) h in let w : ◌≡◌ {A = ℕ} 0 1 = cc in absurd (omega arith)
  when_variable z y f (binary o p a b) h = never_binary o 0 p a b h.grouped

  -- a minus or a `!`
  pub when_minus : is_kind (seen ts at) K.Minus ≡ true → ((p : ℕ) (e : Expr) → Handled (unary negate p e)) → (u : Unary) (p : ℕ) (e : Expr) → Handled (unary u p e)
  unfolding expr_lexemes
  when_minus z f negate p e h = f p e h
  when_minus z f invert p e h =
      let q : true ≡ false = sym z ∙ ap (λ (o : Option Kind). is_kind o K.Minus) (seen-sign s ts at K.Not p _ h.stands) in let w : ◌≡◌ {A = ℕ} 0 1 = cc in absurd (omega arith)

  pub when_bang : is_kind (seen ts at) K.Minus ≡ false → ((p : ℕ) (e : Expr) → Handled (unary invert p e)) → (u : Unary) (p : ℕ) (e : Expr) → Handled (unary u p e)
  unfolding expr_lexemes
  when_bang z f invert p e h = f p e h
  when_bang z f negate p e h =
      let q : true ≡ false = ap (λ (o : Option Kind). is_kind o K.Minus) (sym (seen-sign s ts at K.Minus p _ h.stands)) ∙ z in let w : ◌≡◌ {A = ℕ} 0 1 = cc in absurd (omega arith)

-- The code and type of each form.

literal-code : (k : Constant) → literal_code k ≡ ins 0 (held (constant_value k)) (literal k).place
literal-code (number v p) = refl
literal-code (character v p) = refl
literal-code (truth true p) = refl
literal-code (truth false p) = refl

pub constant_done : (s : List ℕ) (ts : List Token) (at : ℕ) (Γ : Scope) (C D : Held Instruction) (k : Constant) (h : ExprAt 0 s ts at Γ C (constant k)) (t : Token) (l : Literal) (end : ℕ) → slice_get ts at ≡ Some t →
    LiteralOf t l → Pushes C l.value t.place D → end ≡ at + 1 → ExprDone s ts Γ D (constant k) h.rest h.code (Ok (record { kind = l.kind; end = end }))
unfolding type_of expr_lexemes expr_code expr_end
constant_done s ts at Γ C D k h t l end n lit f e =
    let a = token_is s ts at t (literal k) h.rest n h.stands in
    let g = lit k (ap (λ (x : Lexeme). x.kind) a) (ap (λ (x : Lexeme). x.value) a) in
    let p : t.place ≡ (literal k).place = ap (λ (x : Lexeme). x.place) a in
    let room = h.room in
    let q : Placed t.place = rw p (placed_at (lexemes s ts) at (literal k) h.rest h.placed h.stands) in (
      ap accepted (sym g.0),
      rw e (next_is (lexemes s ts) at (literal k) h.rest h.stands),
      f h.code h.begun (omega arith) q ∙ rw (g.1, p, literal-code k) refl,
    )

cell_small : (x : List ℕ) (Γ : Scope) → cell_of x Γ ≤ cells Γ
unfolding cell_of cells
cell_small x [] = omega arith
cell_small x (level ∷ Γ) = cell_small x Γ
cell_small x (Scopes.variable y t ∷ Γ) =
    elim (same_name x y) as (λ b. cond b (cells Γ) (cell_of x Γ) ≤ suc (cells Γ)) [ true ↦ omega arith | false ↦ let h = cell_small x Γ in omega arith ]
cell_small x (stop t ∷ Γ) = let h = cell_small x Γ in omega arith
cell_small x (function f ∷ Γ) = cell_small x Γ

pub variable_fault : (x : Ident) (Γ : Scope) (f : Refusal) → VariableIs Γ x.bytes x.place (Err f) → type_of (variable x) Γ ≡ refused (number_of f.reason) f.place
unfolding type_of
variable_fault x Γ f h = h

pub variable_done : (s : List ℕ) (ts : List Token) (at : ℕ) (Γ : Scope) (C D : Held Instruction) (x : Ident) (h : ExprAt 0 s ts at Γ C (variable x)) (t : Token) (v : Used) (end : ℕ) → slice_get ts at ≡ Some t →
    VariableIs Γ x.bytes x.place (Ok v) → Emits C 1 v.cell t.place D → end ≡ at + 1 → ExprDone s ts Γ D (variable x) h.rest h.code (Ok (record { kind = v.kind; end = end }))
unfolding type_of as_variable expr_lexemes expr_code expr_end
variable_done s ts at Γ C D x h t v end n g f e =
    let p : t.place ≡ x.place = place_is s ts at t (ident x) h.rest n h.stands in
    let q : Placed t.place = rw p (placed_at (lexemes s ts) at (ident x) h.rest h.placed h.stands) in
    let c = cell_small x.bytes Γ in
    let few = h.few in
    let i = g.1 in
    let room = h.room in
    (rw g.0 refl, rw e (next_is (lexemes s ts) at (ident x) h.rest h.stands), f h.code h.begun (omega arith) (omega arith) q ∙ rw (g.1, p) refl)

-- a name's lexeme stands where a variable or a call does
pub name_stands : (s : List ℕ) (ts : List Token) (at : ℕ) (Γ : Scope) (C : Held Instruction) (x : Ident) (h : ExprAt 0 s ts at Γ C (variable x)) → drop at (lexemes s ts) ≡ ident x ∷ h.rest
unfolding expr_lexemes
name_stands s ts at Γ C x h = h.stands

-- Prefix operators.

pub unary_fault : (u : Unary) (p : ℕ) (e : Expr) (Γ : Scope) (n q : ℕ) → type_of e Γ ≡ refused n q → type_of (unary u p e) Γ ≡ refused n q
unfolding type_of then
unary_fault u p e Γ n q h = rw h refl

unary_typed : (u : Unary) (p : ℕ) (e : Expr) (Γ : Scope) (t : Scalar) → type_of e Γ ≡ accepted t → type_of (unary u p e) Γ ≡ there (unary_result u t) 15 p
unfolding type_of then
unary_typed u p e Γ t h = rw h refl

pub unary_misfit : (u : Unary) (p : ℕ) (e : Expr) (Γ : Scope) (t : Scalar) → type_of e Γ ≡ accepted t → unary_result u t ≡ None → type_of (unary u p e) Γ ≡ refused 15 p
unfolding there
unary_misfit u p e Γ t h n = unary_typed u p e Γ t h ∙ rw n refl

pub unary_fits : (u : Unary) (p : ℕ) (e : Expr) (Γ : Scope) (t : Scalar) → type_of e Γ ≡ accepted t → unary_result u t ≡ Some t → type_of (unary u p e) Γ ≡ accepted t
unfolding there
unary_fits u p e Γ t h n = unary_typed u p e Γ t h ∙ rw n refl

module _ (s : List ℕ) (ts : List Token) (at : ℕ) (Γ : Scope) (C : Held Instruction) (u : Unary) (p : ℕ) (e : Expr) (h : ExprAt 0 s ts at Γ C (unary u p e)) where
  prefix_stands : drop at (lexemes s ts) ≡ sign (unary_kind u) p ∷ expr_lexemes e h.rest
  unfolding expr_lexemes
  prefix_stands = h.stands

  pub prefix_place : (t : Token) → slice_get ts at ≡ Some t → t.place ≡ p
  prefix_place t n = place_is s ts at t (sign (unary_kind u) p) _ n prefix_stands

  pub prefix_placed : Placed p
  prefix_placed = placed_at (lexemes s ts) at (sign (unary_kind u) p) _ h.placed prefix_stands

  pub prefix_kind : seen ts at ≡ Some (unary_kind u)
  prefix_kind = seen-sign s ts at (unary_kind u) p _ prefix_stands

  -- the operand, wherever the code stands
  pub under_at : (E : Held Instruction) (X : List Instruction) → E ≡ coded X → expr_end e Γ (length X) ≤ code_limit → ExprAt 0 s ts (at + 1) Γ E e
  under_at E X x l =
      record {
        rest = h.rest;
        code = X;
        placed = h.placed;
        few = h.few;
        grouped = h.grouped;
        ends = (h.ends.0, loose_positive (next h.rest));
        stands = next_is (lexemes s ts) at (sign (unary_kind u) p) _ prefix_stands;
        begun = x;
        room = l;
      }

module _ (s : List ℕ) (ts : List Token) (at : ℕ) (Γ : Scope) (C : Held Instruction) (p : ℕ) (e : Expr) (h : ExprAt 0 s ts at Γ C (unary negate p e)) (t : Token) (token : slice_get ts at ≡ Some t) where
  abbrev zero_pushed : List Instruction
  zero_pushed = h.code ++ (ins 0 (pos 0) p ∷ [])

  zero_length : length zero_pushed ≡ length h.code + 1
  zero_length = length-append h.code (ins 0 (pos 0) p ∷ [])

  negate_room : past (5 ∷ low (is_char (type_of e Γ))) (expr_end e Γ (length zero_pushed)) ≤ code_limit
  unfolding expr_end
  negate_room = rw zero_length h.room

  pub negate_under : (C1 : Held Instruction) → Emits C 0 0 t.place C1 → ExprAt 0 s ts (at + 1) Γ C1 e
  negate_under C1 f =
      let m = negate_room in
      let g = past_grows (5 ∷ low (is_char (type_of e Γ))) (expr_end e Γ (length zero_pushed)) in
      let k = expr_grows e Γ (length zero_pushed) in
      let z = zero_length in
      let q = prefix_placed s ts at Γ C negate p e h in
      let i = prefix_place s ts at Γ C negate p e h t token in
      under_at s ts at Γ C negate p e h C1 zero_pushed (f h.code h.begun (omega arith) (omega arith) (rw i q) ∙ rw i refl) (omega arith)

  negate_code : (E D : Held Instruction) (k : Scalar) → type_of e Γ ≡ accepted k → E ≡ coded (zero_pushed ++ expr_code e Γ (length zero_pushed)) → Operates E Subtract k t.place D →
      D ≡ coded (h.code ++ expr_code (unary negate p e) Γ (length h.code))
  unfolding expr_code
  negate_code E D k y x f =
      let q = prefix_placed s ts at Γ C negate p e h in
      let i = prefix_place s ts at Γ C negate p e h t token in
      let Y = zero_pushed ++ expr_code e Γ (length zero_pushed) in
      let n : length Y ≡ expr_end e Γ (length zero_pushed) = code-length zero_pushed e Γ in
      let w : codes_of Subtract (is_char (type_of e Γ)) ≡ codes_of Subtract (is_char (accepted k)) = ap (λ (v : Told Scalar). codes_of Subtract (is_char v)) y in
      f Y x (rw (n, sym w) negate_room) (rw i q) ∙ rw (i, y, zero_length) (simp append_assoc)

  pub negate_done : (C1 E D : Held Instruction) (under : Typed) → Emits C 0 0 t.place C1 → ((x : ExprAt 0 s ts (at + 1) Γ C1 e) → ExprDone s ts Γ E e x.rest x.code (Ok under)) →
      Operates E Subtract under.kind t.place D → unary_result negate under.kind ≡ Some under.kind → ExprDone s ts Γ D (unary negate p e) h.rest h.code (Ok under)
  unfolding negate_under under_at
  negate_done C1 E D under f g o n =
      let d = g (negate_under C1 f) in
      (unary_fits negate p e Γ under.kind d.0 n, d.1, negate_code E D under.kind d.0 d.2 o)

module _ (s : List ℕ) (ts : List Token) (at : ℕ) (Γ : Scope) (C : Held Instruction) (p : ℕ) (e : Expr) (h : ExprAt 0 s ts at Γ C (unary invert p e)) (t : Token) (token : slice_get ts at ≡ Some t) where
  invert_room : expr_end e Γ (length h.code) + 1 ≤ code_limit
  unfolding expr_end
  invert_room = h.room

  pub invert_under : ExprAt 0 s ts (at + 1) Γ C e
  invert_under = let m = invert_room in under_at s ts at Γ C invert p e h C h.code h.begun (omega arith)

  pub invert_done : (E D : Held Instruction) (under : Typed) → ((x : ExprAt 0 s ts (at + 1) Γ C e) → ExprDone s ts Γ E e x.rest x.code (Ok under)) →
      Emits E 13 0 t.place D → unary_result invert under.kind ≡ Some under.kind → ExprDone s ts Γ D (unary invert p e) h.rest h.code (Ok under)
  unfolding invert_under under_at expr_code
  invert_done E D under g f n =
      let d = g invert_under in
      let m = invert_room in
      let q = prefix_placed s ts at Γ C invert p e h in
      let i = prefix_place s ts at Γ C invert p e h t token in
      let Y = h.code ++ expr_code e Γ (length h.code) in
      let l : length Y ≡ expr_end e Γ (length h.code) = code-length h.code e Γ in
      (unary_fits invert p e Γ under.kind d.0 n, d.1, f Y d.2 (omega arith) (omega arith) (rw i q) ∙ rw i (simp append_assoc))

-- Brackets.

module _ (s : List ℕ) (ts : List Token) (at : ℕ) (Γ : Scope) (C : Held Instruction) (q : ℕ × ℕ) (e : Expr) (h : ExprAt 0 s ts at Γ C (bracket q e)) where
  pub bracket_inner : ExprAt 6 s ts (at + 1) Γ C e
  unfolding expr_lexemes expr_end
  bracket_inner =
      record {
        rest = sign K.CloseParen q.1 ∷ h.rest;
        code = h.code;
        placed = h.placed;
        few = h.few;
        grouped = h.grouped;
        ends = (λ _. refl, omega arith);
        stands = next_is (lexemes s ts) at (sign K.OpenParen q.0) _ h.stands;
        begun = h.begun;
        room = h.room;
      }

  pub bracket_fault : (n p : ℕ) → type_of e Γ ≡ refused n p → type_of (bracket q e) Γ ≡ refused n p
  unfolding type_of
  bracket_fault n p x = x

  pub bracket_done : (D : Held Instruction) (inner : Typed) (end : ℕ) → ((x : ExprAt 6 s ts (at + 1) Γ C e) → ExprDone s ts Γ D e x.rest x.code (Ok inner)) →
      (inner.end < length ts → end ≡ inner.end + 1) → ExprDone s ts Γ D (bracket q e) h.rest h.code (Ok (record { kind = inner.kind; end = end }))
  unfolding bracket_inner type_of expr_code
  bracket_done D inner end f n =
      let d = f bracket_inner in
      let i = inside s ts inner.end (sign K.CloseParen q.1) h.rest d.1 in
      (d.0, rw (n i) (next_is (lexemes s ts) inner.end (sign K.CloseParen q.1) h.rest d.1), d.2)

-- types that `-` and `!` keep

pub negate_keeps : (t : Scalar) → (t ≡ char) ⊎ (t ≡ int) → unary_result negate t ≡ Some t
negate_keeps t (inl e) = rw e refl
negate_keeps t (inr e) = rw e refl

pub invert_refuses : (t : Scalar) → (t ≡ char) ⊎ (t ≡ int) → unary_result invert t ≡ None
invert_refuses t (inl e) = rw e refl
invert_refuses t (inr e) = rw e refl
