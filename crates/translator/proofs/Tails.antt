-- An expression after its leftmost operand: level by level, the further operands of each.
use Rattle.std.proofs.Common.{◌≡◌, ℕ, suc, pred, ◌+◌, ◌<◌, ◌≤◌, Bool, true, false, eqb, List, ◌∷◌, ◌++◌, length, drop, Some, None, Ok, sym, refl, ap, ◌∙◌, subst, arith}
use native.Mathlib.Decide.{dec_le}
use Rattle.std.proofs.lemmas.Bool.Decides.{nat_tests}
use Rattle.refusal.specs.Told.{accepted, refused}
use Rattle.stacks.specs.Held.{Held}
use Rattle.lexer.specs.Lexeme.{Lexeme}
use Rattle.lexer.specs.Reading.{lexemes}
use Rattle.lexer.specs.declared.kind.Token.{Token}
use Rattle.lookahead.specs.Seen.{seen, looseness_of}
use Rattle.meaning.specs.declared.operator.Operator.{Operator}
use Rattle.meaning.specs.declared.operator.Operator.TheVariants as O
use Rattle.meaning.specs.Trees.{Expr, constant, variable, call, bracket, unary, binary}
use Rattle.meaning.specs.Written.{sign, binary_kind, expr_lexemes}
use Rattle.meaning.specs.Grammar.{looseness, Grouped}
use Rattle.meaning.specs.Scopes.{cells}
use Rattle.meaning.specs.Check.{Scope, type_of}
use Rattle.meaning.proofs.Tokens.{next, OpenParen, tok_operator}
use Rattle.meaning.proofs.Stack.{is_word, loose, Tail, done, link, attach}
use Rattle.meaning.proofs.Parsed.{tail_lexemes, FineTail, NoCall, EndsE, EndsTail}
use Rattle.meaning.proofs.Spine.{looseness_positive, loose_positive}
use Rattle.parser.proofs.Look.{tok_at, sees}
use Rattle.parser.proofs.Expressions.{loose-seen}
use Rattle.machine.specs.declared.instruction.Instruction.{Instruction}
use Rattle.layout.proofs.Compiled.{Shape, strict, both, either, shape_of, binary_end, expr_end, expr_code}
use Rattle.layout.proofs.Ends.{past_grows, expr_grows}
use Rattle.translator.specs.declared.typed.Typed.{Typed}
use Rattle.translator.specs.Translation.{code_limit}
use Rattle.translator.specs.Code.{coded}
use Rattle.translator.specs.Look.{OperatorAt}
use Rattle.translator.specs.Expressions.{AllPlaced, ExprAt, ExprDone, JoinAt, TailsAt, first_of, after_first}
use Rattle.translator.proofs.Lexemes.{seen-sign}
use Rattle.translator.proofs.Joining.{left_fault}

-- Leftmost operands.

pub first_lexemes : (e : Expr) (r : List Lexeme) → expr_lexemes e r ≡ expr_lexemes (first_of e) (after_first e r)
unfolding first_of after_first expr_lexemes
first_lexemes (constant c) r = refl
first_lexemes (variable x) r = refl
first_lexemes (call x q xs) r = refl
first_lexemes (bracket q e) r = refl
first_lexemes (unary u p e) r = refl
first_lexemes (binary o p a b) r = first_lexemes a (sign (binary_kind o) p ∷ expr_lexemes b r)

pub attach_first : (t : Tail) (e : Expr) → first_of (attach e t) ≡ first_of e
unfolding first_of
attach_first done e = refl
attach_first (link o p b t) e = attach_first t (binary o p e b)

pub attach-after : (t : Tail) (e : Expr) (r : List Lexeme) → after_first (attach e t) r ≡ after_first e (tail_lexemes t r)
unfolding after_first
attach-after done e r = refl
attach-after (link o p b t) e r = attach-after t (binary o p e b) r

-- a fault in the first of some operands
pub attach-fault : (t : Tail) (e : Expr) (Γ : Scope) (n p : ℕ) → type_of e Γ ≡ refused n p → type_of (attach e t) Γ ≡ refused n p
attach-fault done e Γ n p h = h
attach-fault (link o q b t) e Γ n p h = attach-fault t (binary o q e b) Γ n p (left_fault o q e b Γ n p h)

-- a grouped expression with no operator outside brackets is its own leftmost operand
pub first_alone : (e : Expr) → Grouped e 0 → (first_of e ≡ e) × ((r : List Lexeme) → after_first e r ≡ r)
unfolding first_of after_first
first_alone (constant c) g = (refl, λ r. refl)
first_alone (variable x) g = (refl, λ r. refl)
first_alone (call x q xs) g = (refl, λ r. refl)
first_alone (bracket q e) g = (refl, λ r. refl)
first_alone (unary u p e) g = (refl, λ r. refl)
first_alone (binary o p a b) g = let l = looseness_positive o in let h = g.0 in absurd (omega arith)

-- e before further operands t of level n + 1, as an expression e0 of level n before all of that level's
pub record Peeled (n : ℕ) (e : Expr) (t : Tail) (r : List Lexeme) : Type 0 where
  pub first : Expr
  pub tail : Tail
  pub same : attach first tail ≡ attach e t
  pub grouped : Grouped first n
  pub ends : EndsE n first (tail_lexemes tail r)
  pub fine : FineTail (suc n) tail
  pub tails : EndsTail (suc n) tail r

kept : (n : ℕ) (e : Expr) (t : Tail) (r : List Lexeme) → Grouped e n → EndsE n e (tail_lexemes t r) → FineTail (suc n) t → EndsTail (suc n) t r → Peeled n e t r
kept n e t r g h f k = record { first = e; tail = t; same = refl; grouped = g; ends = h; fine = f; tails = k }

operator_ends : (n : ℕ) (o : Operator) (p : ℕ) (a : Expr) (r : List Lexeme) → looseness o ≡ suc n → EndsE n a (sign (binary_kind o) p ∷ r)
operator_ends n o p a r l =
    (λ _. ap (is_word OpenParen) (tok_operator o p), let e : loose (next (sign (binary_kind o) p ∷ r)) ≡ looseness o = ap loose (tok_operator o p) in omega arith)

pub peeled : (n : ℕ) (e : Expr) (t : Tail) (r : List Lexeme) → Grouped e (suc n) → EndsE n e (tail_lexemes t r) → FineTail (suc n) t → EndsTail (suc n) t r → Peeled n e t r
peeled n (constant c) t r g h f k = kept n (constant c) t r tt h f k
peeled n (variable x) t r g h f k = kept n (variable x) t r tt h f k
peeled n (call x q xs) t r g h f k = kept n (call x q xs) t r g h f k
peeled n (bracket q e) t r g h f k = kept n (bracket q e) t r g h f k
peeled n (unary u p e) t r g h f k = kept n (unary u p e) t r g h f k
peeled n (binary o p a b) t r g h f k =
    elim (dec_le (looseness o) n) [
      | yes l ↦ kept n (binary o p a b) t r (l, g.1, g.2) h f k
      | no l ↦
          let z = g.0 in
          let e : looseness o ≡ suc n = omega arith in
          let i = peeled n a (link o p b t) r (rw e at g.1) (operator_ends n o p a (expr_lexemes b (tail_lexemes t r)) e) (e, rw e at g.2, f) (h, k) in
          record { first = i.first; tail = i.tail; same = i.same; grouped = i.grouped; ends = i.ends; fine = i.fine; tails = i.tails }
    ]

-- Room.

shape-room : (h : Shape) (cs : List ℕ) (right : ℕ → ℕ) (m : ℕ) → ((k : ℕ) → k < right k) → m ≤ binary_end h cs right m
shape-room strict cs right m g = let a = g m in let b = past_grows cs (right m) in omega arith
shape-room both cs right m g = let a = g (m + 1) in omega arith
shape-room either cs right m g = let a = g (m + 1 + 1 + 1) in omega arith

left_room : (o : Operator) (p : ℕ) (a b : Expr) (Γ : Scope) (k : ℕ) → expr_end a Γ k ≤ expr_end (binary o p a b) Γ k
unfolding expr_end
left_room o p a b Γ k = shape-room (shape_of o) _ _ _ (λ j. expr_grows b Γ j)

pub attach-room : (t : Tail) (e : Expr) (Γ : Scope) (k : ℕ) → expr_end e Γ k ≤ expr_end (attach e t) Γ k
attach-room done e Γ k = omega arith
attach-room (link o p b t) e Γ k = let h = left_room o p e b Γ k in let i = attach-room t (binary o p e b) Γ k in omega arith

-- The expression a is translated, and further operands t of level n follow.
pub record TailAt (n : ℕ) (s : List ℕ) (ts : List Token) (left : Typed) (Γ : Scope) (C : Held Instruction) (a : Expr) (t : Tail) : Type 0 where
  pub rest : List Lexeme
  pub code : List Instruction
  pub placed : AllPlaced (lexemes s ts)
  pub few : cells Γ ≤ 64
  pub fine : FineTail n t
  pub ends : EndsTail n t rest
  pub stands : drop left.end (lexemes s ts) ≡ tail_lexemes t rest
  pub typed : type_of a Γ ≡ accepted left.kind
  pub begun : C ≡ coded (code ++ expr_code a Γ (length code))
  pub room : expr_end (attach a t) Γ (length code) ≤ code_limit

-- the same expression, with fewer operands to come
pub record Fewer (n : ℕ) (s : List ℕ) (ts : List Token) (left : Typed) (Γ : Scope) (C : Held Instruction) (e : Expr) (rest : List Lexeme) (code : List Instruction) : Type 0 where
  pub first : Expr
  pub tail : Tail
  pub same : attach first tail ≡ e
  pub at : TailAt n s ts left Γ C first tail
  pub ends_there : at.rest ≡ rest
  pub begins-there : at.code ≡ code

-- Level by level.

-- an expression of level n + 1 as one of level n with further operands
abbrev pub split : (n : ℕ) (e : Expr) (r : List Lexeme) → Grouped e (suc n) → EndsE (suc n) e r → Peeled n e done r
split n e r g h = peeled n e done r g (h.0, let l = h.1 in omega arith) tt (let l = h.1 in grind (arith, nat_tests))

module _ (m n : ℕ) (next_level : n ≡ suc m) (s : List ℕ) (ts : List Token) (first : Typed) (Γ : Scope) (C : Held Instruction) (e : Expr) (h : TailsAt n s ts first Γ C e) where
  abbrev pub inner : Peeled m e done h.rest
  inner = split m e h.rest (subst (λ (x : ℕ). Grouped e x) next_level h.grouped) (subst (λ (x : ℕ). EndsE x e h.rest) next_level h.ends)

  -- the tighter levels come first
  abbrev pub tighter : TailsAt m s ts first Γ C inner.first
  tighter =
      let p = inner in
      let f : first_of e ≡ first_of p.first = ap first_of (sym p.same) ∙ attach_first p.tail p.first in
      let a : after_first e h.rest ≡ after_first p.first (tail_lexemes p.tail h.rest) =
      ap (λ (x : Expr). after_first x h.rest) (sym p.same) ∙ attach-after p.tail p.first h.rest in
      let room = attach-room p.tail p.first Γ (length h.code) in
      let z : expr_end (attach p.first p.tail) Γ (length h.code) ≡ expr_end e Γ (length h.code) = ap (λ (x : Expr). expr_end x Γ (length h.code)) p.same in
      let l = h.room in
      record {
        rest = tail_lexemes p.tail h.rest;
        code = h.code;
        placed = h.placed;
        few = h.few;
        grouped = p.grouped;
        ends = p.ends;
        stands = h.stands ∙ a;
        typed = ap (λ (x : Expr). type_of x Γ) (sym f) ∙ h.typed;
        begun = h.begun ∙ ap (λ (x : Expr). coded (h.code ++ expr_code x Γ (length h.code))) f;
        room = omega arith;
      }

  -- then this level's operands
  pub this_level : (left : Typed) (D : Held Instruction) → ExprDone s ts Γ D inner.first (tail_lexemes inner.tail h.rest) h.code (Ok left) →
      Fewer n s ts left Γ D e h.rest h.code
  this_level left D d =
      let p = inner in
      record {
        first = p.first;
        tail = p.tail;
        same = p.same;
        ends_there = refl;
        begins-there = refl;
        at = record {
          rest = h.rest;
          code = h.code;
          placed = h.placed;
          few = h.few;
          fine = subst (λ (x : ℕ). FineTail x p.tail) (sym next_level) p.fine;
          ends = subst (λ (x : ℕ). EndsTail x p.tail h.rest) (sym next_level) p.tails;
          stands = d.1;
          typed = d.0;
          begun = d.2;
          room = subst (λ (x : Expr). expr_end x Γ (length h.code) ≤ code_limit) (sym p.same) h.room;
        };
      }

  pub tighter-fault : (k p : ℕ) → type_of inner.first Γ ≡ refused k p → type_of e Γ ≡ refused k p
  tighter-fault k p d = ap (λ (x : Expr). type_of x Γ) (sym inner.same) ∙ attach-fault inner.tail inner.first Γ k p d

-- with no level left, nothing follows the leftmost operand
pub no_level : (n : ℕ) → n ≡ 0 → (s : List ℕ) (ts : List Token) (first : Typed) (Γ : Scope) (C : Held Instruction) (e : Expr) (h : TailsAt n s ts first Γ C e) → ExprDone s ts Γ C e h.rest h.code (Ok first)
no_level n z s ts first Γ C e h =
    let a = first_alone e (subst (λ (x : ℕ). Grouped e x) z h.grouped) in
    (ap (λ (x : Expr). type_of x Γ) (sym a.0) ∙ h.typed, h.stands ∙ a.1 h.rest, h.begun ∙ ap (λ (x : Expr). coded (h.code ++ expr_code x Γ (length h.code))) a.0)

-- what code sees of the next operator
no_operator : (s : List ℕ) (ts : List Token) (i n : ℕ) (r : List Lexeme) → drop i (lexemes s ts) ≡ r → eqb (loose (next r)) n ≡ false → looseness_of (seen ts i) ≡ Some n → ⊥
no_operator s ts i n r e f l =
    let k = rw l at (loose-seen (seen ts i) (tok_at s ts i) (sees s ts i)) in
    let g : loose (next r) ≡ n = ap (λ (x : List Lexeme). loose (next x)) (sym e) ∙ ap loose k.2 ∙ k.3 in
    let w : eqb n n ≡ false = rw g at f in
    let q : eqb n n ≡ true = grind (arith, nat_tests) in
    let u : ◌≡◌ {A = Bool} true false = sym q ∙ w in let v : ◌≡◌ {A = ℕ} 0 1 = cc in omega arith

operator_seen : (s : List ℕ) (ts : List Token) (i : ℕ) (o : Operator) (p : ℕ) (r : List Lexeme) → drop i (lexemes s ts) ≡ sign (binary_kind o) p ∷ r → looseness_of (seen ts i) ≡ Some (looseness o)
operator_seen s ts i o p r e = ap looseness_of (seen-sign s ts i (binary_kind o) p r e) ∙ by o
  where
    by : (q : Operator) → looseness_of (Some (binary_kind q)) ≡ Some (looseness q)
    by O.Add = refl
    by O.Subtract = refl
    by O.Multiply = refl
    by O.Divide = refl
    by O.Remainder = refl
    by O.Less = refl
    by O.LessEqual = refl
    by O.Greater = refl
    by O.GreaterEqual = refl
    by O.Equal = refl
    by O.NotEqual = refl
    by O.And = refl
    by O.Or = refl

-- One turn of the loop: the operator there is the next operand's, and what is joined is the new left operand.
module _ (m n : ℕ) (next_level : n ≡ suc m) (s : List ℕ) (ts : List Token) (left : Typed) (Γ : Scope) (C : Held Instruction) (op : Operator) (e : Expr) (r : List Lexeme) (k : List Instruction) where
  -- the next operand, as code joins it
  pub record Turn : Type 0 where
    pub before : Expr
    pub place : ℕ
    pub operand : Expr
    pub tail : Tail
    pub same : attach (binary op place before operand) tail ≡ e
    pub fine : FineTail n tail
    pub ends : EndsTail n tail r
    pub join : JoinAt m s ts left Γ C op before place operand
    pub rests : join.rest ≡ tail_lexemes tail r
    pub codes : join.code ≡ k
    pub room : expr_end e Γ (length k) ≤ code_limit

  turn_link : (a : Expr) (o : Operator) (p : ℕ) (b : Expr) (t : Tail) → attach a (link o p b t) ≡ e → (h : TailAt n s ts left Γ C a (link o p b t)) → h.rest ≡ r → h.code ≡ k → op ≡ o → Turn
  turn_link a o p b t q h u v w =
      let room = attach-room t (binary o p a b) Γ (length h.code) in
      let l = h.room in
      record {
        before = a;
        place = p;
        operand = b;
        tail = t;
        same = rw w q;
        fine = h.fine.2;
        ends = rw u at h.ends.1;
        rests = ap (tail_lexemes t) u;
        codes = v;
        room = rw (q, v) at h.room;
        join = record {
          rest = tail_lexemes t h.rest;
          code = h.code;
          mark = sign (binary_kind o) p;
          placed = h.placed;
          few = h.few;
          grouped = subst (λ (x : ℕ). Grouped b (pred x)) next_level h.fine.1;
          ends = subst (λ (x : ℕ). EndsE (pred x) b (tail_lexemes t h.rest)) next_level h.ends.0;
          stands = h.stands;
          place = refl;
          typed = h.typed;
          begun = h.begun;
          room = rw w (omega arith);
        };
      }

  pub turn : OperatorAt ts left.end n (Some op) → Fewer n s ts left Γ C e r k → Turn
  turn o f = by f.tail f.same f.at f.ends_there f.begins-there
    where
      by : (t : Tail) → attach f.first t ≡ e → (h : TailAt n s ts left Γ C f.first t) → h.rest ≡ r → h.code ≡ k → Turn
      by done q h u v = absurd (no_operator s ts left.end n h.rest h.stands h.ends o.0)
      by (link x p b t) q h u v = turn_link f.first x p b t q h u v (o.1 x (seen-sign s ts left.end (binary_kind x) p _ h.stands))

  pub turned : (y : Turn) (next : Typed) (D : Held Instruction) → ExprDone s ts Γ D (binary op y.place y.before y.operand) y.join.rest y.join.code (Ok next) → Fewer n s ts next Γ D e r k
  turned y next D d =
      record {
        first = binary op y.place y.before y.operand;
        tail = y.tail;
        same = y.same;
        ends_there = refl;
        begins-there = refl;
        at = record {
          rest = r;
          code = k;
          placed = y.join.placed;
          few = y.join.few;
          fine = y.fine;
          ends = y.ends;
          stands = d.1 ∙ y.rests;
          typed = d.0;
          begun = d.2 ∙ ap (λ (x : List Instruction). coded (x ++ expr_code (binary op y.place y.before y.operand) Γ (length x))) y.codes;
          room = subst (λ (x : Expr). expr_end x Γ (length k) ≤ code_limit) (sym y.same) y.room;
        };
      }

  pub turn-fault : (y : Turn) (q p : ℕ) → type_of (binary op y.place y.before y.operand) Γ ≡ refused q p → type_of e Γ ≡ refused q p
  turn-fault y q p d = ap (λ (x : Expr). type_of x Γ) (sym y.same) ∙ attach-fault y.tail _ Γ q p d

-- no operator of the level follows: all of the expression is translated
pub level_done : (n : ℕ) (s : List ℕ) (ts : List Token) (left : Typed) (Γ : Scope) (C : Held Instruction) (e : Expr) (r : List Lexeme) (k : List Instruction) → OperatorAt ts left.end n None →
    Fewer n s ts left Γ C e r k → ExprDone s ts Γ C e r k (Ok left)
level_done n s ts left Γ C e r k o f = by f.tail f.same f.at f.ends_there f.begins-there
  where
    by : (t : Tail) → attach f.first t ≡ e → (h : TailAt n s ts left Γ C f.first t) → h.rest ≡ r → h.code ≡ k → ExprDone s ts Γ C e r k (Ok left)
    by done q h u v = (ap (λ (x : Expr). type_of x Γ) (sym q) ∙ h.typed, h.stands ∙ u, h.begun ∙ rw (q, v) refl)
    by (link x p b t) q h u v = absurd (o (operator_seen s ts left.end x p _ h.stands ∙ ap Some h.fine.0))

-- the loop: what is left of an expression is left of it later on
abbrev pub Shrinks : ℕ → List ℕ → List Token → Scope → Typed → Held Instruction → Typed → Held Instruction → Type 0
Shrinks n s ts Γ from B left C = (e : Expr) (r : List Lexeme) (k : List Instruction) → Fewer n s ts from Γ B e r k → Fewer n s ts left Γ C e r k

-- The leftmost operand is translated first.

pub first_grouped : (e : Expr) (n : ℕ) → Grouped e n → Grouped (first_of e) 0
unfolding first_of
first_grouped (constant c) n g = tt
first_grouped (variable x) n g = tt
first_grouped (call x q xs) n g = g
first_grouped (bracket q e) n g = g
first_grouped (unary u p e) n g = g
first_grouped (binary o p a b) n g = first_grouped a (looseness o) g.1

pub first_ends : (e : Expr) (r : List Lexeme) → NoCall e r → NoCall (first_of e) (after_first e r)
unfolding first_of after_first
first_ends (constant c) r h = h
first_ends (variable x) r h = h
first_ends (call x q xs) r h = h
first_ends (bracket q e) r h = h
first_ends (unary u p e) r h = h
first_ends (binary o p a b) r h = first_ends a (sign (binary_kind o) p ∷ expr_lexemes b r) (λ _. ap (is_word OpenParen) (tok_operator o p))

pub first_room : (e : Expr) (Γ : Scope) (k : ℕ) → expr_end (first_of e) Γ k ≤ expr_end e Γ k
unfolding first_of
first_room (constant c) Γ k = omega arith
first_room (variable x) Γ k = omega arith
first_room (call x q xs) Γ k = omega arith
first_room (bracket q e) Γ k = omega arith
first_room (unary u p e) Γ k = omega arith
first_room (binary o p a b) Γ k = let h = first_room a Γ k in let i = left_room o p a b Γ k in omega arith

pub first_fault : (e : Expr) (Γ : Scope) (n p : ℕ) → type_of (first_of e) Γ ≡ refused n p → type_of e Γ ≡ refused n p
unfolding first_of
first_fault (constant c) Γ n p h = h
first_fault (variable x) Γ n p h = h
first_fault (call x q xs) Γ n p h = h
first_fault (bracket q e) Γ n p h = h
first_fault (unary u q e) Γ n p h = h
first_fault (binary o q a b) Γ n p h = left_fault o q a b Γ n p (first_fault a Γ n p h)

module _ (n : ℕ) (s : List ℕ) (ts : List Token) (at : ℕ) (Γ : Scope) (C : Held Instruction) (e : Expr) (h : ExprAt n s ts at Γ C e) where
  abbrev pub first_at : ExprAt 0 s ts at Γ C (first_of e)
  first_at =
      let r = first_room e Γ (length h.code) in
      let l = h.room in
      record {
        rest = after_first e h.rest;
        code = h.code;
        placed = h.placed;
        few = h.few;
        grouped = first_grouped e n h.grouped;
        ends = (first_ends e h.rest h.ends.0, loose_positive (next (after_first e h.rest)));
        stands = h.stands ∙ first_lexemes e h.rest;
        begun = h.begun;
        room = omega arith;
      }

  abbrev pub first_done : (first : Typed) (D : Held Instruction) → ((x : ExprAt 0 s ts at Γ C (first_of e)) → ExprDone s ts Γ D (first_of e) x.rest x.code (Ok first)) → TailsAt n s ts first Γ D e
  first_done first D f =
      let d = f first_at in
      record { rest = h.rest; code = h.code; placed = h.placed; few = h.few; grouped = h.grouped; ends = h.ends; stands = d.1; typed = d.0; begun = d.2; room = h.room }
