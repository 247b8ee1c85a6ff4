-- An operator between two operands: its type, and its code after that of the left operand.
use Rattle.std.proofs.Common.{◌≡◌, ℕ, zero, suc, ◌+◌, ◌<◌, ◌≤◌, List, [], ◌∷◌, ◌++◌, length, drop, pos, IfOk, Some, Ok, Err, Option, Result, sym, refl, ap, ◌∙◌, subst, append_assoc, arith, length-append}
use Rattle.refusal.specs.Told.{Told, accepted, refused}
use Rattle.refusal.specs.declared.reason.Refusal.{Refusal}
use Rattle.stacks.specs.Held.{Held}
use Rattle.std.specs.List.{slice_get}
use Rattle.lexer.specs.Lexeme.{Lexeme}
use Rattle.lexer.specs.Reading.{lexemes}
use Rattle.lexer.specs.declared.kind.Token.{Token}
use Rattle.meaning.specs.declared.operator.Scalar.{Scalar}
use Rattle.meaning.specs.declared.operator.Operator.{Operator}
use Rattle.meaning.specs.declared.operator.Operator.TheVariants.{And, Or}
use Rattle.meaning.specs.declared.operator.Operator.TheVariants as O
use Rattle.meaning.specs.Trees.{Expr, binary}
use Rattle.meaning.specs.Types.{result_of}
use Rattle.meaning.specs.Check.{Scope, then, there, type_of}
use Rattle.machine.specs.declared.instruction.Instruction.{Instruction}
use Rattle.layout.proofs.Compiled.{ins, is_char, codes_of, strict, shape_of, plainly, past, expr_end, expr_code}
use Rattle.layout.proofs.Ends.{past_grows, expr_grows}
use Rattle.translator.specs.declared.typed.Typed.{Typed}
use Rattle.translator.specs.Translation.{code_limit}
use Rattle.translator.specs.Code.{Placed, coded, Emits, Lands, aim, aimed}
use Rattle.translator.specs.Expressions.{AllPlaced, ExprAt, ExprDone, JoinAt, Operates, Results}
use Rattle.translator.proofs.Lexemes.{token_is, next_is}
use Rattle.translator.proofs.Emitting.{code-length}

-- the place of the token at a place
pub place_is : (s : List ℕ) (ts : List Token) (at : ℕ) (t : Token) (l : Lexeme) (r : List Lexeme) → slice_get ts at ≡ Some t → drop at (lexemes s ts) ≡ l ∷ r → t.place ≡ l.place
place_is s ts at t l r e h = ap (λ (x : Lexeme). x.place) (token_is s ts at t l r e h)

-- it fits an int
pub placed_at : (ls : List Lexeme) (at : ℕ) (l : Lexeme) (r : List Lexeme) → AllPlaced ls → drop at ls ≡ l ∷ r → Placed l.place
unfolding AllPlaced
placed_at [] zero l r h e = let z : ◌≡◌ {A = ℕ} 0 1 = cc in absurd (omega arith)
placed_at [] (suc at) l r h e = let z : ◌≡◌ {A = ℕ} 0 1 = cc in absurd (omega arith)
placed_at (m ∷ ls) zero l r h e = let f : m ≡ l = cc in rw (sym f) h.0
placed_at (m ∷ ls) (suc at) l r h e = placed_at ls at l r h.1 e

-- Types.

typed_both : (o : Operator) (p : ℕ) (a b : Expr) (Γ : Scope) (s t : Scalar) → type_of a Γ ≡ accepted s → type_of b Γ ≡ accepted t → type_of (binary o p a b) Γ ≡ there (result_of o s t) 15 p
unfolding type_of then
typed_both o p a b Γ s t e f = rw (e, f) refl

pub left_fault : (o : Operator) (p : ℕ) (a b : Expr) (Γ : Scope) (n q : ℕ) → type_of a Γ ≡ refused n q → type_of (binary o p a b) Γ ≡ refused n q
unfolding type_of then
left_fault o p a b Γ n q e = rw e refl

pub right_fault : (o : Operator) (p : ℕ) (a b : Expr) (Γ : Scope) (s : Scalar) (n q : ℕ) → type_of a Γ ≡ accepted s → type_of b Γ ≡ refused n q → type_of (binary o p a b) Γ ≡ refused n q
unfolding type_of then
right_fault o p a b Γ s n q e f = rw (e, f) refl

-- what is left to say once the code stands
module _ (s : List ℕ) (ts : List Token) (Γ : Scope) (D : Held Instruction) (o : Operator) (p : ℕ) (a b : Expr) (rest : List Lexeme) (code : List Instruction) (left : Scalar) where
  pub joined-done : (right : Typed) (place : ℕ) (r : Result Typed Refusal) → type_of a Γ ≡ accepted left → type_of b Γ ≡ accepted right.kind → drop right.end (lexemes s ts) ≡ rest →
      D ≡ coded (code ++ expr_code (binary o p a b) Γ (length code)) → place ≡ p → Results (result_of o left right.kind) place right.end r → ExprDone s ts Γ D (binary o p a b) rest code r
  unfolding there
  joined-done right place (Ok r) e f n d q g = (typed_both o p a b Γ left right.kind e f ∙ rw g.0 refl, rw g.1 n, d)
  joined-done right place (Err x) e f n d q g = typed_both o p a b Γ left right.kind e f ∙ rw (g.0, g.1, g.2, q) refl

-- Code: one after the other.

module _ (o : Operator) (p : ℕ) (a b : Expr) (Γ : Scope) (code : List Instruction) where
  -- room for the right operand after the left one
  pub strict_room : shape_of o ≡ strict → expr_end (binary o p a b) Γ (length code) ≤ code_limit →
      past (codes_of o (is_char (type_of a Γ))) (expr_end b Γ (length (code ++ expr_code a Γ (length code)))) ≤ code_limit
  unfolding expr_end
  strict_room h l = rw (code-length code a Γ) (rw h at l)

  strict_code : (C : Held Instruction) (D : Held Instruction) (left : Scalar) → shape_of o ≡ strict → expr_end (binary o p a b) Γ (length code) ≤ code_limit → type_of a Γ ≡ accepted left → Placed p →
      C ≡ coded ((code ++ expr_code a Γ (length code)) ++ expr_code b Γ (length (code ++ expr_code a Γ (length code)))) → Operates C o left p D → D ≡ coded (code ++ expr_code (binary o p a b) Γ (length code))
  unfolding expr_code
  strict_code C D left h l t q c f =
      let X = code ++ expr_code a Γ (length code) in
      let Y = X ++ expr_code b Γ (length X) in
      let cs = codes_of o (is_char (type_of a Γ)) in
      let ds = codes_of o (is_char (accepted left)) in
      let e : cs ≡ ds = ap (λ (x : Told Scalar). codes_of o (is_char x)) t in
      let n : length Y ≡ expr_end b Γ (length X) = code-length X b Γ in
      let m = strict_room h l in
      let g : D ≡ coded (Y ++ plainly ds p) = f Y c (rw (n, sym e) m) q in
      let k : length X ≡ expr_end a Γ (length code) = code-length code a Γ in
      g ∙ rw (h, sym e, sym k) (simp append_assoc)

-- the right operand of an operator that takes both
abbrev pub strict_right : (n : ℕ) (s : List ℕ) (ts : List Token) (left : Typed) (Γ : Scope) (C : Held Instruction) (o : Operator) (a : Expr) (p : ℕ) (b : Expr) (at : ℕ) → at ≡ left.end + 1 → shape_of o ≡ strict →
    JoinAt n s ts left Γ C o a p b → ExprAt n s ts at Γ C b
strict_right n s ts left Γ C o a p b at e h j =
    let m = strict_room o p a b Γ j.code h j.room in
    let g = past_grows (codes_of o (is_char (type_of a Γ))) (expr_end b Γ (length (j.code ++ expr_code a Γ (length j.code)))) in
    record {
      rest = j.rest;
      code = j.code ++ expr_code a Γ (length j.code);
      placed = j.placed;
      few = j.few;
      grouped = j.grouped;
      ends = j.ends;
      stands = rw e (next_is (lexemes s ts) left.end j.mark _ j.stands);
      begun = j.begun;
      room = omega arith;
    }

-- Code with a jump.

there-aimed : (X : List Instruction) (i : Instruction) (Y : List Instruction) (t : ℕ) → aimed (length X) t (X ++ (i ∷ Y)) ≡ X ++ (aim t i ∷ Y)
unfolding aimed
there-aimed [] i Y t = refl
there-aimed (x ∷ X) i Y t = ap (◌∷◌ x) (there-aimed X i Y t)

-- the instruction after X gets a target
pub aimed-after : (X : List Instruction) (i : Instruction) (Y : List Instruction) (n t : ℕ) → n ≡ length X → aimed n t (X ++ (i ∷ Y)) ≡ X ++ (aim t i ∷ Y)
aimed-after X i Y n t e = rw e (there-aimed X i Y t)

pub aimed-length : (i t : ℕ) (X : List Instruction) → length (aimed i t X) ≡ length X
unfolding aimed
aimed-length i t [] = refl
aimed-length zero t (x ∷ X) = refl
aimed-length (suc i) t (x ∷ X) = ap suc (aimed-length i t X)

-- what a held list is, by what the stack holds
pub held-length : (C : Held Instruction) (X : List Instruction) → C ≡ coded X → length C.held ≡ length X
held-length C X e = ap (λ (H : Held Instruction). length H.held) e

module _ (p : ℕ) (a b : Expr) (Γ : Scope) (code : List Instruction) where
  -- `&&`: the jump over the right operand, and the one past the false, are set once both operands stand
  pub both_code : (C C1 C2 C3 C4 C5 D : Held Instruction) (skip done otherwise end : ℕ) → expr_end (binary And p a b) Γ (length code) ≤ code_limit → Placed p →
      C ≡ coded (code ++ expr_code a Γ (length code)) → skip ≡ length C.held → Emits C 15 0 p C1 →
      ((X : List Instruction) → C1 ≡ coded X → expr_end b Γ (length X) ≤ code_limit → C2 ≡ coded (X ++ expr_code b Γ (length X))) →
      done ≡ length C2.held → Emits C2 14 0 p C3 → otherwise ≡ length C3.held → Lands C3 skip otherwise C4 → Emits C4 0 0 p C5 → end ≡ length C5.held → Lands C5 done end D →
      D ≡ coded (code ++ expr_code (binary And p a b) Γ (length code))
  unfolding expr_end expr_code
  both_code C C1 C2 C3 C4 C5 D skip done otherwise end l q c s e1 right d e2 o l1 e3 n l2 =
      let A = expr_code a Γ (length code) in
      let X = code ++ A in
      let m = expr_end a Γ (length code) in
      let k : length X ≡ m = code-length code a Γ in
      let i = ins 15 (pos 0) p in
      let X1 = X ++ (i ∷ []) in
      let k1 : length X1 ≡ m + 1 = length-append X (i ∷ []) ∙ ap (λ (x : ℕ). x + 1) k in
      let z = expr_end b Γ (m + 1) in
      let grows = expr_grows b Γ (m + 1) in
      let c1 : C1 ≡ coded X1 = e1 X c (omega arith) (omega arith) q in
      let B = expr_code b Γ (m + 1) in
      let c2 : C2 ≡ coded (X1 ++ B) = right X1 c1 (rw k1 (omega arith)) ∙ ap (λ (x : ℕ). coded (X1 ++ expr_code b Γ x)) k1 in
      let k2 : length (X1 ++ B) ≡ z = ap (λ (x : ℕ). length (X1 ++ expr_code b Γ x)) (sym k1) ∙ code-length X1 b Γ ∙ ap (λ (x : ℕ). expr_end b Γ x) k1 in
      let j = ins 14 (pos 0) p in
      let c3 : C3 ≡ coded ((X1 ++ B) ++ (j ∷ [])) = e2 (X1 ++ B) c2 (omega arith) (omega arith) q in
      let k3 : length ((X1 ++ B) ++ (j ∷ [])) ≡ z + 1 = length-append (X1 ++ B) (j ∷ []) ∙ ap (λ (x : ℕ). x + 1) k2 in
      let o1 : otherwise ≡ z + 1 = o ∙ held-length C3 _ c3 ∙ k3 in
      let g3 : (X1 ++ B) ++ (j ∷ []) ≡ X ++ (i ∷ (B ++ (j ∷ []))) = simp append_assoc in
      let u = ins 15 (pos (z + 1)) p in
      let c4 : C4 ≡ coded (X ++ (u ∷ (B ++ (j ∷ [])))) =
      l1 (X ++ (i ∷ (B ++ (j ∷ [])))) (c3 ∙ ap coded g3) (rw o1 (omega arith))
      ∙ ap coded (aimed-after X i (B ++ (j ∷ [])) skip otherwise (s ∙ held-length C X c) ∙ ap (λ (x : ℕ). X ++ (aim x i ∷ (B ++ (j ∷ [])))) o1) in
      let w = ins 0 (pos 0) p in
      let k4 : length (X ++ (u ∷ (B ++ (j ∷ [])))) ≡ z + 1 = length-append X (u ∷ (B ++ (j ∷ []))) ∙ sym (length-append X (i ∷ (B ++ (j ∷ [])))) ∙ ap length (sym g3) ∙ k3 in
      let c5 : C5 ≡ coded ((X ++ (u ∷ (B ++ (j ∷ [])))) ++ (w ∷ [])) = e3 (X ++ (u ∷ (B ++ (j ∷ [])))) c4 (rw k4 (omega arith)) (omega arith) q in
      let k5 : length ((X ++ (u ∷ (B ++ (j ∷ [])))) ++ (w ∷ [])) ≡ z + 1 + 1 = length-append (X ++ (u ∷ (B ++ (j ∷ [])))) (w ∷ []) ∙ ap (λ (x : ℕ). x + 1) k4 in
      let n1 : end ≡ z + 1 + 1 = n ∙ held-length C5 _ c5 ∙ k5 in
      let Y = X ++ (u ∷ B) in
      let g5 : (X ++ (u ∷ (B ++ (j ∷ [])))) ++ (w ∷ []) ≡ Y ++ (j ∷ w ∷ []) = simp append_assoc in
      let y : length Y ≡ z = length-append X (u ∷ B) ∙ sym (length-append X (i ∷ B)) ∙ ap length (sym (append_assoc X (i ∷ []) B)) ∙ k2 in
      l2 (Y ++ (j ∷ w ∷ [])) (c5 ∙ ap coded g5) (rw n1 (omega arith))
      ∙ ap coded (aimed-after Y j (w ∷ []) done end (d ∙ held-length C2 _ c2 ∙ k2 ∙ sym y) ∙ ap (λ (x : ℕ). Y ++ (aim x j ∷ w ∷ [])) n1 ∙ simp append_assoc)

  -- `||`: a left operand that is 0 goes on to the right one, else a true is left and the right one skipped
  pub either_code : (C C1 C2 C3 C4 C5 D : Held Instruction) (otherwise done start end : ℕ) → expr_end (binary Or p a b) Γ (length code) ≤ code_limit → Placed p →
      C ≡ coded (code ++ expr_code a Γ (length code)) → otherwise ≡ length C.held → Emits C 15 0 p C1 → Emits C1 0 1 p C2 → done ≡ length C2.held → Emits C2 14 0 p C3 →
      start ≡ length C3.held → Lands C3 otherwise start C4 →
      ((X : List Instruction) → C4 ≡ coded X → expr_end b Γ (length X) ≤ code_limit → C5 ≡ coded (X ++ expr_code b Γ (length X))) →
      end ≡ length C5.held → Lands C5 done end D → D ≡ coded (code ++ expr_code (binary Or p a b) Γ (length code))
  unfolding expr_end expr_code
  either_code C C1 C2 C3 C4 C5 D otherwise done start end l q c s e1 e2 d e3 o l1 right n l2 =
      let A = expr_code a Γ (length code) in
      let X = code ++ A in
      let m = expr_end a Γ (length code) in
      let k : length X ≡ m = code-length code a Γ in
      let z = expr_end b Γ (m + 1 + 1 + 1) in
      let grows = expr_grows b Γ (m + 1 + 1 + 1) in
      let i = ins 15 (pos 0) p in
      let w = ins 0 (pos 1) p in
      let j = ins 14 (pos 0) p in
      let X1 = X ++ (i ∷ []) in
      let X2 = X1 ++ (w ∷ []) in
      let X3 = X2 ++ (j ∷ []) in
      let k1 : length X1 ≡ m + 1 = length-append X (i ∷ []) ∙ ap (λ (x : ℕ). x + 1) k in
      let k2 : length X2 ≡ m + 1 + 1 = length-append X1 (w ∷ []) ∙ ap (λ (x : ℕ). x + 1) k1 in
      let k3 : length X3 ≡ m + 1 + 1 + 1 = length-append X2 (j ∷ []) ∙ ap (λ (x : ℕ). x + 1) k2 in
      let c1 : C1 ≡ coded X1 = e1 X c (omega arith) (omega arith) q in
      let c2 : C2 ≡ coded X2 = e2 X1 c1 (omega arith) (omega arith) q in
      let c3 : C3 ≡ coded X3 = e3 X2 c2 (omega arith) (omega arith) q in
      let o1 : start ≡ m + 1 + 1 + 1 = o ∙ held-length C3 _ c3 ∙ k3 in
      let g3 : X3 ≡ X ++ (i ∷ w ∷ j ∷ []) = simp append_assoc in
      let u = ins 15 (pos (m + 1 + 1 + 1)) p in
      let Y = X ++ (u ∷ w ∷ j ∷ []) in
      let c4 : C4 ≡ coded Y =
      l1 (X ++ (i ∷ w ∷ j ∷ [])) (c3 ∙ ap coded g3) (rw o1 (omega arith))
      ∙ ap coded (aimed-after X i (w ∷ j ∷ []) otherwise start (s ∙ held-length C X c) ∙ ap (λ (x : ℕ). X ++ (aim x i ∷ w ∷ j ∷ [])) o1) in
      let y : length Y ≡ m + 1 + 1 + 1 = length-append X (u ∷ w ∷ j ∷ []) ∙ sym (length-append X (i ∷ w ∷ j ∷ [])) ∙ ap length (sym g3) ∙ k3 in
      let B = expr_code b Γ (m + 1 + 1 + 1) in
      let c5 : C5 ≡ coded (Y ++ B) = right Y c4 (rw y (omega arith)) ∙ ap (λ (x : ℕ). coded (Y ++ expr_code b Γ x)) y in
      let k5 : length (Y ++ B) ≡ z = ap (λ (x : ℕ). length (Y ++ expr_code b Γ x)) (sym y) ∙ code-length Y b Γ ∙ ap (λ (x : ℕ). expr_end b Γ x) y in
      let n1 : end ≡ z = n ∙ held-length C5 _ c5 ∙ k5 in
      let V = X ++ (u ∷ w ∷ []) in
      let g5 : Y ++ B ≡ V ++ (j ∷ B) = simp append_assoc in
      let v : length V ≡ m + 1 + 1 = length-append X (u ∷ w ∷ []) ∙ sym (length-append X (i ∷ w ∷ [])) ∙ ap length (sym (append_assoc X (i ∷ []) (w ∷ []))) ∙ k2 in
      l2 (V ++ (j ∷ B)) (c5 ∙ ap coded g5) (rw n1 (omega arith))
      ∙ ap coded (aimed-after V j B done end (d ∙ held-length C2 _ c2 ∙ k2 ∙ sym v) ∙ ap (λ (x : ℕ). V ++ (aim x j ∷ B)) n1 ∙ simp append_assoc)

-- the right operand, wherever the code stands
abbrev pub right_at : (n : ℕ) (s : List ℕ) (ts : List Token) (left : Typed) (Γ : Scope) (C : Held Instruction) (o : Operator) (a : Expr) (p : ℕ) (b : Expr) (at : ℕ) → at ≡ left.end + 1 →
    JoinAt n s ts left Γ C o a p b → (E : Held Instruction) (X : List Instruction) → E ≡ coded X → expr_end b Γ (length X) ≤ code_limit → ExprAt n s ts at Γ E b
right_at n s ts left Γ C o a p b at e j E X x l =
    record {
      rest = j.rest;
      code = X;
      placed = j.placed;
      few = j.few;
      grouped = j.grouped;
      ends = j.ends;
      stands = rw e (next_is (lexemes s ts) left.end j.mark _ j.stands);
      begun = x;
      room = l;
    }

-- The whole of each.

pub results_within : (g : Option Scalar) (p end : ℕ) (r : Result Typed Refusal) (lo hi : ℕ) → Results g p end r → lo < end → end ≤ hi → IfOk r (λ q. (lo < q.end) × (q.end ≤ hi))
results_within g p end (Ok r) lo hi h a b = let e = h.1 in (omega arith, omega arith)
results_within g p end (Err f) lo hi h a b = tt

module _ (n : ℕ) (s : List ℕ) (ts : List Token) (left : Typed) (Γ : Scope) (C : Held Instruction) (o : Operator) (a : Expr) (p : ℕ) (b : Expr) (h : JoinAt n s ts left Γ C o a p b) (t : Token) (mark-is : slice_get ts left.end ≡ Some t) where
  -- the mark's place
  pub mark_place : t.place ≡ p
  mark_place = place_is s ts left.end t h.mark _ mark-is h.stands ∙ h.place

  pub mark_placed : Placed p
  mark_placed = subst (λ (x : ℕ). Placed x) h.place (placed_at (lexemes s ts) left.end h.mark _ h.placed h.stands)

  pub strict_done : (right : Typed) (E D : Held Instruction) (r : Result Typed Refusal) → shape_of o ≡ strict →
      ExprDone s ts Γ E b h.rest (h.code ++ expr_code a Γ (length h.code)) (Ok right) → Operates E o left.kind t.place D → Results (result_of o left.kind right.kind) t.place right.end r →
      ExprDone s ts Γ D (binary o p a b) h.rest h.code r
  strict_done right E D r sh d f g =
      joined-done s ts Γ D o p a b h.rest h.code left.kind right t.place r h.typed d.0 d.1
      (strict_code o p a b Γ h.code E D left.kind sh h.room h.typed mark_placed d.2 (rw mark_place at f)) mark_place g

-- room for the right operand of `&&` after its jump
pub both_ready : (p : ℕ) (a b : Expr) (Γ : Scope) (code : List Instruction) (C C1 : Held Instruction) → expr_end (binary And p a b) Γ (length code) ≤ code_limit → Placed p →
    C ≡ coded (code ++ expr_code a Γ (length code)) → Emits C 15 0 p C1 → (X : List Instruction) × (C1 ≡ coded X) × (expr_end b Γ (length X) ≤ code_limit)
unfolding expr_end
both_ready p a b Γ code C C1 l q c e1 =
    let X = code ++ expr_code a Γ (length code) in
    let m = expr_end a Γ (length code) in
    let k : length X ≡ m = code-length code a Γ in
    let i = ins 15 (pos 0) p in
    let k1 : length (X ++ (i ∷ [])) ≡ m + 1 = length-append X (i ∷ []) ∙ ap (λ (x : ℕ). x + 1) k in
    let grows = expr_grows b Γ (m + 1) in
    (X ++ (i ∷ []), e1 X c (omega arith) (omega arith) q, rw k1 (omega arith))

-- room for the right operand of `||` after its jumps
pub either_ready : (p : ℕ) (a b : Expr) (Γ : Scope) (code : List Instruction) (C C1 C2 C3 C4 : Held Instruction) (otherwise start : ℕ) → expr_end (binary Or p a b) Γ (length code) ≤ code_limit → Placed p →
    C ≡ coded (code ++ expr_code a Γ (length code)) → Emits C 15 0 p C1 → Emits C1 0 1 p C2 → Emits C2 14 0 p C3 → start ≡ length C3.held → Lands C3 otherwise start C4 →
    (X : List Instruction) × (C4 ≡ coded X) × (expr_end b Γ (length X) ≤ code_limit)
unfolding expr_end
either_ready p a b Γ code C C1 C2 C3 C4 otherwise start l q c e1 e2 e3 o l1 =
    let X = code ++ expr_code a Γ (length code) in
    let m = expr_end a Γ (length code) in
    let k : length X ≡ m = code-length code a Γ in
    let grows = expr_grows b Γ (m + 1 + 1 + 1) in
    let i = ins 15 (pos 0) p in
    let w = ins 0 (pos 1) p in
    let j = ins 14 (pos 0) p in
    let X1 = X ++ (i ∷ []) in
    let X2 = X1 ++ (w ∷ []) in
    let X3 = X2 ++ (j ∷ []) in
    let k1 : length X1 ≡ m + 1 = length-append X (i ∷ []) ∙ ap (λ (x : ℕ). x + 1) k in
    let k2 : length X2 ≡ m + 1 + 1 = length-append X1 (w ∷ []) ∙ ap (λ (x : ℕ). x + 1) k1 in
    let k3 : length X3 ≡ m + 1 + 1 + 1 = length-append X2 (j ∷ []) ∙ ap (λ (x : ℕ). x + 1) k2 in
    let c3 : C3 ≡ coded X3 = e3 X2 (e2 X1 (e1 X c (omega arith) (omega arith) q) (omega arith) (omega arith) q) (omega arith) (omega arith) q in
    let o1 : start ≡ m + 1 + 1 + 1 = o ∙ held-length C3 _ c3 ∙ k3 in
    (aimed otherwise start X3, l1 X3 c3 (rw o1 (omega arith)), rw (aimed-length otherwise start X3, k3) (omega arith))

module _ (n : ℕ) (s : List ℕ) (ts : List Token) (left : Typed) (Γ : Scope) (C : Held Instruction) (a : Expr) (p : ℕ) (b : Expr) (t : Token) (mark-is : slice_get ts left.end ≡ Some t) (at : ℕ) (next : at ≡ left.end + 1) where
  -- the right operand of `&&`, after the jump over it
  abbrev pub both_right : (h : JoinAt n s ts left Γ C And a p b) (C1 : Held Instruction) → Emits C 15 0 t.place C1 → ExprAt n s ts at Γ C1 b
  both_right h C1 e1 =
      let m = mark_place n s ts left Γ C And a p b h t mark-is in
      let q = mark_placed n s ts left Γ C And a p b h t mark-is in
      let x = both_ready p a b Γ h.code C C1 h.room q h.begun (rw m at e1) in
      right_at n s ts left Γ C And a p b at next h C1 x.0 x.1 x.2

  pub both_done : (h : JoinAt n s ts left Γ C And a p b) (C1 C2 C3 C4 C5 D : Held Instruction) (skip done otherwise end : ℕ) (right : Typed) (r : Result Typed Refusal) → skip ≡ length C.held → Emits C 15 0 t.place C1 →
      ((x : ExprAt n s ts at Γ C1 b) → ExprDone s ts Γ C2 b x.rest x.code (Ok right)) →
      done ≡ length C2.held → Emits C2 14 0 t.place C3 → otherwise ≡ length C3.held → Lands C3 skip otherwise C4 → Emits C4 0 0 t.place C5 → end ≡ length C5.held → Lands C5 done end D →
      Results (result_of And left.kind right.kind) t.place right.end r → ExprDone s ts Γ D (binary And p a b) h.rest h.code r
  both_done h C1 C2 C3 C4 C5 D skip done otherwise end right r i e1 f j e2 k l1 e3 w l2 g =
      let m = mark_place n s ts left Γ C And a p b h t mark-is in
      let q = mark_placed n s ts left Γ C And a p b h t mark-is in
      let d = f (both_right h C1 e1) in
      joined-done s ts Γ D And p a b h.rest h.code left.kind right t.place r h.typed d.0 d.1
      (both_code p a b Γ h.code C C1 C2 C3 C4 C5 D skip done otherwise end h.room q h.begun i (rw m at e1)
      (λ X x l. (f (right_at n s ts left Γ C And a p b at next h C1 X x l)).2) j (rw m at e2) k l1 (rw m at e3) w l2) m g

  -- the right operand of `||`, after the jumps before it
  abbrev pub either_right : (h : JoinAt n s ts left Γ C Or a p b) (C1 C2 C3 C4 : Held Instruction) (otherwise start : ℕ) → Emits C 15 0 t.place C1 → Emits C1 0 1 t.place C2 → Emits C2 14 0 t.place C3 →
      start ≡ length C3.held → Lands C3 otherwise start C4 → ExprAt n s ts at Γ C4 b
  either_right h C1 C2 C3 C4 otherwise start e1 e2 e3 k l1 =
      let m = mark_place n s ts left Γ C Or a p b h t mark-is in
      let q = mark_placed n s ts left Γ C Or a p b h t mark-is in
      let x = either_ready p a b Γ h.code C C1 C2 C3 C4 otherwise start h.room q h.begun (rw m at e1) (rw m at e2) (rw m at e3) k l1 in
      right_at n s ts left Γ C Or a p b at next h C4 x.0 x.1 x.2

  pub either_done : (h : JoinAt n s ts left Γ C Or a p b) (C1 C2 C3 C4 C5 D : Held Instruction) (otherwise done start end : ℕ) (right : Typed) (r : Result Typed Refusal) → otherwise ≡ length C.held →
      Emits C 15 0 t.place C1 → Emits C1 0 1 t.place C2 → done ≡ length C2.held → Emits C2 14 0 t.place C3 → start ≡ length C3.held → Lands C3 otherwise start C4 →
      ((x : ExprAt n s ts at Γ C4 b) → ExprDone s ts Γ C5 b x.rest x.code (Ok right)) → end ≡ length C5.held → Lands C5 done end D →
      Results (result_of Or left.kind right.kind) t.place right.end r → ExprDone s ts Γ D (binary Or p a b) h.rest h.code r
  either_done h C1 C2 C3 C4 C5 D otherwise done start end right r i e1 e2 j e3 k l1 f w l2 g =
      let m = mark_place n s ts left Γ C Or a p b h t mark-is in
      let q = mark_placed n s ts left Γ C Or a p b h t mark-is in
      let d = f (either_right h C1 C2 C3 C4 otherwise start e1 e2 e3 k l1) in
      joined-done s ts Γ D Or p a b h.rest h.code left.kind right t.place r h.typed d.0 d.1
      (either_code p a b Γ h.code C C1 C2 C3 C4 C5 D otherwise done start end h.room q h.begun i (rw m at e1) (rw m at e2) j (rw m at e3) k l1
      (λ X x l. (f (right_at n s ts left Γ C Or a p b at next h C4 X x l)).2) w l2) m g

-- an operator other than `&&` and `||` takes both operands
pub other_strict : (o : Operator) → (o ≡ And → ⊥) → (o ≡ Or → ⊥) → shape_of o ≡ strict
other_strict O.Add f g = refl
other_strict O.Subtract f g = refl
other_strict O.Multiply f g = refl
other_strict O.Divide f g = refl
other_strict O.Remainder f g = refl
other_strict O.Less f g = refl
other_strict O.LessEqual f g = refl
other_strict O.Greater f g = refl
other_strict O.GreaterEqual f g = refl
other_strict O.Equal f g = refl
other_strict O.NotEqual f g = refl
other_strict O.And f g = absurd (f refl)
other_strict O.Or f g = absurd (g refl)
