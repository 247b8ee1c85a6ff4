-- What the codes of an operator do with its operands on the stack.
use Rattle.std.proofs.Common.{◌≡◌, ℕ, ◌+◌, Bool, true, false, cond, not, List, [], ◌∷◌, ℤ, pos, negsuc, ◌-ℤ◌, neg_ℤ, Some, None, refl, ap, ◌∙◌, arith, w8, w32}
use lib.Signed.{lt_z, le_z, rem_z, quot_z}
use mir.Syntax.{Width}
use Rattle.refusal.specs.Told.{accepted}
use Rattle.std.specs.Int.{int_wrap}
use Rattle.std.specs.List.{slice_get}
use Rattle.std.proofs.lemmas.Int.{ints}
use Rattle.std.proofs.lemmas.Bool.Decides.{nat_tests}
use Rattle.ints.specs.Arith.{is_zero, equal_z, flag, compute, changed, add_z, sub_z, mul_z, div_z}
use Rattle.ints.specs.declared.operator.Operator.{Operator as Plain}
use Rattle.ints.specs.declared.operator.Operator.TheVariants as O
use Rattle.ints.specs.declared.operator.Unary.{Unary as Single}
use Rattle.ints.specs.declared.operator.Unary.TheVariants as U
use Rattle.boards.specs.Meaning.{Meaning}
use Rattle.meaning.specs.declared.operator.Operator.{Operator}
use Rattle.meaning.specs.declared.operator.Operator.TheVariants.{Add, Subtract, Multiply, Divide, Remainder, Less, LessEqual, Greater, GreaterEqual, Equal, NotEqual, And, Or}
use Rattle.meaning.specs.Trees.{negate, invert}
use Rattle.meaning.specs.Values.{Value, of_bool, of_char, of_int, value_type, Result, gives, zero_divisor, mistyped, pair, arithmetic, division, relation, equality, same_truth, apply, apply_unary}
use Rattle.meaning.proofs.Fits.{Alike, both_bools, both_chars, both_ints, unlike, alike}
use Rattle.machine.specs.declared.instruction.Instruction.{Instruction}
use Rattle.machine.specs.Endings
use Rattle.machine.specs.Codes.{plain, binary, unary, operation_of}
use Rattle.machine.specs.Steps.{go, stop, step}
use Rattle.layout.proofs.Compiled.{ins, held, is_char, low, codes_of, strict, shape_of, plainly, past}
use Rattle.layout.proofs.Walk.{mach, Stands, Steps, here, on, step_is}
use Rattle.layout.proofs.Low.{low_of_wrapped}

-- whether a value is a char
abbrev pub is_of_char : Value → Bool
is_of_char v = is_char (accepted (value_type v))

-- not greater is less or equal
not_above : (x y : ℤ) → not (lt_z y x) ≡ le_z x y
not_above (pos a) (pos b) = grind (arith, nat_tests)
not_above (pos a) (negsuc b) = refl
not_above (negsuc a) (pos b) = refl
not_above (negsuc a) (negsuc b) = grind (arith, nat_tests)

-- minus, as a difference from 0
zero_minus : (x : ℤ) → pos 0 -ℤ x ≡ neg_ℤ x
zero_minus x = omega (arith, ints)

module _ (C : List Instruction) (p : ℕ) (c s : List ℤ) (l : ℕ) (b : Meaning) where
  -- two numbers on the stack
  pub takes_two : (o k : ℕ) (f : Plain) (x y z : ℤ) → slice_get C o ≡ Some (ins k (pos 0) p) → operation_of (ins k (pos 0) p) ≡ plain (binary f) → compute w32 f x y ≡ Some z →
      step C (mach c (y ∷ x ∷ s) o l b) ≡ go (mach c (z ∷ s) (o + 1) l b)
  takes_two o k f x y z e q h = step_is C (mach c (y ∷ x ∷ s) o l b) (ins k (pos 0) p) e ∙ rw (q, h) refl

  divides_by_zero : (o k : ℕ) (f : Plain) (x y : ℤ) → slice_get C o ≡ Some (ins k (pos 0) p) → operation_of (ins k (pos 0) p) ≡ plain (binary f) → compute w32 f x y ≡ None →
      step C (mach c (y ∷ x ∷ s) o l b) ≡ stop Endings.divided (mach c (y ∷ x ∷ s) o l b)
  divides_by_zero o k f x y e q h = step_is C (mach c (y ∷ x ∷ s) o l b) (ins k (pos 0) p) e ∙ rw (q, h) refl

  -- one number on the stack
  pub takes_one : (o k : ℕ) (f : Single) (x : ℤ) → slice_get C o ≡ Some (ins k (pos 0) p) → operation_of (ins k (pos 0) p) ≡ plain (unary f) →
      step C (mach c (x ∷ s) o l b) ≡ go (mach c (changed f x ∷ s) (o + 1) l b)
  takes_one o k f x e q = step_is C (mach c (x ∷ s) o l b) (ins k (pos 0) p) e ∙ rw q refl

  -- what the codes cs make of the operands v and w, where an operator comes to a result
  abbrev pub Makes : ℕ → List ℕ → Value → Value → Result → Type 0
  Makes o cs v w (gives z) = Steps C (mach c (held w ∷ held v ∷ s) o l b) (mach c (held z ∷ s) (past cs o) l b)
  Makes o cs v w zero_divisor = step C (mach c (held w ∷ held v ∷ s) o l b) ≡ stop Endings.divided (mach c (held w ∷ held v ∷ s) o l b)
  Makes o cs v w mistyped = Unit {0}

  -- a number goes through the low 8 bits, if it is a char's
  narrowed : (o : ℕ) (x y : ℤ) → Stands C o (plainly (low true) p) → int_wrap w8 x ≡ y → Steps C (mach c (x ∷ s) o l b) (mach c (y ∷ s) (past (low true) o) l b)
  narrowed o x y h e = on (takes_one o 9 U.Low x h.0 refl) (rw e here)

  arithmetic_makes : (o k : ℕ) (f : Plain) (g : Width → ℤ → ℤ → ℤ) → operation_of (ins k (pos 0) p) ≡ plain (binary f) →
      ((x y : ℤ) → compute w32 f x y ≡ Some (g w32 x y)) → ((x y : ℤ) → int_wrap w8 (g w32 x y) ≡ g w8 x y) →
      {v w : Value} → Alike v w → Stands C o (plainly (k ∷ low (is_of_char v)) p) → Makes o (k ∷ low (is_of_char v)) v w (arithmetic g (pair v w))
  unfolding arithmetic
  arithmetic_makes o k f g q h n both_bools t = tt
  arithmetic_makes o k f g q h n (both_chars {a = x} {b = y}) t = on (takes_two o k f x y _ t.0 q (h x y)) (narrowed (o + 1) _ _ t.1 (n x y))
  arithmetic_makes o k f g q h n (both_ints {a = x} {b = y}) t = on (takes_two o k f x y _ t.0 q (h x y)) here
  arithmetic_makes o k f g q h n (unlike {v} {w} a m) t = rw m tt

  -- a quotient, which is narrowed for chars
  quotient_makes : (o : ℕ) {v w : Value} → Alike v w → Stands C o (plainly (7 ∷ low (is_of_char v)) p) → Makes o (7 ∷ low (is_of_char v)) v w (division div_z (pair v w))
  unfolding division
  quotient_makes o both_bools t = tt
  quotient_makes o (both_chars {a = x} {b = y}) t = by (is_zero y) refl
    where
      by : (z : Bool) → is_zero y ≡ z → Makes o (7 ∷ 9 ∷ []) (of_char x) (of_char y) (cond z zero_divisor (gives (of_char (div_z w8 x y))))
      by true e = divides_by_zero o 7 O.Div x y t.0 refl (rw e refl)
      by false e = on (takes_two o 7 O.Div x y (div_z w32 x y) t.0 refl (rw e refl)) (narrowed (o + 1) _ _ t.1 (low_of_wrapped (quot_z x y)))
  quotient_makes o (both_ints {a = x} {b = y}) t = by (is_zero y) refl
    where
      by : (z : Bool) → is_zero y ≡ z → Makes o (7 ∷ []) (of_int x) (of_int y) (cond z zero_divisor (gives (of_int (div_z w32 x y))))
      by true e = divides_by_zero o 7 O.Div x y t.0 refl (rw e refl)
      by false e = on (takes_two o 7 O.Div x y (div_z w32 x y) t.0 refl (rw e refl)) here
  quotient_makes o (unlike {v} {w} a m) t = rw m tt

  -- a remainder, of chars or ints
  remainder_of : (o : ℕ) (x y : ℤ) (f : ℤ → Value) → ((z : ℤ) → held (f z) ≡ z) → slice_get C o ≡ Some (ins 8 (pos 0) p) →
      Makes o (8 ∷ []) (f x) (f y) (cond (is_zero y) zero_divisor (gives (f (rem_z x y))))
  remainder_of o x y f h t = by (is_zero y) refl
    where
      by : (z : Bool) → is_zero y ≡ z → Makes o (8 ∷ []) (f x) (f y) (cond z zero_divisor (gives (f (rem_z x y))))
      by true e = rw (h x, h y) (divides_by_zero o 8 O.Rem x y t refl (rw e refl))
      by false e = rw (h x, h y, h (rem_z x y)) (on (takes_two o 8 O.Rem x y (rem_z x y) t refl (rw e refl)) here)

  remainder_makes : (o : ℕ) {v w : Value} → Alike v w → slice_get C o ≡ Some (ins 8 (pos 0) p) → Makes o (8 ∷ []) v w (division (λ _ x y. rem_z x y) (pair v w))
  unfolding division
  remainder_makes o both_bools t = tt
  remainder_makes o (both_chars {a = x} {b = y}) t = remainder_of o x y of_char (λ z. refl) t
  remainder_makes o (both_ints {a = x} {b = y}) t = remainder_of o x y of_int (λ z. refl) t
  remainder_makes o (unlike {v} {w} a m) t = rw m tt

  -- a relation, whose code leaves 1 for true and 0 for false
  relation_makes : (o k : ℕ) (f : Plain) (g : ℤ → ℤ → Bool) → operation_of (ins k (pos 0) p) ≡ plain (binary f) → ((x y : ℤ) → compute w32 f x y ≡ Some (flag (g x y))) →
      {v w : Value} → Alike v w → slice_get C o ≡ Some (ins k (pos 0) p) → Makes o (k ∷ []) v w (relation g (pair v w))
  unfolding relation
  relation_makes o k f g q h both_bools t = tt
  relation_makes o k f g q h (both_chars {a = x} {b = y}) t = on (takes_two o k f x y _ t q (h x y)) here
  relation_makes o k f g q h (both_ints {a = x} {b = y}) t = on (takes_two o k f x y _ t q (h x y)) here
  relation_makes o k f g q h (unlike {v} {w} a m) t = rw m tt

  -- the same, turned round by a `not`
  turned : (a : Bool) → flag (is_zero (flag a)) ≡ flag (not a)
  turned true = refl
  turned false = refl

  inverse_makes : (o k : ℕ) (f : Plain) (g r : ℤ → ℤ → Bool) → operation_of (ins k (pos 0) p) ≡ plain (binary f) → ((x y : ℤ) → compute w32 f x y ≡ Some (flag (g x y))) →
      ((x y : ℤ) → not (g x y) ≡ r x y) → {v w : Value} → Alike v w → Stands C o (plainly (k ∷ 13 ∷ []) p) → Makes o (k ∷ 13 ∷ []) v w (relation r (pair v w))
  unfolding relation
  inverse_makes o k f g r q h n both_bools t = tt
  inverse_makes o k f g r q h n (both_chars {a = x} {b = y}) t =
      on (takes_two o k f x y _ t.0 q (h x y)) (on (takes_one (o + 1) 13 U.Not _ t.1.0 refl) (rw (turned (g x y), n x y) here))
  inverse_makes o k f g r q h n (both_ints {a = x} {b = y}) t =
      on (takes_two o k f x y _ t.0 q (h x y)) (on (takes_one (o + 1) 13 U.Not _ t.1.0 refl) (rw (turned (g x y), n x y) here))
  inverse_makes o k f g r q h n (unlike {v} {w} a m) t = rw m tt

  -- two truths are equal where their numbers are
  same_flags : (x y : Bool) → equal_z (flag x) (flag y) ≡ same_truth x y
  same_flags true true = refl
  same_flags true false = refl
  same_flags false true = refl
  same_flags false false = refl

  equal_makes : (o : ℕ) {v w : Value} → Alike v w → slice_get C o ≡ Some (ins 12 (pos 0) p) → Makes o (12 ∷ []) v w (equality (λ t. t) (pair v w))
  unfolding equality
  equal_makes o (both_bools {a = x} {b = y}) t = on (takes_two o 12 O.Equal (flag x) (flag y) _ t refl (ap (λ (e : Bool). Some (flag e)) (same_flags x y))) here
  equal_makes o (both_chars {a = x} {b = y}) t = on (takes_two o 12 O.Equal x y _ t refl refl) here
  equal_makes o (both_ints {a = x} {b = y}) t = on (takes_two o 12 O.Equal x y _ t refl refl) here
  equal_makes o (unlike {v} {w} a m) t = rw m tt

  unequal : (o : ℕ) (x y : ℤ) (e : Bool) → equal_z x y ≡ e → Stands C o (plainly (12 ∷ 13 ∷ []) p) →
      Steps C (mach c (y ∷ x ∷ s) o l b) (mach c (flag (not e) ∷ s) (past (12 ∷ 13 ∷ []) o) l b)
  unequal o x y e h t =
      on (takes_two o 12 O.Equal x y (flag e) t.0 refl (ap (λ (e : Bool). Some (flag e)) h)) (on (takes_one (o + 1) 13 U.Not _ t.1.0 refl) (rw (turned e) here))

  unequal_makes : (o : ℕ) {v w : Value} → Alike v w → Stands C o (plainly (12 ∷ 13 ∷ []) p) → Makes o (12 ∷ 13 ∷ []) v w (equality not (pair v w))
  unfolding equality
  unequal_makes o (both_bools {a = x} {b = y}) t = unequal o (flag x) (flag y) (same_truth x y) (same_flags x y) t
  unequal_makes o (both_chars {a = x} {b = y}) t = unequal o x y (equal_z x y) refl t
  unequal_makes o (both_ints {a = x} {b = y}) t = unequal o x y (equal_z x y) refl t
  unequal_makes o (unlike {v} {w} a m) t = rw m tt

  -- every operator that takes both operands from the stack
  pub apply_makes : (f : Operator) → shape_of f ≡ strict → (o : ℕ) (v w : Value) → Stands C o (plainly (codes_of f (is_of_char v)) p) →
      Makes o (codes_of f (is_of_char v)) v w (apply f v w)
  unfolding apply
  apply_makes Add h o v w t = arithmetic_makes o 4 O.Add add_z refl (λ x y. refl) (λ x y. low_of_wrapped _) (alike v w) t
  apply_makes Subtract h o v w t = arithmetic_makes o 5 O.Sub sub_z refl (λ x y. refl) (λ x y. low_of_wrapped _) (alike v w) t
  apply_makes Multiply h o v w t = arithmetic_makes o 6 O.Mul mul_z refl (λ x y. refl) (λ x y. low_of_wrapped _) (alike v w) t
  apply_makes Divide h o v w t = quotient_makes o (alike v w) t
  apply_makes Remainder h o v w t = remainder_makes o (alike v w) t.0
  apply_makes Less h o v w t = relation_makes o 10 O.Less lt_z refl (λ x y. refl) (alike v w) t.0
  apply_makes LessEqual h o v w t = inverse_makes o 11 O.Greater (λ x y. lt_z y x) le_z refl (λ x y. refl) not_above (alike v w) t
  apply_makes Greater h o v w t = relation_makes o 11 O.Greater (λ x y. lt_z y x) refl (λ x y. refl) (alike v w) t.0
  apply_makes GreaterEqual h o v w t = inverse_makes o 10 O.Less lt_z (λ x y. le_z y x) refl (λ x y. refl) (λ x y. not_above y x) (alike v w) t
  apply_makes Equal h o v w t = equal_makes o (alike v w) t.0
  apply_makes NotEqual h o v w t = unequal_makes o (alike v w) t
  apply_makes And h o v w t = let z : ◌≡◌ {A = ℕ} 0 1 = cc in absurd (omega arith)
  apply_makes Or h o v w t = let z : ◌≡◌ {A = ℕ} 0 1 = cc in absurd (omega arith)

  -- unary minus: the operand is taken from a 0 below it
  pub minus_makes : (o : ℕ) (v z : Value) → apply_unary negate v ≡ gives z → Stands C o (plainly (5 ∷ low (is_of_char v)) p) →
      Steps C (mach c (held v ∷ pos 0 ∷ s) o l b) (mach c (held z ∷ s) (past (5 ∷ low (is_of_char v)) o) l b)
  unfolding apply_unary
  minus_makes o (of_bool x) z h t = let e : ◌≡◌ {A = ℕ} 0 1 = cc in absurd (omega arith)
  minus_makes o (of_char x) z h t =
      let e : of_char (int_wrap w8 (neg_ℤ x)) ≡ z = cc in
      on (takes_two o 5 O.Sub (pos 0) x _ t.0 refl refl)
      (narrowed (o + 1) _ _ t.1 (low_of_wrapped _ ∙ ap (int_wrap w8) (zero_minus x) ∙ ap held e))
  minus_makes o (of_int x) z h t =
      let e : of_int (int_wrap w32 (neg_ℤ x)) ≡ z = cc in
      on (takes_two o 5 O.Sub (pos 0) x _ t.0 refl refl) (rw (zero_minus x, ap held e) here)

  -- `!`
  pub not_makes : (o : ℕ) (v z : Value) → apply_unary invert v ≡ gives z → slice_get C o ≡ Some (ins 13 (pos 0) p) →
      Steps C (mach c (held v ∷ s) o l b) (mach c (held z ∷ s) (o + 1) l b)
  unfolding apply_unary
  not_makes o (of_bool x) z h t =
      let e : of_bool (not x) ≡ z = cc in on (takes_one o 13 U.Not _ t refl) (rw (turned x, ap held e) here)
  not_makes o (of_char x) z h t = let e : ◌≡◌ {A = ℕ} 0 1 = cc in absurd (omega arith)
  not_makes o (of_int x) z h t = let e : ◌≡◌ {A = ℕ} 0 1 = cc in absurd (omega arith)
