-- What the first bytes of a rest say: the rules of their classes, and how far the rest goes at least.
use Rattle.std.proofs.Common.{◌≡◌, ℕ, ◌<◌, ◌≤◌, Bool, true, cond, not, ◌&&◌, ◌||◌, eqb, leb, List, [], ◌∷◌, length, get_or, sym, ap, ◌∙◌, subst, inl, inr, zero-le, arith}
use Rattle.std.specs.List.{prefix_len}
use Rattle.std.proofs.lemmas.List.{get_or_past}
use Rattle.std.proofs.lemmas.List.Sums.{prefix_len-drop_yes}
use Rattle.std.proofs.lemmas.Bool.{cases_lt, leb-true, eqb-true, and_parts, or_left}
use Rattle.lexer.specs.declared.class.Class.TheVariants.{Blank, Letter, Digit, Underscore, Quote, Mark, Stray}
use Rattle.lexer.specs.Classes.{class_of, is_blank, is_letter, is_digit, is_mark}
use Rattle.lexer.specs.Spelling.{begins}
use Rattle.lexer.specs.Constants.{is_hexadecimal, is_plain}
use Rattle.lexer.specs.Reading.{is_word, opens_hexadecimal}

-- a byte other than 0 that is read stands within the list
pub stands : (r : List ℕ) (i : ℕ) → (get_or r i 0 ≡ 0 → ⊥) → i < length r
stands r i f = elim (cases_lt i (length r)) [ inl h ↦ h | inr h ↦ absurd (f (get_or_past r i 0 h)) ]

-- a run that the first byte belongs to is not empty
pub run-begins : (p : ℕ → Bool) (r : List ℕ) → 0 < length r → p (get_or r 0 0) ≡ true → 0 < prefix_len p r
run-begins p r h e = subst (λ (n : ℕ). 0 < n) (sym (prefix_len-drop_yes p r 0 0 h e)) (omega arith)

-- the classes, back to their rules
letter_rule : (a b c d e f : Bool) → cond a Blank (cond b Letter (cond c Digit (cond d Underscore (cond e Quote (cond f Mark Stray))))) ≡ Letter → b ≡ true
letter_rule a b c d e f h = grind arith

digit_rule : (a b c d e f : Bool) → cond a Blank (cond b Letter (cond c Digit (cond d Underscore (cond e Quote (cond f Mark Stray))))) ≡ Digit → c ≡ true
digit_rule a b c d e f h = grind arith

pub letter_is : (b : ℕ) → class_of b ≡ Letter → is_letter b ≡ true
letter_is b h = letter_rule (is_blank b) (is_letter b) (is_digit b) (eqb b 95) (eqb b 39) (is_mark b) h

pub digit_is : (b : ℕ) → class_of b ≡ Digit → is_digit b ≡ true
digit_is b h = digit_rule (is_blank b) (is_letter b) (is_digit b) (eqb b 95) (eqb b 39) (is_mark b) h

pub letter_word : (b : ℕ) → class_of b ≡ Letter → is_word b ≡ true
letter_word b h = or_left (is_letter b) (is_digit b || eqb b 95) (letter_is b h)

-- a hexadecimal digit is not 0
pub hexadecimal_stands : (b : ℕ) → is_hexadecimal b ≡ true → b ≡ 0 → ⊥
hexadecimal_stands b e z = let f : is_hexadecimal 0 ≡ true = ap is_hexadecimal (sym z) ∙ e in let q : ◌≡◌ {A = ℕ} 0 1 = cc in omega arith

pub hexadecimal_digit : (r : List ℕ) → opens_hexadecimal r ≡ true → is_hexadecimal (get_or r 2 0) ≡ true
hexadecimal_digit r o =
    (and_parts (eqb (get_or r 1 0) 120) (is_hexadecimal (get_or r 2 0))
    (and_parts (eqb (get_or r 0 0) 48) (eqb (get_or r 1 0) 120 && is_hexadecimal (get_or r 2 0)) o).1).1

pub quote_stands : (b : ℕ) → eqb b 39 ≡ true → b ≡ 0 → ⊥
quote_stands b e z = omega (arith, eqb-true b 39 e)

pub plain_small : (b : ℕ) → is_plain b ≡ true → b ≤ 126
plain_small b p = leb-true b 126 (and_parts (leb 32 b) (leb b 126) (and_parts (leb 32 b && leb b 126) (not (eqb b 39) && not (eqb b 92)) p).0).1

-- what begins with a spelling is as long
pub begins_fits : (s r : List ℕ) → begins s r ≡ true → length s ≤ length r
begins_fits [] r e = zero-le
begins_fits (x ∷ s) [] e = let q : ◌≡◌ {A = ℕ} 0 1 = cc in omega arith
begins_fits (x ∷ s) (b ∷ r) e = omega (arith, begins_fits s r (and_parts _ _ e).1)
