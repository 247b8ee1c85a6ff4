-- No token that begins where a rest begins is longer than the front that is scanned there.
use Rattle.std.proofs.Common.{◌≡◌, ℕ, suc, ◌+◌, ◌≤◌, Bool, true, false, cond, ◌&&◌, eqb, ltb, leb, ◌⊎◌, List, [], ◌∷◌, ◌++◌, length, get_or, drop, Some, None, Option, sym, refl, ap, ◌∙◌, subst, inl, inr, zero-le, arith}
use Rattle.std.specs.List.{prefix_len}
use Rattle.std.proofs.lemmas.Bool.{leb-true, eqb-true, eqb-false, and_parts, or_left, cond-true, both_ways}
use Rattle.std.proofs.lemmas.Bool.Decides.{nat_tests}
use Rattle.lexer.specs.declared.class.Class.{Class}
use Rattle.lexer.specs.declared.class.Class.TheVariants.{Blank, Letter, Digit, Underscore, Quote, Mark, Stray}
use Rattle.lexer.specs.declared.kind.Kind.{Kind}
use Rattle.lexer.specs.Classes.{class_of, is_digit}
use Rattle.lexer.specs.Spelling.{spelling_of, keywords, marks, begins, mark_in, mark_at}
use Rattle.lexer.specs.Constants.{is_hexadecimal, is_plain, escapes, escape_in, escape_of}
use Rattle.lexer.specs.Reading.{is_word, opens_hexadecimal}
use Rattle.lexer.specs.Laws.{Every, Listed, IsToken, name, keyword, mark, decimal, hexadecimal, plain, escape}
use Rattle.lexer.proofs.Tokens.{each, letter_class, digit_class, plain_no_backslash}

-- the length of the front that is scanned, 0 if there is none

abbrev pub mark_reach : Option (Kind × ℕ) → ℕ
mark_reach (Some m) = m.1
mark_reach None = 0

abbrev pub escape_reach : Option ℕ → ℕ
escape_reach (Some v) = 4
escape_reach None = 0

abbrev pub character_reach : List ℕ → ℕ
character_reach r =
    cond (eqb (get_or r 1 0) 92 && eqb (get_or r 3 0) 39) (escape_reach (escape_of (get_or r 2 0)))
    (cond (is_plain (get_or r 1 0) && eqb (get_or r 2 0) 39) 3 0)

abbrev pub number_reach : Bool → List ℕ → ℕ
number_reach true r = 2 + prefix_len is_hexadecimal (drop 2 r)
number_reach false r = 0 + prefix_len is_digit r

abbrev pub reach_by : Class → List ℕ → ℕ
reach_by Blank r = 0
reach_by Letter r = prefix_len is_word r
reach_by Digit r = number_reach (opens_hexadecimal r) r
reach_by Underscore r = 0
reach_by Quote r = character_reach r
reach_by Mark r = mark_reach (mark_at r)
reach_by Stray r = 0

abbrev pub reach : List ℕ → ℕ
reach r = reach_by (class_of (get_or r 0 0)) r

-- a run goes at least as far as the bytes that pass
pub run_covers : (p : ℕ → Bool) (bs u : List ℕ) → Every p bs → length bs ≤ prefix_len p (bs ++ u)
run_covers p [] u h = zero-le
run_covers p (b ∷ bs) u h = subst (λ (n : ℕ). suc (length bs) ≤ n) (sym (cond-true (p b) (1 + prefix_len p (bs ++ u)) 0 h.0)) (omega (arith, run_covers p bs u h.1))

-- the first byte of some bytes, with more after them
first_class : (bs u : List ℕ) (c : Class) → class_of (get_or bs 0 0) ≡ c → ltb 0 (length bs) ≡ true → class_of (get_or (bs ++ u) 0 0) ≡ c
first_class [] u c e n = absurd (let b : ⊥ = cc in b)
first_class (b ∷ bs) u c e n = e

-- each keyword is a letter, then bytes of a word

all_word : List ℕ → Bool
all_word [] = true
all_word (b ∷ w) = is_word b && all_word w

every_word : (w : List ℕ) → all_word w ≡ true → Every is_word w
unfolding all_word
every_word [] e = tt
every_word (b ∷ w) e = let p = and_parts (is_word b) (all_word w) e in (p.0, every_word w p.1)

keyword_words : (k : Kind) → Listed k keywords → Every is_word (spelling_of k)
unfolding all_word
keyword_words k h = every_word (spelling_of k) (each (λ q. all_word (spelling_of q)) (λ q. true) k keywords refl h)

keyword_letter : (k : Kind) (u : List ℕ) → Listed k keywords → class_of (get_or (spelling_of k ++ u) 0 0) ≡ Letter
keyword_letter k u h = first_class (spelling_of k) u Letter (each (λ q. class_of (get_or (spelling_of q) 0 0)) (λ q. Letter) k keywords refl h) (each (λ q. ltb 0 (length (spelling_of q))) (λ q. true) k keywords refl h)

-- marks: the first that fits is the longest

pub begins_self : (s u : List ℕ) → begins s (s ++ u) ≡ true
begins_self [] u = refl
begins_self (x ∷ s) u = grind (arith, nat_tests, begins_self s u)

all_short : ℕ → List Kind → Bool
all_short n [] = true
all_short n (k ∷ ks) = leb (length (spelling_of k)) n && all_short n ks

falling : List Kind → Bool
falling [] = true
falling (k ∷ ks) = all_short (length (spelling_of k)) ks && falling ks

short : (n : ℕ) (ks : List Kind) (k : Kind) → all_short n ks ≡ true → Listed k ks → length (spelling_of k) ≤ n
unfolding all_short
short n [] k e h = absurd h
short n (q ∷ ks) k e (inl h) = subst (λ x. length (spelling_of x) ≤ n) (sym h) (leb-true _ _ (and_parts _ _ e).0)
short n (q ∷ ks) k e (inr h) = short n ks k (and_parts _ _ e).1 h

mark_covers : (ks : List Kind) (r : List ℕ) (k : Kind) → falling ks ≡ true → Listed k ks → begins (spelling_of k) r ≡ true → length (spelling_of k) ≤ mark_reach (mark_in ks r)
unfolding falling
mark_covers [] r k e h b = absurd h
mark_covers (q ∷ ks) r k e h b = go (begins (spelling_of q) r) refl h (λ h'. mark_covers ks r k (and_parts _ _ e).1 h' b)
  where
    go : (t : Bool) → begins (spelling_of q) r ≡ t → (k ≡ q) ⊎ Listed k ks → (Listed k ks → length (spelling_of k) ≤ mark_reach (mark_in ks r)) → length (spelling_of k) ≤ mark_reach (cond t (Some (q, length (spelling_of q))) (mark_in ks r))
    go true f (inl h') ih = subst (λ x. length (spelling_of k) ≤ length (spelling_of x)) h' (omega arith)
    go true f (inr h') ih = short (length (spelling_of q)) ks k (and_parts (all_short (length (spelling_of q)) ks) (falling ks) e).0 h'
    go false f (inl h') ih = absurd (both_ways _ f (ap (λ x. begins (spelling_of x) r) (sym h') ∙ b))
    go false f (inr h') ih = ih h'

-- how far the front goes, once its class is known
reach_as : (r : List ℕ) (c : Class) (n : ℕ) → class_of (get_or r 0 0) ≡ c → n ≤ reach_by c r → n ≤ reach r
reach_as r c n e h = subst (λ x. n ≤ reach_by x r) (sym e) h

number_reach_lem : (r : List ℕ) (t : Bool) (n : ℕ) → opens_hexadecimal r ≡ t → n ≤ number_reach t r → n ≤ reach_by Digit r
number_reach_lem r t n e h = subst (λ x. n ≤ number_reach x r) (sym e) h

decimal_covers : (d : ℕ) (ds u : List ℕ) → Every is_digit (d ∷ ds) → (t : Bool) → opens_hexadecimal (d ∷ (ds ++ u)) ≡ t → suc (length ds) ≤ number_reach t (d ∷ (ds ++ u))
decimal_covers d [] u h true e = omega arith
decimal_covers d (x ∷ ds) u h true e =
    let opens = and_parts (eqb d 48) (eqb x 120 && is_hexadecimal (get_or (ds ++ u) 0 0)) e in
    let is_x : x ≡ 120 = eqb-true x 120 (and_parts (eqb x 120) (is_hexadecimal (get_or (ds ++ u) 0 0)) opens.1).0 in
    let digit : is_digit 120 ≡ true = ap is_digit (sym is_x) ∙ h.1.0 in
    absurd (let b : ⊥ = cc in b)
decimal_covers d ds u h false e = omega (arith, run_covers is_digit (d ∷ ds) u h)

escape_listed : (es : List (ℕ × ℕ)) (c v : ℕ) → Listed (c, v) es → escape_reach (escape_in es c) ≡ 4
escape_listed [] c v h = absurd h
escape_listed (e ∷ es) c v h = go (eqb c e.0) refl h (λ h'. escape_listed es c v h')
  where
    go : (t : Bool) → eqb c e.0 ≡ t → ((c, v) ≡ e) ⊎ Listed (c, v) es → (Listed (c, v) es → escape_reach (escape_in es c) ≡ 4) → escape_reach (cond t (Some e.1) (escape_in es c)) ≡ 4
    go true f h ih = refl
    go false f (inl h) ih = absurd (eqb-false c e.0 f (ap (λ x. x.0) h))
    go false f (inr h) ih = ih h

mark_case : (k : Kind) (u : List ℕ) → Listed k marks → length (spelling_of k) ≤ reach (spelling_of k ++ u)
unfolding all_short falling
mark_case k u h =
    reach_as (spelling_of k ++ u) Mark (length (spelling_of k))
    (first_class (spelling_of k) u Mark (each (λ q. class_of (get_or (spelling_of q) 0 0)) (λ q. Mark) k marks refl h) (each (λ q. ltb 0 (length (spelling_of q))) (λ q. true) k marks refl h))
    (mark_covers marks (spelling_of k ++ u) k refl h (begins_self (spelling_of k) u))

plain_case : (v : ℕ) (u : List ℕ) → is_plain v ≡ true → character_reach (39 ∷ v ∷ 39 ∷ u) ≡ 3
plain_case v u h =
    ap (λ b. cond (b && eqb (get_or u 0 0) 39) (escape_reach (escape_of 39)) (cond (is_plain v && true) 3 0)) (plain_no_backslash v h)
    ∙ ap (λ b. cond (b && true) 3 0) h

-- the bytes of a token, with anything after them
pub covers : (bs u : List ℕ) (k : Kind) (v : ℕ) → IsToken bs k v → length bs ≤ reach (bs ++ u)
covers bs u k v (name b w e l h f n z) =
    subst (λ x. length x ≤ reach (x ++ u)) (sym e)
    (reach_as (b ∷ (w ++ u)) Letter (suc (length w)) (letter_class b l) (run_covers is_word (b ∷ w) u (or_left _ _ l, h)))
covers bs u k v (keyword h e z) =
    subst (λ x. length x ≤ reach (x ++ u)) (sym e)
    (reach_as (spelling_of k ++ u) Letter (length (spelling_of k)) (keyword_letter k u h) (run_covers is_word (spelling_of k) u (keyword_words k h)))
covers bs u k v (mark h e z) = subst (λ x. length x ≤ reach (x ++ u)) (sym e) (mark_case k u h)
covers bs u k v (decimal d ds e h n z) =
    subst (λ x. length x ≤ reach (x ++ u)) (sym e)
    (let h' : Every is_digit (d ∷ ds) = subst (Every is_digit) e h in
    reach_as (d ∷ (ds ++ u)) Digit (suc (length ds)) (digit_class d h'.0) (number_reach_lem (d ∷ (ds ++ u)) (opens_hexadecimal (d ∷ (ds ++ u))) (suc (length ds)) refl (decimal_covers d ds u h' (opens_hexadecimal (d ∷ (ds ++ u))) refl)))
covers bs u k v (hexadecimal d ds e h n z) =
    subst (λ x. length x ≤ reach (x ++ u)) (sym e)
    (number_reach_lem (48 ∷ 120 ∷ d ∷ (ds ++ u)) true _ h.0 (omega (arith, run_covers is_hexadecimal (d ∷ ds) u h)))
covers bs u k v (plain e h n) =
    subst (λ x. length x ≤ reach (x ++ u)) (sym e)
    (let w : character_reach (39 ∷ v ∷ 39 ∷ u) ≡ 3 = plain_case v u h in omega (arith, w))
covers bs u k v (escape c e h n) =
    subst (λ x. length x ≤ reach (x ++ u)) (sym e)
    (let w : escape_reach (escape_of c) ≡ 4 = escape_listed escapes c v h in omega (arith, w))
