-- What a token is, read back from its bytes: it has one kind and one value, and the reader's length for a front is that of the
-- longest token.
use Rattle.std.proofs.Common.{◌≡◌, ℕ, Bool, true, false, cond, eqb, List, [], ◌∷◌, map, get_or, drop, Some, None, Option, sym, refl, ap, ◌∙◌, subst, inl, inr, arith}
use Rattle.std.specs.Str.{bytes_eq}
use Rattle.std.proofs.lemmas.Slice.Eq.{bytes_eq-Decides}
use Rattle.std.proofs.lemmas.Bool.Decides.{nat_tests}
use Rattle.lexer.specs.declared.class.Class.{Class}
use Rattle.lexer.specs.declared.class.Class.TheVariants.{Blank, Letter, Digit, Underscore, Quote, Mark, Stray}
use Rattle.lexer.specs.declared.kind.Kind.{Kind}
use Rattle.lexer.specs.declared.kind.Kind.TheVariants.{Name, Number, Character}
use Rattle.lexer.specs.Classes.{class_of, is_letter, is_digit}
use Rattle.lexer.specs.Spelling.{spelling_of, keywords, marks, word_kind_in, word_kind}
use Rattle.lexer.specs.Constants.{value_of, is_plain, escapes, escape_of}
use Rattle.lexer.specs.Laws.{Every, Listed, IsToken, name, keyword, mark, decimal, hexadecimal, plain, escape}

-- one computed test over a list says what holds of each listed element
pub each : {X Y : Type 0} (f g : X → Y) (x : X) (xs : List X) → map f xs ≡ map g xs → Listed x xs → f x ≡ g x
each f g x [] e h = absurd h
each f g x (y ∷ ys) e (inl h) = let q : f y ≡ g y = cc in ap f h ∙ q ∙ ap g (sym h)
each f g x (y ∷ ys) e (inr h) = let q : map f ys ≡ map g ys = cc in each f g x ys q h

-- classes by rule

pub letter_class : (b : ℕ) → is_letter b ≡ true → class_of b ≡ Letter
letter_class b h = grind (arith, nat_tests)

pub digit_class : (b : ℕ) → is_digit b ≡ true → class_of b ≡ Digit
digit_class b h = grind (arith, nat_tests)

-- the kind and value that the bytes of a token have

abbrev value_in : Option ℕ → ℕ
value_in (Some v) = v
value_in None = 0

abbrev mark_kind_in : List Kind → List ℕ → Kind
mark_kind_in [] w = Name
mark_kind_in (k ∷ ks) w = cond (bytes_eq w (spelling_of k)) k (mark_kind_in ks w)

abbrev decode_by : Class → List ℕ → Kind × ℕ
decode_by Blank bs = (Name, 0)
decode_by Letter bs = (word_kind bs, 0)
decode_by Digit bs = (Number, cond (eqb (get_or bs 1 0) 120) (value_of 16 (drop 2 bs)) (value_of 10 bs))
decode_by Underscore bs = (Name, 0)
decode_by Quote bs = (Character, cond (eqb (get_or bs 1 0) 92) (value_in (escape_of (get_or bs 2 0))) (get_or bs 1 0))
decode_by Mark bs = (mark_kind_in marks bs, 0)
decode_by Stray bs = (Name, 0)

abbrev pub decode : List ℕ → Kind × ℕ
decode bs = decode_by (class_of (get_or bs 0 0)) bs

-- a word that is spelled as no listed keyword is a name
pub not_keyword : (ks : List Kind) (w : List ℕ) → ((q : Kind) → Listed q ks → w ≡ spelling_of q → ⊥) → word_kind_in ks w ≡ Name
not_keyword [] w f = refl
not_keyword (k ∷ ks) w f = go (bytes_eq w (spelling_of k)) refl (not_keyword ks w (λ q h. f q (inr h)))
  where
    go : (b : Bool) → bytes_eq w (spelling_of k) ≡ b → word_kind_in ks w ≡ Name → cond b k (word_kind_in ks w) ≡ Name
    go true e r = absurd (f k (inl refl) ((bytes_eq-Decides w (spelling_of k)).0 e))
    go false e r = r

-- digits are no `x`
pub digits_no_x : (d : ℕ) (ds : List ℕ) → Every is_digit (d ∷ ds) → eqb (get_or (d ∷ ds) 1 0) 120 ≡ false
digits_no_x d [] h = refl
digits_no_x d (e ∷ ds) h = let t = h.1.0 in grind (arith, nat_tests)

pub plain_no_backslash : (v : ℕ) → is_plain v ≡ true → eqb v 92 ≡ false
plain_no_backslash v h = grind (arith, nat_tests)

pub decoded : (bs : List ℕ) (k : Kind) (v : ℕ) → IsToken bs k v → decode bs ≡ (k, v)
decoded bs k v (name b w e l h f n z) =
    let c : class_of (get_or bs 0 0) ≡ Letter = ap (λ r. class_of (get_or r 0 0)) e ∙ letter_class b l in
    ap (λ q. decode_by q bs) c ∙ (λ i. (not_keyword keywords bs f i, 0)) ∙ (λ i. (sym n i, sym z i))
decoded bs k v (keyword h e z) =
    ap decode e ∙ each (λ q. decode (spelling_of q)) (λ q. (q, 0)) k keywords refl h ∙ (λ i. (k, sym z i))
decoded bs k v (mark h e z) =
    ap decode e ∙ each (λ q. decode (spelling_of q)) (λ q. (q, 0)) k marks refl h ∙ (λ i. (k, sym z i))
decoded bs k v (decimal d ds e h n z) =
    let h' : Every is_digit (d ∷ ds) = subst (Every is_digit) e h in
    let c : class_of (get_or bs 0 0) ≡ Digit = ap (λ r. class_of (get_or r 0 0)) e ∙ digit_class d h'.0 in
    let x : eqb (get_or bs 1 0) 120 ≡ false = ap (λ r. eqb (get_or r 1 0) 120) e ∙ digits_no_x d ds h' in
    ap (λ q. decode_by q bs) c ∙ (λ i. (Number, cond (x i) (value_of 16 (drop 2 bs)) (value_of 10 bs))) ∙ (λ i. (sym n i, sym z i))
decoded bs k v (hexadecimal d ds e h n z) = ap decode e ∙ (λ i. (sym n i, sym z i))
decoded bs k v (plain e h n) = ap decode e ∙ (λ i. (sym n i, cond (plain_no_backslash v h i) (value_in (escape_of 39)) v))
decoded bs k v (escape c e h n) =
    ap decode e ∙ (λ i. (sym n i, each (λ q. value_in (escape_of q.0)) (λ q. q.1) (c, v) escapes refl h i))

-- a token has one kind and one value
pub same_token : (bs : List ℕ) (k : Kind) (v : ℕ) (q : Kind) (w : ℕ) → IsToken bs k v → IsToken bs q w → (k ≡ q) × (v ≡ w)
same_token bs k v q w t u = let e = sym (decoded bs k v t) ∙ decoded bs q w u in (ap (λ p. p.0) e, ap (λ p. p.1) e)
