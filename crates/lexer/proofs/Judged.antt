-- The front where a token may begin, judged: it is the longest token there, or the fault that the language has for it.
use Rattle.std.proofs.Common.{◌≡◌, ℕ, suc, ◌+◌, ◌<◌, ◌≤◌, Bool, true, false, cond, ◌&&◌, eqb, ltb, leb, ◌⊎◌, List, [], ◌∷◌, length, get_or, take, drop, Some, None, Option, sym, refl, ap, ◌∙◌, subst, inl, inr, zero-le, le_of_suc-le-suc, not-suc-le-zero, zero-add, arith}
use Rattle.std.specs.List.{prefix_len}
use Rattle.std.specs.Str.{bytes_eq}
use Rattle.std.proofs.lemmas.Slice.Eq.{bytes_eq-Decides}
use Rattle.std.proofs.lemmas.List.{take-append-drop, length-take-le, get_or-take, get_or-drop, length-drop}
use Rattle.std.proofs.lemmas.List.Sums.{prefix_len-le-length}
use Rattle.std.proofs.lemmas.Bool.{leb-true, leb-false, eqb-true, and_parts, both_ways}
use Rattle.lexer.specs.declared.class.Class.{Class}
use Rattle.lexer.specs.declared.class.Class.TheVariants.{Blank, Letter, Digit, Underscore, Quote, Mark, Stray}
use Rattle.lexer.specs.declared.kind.Kind.{Kind}
use Rattle.lexer.specs.declared.kind.Kind.TheVariants.{Name, Number, Character}
use Rattle.lexer.specs.Classes.{class_of, is_blank, is_letter, is_digit, is_mark}
use Rattle.lexer.specs.Spelling.{spelling_of, keywords, marks, word_kind_in, word_kind, begins, mark_in, mark_at}
use Rattle.lexer.specs.Constants.{is_hexadecimal, value_of, greatest, is_plain, escapes, escape_in, escape_of}
use Rattle.lexer.specs.Reading.{Front, between, token, wrong, is_word, word_front, sized, opens_hexadecimal, number_by, number_front, escape_front, character_front, mark_front, token_front}
use Rattle.lexer.specs.Laws.{Every, Listed, IsToken, name, keyword, mark, decimal, hexadecimal, plain, escape, Longest, NoToken}
use Rattle.lexer.proofs.Tokens.{each}
use Rattle.lexer.proofs.Cover.{mark_reach, escape_reach, number_reach, reach_by, reach, covers}
use Rattle.lexer.proofs.Fronts.{stands, run-begins, letter_is, digit_is, letter_word, hexadecimal_digit, hexadecimal_stands, quote_stands, plain_small, begins_fits}

-- what the front says of the rest r
abbrev pub Judged : List ℕ → Front → Type 0
Judged r (between s k) = ⊥
Judged r (token k n v) = Longest r n k v × (v ≤ greatest)
Judged r (wrong m) =
    ((m ≡ 4) × (get_or r 0 0 ≡ 39 → ⊥) × NoToken r)
    ⊎ (((m ≡ 6) × (get_or r 0 0 ≡ 39) × NoToken r)
    ⊎ ((m ≡ 7) × (n : ℕ) × (v : ℕ) × Longest r n Number v × (greatest < v)))

-- a token has at least one byte
token_bytes : (bs : List ℕ) (k : Kind) (v : ℕ) → IsToken bs k v → 0 < length bs
token_bytes bs k v (name b w e l h f n z) = omega (arith, ap length e)
token_bytes bs k v (keyword h e z) = omega (arith, ap length e, leb-true _ _ (each (λ q. ltb 0 (length (spelling_of q))) (λ q. true) k keywords refl h))
token_bytes bs k v (mark h e z) = omega (arith, ap length e, leb-true _ _ (each (λ q. ltb 0 (length (spelling_of q))) (λ q. true) k marks refl h))
token_bytes bs k v (decimal d ds e h n z) = omega (arith, ap length e)
token_bytes bs k v (hexadecimal d ds e h n z) = omega (arith, ap length e)
token_bytes bs k v (plain e h n) = omega (arith, ap length e)
token_bytes bs k v (escape c e h n) = omega (arith, ap length e)

-- no token at the front of r is longer than the front that is scanned
at_most : (r : List ℕ) (m : ℕ) (q : Kind) (w : ℕ) → m ≤ length r → IsToken (take m r) q w → m ≤ reach r
at_most r m q w h t =
    let c : length (take m r) ≤ reach r = subst (λ x. length (take m r) ≤ reach x) (take-append-drop m r) (covers (take m r) (drop m r) q w t) in
    omega (arith, length-take-le m r h)

longest_by : (r : List ℕ) (n : ℕ) (k : Kind) (v : ℕ) → n ≤ length r → IsToken (take n r) k v → reach r ≡ n → Longest r n k v
longest_by r n k v h t e = record { within = h; is = t; most = λ m q w fits u. omega (arith, at_most r m q w fits u) }

no_token : (r : List ℕ) → reach r ≡ 0 → NoToken r
no_token r e m q w fits u = omega (arith, at_most r m q w fits u, token_bytes (take m r) q w u, length-take-le m r fits)

-- runs

plus_one : (n : ℕ) → suc n ≡ 1 + n
plus_one n = omega arith

every_leading : (p : ℕ → Bool) (r : List ℕ) → Every p (take (prefix_len p r) r)
every_leading p [] = tt
every_leading p (b ∷ r) = go (p b) refl (every_leading p r)
  where
    go : (t : Bool) → p b ≡ t → Every p (take (prefix_len p r) r) → Every p (take (cond t (1 + prefix_len p r) 0) (b ∷ r))
    go true e ih = subst (λ n. Every p (take n (b ∷ r))) (plus_one (prefix_len p r)) (e, ih)
    go false e ih = tt

-- words

-- a word that is not so spelled, and not as a later keyword
apart : (k : Kind) (ks : List Kind) (w : List ℕ) (q : Kind) → bytes_eq w (spelling_of k) ≡ false → (q ≡ k) ⊎ Listed q ks → w ≡ spelling_of q → ((q : Kind) → Listed q ks → w ≡ spelling_of q → ⊥) → ⊥
apart k ks w q e (inl h) f g = both_ways _ e ((bytes_eq-Decides w (spelling_of k)).1 (f ∙ ap spelling_of h))
apart k ks w q e (inr h) f g = g q h f

word_kinds : (ks : List Kind) (w : List ℕ) → (Listed (word_kind_in ks w) ks × (w ≡ spelling_of (word_kind_in ks w))) ⊎ ((word_kind_in ks w ≡ Name) × ((q : Kind) → Listed q ks → w ≡ spelling_of q → ⊥))
word_kinds [] w = inr (refl, λ q h e. h)
word_kinds (k ∷ ks) w = go (bytes_eq w (spelling_of k)) refl (word_kinds ks w)
  where
    go : (t : Bool) → bytes_eq w (spelling_of k) ≡ t → (Listed (word_kind_in ks w) ks × (w ≡ spelling_of (word_kind_in ks w))) ⊎ ((word_kind_in ks w ≡ Name) × ((q : Kind) → Listed q ks → w ≡ spelling_of q → ⊥)) → (((cond t k (word_kind_in ks w) ≡ k) ⊎ Listed (cond t k (word_kind_in ks w)) ks) × (w ≡ spelling_of (cond t k (word_kind_in ks w)))) ⊎ ((cond t k (word_kind_in ks w) ≡ Name) × ((q : Kind) → (q ≡ k) ⊎ Listed q ks → w ≡ spelling_of q → ⊥))
    go true e ih = inl (inl refl, (bytes_eq-Decides w (spelling_of k)).0 e)
    go false e (inl ih) = inl (inr ih.0, ih.1)
    go false e (inr ih) = inr (ih.0, λ q h f. apart k ks w q e h f ih.1)

word_token : (w : List ℕ) → 0 < length w → is_letter (get_or w 0 0) ≡ true → Every is_word w → IsToken w (word_kind w) 0
word_token [] h l e = absurd (not-suc-le-zero h)
word_token (b ∷ w) h l e = go (word_kinds keywords (b ∷ w))
  where
    go : (Listed (word_kind (b ∷ w)) keywords × (b ∷ w ≡ spelling_of (word_kind (b ∷ w)))) ⊎ ((word_kind (b ∷ w) ≡ Name) × ((q : Kind) → Listed q keywords → b ∷ w ≡ spelling_of q → ⊥)) → IsToken (b ∷ w) (word_kind (b ∷ w)) 0
    go (inl p) = keyword p.0 p.1 refl
    go (inr p) = name b w refl l e.1 p.1 p.0 refl

judged_word : (r : List ℕ) → 0 < length r → class_of (get_or r 0 0) ≡ Letter → Judged r (word_front r)
judged_word r h e =
    let n = prefix_len is_word r in
    let more : 0 < prefix_len is_word r = run-begins is_word r h (letter_word (get_or r 0 0) e) in
    let size = length-take-le (prefix_len is_word r) r (prefix_len-le-length is_word r) in
    let first : get_or (take (prefix_len is_word r) r) 0 0 ≡ get_or r 0 0 = get_or-take (prefix_len is_word r) r 0 0 more in (
      longest_by r (prefix_len is_word r) (word_kind (take (prefix_len is_word r) r)) 0 (prefix_len-le-length is_word r)
          (word_token (take (prefix_len is_word r) r) (omega (arith, size)) (ap is_letter first ∙ letter_is (get_or r 0 0) e) (every_leading is_word r))
          (ap (λ c. reach_by c r) e),
      zero-le,
    )

-- numbers

decimal_token : (w : List ℕ) → 0 < length w → Every is_digit w → IsToken w Number (value_of 10 w)
decimal_token [] h e = absurd (not-suc-le-zero h)
decimal_token (d ∷ ds) h e = decimal d ds refl e refl refl

hexadecimal_token : (w : List ℕ) → 0 < length w → Every is_hexadecimal w → IsToken (48 ∷ 120 ∷ w) Number (value_of 16 w)
hexadecimal_token [] h e = absurd (not-suc-le-zero h)
hexadecimal_token (d ∷ ds) h e = hexadecimal d ds refl e refl refl

-- the bytes after `0x`
prefix : (r : List ℕ) (m : ℕ) → opens_hexadecimal r ≡ true → take (2 + m) r ≡ 48 ∷ 120 ∷ take m (drop 2 r)
prefix [] m e = absurd (let b : ⊥ = cc in b)
prefix (a ∷ []) m e = let f : false ≡ true = (and_parts (eqb a 48) false e).1 in absurd (let b : ⊥ = cc in b)
prefix (a ∷ b ∷ r) m e =
    let p = and_parts (eqb a 48) (eqb b 120 && is_hexadecimal (get_or r 0 0)) e in
    let x : a ≡ 48 = eqb-true a 48 p.0 in
    let y : b ≡ 120 = eqb-true b 120 (and_parts (eqb b 120) (is_hexadecimal (get_or r 0 0)) p.1).0 in
    let two : 2 + m ≡ suc (suc m) = omega arith in
    ap (λ n. take n (a ∷ b ∷ r)) two ∙ (λ i. x i ∷ y i ∷ take m r)

hex_first : (r : List ℕ) → opens_hexadecimal r ≡ true → is_hexadecimal (get_or (drop 2 r) 0 0) ≡ true
hex_first r o = ap is_hexadecimal (get_or-drop 2 r 0 0) ∙ hexadecimal_digit r o

judged-sized : (r : List ℕ) (n v : ℕ) → Longest r n Number v → Judged r (sized n v)
judged-sized r n v l = go (leb v greatest) refl
  where
    go : (t : Bool) → leb v greatest ≡ t → Judged r (cond t (token Number n v) (wrong 7))
    go true e = (l, leb-true v greatest e)
    go false e = inr (inr (refl, n, v, l, leb-false v greatest e))

judged_number : (r : List ℕ) → 0 < length r → class_of (get_or r 0 0) ≡ Digit → Judged r (number_front r)
judged_number r h e = go (opens_hexadecimal r) refl
  where
    go : (t : Bool) → opens_hexadecimal r ≡ t → Judged r (number_by t r)
    go true o =
        let far : 2 < length r = stands r 2 (hexadecimal_stands (get_or r 2 0) (hexadecimal_digit r o)) in
        let m : ℕ = prefix_len is_hexadecimal (drop 2 r) in
        let long : prefix_len is_hexadecimal (drop 2 r) ≤ length (drop 2 r) = prefix_len-le-length is_hexadecimal (drop 2 r) in
        let begun : 0 < prefix_len is_hexadecimal (drop 2 r) = run-begins is_hexadecimal (drop 2 r) (omega (arith, length-drop 2 r)) (hex_first r o) in
        judged-sized r (2 + prefix_len is_hexadecimal (drop 2 r)) (value_of 16 (take (prefix_len is_hexadecimal (drop 2 r)) (drop 2 r)))
        (longest_by r (2 + prefix_len is_hexadecimal (drop 2 r)) Number (value_of 16 (take (prefix_len is_hexadecimal (drop 2 r)) (drop 2 r)))
        (omega (arith, length-drop 2 r))
        (subst (λ w. IsToken w Number (value_of 16 (take (prefix_len is_hexadecimal (drop 2 r)) (drop 2 r)))) (sym (prefix r (prefix_len is_hexadecimal (drop 2 r)) o))
        (hexadecimal_token (take (prefix_len is_hexadecimal (drop 2 r)) (drop 2 r)) (omega (arith, length-take-le (prefix_len is_hexadecimal (drop 2 r)) (drop 2 r) long)) (every_leading is_hexadecimal (drop 2 r))))
        (ap (λ c. reach_by c r) e ∙ ap (λ t. number_reach t r) o))
    go false o =
        let long : prefix_len is_digit r ≤ length r = prefix_len-le-length is_digit r in
        let begun : 0 < prefix_len is_digit r = run-begins is_digit r h (digit_is (get_or r 0 0) e) in
        judged-sized r (0 + prefix_len is_digit r) (value_of 10 (take (prefix_len is_digit r) r))
        (longest_by r (0 + prefix_len is_digit r) Number (value_of 10 (take (prefix_len is_digit r) r))
        (omega arith)
        (subst (λ n. IsToken (take n r) Number (value_of 10 (take (prefix_len is_digit r) r))) (sym (zero-add (prefix_len is_digit r)))
        (decimal_token (take (prefix_len is_digit r) r) (omega (arith, length-take-le (prefix_len is_digit r) r long)) (every_leading is_digit r)))
        (ap (λ c. reach_by c r) e ∙ ap (λ t. number_reach t r) o))

-- character constants

quote_rule : (a b c d e f : Bool) → cond a Blank (cond b Letter (cond c Digit (cond d Underscore (cond e Quote (cond f Mark Stray))))) ≡ Quote → e ≡ true
quote_rule a b c d e f h = grind arith

quote_is : (b : ℕ) → class_of b ≡ Quote → b ≡ 39
quote_is b h = eqb-true b 39 (quote_rule (is_blank b) (is_letter b) (is_digit b) (eqb b 95) (eqb b 39) (is_mark b) h)

escape_found : (es : List (ℕ × ℕ)) (c v : ℕ) → escape_in es c ≡ Some v → Listed (c, v) es
escape_found [] c v e = absurd (let b : ⊥ = cc in b)
escape_found (x ∷ es) c v e = go (eqb c x.0) refl e (escape_found es c v)
  where
    go : (t : Bool) → eqb c x.0 ≡ t → cond t (Some x.1) (escape_in es c) ≡ Some v → (escape_in es c ≡ Some v → Listed (c, v) es) → ((c, v) ≡ x) ⊎ Listed (c, v) es
    go true t e ih = let w : x.1 ≡ v = cc in inl (λ i. (eqb-true c x.0 t i, sym w i))
    go false t e ih = inr (ih e)

-- the bytes of a constant, one by one
three : (r : List ℕ) → 2 < length r → take 3 r ≡ get_or r 0 0 ∷ get_or r 1 0 ∷ get_or r 2 0 ∷ []
three [] h = absurd (not-suc-le-zero h)
three (a ∷ []) h = absurd (not-suc-le-zero (le_of_suc-le-suc h))
three (a ∷ b ∷ []) h = absurd (not-suc-le-zero (le_of_suc-le-suc (le_of_suc-le-suc h)))
three (a ∷ b ∷ c ∷ r) h = refl

four : (r : List ℕ) → 3 < length r → take 4 r ≡ get_or r 0 0 ∷ get_or r 1 0 ∷ get_or r 2 0 ∷ get_or r 3 0 ∷ []
four [] h = absurd (not-suc-le-zero h)
four (a ∷ []) h = absurd (not-suc-le-zero (le_of_suc-le-suc h))
four (a ∷ b ∷ []) h = absurd (not-suc-le-zero (le_of_suc-le-suc (le_of_suc-le-suc h)))
four (a ∷ b ∷ c ∷ []) h = absurd (not-suc-le-zero (le_of_suc-le-suc (le_of_suc-le-suc (le_of_suc-le-suc h))))
four (a ∷ b ∷ c ∷ d ∷ r) h = refl

-- the values of escapes are small
small_escape : (c v : ℕ) → Listed (c, v) escapes → v ≤ greatest
small_escape c v h = leb-true v greatest (each (λ e. leb e.1 greatest) (λ e. true) (c, v) escapes refl h)

judged_escape : (r : List ℕ) (o : Option ℕ) → get_or r 0 0 ≡ 39 → get_or r 1 0 ≡ 92 → eqb (get_or r 3 0) 39 ≡ true → escape_of (get_or r 2 0) ≡ o → reach r ≡ escape_reach o → Judged r (escape_front o)
judged_escape r (Some v) q b s o n =
    let far : 3 < length r = stands r 3 (quote_stands (get_or r 3 0) s) in
    let bytes : take 4 r ≡ 39 ∷ 92 ∷ get_or r 2 0 ∷ 39 ∷ [] = four r far ∙ (λ i. q i ∷ b i ∷ get_or r 2 0 ∷ eqb-true (get_or r 3 0) 39 s i ∷ []) in
    let found : Listed (get_or r 2 0, v) escapes = escape_found escapes (get_or r 2 0) v o in
    (longest_by r 4 Character v far (escape (get_or r 2 0) bytes found refl) n, small_escape (get_or r 2 0) v found)
judged_escape r None q b s o n = inr (inl (refl, q, no_token r n))

judged-plain : (r : List ℕ) → get_or r 0 0 ≡ 39 → is_plain (get_or r 1 0) ≡ true → eqb (get_or r 2 0) 39 ≡ true → reach r ≡ 3 → Judged r (token Character 3 (get_or r 1 0))
judged-plain r q p s n =
    let far : 2 < length r = stands r 2 (quote_stands (get_or r 2 0) s) in
    let bytes : take 3 r ≡ 39 ∷ get_or r 1 0 ∷ 39 ∷ [] = three r far ∙ (λ i. q i ∷ get_or r 1 0 ∷ eqb-true (get_or r 2 0) 39 s i ∷ []) in
    let most : get_or r 1 0 ≤ 126 = plain_small (get_or r 1 0) p in
    (longest_by r 3 Character (get_or r 1 0) far (plain bytes p refl) n, omega arith)

judged_character : (r : List ℕ) → class_of (get_or r 0 0) ≡ Quote → Judged r (character_front r)
judged_character r e = go (eqb (get_or r 1 0) 92 && eqb (get_or r 3 0) 39) refl (ap (λ c. reach_by c r) e)
  where
    q : get_or r 0 0 ≡ 39
    q = quote_is (get_or r 0 0) e

    other : (t : Bool) → (is_plain (get_or r 1 0) && eqb (get_or r 2 0) 39) ≡ t → reach r ≡ cond t 3 0 → Judged r (cond t (token Character 3 (get_or r 1 0)) (wrong 6))
    other true f n = let p = and_parts (is_plain (get_or r 1 0)) (eqb (get_or r 2 0) 39) f in judged-plain r q p.0 p.1 n
    other false f n = inr (inl (refl, q, no_token r n))

    go : (t : Bool) → (eqb (get_or r 1 0) 92 && eqb (get_or r 3 0) 39) ≡ t → reach r ≡ cond t (escape_reach (escape_of (get_or r 2 0))) (cond (is_plain (get_or r 1 0) && eqb (get_or r 2 0) 39) 3 0) → Judged r (cond t (escape_front (escape_of (get_or r 2 0))) (cond (is_plain (get_or r 1 0) && eqb (get_or r 2 0) 39) (token Character 3 (get_or r 1 0)) (wrong 6)))
    go true f n = let p = and_parts (eqb (get_or r 1 0) 92) (eqb (get_or r 3 0) 39) f in judged_escape r (escape_of (get_or r 2 0)) q (eqb-true (get_or r 1 0) 92 p.0) p.1 refl n
    go false f n = other (is_plain (get_or r 1 0) && eqb (get_or r 2 0) 39) refl n

-- marks

begins-take : (s r : List ℕ) → begins s r ≡ true → take (length s) r ≡ s
begins-take [] r e = refl
begins-take (x ∷ s) [] e = absurd (let b : ⊥ = cc in b)
begins-take (x ∷ s) (b ∷ r) e = let p = and_parts (eqb b x) (begins s r) e in λ i. eqb-true b x p.0 i ∷ begins-take s r p.1 i

abbrev MarkFound : List Kind → List ℕ → Option (Kind × ℕ) → Type 0
MarkFound ks r (Some m) = Listed m.0 ks × (m.1 ≡ length (spelling_of m.0)) × (begins (spelling_of m.0) r ≡ true)
MarkFound ks r None = Unit {0}

later : (k : Kind) (ks : List Kind) (r : List ℕ) (o : Option (Kind × ℕ)) → MarkFound ks r o → MarkFound (k ∷ ks) r o
later k ks r (Some m) h = (inr h.0, h.1, h.2)
later k ks r None h = tt

mark_found : (ks : List Kind) (r : List ℕ) → MarkFound ks r (mark_in ks r)
mark_found [] r = tt
mark_found (k ∷ ks) r = go (begins (spelling_of k) r) refl (mark_found ks r)
  where
    go : (t : Bool) → begins (spelling_of k) r ≡ t → MarkFound ks r (mark_in ks r) → MarkFound (k ∷ ks) r (cond t (Some (k, length (spelling_of k))) (mark_in ks r))
    go true e ih = (inl refl, refl, e)
    go false e ih = later k ks r (mark_in ks r) ih

-- a byte of another class is no quote
no_quote : (b : ℕ) (c : Class) → class_of b ≡ c → (Quote ≡ c → ⊥) → b ≡ 39 → ⊥
no_quote b c e f h = f (sym (ap class_of h) ∙ e)

judged_mark : (r : List ℕ) (o : Option (Kind × ℕ)) → MarkFound marks r o → reach r ≡ mark_reach o → class_of (get_or r 0 0) ≡ Mark → Judged r (mark_front o)
judged_mark r (Some m) f n e =
    let fits : m.1 ≤ length r = subst (λ x. x ≤ length r) (sym f.1) (begins_fits (spelling_of m.0) r f.2) in
    let bytes : take m.1 r ≡ spelling_of m.0 = ap (λ x. take x r) f.1 ∙ begins-take (spelling_of m.0) r f.2 in
    (longest_by r m.1 m.0 0 fits (mark f.0 bytes refl) n, zero-le)
judged_mark r None f n e = inl (refl, no_quote (get_or r 0 0) Mark e (λ h. let z : ◌≡◌ {A = ℕ} 0 1 = cc in omega arith), no_token r n)

pub judged : (r : List ℕ) → 0 < length r → Judged r (token_front (class_of (get_or r 0 0)) r)
judged r h = go (class_of (get_or r 0 0)) refl
  where
    go : (c : Class) → class_of (get_or r 0 0) ≡ c → Judged r (token_front c r)
    go Blank e = inl (refl, no_quote (get_or r 0 0) Blank e (λ h. let z : ◌≡◌ {A = ℕ} 0 1 = cc in omega arith), no_token r (ap (λ c. reach_by c r) e))
    go Letter e = judged_word r h e
    go Digit e = judged_number r h e
    go Underscore e = inl (refl, no_quote (get_or r 0 0) Underscore e (λ h. let z : ◌≡◌ {A = ℕ} 0 1 = cc in omega arith), no_token r (ap (λ c. reach_by c r) e))
    go Quote e = judged_character r e
    go Mark e = judged_mark r (mark_at r) (mark_found marks r) (ap (λ c. reach_by c r) e) e
    go Stray e = inl (refl, no_quote (get_or r 0 0) Stray e (λ h. let z : ◌≡◌ {A = ℕ} 0 1 = cc in omega arith), no_token r (ap (λ c. reach_by c r) e))

-- the longest token has at least one byte
pub longest_bytes : (r : List ℕ) (n : ℕ) (k : Kind) (v : ℕ) → Longest r n k v → 0 < n
longest_bytes r n k v l = omega (arith, token_bytes (take n r) k v l.is, length-take-le n r l.within)

-- the token at the front takes up at least one byte, lies within the rest, and its value is a number of the language
pub bounded : (r : List ℕ) (k : Kind) (n v : ℕ) → 0 < length r → token_front (class_of (get_or r 0 0)) r ≡ token k n v → (0 < n) × (n ≤ length r) × (v ≤ greatest)
bounded r k n v h e =
    let j : Judged r (token k n v) = subst (Judged r) e (judged r h) in
    (longest_bytes r n k v j.0, j.0.within, j.1)
