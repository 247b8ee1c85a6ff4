-- The reading of a source is the one that the relation allows.
use Rattle.std.proofs.Common.{◌≡◌, ℕ, zero, suc, ◌+◌, ◌-◌, ◌<◌, ◌≤◌, Bool, true, false, cond, ◌&&◌, eqb, ◌⊎◌, List, [], ◌∷◌, length, drop, sym, refl, ap, ◌∙◌, subst, inl, inr, zero-le, le_of_suc-le-suc, not-suc-le-zero, add-zero, add-one, arith}
use Rattle.std.proofs.lemmas.List.{length-drop}
use Rattle.std.proofs.lemmas.Bool.{eqb-true, eqb-false, ne_eqb, and_parts, and_left, both_ways}
use Rattle.lexer.specs.declared.class.Class.{Class}
use Rattle.lexer.specs.declared.class.Class.TheVariants.{Blank, Letter, Digit, Underscore, Quote, Mark, Stray}
use Rattle.lexer.specs.declared.kind.Token.{Token}
use Rattle.lexer.specs.declared.reader.State.{State}
use Rattle.lexer.specs.declared.reader.State.TheVariants.{Code, LineComment, LongComment}
use Rattle.lexer.specs.Classes.{class_of, is_blank, is_letter, is_digit, is_mark}
use Rattle.lexer.specs.Spelling.{begins}
use Rattle.lexer.specs.Reading.{Front, between, token, wrong, token_front, comment_or, code_front, front, Fault, none, fault, Reading, stopped, ended, follow, reading_from}
use Rattle.lexer.specs.Laws.{Line, feed, end, more, Long, close, further, Unclosed, Gap, empty, blank, line, long, Begins, stray, unclosed, bad_character, too_large, too_many, Reads}
use Rattle.lexer.proofs.Ahead.{skipped}
use Rattle.lexer.proofs.Judged.{Judged, judged, longest_bytes}

-- gaps

pub gap-then : {p m q : ℕ} {t r u : List ℕ} → Gap p t m r → Gap m r q u → Gap p t q u
gap-then empty h = h
gap-then (blank e g) h = blank e (gap-then g h)
gap-then (line l g) h = line l (gap-then g h)
gap-then (long l g) h = long l (gap-then g h)

-- a gap before what reads
prepend : (room p m : ℕ) (t r : List ℕ) (ts : List Token) (f : Fault) → Gap p t m r → Reads room m r ts f → Reads room p t ts f
prepend room p m t r [] none g h = (h.0, gap-then g h.1)
prepend room p m t r [] (fault n q) g h = (h.0, gap-then g h.1, h.2)
prepend zero p m t r (x ∷ xs) f g h = h
prepend (suc room) p m t r (x ∷ xs) f g h = (h.0, gap-then g h.1, h.2, h.3)

-- classes, and what begins

blank_rule : (a b c d e f : Bool) → cond a Blank (cond b Letter (cond c Digit (cond d Underscore (cond e Quote (cond f Mark Stray))))) ≡ Blank → a ≡ true
blank_rule a b c d e f h = grind arith

pub blank_is : (b : ℕ) → class_of b ≡ Blank → is_blank b ≡ true
blank_is b h = blank_rule (is_blank b) (is_letter b) (is_digit b) (eqb b 95) (eqb b 39) (is_mark b) h

solid_rule : (a b c d e f : Bool) → (cond a Blank (cond b Letter (cond c Digit (cond d Underscore (cond e Quote (cond f Mark Stray))))) ≡ Blank → ⊥) → a ≡ false
solid_rule true b c d e f h = absurd (h refl)
solid_rule false b c d e f h = refl

not_blank : (b : ℕ) → (class_of b ≡ Blank → ⊥) → is_blank b ≡ false
not_blank b h = solid_rule (is_blank b) (is_letter b) (is_digit b) (eqb b 95) (eqb b 39) (is_mark b) h

pub blank_class : (b : ℕ) → is_blank b ≡ true → class_of b ≡ Blank
blank_class b e = ap (λ t. cond t Blank (cond (is_letter b) Letter (cond (is_digit b) Digit (cond (eqb b 95) Underscore (cond (eqb b 39) Quote (cond (is_mark b) Mark Stray)))))) e

no_slash : (b c : ℕ) (t : List ℕ) → (class_of b ≡ Mark → ⊥) → begins (47 ∷ c ∷ []) (b ∷ t) ≡ false
no_slash b c t f = and_left (eqb b 47) (begins (c ∷ []) t) (ne_eqb b 47 (λ e. f (ap class_of e)))

begins_solid : (b : ℕ) (t : List ℕ) → (class_of b ≡ Blank → ⊥) → begins (47 ∷ 47 ∷ []) (b ∷ t) ≡ false → begins (47 ∷ 42 ∷ []) (b ∷ t) ≡ false → Begins (b ∷ t)
begins_solid b t f l g = record { byte = omega arith; solid = not_blank b f; no_line = l; no_long = g }

-- the first two bytes

alone : (x y b : ℕ) → begins (x ∷ y ∷ []) (b ∷ []) ≡ true → ⊥
alone x y b e = both_ways false refl (and_parts (eqb b x) false e).1

pair : (x y b c : ℕ) (u : List ℕ) → begins (x ∷ y ∷ []) (b ∷ c ∷ u) ≡ true → (b ≡ x) × (c ≡ y)
pair x y b c u e =
    let p = and_parts (eqb b x) (eqb c y && true) e in
    (eqb-true b x p.0, eqb-true c y (and_parts (eqb c y) true p.1).0)

-- what holds of a reading in a state
abbrev pub HoldsIn : State → ℕ → ℕ → List ℕ → Reading → Type 0
HoldsIn Code room p r R = Reads room p r R.tokens R.fault
HoldsIn LineComment room p r R = (q : ℕ) × (u : List ℕ) × Line p r q u × Reads room q u R.tokens R.fault
HoldsIn (LongComment o) room p r R =
    ((q : ℕ) × (u : List ℕ) × Long p r q u × Reads room q u R.tokens R.fault)
    ⊎ ((R ≡ stopped (fault 5 o)) × Unclosed r)

-- the readings after the first byte, for any state, bytes to pass over and room
abbrev After : List ℕ → ℕ → Type 0
After t p = (s : State) (k room : ℕ) → k ≤ length t → HoldsIn s room (suc p + k) (drop k t) (reading_from t s k room (suc p))

after_none : (t : List ℕ) (p : ℕ) → After t p → (s : State) (room : ℕ) → HoldsIn s room (suc p) t (reading_from t s 0 room (suc p))
after_none t p ih s room = subst (λ q. HoldsIn s room q t (reading_from t s 0 room (suc p))) (add-zero (suc p)) (ih s 0 room zero-le)

after_one : (c : ℕ) (u : List ℕ) (p : ℕ) → After (c ∷ u) p → (s : State) (room : ℕ) → HoldsIn s room (suc (suc p)) u (reading_from (c ∷ u) s 1 room (suc p))
after_one c u p ih s room = subst (λ q. HoldsIn s room q u (reading_from (c ∷ u) s 1 room (suc p))) (add-one (suc p)) (ih s 1 room (omega arith))

-- a token or a fault
pub drop_first : (b : ℕ) (t : List ℕ) (n : ℕ) → 0 < n → drop (n - 1) t ≡ drop n (b ∷ t)
drop_first b t zero h = absurd (not-suc-le-zero h)
drop_first b t (suc n) h = ap (λ m. drop m t) (omega arith)

front-holds : (b : ℕ) (t : List ℕ) (room p : ℕ) (f : Front) → Begins (b ∷ t) → Judged (b ∷ t) f → After t p → Reads room p (b ∷ t) (follow f room p (λ s k room'. reading_from t s k room' (suc p))).tokens (follow f room p (λ s k room'. reading_from t s k room' (suc p))).fault
front-holds b t room p (between s k) g j ih = absurd j
front-holds b t zero p (token k n v) g j ih = (b ∷ t, empty, too_many n v k refl refl g j.0 j.1)
front-holds b t (suc room) p (token k n v) g j ih =
    let more : 0 < n = longest_bytes (b ∷ t) n k v j.0 in
    let place : suc p + (n - 1) ≡ p + n = omega arith in
    let next = ih Code (n - 1) room (omega (arith, j.0.within)) in
    let R : Reading = reading_from t Code (n - 1) room (suc p) in (
      b ∷ t,
      empty,
      record { begins = g; value = v; longest = j.0; small = j.1; has_value = refl },
      subst (λ q. Reads room q (drop n (b ∷ t)) R.tokens R.fault) place (subst (λ u. Reads room (suc p + (n - 1)) u R.tokens R.fault) (drop_first b t n more) next),
    )
front-holds b t room p (wrong m) g (inl j) ih = (b ∷ t, empty, stray j.0 g j.1 j.2)
front-holds b t room p (wrong m) g (inr (inl j)) ih = (b ∷ t, empty, bad_character j.0 g j.1 j.2)
front-holds b t room p (wrong m) g (inr (inr j)) ih = (b ∷ t, empty, too_large j.1 j.2 j.0 g j.3 j.4)

-- the reading after a front, where readingFrom goes on after the first byte
abbrev pub goes : List ℕ → ℕ → Front → ℕ → Reading
goes t p f room = follow f room p (λ s k room'. reading_from t s k room' (suc p))

token_holds : (b : ℕ) (t : List ℕ) (room p : ℕ) (c : Class) → class_of b ≡ c → Begins (b ∷ t) → After t p → HoldsIn Code room p (b ∷ t) (goes t p (token_front c (b ∷ t)) room)
token_holds b t room p c e g ih =
    front-holds b t room p (token_front c (b ∷ t)) g (subst (λ x. Judged (b ∷ t) (token_front x (b ∷ t))) e (judged (b ∷ t) (omega arith))) ih

-- a class that is neither that of blanks nor that of marks
solid_holds : (b : ℕ) (t : List ℕ) (room p : ℕ) (c : Class) → class_of b ≡ c → (c ≡ Blank → ⊥) → (c ≡ Mark → ⊥) → After t p → HoldsIn Code room p (b ∷ t) (goes t p (token_front c (b ∷ t)) room)
solid_holds b t room p c e f g ih =
    token_holds b t room p c e (begins_solid b t (λ h. f (sym e ∙ h)) (no_slash b 47 t (λ h. g (sym e ∙ h))) (no_slash b 42 t (λ h. g (sym e ∙ h)))) ih

line_holds : (b : ℕ) (t : List ℕ) (room p : ℕ) → begins (47 ∷ 47 ∷ []) (b ∷ t) ≡ true → After t p → HoldsIn Code room p (b ∷ t) (reading_from t LineComment 1 room (suc p))
line_holds b [] room p e ih = absurd (alone 47 47 b e)
line_holds b (c ∷ u) room p e ih =
    let is = pair 47 47 b c u e in
    let R : Reading = reading_from (c ∷ u) LineComment 1 room (suc p) in
    let h = after_one c u p ih LineComment room in
    subst (λ y. Reads room p (y ∷ c ∷ u) R.tokens R.fault) (sym is.0)
    (subst (λ y. Reads room p (47 ∷ y ∷ u) R.tokens R.fault) (sym is.1)
    (prepend room p h.0 (47 ∷ 47 ∷ u) h.1 R.tokens R.fault (line h.2 empty) h.3))

-- after `/*`: the comment is closed, or it is the fault
opened : (u : List ℕ) (room p : ℕ) (R : Reading) → HoldsIn (LongComment p) room (suc (suc p)) u R → HoldsIn Code room p (47 ∷ 42 ∷ u) R
opened u room p R (inl h) = prepend room p h.0 (47 ∷ 42 ∷ u) h.1 R.tokens R.fault (long h.2 empty) h.3
opened u room p R (inr h) = subst (λ S. Reads room p (47 ∷ 42 ∷ u) S.tokens S.fault) (sym h.0) (47 ∷ 42 ∷ u, empty, unclosed u refl refl h.1)

long_holds : (b : ℕ) (t : List ℕ) (room p : ℕ) → begins (47 ∷ 42 ∷ []) (b ∷ t) ≡ true → After t p → HoldsIn Code room p (b ∷ t) (reading_from t (LongComment p) 1 room (suc p))
long_holds b [] room p e ih = absurd (alone 47 42 b e)
long_holds b (c ∷ u) room p e ih =
    let is = pair 47 42 b c u e in
    subst (λ y. HoldsIn Code room p (y ∷ c ∷ u) (reading_from (c ∷ u) (LongComment p) 1 room (suc p))) (sym is.0)
    (subst (λ y. HoldsIn Code room p (47 ∷ y ∷ u) (reading_from (c ∷ u) (LongComment p) 1 room (suc p))) (sym is.1)
    (opened u room p (reading_from (c ∷ u) (LongComment p) 1 room (suc p)) (after_one c u p ih (LongComment p) room)))

mark_holds : (b : ℕ) (t : List ℕ) (room p : ℕ) → After t p → class_of b ≡ Mark → (x y : Bool) → begins (47 ∷ 47 ∷ []) (b ∷ t) ≡ x → begins (47 ∷ 42 ∷ []) (b ∷ t) ≡ y → HoldsIn Code room p (b ∷ t) (goes t p (comment_or x y p (b ∷ t)) room)
mark_holds b t room p ih e true y f g = line_holds b t room p f ih
mark_holds b t room p ih e false true f g = long_holds b t room p g ih
mark_holds b t room p ih e false false f g = token_holds b t room p Mark e (begins_solid b t (λ h. marked (sym e ∙ h)) f g) ih
  where
    marked : Mark ≡ Blank → ⊥
    marked h = let z : ◌≡◌ {A = ℕ} 0 1 = cc in omega arith

code_holds : (b : ℕ) (t : List ℕ) (room p : ℕ) → After t p → (c : Class) → class_of b ≡ c → HoldsIn Code room p (b ∷ t) (goes t p (code_front c p (b ∷ t)) room)
code_holds b t room p ih Blank e =
    let R : Reading = reading_from t Code 0 room (suc p) in
    prepend room p (suc p) (b ∷ t) t R.tokens R.fault (blank (blank_is b e) empty) (after_none t p ih Code room)
code_holds b t room p ih Letter e = solid_holds b t room p Letter e (λ h. let z : ◌≡◌ {A = ℕ} 0 1 = cc in omega arith) (λ h. let z : ◌≡◌ {A = ℕ} 0 1 = cc in omega arith) ih
code_holds b t room p ih Digit e = solid_holds b t room p Digit e (λ h. let z : ◌≡◌ {A = ℕ} 0 1 = cc in omega arith) (λ h. let z : ◌≡◌ {A = ℕ} 0 1 = cc in omega arith) ih
code_holds b t room p ih Underscore e = solid_holds b t room p Underscore e (λ h. let z : ◌≡◌ {A = ℕ} 0 1 = cc in omega arith) (λ h. let z : ◌≡◌ {A = ℕ} 0 1 = cc in omega arith) ih
code_holds b t room p ih Quote e = solid_holds b t room p Quote e (λ h. let z : ◌≡◌ {A = ℕ} 0 1 = cc in omega arith) (λ h. let z : ◌≡◌ {A = ℕ} 0 1 = cc in omega arith) ih
code_holds b t room p ih Mark e = mark_holds b t room p ih e (begins (47 ∷ 47 ∷ []) (b ∷ t)) (begins (47 ∷ 42 ∷ []) (b ∷ t)) refl refl
code_holds b t room p ih Stray e = solid_holds b t room p Stray e (λ h. let z : ◌≡◌ {A = ℕ} 0 1 = cc in omega arith) (λ h. let z : ◌≡◌ {A = ℕ} 0 1 = cc in omega arith) ih

line_state : (b : ℕ) (t : List ℕ) (room p : ℕ) → After t p → (x : Bool) → eqb b 10 ≡ x → HoldsIn LineComment room p (b ∷ t) (reading_from t (cond x Code LineComment) 0 room (suc p))
line_state b t room p ih true e =
    let is : b ≡ 10 = eqb-true b 10 e in
    (suc p, t, subst (λ y. Line p (y ∷ t) (suc p) t) (sym is) feed, after_none t p ih Code room)
line_state b t room p ih false e =
    let h = after_none t p ih LineComment room in
    (h.0, h.1, more (eqb-false b 10 e) h.2, h.3)

onward : (b : ℕ) (t : List ℕ) (room p o : ℕ) → begins (42 ∷ 47 ∷ []) (b ∷ t) ≡ false → (R : Reading) → HoldsIn (LongComment o) room (suc p) t R → HoldsIn (LongComment o) room p (b ∷ t) R
onward b t room p o e R (inl h) = inl (h.0, h.1, further e h.2, h.3)
onward b t room p o e R (inr h) = inr (h.0, (e, h.1))

long_state : (b : ℕ) (t : List ℕ) (room p o : ℕ) → After t p → (x : Bool) → begins (42 ∷ 47 ∷ []) (b ∷ t) ≡ x → HoldsIn (LongComment o) room p (b ∷ t) (goes t p (cond x (between Code 1) (between (LongComment o) 0)) room)
long_state b [] room p o ih true e = absurd (alone 42 47 b e)
long_state b (c ∷ u) room p o ih true e =
    let is = pair 42 47 b c u e in
    inl (suc (suc p), u, subst (λ y. Long p (y ∷ c ∷ u) (suc (suc p)) u) (sym is.0) (subst (λ y. Long p (42 ∷ y ∷ u) (suc (suc p)) u) (sym is.1) close), after_one c u p ih Code room)
long_state b t room p o ih false e = onward b t room p o e (reading_from t (LongComment o) 0 room (suc p)) (after_none t p ih (LongComment o) room)

step-holds : (b : ℕ) (t : List ℕ) (s : State) (room p : ℕ) → After t p → HoldsIn s room p (b ∷ t) (goes t p (front s p (b ∷ t)) room)
step-holds b t Code room p ih = code_holds b t room p ih (class_of b) refl
step-holds b t LineComment room p ih = line_state b t room p ih (eqb b 10) refl
step-holds b t (LongComment o) room p ih = long_state b t room p o ih (begins (42 ∷ 47 ∷ []) (b ∷ t)) refl

end_holds : (s : State) (room p : ℕ) → HoldsIn s room p [] (ended s)
end_holds Code room p = (p, empty)
end_holds LineComment room p = (p, [], end, (p, empty))
end_holds (LongComment o) room p = inr (refl, tt)

short_drop : (n : ℕ) (t : List ℕ) (k : ℕ) → length t ≤ n → length (drop k t) ≤ n
short_drop n t k h = omega (arith, length-drop k t)

-- by induction on a bound of the length, since a token is passed over as a whole
pub holds : (n : ℕ) (r : List ℕ) → length r ≤ n → (s : State) (room p : ℕ) → HoldsIn s room p r (reading_from r s 0 room p)
unfolding reading_from
holds n [] h s room p = end_holds s room p
holds zero (b ∷ t) h s room p = absurd (not-suc-le-zero h)
holds (suc n) (b ∷ t) h s room p =
    step-holds b t s room p
    (λ s' k room' fits. subst (HoldsIn s' room' (suc p + k) (drop k t)) (sym (skipped t s' k room' (suc p) fits)) (holds n (drop k t) (short_drop n t k (le_of_suc-le-suc h)) s' room' (suc p + k)))
