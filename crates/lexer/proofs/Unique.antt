-- Whatever a source reads as by the relation is its reading: the reading is walked along the gaps, tokens and fault that the
-- relation names.
use Rattle.std.proofs.Common.{◌≡◌, ℕ, zero, suc, ◌+◌, ◌-◌, ◌<◌, ◌≤◌, false, List, [], ◌∷◌, length, get_or, take, drop, sym, refl, ap, ◌∙◌, subst, inl, inr, not-suc-le-zero, arith}
use Rattle.std.proofs.lemmas.List.{length-drop}
use Rattle.std.proofs.lemmas.Bool.{both_ways}
use Rattle.lexer.specs.declared.class.Class.{Class}
use Rattle.lexer.specs.declared.class.Class.TheVariants.{Blank, Letter, Digit, Underscore, Quote, Mark, Stray}
use Rattle.lexer.specs.declared.kind.Kind.{Kind}
use Rattle.lexer.specs.declared.kind.Kind.TheVariants.{Number}
use Rattle.lexer.specs.declared.kind.Token.{Token}
use Rattle.lexer.specs.declared.reader.State.{State}
use Rattle.lexer.specs.declared.reader.State.TheVariants.{Code, LineComment, LongComment}
use Rattle.lexer.specs.Classes.{class_of, is_blank}
use Rattle.lexer.specs.Spelling.{begins}
use Rattle.lexer.specs.Constants.{greatest}
use Rattle.lexer.specs.Reading.{Front, between, token, wrong, token_front, comment_or, code_front, front, Fault, none, fault, stopped, preceded, token_of, reading_from, reading}
use Rattle.lexer.specs.Laws.{IsToken, Longest, NoToken, Line, feed, end, more, Long, close, further, Unclosed, Gap, empty, blank, line, long, Begins, Faulty, stray, unclosed, bad_character, too_large, too_many, Reads, Ordered, Decided}
use Rattle.lexer.proofs.Ahead.{skipped, blank_front, line_goes_on, long_goes_on}
use Rattle.lexer.proofs.Judged.{Judged, judged, longest_bytes}
use Rattle.lexer.proofs.Readings.{goes, holds, blank_is, blank_class, drop_first}
use Rattle.lexer.proofs.Tokens.{same_token}

-- the reading at a byte whose front is known
by_front : (b : ℕ) (t : List ℕ) (s : State) (room p : ℕ) (f : Front) → front s p (b ∷ t) ≡ f → reading_from (b ∷ t) s 0 room p ≡ goes t p f room
unfolding reading_from
by_front b t s room p f e = ap (λ x. goes t p x room) e

-- along comments and gaps

line_walk : {p q : ℕ} {t u : List ℕ} → Line p t q u → (room : ℕ) → reading_from t LineComment 0 room p ≡ reading_from u Code 0 room q
unfolding reading_from
line_walk feed room = refl
line_walk end room = refl
line_walk (more {p = p} {b = b} {t = t} f l) room = by_front b t LineComment room p (between LineComment 0) (line_goes_on p (b ∷ t) f) ∙ line_walk l room

long_walk : {p q : ℕ} {t u : List ℕ} → Long p t q u → (o room : ℕ) → reading_from t (LongComment o) 0 room p ≡ reading_from u Code 0 room q
unfolding reading_from
long_walk close o room = refl
long_walk (further {p = p} {b = b} {t = t} e l) o room = by_front b t (LongComment o) room p (between (LongComment o) 0) (long_goes_on p o (b ∷ t) e) ∙ long_walk l o room

gap_walk : {p q : ℕ} {t u : List ℕ} → Gap p t q u → (room : ℕ) → reading_from t Code 0 room p ≡ reading_from u Code 0 room q
unfolding reading_from
gap_walk empty room = refl
gap_walk (blank {p = p} {b = b} {t = t} e g) room = by_front b t Code room p (between Code 0) (blank_front p (b ∷ t) (blank_class b e)) ∙ gap_walk g room
gap_walk (line l g) room = line_walk l room ∙ gap_walk g room
gap_walk (long {p = p} l g) room = long_walk l p room ∙ gap_walk g room

unclosed_walk : (t : List ℕ) (o room p : ℕ) → Unclosed t → reading_from t (LongComment o) 0 room p ≡ stopped (fault 5 o)
unfolding reading_from
unclosed_walk [] o room p h = refl
unclosed_walk (b ∷ t) o room p h = by_front b t (LongComment o) room p (between (LongComment o) 0) (long_goes_on p o (b ∷ t) h.0) ∙ unclosed_walk t o room (suc p) h.1

-- where neither a blank nor a comment begins, the front is that of a token
token_begins : (r : List ℕ) (p : ℕ) → Begins r → front Code p r ≡ token_front (class_of (get_or r 0 0)) r
token_begins r p g = go (class_of (get_or r 0 0)) refl
  where
    go : (c : Class) → class_of (get_or r 0 0) ≡ c → code_front c p r ≡ token_front c r
    go Blank e = absurd (both_ways (is_blank (get_or r 0 0)) g.solid (blank_is (get_or r 0 0) e))
    go Letter e = refl
    go Digit e = refl
    go Underscore e = refl
    go Quote e = refl
    go Mark e = ap (λ x. comment_or x (begins (47 ∷ 42 ∷ []) r) p r) g.no_line ∙ ap (λ x. comment_or false x p r) g.no_long
    go Stray e = refl

-- two longest tokens are one
same_longest : (r : List ℕ) (n m : ℕ) (k q : Kind) (v w : ℕ) → Longest r n k v → Longest r m q w → (n ≡ m) × (k ≡ q) × (v ≡ w)
same_longest r n m k q v w a b =
    let e : n ≡ m = omega (arith, a.most m q w b.within b.is, b.most n k v a.within a.is) in
    let s = same_token (take n r) k v q w a.is (subst (λ x. IsToken (take x r) q w) (sym e) b.is) in
    (e, s.0, s.1)

-- the front is the one that the relation names

front_token : (r : List ℕ) (n : ℕ) (k : Kind) (v : ℕ) → 0 < length r → Longest r n k v → v ≤ greatest → token_front (class_of (get_or r 0 0)) r ≡ token k n v
front_token r n k v h l small = go (token_front (class_of (get_or r 0 0)) r) (judged r h)
  where
    go : (f : Front) → Judged r f → f ≡ token k n v
    go (between s x) j = absurd j
    go (token q m w) j = let s = same_longest r m n q k w v j.0 l in λ i. token (s.1 i) (s.0 i) (s.2 i)
    go (wrong m) (inl j) = absurd (j.2 n k v l.within l.is)
    go (wrong m) (inr (inl j)) = absurd (j.2 n k v l.within l.is)
    go (wrong m) (inr (inr j)) = let s = same_longest r j.1 n Number k j.2 v j.3 l in absurd (let b : ⊥ = omega (arith, j.4, s.2, small) in b)

front_stray : (r : List ℕ) → 0 < length r → (get_or r 0 0 ≡ 39 → ⊥) → NoToken r → token_front (class_of (get_or r 0 0)) r ≡ wrong 4
front_stray r h nq nt = go (token_front (class_of (get_or r 0 0)) r) (judged r h)
  where
    go : (f : Front) → Judged r f → f ≡ wrong 4
    go (between s x) j = absurd j
    go (token q m w) j = absurd (nt m q w j.0.within j.0.is)
    go (wrong m) (inl j) = ap wrong j.0
    go (wrong m) (inr (inl j)) = absurd (nq j.1)
    go (wrong m) (inr (inr j)) = absurd (nt j.1 Number j.2 j.3.within j.3.is)

front_bad : (r : List ℕ) → 0 < length r → get_or r 0 0 ≡ 39 → NoToken r → token_front (class_of (get_or r 0 0)) r ≡ wrong 6
front_bad r h q nt = go (token_front (class_of (get_or r 0 0)) r) (judged r h)
  where
    go : (f : Front) → Judged r f → f ≡ wrong 6
    go (between s x) j = absurd j
    go (token k m w) j = absurd (nt m k w j.0.within j.0.is)
    go (wrong m) (inl j) = absurd (j.1 q)
    go (wrong m) (inr (inl j)) = ap wrong j.0
    go (wrong m) (inr (inr j)) = absurd (nt j.1 Number j.2 j.3.within j.3.is)

front_large : (r : List ℕ) (n v : ℕ) → 0 < length r → Longest r n Number v → greatest < v → token_front (class_of (get_or r 0 0)) r ≡ wrong 7
front_large r n v h l big = go (token_front (class_of (get_or r 0 0)) r) (judged r h)
  where
    go : (f : Front) → Judged r f → f ≡ wrong 7
    go (between s x) j = absurd j
    go (token q m w) j = let s = same_longest r m n q Number w v j.0 l in absurd (let b : ⊥ = omega (arith, j.1, s.2, big) in b)
    go (wrong m) (inl j) = absurd (j.2 n Number v l.within l.is)
    go (wrong m) (inr (inl j)) = absurd (j.2 n Number v l.within l.is)
    go (wrong m) (inr (inr j)) = ap wrong j.0

-- the reading at a front

read_front : (r : List ℕ) (room p : ℕ) (f : Front) → Begins r → token_front (class_of (get_or r 0 0)) r ≡ f → reading_from r Code 0 room p ≡ goes (drop 1 r) p f room
read_front [] room p f g e = absurd (not-suc-le-zero g.byte)
read_front (b ∷ t) room p f g e = by_front b t Code room p f (token_begins (b ∷ t) p g ∙ e)

read_token : (r : List ℕ) (room p : ℕ) (k : Kind) (n v : ℕ) → Begins r → Longest r n k v → v ≤ greatest → reading_from r Code 0 (suc room) p ≡ preceded (token_of k p n v) (reading_from (drop n r) Code 0 room (p + n))
read_token [] room p k n v g l small = absurd (not-suc-le-zero g.byte)
read_token (b ∷ t) room p k n v g l small =
    let byte : 0 < n = longest_bytes (b ∷ t) n k v l in
    let place : suc p + (n - 1) ≡ p + n = omega arith in
    read_front (b ∷ t) (suc room) p (token k n v) g (front_token (b ∷ t) n k v g.byte l small)
    ∙ ap (preceded (token_of k p n v))
    (skipped t Code (n - 1) room (suc p) (omega (arith, l.within))
    ∙ ap (λ u. reading_from u Code 0 room (suc p + (n - 1))) (drop_first b t n byte)
    ∙ ap (reading_from (drop n (b ∷ t)) Code 0 room) place)

read_fault : (r : List ℕ) (room p number : ℕ) → Faulty room r number → reading_from r Code 0 room p ≡ stopped (fault number p)
unfolding reading_from
read_fault r room p number (stray e g q n) = read_front r room p (wrong 4) g (front_stray r g.byte q n) ∙ ap (λ m. stopped (fault m p)) (sym e)
read_fault r room p number (unclosed t e s u) =
    ap (λ x. reading_from x Code 0 room p) s ∙ unclosed_walk t p room (suc (suc p)) u ∙ ap (λ m. stopped (fault m p)) (sym e)
read_fault r room p number (bad_character e g q n) = read_front r room p (wrong 6) g (front_bad r g.byte q n) ∙ ap (λ m. stopped (fault m p)) (sym e)
read_fault r room p number (too_large n v e g l big) = read_front r room p (wrong 7) g (front_large r n v g.byte l big) ∙ ap (λ m. stopped (fault m p)) (sym e)
read_fault r room p number (too_many n v k e z g l small) =
    ap (λ m. reading_from r Code 0 m p) z ∙ read_front r 0 p (token k n v) g (front_token r n k v g.byte l small) ∙ ap (λ m. stopped (fault m p)) (sym e)

pub unique : (ts : List Token) (f : Fault) (room p : ℕ) (t : List ℕ) → Reads room p t ts f → reading_from t Code 0 room p ≡ record { tokens = ts; fault = f }
unfolding reading_from
unique [] none room p t h = gap_walk h.1 room
unique [] (fault n q) room p t h = gap_walk h.1 room ∙ read_fault h.0 room q n h.2
unique (x ∷ xs) f zero p t h = absurd h
unique (x ∷ xs) f (suc room) p t h =
    let u = h.0 in
    let here = h.2 in
    gap_walk h.1 (suc room)
    ∙ read_token h.0 room x.place x.kind x.length here.value here.begins here.longest here.small
    ∙ (λ i. preceded (record { kind = x.kind; place = x.place; length = x.length; value = sym here.has_value i }) (unique xs f room (x.place + x.length) (drop x.length h.0) h.3 i))

-- the order of the tokens

line_size : {p q : ℕ} {t u : List ℕ} → Line p t q u → (p ≤ q) × (q + length u ≡ p + length t)
line_size feed = (omega arith, omega arith)
line_size end = (omega arith, omega arith)
line_size (more f l) = let s = line_size l in (omega arith, omega arith)

long_size : {p q : ℕ} {t u : List ℕ} → Long p t q u → (p ≤ q) × (q + length u ≡ p + length t)
long_size close = (omega arith, omega arith)
long_size (further e l) = let s = long_size l in (omega arith, omega arith)

gap_size : {p q : ℕ} {t u : List ℕ} → Gap p t q u → (p ≤ q) × (q + length u ≡ p + length t)
gap_size empty = (omega arith, omega arith)
gap_size (blank e g) = let s = gap_size g in (omega arith, omega arith)
gap_size (line l g) = let s = line_size l in let z = gap_size g in (omega arith, omega arith)
gap_size (long l g) = let s = long_size l in let z = gap_size g in (omega arith, omega arith)

ordered : (ts : List Token) (f : Fault) (room p : ℕ) (t : List ℕ) (n : ℕ) → p + length t ≡ n → Reads room p t ts f → Ordered p n ts
ordered [] f room p t n e h = omega arith
ordered (x ∷ xs) f zero p t n e h = absurd h
ordered (x ∷ xs) f (suc room) p t n e h =
    let s = gap_size h.1 in
    let l = h.2.longest in (
      s.0,
      longest_bytes h.0 x.length x.kind h.2.value l,
      ordered xs f room (x.place + x.length) (drop x.length h.0) n (omega (arith, length-drop x.length h.0, l.within, s.1)) h.3,
    )

pub decided : (s : List ℕ) → Decided s
unfolding reading
decided s =
    record {
      reads = holds (length s) s (omega arith) Code 1024 0;
      only = λ ts f h. let e = unique ts f 1024 0 s h in (sym (ap (λ r. r.tokens) e), sym (ap (λ r. r.fault) e));
      ordered = ordered (reading s).tokens (reading s).fault 1024 0 s (length s) (omega arith) (holds (length s) s (omega arith) Code 1024 0);
    }
