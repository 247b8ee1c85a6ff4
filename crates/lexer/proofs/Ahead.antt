-- How the reading goes on: over bytes that are no part of a token, and over those of a token.
use Rattle.std.proofs.Common.{◌≡◌, IfOk, OnSome, Bool, ◌&&◌, take, ℕ, zero, suc, ◌+◌, ◌-◌, ◌<◌, ◌≤◌, true, false, cond, eqb, List, [], ◌∷◌, length, get_or, drop, Some, Ok, Err, Option, Result, sym, refl, ap, ◌∙◌, subst, le_of_suc-le-suc, not-suc-le-zero, add-zero, add_assoc, add-suc, suc-add, add-one, arith}
use Rattle.std.specs.List.{starts_with}
use Rattle.std.proofs.lemmas.List.{drop_more, drop-drop, length-drop, at_drop_all, take_rest}
use Rattle.refusal.specs.declared.reason.Refusal.{Refusal}
use Rattle.refusal.specs.Told.{number_of}
use Rattle.std.proofs.lemmas.Bool.{ne_eqb, and_left}
use Rattle.std.proofs.lemmas.Bool.Decides.{nat_tests}
use Rattle.lexer.specs.declared.class.Class.{Class}
use Rattle.lexer.specs.declared.class.Class.TheVariants.{Blank, Letter, Digit, Underscore, Quote, Mark, Stray}
use Rattle.lexer.specs.declared.kind.Kind.{Kind}
use Rattle.lexer.specs.declared.kind.Token.{Token}
use Rattle.lexer.specs.declared.reader.Reader.{Reader}
use Rattle.lexer.specs.declared.reader.State.{State}
use Rattle.lexer.specs.declared.reader.State.TheVariants.{Code, LineComment, LongComment}
use Rattle.lexer.specs.Classes.{class_of}
use Rattle.lexer.specs.Spelling.{begins}
use Rattle.lexer.specs.Reading.{between, token, wrong, token_front, code_front, comment_or, front, fault, stopped, preceded, token_of, ended, follow, reading_from}
use Rattle.lexer.specs.Scans.{ahead, Came, Passed, Stepped, TokenAt, after_next, Next}

-- bytes that belong to what came before are passed over
pub skipped : (r : List ℕ) (s : State) (k room p : ℕ) → k ≤ length r → reading_from r s k room p ≡ reading_from (drop k r) s 0 room (p + k)
unfolding reading_from
skipped [] s zero room p h = refl
skipped [] s (suc k) room p h = absurd (not-suc-le-zero h)
skipped (b ∷ r) s zero room p h = ap (reading_from (b ∷ r) s 0 room) (sym (add-zero p))
skipped (b ∷ r) s (suc k) room p h = skipped r s k room (suc p) (le_of_suc-le-suc h) ∙ ap (reading_from (drop k r) s 0 room) (suc-add p k ∙ sym (add-suc p k))

-- so from the byte after a place
pub skipped_on : (s : List ℕ) (at : ℕ) (state : State) (k room : ℕ) → at + (1 + k) ≤ length s → reading_from (drop (at + 1) s) state k room (at + 1) ≡ ahead s (at + (1 + k)) state room
skipped_on s at state k room fits =
    skipped (drop (at + 1) s) state k room (at + 1) (simp length-drop (omega arith))
    ∙ ap (λ r. reading_from r state 0 room (at + 1 + k)) (drop-drop k (at + 1) s)
    ∙ ap (λ n. reading_from (drop n s) state 0 room n) (add_assoc at 1 k)

-- the reading at a place is what the front there comes to
pub at_front : (s : List ℕ) (at : ℕ) (state : State) (room : ℕ) → at < length s → ahead s at state room ≡ follow (front state at (drop at s)) room at (λ state' k room'. reading_from (drop (at + 1) s) state' k room' (at + 1))
unfolding reading_from
at_front s at state room h =
    rw (drop_more s at 0 h) (rw add-one refl)

-- what is left, as the reader's slice of its source
abbrev pub left : Reader → List ℕ
left r = take (length r.source.now - r.at) (drop r.at r.source.now)

-- a step over what is no part of a token
pub went : (r r' : Reader) (from to : State) (k : ℕ) → r.at < length r.source.now → r.state ≡ from → front from r.at (left r) ≡ between to k → Passed r r' (1 + k) to → Stepped r r' false
went r r' from to k h st e p =
    let s = r.source.now in
    let at = r.at in
    let fits : at + (1 + k) ≤ length r.source.now = omega (arith, p.at, r'.within, ap (λ q. length q.now) p.source) in
    let f : front from at (drop at s) ≡ between to k = ap (front from r.at) (sym (take_rest r.source.now r.at)) ∙ e in (
      record {
        source = p.source;
        on = omega (arith, p.at);
        reads = λ room. ap (λ q. ahead s at q room) st ∙ at_front s at from room h ∙ ap (λ f. follow f room at (λ q k room'. reading_from (drop (at + 1) s) q k room' (at + 1))) f ∙ skipped_on s at to k room fits ∙ ap (λ q. ahead s (at + (1 + k)) q room) (sym p.into) ∙ ap (λ n. ahead s n r'.state room) (sym p.at);
      },
      omega (arith, p.at),
    )

-- a token begins
pub stayed : (r : Reader) → r.state ≡ Code → front Code r.at (left r) ≡ token_front (class_of (get_or (left r) 0 0)) (left r) → Stepped r r true
stayed r st e = (refl, refl, st, subst (λ w. front Code r.at w ≡ token_front (class_of (get_or w 0 0)) w) (take_rest r.source.now r.at) e)

-- the library's test of the first bytes
eqb_sym : (x b : ℕ) → eqb x b ≡ eqb b x
eqb_sym x b = grind (arith, nat_tests)

begins_is : (p r : List ℕ) → starts_with eqb r p ≡ begins p r
begins_is [] r = refl
begins_is (x ∷ p) [] = refl
begins_is (x ∷ p) (b ∷ r) = ap (λ t. t && starts_with eqb r p) (eqb_sym x b) ∙ ap (λ t. eqb b x && t) (begins_is p r)

pub begun : (p r : List ℕ) (t : Bool) → t ≡ starts_with eqb r p → begins p r ≡ t
begun p r t e = sym (begins_is p r) ∙ sym e

pub not_begun : (x : ℕ) (p r : List ℕ) → (get_or r 0 0 ≡ x → ⊥) → begins (x ∷ p) r ≡ false
not_begun x p [] f = refl
not_begun x p (b ∷ r) f = ap (λ t. t && begins p r) (ne_eqb b x f)

-- the fronts that are no part of a token

pub blank_front : (p : ℕ) (r : List ℕ) → class_of (get_or r 0 0) ≡ Blank → front Code p r ≡ between Code 0
blank_front p r e = ap (λ k. code_front k p r) e

pub line_opens : (p : ℕ) (r : List ℕ) → class_of (get_or r 0 0) ≡ Mark → begins (47 ∷ 47 ∷ []) r ≡ true → front Code p r ≡ between LineComment 1
line_opens p r e h = ap (λ k. code_front k p r) e ∙ ap (λ b. comment_or b (begins (47 ∷ 42 ∷ []) r) p r) h

pub long_opens : (p : ℕ) (r : List ℕ) → class_of (get_or r 0 0) ≡ Mark → begins (47 ∷ 47 ∷ []) r ≡ false → begins (47 ∷ 42 ∷ []) r ≡ true → front Code p r ≡ between (LongComment p) 1
long_opens p r e h i = ap (λ k. code_front k p r) e ∙ ap (λ b. comment_or b (begins (47 ∷ 42 ∷ []) r) p r) h ∙ ap (λ b. comment_or false b p r) i

pub line_ends : (p : ℕ) (r : List ℕ) → get_or r 0 0 ≡ 10 → front LineComment p r ≡ between Code 0
line_ends p r e = ap (λ (b : ℕ). between (cond (eqb b 10) Code LineComment) 0) e

pub line_goes_on : (p : ℕ) (r : List ℕ) → (get_or r 0 0 ≡ 10 → ⊥) → front LineComment p r ≡ between LineComment 0
line_goes_on p r f = ap (λ b. between (cond b Code LineComment) 0) (ne_eqb (get_or r 0 0) 10 f)

pub long_closes : (p q : ℕ) (r : List ℕ) → begins (42 ∷ 47 ∷ []) r ≡ true → front (LongComment q) p r ≡ between Code 1
long_closes p q r e = ap (λ b. cond b (between Code 1) (between (LongComment q) 0)) e

pub long_goes_on : (p q : ℕ) (r : List ℕ) → begins (42 ∷ 47 ∷ []) r ≡ false → front (LongComment q) p r ≡ between (LongComment q) 0
long_goes_on p q r e = ap (λ b. cond b (between Code 1) (between (LongComment q) 0)) e

-- a line feed is a blank, and `*` is a byte of marks
pub no_feed : (b : ℕ) → (class_of b ≡ Blank → ⊥) → b ≡ 10 → ⊥
no_feed b f e = f (ap class_of e)

pub no_close : (r : List ℕ) → (class_of (get_or r 0 0) ≡ Mark → ⊥) → begins (42 ∷ 47 ∷ []) r ≡ false
no_close [] f = refl
no_close (b ∷ r) f = and_left (eqb b 42) (begins (47 ∷ []) r) (ne_eqb b 42 (λ e. f (ap class_of e)))

-- where a token begins, and neither a blank nor a comment
pub mark_begins : (p : ℕ) (r : List ℕ) → class_of (get_or r 0 0) ≡ Mark → begins (47 ∷ 47 ∷ []) r ≡ false → begins (47 ∷ 42 ∷ []) r ≡ false → front Code p r ≡ token_front (class_of (get_or r 0 0)) r
mark_begins p r e h i =
    ap (λ k. code_front k p r) e ∙ ap (λ b. comment_or b (begins (47 ∷ 42 ∷ []) r) p r) h ∙ ap (λ b. comment_or false b p r) i ∙ ap (λ k. token_front k r) (sym e)

solid : (k : Class) (p : ℕ) (r : List ℕ) → (k ≡ Blank → ⊥) → (k ≡ Mark → ⊥) → code_front k p r ≡ token_front k r
solid Blank p r f g = absurd (f refl)
solid Letter p r f g = refl
solid Digit p r f g = refl
solid Underscore p r f g = refl
solid Quote p r f g = refl
solid Mark p r f g = absurd (g refl)
solid Stray p r f g = refl

pub solid_begins : (k : Class) (p : ℕ) (r : List ℕ) → k ≡ class_of (get_or r 0 0) → (k ≡ Blank → ⊥) → (k ≡ Mark → ⊥) → front Code p r ≡ token_front (class_of (get_or r 0 0)) r
solid_begins k p r e f g = subst (λ q. code_front q p r ≡ token_front q r) e (solid k p r f g)

-- a token is taken
pub took : (s : List ℕ) (at : ℕ) (k : Kind) (n v : ℕ) → at < length s → front Code at (drop at s) ≡ token k n v → 0 < n → at + n ≤ length s → (room : ℕ) → ahead s at Code room ≡ after_next (Ok (Some (token_of k at n v))) s (at + n) Code room
took s at k n v h e more fits zero = at_front s at Code 0 h ∙ ap (λ f. follow f 0 at (λ q k room. reading_from (drop (at + 1) s) q k room (at + 1))) e
took s at k n v h e more fits (suc room) =
    let one : at + (1 + (n - 1)) ≡ at + n = omega arith in
    at_front s at Code (suc room) h
    ∙ ap (λ f. follow f (suc room) at (λ q k room. reading_from (drop (at + 1) s) q k room (at + 1))) e
    ∙ ap (preceded (token_of k at n v)) (skipped_on s at Code (n - 1) room (omega arith) ∙ ap (λ m. ahead s m Code room) one)

-- a fault where a token should begin
pub failed : (s : List ℕ) (at n : ℕ) → at < length s → front Code at (drop at s) ≡ wrong n → (room : ℕ) → ahead s at Code room ≡ stopped (fault n at)
failed s at n h e room = at_front s at Code room h ∙ ap (λ f. follow f room at (λ q k room. reading_from (drop (at + 1) s) q k room (at + 1))) e

-- the end of the source
pub at_end : (s : List ℕ) (at : ℕ) (state : State) (room : ℕ) → length s ≤ at → ahead s at state room ≡ ended state
unfolding reading_from
at_end s at state room h = at_drop_all (λ r. reading_from r state 0 room at) s at h

-- the answers of a reader

-- where a token begins, in the words of the first reader
begins_here : (first r r' : Reader) (answer : Result Token Refusal) → Came first r → Stepped r r' true → TokenAt r'.source.now r'.at answer
    → (front Code r.at (drop r.at first.source.now) ≡ token_front (class_of (get_or (drop r.at first.source.now) 0 0)) (drop r.at first.source.now)) × TokenAt first.source.now r.at answer
begins_here first r r' answer c s t = (
  subst (λ q. front Code r.at (drop r.at q.now) ≡ token_front (class_of (get_or (drop r.at q.now) 0 0)) (drop r.at q.now)) c.source s.3,
  subst (λ n. TokenAt first.source.now n answer) s.1 (subst (λ q. TokenAt q.now r'.at answer) (s.0 ∙ c.source) t),
)

token_read : (s : List ℕ) (at : ℕ) (x : Token) → front Code at (drop at s) ≡ token_front (class_of (get_or (drop at s) 0 0)) (drop at s) → TokenAt s at (Ok x) → (0 < x.length) × ((room : ℕ) → ahead s at Code room ≡ after_next (Ok (Some x)) s (at + x.length) Code room)
token_read s at x b (k, n, v, e, is, more, fits) =
    let long : x.length ≡ n = ap (λ y. y.length) is in (
      omega arith,
      λ room.
          took s at k n v (omega arith) (b ∙ e) more fits room
          ∙ ap (λ y. after_next (Ok (Some y)) s (at + n) Code room) (sym is)
          ∙ ap (λ m. after_next (Ok (Some x)) s (at + m) Code room) (sym long),
    )

pub next_taken : (first r r' r'' : Reader) (x : Token) → Came first r → Stepped r r' true → TokenAt r'.source.now r'.at (Ok x) → Passed r' r'' x.length Code → Next first r'' (Ok (Some x))
next_taken first r r' r'' x c s t p =
    let h = begins_here first r r' (Ok x) c s t in
    let e = token_read first.source.now r.at x h.0 h.1 in
    let to : r''.at ≡ r.at + x.length = p.at ∙ ap (λ n. n + x.length) s.1 in
    record {
      source = p.source ∙ s.0 ∙ c.source;
      reads = λ room.
          c.reads room ∙ ap (λ q. ahead first.source.now r.at q room) s.2 ∙ e.1 room
          ∙ ap (λ n. after_next (Ok (Some x)) first.source.now n Code room) (sym to)
          ∙ ap (λ q. after_next (Ok (Some x)) first.source.now r''.at q room) (sym p.into);
      on = omega (arith, c.on, e.0);
    }

pub next_failed : (first r r' : Reader) (e : Refusal) (answer : Result (Option Token) Refusal) → r.at < length r.source.now → Came first r → Stepped r r' true → TokenAt r'.source.now r'.at (Err e) → answer ≡ Err e → Next first r' answer
next_failed first r r' e answer l c s t is =
    let h = begins_here first r r' (Err e) c s t in
    let within : r.at < length first.source.now = omega (arith, ap (λ q. length q.now) c.source) in
    subst (Next first r') (sym is)
    (record {
      source = s.0 ∙ c.source;
      reads = λ room.
          c.reads room ∙ ap (λ q. ahead first.source.now r.at q room) s.2
          ∙ failed first.source.now r.at (number_of e.reason) within (h.0 ∙ h.1.0) room
          ∙ ap (λ p. stopped (fault (number_of e.reason) p)) (sym h.1.1);
      on = tt;
    })

pub next_end : (first r : Reader) (answer : Result (Option Token) Refusal) → length r.source.now ≤ r.at → Came first r → ((room : ℕ) → ended r.state ≡ after_next answer first.source.now r.at r.state room) → IfOk answer (λ x. OnSome x (first.at < r.at)) → Next first r answer
next_end first r answer l c e on =
    let past : length first.source.now ≤ r.at = omega (arith, ap (λ q. length q.now) c.source) in
    record {
      source = c.source;
      reads = λ room. c.reads room ∙ at_end first.source.now r.at r.state room past ∙ e room;
      on = on;
    }
