-- The verdict on a script's lexemes is what the grammar's definitions say, both ways.
use Rattle.std.proofs.Common.{◌≡◌, ℕ, zero, suc, ◌+◌, ◌<◌, ◌≤◌, Bool, true, false, cond, ltb, ◌⊎◌, List, [], ◌∷◌, ◌++◌, length, get_or, take, drop, sym, refl, ap, ◌∙◌, inl, inr, append_assoc, arith, length-append, take-append-drop}
use native.Mathlib.Decide.{dec_le}
use Rattle.std.proofs.lemmas.Bool.Decides.{nat_tests}
use Rattle.lexer.specs.Lexeme.{Lexeme}
use Rattle.meaning.specs.Trees.{Script}
use Rattle.meaning.specs.Written.{script_lexemes}
use Rattle.meaning.specs.Depths.{script_depths, greatest}
use Rattle.meaning.specs.Grammar.{Grammatical, depth_at, ReadsAs, GoesOn, ShallowBefore, Accepted, Unexpected, EndsEarly, TooDeep}
use Rattle.meaning.proofs.Tokens.{tok_of, spelled}
use Rattle.meaning.proofs.Stack.{Sym, script, Values, Step, stop, on, step}
use Rattle.meaning.proofs.Parsed.{Parsed, Builds}
use Rattle.meaning.proofs.Builds.{builds}
use Rattle.meaning.proofs.Once.{script_parsed, reads_parsed}
use Rattle.meaning.proofs.Judge.{Outcome, accepted, refused, judge}
use Rattle.meaning.proofs.Least.{Sane, Keeps, keeps, sane_more, finished, least_values, least_of, least_depths}
use Rattle.meaning.proofs.Judged.{Why, WhyAt, verdict_of, parsed_judge, Shallow, Reached, reached, all_read, local}

-- the verdict on all the lexemes
abbrev pub verdict : List Lexeme → Outcome
verdict ls = judge (script ∷ []) 0 ls

-- Lists.

front_is : (w r : List Lexeme) → take (length w) (w ++ r) ≡ w
front_is [] r = refl
front_is (x ∷ w) r = ap (λ (y : List Lexeme). x ∷ y) (front_is w r)

front-one : (w : List Lexeme) (x : Lexeme) (r : List Lexeme) → take (suc (length w)) (w ++ (x ∷ r)) ≡ w ++ (x ∷ [])
front-one [] x r = refl
front-one (y ∷ w) x r = ap (λ (z : List Lexeme). y ∷ z) (front-one w x r)

-- as long a front of a front, with more after it
take-front : (k : ℕ) (ls r : List Lexeme) → k ≤ length ls → take k (take k ls ++ r) ≡ take k ls
take-front zero ls r h = refl
take-front (suc k) [] r h = absurd (omega arith)
take-front (suc k) (x ∷ ls) r h = ap (λ (y : List Lexeme). x ∷ y) (take-front k ls r (omega arith))

take_less : (j k : ℕ) (ls r : List Lexeme) → j ≤ k → k ≤ length ls → take j (take k ls ++ r) ≡ take j ls
take_less zero k ls r h l = refl
take_less (suc j) zero ls r h l = absurd (omega arith)
take_less (suc j) (suc k) [] r h l = absurd (omega arith)
take_less (suc j) (suc k) (x ∷ ls) r h l = ap (λ (y : List Lexeme). x ∷ y) (take_less j k ls r (omega arith) (omega arith))

take_all : (j : ℕ) (ls r : List Lexeme) → j ≤ length ls → take j (ls ++ r) ≡ take j ls
take_all zero ls r h = refl
take_all (suc j) [] r h = absurd (omega arith)
take_all (suc j) (x ∷ ls) r h = ap (λ (y : List Lexeme). x ∷ y) (take_all j ls r (omega arith))

take_long : (k : ℕ) (ls r : List Lexeme) → k ≤ length ls → k ≤ length (take k ls ++ r)
take_long zero ls r h = omega arith
take_long (suc k) [] r h = absurd (omega arith)
take_long (suc k) (x ∷ ls) r h = let i = take_long k ls r (omega arith) in omega arith

split-take : (j k : ℕ) (ls : List Lexeme) → j ≤ k → (r : List Lexeme) × (take k ls ≡ take j ls ++ r)
split-take zero k ls h = (take k ls, refl)
split-take (suc j) zero ls h = absurd (omega arith)
split-take (suc j) (suc k) [] h = ([], refl)
split-take (suc j) (suc k) (x ∷ ls) h = let i = split-take j k ls (omega arith) in (i.0, ap (λ (y : List Lexeme). x ∷ y) i.1)

take_whole : (ls : List Lexeme) → take (length ls) ls ≡ ls
take_whole [] = refl
take_whole (x ∷ ls) = ap (λ (y : List Lexeme). x ∷ y) (take_whole ls)

zero_plus : (k : ℕ) → 0 + k ≡ k
zero_plus k = omega arith

shallow_at : (ds : List ℕ) (j : ℕ) → Shallow ds → get_or ds j 0 ≤ 32
shallow_at [] zero h = omega arith
shallow_at [] (suc j) h = omega arith
shallow_at (d ∷ ds) zero h = h.0
shallow_at (d ∷ ds) (suc j) h = shallow_at ds j h.1

get_d_front : (ds es : List ℕ) (j : ℕ) → j < length ds → get_or (ds ++ es) j 0 ≡ get_or ds j 0
get_d_front [] es j h = absurd (omega arith)
get_d_front (d ∷ ds) es zero h = refl
get_d_front (d ∷ ds) es (suc j) h = get_d_front ds es j (omega arith)

get_d_middle : (ds : List ℕ) (d : ℕ) (es : List ℕ) → get_or (ds ++ (d ∷ es)) (length ds) 0 ≡ d
get_d_middle [] d es = refl
get_d_middle (c ∷ ds) d es = get_d_middle ds d es

shallow_greatest : (ds : List ℕ) → Shallow ds → greatest ds ≤ 32
unfolding greatest
shallow_greatest [] h = omega arith
shallow_greatest (d ∷ ds) h = let i = shallow_greatest ds h.1 in omega (arith, h.0)

-- What a list of depths comes to.

greatest_accepted : (ds : List ℕ) (i : ℕ) → greatest ds ≤ 32 → verdict_of i ds ≡ accepted
unfolding verdict_of greatest
greatest_accepted [] i h = refl
greatest_accepted (d ∷ ds) i h = let b : ltb 32 d ≡ false = grind (arith, nat_tests) in rw b (greatest_accepted ds (suc i) (omega arith))

-- only 10, and where something is too deep
verdict_deep : (ds : List ℕ) (i n j : ℕ) → verdict_of i ds ≡ refused n j → (n ≡ 10) × (k : ℕ) × (j ≡ i + k) × (32 < get_or ds k 0)
unfolding verdict_of
verdict_deep [] i n j e = let z : ◌≡◌ {A = ℕ} 0 1 = cc in absurd (omega arith)
verdict_deep (d ∷ ds) i n j e = go (ltb 32 d) refl e (verdict_deep ds (suc i) n j)
  where
    go : (b : Bool) → ltb 32 d ≡ b → cond b (refused 10 i) (verdict_of (suc i) ds) ≡ refused n j → (verdict_of (suc i) ds ≡ refused n j → (n ≡ 10) × (k : ℕ) × (j ≡ suc i + k) × (32 < get_or ds k 0))
        → (n ≡ 10) × (k : ℕ) × (j ≡ i + k) × (32 < get_or (d ∷ ds) k 0)
    go true b e ih = let x : n ≡ 10 = cc in let y : j ≡ i = cc in (x, 0, omega arith, grind (arith, nat_tests))
    go false b e ih = let r = ih e in (r.0, suc r.1, omega (arith, r.2), r.3)

deep_refused : (ds : List ℕ) (i k : ℕ) → ((j : ℕ) → j < k → get_or ds j 0 ≤ 32) → 32 < get_or ds k 0 → verdict_of i ds ≡ refused 10 (i + k)
unfolding verdict_of
deep_refused [] i zero h d = absurd (omega arith)
deep_refused [] i (suc k) h d = absurd (omega arith)
deep_refused (c ∷ ds) i zero h d = let b : ltb 32 c ≡ true = grind (arith, nat_tests) in let z : i + 0 ≡ i = omega arith in rw (b, z) refl
deep_refused (c ∷ ds) i (suc k) h d =
    let a = h 0 (omega arith) in let b : ltb 32 c ≡ false = grind (arith, nat_tests) in let z : i + suc k ≡ suc i + k = omega arith in
    rw (b, z) (deep_refused ds (suc i) k (λ j l. h (suc j) (omega arith)) d)

-- From the verdict to the grammar.

start_sane : Sane 32 (script ∷ [])
start_sane = (tt, tt)

pub accepted_reads : (ls : List Lexeme) → verdict ls ≡ accepted → (s : Script) × Accepted ls s
accepted_reads ls e =
    let r = all_read ls (script ∷ []) 0 e in
    let s = script_parsed r.0 ls r.1 r.2 in
    (r.0.0, record { reads = record { grammatical = s.0; lexemes = s.1 }; shallow = rw s.2 (shallow_greatest r.1 r.3) })

-- the script that goes on from what was read, by smallest trees for what was to come
completed : (ls : List Lexeme) (n j : ℕ) (r : Reached (script ∷ []) 0 ls n j) (ws : Values r.stack) (ms : List Lexeme) (es : List ℕ) → Parsed r.stack ws ms es
    → (s : Script) × Grammatical s × (script_lexemes s ≡ r.read ++ ms) × (script_depths s ≡ r.marks ++ es)
completed ls n j r ws ms es p =
    let b = r.back ws ms es p in let s = script_parsed b.0 _ _ b.1 in (b.0.0, s.0, s.1, s.2)

shallow_marks : (s : Script) (marks es : List ℕ) (k : ℕ) → script_depths s ≡ marks ++ es → length marks ≡ k → Shallow marks → ShallowBefore k s
shallow_marks s marks es k e l h j i =
    let z : j < length marks = omega arith in rw (e, get_d_front marks es j z) (shallow_at marks j h)

read_is : (ls w r : List Lexeme) (j : ℕ) → ls ≡ w ++ r → j ≡ 0 + length w → take j ls ≡ w
read_is ls w r j e h = let z : j ≡ length w = omega arith in rw (z, e) (front_is w r)

-- what a script's own verdict is not
never_nine : (s : Script) (us : List Lexeme) (k : ℕ) → Grammatical s → script_lexemes s ≡ us → verdict us ≡ refused 9 k → ⊥
never_nine s us k g e v =
    let p = parsed_judge us (script ∷ []) (s, tt) (script_depths s) 0 (reads_parsed us s (record { grammatical = g; lexemes = e })) in
    let d = verdict_deep (script_depths s) 0 9 k (sym p ∙ v) in omega (arith, d.0)

no_script_goes_on : (ls : List Lexeme) (k : ℕ) → k < length ls → verdict ls ≡ refused 9 k → (s : Script) → GoesOn (take (suc k) ls) s → ⊥
no_script_goes_on ls k h e s g =
    never_nine s (take (suc k) ls ++ g.rest) k g.grammatical g.lexemes
    (rw (zero_plus k) at (local k ls (take (suc k) ls ++ g.rest) (script ∷ []) 0 9 h (sym (take-front (suc k) ls g.rest h)) (rw (← (zero_plus k)) at e)))

pub unexpected_at : (ls : List Lexeme) (k : ℕ) → k < length ls → verdict ls ≡ refused 9 k → Unexpected ls k
unexpected_at ls k h e =
    let r = reached ls (script ∷ []) 0 9 k e in
    let c = completed ls 9 k r (least_values r.stack) (least_of r.stack) (least_depths r.stack) (finished 32 r.stack (r.sane start_sane)) in
    record {
      within = h;
      script = c.0;
      before = record { grammatical = c.1; rest = least_of r.stack; lexemes = rw (read_is ls r.read r.left k r.all r.place) c.2 };
      shallow = shallow_marks c.0 r.marks (least_depths r.stack) k c.3 (omega (arith, r.even, r.place)) r.shallow;
      stops = no_script_goes_on ls k h e;
    }

pub ends_early : (ls : List Lexeme) → verdict ls ≡ refused 9 (length ls) → EndsEarly ls
ends_early ls e =
    let r = reached ls (script ∷ []) 0 9 (length ls) e in
    let c = completed ls 9 (length ls) r (least_values r.stack) (least_of r.stack) (least_depths r.stack) (finished 32 r.stack (r.sane start_sane)) in
    let w : ls ≡ r.read = sym (take_whole ls) ∙ read_is ls r.read r.left (length ls) r.all r.place in
    record {
      script = c.0;
      before = record { grammatical = c.1; rest = least_of r.stack; lexemes = c.2 ∙ ap (λ (x : List Lexeme). x ++ least_of r.stack) (sym w) };
      shallow = shallow_marks c.0 r.marks (least_depths r.stack) (length ls) c.3 (omega (arith, r.even, r.place)) r.shallow;
      unfinished = λ s q. never_nine s ls (length ls) q.grammatical q.lexemes e;
    }

-- something at depth 33 begins at the token x
pub record Deep (K : List Sym) (left : List Lexeme) : Type 0 where
  pub first : Lexeme
  pub others : List Lexeme
  pub is : left ≡ first ∷ others
  pub then : List Lexeme
  pub depths : List ℕ
  pub trees : Values K
  pub stands : Parsed K trees (first ∷ then) (33 ∷ depths)

deep_there : (K : List Sym) (left : List Lexeme) → Sane 32 K → Why K left 10 → Deep K left
deep_there K [] h w = absurd (omega arith)
deep_there K (x ∷ left) h w = go (step K (tok_of x)) (builds K (tok_of x)) (keeps 32 K (tok_of x)) (keeps 33 K (tok_of x)) w
  where
    go : (s : Step K) → Builds K (tok_of x) s → Keeps 32 K s → Keeps 33 K s → WhyAt s 10 → Deep K (x ∷ left)
    go stop b k l w = absurd (omega arith)
    go (on d L f) b k l w =
        let c : d ≡ 33 = omega (arith, (k h).0, w.1) in
        let s = (l (sane_more 32 K h)).1 (omega arith) in
        record {
          first = x;
          others = left;
          is = refl;
          then = least_of L;
          depths = least_depths L;
          trees = f (least_values L);
          stands = rw c at (b x refl (spelled x) (least_values L) (least_of L) (least_depths L) (finished 33 L s));
        }

front_at : (ls w : List Lexeme) (x : Lexeme) (r : List Lexeme) (k : ℕ) → ls ≡ w ++ (x ∷ r) → k ≡ length w → take (suc k) ls ≡ w ++ (x ∷ [])
front_at ls w x r k a z = rw (z, a) (front-one w x r)

within_at : (ls w : List Lexeme) (x : Lexeme) (r : List Lexeme) (k : ℕ) → ls ≡ w ++ (x ∷ r) → k ≡ length w → k < length ls
within_at ls w x r k a z = rw (a, length-append w (x ∷ r)) (omega arith)

depth_is : (s : Script) (marks : List ℕ) (d : ℕ) (es : List ℕ) (k : ℕ) → script_depths s ≡ marks ++ (d ∷ es) → k ≡ length marks → depth_at s k ≡ d
depth_is s marks d es k a z = rw (a, z) (get_d_middle marks d es)

pub too_deep_at : (ls : List Lexeme) (k : ℕ) → verdict ls ≡ refused 10 k → TooDeep ls k
too_deep_at ls k e =
    let r = reached ls (script ∷ []) 0 10 k e in
    let d = deep_there r.stack r.left (r.sane start_sane) r.why in
    let c = completed ls 10 k r d.trees (d.first ∷ d.then) (33 ∷ d.depths) d.stands in
    let a : ls ≡ r.read ++ (d.first ∷ d.others) = r.all ∙ ap (λ (x : List Lexeme). r.read ++ x) d.is in
    let z : k ≡ length r.read = omega (arith, r.place) in
    let t : take (suc k) ls ≡ r.read ++ (d.first ∷ []) = front_at ls r.read d.first d.others k a z in
    record {
      within = within_at ls r.read d.first d.others k a z;
      script = c.0;
      before = record { grammatical = c.1; rest = d.then; lexemes = c.2 ∙ sym (append_assoc r.read (d.first ∷ []) d.then) ∙ ap (λ (x : List Lexeme). x ++ d.then) (sym t) };
      shallow = shallow_marks c.0 r.marks (33 ∷ d.depths) k c.3 (omega (arith, r.even)) r.shallow;
      deep = depth_is c.0 r.marks 33 d.depths k c.3 (omega (arith, r.even));
    }

-- From the grammar to the verdict.

-- the verdict on a script's own lexemes
own_verdict : (s : Script) (us : List Lexeme) → Grammatical s → script_lexemes s ≡ us → verdict us ≡ verdict_of 0 (script_depths s)
own_verdict s us g e = parsed_judge us (script ∷ []) (s, tt) (script_depths s) 0 (reads_parsed us s (record { grammatical = g; lexemes = e }))

pub reads_accepted : (ls : List Lexeme) (s : Script) → Accepted ls s → verdict ls ≡ accepted
reads_accepted ls s a = own_verdict s ls a.reads.grammatical a.reads.lexemes ∙ greatest_accepted (script_depths s) 0 a.shallow

-- no refusal comes before token k, where a script goes on from the tokens before it and nothing there is too deep
not_before : (ls : List Lexeme) (k : ℕ) (s : Script) → k ≤ length ls → GoesOn (take k ls) s → ShallowBefore k s → (n j : ℕ) → verdict ls ≡ refused n j → k ≤ j
not_before ls k s l g h n j e =
    elim (dec_le k j) [
      | yes m ↦ m
      | no m ↦
          let i : j < k = omega arith in
          let u = take k ls ++ g.rest in
          let v = local j ls u (script ∷ []) 0 n (omega arith) (sym (take_less (suc j) k ls g.rest i l)) (rw (← (zero_plus j)) at e) in
          let d = verdict_deep (script_depths s) 0 n (0 + j) (sym (own_verdict s u g.grammatical g.lexemes) ∙ v) in
          let q : d.1 ≡ j = omega (arith, d.2) in
          let b = h j i in absurd (deeper s d.1 j d.3 q b)
    ]
  where
    deeper : (s : Script) (a j : ℕ) → 32 < get_or (script_depths s) a 0 → a ≡ j → depth_at s j ≤ 32 → ⊥
    deeper s a j d q b = let z : get_or (script_depths s) a 0 ≡ get_or (script_depths s) j 0 = ap (λ (x : ℕ). get_or (script_depths s) x 0) q in omega arith

-- a script that goes on from more goes on from less
goes_on_less : (ls : List Lexeme) (j k : ℕ) (s : Script) → j ≤ k → GoesOn (take k ls) s → GoesOn (take j ls) s
goes_on_less ls j k s h g =
    let t = split-take j k ls h in
    record { grammatical = g.grammatical; rest = t.0 ++ g.rest; lexemes = g.lexemes ∙ ap (λ (x : List Lexeme). x ++ g.rest) t.1 ∙ append_assoc (take j ls) t.0 g.rest }

whole_goes_on : (ls : List Lexeme) (k : ℕ) (s : Script) → ReadsAs ls s → GoesOn (take k ls) s
whole_goes_on ls k s r = record { grammatical = r.grammatical; rest = drop k ls; lexemes = r.lexemes ∙ sym (take-append-drop k ls) }

-- how a refusal can be
pub refusal_is : (ls : List Lexeme) (n j : ℕ) → verdict ls ≡ refused n j → (j ≤ length ls) × (((n ≡ 9) × (j < length ls)) ⊎ (((n ≡ 9) × (j ≡ length ls)) ⊎ ((n ≡ 10) × (j < length ls))))
refusal_is ls n j e = let r = reached ls (script ∷ []) 0 n j e in by r r.left refl r.why
  where
    by : (r : Reached (script ∷ []) 0 ls n j) (left : List Lexeme) → r.left ≡ left → Why r.stack left n → (j ≤ length ls) × (((n ≡ 9) × (j < length ls)) ⊎ (((n ≡ 9) × (j ≡ length ls)) ⊎ ((n ≡ 10) × (j < length ls))))
    by r [] x w =
        let l : length ls ≡ length r.read + 0 = ap length r.all ∙ length-append r.read r.left ∙ ap (λ (y : List Lexeme). length r.read + length y) x in
        (omega (arith, r.place), inr (inl (w, omega (arith, r.place))))
    by r (y ∷ left) x w =
        let l : length ls ≡ length r.read + suc (length left) = ap length r.all ∙ length-append r.read r.left ∙ ap (λ (z : List Lexeme). length r.read + length z) x in
        let i : j < length ls = omega (arith, r.place) in (omega arith, at (step r.stack (tok_of y)) i w)
      where
        at : (s : Step r.stack) → j < length ls → WhyAt s n → ((n ≡ 9) × (j < length ls)) ⊎ (((n ≡ 9) × (j ≡ length ls)) ⊎ ((n ≡ 10) × (j < length ls)))
        at stop i w = inl (w, i)
        at (on d L f) i w = inr (inr (w.0, i))

refused_by_lem : (ls : List Lexeme) (m n j : ℕ) → m ≡ n → verdict ls ≡ refused m j → verdict ls ≡ refused n j
refused_by_lem ls m n j e v = v ∙ ap (λ (x : ℕ). refused x j) e

pub unexpected_refused : (ls : List Lexeme) (k : ℕ) → Unexpected ls k → verdict ls ≡ refused 9 k
unexpected_refused ls k u = go (verdict ls) refl
  where
    later : (n j : ℕ) → verdict ls ≡ refused n j → k ≤ j → ((n ≡ 9) × (j < length ls)) ⊎ (((n ≡ 9) × (j ≡ length ls)) ⊎ ((n ≡ 10) × (j < length ls))) → verdict ls ≡ refused 9 k
    later n j e h (inl w) =
        elim (dec_le j k) [
          | yes l ↦ let z : j ≡ k = omega arith in e ∙ ap (λ (x : ℕ). refused x j) w.0 ∙ ap (λ (x : ℕ). refused 9 x) z
          | no l ↦ let x = unexpected_at ls j w.1 (refused_by_lem ls n 9 j w.0 e) in absurd (u.stops x.script (goes_on_less ls (suc k) j x.script (omega arith) x.before))
        ]
    later n j e h (inr (inl w)) =
        let x = ends_early ls (e ∙ ap (λ (y : ℕ). refused y j) w.0 ∙ ap (λ (y : ℕ). refused 9 y) w.1) in
        let g : GoesOn (take (length ls) ls) x.script = rw (take_whole ls) x.before in
        absurd (u.stops x.script (goes_on_less ls (suc k) (length ls) x.script u.within g))
    later n j e h (inr (inr w)) =
        let x = too_deep_at ls j (refused_by_lem ls n 10 j w.0 e) in
        absurd (u.stops x.script (goes_on_less ls (suc k) (suc j) x.script (omega arith) x.before))

    go : (o : Outcome) → verdict ls ≡ o → verdict ls ≡ refused 9 k
    go accepted e = let a = accepted_reads ls e in absurd (u.stops a.0 (whole_goes_on ls (suc k) a.0 a.1.reads))
    go (refused n j) e =
        let w = u.within in
        later n j e (not_before ls k u.script (omega arith) u.before u.shallow n j e) (refusal_is ls n j e).1

pub early_refused : (ls : List Lexeme) → EndsEarly ls → verdict ls ≡ refused 9 (length ls)
early_refused ls u = go (verdict ls) refl
  where
    later : (n j : ℕ) → verdict ls ≡ refused n j → length ls ≤ j → ((n ≡ 9) × (j < length ls)) ⊎ (((n ≡ 9) × (j ≡ length ls)) ⊎ ((n ≡ 10) × (j < length ls))) → verdict ls ≡ refused 9 (length ls)
    later n j e h (inl w) = absurd (omega (arith, w.1))
    later n j e h (inr (inl w)) = e ∙ ap (λ (y : ℕ). refused y j) w.0 ∙ ap (λ (y : ℕ). refused 9 y) w.1
    later n j e h (inr (inr w)) = absurd (omega (arith, w.1))

    go : (o : Outcome) → verdict ls ≡ o → verdict ls ≡ refused 9 (length ls)
    go accepted e = let a = accepted_reads ls e in absurd (u.unfinished a.0 a.1.reads)
    go (refused n j) e =
        let g : GoesOn (take (length ls) ls) u.script = rw (take_whole ls) u.before in
        later n j e (not_before ls (length ls) u.script (omega arith) g u.shallow n j e) (refusal_is ls n j e).1

pub too_deep_refused : (ls : List Lexeme) (k : ℕ) → TooDeep ls k → verdict ls ≡ refused 10 k
too_deep_refused ls k u =
    let us = take (suc k) ls ++ u.before.rest in
    let w = u.within in
    let d : 32 < get_or (script_depths u.script) k 0 = omega (arith, u.deep) in
    let v = own_verdict u.script us u.before.grammatical u.before.lexemes ∙ deep_refused (script_depths u.script) 0 k u.shallow d in
    let l = take_long (suc k) ls u.before.rest w in
    rw (zero_plus k) at (local k us ls (script ∷ []) 0 10 l (take-front (suc k) ls u.before.rest w) v)
