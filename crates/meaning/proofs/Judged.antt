-- The machine's verdict is the grammar's: each of its outcomes says of the lexemes what the definitions say, and each of
-- these has that outcome.
use Rattle.std.proofs.Common.{◌≡◌, ℕ, zero, suc, ◌+◌, ◌<◌, ◌≤◌, Bool, true, false, cond, ltb, List, [], ◌∷◌, ◌++◌, length, take, sym, refl, ap, subst, arith}
use mathlib.Core.Option.{Option, none, some}
use Rattle.std.proofs.lemmas.Bool.Decides.{nat_tests}
use Rattle.lexer.specs.Lexeme.{Lexeme}
use Rattle.meaning.specs.Trees.{variable}
use Rattle.meaning.specs.Written.{expr_lexemes}
use Rattle.meaning.specs.Depths.{expr_depths}
use Rattle.meaning.proofs.Tokens.{stray, tok_of, spelled}
use Rattle.meaning.proofs.Stack.{Sym, token, a_name, a_constant, a_result, an_int, parameter, operand, called, tail, expr, exprs, further, arguments, statement, named, returned, statements, orelse, script, declared, integer, mainly, done, end, absent, Value, Values, Step, stop, on, empty, absorbs, optional, step, closed}
use Rattle.meaning.proofs.Parsed.{before, before_d, lex_v, dep_v, FineV, EndsV, Parsed, After, Builds}
use Rattle.meaning.proofs.Builds.{never, builds}
use Rattle.meaning.proofs.Moves.{moves}
use Rattle.meaning.proofs.Judge.{Outcome, accepted, refused, decide, judge}
use Rattle.meaning.proofs.Least.{Sane, Keeps, keeps}

-- Trees that stand there decide the verdict: it is that of their depths.

unfoldable pub verdict_of : ℕ → List ℕ → Outcome
verdict_of i [] = accepted
verdict_of i (d ∷ ds) = cond (ltb 32 d) (refused 10 i) (verdict_of (suc i) ds)

pub parsed_judge : (ls : List Lexeme) (K : List Sym) (vs : Values K) (ds : List ℕ) (i : ℕ) → Parsed K vs ls ds → judge K i ls ≡ verdict_of i ds
unfolding judge verdict_of
parsed_judge [] K vs ds i p = let m = moves K vs [] ds p in rw (m.0, m.1) refl
parsed_judge (l ∷ ls) K vs ds i p = go (step K (tok_of l)) (moves K vs (l ∷ ls) ds p) (parsed_judge ls)
  where
    go : (s : Step K) → After s vs ls ds → ((L : List Sym) (ws : Values L) (es : List ℕ) (j : ℕ) → Parsed L ws ls es → judge L j ls ≡ verdict_of j es) → decide s i (λ L. judge L (suc i) ls) ≡ verdict_of i ds
    go stop a ih = absurd a
    go (on d L f) a ih = rw a.2 (ap (cond (ltb 32 d) (refused 10 i)) (ih L a.0 a.1 (suc i) a.4))

-- Where the verdict is given.

abbrev pub Shallow : List ℕ → Type 0
Shallow [] = Unit {0}
Shallow (d ∷ ds) = (d ≤ 32) × Shallow ds

abbrev pub WhyAt : {K : List Sym} → Step K → ℕ → Type 0
WhyAt stop n = n ≡ 9
WhyAt (on d L f) n = (n ≡ 10) × (32 < d)

abbrev pub Why : List Sym → List Lexeme → ℕ → Type 0
Why K [] n = n ≡ 9
Why K (l ∷ ls) n = WhyAt (step K (tok_of l)) n

-- what was read before the token j, at which n is refused; its trees end where those of the stack begin
pub record Reached (K : List Sym) (i : ℕ) (ls : List Lexeme) (n j : ℕ) : Type 0 where
  pub read : List Lexeme
  pub left : List Lexeme
  pub stack : List Sym
  pub marks : List ℕ
  pub all : ls ≡ read ++ left
  pub place : j ≡ i + length read
  pub even : length marks ≡ length read
  pub shallow : Shallow marks
  pub back : (ws : Values stack) (ms : List Lexeme) (es : List ℕ) → Parsed stack ws ms es → (vs : Values K) × Parsed K vs (read ++ ms) (marks ++ es)
  pub sane : Sane 32 K → Sane 32 stack
  pub why : Why stack left n

refused_same : (m n i j : ℕ) → refused m i ≡ refused n j → (m ≡ n) × (i ≡ j)
refused_same m n i j e = (cc, cc)

here : (K : List Sym) (i : ℕ) (ls : List Lexeme) (n j : ℕ) → i ≡ j → Why K ls n → Reached K i ls n j
here K i ls n j e w =
    record { read = []; left = ls; stack = K; marks = []; all = refl; place = omega arith; even = refl; shallow = tt; back = λ ws ms es p. (ws, p); sane = λ h. h; why = w }

further_on : (K : List Sym) (i : ℕ) (l : Lexeme) (ls : List Lexeme) (n j d : ℕ) (L : List Sym) (f : Values L → Values K) → d ≤ 32 → Builds K (tok_of l) (on d L f) → Keeps 32 K (on d L f)
    → Reached L (suc i) ls n j → Reached K i (l ∷ ls) n j
further_on K i l ls n j d L f h b k r =
    record {
      read = l ∷ r.read;
      left = r.left;
      stack = r.stack;
      marks = d ∷ r.marks;
      all = ap (λ (x : List Lexeme). l ∷ x) r.all;
      place = omega (arith, r.place);
      even = ap suc r.even;
      shallow = (h, r.shallow);
      back = λ ws ms es p. let q = r.back ws ms es p in (f q.0, b l refl (spelled l) q.0 (r.read ++ ms) (r.marks ++ es) q.1);
      sane = λ z. r.sane ((k z).1 h);
      why = r.why;
    }

pub reached : (ls : List Lexeme) (K : List Sym) (i n j : ℕ) → judge K i ls ≡ refused n j → Reached K i ls n j
unfolding judge
reached [] K i n j e = go (closed K) e
  where
    go : (b : Bool) → cond b accepted (refused 9 i) ≡ refused n j → Reached K i [] n j
    go true e = let z : ◌≡◌ {A = ℕ} 0 1 = cc in absurd (omega arith)
    go false e = let s = refused_same 9 n i j e in here K i [] n j s.1 (sym s.0)
reached (l ∷ ls) K i n j e = go (step K (tok_of l)) refl (builds K (tok_of l)) (keeps 32 K (tok_of l)) e (reached ls)
  where
    deeper : (d : ℕ) (L : List Sym) (f : Values L → Values K) → step K (tok_of l) ≡ on d L f → Builds K (tok_of l) (on d L f) → Keeps 32 K (on d L f) → (b : Bool) → ltb 32 d ≡ b → cond b (refused 10 i) (judge L (suc i) ls) ≡ refused n j
        → ((M : List Sym) (k m o : ℕ) → judge M k ls ≡ refused m o → Reached M k ls m o) → Reached K i (l ∷ ls) n j
    deeper d L f x b k true h e ih =
        let s = refused_same 10 n i j e in here K i (l ∷ ls) n j s.1 (subst (λ (y : Step K). WhyAt y n) (sym x) (sym s.0, grind (arith, nat_tests)))
    deeper d L f x b k false h e ih = further_on K i l ls n j d L f (grind (arith, nat_tests)) b k (ih L (suc i) n j e)

    go : (s : Step K) → step K (tok_of l) ≡ s → Builds K (tok_of l) s → Keeps 32 K s → decide s i (λ L. judge L (suc i) ls) ≡ refused n j → ((M : List Sym) (k m o : ℕ) → judge M k ls ≡ refused m o → Reached M k ls m o) → Reached K i (l ∷ ls) n j
    go stop x b k e ih = let s = refused_same 9 n i j e in here K i (l ∷ ls) n j s.1 (subst (λ (y : Step K). WhyAt y n) (sym x) (sym s.0))
    go (on d L f) x b k e ih = deeper d L f x b k (ltb 32 d) refl e ih

-- Acceptance: all was read.

no_some : {X Y : Type 0} (x : X) → none ≡ some x → Y
no_some x e = let z : ◌≡◌ {A = ℕ} 0 1 = cc in absurd (omega arith)

some_same : {X : Type 0} (x y : X) → some x ≡ some y → x ≡ y
some_same x y e = cc

-- a symbol left out at the end
abbrev AtEnd : (A : Sym) → Value A → Type 0
AtEnd A v = FineV A v × (before A [] ≡ lex_v A v []) × (before_d A [] ≡ dep_v A v []) × EndsV A v []

at_end : (A : Sym) (v : Value A) → empty A ≡ some v → absorbs A stray ≡ false → AtEnd A v
unfolding expr_lexemes expr_depths
at_end (token w) v e n = no_some v e
at_end a_name v e n = no_some v e
at_end a_constant v e n = no_some v e
at_end a_result v e n = no_some v e
at_end an_int v e n = no_some v e
at_end parameter v e n = never (sym n)
at_end (operand d) v e n = no_some v e
at_end (called d x) v e n = subst (AtEnd (called d x)) (some_same (variable x) v e) (tt, refl, refl, λ _. n)
at_end (tail n d) v e n' = subst (AtEnd (tail n d)) (some_same (done) v e) (tt, refl, refl, n')
at_end (expr d) v e n = no_some v e
at_end (exprs d) v e n = no_some v e
at_end (further d) v e n = subst (AtEnd (further d)) (some_same (end) v e) (tt, refl, refl, n)
at_end (arguments d) v e n = never (sym n)
at_end (statement d) v e n = no_some v e
at_end (named d x) v e n = no_some v e
at_end (returned d p) v e n = no_some v e
at_end (statements d) v e n = never (sym n)
at_end (orelse d) v e n = subst (AtEnd (orelse d)) (some_same (absent) v e) (tt, refl, refl, n)
at_end script v e n = no_some v e
at_end (declared s) v e n = no_some v e
at_end (integer s p) v e n = no_some v e
at_end (mainly s p q) v e n = no_some v e

blank_end : (K : List Sym) → closed K ≡ true → (vs : Values K) × Parsed K vs [] []
blank_end [] c = (tt, (refl, refl))
blank_end (A ∷ K) c = go (empty A) refl c (blank_end K)
  where
    left : (v : Value A) → empty A ≡ some v → (b : Bool) → absorbs A stray ≡ b → cond b false (closed K) ≡ true → (closed K ≡ true → (vs : Values K) × Parsed K vs [] []) → (vs : Values (A ∷ K)) × Parsed (A ∷ K) vs [] []
    left v e true h c ih = never c
    left v e false h c ih =
        let k = ih c in let a = at_end A v e h in
        ((v, k.0), record { rest = []; depths = []; fine = a.0; lexemes = a.1; marks = a.2; ends = a.3; after = k.1 })

    go : (o : Option (Value A)) → empty A ≡ o → cond (optional o) (cond (absorbs A stray) false (closed K)) false ≡ true → (closed K ≡ true → (vs : Values K) × Parsed K vs [] []) → (vs : Values (A ∷ K)) × Parsed (A ∷ K) vs [] []
    go none e c ih = never c
    go (some v) e c ih = left v e (absorbs A stray) refl c ih

pub all_read : (ls : List Lexeme) (K : List Sym) (i : ℕ) → judge K i ls ≡ accepted → (vs : Values K) × (ds : List ℕ) × Parsed K vs ls ds × Shallow ds
unfolding judge
all_read [] K i e = go (closed K) refl e
  where
    go : (b : Bool) → closed K ≡ b → cond b accepted (refused 9 i) ≡ accepted → (vs : Values K) × (ds : List ℕ) × Parsed K vs [] ds × Shallow ds
    go true c e = let k = blank_end K c in (k.0, [], k.1, tt)
    go false c e = let z : ◌≡◌ {A = ℕ} 0 1 = cc in absurd (omega arith)
all_read (l ∷ ls) K i e = go (step K (tok_of l)) (builds K (tok_of l)) e (all_read ls)
  where
    deeper : (d : ℕ) (L : List Sym) (f : Values L → Values K) → Builds K (tok_of l) (on d L f) → (b : Bool) → ltb 32 d ≡ b → cond b (refused 10 i) (judge L (suc i) ls) ≡ accepted
        → ((M : List Sym) (k : ℕ) → judge M k ls ≡ accepted → (vs : Values M) × (ds : List ℕ) × Parsed M vs ls ds × Shallow ds) → (vs : Values K) × (ds : List ℕ) × Parsed K vs (l ∷ ls) ds × Shallow ds
    deeper d L f b true h e ih = let z : ◌≡◌ {A = ℕ} 0 1 = cc in absurd (omega arith)
    deeper d L f b false h e ih =
        let r = ih L (suc i) e in (f r.0, d ∷ r.1, b l refl (spelled l) r.0 ls r.1 r.2, (grind (arith, nat_tests), r.3))

    go : (s : Step K) → Builds K (tok_of l) s → decide s i (λ L. judge L (suc i) ls) ≡ accepted
        → ((M : List Sym) (k : ℕ) → judge M k ls ≡ accepted → (vs : Values M) × (ds : List ℕ) × Parsed M vs ls ds × Shallow ds) → (vs : Values K) × (ds : List ℕ) × Parsed K vs (l ∷ ls) ds × Shallow ds
    go stop b e ih = let z : ◌≡◌ {A = ℕ} 0 1 = cc in absurd (omega arith)
    go (on d L f) b e ih = deeper d L f b (ltb 32 d) refl e ih

-- A refusal rests on the tokens up to its own.

refused_after : (ls : List Lexeme) (K : List Sym) (i n j : ℕ) → judge K i ls ≡ refused n j → i ≤ j
refused_after ls K i n j e = let r = reached ls K i n j e in omega (arith, r.place)

pub local : (k : ℕ) (ls us : List Lexeme) (K : List Sym) (i n : ℕ) → k < length ls → take (suc k) ls ≡ take (suc k) us → judge K i ls ≡ refused n (i + k) → judge K i us ≡ refused n (i + k)
unfolding judge
local k [] us K i n h t e = absurd (omega arith)
local k (x ∷ ls) [] K i n h t e = let z : ◌≡◌ {A = ℕ} 0 1 = cc in absurd (omega arith)
local zero (x ∷ ls) (y ∷ us) K i n h t e = let z : x ≡ y = cc in rw (← z) (go (step K (tok_of x)) e)
  where
    go : (s : Step K) → decide s i (λ L. judge L (suc i) ls) ≡ refused n (i + 0) → decide s i (λ L. judge L (suc i) us) ≡ refused n (i + 0)
    go stop e = e
    go (on d L f) e = deep (ltb 32 d) e
      where
        deep : (b : Bool) → cond b (refused 10 i) (judge L (suc i) ls) ≡ refused n (i + 0) → cond b (refused 10 i) (judge L (suc i) us) ≡ refused n (i + 0)
        deep true e = e
        deep false e = let a = refused_after ls L (suc i) n (i + 0) e in absurd (omega arith)
local (suc k) (x ∷ ls) (y ∷ us) K i n h t e = let z : x ≡ y = cc in let w : take (suc k) ls ≡ take (suc k) us = cc in rw (← z) (go (step K (tok_of x)) e (λ L. local k ls us L (suc i) n (omega arith) w))
  where
    go : (s : Step K) → decide s i (λ L. judge L (suc i) ls) ≡ refused n (i + suc k) → ((L : List Sym) → judge L (suc i) ls ≡ refused n (suc i + k) → judge L (suc i) us ≡ refused n (suc i + k)) → decide s i (λ L. judge L (suc i) us) ≡ refused n (i + suc k)
    go stop e ih = let s = refused_same 9 n i (i + suc k) e in absurd (omega (arith, s.1))
    go (on d L f) e ih = deep (ltb 32 d) e
      where
        deep : (b : Bool) → cond b (refused 10 i) (judge L (suc i) ls) ≡ refused n (i + suc k) → cond b (refused 10 i) (judge L (suc i) us) ≡ refused n (i + suc k)
        deep true e = let s = refused_same 10 n i (i + suc k) e in absurd (omega (arith, s.1))
        deep false e = let q : i + suc k ≡ suc i + k = omega arith in rw q (ih L (rw q at e))
