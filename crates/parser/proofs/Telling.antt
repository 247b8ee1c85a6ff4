-- What the code tells is the grammar's verdict.
use Rattle.std.proofs.Common.{◌≡◌, ℕ, zero, suc, ◌<◌, ◌≤◌, ◌⊎◌, List, [], ◌∷◌, length, get_or, sym, refl, ap, ◌∙◌, subst, inl, inr, arith}
use Rattle.std.proofs.Common.{Ok, Err, Result, Some, None, Option}
use Rattle.std.specs.Option.{MatchOption}
use Rattle.std.specs.List.{HoldsAt}
use Rattle.std.specs.Result.{OkIff, result_unwrap_or, MatchResult, IsErrAnd}
use Rattle.std.proofs.lemmas.Result.{err_from_is_err_and}
use Rattle.refusal.specs.declared.reason.Refusal.{Refusal}
use Rattle.refusal.specs.Told.{Told, accepted, refused, number_of, told}
use Rattle.lexer.specs.Lexeme.{Lexeme}
use Rattle.lexer.specs.Reading.{lexemes}
use Rattle.lexer.specs.declared.kind.Token.{Token}
use Rattle.meaning.proofs.Judge.{Outcome}
use Rattle.meaning.proofs.Judge as Judge
use Rattle.meaning.proofs.Verdicts.{verdict, accepted_reads, unexpected_at, ends_early, too_deep_at, reads_accepted, unexpected_refused, early_refused, too_deep_refused, refusal_is}
use Rattle.parser.specs.Verdict.{place_at, end_place, Wrong, unexpected, early, deep, Verdict, OneVerdict}
use Rattle.parser.specs.Steps.{place_by, fault_number, fault_at, faulted, outcome_of}
use Rattle.parser.specs.declared.fault.Fault.{Fault}
use Rattle.parser.specs.declared.fault.Fault.TheVariants.{Unexpected, TooDeep}

-- Places.

pub place_in : (s : List ℕ) (ts : List Token) (n i : ℕ) (d : Token) → i < length ts → (get_or ts i d).place ≡ place_by (lexemes s ts) n i
place_in s [] n i d h = absurd (omega arith)
place_in s (t ∷ ts) n zero d h = refl
place_in s (t ∷ ts) n (suc i) d h = place_in s ts n i d (omega arith)

pub place_past : (s : List ℕ) (ts : List Token) (n i : ℕ) → length ts ≤ i → end_place n ≡ place_by (lexemes s ts) n i
place_past s [] n i h = refl
place_past s (t ∷ ts) n zero h = absurd (omega arith)
place_past s (t ∷ ts) n (suc i) h = place_past s ts n i (omega arith)

place_of : (ls : List Lexeme) (n k : ℕ) → k < length ls → place_by ls n k ≡ place_at ls k
place_of [] n k h = absurd (omega arith)
place_of (l ∷ ls) n zero h = refl
place_of (l ∷ ls) n (suc k) h = place_of ls n k (omega arith)

place_end : (ls : List Lexeme) (n : ℕ) → place_by ls n (length ls) ≡ end_place n
place_end [] n = refl
place_end (l ∷ ls) n = place_end ls n

-- What is told of an outcome.

abbrev told_by : List Lexeme → ℕ → Outcome → Told (Unit {0})
told_by ls n Judge.accepted = accepted tt
told_by ls n (Judge.refused m k) = refused m (place_by ls n k)

nine : (ls : List Lexeme) (n m k : ℕ) → m ≡ 9 → verdict ls ≡ Judge.refused 9 k → ((m ≡ 9) × (k < length ls)) ⊎ (((m ≡ 9) × (k ≡ length ls)) ⊎ ((m ≡ 10) × (k < length ls))) → Wrong ls n 9 (place_by ls n k)
nine ls n m k z e (inl w) = subst (Wrong ls n 9) (sym (place_of ls n k w.1)) (unexpected k (unexpected_at ls k w.1 e))
nine ls n m k z e (inr (inl w)) =
    subst (Wrong ls n 9) (sym (ap (place_by ls n) w.1 ∙ place_end ls n)) (early (ends_early ls (e ∙ ap (λ (x : ℕ). Judge.refused 9 x) w.1)))
nine ls n m k z e (inr (inr w)) = absurd (omega (arith, w.0))

pub wrong : (ls : List Lexeme) (n : ℕ) (f : Fault) → verdict ls ≡ faulted f → Wrong ls n (fault_number f) (place_by ls n (fault_at f))
wrong ls n (Unexpected k) e = nine ls n 9 k refl e (refusal_is ls 9 k e).1
wrong ls n (TooDeep k) e = let d = too_deep_at ls k e in subst (Wrong ls n 10) (sym (place_of ls n k d.within)) (deep k d)

-- Each verdict is the machine's, so there is but one.

wrong_is : (ls : List Lexeme) (n m p : ℕ) → Wrong ls n m p → refused m p ≡ told_by ls n (verdict ls)
wrong_is ls n m p (unexpected k u) = ap (refused 9) (sym (place_of ls n k u.within)) ∙ ap (told_by ls n) (sym (unexpected_refused ls k u))
wrong_is ls n m p (early u) = ap (refused 9) (sym (place_end ls n)) ∙ ap (told_by ls n) (sym (early_refused ls u))
wrong_is ls n m p (deep k u) = ap (refused 10) (sym (place_of ls n k u.within)) ∙ ap (told_by ls n) (sym (too_deep_refused ls k u))

verdict_is : (ls : List Lexeme) (n : ℕ) (x : Told (Unit {0})) → Verdict ls n x → x ≡ told_by ls n (verdict ls)
verdict_is ls n (accepted u) v = ap (told_by ls n) (sym (reads_accepted ls v.0 v.1))
verdict_is ls n (refused m p) v = wrong_is ls n m p v

pub one-verdict : OneVerdict
one-verdict ls n x y v w = verdict_is ls n x v ∙ sym (verdict_is ls n y w)

-- the end as code tells it
pub end_told : {E : Type 0} (r : Result ℕ E) (n : ℕ) → OkIff r (n < 4294967296) n → result_unwrap_or r 4294967295 ≡ end_place n
end_told (Ok m) n h = grind arith
end_told (Err e) n h = grind arith

-- what is told of all the tokens
pub verdict_told : {Q : Fault → Refusal → Type 0} (ls : List Lexeme) (n : ℕ) (w : Result (Unit {0}) Fault) (r : Result (Unit {0}) Refusal) → verdict ls ≡ outcome_of w
    → MatchResult w (λ u. r ≡ Ok u) (λ f. IsErrAnd r (Q f)) → ((f : Fault) (x : Refusal) → Q f x → (number_of x.reason ≡ fault_number f) × (x.place ≡ place_by ls n (fault_at f))) → Verdict ls n (told r)
verdict_told ls n (Ok u) r v h q = rw h (accepted_reads ls v)
verdict_told ls n (Err f) r v h q = let p = err_from_is_err_and r h in let t = q f p.0 p.2 in rw (p.1, t.0, t.1) (wrong ls n f v)

-- the place of a token that may be there
pub place_told : {X : Type 0} (now : X → Token) {Q : X → Type 0} (s : List ℕ) (ts : List Token) (n i e r : ℕ) (o : Option X)
    → MatchOption o (length ts ≤ i) (λ x. (i < length ts) × HoldsAt (λ y. now x ≡ y) ts i) → MatchOption o (r ≡ e) Q → ((x : X) → Q x → r ≡ (now x).place) → e ≡ end_place n → r ≡ place_by (lexemes s ts) n i
place_told now s ts n i e r None h k q f = k ∙ f ∙ place_past s ts n i h
place_told now s ts n i e r (Some x) h k q f = q x k ∙ ap (λ (t : Token). t.place) (h.1 (now x)) ∙ place_in s ts n i (now x) h.0
