-- What is told of a source, and that no two answers hold.
use Rattle.std.proofs.Common.{◌≡◌, ℕ, zero, suc, ◌+◌, ◌-◌, ◌<◌, ◌≤◌, false, ltb, List, [], ◌∷◌, ◌++◌, length, take, drop, Ok, Err, Result, sym, refl, ap, ◌∙◌, ⊎_elim, arith}
use Rattle.std.proofs.lemmas.Bool.Decides.{nat_tests}
use Rattle.refusal.specs.Told.{Told, accepted, refused, number_of}
use Rattle.refusal.specs.declared.reason.Refusal.{Refusal}
use Rattle.lexer.specs.Reading.{lexemes, Fault, none, fault, reading, told_of, written, answer, list_after, source_limit, token_limit}
use Rattle.lexer.specs.Laws.{Reads, Ordered, Decided}
use Rattle.lexer.specs.declared.kind.Token.{Token}
use Rattle.meaning.specs.Trees.{Script}
use Rattle.meaning.specs.Written.{script_lexemes}
use Rattle.meaning.specs.Grammar.{Accepted}
use Rattle.meaning.specs.Sources.{lexemes_of, Means}
use Rattle.meaning.specs.Check.{check_script}
use Rattle.meaning.proofs.Once.{reads_once}
use Rattle.parser.specs.Verdict.{Wrong}
use Rattle.parser.proofs.Telling.{one-verdict}
use Rattle.machine.specs.declared.instruction.Instruction.{Instruction}
use Rattle.layout.proofs.Compiled.{script_code}
use Rattle.layout.proofs.Deep.{script_needs}
use Rattle.layout.proofs.Scripts.{faithful}
use Rattle.layout.proofs.Size.{script_size}
use Rattle.stacks.specs.Held.{Held, holding}
use Rattle.translator.specs.declared.name.Name.{Name}
use Rattle.translator.specs.declared.pending.Jump.{Jump}
use Rattle.translator.specs.Translation.{code_limit, Sized, Refused, long, few_tokens, few_records, unread, wrong, unfit, Taken, tokens_after, OneAnswer}
use Rattle.translator.specs.Code.{coded}
use Rattle.translator.specs.Expressions.{AllPlaced}
use Rattle.translator.specs.Scripts.{ScriptAt, ScriptDone, CompiledTo, Compiles}

-- The tokens of a reading are few, and their places fit an int.

reads_few : (room p : ℕ) (t : List ℕ) (xs : List Token) (f : Fault) → Reads room p t xs f → length xs ≤ room
reads_few room p t [] f r = omega arith
reads_few zero p t (x ∷ xs) f r = absurd r
reads_few (suc room) p t (x ∷ xs) f r = let h = reads_few room _ _ xs f r.3 in omega arith

pub tokens_few : (s : List ℕ) → Decided s → length (reading s).tokens ≤ token_limit
tokens_few s d = reads_few token_limit 0 s (reading s).tokens (reading s).fault d.reads

ordered_within : (p n : ℕ) (xs : List Token) → Ordered p n xs → p ≤ n
ordered_within p n [] o = o
ordered_within p n (x ∷ xs) o = let h = ordered_within (x.place + x.length) n xs o.2 in let a = o.0 in omega arith

ordered_placed : (s : List ℕ) (p n : ℕ) (xs : List Token) → n ≤ source_limit → Ordered p n xs → AllPlaced (lexemes s xs)
unfolding AllPlaced
ordered_placed s p n [] l o = tt
ordered_placed s p n (x ∷ xs) l o = let h = ordered_within (x.place + x.length) n xs o.2 in (omega arith, ordered_placed s (x.place + x.length) n xs l o.2)

pub tokens_placed : (s : List ℕ) → length s ≤ source_limit → Decided s → AllPlaced (lexemes s (reading s).tokens)
tokens_placed s l d = ordered_placed s 0 (length s) (reading s).tokens l d.ordered

lexemes-length : (s : List ℕ) (ts : List Token) → length (lexemes s ts) ≡ length ts
lexemes-length s [] = refl
lexemes-length s (t ∷ ts) = ap suc (lexemes-length s ts)

-- What is read, where the lengths are right.

module _ (s : List ℕ) (list : List Token) (slots : ℕ) (z : Sized s (length list) slots) where
  source_short : ltb source_limit (length s) ≡ false
  source_short = let a = z.bytes in grind (arith, nat_tests)

  list_long : ltb (length list) token_limit ≡ false
  list_long = let a = z.tokens in grind (arith, nat_tests)

  code_long : ltb slots code_limit ≡ false
  code_long = let a = z.code in grind (arith, nat_tests)

  pub answer_is : answer s (length list) ≡ told_of (reading s).tokens (reading s).fault
  answer_is = rw (source_short, list_long) refl

  pub list_is : list_after s list ≡ tokens_after s slots list
  list_is = rw (source_short, list_long, code_long) refl

  after_is : list_after s list ≡ written (reading s).tokens list
  after_is = rw (source_short, list_long) refl

  pub fault_is : (n p : ℕ) → refused n p ≡ answer s (length list) → (reading s).fault ≡ fault n p
  fault_is n p e = by (reading s).fault (e ∙ answer_is)
    where
      by : (f : Fault) → refused n p ≡ told_of (reading s).tokens f → f ≡ fault n p
      by none h = let x : ◌≡◌ {A = ℕ} 0 1 = cc in absurd (omega arith)
      by (fault m q) h = let a : n ≡ m = cc in let b : p ≡ q = cc in rw (a, b) refl

  pub read_whole : (n : ℕ) → accepted n ≡ answer s (length list) → (n ≡ length (reading s).tokens) × ((reading s).fault ≡ none)
  read_whole n e = by (reading s).fault (e ∙ answer_is)
    where
      by : (f : Fault) → accepted n ≡ told_of (reading s).tokens f → (n ≡ length (reading s).tokens) × (f ≡ none)
      by none h = let a : n ≡ length (reading s).tokens = cc in (a, refl)
      by (fault m q) h = let x : ◌≡◌ {A = ℕ} 0 1 = cc in absurd (omega arith)

-- At most one answer holds.

module _ (s : List ℕ) (room slots : ℕ) where
  verdicts : (n p m q : ℕ) → Wrong (lexemes_of s) (length s) n p → Wrong (lexemes_of s) (length s) m q → (n ≡ m) × (p ≡ q)
  verdicts n p m q a b = let e = one-verdict (lexemes_of s) (length s) (refused n p) (refused m q) a b in (cc, cc)

  no_verdict : (n p : ℕ) (t : Script) → Wrong (lexemes_of s) (length s) n p → Accepted (lexemes_of s) t → ⊥
  no_verdict n p t a b = let e = one-verdict (lexemes_of s) (length s) (refused n p) (accepted tt) a (t, b) in let z : ◌≡◌ {A = ℕ} 0 1 = cc in omega arith

  same_check : (t u : Script) (x y : Told (Unit {0})) → Accepted (lexemes_of s) t → Accepted (lexemes_of s) u → check_script t ≡ x → check_script u ≡ y → x ≡ y
  same_check t u x y a b c d = let e : t ≡ u = reads_once (lexemes_of s) t u a.reads b.reads in sym c ∙ ap check_script e ∙ d

  faults : (n p m q : ℕ) → (reading s).fault ≡ fault n p → (reading s).fault ≡ fault m q → (n ≡ m) × (p ≡ q)
  faults n p m q a b = (cc, cc)

  no_fault : (n p : ℕ) → (reading s).fault ≡ fault n p → (reading s).fault ≡ none → ⊥
  no_fault n p a b = let z : ◌≡◌ {A = ℕ} 0 1 = cc in omega arith

  -- against each reason, by the stage that it comes from
  sized_long : Sized s room slots → source_limit < length s → ⊥
  sized_long z l = let a = z.bytes in omega arith

  sized_tokens : Sized s room slots → room < token_limit → ⊥
  sized_tokens z l = let a = z.tokens in omega arith

  sized-code : Sized s room slots → slots < code_limit → ⊥
  sized-code z l = let a = z.code in omega arith

  one : (n p m q : ℕ) → Refused s room slots n p → Refused s room slots m q → (n ≡ m) × (p ≡ q)
  one n p m q (long a) (long b) = (refl, refl)
  one n p m q (long a) (few_tokens b c) = absurd (omega arith)
  one n p m q (long a) (few_records b c d) = absurd (omega arith)
  one n p m q (long a) (unread z e) = absurd (sized_long z a)
  one n p m q (long a) (wrong z e w) = absurd (sized_long z a)
  one n p m q (long a) (unfit z r) = absurd (sized_long z a)
  one n p m q (few_tokens a b) (long c) = absurd (omega arith)
  one n p m q (few_tokens a b) (few_tokens c d) = (refl, refl)
  one n p m q (few_tokens a b) (few_records c d e) = absurd (omega arith)
  one n p m q (few_tokens a b) (unread z e) = absurd (sized_tokens z b)
  one n p m q (few_tokens a b) (wrong z e w) = absurd (sized_tokens z b)
  one n p m q (few_tokens a b) (unfit z r) = absurd (sized_tokens z b)
  one n p m q (few_records a b c) (long d) = absurd (omega arith)
  one n p m q (few_records a b c) (few_tokens d e) = absurd (omega arith)
  one n p m q (few_records a b c) (few_records d e f) = (refl, refl)
  one n p m q (few_records a b c) (unread z e) = absurd (sized-code z c)
  one n p m q (few_records a b c) (wrong z e w) = absurd (sized-code z c)
  one n p m q (few_records a b c) (unfit z r) = absurd (sized-code z c)
  one n p m q (unread z e) (long b) = absurd (sized_long z b)
  one n p m q (unread z e) (few_tokens b c) = absurd (sized_tokens z c)
  one n p m q (unread z e) (few_records b c d) = absurd (sized-code z d)
  one n p m q (unread z e) (unread y f) = faults n p m q e f
  one n p m q (unread z e) (wrong y f w) = absurd (no_fault n p e f)
  one n p m q (unread z e) (unfit y r) = absurd (no_fault n p e r.reads.whole)
  one n p m q (wrong z e w) (long b) = absurd (sized_long z b)
  one n p m q (wrong z e w) (few_tokens b c) = absurd (sized_tokens z c)
  one n p m q (wrong z e w) (few_records b c d) = absurd (sized-code z d)
  one n p m q (wrong z e w) (unread y f) = absurd (no_fault m q f e)
  one n p m q (wrong z e w) (wrong y f v) = verdicts n p m q w v
  one n p m q (wrong z e w) (unfit y r) = absurd (no_verdict n p r.script w r.reads.script)
  one n p m q (unfit z r) (long b) = absurd (sized_long z b)
  one n p m q (unfit z r) (few_tokens b c) = absurd (sized_tokens z c)
  one n p m q (unfit z r) (few_records b c d) = absurd (sized-code z d)
  one n p m q (unfit z r) (unread y f) = absurd (no_fault m q f r.reads.whole)
  one n p m q (unfit z r) (wrong y f v) = absurd (no_verdict m q r.script v r.reads.script)
  one n p m q (unfit z r) (unfit y o) =
      let e : refused n p ≡ refused m q = same_check r.script o.script (refused n p) (refused m q) r.reads.script o.reads.script r.checked o.checked in (cc, cc)

  no_refusal : (n p : ℕ) (t : Script) → Sized s room slots → Means s t → Refused s room slots n p → ⊥
  no_refusal n p t z h (long b) = sized_long z b
  no_refusal n p t z h (few_tokens b c) = sized_tokens z c
  no_refusal n p t z h (few_records b c d) = sized-code z d
  no_refusal n p t z h (unread y f) = no_fault n p f h.reads.whole
  no_refusal n p t z h (wrong y f v) = no_verdict n p t v h.reads.script
  no_refusal n p t z h (unfit y o) =
      let e : accepted tt ≡ refused n p = same_check t o.script (accepted tt) (refused n p) h.reads.script o.reads.script h.checked o.checked in
      let x : ◌≡◌ {A = ℕ} 0 1 = cc in omega arith

pub one_answer : OneAnswer
one_answer = record { one = λ s room slots n p m q a b. one s room slots n p m q a b; none = λ s room slots n p t z h r. no_refusal s room slots n p t z h r }

-- From the tokens to the code.

pub script_at : (s : List ℕ) (ts : List Token) (N : Held Name) (J : Held Jump) (C : Held Instruction) (t : Script) (n m : ℕ) → Accepted (lexemes s ts) t → AllPlaced (lexemes s ts) → length ts ≤ token_limit
    → N ≡ holding [] n → J ≡ holding [] m → C ≡ coded [] → token_limit + 4 ≤ n → token_limit ≤ m → ScriptAt s ts N J C t
script_at s ts N J C t n m a p l e f g b d =
    let k = lexemes-length s ts in
    let x : N.most ≡ n = ap (λ (h : Held Name). h.most) e in
    let y : J.most ≡ m = ap (λ (h : Held Jump). h.most) f in
    record {
      reads = a.reads;
      placed = p;
      short = omega arith;
      unnamed = ap (λ (h : Held Name). h.held) e;
      entries = omega arith;
      idle = ap (λ (h : Held Jump). h.held) f;
      waiting = omega arith;
      begun = g;
    }

-- a script that passes the check: its code in front of the list
pub compiled : (s : List ℕ) (ts : List Token) (before after : List Instruction) (n : ℕ) (t : Script) (D : Held Instruction) → Accepted (lexemes s ts) t → length ts ≤ token_limit → code_limit ≤ length before
    → ScriptDone D t (Ok tt) → n ≡ length D.held → (n ≤ length before → after ≡ D.held ++ drop n before) → CompiledTo s ts before after (Ok n)
compiled s ts before after n t D a l room d e f =
    let code = script_code t in
    let h : D.held ≡ code = ap (λ (x : Held Instruction). x.held) d.1 in
    let c : n ≡ length code = e ∙ ap length h in
    let i = script_size t in
    let j : length (script_lexemes t) ≡ length ts = ap length a.reads.lexemes ∙ lexemes-length s ts in
    let k : n ≤ length before = omega arith in (
      t,
      a,
      d.0,
      record {
        code = code;
        count = sym c;
        fits = k;
        list = f k ∙ ap (λ (x : List Instruction). x ++ drop n before) h;
        faithful = faithful t d.0 (script_needs t a.reads.grammatical a.shallow d.0);
        few = omega arith;
      },
    )

-- The answers after the tokens are read.

front : (ts r : List Token) → take (length ts) (ts ++ r) ≡ ts
front [] r = refl
front (t ∷ ts) r = ap (λ (x : List Token). t ∷ x) (front ts r)

module _ (s : List ℕ) (list tokens : List Token) (before after : List Instruction) (z : Sized s (length list) (length before)) (d : Decided s) (n : ℕ) (e : accepted n ≡ answer s (length list))
    (l : tokens ≡ list_after s list) where
  -- the tokens that are compiled are the reading's
  part_is : take (n - 0) tokens ≡ (reading s).tokens
  part_is =
      let k : n - 0 ≡ length (reading s).tokens = let a = (read_whole s list (length before) z n e).0 in omega arith in
      rw (k, l, after_is s list (length before) z) (front (reading s).tokens (drop (length (reading s).tokens) list))

  made_of : (r : Result ℕ Refusal) → Compiles s (take (n - 0) tokens) before after r → CompiledTo s (reading s).tokens before after r
  made_of r c =
      let f : Compiles s (reading s).tokens before after r = rw part_is at c in f (tokens_placed s z.bytes d) (tokens_few s d) z.code

  pub taken : (m : ℕ) → Compiles s (take (n - 0) tokens) before after (Ok m) → Taken s (length list) before after (record { tokens = n; code = m })
  taken m c =
      let w = read_whole s list (length before) z n e in
      let h = made_of (Ok m) c in
      record {
        sized = z;
        script = h.0;
        means = record { reads = record { short = z.bytes; whole = w.1; script = h.1 }; checked = h.2 };
        tokens = w.0;
        coded = h.3;
      }

  pub refused_late : (f : Refusal) → Compiles s (take (n - 0) tokens) before after (Err f) → (after ≡ before) × Refused s (length list) (length before) (number_of f.reason) f.place
  refused_late f c =
      let w = read_whole s list (length before) z n e in
      let h = made_of (Err f) c in (
        h.0,
        ⊎_elim (λ a. wrong z w.1 a) (λ b. unfit z (record { script = b.0; reads = record { short = z.bytes; whole = w.1; script = b.1 }; checked = b.2 })) h.1,
      )
