-- From place to place in a text, as the machine goes.
use Rattle.std.proofs.Common.{Bool, false, sym, ◌≡◌, ℕ, ◌<◌, ◌≤◌, List, length, Some, None, Option, ◌∷◌, Ok, Err, Result, ap, ◌∙◌, arith, true, is_some, refl}
use Rattle.std.specs.Result.{IsErrAnd, MatchResult}
use Rattle.std.proofs.lemmas.Result.{err_from_is_err_and}
use Rattle.lexer.specs.declared.kind.Kind.{Kind}
use Rattle.lexer.specs.declared.kind.Token.{Token}
use Rattle.meaning.proofs.Stack.{Sym, script}
use Rattle.lookahead.specs.Seen.{seen, past_main}
use Rattle.parser.specs.declared.cursor.Cursor.{Cursor}
use Rattle.parser.specs.declared.fault.Fault.{Fault}
use Rattle.parser.specs.declared.fault.Fault.TheVariants.{Unexpected}
use Rattle.meaning.proofs.Judge.{refused}
use Rattle.parser.specs.Steps.{faulted, past, ahead, left, Onward, Parses, Reads, ReadsItem, Wants, one}

-- With what F puts before a stack, the machine at b comes to c with what G puts before it, in the same text.
pub record Comes (F : List Sym → List Sym) (b : Cursor) (G : List Sym → List Sym) (c : Cursor) : Type 0 where
  pub text : c.text ≡ b.text
  pub near : left c ≤ left b
  pub same : (s : List ℕ) (K : List Sym) → ahead s b (F K) ≡ ahead s c (G K)

-- where it stands
pub here : {F G : List Sym → List Sym} {b : Cursor} → ((s : List ℕ) (K : List Sym) → ahead s b (F K) ≡ ahead s b (G K)) → Comes F b G b
here h = record { text = refl; near = omega arith; same = h }

-- past one token
pub passing : {F G : List Sym → List Sym} {b c : Cursor} → c ≡ past b → ((s : List ℕ) (K : List Sym) → ahead s b (F K) ≡ ahead s (past b) (G K)) → Comes F b G c
passing {b = b} e h = rw e (record { text = refl; near = omega arith; same = h })

-- past two
pub passing_two : {F G : List Sym → List Sym} {a b c : Cursor} → b ≡ past a → c ≡ past b → ((s : List ℕ) (K : List Sym) → ahead s a (F K) ≡ ahead s (past (past a)) (G K)) → Comes F a G c
passing_two {a = a} e f h = rw (f, e) (record { text = refl; near = omega arith; same = h })

-- past what was read
pub reading : {A G : List Sym → List Sym} {b c : Cursor} → Reads A b (Ok c) → Comes (λ K. A (G K)) b G c
reading {G = G} x = let l = x.onward.1 in record { text = x.onward.0; near = omega arith; same = λ s K. x.same s (G K) }

-- one after the other
pub and_then : {F G H : List Sym → List Sym} {a b c : Cursor} → Comes F a G b → Comes G b H c → Comes F a H c
and_then x y = let m = x.near in let n = y.near in record { text = y.text ∙ x.text; near = omega arith; same = λ s K. x.same s K ∙ y.same s K }

pub onward : (b c : Cursor) (r : Result Cursor Fault) → c.text ≡ b.text → left c ≤ left b → Onward c r → Onward b r
onward b c (Ok q) t n h = let l = h.1 in (h.0 ∙ t, omega arith, h.2)
onward b c (Err f) t n h = tt

-- The rest is read from there on ..
pub reads : {F G : List Sym → List Sym} {b c : Cursor} {r : Result Cursor Fault} → Comes F b G c → Reads G c r → Reads F b r
reads {r = r} x y = record { onward = onward _ _ r x.text x.near y.onward; same = λ s K. x.same s K ∙ y.same s K }

-- .. or it is a fault, which is passed on ..
pub fails : {F : List Sym → List Sym} {b : Cursor} {r : Result Cursor Fault} (f : Fault) → IsErrAnd r (λ e. e ≡ f) → ((s : List ℕ) (K : List Sym) → ahead s b (F K) ≡ faulted f) → Reads F b r
fails {r = r} f e h = let p = err_from_is_err_and r e in rw (p.1, p.2) (record { onward = tt; same = h })

pub stops : {F A H : List Sym → List Sym} {b c : Cursor} {f : Fault} {r : Result Cursor Fault} → Reads A c (Err f) → IsErrAnd r (λ e. e ≡ f) → Comes F b (λ K. A (H K)) c → Reads F b r
stops {H = H} y e x = fails _ e (λ s K. x.same s K ∙ y.same s (H K))

-- .. or no more is.
pub ends : {F : List Sym → List Sym} {b c : Cursor} → Comes F b (λ K. K) c → left c < left b → c.at ≤ length c.text.now.tokens.now → Reads F b (Ok c)
ends x l i = record { onward = (x.text, l, i); same = x.same }

pub passed : {F : List Sym → List Sym} {b c : Cursor} → c ≡ past b → b.at < length b.text.now.tokens.now → ((s : List ℕ) (K : List Sym) → ahead s b (F K) ≡ ahead s (past b) K) → Reads F b (Ok c)
passed {b = b} e l h = rw e (record { onward = (refl, omega arith, omega arith); same = h })

-- a token that is wanted
pub wanted : {k : Kind} {b : Cursor} {r : Result Cursor Fault} → record { onward : Onward b r; same : (A : Sym) → Wants A k → Parses (one A) b r } → (A : Sym) → Wants A k → Reads (one A) b r
wanted x A w = record { onward = x.onward; same = x.same A w }

-- an item, from after the token at p on
pub item_reads : {G : List Sym → List Sym} {b c : Cursor} {r : Result Cursor Fault} (p : Cursor) → p.text ≡ b.text → b.at ≤ p.at → c ≡ past p
    → ((s : List ℕ) (K : List Sym) → past_main s b.text.now.tokens.now b.at ≡ None → ahead s b (script ∷ K) ≡ ahead s (past p) (G (script ∷ K))) → Reads G c r → ReadsItem b r
item_reads {b = b} {r = r} p t n e h y =
    let x = rw e at y in
    record { onward = onward b (past p) r t (rw t (omega arith)) x.onward; same = λ s K m. h s K m ∙ x.same s (script ∷ K) }

-- a token that has to fit
pub fits_or_fails : {F : List Sym → List Sym} {b : Cursor} {t : Bool} (r : Result Cursor Fault) → MatchResult r (λ q. (t ≡ true) × (q ≡ past b)) (λ f. (t ≡ false) × (f ≡ Unexpected b.at)) → (t ≡ true → b.at < length b.text.now.tokens.now)
    → (t ≡ true → (s : List ℕ) (K : List Sym) → ahead s b (F K) ≡ ahead s (past b) K) → (t ≡ false → (s : List ℕ) (K : List Sym) → ahead s b (F K) ≡ refused 9 b.at) → Reads F b r
fits_or_fails (Ok q) m l g h = passed m.1 (l m.0) (g m.0)
fits_or_fails (Err f) m l g h = rw m.1 (record { onward = tt; same = h m.0 })

pub item_fails : {b : Cursor} {r : Result Cursor Fault} (f : Fault) → IsErrAnd r (λ e. e ≡ f) → ((s : List ℕ) (K : List Sym) → past_main s b.text.now.tokens.now b.at ≡ None → ahead s b (script ∷ K) ≡ faulted f) → ReadsItem b r
item_fails {r = r} f e h = let p = err_from_is_err_and r e in rw (p.1, p.2) (record { onward = tt; same = h })

-- What begins with the token at i, x by the table f, may at the depth d.
pub record Begins {T : Type 0} (f : Option Kind → Option T) (ts : List Token) (i d : ℕ) (x : T) : Type 0 where
  pub is : Some x ≡ f (seen ts i)
  pub inside : i < length ts
  pub shallow : d ≤ 32

pub begins : {T : Type 0} {f : Option Kind → Option T} {ts : List Token} {i d : ℕ} {o : Option T} {x y : T} → record { same : o ≡ f (seen ts i); inside : is_some o ≡ true → i < length ts } → (o ≡ Some x) × (d ≤ 32) → x ≡ y → Begins f ts i d y
begins {T = T} s h e = record { is = ap (λ (z : T). Some z) (sym e) ∙ sym h.0 ∙ s.same; inside = s.inside (ap (is_some {T = T}) h.0); shallow = h.1 }
