-- What the machine does with expressions, for each way that the code takes.
use Rattle.std.proofs.Common.{◌≡◌, ℕ, suc, ◌+◌, ◌-◌, ◌<◌, ◌≤◌, Bool, true, false, cond, not, eqb, ltb, ◌⊎◌, List, ◌∷◌, length, drop, Some, None, is_some, Ok, Err, Option, Result, sym, refl, ap, ◌∙◌, inl, inr, sub-one, arith}
use Rattle.std.specs.Option.{option_eq}
use Rattle.std.proofs.lemmas.Bool.Decides.{nat_tests}
use Rattle.lexer.specs.Reading.{lexemes}
use Rattle.lexer.specs.declared.kind.Kind.{Kind}
use Rattle.lexer.specs.declared.kind.Kind.TheVariants as Kinds
use Rattle.lexer.specs.declared.kind.Token.{Token}
use Rattle.meaning.specs.declared.operator.Operator.{Operator}
use Rattle.meaning.specs.declared.operator.Operator.TheVariants.{Add, Subtract, Multiply, Divide, Remainder, Less, LessEqual, Greater, GreaterEqual, Equal, NotEqual, And, Or}
use Rattle.meaning.specs.Trees.{Ident, Constant, variable, args, no_args}
use Rattle.meaning.specs.Grammar.{looseness}
use Rattle.meaning.proofs.Tokens.{OpenParen, CloseParen, Comma, Tok, name, value, operator, bang, word}
use Rattle.meaning.proofs.Stack.{is_word, loose, Sym, token, operand, called, tail, expr, exprs, further, arguments, done, end, stop, operand_rule, expr_rule, exprs_rule, gather, listed, tails_to, step}
use Rattle.meaning.proofs.Judge.{Outcome, refused, decide, judge}
use Rattle.lookahead.specs.declared.class.Start.{Start}
use Rattle.lookahead.specs.declared.class.Start.TheVariants.{Name, Constant as Literal, Prefix, Bracket}
use Rattle.lookahead.specs.Seen.{seen, is_kind, start_of, looseness_of}
use Rattle.parser.specs.declared.fault.Fault.{Fault}
use Rattle.parser.specs.declared.fault.Fault.TheVariants.{Unexpected, TooDeep}
use Rattle.parser.specs.Steps.{faulted, admission, operands}
use Rattle.parser.proofs.Places.{Begins}
use Rattle.parser.proofs.Look.{Sees, tok_at, sees, stepping, refusing, skipping, alike, decide-onto}
use Rattle.parser.proofs.Expect.{found, found_inside, word_at, expected}

-- How an operand begins.

abbrev StartSees : Option Start → Tok → Type 0
StartSees None t = (d : ℕ) (K : List Sym) → operand_rule d t K ≡ stop
StartSees (Some Name) t = (x : Ident) × (t ≡ name x)
StartSees (Some Literal) t = (c : Constant) × (t ≡ value c)
StartSees (Some Prefix) t = ((p : ℕ) × (t ≡ operator Subtract p)) ⊎ ((p : ℕ) × (t ≡ bang p))
StartSees (Some Bracket) t = (p : ℕ) × (t ≡ word OpenParen p)

start_seen : (o : Option Kind) (t : Tok) → Sees o t → StartSees (start_of o) t
start_seen None t s = λ d K. ap (λ (x : Tok). operand_rule d x K) s
start_seen (Some Kinds.Name) t s = s
start_seen (Some Kinds.Number) t s = s
start_seen (Some Kinds.Character) t s = s
start_seen (Some Kinds.Bool) t s = λ d K. ap (λ (x : Tok). operand_rule d x K) s.1
start_seen (Some Kinds.Char) t s = λ d K. ap (λ (x : Tok). operand_rule d x K) s.1
start_seen (Some Kinds.Int) t s = λ d K. ap (λ (x : Tok). operand_rule d x K) s.1
start_seen (Some Kinds.Float) t s = λ d K. ap (λ (x : Tok). operand_rule d x K) s
start_seen (Some Kinds.Void) t s = λ d K. ap (λ (x : Tok). operand_rule d x K) s.1
start_seen (Some Kinds.Extern) t s = λ d K. ap (λ (x : Tok). operand_rule d x K) s.1
start_seen (Some Kinds.Static) t s = λ d K. ap (λ (x : Tok). operand_rule d x K) s.1
start_seen (Some Kinds.If) t s = λ d K. ap (λ (x : Tok). operand_rule d x K) s.1
start_seen (Some Kinds.Else) t s = λ d K. ap (λ (x : Tok). operand_rule d x K) s.1
start_seen (Some Kinds.While) t s = λ d K. ap (λ (x : Tok). operand_rule d x K) s.1
start_seen (Some Kinds.Do) t s = λ d K. ap (λ (x : Tok). operand_rule d x K) s.1
start_seen (Some Kinds.For) t s = λ d K. ap (λ (x : Tok). operand_rule d x K) s.1
start_seen (Some Kinds.To) t s = λ d K. ap (λ (x : Tok). operand_rule d x K) s.1
start_seen (Some Kinds.Break) t s = λ d K. ap (λ (x : Tok). operand_rule d x K) s.1
start_seen (Some Kinds.Continue) t s = λ d K. ap (λ (x : Tok). operand_rule d x K) s.1
start_seen (Some Kinds.Return) t s = λ d K. ap (λ (x : Tok). operand_rule d x K) s.1
start_seen (Some Kinds.True) t s = s
start_seen (Some Kinds.False) t s = s
start_seen (Some Kinds.Plus) t s = λ d K. ap (λ (x : Tok). operand_rule d x K) s.1
start_seen (Some Kinds.Minus) t s = inl s
start_seen (Some Kinds.Star) t s = λ d K. ap (λ (x : Tok). operand_rule d x K) s.1
start_seen (Some Kinds.Slash) t s = λ d K. ap (λ (x : Tok). operand_rule d x K) s.1
start_seen (Some Kinds.Percent) t s = λ d K. ap (λ (x : Tok). operand_rule d x K) s.1
start_seen (Some Kinds.Assign) t s = λ d K. ap (λ (x : Tok). operand_rule d x K) s.1
start_seen (Some Kinds.Equal) t s = λ d K. ap (λ (x : Tok). operand_rule d x K) s.1
start_seen (Some Kinds.NotEqual) t s = λ d K. ap (λ (x : Tok). operand_rule d x K) s.1
start_seen (Some Kinds.Not) t s = inr s
start_seen (Some Kinds.Less) t s = λ d K. ap (λ (x : Tok). operand_rule d x K) s.1
start_seen (Some Kinds.LessEqual) t s = λ d K. ap (λ (x : Tok). operand_rule d x K) s.1
start_seen (Some Kinds.Greater) t s = λ d K. ap (λ (x : Tok). operand_rule d x K) s.1
start_seen (Some Kinds.GreaterEqual) t s = λ d K. ap (λ (x : Tok). operand_rule d x K) s.1
start_seen (Some Kinds.And) t s = λ d K. ap (λ (x : Tok). operand_rule d x K) s.1
start_seen (Some Kinds.Or) t s = λ d K. ap (λ (x : Tok). operand_rule d x K) s.1
start_seen (Some Kinds.PlusAssign) t s = λ d K. ap (λ (x : Tok). operand_rule d x K) s.1
start_seen (Some Kinds.MinusAssign) t s = λ d K. ap (λ (x : Tok). operand_rule d x K) s.1
start_seen (Some Kinds.StarAssign) t s = λ d K. ap (λ (x : Tok). operand_rule d x K) s.1
start_seen (Some Kinds.SlashAssign) t s = λ d K. ap (λ (x : Tok). operand_rule d x K) s.1
start_seen (Some Kinds.PercentAssign) t s = λ d K. ap (λ (x : Tok). operand_rule d x K) s.1
start_seen (Some Kinds.AndAssign) t s = λ d K. ap (λ (x : Tok). operand_rule d x K) s.1
start_seen (Some Kinds.OrAssign) t s = λ d K. ap (λ (x : Tok). operand_rule d x K) s.1
start_seen (Some Kinds.OpenParen) t s = s
start_seen (Some Kinds.CloseParen) t s = λ d K. ap (λ (x : Tok). operand_rule d x K) s.1
start_seen (Some Kinds.OpenBrace) t s = λ d K. ap (λ (x : Tok). operand_rule d x K) s.1
start_seen (Some Kinds.CloseBrace) t s = λ d K. ap (λ (x : Tok). operand_rule d x K) s.1
start_seen (Some Kinds.Comma) t s = λ d K. ap (λ (x : Tok). operand_rule d x K) s.1
start_seen (Some Kinds.Semicolon) t s = λ d K. ap (λ (x : Tok). operand_rule d x K) s.1

starts : (s : List ℕ) (ts : List Token) (i : ℕ) (x : Option Start) → x ≡ start_of (seen ts i) → StartSees x (tok_at s ts i)
starts s ts i x e = rw e (start_seen (seen ts i) (tok_at s ts i) (sees s ts i))

-- Operators.

abbrev pub LooseSees : Option ℕ → Tok → Type 0
LooseSees None t = loose t ≡ 7
LooseSees (Some n) t = (o : Operator) × (p : ℕ) × (t ≡ operator o p) × (looseness o ≡ n)

pub loose-seen : (o : Option Kind) (t : Tok) → Sees o t → LooseSees (looseness_of o) t
loose-seen None t s = ap loose s
loose-seen (Some Kinds.Name) t s = ap loose s.1
loose-seen (Some Kinds.Number) t s = ap loose s.1
loose-seen (Some Kinds.Character) t s = ap loose s.1
loose-seen (Some Kinds.Bool) t s = ap loose s.1
loose-seen (Some Kinds.Char) t s = ap loose s.1
loose-seen (Some Kinds.Int) t s = ap loose s.1
loose-seen (Some Kinds.Float) t s = ap loose s
loose-seen (Some Kinds.Void) t s = ap loose s.1
loose-seen (Some Kinds.Extern) t s = ap loose s.1
loose-seen (Some Kinds.Static) t s = ap loose s.1
loose-seen (Some Kinds.If) t s = ap loose s.1
loose-seen (Some Kinds.Else) t s = ap loose s.1
loose-seen (Some Kinds.While) t s = ap loose s.1
loose-seen (Some Kinds.Do) t s = ap loose s.1
loose-seen (Some Kinds.For) t s = ap loose s.1
loose-seen (Some Kinds.To) t s = ap loose s.1
loose-seen (Some Kinds.Break) t s = ap loose s.1
loose-seen (Some Kinds.Continue) t s = ap loose s.1
loose-seen (Some Kinds.Return) t s = ap loose s.1
loose-seen (Some Kinds.True) t s = ap loose s.1
loose-seen (Some Kinds.False) t s = ap loose s.1
loose-seen (Some Kinds.Plus) t s = (Add, s.0, s.1, refl)
loose-seen (Some Kinds.Minus) t s = (Subtract, s.0, s.1, refl)
loose-seen (Some Kinds.Star) t s = (Multiply, s.0, s.1, refl)
loose-seen (Some Kinds.Slash) t s = (Divide, s.0, s.1, refl)
loose-seen (Some Kinds.Percent) t s = (Remainder, s.0, s.1, refl)
loose-seen (Some Kinds.Assign) t s = ap loose s.1
loose-seen (Some Kinds.Equal) t s = (Equal, s.0, s.1, refl)
loose-seen (Some Kinds.NotEqual) t s = (NotEqual, s.0, s.1, refl)
loose-seen (Some Kinds.Not) t s = ap loose s.1
loose-seen (Some Kinds.Less) t s = (Less, s.0, s.1, refl)
loose-seen (Some Kinds.LessEqual) t s = (LessEqual, s.0, s.1, refl)
loose-seen (Some Kinds.Greater) t s = (Greater, s.0, s.1, refl)
loose-seen (Some Kinds.GreaterEqual) t s = (GreaterEqual, s.0, s.1, refl)
loose-seen (Some Kinds.And) t s = (And, s.0, s.1, refl)
loose-seen (Some Kinds.Or) t s = (Or, s.0, s.1, refl)
loose-seen (Some Kinds.PlusAssign) t s = ap loose s.1
loose-seen (Some Kinds.MinusAssign) t s = ap loose s.1
loose-seen (Some Kinds.StarAssign) t s = ap loose s.1
loose-seen (Some Kinds.SlashAssign) t s = ap loose s.1
loose-seen (Some Kinds.PercentAssign) t s = ap loose s.1
loose-seen (Some Kinds.AndAssign) t s = ap loose s.1
loose-seen (Some Kinds.OrAssign) t s = ap loose s.1
loose-seen (Some Kinds.OpenParen) t s = ap loose s.1
loose-seen (Some Kinds.CloseParen) t s = ap loose s.1
loose-seen (Some Kinds.OpenBrace) t s = ap loose s.1
loose-seen (Some Kinds.CloseBrace) t s = ap loose s.1
loose-seen (Some Kinds.Comma) t s = ap loose s.1
loose-seen (Some Kinds.Semicolon) t s = ap loose s.1

not_loose : (m : Option ℕ) (n : ℕ) (t : Tok) → LooseSees m t → n ≤ 6 → (m ≡ Some n → ⊥) → eqb (loose t) n ≡ false
not_loose None n t l h d = grind (arith, nat_tests)
not_loose (Some m) n t l h d =
    let e : loose t ≡ m = ap loose l.2 ∙ l.3 in let f : m ≡ n → ⊥ = λ x. d (ap (λ (y : ℕ). Some y) x) in grind (arith, nat_tests)

-- the verdict on the tokens from a place on
abbrev pub from : List ℕ → List Token → List Sym → ℕ → Outcome
from s ts K i = judge K i (drop i (lexemes s ts))

pub expression_is : (s : List ℕ) (ts : List Token) (i d : ℕ) (K : List Sym) → from s ts (expr d ∷ K) i ≡ from s ts (operands 6 d K) i
expression_is s ts i d K =
    alike s ts i (expr d ∷ K) (operands 6 d K) (tok_at s ts i) refl (λ j k. decide-onto (operands 6 d K) (expr d ∷ K) (λ vs. gather 6 d K vs.0 vs.1) (operand_rule d (tok_at s ts i) (tails_to 6 d K)) j k) refl

tails_more : (n m d : ℕ) (K : List Sym) → n ≡ suc m → tails_to n d K ≡ tails_to m d (tail n d ∷ K)
tails_more n m d K e = rw e refl

pub operands_more : (n d : ℕ) (K : List Sym) → 0 < n → operands n d K ≡ operands (n - 1) d (tail n d ∷ K)
operands_more n d K h = let e : n ≡ suc (n - 1) = omega arith in ap (λ (x : List Sym). operand d ∷ x) (tails_more n (n - 1) d K e)

-- whether an operator of this looseness follows
follows : (o : Option ℕ) (n : ℕ) → true ≡ option_eq eqb o (Some n) → o ≡ Some n
follows None n h = let z : ◌≡◌ {A = ℕ} 0 1 = cc in absurd (omega arith)
follows (Some m) n h = let e : m ≡ n = grind (arith, nat_tests) in ap (λ (x : ℕ). Some x) e

ceases : (o : Option ℕ) (n : ℕ) → false ≡ option_eq eqb o (Some n) → o ≡ Some n → ⊥
ceases o n h e = let z : false ≡ eqb n n = h ∙ ap (λ (x : Option ℕ). option_eq eqb x (Some n)) e in grind (arith, nat_tests)

-- further operands: none, or one more
pub tail_stop : (s : List ℕ) (ts : List Token) (i n d : ℕ) (K : List Sym) → n ≤ 6 → (o : Option ℕ) → o ≡ looseness_of (seen ts i) → false ≡ option_eq eqb o (Some n) → from s ts (tail n d ∷ K) i ≡ from s ts K i
tail_stop s ts i n d K h o e f =
    skipping (tail n d) done refl s ts i K (tok_at s ts i) refl (not_loose o n (tok_at s ts i) (rw e (loose-seen (seen ts i) (tok_at s ts i) (sees s ts i))) h (ceases o n f))

pub tail_go : (s : List ℕ) (ts : List Token) (i n d : ℕ) (K : List Sym) → 0 < n → (o : Option ℕ) → record { same : o ≡ looseness_of (seen ts i); inside : is_some o ≡ true → i < length ts } → true ≡ option_eq eqb o (Some n)
    → from s ts (tail n d ∷ K) i ≡ from s ts (operands (n - 1) d (tail n d ∷ K)) (i + 1)
tail_go s ts i n d K h o x f =
    let e = follows o n f in
    let l = x.inside (ap (is_some {T = ℕ}) e) in
    let q = rw (sym x.same ∙ e) at (loose-seen (seen ts i) (tok_at s ts i) (sees s ts i)) in
    let b : eqb (looseness q.0) n ≡ true = grind (arith, nat_tests) in
    let g = sub-one n in
    stepping s ts i (tail n d ∷ K) (operator q.0 q.1) l q.2 ∙ rw (b, g) refl

-- what begins and is not admitted is too deep
pub deep : {T : Type 0} (v : T) (d i : ℕ) (x : Outcome) (f : Fault) → Err f ≡ admission (Some v) i d → cond (ltb 32 d) (refused 10 i) x ≡ faulted f
deep {T} v d i x f a = by (ltb 32 d) a
  where
    by : (t : Bool) → ◌≡◌ {A = Result T Fault} (Err f) (cond t (Err (TooDeep i)) (Ok v)) → cond t (refused 10 i) x ≡ faulted f
    by true a = let z : TooDeep i ≡ f = cc in ap faulted z
    by false a = let z : ◌≡◌ {A = ℕ} 0 1 = cc in absurd (omega arith)

-- where nothing begins
pub nothing : {T : Type 0} (d i : ℕ) (f : Fault) → Err f ≡ admission {T = T} None i d → refused 9 i ≡ faulted f
nothing d i f a = let z : Unexpected i ≡ f = cc in ap faulted z

pub shallow : (d i : ℕ) (x : Outcome) → d ≤ 32 → cond (ltb 32 d) (refused 10 i) x ≡ x
shallow d i x h = grind (arith, nat_tests)

-- an operand: refused, too deep, or each of its kinds
operand_begins : (s : List ℕ) (ts : List Token) (i d : ℕ) (K : List Sym) (x : Start) → i < length ts → StartSees (Some x) (tok_at s ts i)
    → (y : Outcome) × (from s ts (operand d ∷ K) i ≡ cond (ltb 32 d) (refused 10 i) y)
operand_begins s ts i d K Name h e = (_, stepping s ts i (operand d ∷ K) (name e.0) h e.1)
operand_begins s ts i d K Literal h e = (_, stepping s ts i (operand d ∷ K) (value e.0) h e.1)
operand_begins s ts i d K Prefix h (inl e) = (_, stepping s ts i (operand d ∷ K) (operator Subtract e.0) h e.1)
operand_begins s ts i d K Prefix h (inr e) = (_, stepping s ts i (operand d ∷ K) (bang e.0) h e.1)
operand_begins s ts i d K Bracket h e = (_, stepping s ts i (operand d ∷ K) (word OpenParen e.0) h e.1)

pub operand_refused : (s : List ℕ) (ts : List Token) (i d : ℕ) (K : List Sym) (x : Option Start) (f : Fault) → x ≡ start_of (seen ts i) → (is_some x ≡ true → i < length ts) → Err f ≡ admission x i d → from s ts (operand d ∷ K) i ≡ faulted f
operand_refused s ts i d K None f e l a = refusing s ts i (operand d ∷ K) (tok_at s ts i) refl (starts s ts i None e d K) refl ∙ nothing {T = Start} d i f a
operand_refused s ts i d K (Some x) f e l a = let b = operand_begins s ts i d K x (l refl) (starts s ts i (Some x) e) in b.1 ∙ deep x d i b.0 f a

pub operand_constant : (s : List ℕ) (ts : List Token) (i d : ℕ) (K : List Sym) → Begins start_of ts i d Literal → from s ts (operand d ∷ K) i ≡ from s ts K (i + 1)
operand_constant s ts i d K b = let c = starts s ts i (Some Literal) b.is in stepping s ts i (operand d ∷ K) (value c.0) b.inside c.1 ∙ shallow d i _ b.shallow

prefixed : (s : List ℕ) (ts : List Token) (i d : ℕ) (K : List Sym) → d ≤ 32 → i < length ts → StartSees (Some Prefix) (tok_at s ts i) → from s ts (operand d ∷ K) i ≡ from s ts (operand (suc d) ∷ K) (i + 1)
prefixed s ts i d K h l (inl c) = stepping s ts i (operand d ∷ K) (operator Subtract c.0) l c.1 ∙ shallow d i _ h
prefixed s ts i d K h l (inr c) = stepping s ts i (operand d ∷ K) (bang c.0) l c.1 ∙ shallow d i _ h

pub operand_prefix : (s : List ℕ) (ts : List Token) (i d : ℕ) (K : List Sym) → Begins start_of ts i d Prefix → from s ts (operand d ∷ K) i ≡ from s ts (operand (d + 1) ∷ K) (i + 1)
operand_prefix s ts i d K b = let z : d + 1 ≡ suc d = omega arith in rw z (prefixed s ts i d K b.shallow b.inside (starts s ts i (Some Prefix) b.is))

pub operand_bracket : (s : List ℕ) (ts : List Token) (i d : ℕ) (K : List Sym) → Begins start_of ts i d Bracket → from s ts (operand d ∷ K) i ≡ from s ts (expr (d + 1) ∷ token CloseParen ∷ K) (i + 1)
operand_bracket s ts i d K b =
    let c = starts s ts i (Some Bracket) b.is in let z : d + 1 ≡ suc d = omega arith in
    rw z (stepping s ts i (operand d ∷ K) (word OpenParen c.0) b.inside c.1 ∙ shallow d i _ b.shallow)

pub operand_variable : (s : List ℕ) (ts : List Token) (i d : ℕ) (K : List Sym) → Begins start_of ts i d Name → is_kind (seen ts (i + 1)) Kinds.OpenParen ≡ false → from s ts (operand d ∷ K) i ≡ from s ts K (i + 1)
operand_variable s ts i d K b n =
    let c = starts s ts i (Some Name) b.is in
    stepping s ts i (operand d ∷ K) (name c.0) b.inside c.1 ∙ shallow d i _ b.shallow
    ∙ skipping (called d c.0) (variable c.0) refl s ts (i + 1) K (tok_at s ts (i + 1)) refl (word_at OpenParen s ts (i + 1) ∙ n)

pub operand_call : (s : List ℕ) (ts : List Token) (i d : ℕ) (K : List Sym) → Begins start_of ts i d Name → is_kind (seen ts (i + 1)) Kinds.OpenParen ≡ true
    → from s ts (operand d ∷ K) i ≡ from s ts (arguments (d + 1) ∷ token CloseParen ∷ K) (i + 1 + 1)
operand_call s ts i d K b n =
    let c = starts s ts i (Some Name) b.is in
    let p = found s ts (i + 1) Kinds.OpenParen n in
    let z : d + 1 ≡ suc d = omega arith in
    rw z (stepping s ts i (operand d ∷ K) (name c.0) b.inside c.1 ∙ shallow d i _ b.shallow
    ∙ stepping s ts (i + 1) (called d c.0 ∷ K) (word OpenParen p.0) (found_inside ts (i + 1) Kinds.OpenParen n) p.1)

-- arguments: none, or one and more
pub arguments_none : (s : List ℕ) (ts : List Token) (i d : ℕ) (K : List Sym) → is_kind (seen ts i) Kinds.CloseParen ≡ true → from s ts (arguments d ∷ token CloseParen ∷ K) i ≡ from s ts K (i + 1)
arguments_none s ts i d K n =
    skipping (arguments d) no_args refl s ts i (token CloseParen ∷ K) (tok_at s ts i) refl (ap not (word_at CloseParen s ts i ∙ n))
    ∙ expected (token CloseParen) Kinds.CloseParen refl s ts i K n

exprs_is : (d : ℕ) (t : Tok) (K : List Sym) (i : ℕ) (k : List Sym → Outcome) → decide (exprs_rule d t K) i k ≡ decide (expr_rule d t (further d ∷ K)) i k
exprs_is d t K i k = decide-onto (expr d ∷ further d ∷ K) (exprs d ∷ K) (λ vs. (listed vs.0 vs.1.0, vs.1.1)) (expr_rule d t (further d ∷ K)) i k

args_is : (d : ℕ) (t : Tok) (K : List Sym) (i : ℕ) (k : List Sym → Outcome) → is_word CloseParen t ≡ false → decide (step (arguments d ∷ K) t) i k ≡ decide (expr_rule d t (further d ∷ K)) i k
args_is d t K i k n = rw n (decide-onto (exprs d ∷ K) (arguments d ∷ K) (λ vs. (args vs.0, vs.1)) (exprs_rule d t K) i k ∙ exprs_is d t K i k)

pub arguments_some : (s : List ℕ) (ts : List Token) (i d : ℕ) (K : List Sym) → is_kind (seen ts i) Kinds.CloseParen ≡ false → from s ts (arguments d ∷ token CloseParen ∷ K) i ≡ from s ts (expr d ∷ further d ∷ token CloseParen ∷ K) i
arguments_some s ts i d K n =
    alike s ts i (arguments d ∷ token CloseParen ∷ K) (expr d ∷ further d ∷ token CloseParen ∷ K) (tok_at s ts i) refl
    (λ j k. args_is d (tok_at s ts i) (token CloseParen ∷ K) j k (word_at CloseParen s ts i ∙ n)) refl

pub further_go : (s : List ℕ) (ts : List Token) (i d : ℕ) (K : List Sym) → is_kind (seen ts i) Kinds.Comma ≡ true → from s ts (further d ∷ K) i ≡ from s ts (expr d ∷ further d ∷ K) (i + 1)
further_go s ts i d K n =
    let p = found s ts i Kinds.Comma n in
    stepping s ts i (further d ∷ K) (word Comma p.0) (found_inside ts i Kinds.Comma n) p.1
    ∙ alike s ts (i + 1) (exprs d ∷ K) (expr d ∷ further d ∷ K) (tok_at s ts (i + 1)) refl (λ j k. exprs_is d (tok_at s ts (i + 1)) K j k) refl

pub further_stop : (s : List ℕ) (ts : List Token) (i d : ℕ) (K : List Sym) → is_kind (seen ts i) Kinds.Comma ≡ false → from s ts (further d ∷ K) i ≡ from s ts K i
further_stop s ts i d K n = skipping (further d) end refl s ts i K (tok_at s ts i) refl (word_at Comma s ts i ∙ n)

pub binary_more : (s : List ℕ) (ts : List Token) (i n d : ℕ) (K : List Sym) → 0 < n → from s ts (operands n d K) i ≡ from s ts (operands (n - 1) d (tail n d ∷ K)) i
binary_more s ts i n d K h = ap (λ (x : List Sym). from s ts x i) (operands_more n d K h)
