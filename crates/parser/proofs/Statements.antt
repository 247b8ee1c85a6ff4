-- What the machine does with statements, for each way that the code takes.
use Rattle.std.proofs.Common.{◌≡◌, ℕ, suc, ◌+◌, ◌<◌, ◌≤◌, Bool, true, false, cond, not, ltb, ◌⊎◌, List, ◌∷◌, length, Some, None, is_some, Err, Option, sym, refl, ap, ◌∙◌, inl, inr, arith}
use Rattle.lexer.specs.declared.kind.Kind.{Kind}
use Rattle.lexer.specs.declared.kind.Kind.TheVariants as Kinds
use Rattle.lexer.specs.declared.kind.Token.{Token}
use Rattle.meaning.specs.declared.operator.Scalar.{Scalar}
use Rattle.meaning.specs.declared.operator.Scalar.TheVariants.{Bool as bool, Char as char, Int as int}
use Rattle.meaning.specs.Trees.{Ident, Modifier, plus, minus, times, over, modulo, both, either, evaluate, return, cons, nil}
use Rattle.meaning.proofs.Tokens.{OpenBrace, CloseBrace, Semicolon, If, Else, While, Do, For, Break, Continue, Return, Assign, Tok, name, type, modifier, word}
use Rattle.meaning.proofs.Stack.{neither, assigning, Sym, token, called, expr, statement, named, returned, statements, orelse, absent, Step, stop, expr_rule, evaluation, statement_rule, gather, tails_to, step}
use Rattle.meaning.proofs.Judge.{Outcome, refused, decide}
use Rattle.lookahead.specs.declared.class.Lead.{Lead}
use Rattle.lookahead.specs.declared.class.Lead.TheVariants as L
use Rattle.lookahead.specs.Seen.{seen, is_kind, lead_of, assigns_of}
use Rattle.parser.specs.declared.fault.Fault.{Fault}
use Rattle.parser.specs.Steps.{faulted, admission, operands, terminated, a_block, a_definition, a_branch, a_repetition, a_round, a_count}
use Rattle.parser.proofs.Places.{Begins}
use Rattle.parser.proofs.Look.{Sees, tok_at, sees, stepping, refusing, skipping, alike, decide-onto}
use Rattle.parser.proofs.Expect.{found, found_inside, word_at, at_none, expected}
use Rattle.parser.proofs.Expressions.{from, deep, nothing, shallow, expression_is}

-- an expression that begins with this token is a statement by itself
abbrev Evaluates : Tok → Type 0
Evaluates t = (d : ℕ) (K : List Sym) → (statement_rule d t K ≡ evaluation d t K) × ((y : Outcome) (i : ℕ) (k : List Sym → Outcome) → (z : Outcome) × (decide (expr_rule d t (token Semicolon ∷ K)) i k ≡ cond (ltb 32 d) (refused 10 i) z))

abbrev LeadSees : Option Lead → Tok → Type 0
LeadSees None t = (d : ℕ) (K : List Sym) → statement_rule d t K ≡ stop
LeadSees (Some L.Block) t = (p : ℕ) × (t ≡ word OpenBrace p)
LeadSees (Some L.Definition) t = (c : Scalar) × (p : ℕ) × (t ≡ type c p)
LeadSees (Some L.Name) t = (x : Ident) × (t ≡ name x)
LeadSees (Some L.If) t = (p : ℕ) × (t ≡ word If p)
LeadSees (Some L.While) t = (p : ℕ) × (t ≡ word While p)
LeadSees (Some L.Do) t = (p : ℕ) × (t ≡ word Do p)
LeadSees (Some L.For) t = (p : ℕ) × (t ≡ word For p)
LeadSees (Some L.Jump) t = ((p : ℕ) × (t ≡ word Break p)) ⊎ ((p : ℕ) × (t ≡ word Continue p))
LeadSees (Some L.Return) t = (p : ℕ) × (t ≡ word Return p)
LeadSees (Some L.Expression) t = Evaluates t

evaluates : (t u : Tok) → t ≡ u → Evaluates u → Evaluates t
evaluates t u e h = rw e h

lead_seen : (o : Option Kind) (t : Tok) → Sees o t → LeadSees (lead_of o) t
lead_seen None t s = λ d K. ap (λ (x : Tok). statement_rule d x K) s
lead_seen (Some Kinds.Name) t s = s
lead_seen (Some Kinds.Number) t s = evaluates t _ s.1 (λ d K. (refl, λ y i k. (_, refl)))
lead_seen (Some Kinds.Character) t s = evaluates t _ s.1 (λ d K. (refl, λ y i k. (_, refl)))
lead_seen (Some Kinds.Bool) t s = (bool, s.0, s.1)
lead_seen (Some Kinds.Char) t s = (char, s.0, s.1)
lead_seen (Some Kinds.Int) t s = (int, s.0, s.1)
lead_seen (Some Kinds.Float) t s = λ d K. ap (λ (x : Tok). statement_rule d x K) s
lead_seen (Some Kinds.Void) t s = λ d K. ap (λ (x : Tok). statement_rule d x K) s.1
lead_seen (Some Kinds.Extern) t s = λ d K. ap (λ (x : Tok). statement_rule d x K) s.1
lead_seen (Some Kinds.Static) t s = λ d K. ap (λ (x : Tok). statement_rule d x K) s.1
lead_seen (Some Kinds.If) t s = s
lead_seen (Some Kinds.Else) t s = λ d K. ap (λ (x : Tok). statement_rule d x K) s.1
lead_seen (Some Kinds.While) t s = s
lead_seen (Some Kinds.Do) t s = s
lead_seen (Some Kinds.For) t s = s
lead_seen (Some Kinds.To) t s = λ d K. ap (λ (x : Tok). statement_rule d x K) s.1
lead_seen (Some Kinds.Break) t s = inl s
lead_seen (Some Kinds.Continue) t s = inr s
lead_seen (Some Kinds.Return) t s = s
lead_seen (Some Kinds.True) t s = evaluates t _ s.1 (λ d K. (refl, λ y i k. (_, refl)))
lead_seen (Some Kinds.False) t s = evaluates t _ s.1 (λ d K. (refl, λ y i k. (_, refl)))
lead_seen (Some Kinds.Plus) t s = λ d K. ap (λ (x : Tok). statement_rule d x K) s.1
lead_seen (Some Kinds.Minus) t s = evaluates t _ s.1 (λ d K. (refl, λ y i k. (_, refl)))
lead_seen (Some Kinds.Star) t s = λ d K. ap (λ (x : Tok). statement_rule d x K) s.1
lead_seen (Some Kinds.Slash) t s = λ d K. ap (λ (x : Tok). statement_rule d x K) s.1
lead_seen (Some Kinds.Percent) t s = λ d K. ap (λ (x : Tok). statement_rule d x K) s.1
lead_seen (Some Kinds.Assign) t s = λ d K. ap (λ (x : Tok). statement_rule d x K) s.1
lead_seen (Some Kinds.Equal) t s = λ d K. ap (λ (x : Tok). statement_rule d x K) s.1
lead_seen (Some Kinds.NotEqual) t s = λ d K. ap (λ (x : Tok). statement_rule d x K) s.1
lead_seen (Some Kinds.Not) t s = evaluates t _ s.1 (λ d K. (refl, λ y i k. (_, refl)))
lead_seen (Some Kinds.Less) t s = λ d K. ap (λ (x : Tok). statement_rule d x K) s.1
lead_seen (Some Kinds.LessEqual) t s = λ d K. ap (λ (x : Tok). statement_rule d x K) s.1
lead_seen (Some Kinds.Greater) t s = λ d K. ap (λ (x : Tok). statement_rule d x K) s.1
lead_seen (Some Kinds.GreaterEqual) t s = λ d K. ap (λ (x : Tok). statement_rule d x K) s.1
lead_seen (Some Kinds.And) t s = λ d K. ap (λ (x : Tok). statement_rule d x K) s.1
lead_seen (Some Kinds.Or) t s = λ d K. ap (λ (x : Tok). statement_rule d x K) s.1
lead_seen (Some Kinds.PlusAssign) t s = λ d K. ap (λ (x : Tok). statement_rule d x K) s.1
lead_seen (Some Kinds.MinusAssign) t s = λ d K. ap (λ (x : Tok). statement_rule d x K) s.1
lead_seen (Some Kinds.StarAssign) t s = λ d K. ap (λ (x : Tok). statement_rule d x K) s.1
lead_seen (Some Kinds.SlashAssign) t s = λ d K. ap (λ (x : Tok). statement_rule d x K) s.1
lead_seen (Some Kinds.PercentAssign) t s = λ d K. ap (λ (x : Tok). statement_rule d x K) s.1
lead_seen (Some Kinds.AndAssign) t s = λ d K. ap (λ (x : Tok). statement_rule d x K) s.1
lead_seen (Some Kinds.OrAssign) t s = λ d K. ap (λ (x : Tok). statement_rule d x K) s.1
lead_seen (Some Kinds.OpenParen) t s = evaluates t _ s.1 (λ d K. (refl, λ y i k. (_, refl)))
lead_seen (Some Kinds.CloseParen) t s = λ d K. ap (λ (x : Tok). statement_rule d x K) s.1
lead_seen (Some Kinds.OpenBrace) t s = s
lead_seen (Some Kinds.CloseBrace) t s = λ d K. ap (λ (x : Tok). statement_rule d x K) s.1
lead_seen (Some Kinds.Comma) t s = λ d K. ap (λ (x : Tok). statement_rule d x K) s.1
lead_seen (Some Kinds.Semicolon) t s = λ d K. ap (λ (x : Tok). statement_rule d x K) s.1

leads : (s : List ℕ) (ts : List Token) (i : ℕ) (x : Option Lead) → x ≡ lead_of (seen ts i) → LeadSees x (tok_at s ts i)
leads s ts i x e = rw e (lead_seen (seen ts i) (tok_at s ts i) (sees s ts i))

abbrev AssignSees : Bool → Tok → Type 0
AssignSees true t = ((p : ℕ) × (t ≡ word Assign p)) ⊎ ((m : Modifier) × (p : ℕ) × (t ≡ modifier m p))
AssignSees false t = assigning t ≡ neither

assign_seen : (o : Option Kind) (t : Tok) → Sees o t → AssignSees (assigns_of o) t
assign_seen None t s = ap assigning s
assign_seen (Some Kinds.Name) t s = ap assigning s.1
assign_seen (Some Kinds.Number) t s = ap assigning s.1
assign_seen (Some Kinds.Character) t s = ap assigning s.1
assign_seen (Some Kinds.Bool) t s = ap assigning s.1
assign_seen (Some Kinds.Char) t s = ap assigning s.1
assign_seen (Some Kinds.Int) t s = ap assigning s.1
assign_seen (Some Kinds.Float) t s = ap assigning s
assign_seen (Some Kinds.Void) t s = ap assigning s.1
assign_seen (Some Kinds.Extern) t s = ap assigning s.1
assign_seen (Some Kinds.Static) t s = ap assigning s.1
assign_seen (Some Kinds.If) t s = ap assigning s.1
assign_seen (Some Kinds.Else) t s = ap assigning s.1
assign_seen (Some Kinds.While) t s = ap assigning s.1
assign_seen (Some Kinds.Do) t s = ap assigning s.1
assign_seen (Some Kinds.For) t s = ap assigning s.1
assign_seen (Some Kinds.To) t s = ap assigning s.1
assign_seen (Some Kinds.Break) t s = ap assigning s.1
assign_seen (Some Kinds.Continue) t s = ap assigning s.1
assign_seen (Some Kinds.Return) t s = ap assigning s.1
assign_seen (Some Kinds.True) t s = ap assigning s.1
assign_seen (Some Kinds.False) t s = ap assigning s.1
assign_seen (Some Kinds.Plus) t s = ap assigning s.1
assign_seen (Some Kinds.Minus) t s = ap assigning s.1
assign_seen (Some Kinds.Star) t s = ap assigning s.1
assign_seen (Some Kinds.Slash) t s = ap assigning s.1
assign_seen (Some Kinds.Percent) t s = ap assigning s.1
assign_seen (Some Kinds.Assign) t s = inl s
assign_seen (Some Kinds.Equal) t s = ap assigning s.1
assign_seen (Some Kinds.NotEqual) t s = ap assigning s.1
assign_seen (Some Kinds.Not) t s = ap assigning s.1
assign_seen (Some Kinds.Less) t s = ap assigning s.1
assign_seen (Some Kinds.LessEqual) t s = ap assigning s.1
assign_seen (Some Kinds.Greater) t s = ap assigning s.1
assign_seen (Some Kinds.GreaterEqual) t s = ap assigning s.1
assign_seen (Some Kinds.And) t s = ap assigning s.1
assign_seen (Some Kinds.Or) t s = ap assigning s.1
assign_seen (Some Kinds.PlusAssign) t s = inr (plus, s.0, s.1)
assign_seen (Some Kinds.MinusAssign) t s = inr (minus, s.0, s.1)
assign_seen (Some Kinds.StarAssign) t s = inr (times, s.0, s.1)
assign_seen (Some Kinds.SlashAssign) t s = inr (over, s.0, s.1)
assign_seen (Some Kinds.PercentAssign) t s = inr (modulo, s.0, s.1)
assign_seen (Some Kinds.AndAssign) t s = inr (both, s.0, s.1)
assign_seen (Some Kinds.OrAssign) t s = inr (either, s.0, s.1)
assign_seen (Some Kinds.OpenParen) t s = ap assigning s.1
assign_seen (Some Kinds.CloseParen) t s = ap assigning s.1
assign_seen (Some Kinds.OpenBrace) t s = ap assigning s.1
assign_seen (Some Kinds.CloseBrace) t s = ap assigning s.1
assign_seen (Some Kinds.Comma) t s = ap assigning s.1
assign_seen (Some Kinds.Semicolon) t s = ap assigning s.1

assigned : (s : List ℕ) (ts : List Token) (i : ℕ) (b : Bool) → b ≡ assigns_of (seen ts i) → AssignSees b (tok_at s ts i)
assigned s ts i b e = rw e (assign_seen (seen ts i) (tok_at s ts i) (sees s ts i))

evaluation_is : (s : List ℕ) (ts : List Token) (i d : ℕ) (K : List Sym) → Evaluates (tok_at s ts i) → from s ts (statement d ∷ K) i ≡ from s ts (expr d ∷ token Semicolon ∷ K) i
evaluation_is s ts i d K e =
    alike s ts i (statement d ∷ K) (expr d ∷ token Semicolon ∷ K) (tok_at s ts i) refl
    (λ j k. ap (λ (x : Step (statement d ∷ K)). decide x j k) (e d K).0 ∙ decide-onto (expr d ∷ token Semicolon ∷ K) (statement d ∷ K) (λ vs. (evaluate vs.0 vs.1.0, vs.1.1)) (expr_rule d (tok_at s ts i) (token Semicolon ∷ K)) j k) refl

-- no statement, or one too deep
begins : (s : List ℕ) (ts : List Token) (i d : ℕ) (K : List Sym) (x : Lead) → i < length ts → LeadSees (Some x) (tok_at s ts i)
    → (y : Outcome) × (from s ts (statement d ∷ K) i ≡ cond (ltb 32 d) (refused 10 i) y)
begins s ts i d K L.Block h e = (_, stepping s ts i (statement d ∷ K) (word OpenBrace e.0) h e.1)
begins s ts i d K L.Definition h e = (_, stepping s ts i (statement d ∷ K) (type e.0 e.1) h e.2)
begins s ts i d K L.Name h e = (_, stepping s ts i (statement d ∷ K) (name e.0) h e.1)
begins s ts i d K L.If h e = (_, stepping s ts i (statement d ∷ K) (word If e.0) h e.1)
begins s ts i d K L.While h e = (_, stepping s ts i (statement d ∷ K) (word While e.0) h e.1)
begins s ts i d K L.Do h e = (_, stepping s ts i (statement d ∷ K) (word Do e.0) h e.1)
begins s ts i d K L.For h e = (_, stepping s ts i (statement d ∷ K) (word For e.0) h e.1)
begins s ts i d K L.Jump h (inl e) = (_, stepping s ts i (statement d ∷ K) (word Break e.0) h e.1)
begins s ts i d K L.Jump h (inr e) = (_, stepping s ts i (statement d ∷ K) (word Continue e.0) h e.1)
begins s ts i d K L.Return h e = (_, stepping s ts i (statement d ∷ K) (word Return e.0) h e.1)
begins s ts i d K L.Expression h e =
    let x = stepping s ts i (expr d ∷ token Semicolon ∷ K) (tok_at s ts i) h refl in
    let z = (e d K).1 (refused 9 0) i _ in
    (z.0, evaluation_is s ts i d K e ∙ x ∙ z.1)

pub statement_refused : (s : List ℕ) (ts : List Token) (i d : ℕ) (K : List Sym) (x : Option Lead) (f : Fault) → x ≡ lead_of (seen ts i) → (is_some x ≡ true → i < length ts) → Err f ≡ admission x i d → from s ts (statement d ∷ K) i ≡ faulted f
statement_refused s ts i d K None f e l a = refusing s ts i (statement d ∷ K) (tok_at s ts i) refl (leads s ts i None e d K) refl ∙ nothing {T = Lead} d i f a
statement_refused s ts i d K (Some x) f e l a = let b = begins s ts i d K x (l refl) (leads s ts i (Some x) e) in b.1 ∙ deep x d i b.0 f a

-- each kind of statement
pub statement_block : (s : List ℕ) (ts : List Token) (i d : ℕ) (K : List Sym) → Begins lead_of ts i d L.Block → from s ts (statement d ∷ K) i ≡ from s ts (a_block (d + 1) K) (i + 1)
statement_block s ts i d K b = let c = leads s ts i (Some L.Block) b.is in let z : d + 1 ≡ suc d = omega arith in rw z (stepping s ts i (statement d ∷ K) (word OpenBrace c.0) b.inside c.1 ∙ shallow d i _ b.shallow)

pub statement_definition : (s : List ℕ) (ts : List Token) (i d : ℕ) (K : List Sym) → Begins lead_of ts i d L.Definition → from s ts (statement d ∷ K) i ≡ from s ts (a_definition d K) (i + 1)
statement_definition s ts i d K b = let c = leads s ts i (Some L.Definition) b.is in stepping s ts i (statement d ∷ K) (type c.0 c.1) b.inside c.2 ∙ shallow d i _ b.shallow

pub statement_if : (s : List ℕ) (ts : List Token) (i d : ℕ) (K : List Sym) → Begins lead_of ts i d L.If → from s ts (statement d ∷ K) i ≡ from s ts (a_branch d K) (i + 1)
statement_if s ts i d K b = let c = leads s ts i (Some L.If) b.is in let z : d + 1 ≡ suc d = omega arith in rw z (stepping s ts i (statement d ∷ K) (word If c.0) b.inside c.1 ∙ shallow d i _ b.shallow)

pub statement_while : (s : List ℕ) (ts : List Token) (i d : ℕ) (K : List Sym) → Begins lead_of ts i d L.While → from s ts (statement d ∷ K) i ≡ from s ts (a_repetition d K) (i + 1)
statement_while s ts i d K b = let c = leads s ts i (Some L.While) b.is in let z : d + 1 ≡ suc d = omega arith in rw z (stepping s ts i (statement d ∷ K) (word While c.0) b.inside c.1 ∙ shallow d i _ b.shallow)

pub statement_do : (s : List ℕ) (ts : List Token) (i d : ℕ) (K : List Sym) → Begins lead_of ts i d L.Do → from s ts (statement d ∷ K) i ≡ from s ts (a_round d K) (i + 1)
statement_do s ts i d K b = let c = leads s ts i (Some L.Do) b.is in let z : d + 1 ≡ suc d = omega arith in rw z (stepping s ts i (statement d ∷ K) (word Do c.0) b.inside c.1 ∙ shallow d i _ b.shallow)

pub statement_for : (s : List ℕ) (ts : List Token) (i d : ℕ) (K : List Sym) → Begins lead_of ts i d L.For → from s ts (statement d ∷ K) i ≡ from s ts (a_count d K) (i + 1)
statement_for s ts i d K b = let c = leads s ts i (Some L.For) b.is in let z : d + 1 ≡ suc d = omega arith in rw z (stepping s ts i (statement d ∷ K) (word For c.0) b.inside c.1 ∙ shallow d i _ b.shallow)

jumped : (s : List ℕ) (ts : List Token) (i d : ℕ) (K : List Sym) → d ≤ 32 → i < length ts → LeadSees (Some L.Jump) (tok_at s ts i) → from s ts (statement d ∷ K) i ≡ from s ts (token Semicolon ∷ K) (i + 1)
jumped s ts i d K h l (inl c) = stepping s ts i (statement d ∷ K) (word Break c.0) l c.1 ∙ shallow d i _ h
jumped s ts i d K h l (inr c) = stepping s ts i (statement d ∷ K) (word Continue c.0) l c.1 ∙ shallow d i _ h

pub statement_jump : (s : List ℕ) (ts : List Token) (i d : ℕ) (K : List Sym) → Begins lead_of ts i d L.Jump → from s ts (statement d ∷ K) i ≡ from s ts (token Semicolon ∷ K) (i + 1)
statement_jump s ts i d K b = jumped s ts i d K b.shallow b.inside (leads s ts i (Some L.Jump) b.is)

-- an expression, at whatever place and depth
pub statement_evaluated : (s : List ℕ) (ts : List Token) (i d : ℕ) (K : List Sym) → Some L.Expression ≡ lead_of (seen ts i) → from s ts (statement d ∷ K) i ≡ from s ts (terminated d K) i
statement_evaluated s ts i d K e = evaluation_is s ts i d K (leads s ts i (Some L.Expression) e)

pub statement_expression : (s : List ℕ) (ts : List Token) (i d : ℕ) (K : List Sym) → Begins lead_of ts i d L.Expression → from s ts (statement d ∷ K) i ≡ from s ts (terminated d K) i
statement_expression s ts i d K b = statement_evaluated s ts i d K b.is

-- `return` with or without an expression
returning : (s : List ℕ) (ts : List Token) (i d : ℕ) (K : List Sym) → d ≤ 32 → i < length ts → (c : LeadSees (Some L.Return) (tok_at s ts i)) → from s ts (statement d ∷ K) i ≡ from s ts (returned d c.0 ∷ K) (i + 1)
returning s ts i d K h l c = stepping s ts i (statement d ∷ K) (word Return c.0) l c.1 ∙ shallow d i _ h

pub statement_return_bare : (s : List ℕ) (ts : List Token) (i d : ℕ) (K : List Sym) → Begins lead_of ts i d L.Return → is_kind (seen ts (i + 1)) Kinds.Semicolon ≡ true → from s ts (statement d ∷ K) i ≡ from s ts K (i + 1 + 1)
statement_return_bare s ts i d K b n =
    let c = leads s ts i (Some L.Return) b.is in let p = found s ts (i + 1) Kinds.Semicolon n in
    returning s ts i d K b.shallow b.inside c ∙ stepping s ts (i + 1) (returned d c.0 ∷ K) (word Semicolon p.0) (found_inside ts (i + 1) Kinds.Semicolon n) p.1

pub statement_return : (s : List ℕ) (ts : List Token) (i d : ℕ) (K : List Sym) → Begins lead_of ts i d L.Return → is_kind (seen ts (i + 1)) Kinds.Semicolon ≡ false → from s ts (statement d ∷ K) i ≡ from s ts (terminated d K) (i + 1)
statement_return s ts i d K b n =
    let c = leads s ts i (Some L.Return) b.is in let t = tok_at s ts (i + 1) in
    let a = at_none Semicolon t (word_at Semicolon s ts (i + 1) ∙ n) in
    returning s ts i d K b.shallow b.inside c ∙ alike s ts (i + 1) (returned d c.0 ∷ K) (terminated d K) t refl
    (λ j k. rw a (decide-onto (terminated d K) (returned d c.0 ∷ K) (λ vs. (return c.0 vs.0 vs.1.0, vs.1.1)) (expr_rule d t (token Semicolon ∷ K)) j k)) refl

-- a name: an assignment, or an expression that begins with it
naming : (s : List ℕ) (ts : List Token) (i d : ℕ) (K : List Sym) → d ≤ 32 → i < length ts → (c : LeadSees (Some L.Name) (tok_at s ts i)) → from s ts (statement d ∷ K) i ≡ from s ts (named d c.0 ∷ K) (i + 1)
naming s ts i d K h l c = stepping s ts i (statement d ∷ K) (name c.0) l c.1 ∙ shallow d i _ h

assigning_to : (s : List ℕ) (ts : List Token) (i d : ℕ) (x : Ident) (K : List Sym) → i < length ts → AssignSees true (tok_at s ts i) → from s ts (named d x ∷ K) i ≡ from s ts (terminated d K) (i + 1)
assigning_to s ts i d x K l (inl p) = stepping s ts i (named d x ∷ K) (word Assign p.0) l p.1
assigning_to s ts i d x K l (inr p) = stepping s ts i (named d x ∷ K) (modifier p.0 p.1) l p.2

pub statement_assign : (s : List ℕ) (ts : List Token) (i d : ℕ) (K : List Sym) → i + 1 < length ts → Begins lead_of ts i d L.Name → true ≡ assigns_of (seen ts (i + 1)) → from s ts (statement d ∷ K) i ≡ from s ts (terminated d K) (i + 1 + 1)
statement_assign s ts i d K m b n =
    let c = leads s ts i (Some L.Name) b.is in
    naming s ts i d K b.shallow b.inside c ∙ assigning_to s ts (i + 1) d c.0 K m (assigned s ts (i + 1) true n)

pub statement_named : (s : List ℕ) (ts : List Token) (i d : ℕ) (K : List Sym) → Begins lead_of ts i d L.Name → false ≡ assigns_of (seen ts (i + 1)) → from s ts (statement d ∷ K) i ≡ from s ts (terminated d K) i
statement_named s ts i d K b n =
    let c = leads s ts i (Some L.Name) b.is in let x = c.0 in let t = tok_at s ts (i + 1) in
    let L' = called d x ∷ tails_to 6 d (token Semicolon ∷ K) in
    let a = assigned s ts (i + 1) false n in
    let f = alike s ts (i + 1) (named d x ∷ K) L' t refl
    (λ j k. rw a (decide-onto L' (named d x ∷ K) (λ vs. let g = gather 6 d (token Semicolon ∷ K) vs.0 vs.1 in (evaluate g.0 g.1.0, g.1.1)) (step L' t) j k)) refl in
    let g = expression_is s ts i d (token Semicolon ∷ K) ∙ stepping s ts i (operands 6 d (token Semicolon ∷ K)) (name x) b.inside c.1 ∙ shallow d i _ b.shallow in
    naming s ts i d K b.shallow b.inside c ∙ f ∙ sym g

-- statements in a row, and `else`
pub statements_end : (s : List ℕ) (ts : List Token) (i d : ℕ) (K : List Sym) → is_kind (seen ts i) Kinds.CloseBrace ≡ true → from s ts (a_block d K) i ≡ from s ts K (i + 1)
statements_end s ts i d K n =
    skipping (statements d) nil refl s ts i (token CloseBrace ∷ K) (tok_at s ts i) refl (ap not (word_at CloseBrace s ts i ∙ n))
    ∙ expected (token CloseBrace) Kinds.CloseBrace refl s ts i K n

pub statements_more : (s : List ℕ) (ts : List Token) (i d : ℕ) (K : List Sym) → is_kind (seen ts i) Kinds.CloseBrace ≡ false → from s ts (a_block d K) i ≡ from s ts (statement d ∷ a_block d K) i
statements_more s ts i d K n =
    let t = tok_at s ts i in let b = word_at CloseBrace s ts i ∙ n in
    alike s ts i (a_block d K) (statement d ∷ a_block d K) t refl
    (λ j k. rw b (decide-onto (statement d ∷ a_block d K) (a_block d K) (λ vs. (cons vs.0 vs.1.0, vs.1.1)) (statement_rule d t (a_block d K)) j k)) refl

pub else_none : (s : List ℕ) (ts : List Token) (i d : ℕ) (K : List Sym) → is_kind (seen ts i) Kinds.Else ≡ false → from s ts (orelse d ∷ K) i ≡ from s ts K i
else_none s ts i d K n = skipping (orelse d) absent refl s ts i K (tok_at s ts i) refl (word_at Else s ts i ∙ n)

pub else_some : (s : List ℕ) (ts : List Token) (i d : ℕ) (K : List Sym) → is_kind (seen ts i) Kinds.Else ≡ true → from s ts (orelse d ∷ K) i ≡ from s ts (statement (d + 1) ∷ K) (i + 1)
else_some s ts i d K n =
    let p = found s ts i Kinds.Else n in let z : d + 1 ≡ suc d = omega arith in
    rw z (stepping s ts i (orelse d ∷ K) (word Else p.0) (found_inside ts i Kinds.Else n) p.1)
