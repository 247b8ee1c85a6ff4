-- What the machine does with scripts, for each way that the code takes.
use Rattle.std.proofs.Common.{◌≡◌, ℕ, zero, suc, ◌+◌, ◌<◌, ◌≤◌, Bool, true, false, cond, not, ◌&&◌, ◌||◌, List, [], ◌∷◌, length, take, drop, ℤ, pos, negsuc, Some, None, Option, sym, refl, ap, ◌∙◌, arith, drop_of_length-le}
use mathlib.Core.Option.{some, none}
use Rattle.std.specs.Str.{bytes_eq}
use Rattle.lexer.specs.Reading.{lexeme, lexemes}
use Rattle.lexer.specs.declared.kind.Kind.{Kind}
use Rattle.lexer.specs.declared.kind.Kind.TheVariants as Kinds
use Rattle.lexer.specs.declared.kind.Token.{Token}
use Rattle.meaning.specs.declared.operator.Scalar.{Scalar}
use Rattle.meaning.specs.declared.operator.Scalar.TheVariants.{Bool as bool, Char as char, Int as int}
use Rattle.meaning.specs.Trees.{Ident, Constant, nothing, global, Return as Answer, void, gives}
use Rattle.meaning.specs.Written.{main_name}
use Rattle.meaning.proofs.Tokens.{OpenParen, CloseParen, Static, Extern, Tok, name, value, type, operator, bang, modifier, word, stray, next, tok_of}
use Rattle.meaning.proofs.Stack.{is_word, as_name, as_type, as_result, as_constant, as_int, Sym, token, a_name, a_constant, a_result, parameter, script, declared, integer, mainly, terminal, integer_rule, declared_rule, global_row, prepend, step}
use Rattle.meaning.proofs.Builds.{never}
use Rattle.meaning.proofs.Judge.{Outcome, accepted, refused, decide, judge}
use Rattle.lookahead.specs.Seen.{is_valued, is_zero, kind_of, seen, is_kind, is_scalar, is_result, is_constant, past_static, main_first, is_main, past_main}
use Rattle.parser.specs.Steps.{an_initializer, parameters, an_extern, main_rest}
use Rattle.parser.proofs.Look.{Sees, sees_token, tok_at, sees, drop-lexemes, length-lexemes, stepping, refusing, skipping, alike, decide-onto}
use Rattle.parser.proofs.Expect.{same_code, kind_seen, name-none, found, found_inside, word_at, at_none, expected, unexpected}
use Rattle.parser.proofs.Expressions.{from}

-- Classes of tokens.

abbrev ScalarSees : Bool → Tok → Type 0
ScalarSees true t = (c : Scalar) × (p : ℕ) × (t ≡ type c p)
ScalarSees false t = as_type t ≡ none

scalar_seen : (o : Option Kind) (t : Tok) → Sees o t → ScalarSees (is_scalar o) t
scalar_seen None t s = ap as_type s
scalar_seen (Some Kinds.Name) t s = ap as_type s.1
scalar_seen (Some Kinds.Number) t s = ap as_type s.1
scalar_seen (Some Kinds.Character) t s = ap as_type s.1
scalar_seen (Some Kinds.Bool) t s = (bool, s.0, s.1)
scalar_seen (Some Kinds.Char) t s = (char, s.0, s.1)
scalar_seen (Some Kinds.Int) t s = (int, s.0, s.1)
scalar_seen (Some Kinds.Float) t s = ap as_type s
scalar_seen (Some Kinds.Void) t s = ap as_type s.1
scalar_seen (Some Kinds.Extern) t s = ap as_type s.1
scalar_seen (Some Kinds.Static) t s = ap as_type s.1
scalar_seen (Some Kinds.If) t s = ap as_type s.1
scalar_seen (Some Kinds.Else) t s = ap as_type s.1
scalar_seen (Some Kinds.While) t s = ap as_type s.1
scalar_seen (Some Kinds.Do) t s = ap as_type s.1
scalar_seen (Some Kinds.For) t s = ap as_type s.1
scalar_seen (Some Kinds.To) t s = ap as_type s.1
scalar_seen (Some Kinds.Break) t s = ap as_type s.1
scalar_seen (Some Kinds.Continue) t s = ap as_type s.1
scalar_seen (Some Kinds.Return) t s = ap as_type s.1
scalar_seen (Some Kinds.True) t s = ap as_type s.1
scalar_seen (Some Kinds.False) t s = ap as_type s.1
scalar_seen (Some Kinds.Plus) t s = ap as_type s.1
scalar_seen (Some Kinds.Minus) t s = ap as_type s.1
scalar_seen (Some Kinds.Star) t s = ap as_type s.1
scalar_seen (Some Kinds.Slash) t s = ap as_type s.1
scalar_seen (Some Kinds.Percent) t s = ap as_type s.1
scalar_seen (Some Kinds.Assign) t s = ap as_type s.1
scalar_seen (Some Kinds.Equal) t s = ap as_type s.1
scalar_seen (Some Kinds.NotEqual) t s = ap as_type s.1
scalar_seen (Some Kinds.Not) t s = ap as_type s.1
scalar_seen (Some Kinds.Less) t s = ap as_type s.1
scalar_seen (Some Kinds.LessEqual) t s = ap as_type s.1
scalar_seen (Some Kinds.Greater) t s = ap as_type s.1
scalar_seen (Some Kinds.GreaterEqual) t s = ap as_type s.1
scalar_seen (Some Kinds.And) t s = ap as_type s.1
scalar_seen (Some Kinds.Or) t s = ap as_type s.1
scalar_seen (Some Kinds.PlusAssign) t s = ap as_type s.1
scalar_seen (Some Kinds.MinusAssign) t s = ap as_type s.1
scalar_seen (Some Kinds.StarAssign) t s = ap as_type s.1
scalar_seen (Some Kinds.SlashAssign) t s = ap as_type s.1
scalar_seen (Some Kinds.PercentAssign) t s = ap as_type s.1
scalar_seen (Some Kinds.AndAssign) t s = ap as_type s.1
scalar_seen (Some Kinds.OrAssign) t s = ap as_type s.1
scalar_seen (Some Kinds.OpenParen) t s = ap as_type s.1
scalar_seen (Some Kinds.CloseParen) t s = ap as_type s.1
scalar_seen (Some Kinds.OpenBrace) t s = ap as_type s.1
scalar_seen (Some Kinds.CloseBrace) t s = ap as_type s.1
scalar_seen (Some Kinds.Comma) t s = ap as_type s.1
scalar_seen (Some Kinds.Semicolon) t s = ap as_type s.1

abbrev ResultSees : Bool → Tok → Type 0
ResultSees true t = (a : Answer) × (p : ℕ) × (as_result t ≡ some (a, p))
ResultSees false t = as_result t ≡ none

result-seen : (o : Option Kind) (t : Tok) → Sees o t → ResultSees (is_result o) t
result-seen None t s = ap as_result s
result-seen (Some Kinds.Name) t s = ap as_result s.1
result-seen (Some Kinds.Number) t s = ap as_result s.1
result-seen (Some Kinds.Character) t s = ap as_result s.1
result-seen (Some Kinds.Bool) t s = (gives bool, s.0, ap as_result s.1)
result-seen (Some Kinds.Char) t s = (gives char, s.0, ap as_result s.1)
result-seen (Some Kinds.Int) t s = (gives int, s.0, ap as_result s.1)
result-seen (Some Kinds.Float) t s = ap as_result s
result-seen (Some Kinds.Void) t s = (void, s.0, ap as_result s.1)
result-seen (Some Kinds.Extern) t s = ap as_result s.1
result-seen (Some Kinds.Static) t s = ap as_result s.1
result-seen (Some Kinds.If) t s = ap as_result s.1
result-seen (Some Kinds.Else) t s = ap as_result s.1
result-seen (Some Kinds.While) t s = ap as_result s.1
result-seen (Some Kinds.Do) t s = ap as_result s.1
result-seen (Some Kinds.For) t s = ap as_result s.1
result-seen (Some Kinds.To) t s = ap as_result s.1
result-seen (Some Kinds.Break) t s = ap as_result s.1
result-seen (Some Kinds.Continue) t s = ap as_result s.1
result-seen (Some Kinds.Return) t s = ap as_result s.1
result-seen (Some Kinds.True) t s = ap as_result s.1
result-seen (Some Kinds.False) t s = ap as_result s.1
result-seen (Some Kinds.Plus) t s = ap as_result s.1
result-seen (Some Kinds.Minus) t s = ap as_result s.1
result-seen (Some Kinds.Star) t s = ap as_result s.1
result-seen (Some Kinds.Slash) t s = ap as_result s.1
result-seen (Some Kinds.Percent) t s = ap as_result s.1
result-seen (Some Kinds.Assign) t s = ap as_result s.1
result-seen (Some Kinds.Equal) t s = ap as_result s.1
result-seen (Some Kinds.NotEqual) t s = ap as_result s.1
result-seen (Some Kinds.Not) t s = ap as_result s.1
result-seen (Some Kinds.Less) t s = ap as_result s.1
result-seen (Some Kinds.LessEqual) t s = ap as_result s.1
result-seen (Some Kinds.Greater) t s = ap as_result s.1
result-seen (Some Kinds.GreaterEqual) t s = ap as_result s.1
result-seen (Some Kinds.And) t s = ap as_result s.1
result-seen (Some Kinds.Or) t s = ap as_result s.1
result-seen (Some Kinds.PlusAssign) t s = ap as_result s.1
result-seen (Some Kinds.MinusAssign) t s = ap as_result s.1
result-seen (Some Kinds.StarAssign) t s = ap as_result s.1
result-seen (Some Kinds.SlashAssign) t s = ap as_result s.1
result-seen (Some Kinds.PercentAssign) t s = ap as_result s.1
result-seen (Some Kinds.AndAssign) t s = ap as_result s.1
result-seen (Some Kinds.OrAssign) t s = ap as_result s.1
result-seen (Some Kinds.OpenParen) t s = ap as_result s.1
result-seen (Some Kinds.CloseParen) t s = ap as_result s.1
result-seen (Some Kinds.OpenBrace) t s = ap as_result s.1
result-seen (Some Kinds.CloseBrace) t s = ap as_result s.1
result-seen (Some Kinds.Comma) t s = ap as_result s.1
result-seen (Some Kinds.Semicolon) t s = ap as_result s.1

abbrev ConstantSees : Bool → Tok → Type 0
ConstantSees true t = (c : Constant) × (t ≡ value c)
ConstantSees false t = as_constant t ≡ none

constant_seen : (o : Option Kind) (t : Tok) → Sees o t → ConstantSees (is_constant o) t
constant_seen None t s = ap as_constant s
constant_seen (Some Kinds.Name) t s = ap as_constant s.1
constant_seen (Some Kinds.Number) t s = s
constant_seen (Some Kinds.Character) t s = s
constant_seen (Some Kinds.Bool) t s = ap as_constant s.1
constant_seen (Some Kinds.Char) t s = ap as_constant s.1
constant_seen (Some Kinds.Int) t s = ap as_constant s.1
constant_seen (Some Kinds.Float) t s = ap as_constant s
constant_seen (Some Kinds.Void) t s = ap as_constant s.1
constant_seen (Some Kinds.Extern) t s = ap as_constant s.1
constant_seen (Some Kinds.Static) t s = ap as_constant s.1
constant_seen (Some Kinds.If) t s = ap as_constant s.1
constant_seen (Some Kinds.Else) t s = ap as_constant s.1
constant_seen (Some Kinds.While) t s = ap as_constant s.1
constant_seen (Some Kinds.Do) t s = ap as_constant s.1
constant_seen (Some Kinds.For) t s = ap as_constant s.1
constant_seen (Some Kinds.To) t s = ap as_constant s.1
constant_seen (Some Kinds.Break) t s = ap as_constant s.1
constant_seen (Some Kinds.Continue) t s = ap as_constant s.1
constant_seen (Some Kinds.Return) t s = ap as_constant s.1
constant_seen (Some Kinds.True) t s = s
constant_seen (Some Kinds.False) t s = s
constant_seen (Some Kinds.Plus) t s = ap as_constant s.1
constant_seen (Some Kinds.Minus) t s = ap as_constant s.1
constant_seen (Some Kinds.Star) t s = ap as_constant s.1
constant_seen (Some Kinds.Slash) t s = ap as_constant s.1
constant_seen (Some Kinds.Percent) t s = ap as_constant s.1
constant_seen (Some Kinds.Assign) t s = ap as_constant s.1
constant_seen (Some Kinds.Equal) t s = ap as_constant s.1
constant_seen (Some Kinds.NotEqual) t s = ap as_constant s.1
constant_seen (Some Kinds.Not) t s = ap as_constant s.1
constant_seen (Some Kinds.Less) t s = ap as_constant s.1
constant_seen (Some Kinds.LessEqual) t s = ap as_constant s.1
constant_seen (Some Kinds.Greater) t s = ap as_constant s.1
constant_seen (Some Kinds.GreaterEqual) t s = ap as_constant s.1
constant_seen (Some Kinds.And) t s = ap as_constant s.1
constant_seen (Some Kinds.Or) t s = ap as_constant s.1
constant_seen (Some Kinds.PlusAssign) t s = ap as_constant s.1
constant_seen (Some Kinds.MinusAssign) t s = ap as_constant s.1
constant_seen (Some Kinds.StarAssign) t s = ap as_constant s.1
constant_seen (Some Kinds.SlashAssign) t s = ap as_constant s.1
constant_seen (Some Kinds.PercentAssign) t s = ap as_constant s.1
constant_seen (Some Kinds.AndAssign) t s = ap as_constant s.1
constant_seen (Some Kinds.OrAssign) t s = ap as_constant s.1
constant_seen (Some Kinds.OpenParen) t s = ap as_constant s.1
constant_seen (Some Kinds.CloseParen) t s = ap as_constant s.1
constant_seen (Some Kinds.OpenBrace) t s = ap as_constant s.1
constant_seen (Some Kinds.CloseBrace) t s = ap as_constant s.1
constant_seen (Some Kinds.Comma) t s = ap as_constant s.1
constant_seen (Some Kinds.Semicolon) t s = ap as_constant s.1

scalars : (s : List ℕ) (ts : List Token) (i : ℕ) (b : Bool) → b ≡ is_scalar (seen ts i) → ScalarSees b (tok_at s ts i)
scalars s ts i b e = rw e (scalar_seen (seen ts i) (tok_at s ts i) (sees s ts i))

results : (s : List ℕ) (ts : List Token) (i : ℕ) (b : Bool) → b ≡ is_result (seen ts i) → ResultSees b (tok_at s ts i)
results s ts i b e = rw e (result-seen (seen ts i) (tok_at s ts i) (sees s ts i))

constants : (s : List ℕ) (ts : List Token) (i : ℕ) (b : Bool) → b ≡ is_constant (seen ts i) → ConstantSees b (tok_at s ts i)
constants s ts i b e = rw e (constant_seen (seen ts i) (tok_at s ts i) (sees s ts i))

pub result_go : (s : List ℕ) (ts : List Token) (i : ℕ) (K : List Sym) → i < length ts → true ≡ is_result (seen ts i) → from s ts (a_result ∷ K) i ≡ from s ts K (i + 1)
result_go s ts i K l e =
    let r = results s ts i true e in
    stepping s ts i (a_result ∷ K) (tok_at s ts i) l refl ∙ ap (λ (o : mathlib.Core.Option.Option (Answer × ℕ)). decide (terminal a_result K o) i (λ L. from s ts L (i + 1))) r.2

pub result_stop : (s : List ℕ) (ts : List Token) (i : ℕ) (K : List Sym) → false ≡ is_result (seen ts i) → from s ts (a_result ∷ K) i ≡ refused 9 i
result_stop s ts i K e =
    let r = results s ts i false e in
    refusing s ts i (a_result ∷ K) (tok_at s ts i) refl (ap (terminal a_result K) r) refl

pub constant_go : (s : List ℕ) (ts : List Token) (i : ℕ) (K : List Sym) → i < length ts → true ≡ is_constant (seen ts i) → from s ts (a_constant ∷ K) i ≡ from s ts K (i + 1)
constant_go s ts i K l e =
    let r = constants s ts i true e in
    stepping s ts i (a_constant ∷ K) (value r.0) l r.1

pub constant_stop : (s : List ℕ) (ts : List Token) (i : ℕ) (K : List Sym) → false ≡ is_constant (seen ts i) → from s ts (a_constant ∷ K) i ≡ refused 9 i
constant_stop s ts i K e =
    let r = constants s ts i false e in
    refusing s ts i (a_constant ∷ K) (tok_at s ts i) refl (ap (terminal a_constant K) r) refl

-- a parameter
pub parameter_none : (s : List ℕ) (ts : List Token) (i : ℕ) (K : List Sym) → is_kind (seen ts i) Kinds.CloseParen ≡ true → from s ts (parameters K) i ≡ from s ts K (i + 1)
parameter_none s ts i K n =
    skipping parameter nothing refl s ts i (token CloseParen ∷ K) (tok_at s ts i) refl (ap not (word_at CloseParen s ts i ∙ n)) ∙ expected (token CloseParen) Kinds.CloseParen refl s ts i K n

pub parameter_some : (s : List ℕ) (ts : List Token) (i : ℕ) (K : List Sym) → is_kind (seen ts i) Kinds.CloseParen ≡ false → i < length ts → true ≡ is_scalar (seen ts i) → from s ts (parameters K) i ≡ from s ts (a_name ∷ token CloseParen ∷ K) (i + 1)
parameter_some s ts i K n l e =
    let c = scalars s ts i true e in stepping s ts i (parameters K) (type c.0 c.1) l c.2

pub parameter_stop : (s : List ℕ) (ts : List Token) (i : ℕ) (K : List Sym) → is_kind (seen ts i) Kinds.CloseParen ≡ false → false ≡ is_scalar (seen ts i) → from s ts (parameters K) i ≡ refused 9 i
parameter_stop s ts i K n e =
    let c = scalars s ts i false e in let b = word_at CloseParen s ts i ∙ n in
    refusing s ts i (parameters K) (tok_at s ts i) refl (rw (b, c) refl) refl

-- Items and main.

same_name_lem : (x y : Ident) → name x ≡ name y → x ≡ y
same_name_lem x y e = cc

both : (a b : Bool) → a && b ≡ true → (a ≡ true) × (b ≡ true)
both true true h = (refl, refl)
both true false h = never h
both false b h = never h

-- the bytes of a name are those of its token
bytes_of : (s : List ℕ) (t : Token) (x : Ident) → t.kind ≡ Kinds.Name → tok_of (lexeme s t) ≡ name x → x.bytes ≡ take t.length (drop t.place s)
bytes_of s t x e h = go t.value (rw e at h)
  where
    go : (z : ℤ) → tok_of (record { kind = Kinds.Name; name = take t.length (drop t.place s); value = z; place = t.place }) ≡ name x → x.bytes ≡ take t.length (drop t.place s)
    go (pos zero) h = ap (λ (y : Ident). y.bytes) (sym (same_name_lem _ x h))
    go (pos (suc n)) h = let z : ◌≡◌ {A = ℕ} 0 1 = cc in absurd (omega arith)
    go (negsuc n) h = let z : ◌≡◌ {A = ℕ} 0 1 = cc in absurd (omega arith)

-- the kind of a name's token
kind_is : (t : Token) → is_kind (kind_of t) Kinds.Name ≡ true → t.kind ≡ Kinds.Name
kind_is t h = go (is_valued t.kind || is_zero t.value) h
  where
    go : (b : Bool) → is_kind (cond b (Some t.kind) None) Kinds.Name ≡ true → t.kind ≡ Kinds.Name
    go true h = same_code t.kind Kinds.Name h
    go false h = never h

no_name : {X : Type 0} (x : Ident) (t : Tok) → t ≡ name x → as_name t ≡ none → X
no_name x t e n = let z : none ≡ some x = sym n ∙ ap as_name e in let y : ◌≡◌ {A = ℕ} 0 1 = cc in absurd (omega arith)

name_kind : (o : Option Kind) (t : Tok) → Sees o t → (x : Ident) → t ≡ name x → is_kind o Kinds.Name ≡ true
name_kind None t s x e = no_name x t e (ap as_name s)
name_kind (Some Kinds.Name) t s x e = refl
name_kind (Some Kinds.Number) t s x e = no_name x t e (ap as_name s.1)
name_kind (Some Kinds.Character) t s x e = no_name x t e (ap as_name s.1)
name_kind (Some Kinds.Bool) t s x e = no_name x t e (ap as_name s.1)
name_kind (Some Kinds.Char) t s x e = no_name x t e (ap as_name s.1)
name_kind (Some Kinds.Int) t s x e = no_name x t e (ap as_name s.1)
name_kind (Some Kinds.Float) t s x e = no_name x t e (ap as_name s)
name_kind (Some Kinds.Void) t s x e = no_name x t e (ap as_name s.1)
name_kind (Some Kinds.Extern) t s x e = no_name x t e (ap as_name s.1)
name_kind (Some Kinds.Static) t s x e = no_name x t e (ap as_name s.1)
name_kind (Some Kinds.If) t s x e = no_name x t e (ap as_name s.1)
name_kind (Some Kinds.Else) t s x e = no_name x t e (ap as_name s.1)
name_kind (Some Kinds.While) t s x e = no_name x t e (ap as_name s.1)
name_kind (Some Kinds.Do) t s x e = no_name x t e (ap as_name s.1)
name_kind (Some Kinds.For) t s x e = no_name x t e (ap as_name s.1)
name_kind (Some Kinds.To) t s x e = no_name x t e (ap as_name s.1)
name_kind (Some Kinds.Break) t s x e = no_name x t e (ap as_name s.1)
name_kind (Some Kinds.Continue) t s x e = no_name x t e (ap as_name s.1)
name_kind (Some Kinds.Return) t s x e = no_name x t e (ap as_name s.1)
name_kind (Some Kinds.True) t s x e = no_name x t e (ap as_name s.1)
name_kind (Some Kinds.False) t s x e = no_name x t e (ap as_name s.1)
name_kind (Some Kinds.Plus) t s x e = no_name x t e (ap as_name s.1)
name_kind (Some Kinds.Minus) t s x e = no_name x t e (ap as_name s.1)
name_kind (Some Kinds.Star) t s x e = no_name x t e (ap as_name s.1)
name_kind (Some Kinds.Slash) t s x e = no_name x t e (ap as_name s.1)
name_kind (Some Kinds.Percent) t s x e = no_name x t e (ap as_name s.1)
name_kind (Some Kinds.Assign) t s x e = no_name x t e (ap as_name s.1)
name_kind (Some Kinds.Equal) t s x e = no_name x t e (ap as_name s.1)
name_kind (Some Kinds.NotEqual) t s x e = no_name x t e (ap as_name s.1)
name_kind (Some Kinds.Not) t s x e = no_name x t e (ap as_name s.1)
name_kind (Some Kinds.Less) t s x e = no_name x t e (ap as_name s.1)
name_kind (Some Kinds.LessEqual) t s x e = no_name x t e (ap as_name s.1)
name_kind (Some Kinds.Greater) t s x e = no_name x t e (ap as_name s.1)
name_kind (Some Kinds.GreaterEqual) t s x e = no_name x t e (ap as_name s.1)
name_kind (Some Kinds.And) t s x e = no_name x t e (ap as_name s.1)
name_kind (Some Kinds.Or) t s x e = no_name x t e (ap as_name s.1)
name_kind (Some Kinds.PlusAssign) t s x e = no_name x t e (ap as_name s.1)
name_kind (Some Kinds.MinusAssign) t s x e = no_name x t e (ap as_name s.1)
name_kind (Some Kinds.StarAssign) t s x e = no_name x t e (ap as_name s.1)
name_kind (Some Kinds.SlashAssign) t s x e = no_name x t e (ap as_name s.1)
name_kind (Some Kinds.PercentAssign) t s x e = no_name x t e (ap as_name s.1)
name_kind (Some Kinds.AndAssign) t s x e = no_name x t e (ap as_name s.1)
name_kind (Some Kinds.OrAssign) t s x e = no_name x t e (ap as_name s.1)
name_kind (Some Kinds.OpenParen) t s x e = no_name x t e (ap as_name s.1)
name_kind (Some Kinds.CloseParen) t s x e = no_name x t e (ap as_name s.1)
name_kind (Some Kinds.OpenBrace) t s x e = no_name x t e (ap as_name s.1)
name_kind (Some Kinds.CloseBrace) t s x e = no_name x t e (ap as_name s.1)
name_kind (Some Kinds.Comma) t s x e = no_name x t e (ap as_name s.1)
name_kind (Some Kinds.Semicolon) t s x e = no_name x t e (ap as_name s.1)

main_first_lem : (s : List ℕ) (ts : List Token) → main_first s ts ≡ true → (x : Ident) × (next (lexemes s ts) ≡ name x) × (bytes_eq x.bytes main_name ≡ true)
main_first_lem s [] h = never h
main_first_lem s (t ∷ ts) h =
    let b = both _ _ h in
    let n = kind_seen (kind_of t) Kinds.Name (tok_of (lexeme s t)) (sees_token s t) b.0 in
    (n.0, n.1, ap (λ (x : List ℕ). bytes_eq x main_name) (bytes_of s t n.0 (kind_is t b.0) n.1) ∙ b.1)

main_not : (s : List ℕ) (ts : List Token) → main_first s ts ≡ false → (x : Ident) → next (lexemes s ts) ≡ name x → bytes_eq x.bytes main_name ≡ false
main_not s [] h x e = no_name x stray e refl
main_not s (t ∷ ts) h x e =
    let k = name_kind (kind_of t) (tok_of (lexeme s t)) (sees_token s t) x e in
    ap (λ (y : List ℕ). bytes_eq y main_name) (bytes_of s t x (kind_is t k) e) ∙ (rw k at h)

main_at : (s : List ℕ) (ts : List Token) (i : ℕ) → is_main s ts i ≡ true → (x : Ident) × (tok_at s ts i ≡ name x) × (bytes_eq x.bytes main_name ≡ true)
main_at s ts i h = rw (drop-lexemes s ts i) (main_first_lem s (drop i ts) h)

not_main : (s : List ℕ) (ts : List Token) (i : ℕ) → is_main s ts i ≡ false → (x : Ident) → tok_at s ts i ≡ name x → bytes_eq x.bytes main_name ≡ false
not_main s ts i h x e = main_not s (drop i ts) h x (ap next (sym (drop-lexemes s ts i)) ∙ e)

-- a script without `extern` or `static` begins as a definition does
script_declared : (t : Tok) (K : List Sym) → is_word Extern t ≡ false → is_word Static t ≡ false → (i : ℕ) (k : List Sym → Outcome) → decide (step (script ∷ K) t) i k ≡ decide (step (declared none ∷ K) t) i k
script_declared (name x) K a b i k = refl
script_declared (value c) K a b i k = refl
script_declared (type t p) K a b i k = decide-onto (declared none ∷ K) (script ∷ K) (λ vs. vs) (declared_rule none K (some (t, p))) i k
script_declared (operator o p) K a b i k = refl
script_declared (bang p) K a b i k = refl
script_declared (modifier m p) K a b i k = refl
script_declared (word w p) K a b i k = rw (a, b) refl
script_declared stray K a b i k = refl

-- a script that does not begin with an extern, after `static` if that is there
from_static : (s : List ℕ) (ts : List Token) (i : ℕ) (K : List Sym) → is_kind (seen ts i) Kinds.Extern ≡ false → (b : Bool) → is_kind (seen ts i) Kinds.Static ≡ b
    → (q : mathlib.Core.Option.Option ℕ) × (from s ts (script ∷ K) i ≡ from s ts (declared q ∷ K) (cond b (i + 1) i))
from_static s ts i K n true e =
    let p = found s ts i Kinds.Static e in (some p.0, stepping s ts i (script ∷ K) (word Static p.0) (found_inside ts i Kinds.Static e) p.1)
from_static s ts i K n false e = (
  none,
  alike s ts i (script ∷ K) (declared none ∷ K) (tok_at s ts i) refl
      (script_declared (tok_at s ts i) K (word_at Extern s ts i ∙ n) (word_at Static s ts i ∙ e)) refl,
)

pub script_past : (s : List ℕ) (ts : List Token) (i : ℕ) (K : List Sym) → is_kind (seen ts i) Kinds.Extern ≡ false
    → (q : mathlib.Core.Option.Option ℕ) × (from s ts (script ∷ K) i ≡ from s ts (declared q ∷ K) (past_static ts i))
script_past s ts i K n = from_static s ts i K n (is_kind (seen ts i) Kinds.Static) refl

pub script_extern : (s : List ℕ) (ts : List Token) (i : ℕ) (K : List Sym) → is_kind (seen ts i) Kinds.Extern ≡ true → from s ts (script ∷ K) i ≡ from s ts (an_extern (script ∷ K)) (i + 1)
script_extern s ts i K n = let p = found s ts i Kinds.Extern n in stepping s ts i (script ∷ K) (word Extern p.0) (found_inside ts i Kinds.Extern n) p.1

-- main does not begin where an extern does
extern_static : (s : List ℕ) (ts : List Token) (i : ℕ) → is_kind (seen ts i) Kinds.Int ≡ true → is_kind (seen ts i) Kinds.Extern ≡ false
extern_static s ts i h = let p = found s ts i Kinds.Int h in sym (word_at Extern s ts i) ∙ ap (is_word Extern) p.1

static_extern : (s : List ℕ) (ts : List Token) (i : ℕ) → is_kind (seen ts i) Kinds.Static ≡ true → is_kind (seen ts i) Kinds.Extern ≡ false
static_extern s ts i h = let p = found s ts i Kinds.Static h in sym (word_at Extern s ts i) ∙ ap (is_word Extern) p.1

past_extern : (s : List ℕ) (ts : List Token) (i : ℕ) (b : Bool) → is_kind (seen ts i) Kinds.Static ≡ b → is_kind (seen ts (cond b (i + 1) i)) Kinds.Int ≡ true → is_kind (seen ts i) Kinds.Extern ≡ false
past_extern s ts i true e h = static_extern s ts i e
past_extern s ts i false e h = extern_static s ts i h

-- no type: refused
pub declared_stop : (s : List ℕ) (ts : List Token) (i : ℕ) (q : mathlib.Core.Option.Option ℕ) (K : List Sym) → false ≡ is_scalar (seen ts i) → from s ts (declared q ∷ K) i ≡ refused 9 i
declared_stop s ts i q K e = refusing s ts i (declared q ∷ K) (tok_at s ts i) refl (ap (declared_rule q K) (scalars s ts i false e)) refl

-- after `int`, a name that does not open main, as after any type
integer_is : (s : List ℕ) (ts : List Token) (i : ℕ) (q : mathlib.Core.Option.Option ℕ) (p : ℕ) (K : List Sym) → is_main s ts i && is_kind (seen ts (i + 1)) Kinds.OpenParen ≡ false
    → from s ts (integer q p ∷ K) i ≡ from s ts (a_name ∷ global_row K) i
integer_is s ts i q p K h = go (is_kind (seen ts i) Kinds.Name) refl
  where
    unnamed : is_kind (seen ts i) Kinds.Name ≡ false → from s ts (integer q p ∷ K) i ≡ from s ts (a_name ∷ global_row K) i
    unnamed n =
        let a = name-none (seen ts i) (tok_at s ts i) (sees s ts i) n in
        refusing s ts i (integer q p ∷ K) (tok_at s ts i) refl (ap (integer_rule q p K) a) refl ∙ sym (unexpected a_name Kinds.Name refl s ts i (global_row K) n)

    plain : (x : Ident) → tok_at s ts i ≡ name x → is_kind (seen ts i) Kinds.Name ≡ true → bytes_eq x.bytes main_name ≡ false → from s ts (integer q p ∷ K) i ≡ from s ts (a_name ∷ global_row K) i
    plain x e n b =
        stepping s ts i (integer q p ∷ K) (name x) (found_inside ts i Kinds.Name n) e ∙ (rw b refl) ∙ sym (expected a_name Kinds.Name refl s ts i (global_row K) n)

    main : (x : Ident) → tok_at s ts i ≡ name x → is_kind (seen ts i) Kinds.Name ≡ true → bytes_eq x.bytes main_name ≡ true → is_kind (seen ts (i + 1)) Kinds.OpenParen ≡ false
        → from s ts (integer q p ∷ K) i ≡ from s ts (a_name ∷ global_row K) i
    main x e n b o =
        let t = tok_at s ts (i + 1) in let a = at_none OpenParen t (word_at OpenParen s ts (i + 1) ∙ o) in
        stepping s ts i (integer q p ∷ K) (name x) (found_inside ts i Kinds.Name n) e ∙ (rw b refl)
        ∙ alike s ts (i + 1) (mainly q p x.place ∷ K) (global_row K) t refl (λ j k. rw a (decide-onto (global_row K) (mainly q p x.place ∷ K) (λ vs. (prepend (global q (p, vs.0, vs.1.1.0) int (record { bytes = main_name; place = x.place }) vs.1.0) vs.1.1.1.0, vs.1.1.1.1)) (step (global_row K) t) j k)) refl
        ∙ sym (expected a_name Kinds.Name refl s ts i (global_row K) n)

    named : is_kind (seen ts i) Kinds.Name ≡ true → (b : Bool) → is_main s ts i ≡ b → from s ts (integer q p ∷ K) i ≡ from s ts (a_name ∷ global_row K) i
    named n true m = let x = main_at s ts i m in main x.0 x.1 n x.2 (rw m at h)
    named n false m = let x = found s ts i Kinds.Name n in plain x.0 x.1 n (not_main s ts i m x.0 x.1)

    go : (b : Bool) → is_kind (seen ts i) Kinds.Name ≡ b → from s ts (integer q p ∷ K) i ≡ from s ts (a_name ∷ global_row K) i
    go true n = named n (is_main s ts i) refl
    go false n = unnamed n

-- a type, and then as `int` or any other
typed : (s : List ℕ) (ts : List Token) (i : ℕ) (q : mathlib.Core.Option.Option ℕ) (K : List Sym) (c : Scalar) (p : ℕ) → i < length ts → tok_at s ts i ≡ type c p
    → (c ≡ int → is_main s ts (i + 1) && is_kind (seen ts (i + 2)) Kinds.OpenParen ≡ false) → from s ts (declared q ∷ K) i ≡ from s ts (a_name ∷ global_row K) (i + 1)
typed s ts i q K bool p l e h = stepping s ts i (declared q ∷ K) (type bool p) l e
typed s ts i q K char p l e h = stepping s ts i (declared q ∷ K) (type char p) l e
typed s ts i q K int p l e h =
    let z : i + 2 ≡ i + 1 + 1 = omega arith in
    stepping s ts i (declared q ∷ K) (type int p) l e ∙ integer_is s ts (i + 1) q p K (rw z at (h refl))

no_int : {X : Type 0} (p : ℕ) (t : Tok) → t ≡ type int p → as_int t ≡ none → X
no_int p t e n = let z : none ≡ some p = sym n ∙ ap as_int e in let y : ◌≡◌ {A = ℕ} 0 1 = cc in absurd (omega arith)

int_kind : (o : Option Kind) (t : Tok) → Sees o t → (p : ℕ) → t ≡ type int p → is_kind o Kinds.Int ≡ true
int_kind None t s p e = no_int p t e (ap as_int s)
int_kind (Some Kinds.Name) t s p e = no_int p t e (ap as_int s.1)
int_kind (Some Kinds.Number) t s p e = no_int p t e (ap as_int s.1)
int_kind (Some Kinds.Character) t s p e = no_int p t e (ap as_int s.1)
int_kind (Some Kinds.Bool) t s p e = no_int p t e (ap as_int s.1)
int_kind (Some Kinds.Char) t s p e = no_int p t e (ap as_int s.1)
int_kind (Some Kinds.Int) t s p e = refl
int_kind (Some Kinds.Float) t s p e = no_int p t e (ap as_int s)
int_kind (Some Kinds.Void) t s p e = no_int p t e (ap as_int s.1)
int_kind (Some Kinds.Extern) t s p e = no_int p t e (ap as_int s.1)
int_kind (Some Kinds.Static) t s p e = no_int p t e (ap as_int s.1)
int_kind (Some Kinds.If) t s p e = no_int p t e (ap as_int s.1)
int_kind (Some Kinds.Else) t s p e = no_int p t e (ap as_int s.1)
int_kind (Some Kinds.While) t s p e = no_int p t e (ap as_int s.1)
int_kind (Some Kinds.Do) t s p e = no_int p t e (ap as_int s.1)
int_kind (Some Kinds.For) t s p e = no_int p t e (ap as_int s.1)
int_kind (Some Kinds.To) t s p e = no_int p t e (ap as_int s.1)
int_kind (Some Kinds.Break) t s p e = no_int p t e (ap as_int s.1)
int_kind (Some Kinds.Continue) t s p e = no_int p t e (ap as_int s.1)
int_kind (Some Kinds.Return) t s p e = no_int p t e (ap as_int s.1)
int_kind (Some Kinds.True) t s p e = no_int p t e (ap as_int s.1)
int_kind (Some Kinds.False) t s p e = no_int p t e (ap as_int s.1)
int_kind (Some Kinds.Plus) t s p e = no_int p t e (ap as_int s.1)
int_kind (Some Kinds.Minus) t s p e = no_int p t e (ap as_int s.1)
int_kind (Some Kinds.Star) t s p e = no_int p t e (ap as_int s.1)
int_kind (Some Kinds.Slash) t s p e = no_int p t e (ap as_int s.1)
int_kind (Some Kinds.Percent) t s p e = no_int p t e (ap as_int s.1)
int_kind (Some Kinds.Assign) t s p e = no_int p t e (ap as_int s.1)
int_kind (Some Kinds.Equal) t s p e = no_int p t e (ap as_int s.1)
int_kind (Some Kinds.NotEqual) t s p e = no_int p t e (ap as_int s.1)
int_kind (Some Kinds.Not) t s p e = no_int p t e (ap as_int s.1)
int_kind (Some Kinds.Less) t s p e = no_int p t e (ap as_int s.1)
int_kind (Some Kinds.LessEqual) t s p e = no_int p t e (ap as_int s.1)
int_kind (Some Kinds.Greater) t s p e = no_int p t e (ap as_int s.1)
int_kind (Some Kinds.GreaterEqual) t s p e = no_int p t e (ap as_int s.1)
int_kind (Some Kinds.And) t s p e = no_int p t e (ap as_int s.1)
int_kind (Some Kinds.Or) t s p e = no_int p t e (ap as_int s.1)
int_kind (Some Kinds.PlusAssign) t s p e = no_int p t e (ap as_int s.1)
int_kind (Some Kinds.MinusAssign) t s p e = no_int p t e (ap as_int s.1)
int_kind (Some Kinds.StarAssign) t s p e = no_int p t e (ap as_int s.1)
int_kind (Some Kinds.SlashAssign) t s p e = no_int p t e (ap as_int s.1)
int_kind (Some Kinds.PercentAssign) t s p e = no_int p t e (ap as_int s.1)
int_kind (Some Kinds.AndAssign) t s p e = no_int p t e (ap as_int s.1)
int_kind (Some Kinds.OrAssign) t s p e = no_int p t e (ap as_int s.1)
int_kind (Some Kinds.OpenParen) t s p e = no_int p t e (ap as_int s.1)
int_kind (Some Kinds.CloseParen) t s p e = no_int p t e (ap as_int s.1)
int_kind (Some Kinds.OpenBrace) t s p e = no_int p t e (ap as_int s.1)
int_kind (Some Kinds.CloseBrace) t s p e = no_int p t e (ap as_int s.1)
int_kind (Some Kinds.Comma) t s p e = no_int p t e (ap as_int s.1)
int_kind (Some Kinds.Semicolon) t s p e = no_int p t e (ap as_int s.1)

int_seen : (s : List ℕ) (ts : List Token) (i p : ℕ) → tok_at s ts i ≡ type int p → is_kind (seen ts i) Kinds.Int ≡ true
int_seen s ts i p e = int_kind (seen ts i) (tok_at s ts i) (sees s ts i) p e

-- what does not open main is no more than a name
not_opened : (a b c : Bool) (n : ℕ) → cond (a && (b && c)) (Some n) None ≡ None → a ≡ true → b && c ≡ false
not_opened true true true n h e = let z : ◌≡◌ {A = ℕ} 0 1 = cc in absurd (omega arith)
not_opened true true false n h e = refl
not_opened true false c n h e = refl
not_opened false b c n h e = never e

pub declared_go : (s : List ℕ) (ts : List Token) (i : ℕ) (q : mathlib.Core.Option.Option ℕ) (K : List Sym) → past_main s ts i ≡ None → past_static ts i < length ts → true ≡ is_scalar (seen ts (past_static ts i))
    → from s ts (declared q ∷ K) (past_static ts i) ≡ from s ts (a_name ∷ global_row K) (past_static ts i + 1)
declared_go s ts i q K h l e =
    let c = scalars s ts (past_static ts i) true e in
    typed s ts (past_static ts i) q K c.0 c.1 l c.2
    (λ z. not_opened _ (is_main s ts (past_static ts i + 1)) (is_kind (seen ts (past_static ts i + 2)) Kinds.OpenParen) (past_static ts i + 3) h (int_seen s ts (past_static ts i) c.1 (c.2 ∙ ap (λ (x : Scalar). type x c.1) z)))

-- main
main_opened : (a b c : Bool) (m n : ℕ) → cond (a && (b && c)) (Some n) None ≡ Some m → (a ≡ true) × (b ≡ true) × (c ≡ true) × (n ≡ m)
main_opened true true true m n h = (refl, refl, refl, cc)
main_opened true true false m n h = let z : ◌≡◌ {A = ℕ} 0 1 = cc in absurd (omega arith)
main_opened true false c m n h = let z : ◌≡◌ {A = ℕ} 0 1 = cc in absurd (omega arith)
main_opened false b c m n h = let z : ◌≡◌ {A = ℕ} 0 1 = cc in absurd (omega arith)

-- main's beginning is passed onward
static_near : (t : Bool) (i : ℕ) → i ≤ cond t (i + 1) i
static_near true i = omega arith
static_near false i = omega arith

pub main_near : (s : List ℕ) (ts : List Token) (i m : ℕ) → past_main s ts i ≡ Some m → i ≤ m
main_near s ts i m h =
    let o = main_opened (is_kind (seen ts (past_static ts i)) Kinds.Int) (is_main s ts (past_static ts i + 1)) (is_kind (seen ts (past_static ts i + 2)) Kinds.OpenParen) m (past_static ts i + 3) h in
    let n = static_near (is_kind (seen ts i) Kinds.Static) i in
    omega (arith, o.3, n)

pub script_main : (s : List ℕ) (ts : List Token) (i m : ℕ) (K : List Sym) → past_main s ts i ≡ Some m → from s ts (script ∷ K) i ≡ from s ts (main_rest K) m
script_main s ts i m K h =
    let o = main_opened (is_kind (seen ts (past_static ts i)) Kinds.Int) (is_main s ts (past_static ts i + 1)) (is_kind (seen ts (past_static ts i + 2)) Kinds.OpenParen) m (past_static ts i + 3) h in
    let p = past_static ts i in
    let a = found s ts p Kinds.Int o.0 in
    let x = main_at s ts (p + 1) o.1 in
    let b = found s ts (p + 2) Kinds.OpenParen o.2 in
    let n = past_extern s ts i (is_kind (seen ts i) Kinds.Static) refl o.0 in
    let f = script_past s ts i K n in
    let y : p + 2 ≡ p + 1 + 1 = omega arith in
    let l = found_inside ts (p + 2) Kinds.OpenParen o.2 in
    let z : m ≡ p + 2 + 1 = omega (arith, o.3) in
    rw z (f.1
    ∙ stepping s ts p (declared f.0 ∷ K) (type int a.0) (omega arith) a.1
    ∙ stepping s ts (p + 1) (integer f.0 a.0 ∷ K) (name x.0) (omega arith) x.1 ∙ (rw (x.2, ← y) refl)
    ∙ stepping s ts (p + 2) (mainly f.0 a.0 x.0.place ∷ K) (word OpenParen b.0) l b.1)

-- the end
pub all_read : (s : List ℕ) (ts : List Token) (i : ℕ) → length ts ≤ i → from s ts [] i ≡ accepted
unfolding judge
all_read s ts i h = let n : length (lexemes s ts) ≤ i = rw (length-lexemes s ts) h in rw (drop_of_length-le (lexemes s ts) n) refl

pub text_left : (s : List ℕ) (ts : List Token) (i : ℕ) → i < length ts → from s ts [] i ≡ refused 9 i
text_left s ts i h = stepping s ts i [] (tok_at s ts i) h refl

-- an item: a type and a name, or no type
pub item_go : (s : List ℕ) (ts : List Token) (i p : ℕ) (K : List Sym) → p ≡ past_static ts i → is_kind (seen ts i) Kinds.Extern ≡ false → past_main s ts i ≡ None → p < length ts → true ≡ is_scalar (seen ts p)
    → from s ts (script ∷ K) i ≡ from s ts (a_name ∷ an_initializer (script ∷ K)) (p + 1)
item_go s ts i p K e n m l c =
    let f = script_past s ts i K n in
    rw e (f.1 ∙ declared_go s ts i f.0 K m (rw (← e) l) (rw (← e) c))

pub item_stop : (s : List ℕ) (ts : List Token) (i p : ℕ) (K : List Sym) → p ≡ past_static ts i → is_kind (seen ts i) Kinds.Extern ≡ false → false ≡ is_scalar (seen ts p) → from s ts (script ∷ K) i ≡ refused 9 p
item_stop s ts i p K e n c =
    let f = script_past s ts i K n in
    f.1 ∙ ap (from s ts (declared f.0 ∷ K)) (sym e) ∙ declared_stop s ts p f.0 K c
