-- The token at a place: what code sees of it, and what the machine does.
use Rattle.std.proofs.Common.{◌≡◌, ℕ, zero, suc, ◌+◌, ◌<◌, true, false, cond, ◌||◌, List, [], ◌∷◌, length, drop, ℤ, pos, negsuc, Some, None, Option, refl, ap, ◌∙◌, add-one, drop-cons}
use mathlib.Core.Option.{some}
use Rattle.lexer.specs.Lexeme.{Lexeme}
use Rattle.lexer.specs.Reading.{name_bytes, lexeme, lexemes}
use Rattle.lexer.specs.Spelling.{kind_number}
use Rattle.lexer.specs.declared.kind.Kind.{Kind}
use Rattle.lexer.specs.declared.kind.Kind.TheVariants as Kinds
use Rattle.lexer.specs.declared.kind.Token.{Token}
use Rattle.meaning.specs.declared.operator.Scalar.TheVariants.{Bool as bool, Char as char, Int as int}
use Rattle.meaning.specs.declared.operator.Operator.TheVariants.{Add, Subtract, Multiply, Divide, Remainder, Less, LessEqual, Greater, GreaterEqual, Equal, NotEqual, And, Or}
use Rattle.meaning.specs.Trees.{Ident, Constant, number, character, truth, plus, minus, times, over, modulo, both, either}
use Rattle.meaning.proofs.Tokens.{Void, Extern, Static, If, Else, While, Do, For, To, Break, Continue, Return, Assign, OpenParen, CloseParen, OpenBrace, CloseBrace, Comma, Semicolon, Tok, name, value, type, operator, bang, modifier, word, stray, bare, sorted, tok_of, next}
use Rattle.meaning.proofs.Stack.{Sym, Value, Values, Step, stop, on, onto, empty, absorbs, step, closed}
use Rattle.meaning.proofs.Judge.{Outcome, refused, decide, judge}
use Rattle.lookahead.specs.Seen.{is_valued, is_zero, kind_of, first_kind, seen}

-- The token of the machine that a kind stands for.

abbrev pub Kinded : Kind → Tok → Type 0
Kinded Kinds.Name t = (x : Ident) × (t ≡ name x)
Kinded Kinds.Number t = (c : Constant) × (t ≡ value c)
Kinded Kinds.Character t = (c : Constant) × (t ≡ value c)
Kinded Kinds.Bool t = (p : ℕ) × (t ≡ type bool p)
Kinded Kinds.Char t = (p : ℕ) × (t ≡ type char p)
Kinded Kinds.Int t = (p : ℕ) × (t ≡ type int p)
Kinded Kinds.Float t = t ≡ stray
Kinded Kinds.Void t = (p : ℕ) × (t ≡ word Void p)
Kinded Kinds.Extern t = (p : ℕ) × (t ≡ word Extern p)
Kinded Kinds.Static t = (p : ℕ) × (t ≡ word Static p)
Kinded Kinds.If t = (p : ℕ) × (t ≡ word If p)
Kinded Kinds.Else t = (p : ℕ) × (t ≡ word Else p)
Kinded Kinds.While t = (p : ℕ) × (t ≡ word While p)
Kinded Kinds.Do t = (p : ℕ) × (t ≡ word Do p)
Kinded Kinds.For t = (p : ℕ) × (t ≡ word For p)
Kinded Kinds.To t = (p : ℕ) × (t ≡ word To p)
Kinded Kinds.Break t = (p : ℕ) × (t ≡ word Break p)
Kinded Kinds.Continue t = (p : ℕ) × (t ≡ word Continue p)
Kinded Kinds.Return t = (p : ℕ) × (t ≡ word Return p)
Kinded Kinds.True t = (c : Constant) × (t ≡ value c)
Kinded Kinds.False t = (c : Constant) × (t ≡ value c)
Kinded Kinds.Plus t = (p : ℕ) × (t ≡ operator Add p)
Kinded Kinds.Minus t = (p : ℕ) × (t ≡ operator Subtract p)
Kinded Kinds.Star t = (p : ℕ) × (t ≡ operator Multiply p)
Kinded Kinds.Slash t = (p : ℕ) × (t ≡ operator Divide p)
Kinded Kinds.Percent t = (p : ℕ) × (t ≡ operator Remainder p)
Kinded Kinds.Assign t = (p : ℕ) × (t ≡ word Assign p)
Kinded Kinds.Equal t = (p : ℕ) × (t ≡ operator Equal p)
Kinded Kinds.NotEqual t = (p : ℕ) × (t ≡ operator NotEqual p)
Kinded Kinds.Not t = (p : ℕ) × (t ≡ bang p)
Kinded Kinds.Less t = (p : ℕ) × (t ≡ operator Less p)
Kinded Kinds.LessEqual t = (p : ℕ) × (t ≡ operator LessEqual p)
Kinded Kinds.Greater t = (p : ℕ) × (t ≡ operator Greater p)
Kinded Kinds.GreaterEqual t = (p : ℕ) × (t ≡ operator GreaterEqual p)
Kinded Kinds.And t = (p : ℕ) × (t ≡ operator And p)
Kinded Kinds.Or t = (p : ℕ) × (t ≡ operator Or p)
Kinded Kinds.PlusAssign t = (p : ℕ) × (t ≡ modifier plus p)
Kinded Kinds.MinusAssign t = (p : ℕ) × (t ≡ modifier minus p)
Kinded Kinds.StarAssign t = (p : ℕ) × (t ≡ modifier times p)
Kinded Kinds.SlashAssign t = (p : ℕ) × (t ≡ modifier over p)
Kinded Kinds.PercentAssign t = (p : ℕ) × (t ≡ modifier modulo p)
Kinded Kinds.AndAssign t = (p : ℕ) × (t ≡ modifier both p)
Kinded Kinds.OrAssign t = (p : ℕ) × (t ≡ modifier either p)
Kinded Kinds.OpenParen t = (p : ℕ) × (t ≡ word OpenParen p)
Kinded Kinds.CloseParen t = (p : ℕ) × (t ≡ word CloseParen p)
Kinded Kinds.OpenBrace t = (p : ℕ) × (t ≡ word OpenBrace p)
Kinded Kinds.CloseBrace t = (p : ℕ) × (t ≡ word CloseBrace p)
Kinded Kinds.Comma t = (p : ℕ) × (t ≡ word Comma p)
Kinded Kinds.Semicolon t = (p : ℕ) × (t ≡ word Semicolon p)

abbrev pub Sees : Option Kind → Tok → Type 0
Sees None t = t ≡ stray
Sees (Some k) t = Kinded k t

bare-seen : (k : Kind) (v : ℤ) (t : Tok) → Kinded k t → Sees (cond (is_zero v) (Some k) None) (bare [] v t)
bare-seen k (pos zero) t h = h
bare-seen k (pos (suc n)) t h = refl
bare-seen k (negsuc n) t h = refl

name-seen : (n : List ℕ) (v : ℤ) (p : ℕ) → Sees (cond (is_zero v) (Some Kinds.Name) None) (sorted Kinds.Name n v p)
name-seen n (pos zero) p = (record { bytes = n; place = p }, refl)
name-seen n (pos (suc m)) p = refl
name-seen n (negsuc m) p = refl

float_seen : (v : ℤ) → Sees (cond (is_zero v) (Some Kinds.Float) None) stray
float_seen (pos zero) = refl
float_seen (pos (suc m)) = refl
float_seen (negsuc m) = refl

sees_by : (k : Kind) (s : List ℕ) (x : Token) → Sees (cond (is_valued k || is_zero x.value) (Some k) None) (sorted k (name_bytes (kind_number k) s x) x.value x.place)
sees_by Kinds.Name s x = name-seen (name_bytes 0 s x) x.value x.place
sees_by Kinds.Number s x = (number x.value x.place, refl)
sees_by Kinds.Character s x = (character x.value x.place, refl)
sees_by Kinds.Bool s x = bare-seen Kinds.Bool x.value (type bool x.place) (x.place, refl)
sees_by Kinds.Char s x = bare-seen Kinds.Char x.value (type char x.place) (x.place, refl)
sees_by Kinds.Int s x = bare-seen Kinds.Int x.value (type int x.place) (x.place, refl)
sees_by Kinds.Float s x = float_seen x.value
sees_by Kinds.Void s x = bare-seen Kinds.Void x.value (word Void x.place) (x.place, refl)
sees_by Kinds.Extern s x = bare-seen Kinds.Extern x.value (word Extern x.place) (x.place, refl)
sees_by Kinds.Static s x = bare-seen Kinds.Static x.value (word Static x.place) (x.place, refl)
sees_by Kinds.If s x = bare-seen Kinds.If x.value (word If x.place) (x.place, refl)
sees_by Kinds.Else s x = bare-seen Kinds.Else x.value (word Else x.place) (x.place, refl)
sees_by Kinds.While s x = bare-seen Kinds.While x.value (word While x.place) (x.place, refl)
sees_by Kinds.Do s x = bare-seen Kinds.Do x.value (word Do x.place) (x.place, refl)
sees_by Kinds.For s x = bare-seen Kinds.For x.value (word For x.place) (x.place, refl)
sees_by Kinds.To s x = bare-seen Kinds.To x.value (word To x.place) (x.place, refl)
sees_by Kinds.Break s x = bare-seen Kinds.Break x.value (word Break x.place) (x.place, refl)
sees_by Kinds.Continue s x = bare-seen Kinds.Continue x.value (word Continue x.place) (x.place, refl)
sees_by Kinds.Return s x = bare-seen Kinds.Return x.value (word Return x.place) (x.place, refl)
sees_by Kinds.True s x = bare-seen Kinds.True x.value (value (truth true x.place)) (truth true x.place, refl)
sees_by Kinds.False s x = bare-seen Kinds.False x.value (value (truth false x.place)) (truth false x.place, refl)
sees_by Kinds.Plus s x = bare-seen Kinds.Plus x.value (operator Add x.place) (x.place, refl)
sees_by Kinds.Minus s x = bare-seen Kinds.Minus x.value (operator Subtract x.place) (x.place, refl)
sees_by Kinds.Star s x = bare-seen Kinds.Star x.value (operator Multiply x.place) (x.place, refl)
sees_by Kinds.Slash s x = bare-seen Kinds.Slash x.value (operator Divide x.place) (x.place, refl)
sees_by Kinds.Percent s x = bare-seen Kinds.Percent x.value (operator Remainder x.place) (x.place, refl)
sees_by Kinds.Assign s x = bare-seen Kinds.Assign x.value (word Assign x.place) (x.place, refl)
sees_by Kinds.Equal s x = bare-seen Kinds.Equal x.value (operator Equal x.place) (x.place, refl)
sees_by Kinds.NotEqual s x = bare-seen Kinds.NotEqual x.value (operator NotEqual x.place) (x.place, refl)
sees_by Kinds.Not s x = bare-seen Kinds.Not x.value (bang x.place) (x.place, refl)
sees_by Kinds.Less s x = bare-seen Kinds.Less x.value (operator Less x.place) (x.place, refl)
sees_by Kinds.LessEqual s x = bare-seen Kinds.LessEqual x.value (operator LessEqual x.place) (x.place, refl)
sees_by Kinds.Greater s x = bare-seen Kinds.Greater x.value (operator Greater x.place) (x.place, refl)
sees_by Kinds.GreaterEqual s x = bare-seen Kinds.GreaterEqual x.value (operator GreaterEqual x.place) (x.place, refl)
sees_by Kinds.And s x = bare-seen Kinds.And x.value (operator And x.place) (x.place, refl)
sees_by Kinds.Or s x = bare-seen Kinds.Or x.value (operator Or x.place) (x.place, refl)
sees_by Kinds.PlusAssign s x = bare-seen Kinds.PlusAssign x.value (modifier plus x.place) (x.place, refl)
sees_by Kinds.MinusAssign s x = bare-seen Kinds.MinusAssign x.value (modifier minus x.place) (x.place, refl)
sees_by Kinds.StarAssign s x = bare-seen Kinds.StarAssign x.value (modifier times x.place) (x.place, refl)
sees_by Kinds.SlashAssign s x = bare-seen Kinds.SlashAssign x.value (modifier over x.place) (x.place, refl)
sees_by Kinds.PercentAssign s x = bare-seen Kinds.PercentAssign x.value (modifier modulo x.place) (x.place, refl)
sees_by Kinds.AndAssign s x = bare-seen Kinds.AndAssign x.value (modifier both x.place) (x.place, refl)
sees_by Kinds.OrAssign s x = bare-seen Kinds.OrAssign x.value (modifier either x.place) (x.place, refl)
sees_by Kinds.OpenParen s x = bare-seen Kinds.OpenParen x.value (word OpenParen x.place) (x.place, refl)
sees_by Kinds.CloseParen s x = bare-seen Kinds.CloseParen x.value (word CloseParen x.place) (x.place, refl)
sees_by Kinds.OpenBrace s x = bare-seen Kinds.OpenBrace x.value (word OpenBrace x.place) (x.place, refl)
sees_by Kinds.CloseBrace s x = bare-seen Kinds.CloseBrace x.value (word CloseBrace x.place) (x.place, refl)
sees_by Kinds.Comma s x = bare-seen Kinds.Comma x.value (word Comma x.place) (x.place, refl)
sees_by Kinds.Semicolon s x = bare-seen Kinds.Semicolon x.value (word Semicolon x.place) (x.place, refl)

pub drop-lexemes : (s : List ℕ) (ts : List Token) (at : ℕ) → drop at (lexemes s ts) ≡ lexemes s (drop at ts)
drop-lexemes s [] zero = refl
drop-lexemes s [] (suc at) = refl
drop-lexemes s (t ∷ ts) zero = refl
drop-lexemes s (t ∷ ts) (suc at) = drop-lexemes s ts at

pub length-lexemes : (s : List ℕ) (ts : List Token) → length (lexemes s ts) ≡ length ts
length-lexemes s [] = refl
length-lexemes s (t ∷ ts) = ap suc (length-lexemes s ts)

-- of one token
pub sees_token : (s : List ℕ) (t : Token) → Sees (kind_of t) (tok_of (lexeme s t))
sees_token s t = sees_by t.kind s t

sees_first : (s : List ℕ) (ts : List Token) → Sees (first_kind ts) (next (lexemes s ts))
sees_first s [] = refl
sees_first s (t ∷ ts) = sees_by t.kind s t

-- the machine's token at a place
abbrev pub tok_at : List ℕ → List Token → ℕ → Tok
tok_at s ts at = next (drop at (lexemes s ts))

pub sees : (s : List ℕ) (ts : List Token) (at : ℕ) → Sees (seen ts at) (tok_at s ts at)
sees s ts at = rw (drop-lexemes s ts at) (sees_first s (drop at ts))

-- What the machine does at a token.

pub decide-onto : (K L : List Sym) (g : Values K → Values L) (x : Step K) (i : ℕ) (k : List Sym → Outcome) → decide (onto g x) i k ≡ decide x i k
decide-onto K L g stop i k = refl
decide-onto K L g (on d M f) i k = refl

-- it takes a step ..
pub stepping : (s : List ℕ) (ts : List Token) (at : ℕ) (K : List Sym) (t : Tok) → at < length ts → tok_at s ts at ≡ t
    → judge K at (drop at (lexemes s ts)) ≡ decide (step K t) at (λ L. judge L (at + 1) (drop (at + 1) (lexemes s ts)))
unfolding judge
stepping s ts at K t h e =
    let d : Lexeme = lexeme s (record { kind = Kinds.Name; place = 0; length = 0; value = pos 0 }) in
    let n : at < length (lexemes s ts) = rw (length-lexemes s ts) h in
    let c = drop-cons (lexemes s ts) at d n in
    rw (← e, c, add-one) refl

-- .. or refuses the token, or the end ..
pub refusing : (s : List ℕ) (ts : List Token) (at : ℕ) (K : List Sym) (t : Tok) → tok_at s ts at ≡ t → step K t ≡ stop → closed K ≡ false
    → judge K at (drop at (lexemes s ts)) ≡ refused 9 at
unfolding judge
refusing s ts at K t e h c = go (drop at (lexemes s ts)) e
  where
    go : (ls : List Lexeme) → next ls ≡ t → judge K at ls ≡ refused 9 at
    go [] e = rw c refl
    go (l ∷ ls) e = rw (e, h) refl

-- .. or leaves out a symbol that does not take the token.
pub skipping : (A : Sym) (v : Value A) → empty A ≡ some v → (s : List ℕ) (ts : List Token) (at : ℕ) (K : List Sym) (t : Tok) → tok_at s ts at ≡ t → absorbs A t ≡ false
    → judge (A ∷ K) at (drop at (lexemes s ts)) ≡ judge K at (drop at (lexemes s ts))
unfolding judge
skipping A v m s ts at K t e h = go (drop at (lexemes s ts)) e
  where
    go : (ls : List Lexeme) → next ls ≡ t → judge (A ∷ K) at ls ≡ judge K at ls
    go [] e = let z : absorbs A stray ≡ false = ap (absorbs A) e ∙ h in rw (m, z) refl
    go (l ∷ ls) e = rw (m, e, h) (decide-onto K (A ∷ K) (λ vs. (v, vs)) (step K t) at (λ L. judge L (suc at) ls))

-- two stacks that do the same with the token
pub alike : (s : List ℕ) (ts : List Token) (at : ℕ) (K L : List Sym) (t : Tok) → tok_at s ts at ≡ t → ((i : ℕ) (k : List Sym → Outcome) → decide (step K t) i k ≡ decide (step L t) i k) → closed K ≡ closed L
    → judge K at (drop at (lexemes s ts)) ≡ judge L at (drop at (lexemes s ts))
unfolding judge
alike s ts at K L t e h c = go (drop at (lexemes s ts)) e
  where
    go : (ls : List Lexeme) → next ls ≡ t → judge K at ls ≡ judge L at ls
    go [] e = rw c refl
    go (l ∷ ls) e = rw e (h at (λ M. judge M (suc at) ls))
