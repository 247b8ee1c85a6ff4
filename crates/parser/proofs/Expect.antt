-- A token that is wanted: there, or not.
use Rattle.std.proofs.Common.{◌≡◌, ℕ, zero, suc, ◌+◌, ◌<◌, Bool, true, false, eqb, List, [], ◌∷◌, length, get_or, drop, Some, None, Option, sym, refl, ap, ◌∙◌, subst, arith}
use mathlib.Core.Option.{some, none}
use Rattle.std.proofs.lemmas.Bool.Decides.{nat_tests}
use Rattle.lexer.specs.Reading.{lexemes}
use Rattle.lexer.specs.declared.kind.Kind.{Kind}
use Rattle.lexer.specs.declared.kind.Kind.TheVariants as Kinds
use Rattle.lexer.specs.declared.kind.Token.{Token}
use Rattle.meaning.specs.declared.operator.Scalar.TheVariants.{Int as int}
use Rattle.meaning.proofs.Tokens.{Word, Void, Extern, Static, If, Else, While, Do, For, To, Break, Continue, Return, Assign, OpenParen, CloseParen, OpenBrace, CloseBrace, Comma, Semicolon, Tok, name, value, type, operator, bang, modifier, word, stray, word_kind}
use Rattle.meaning.proofs.Stack.{same_word, at, is_word, as_name, as_int, Sym, token, a_name, a_constant, a_result, an_int, parameter, operand, called, tail, expr, exprs, further, arguments, statement, named, returned, statements, orelse, script, declared, integer, mainly, terminal}
use Rattle.meaning.proofs.Builds.{never, same_word_lem}
use Rattle.meaning.proofs.Judge.{refused, judge}
use Rattle.lookahead.specs.Seen.{code, is_kind, seen}
use Rattle.parser.specs.Steps.{Wants}
use Rattle.parser.proofs.Look.{Kinded, Sees, tok_at, sees, stepping, refusing}

kind_no : ℕ → Kind
kind_no n = get_or (Kinds.Name ∷ Kinds.Number ∷ Kinds.Character ∷ Kinds.Bool ∷ Kinds.Char ∷ Kinds.Int ∷ Kinds.Float ∷ Kinds.Void ∷ Kinds.Extern ∷ Kinds.Static ∷ Kinds.If ∷ Kinds.Else ∷ Kinds.While ∷ Kinds.Do ∷ Kinds.For ∷ Kinds.To ∷ Kinds.Break ∷ Kinds.Continue ∷ Kinds.Return ∷ Kinds.True ∷ Kinds.False ∷ Kinds.Plus ∷ Kinds.Minus ∷ Kinds.Star ∷ Kinds.Slash ∷ Kinds.Percent ∷ Kinds.Assign ∷ Kinds.Equal ∷ Kinds.NotEqual ∷ Kinds.Not ∷ Kinds.Less ∷ Kinds.LessEqual ∷ Kinds.Greater ∷ Kinds.GreaterEqual ∷ Kinds.And ∷ Kinds.Or ∷ Kinds.PlusAssign ∷ Kinds.MinusAssign ∷ Kinds.StarAssign ∷ Kinds.SlashAssign ∷ Kinds.PercentAssign ∷ Kinds.AndAssign ∷ Kinds.OrAssign ∷ Kinds.OpenParen ∷ Kinds.CloseParen ∷ Kinds.OpenBrace ∷ Kinds.CloseBrace ∷ Kinds.Comma ∷ Kinds.Semicolon ∷ []) n Kinds.Name

decoded : (k : Kind) → kind_no (code k) ≡ k
unfolding kind_no
decoded Kinds.Name = refl
decoded Kinds.Number = refl
decoded Kinds.Character = refl
decoded Kinds.Bool = refl
decoded Kinds.Char = refl
decoded Kinds.Int = refl
decoded Kinds.Float = refl
decoded Kinds.Void = refl
decoded Kinds.Extern = refl
decoded Kinds.Static = refl
decoded Kinds.If = refl
decoded Kinds.Else = refl
decoded Kinds.While = refl
decoded Kinds.Do = refl
decoded Kinds.For = refl
decoded Kinds.To = refl
decoded Kinds.Break = refl
decoded Kinds.Continue = refl
decoded Kinds.Return = refl
decoded Kinds.True = refl
decoded Kinds.False = refl
decoded Kinds.Plus = refl
decoded Kinds.Minus = refl
decoded Kinds.Star = refl
decoded Kinds.Slash = refl
decoded Kinds.Percent = refl
decoded Kinds.Assign = refl
decoded Kinds.Equal = refl
decoded Kinds.NotEqual = refl
decoded Kinds.Not = refl
decoded Kinds.Less = refl
decoded Kinds.LessEqual = refl
decoded Kinds.Greater = refl
decoded Kinds.GreaterEqual = refl
decoded Kinds.And = refl
decoded Kinds.Or = refl
decoded Kinds.PlusAssign = refl
decoded Kinds.MinusAssign = refl
decoded Kinds.StarAssign = refl
decoded Kinds.SlashAssign = refl
decoded Kinds.PercentAssign = refl
decoded Kinds.AndAssign = refl
decoded Kinds.OrAssign = refl
decoded Kinds.OpenParen = refl
decoded Kinds.CloseParen = refl
decoded Kinds.OpenBrace = refl
decoded Kinds.CloseBrace = refl
decoded Kinds.Comma = refl
decoded Kinds.Semicolon = refl

pub same_code : (j k : Kind) → eqb (code j) (code k) ≡ true → j ≡ k
same_code j k h = let c : code j ≡ code k = grind (arith, nat_tests) in sym (decoded j) ∙ ap kind_no c ∙ decoded k

pub kind_seen : (o : Option Kind) (k : Kind) (t : Tok) → Sees o t → is_kind o k ≡ true → Kinded k t
kind_seen None k t s h = never h
kind_seen (Some j) k t s h = subst (λ (x : Kind). Kinded x t) (same_code j k h) s

-- The token of a kind that was found.
pub found : (s : List ℕ) (ts : List Token) (i : ℕ) (k : Kind) → is_kind (seen ts i) k ≡ true → Kinded k (tok_at s ts i)
found s ts i k h = kind_seen (seen ts i) k (tok_at s ts i) (sees s ts i) h

pub found_inside : (ts : List Token) (i : ℕ) (k : Kind) → is_kind (seen ts i) k ≡ true → i < length ts
found_inside [] zero k h = never h
found_inside [] (suc i) k h = never h
found_inside (t ∷ ts) zero k h = omega arith
found_inside (t ∷ ts) (suc i) k h = let n = found_inside ts i k h in omega arith

pub word_of : (w : Word) (t : Tok) → Kinded (word_kind w) t → (p : ℕ) × (t ≡ word w p)
word_of Void t h = h
word_of Extern t h = h
word_of Static t h = h
word_of If t h = h
word_of Else t h = h
word_of While t h = h
word_of Do t h = h
word_of For t h = h
word_of To t h = h
word_of Break t h = h
word_of Continue t h = h
word_of Return t h = h
word_of Assign t h = h
word_of OpenParen t h = h
word_of CloseParen t h = h
word_of OpenBrace t h = h
word_of CloseBrace t h = h
word_of Comma t h = h
word_of Semicolon t h = h

-- Whether a token is that word is whether its kind is.
pub self_word : (w : Word) → same_word w w ≡ true
self_word w = grind (arith, nat_tests)

is_word_lem : (w : Word) (t : Tok) → is_word w t ≡ true → (p : ℕ) × (t ≡ word w p)
is_word_lem w (name x) h = never h
is_word_lem w (value c) h = never h
is_word_lem w (type t p) h = never h
is_word_lem w (operator o p) h = never h
is_word_lem w (bang p) h = never h
is_word_lem w (modifier m p) h = never h
is_word_lem w (word v p) h = (p, ap (λ (x : Word). word x p) (sym (same_word_lem w v h)))
is_word_lem w stray h = never h

both_ways : (a b : Bool) → (a ≡ true → b ≡ true) → (b ≡ true → a ≡ true) → a ≡ b
both_ways true true f g = refl
both_ways true false f g = sym (f refl)
both_ways false true f g = g refl
both_ways false false f g = refl

clash : {X : Type 0} (w : Word) (p : ℕ) (t : Tok) → t ≡ word w p → is_word w t ≡ false → X
clash w p t e h = never (sym h ∙ ap (is_word w) e ∙ self_word w)

word_here : (w : Word) (p : ℕ) (o : Option Kind) (t : Tok) → Sees o t → t ≡ word w p → is_kind o (word_kind w) ≡ true
word_here w p None t s e = clash w p t e (ap (is_word w) s)
word_here w p (Some Kinds.Name) t s e = clash w p t e (ap (is_word w) s.1)
word_here w p (Some Kinds.Number) t s e = clash w p t e (ap (is_word w) s.1)
word_here w p (Some Kinds.Character) t s e = clash w p t e (ap (is_word w) s.1)
word_here w p (Some Kinds.Bool) t s e = clash w p t e (ap (is_word w) s.1)
word_here w p (Some Kinds.Char) t s e = clash w p t e (ap (is_word w) s.1)
word_here w p (Some Kinds.Int) t s e = clash w p t e (ap (is_word w) s.1)
word_here w p (Some Kinds.Float) t s e = clash w p t e (ap (is_word w) s)
word_here w p (Some Kinds.Void) t s e = let z : word Void s.0 ≡ word w p = sym s.1 ∙ e in let y : Void ≡ w = cc in subst (λ (x : Word). eqb (code (word_kind Void)) (code (word_kind x)) ≡ true) y refl
word_here w p (Some Kinds.Extern) t s e = let z : word Extern s.0 ≡ word w p = sym s.1 ∙ e in let y : Extern ≡ w = cc in subst (λ (x : Word). eqb (code (word_kind Extern)) (code (word_kind x)) ≡ true) y refl
word_here w p (Some Kinds.Static) t s e = let z : word Static s.0 ≡ word w p = sym s.1 ∙ e in let y : Static ≡ w = cc in subst (λ (x : Word). eqb (code (word_kind Static)) (code (word_kind x)) ≡ true) y refl
word_here w p (Some Kinds.If) t s e = let z : word If s.0 ≡ word w p = sym s.1 ∙ e in let y : If ≡ w = cc in subst (λ (x : Word). eqb (code (word_kind If)) (code (word_kind x)) ≡ true) y refl
word_here w p (Some Kinds.Else) t s e = let z : word Else s.0 ≡ word w p = sym s.1 ∙ e in let y : Else ≡ w = cc in subst (λ (x : Word). eqb (code (word_kind Else)) (code (word_kind x)) ≡ true) y refl
word_here w p (Some Kinds.While) t s e = let z : word While s.0 ≡ word w p = sym s.1 ∙ e in let y : While ≡ w = cc in subst (λ (x : Word). eqb (code (word_kind While)) (code (word_kind x)) ≡ true) y refl
word_here w p (Some Kinds.Do) t s e = let z : word Do s.0 ≡ word w p = sym s.1 ∙ e in let y : Do ≡ w = cc in subst (λ (x : Word). eqb (code (word_kind Do)) (code (word_kind x)) ≡ true) y refl
word_here w p (Some Kinds.For) t s e = let z : word For s.0 ≡ word w p = sym s.1 ∙ e in let y : For ≡ w = cc in subst (λ (x : Word). eqb (code (word_kind For)) (code (word_kind x)) ≡ true) y refl
word_here w p (Some Kinds.To) t s e = let z : word To s.0 ≡ word w p = sym s.1 ∙ e in let y : To ≡ w = cc in subst (λ (x : Word). eqb (code (word_kind To)) (code (word_kind x)) ≡ true) y refl
word_here w p (Some Kinds.Break) t s e = let z : word Break s.0 ≡ word w p = sym s.1 ∙ e in let y : Break ≡ w = cc in subst (λ (x : Word). eqb (code (word_kind Break)) (code (word_kind x)) ≡ true) y refl
word_here w p (Some Kinds.Continue) t s e = let z : word Continue s.0 ≡ word w p = sym s.1 ∙ e in let y : Continue ≡ w = cc in subst (λ (x : Word). eqb (code (word_kind Continue)) (code (word_kind x)) ≡ true) y refl
word_here w p (Some Kinds.Return) t s e = let z : word Return s.0 ≡ word w p = sym s.1 ∙ e in let y : Return ≡ w = cc in subst (λ (x : Word). eqb (code (word_kind Return)) (code (word_kind x)) ≡ true) y refl
word_here w p (Some Kinds.True) t s e = clash w p t e (ap (is_word w) s.1)
word_here w p (Some Kinds.False) t s e = clash w p t e (ap (is_word w) s.1)
word_here w p (Some Kinds.Plus) t s e = clash w p t e (ap (is_word w) s.1)
word_here w p (Some Kinds.Minus) t s e = clash w p t e (ap (is_word w) s.1)
word_here w p (Some Kinds.Star) t s e = clash w p t e (ap (is_word w) s.1)
word_here w p (Some Kinds.Slash) t s e = clash w p t e (ap (is_word w) s.1)
word_here w p (Some Kinds.Percent) t s e = clash w p t e (ap (is_word w) s.1)
word_here w p (Some Kinds.Assign) t s e = let z : word Assign s.0 ≡ word w p = sym s.1 ∙ e in let y : Assign ≡ w = cc in subst (λ (x : Word). eqb (code (word_kind Assign)) (code (word_kind x)) ≡ true) y refl
word_here w p (Some Kinds.Equal) t s e = clash w p t e (ap (is_word w) s.1)
word_here w p (Some Kinds.NotEqual) t s e = clash w p t e (ap (is_word w) s.1)
word_here w p (Some Kinds.Not) t s e = clash w p t e (ap (is_word w) s.1)
word_here w p (Some Kinds.Less) t s e = clash w p t e (ap (is_word w) s.1)
word_here w p (Some Kinds.LessEqual) t s e = clash w p t e (ap (is_word w) s.1)
word_here w p (Some Kinds.Greater) t s e = clash w p t e (ap (is_word w) s.1)
word_here w p (Some Kinds.GreaterEqual) t s e = clash w p t e (ap (is_word w) s.1)
word_here w p (Some Kinds.And) t s e = clash w p t e (ap (is_word w) s.1)
word_here w p (Some Kinds.Or) t s e = clash w p t e (ap (is_word w) s.1)
word_here w p (Some Kinds.PlusAssign) t s e = clash w p t e (ap (is_word w) s.1)
word_here w p (Some Kinds.MinusAssign) t s e = clash w p t e (ap (is_word w) s.1)
word_here w p (Some Kinds.StarAssign) t s e = clash w p t e (ap (is_word w) s.1)
word_here w p (Some Kinds.SlashAssign) t s e = clash w p t e (ap (is_word w) s.1)
word_here w p (Some Kinds.PercentAssign) t s e = clash w p t e (ap (is_word w) s.1)
word_here w p (Some Kinds.AndAssign) t s e = clash w p t e (ap (is_word w) s.1)
word_here w p (Some Kinds.OrAssign) t s e = clash w p t e (ap (is_word w) s.1)
word_here w p (Some Kinds.OpenParen) t s e = let z : word OpenParen s.0 ≡ word w p = sym s.1 ∙ e in let y : OpenParen ≡ w = cc in subst (λ (x : Word). eqb (code (word_kind OpenParen)) (code (word_kind x)) ≡ true) y refl
word_here w p (Some Kinds.CloseParen) t s e = let z : word CloseParen s.0 ≡ word w p = sym s.1 ∙ e in let y : CloseParen ≡ w = cc in subst (λ (x : Word). eqb (code (word_kind CloseParen)) (code (word_kind x)) ≡ true) y refl
word_here w p (Some Kinds.OpenBrace) t s e = let z : word OpenBrace s.0 ≡ word w p = sym s.1 ∙ e in let y : OpenBrace ≡ w = cc in subst (λ (x : Word). eqb (code (word_kind OpenBrace)) (code (word_kind x)) ≡ true) y refl
word_here w p (Some Kinds.CloseBrace) t s e = let z : word CloseBrace s.0 ≡ word w p = sym s.1 ∙ e in let y : CloseBrace ≡ w = cc in subst (λ (x : Word). eqb (code (word_kind CloseBrace)) (code (word_kind x)) ≡ true) y refl
word_here w p (Some Kinds.Comma) t s e = let z : word Comma s.0 ≡ word w p = sym s.1 ∙ e in let y : Comma ≡ w = cc in subst (λ (x : Word). eqb (code (word_kind Comma)) (code (word_kind x)) ≡ true) y refl
word_here w p (Some Kinds.Semicolon) t s e = let z : word Semicolon s.0 ≡ word w p = sym s.1 ∙ e in let y : Semicolon ≡ w = cc in subst (λ (x : Word). eqb (code (word_kind Semicolon)) (code (word_kind x)) ≡ true) y refl

word_seen : (w : Word) (o : Option Kind) (t : Tok) → Sees o t → is_word w t ≡ is_kind o (word_kind w)
word_seen w o t s =
    both_ways (is_word w t) (is_kind o (word_kind w))
    (λ h. let p = is_word_lem w t h in word_here w p.0 o t s p.1)
    (λ h. let p = word_of w t (kind_seen o (word_kind w) t s h) in ap (is_word w) p.1 ∙ self_word w)

pub word_at : (w : Word) (s : List ℕ) (ts : List Token) (i : ℕ) → is_word w (tok_at s ts i) ≡ is_kind (seen ts i) (word_kind w)
word_at w s ts i = word_seen w (seen ts i) (tok_at s ts i) (sees s ts i)

pub at_none : (w : Word) (t : Tok) → is_word w t ≡ false → at w t ≡ none
at_none w (name x) h = refl
at_none w (value c) h = refl
at_none w (type t p) h = refl
at_none w (operator o p) h = refl
at_none w (bang p) h = refl
at_none w (modifier m p) h = refl
at_none w (word v p) h = rw h refl
at_none w stray h = refl

pub name-none : (o : Option Kind) (t : Tok) → Sees o t → is_kind o Kinds.Name ≡ false → as_name t ≡ none
name-none None t s h = ap as_name s
name-none (Some Kinds.Name) t s h = never (sym h)
name-none (Some Kinds.Number) t s h = ap as_name s.1
name-none (Some Kinds.Character) t s h = ap as_name s.1
name-none (Some Kinds.Bool) t s h = ap as_name s.1
name-none (Some Kinds.Char) t s h = ap as_name s.1
name-none (Some Kinds.Int) t s h = ap as_name s.1
name-none (Some Kinds.Float) t s h = ap as_name s
name-none (Some Kinds.Void) t s h = ap as_name s.1
name-none (Some Kinds.Extern) t s h = ap as_name s.1
name-none (Some Kinds.Static) t s h = ap as_name s.1
name-none (Some Kinds.If) t s h = ap as_name s.1
name-none (Some Kinds.Else) t s h = ap as_name s.1
name-none (Some Kinds.While) t s h = ap as_name s.1
name-none (Some Kinds.Do) t s h = ap as_name s.1
name-none (Some Kinds.For) t s h = ap as_name s.1
name-none (Some Kinds.To) t s h = ap as_name s.1
name-none (Some Kinds.Break) t s h = ap as_name s.1
name-none (Some Kinds.Continue) t s h = ap as_name s.1
name-none (Some Kinds.Return) t s h = ap as_name s.1
name-none (Some Kinds.True) t s h = ap as_name s.1
name-none (Some Kinds.False) t s h = ap as_name s.1
name-none (Some Kinds.Plus) t s h = ap as_name s.1
name-none (Some Kinds.Minus) t s h = ap as_name s.1
name-none (Some Kinds.Star) t s h = ap as_name s.1
name-none (Some Kinds.Slash) t s h = ap as_name s.1
name-none (Some Kinds.Percent) t s h = ap as_name s.1
name-none (Some Kinds.Assign) t s h = ap as_name s.1
name-none (Some Kinds.Equal) t s h = ap as_name s.1
name-none (Some Kinds.NotEqual) t s h = ap as_name s.1
name-none (Some Kinds.Not) t s h = ap as_name s.1
name-none (Some Kinds.Less) t s h = ap as_name s.1
name-none (Some Kinds.LessEqual) t s h = ap as_name s.1
name-none (Some Kinds.Greater) t s h = ap as_name s.1
name-none (Some Kinds.GreaterEqual) t s h = ap as_name s.1
name-none (Some Kinds.And) t s h = ap as_name s.1
name-none (Some Kinds.Or) t s h = ap as_name s.1
name-none (Some Kinds.PlusAssign) t s h = ap as_name s.1
name-none (Some Kinds.MinusAssign) t s h = ap as_name s.1
name-none (Some Kinds.StarAssign) t s h = ap as_name s.1
name-none (Some Kinds.SlashAssign) t s h = ap as_name s.1
name-none (Some Kinds.PercentAssign) t s h = ap as_name s.1
name-none (Some Kinds.AndAssign) t s h = ap as_name s.1
name-none (Some Kinds.OrAssign) t s h = ap as_name s.1
name-none (Some Kinds.OpenParen) t s h = ap as_name s.1
name-none (Some Kinds.CloseParen) t s h = ap as_name s.1
name-none (Some Kinds.OpenBrace) t s h = ap as_name s.1
name-none (Some Kinds.CloseBrace) t s h = ap as_name s.1
name-none (Some Kinds.Comma) t s h = ap as_name s.1
name-none (Some Kinds.Semicolon) t s h = ap as_name s.1

int_none : (o : Option Kind) (t : Tok) → Sees o t → is_kind o Kinds.Int ≡ false → as_int t ≡ none
int_none None t s h = ap as_int s
int_none (Some Kinds.Name) t s h = ap as_int s.1
int_none (Some Kinds.Number) t s h = ap as_int s.1
int_none (Some Kinds.Character) t s h = ap as_int s.1
int_none (Some Kinds.Bool) t s h = ap as_int s.1
int_none (Some Kinds.Char) t s h = ap as_int s.1
int_none (Some Kinds.Int) t s h = never (sym h)
int_none (Some Kinds.Float) t s h = ap as_int s
int_none (Some Kinds.Void) t s h = ap as_int s.1
int_none (Some Kinds.Extern) t s h = ap as_int s.1
int_none (Some Kinds.Static) t s h = ap as_int s.1
int_none (Some Kinds.If) t s h = ap as_int s.1
int_none (Some Kinds.Else) t s h = ap as_int s.1
int_none (Some Kinds.While) t s h = ap as_int s.1
int_none (Some Kinds.Do) t s h = ap as_int s.1
int_none (Some Kinds.For) t s h = ap as_int s.1
int_none (Some Kinds.To) t s h = ap as_int s.1
int_none (Some Kinds.Break) t s h = ap as_int s.1
int_none (Some Kinds.Continue) t s h = ap as_int s.1
int_none (Some Kinds.Return) t s h = ap as_int s.1
int_none (Some Kinds.True) t s h = ap as_int s.1
int_none (Some Kinds.False) t s h = ap as_int s.1
int_none (Some Kinds.Plus) t s h = ap as_int s.1
int_none (Some Kinds.Minus) t s h = ap as_int s.1
int_none (Some Kinds.Star) t s h = ap as_int s.1
int_none (Some Kinds.Slash) t s h = ap as_int s.1
int_none (Some Kinds.Percent) t s h = ap as_int s.1
int_none (Some Kinds.Assign) t s h = ap as_int s.1
int_none (Some Kinds.Equal) t s h = ap as_int s.1
int_none (Some Kinds.NotEqual) t s h = ap as_int s.1
int_none (Some Kinds.Not) t s h = ap as_int s.1
int_none (Some Kinds.Less) t s h = ap as_int s.1
int_none (Some Kinds.LessEqual) t s h = ap as_int s.1
int_none (Some Kinds.Greater) t s h = ap as_int s.1
int_none (Some Kinds.GreaterEqual) t s h = ap as_int s.1
int_none (Some Kinds.And) t s h = ap as_int s.1
int_none (Some Kinds.Or) t s h = ap as_int s.1
int_none (Some Kinds.PlusAssign) t s h = ap as_int s.1
int_none (Some Kinds.MinusAssign) t s h = ap as_int s.1
int_none (Some Kinds.StarAssign) t s h = ap as_int s.1
int_none (Some Kinds.SlashAssign) t s h = ap as_int s.1
int_none (Some Kinds.PercentAssign) t s h = ap as_int s.1
int_none (Some Kinds.AndAssign) t s h = ap as_int s.1
int_none (Some Kinds.OrAssign) t s h = ap as_int s.1
int_none (Some Kinds.OpenParen) t s h = ap as_int s.1
int_none (Some Kinds.CloseParen) t s h = ap as_int s.1
int_none (Some Kinds.OpenBrace) t s h = ap as_int s.1
int_none (Some Kinds.CloseBrace) t s h = ap as_int s.1
int_none (Some Kinds.Comma) t s h = ap as_int s.1
int_none (Some Kinds.Semicolon) t s h = ap as_int s.1

at_own : (w : Word) (p : ℕ) → at w (word w p) ≡ some p
at_own w p = rw (self_word w) refl

token_read : (w : Word) (s : List ℕ) (ts : List Token) (i : ℕ) (K : List Sym) → is_kind (seen ts i) (word_kind w) ≡ true → judge (token w ∷ K) i (drop i (lexemes s ts)) ≡ judge K (i + 1) (drop (i + 1) (lexemes s ts))
token_read w s ts i K h =
    let p = word_of w (tok_at s ts i) (found s ts i (word_kind w) h) in
    stepping s ts i (token w ∷ K) (word w p.0) (found_inside ts i (word_kind w) h) p.1 ∙ rw (at_own w p.0) refl

-- the wanted token is passed ..
pub expected : (A : Sym) (k : Kind) → Wants A k → (s : List ℕ) (ts : List Token) (i : ℕ) (K : List Sym) → is_kind (seen ts i) k ≡ true
    → judge (A ∷ K) i (drop i (lexemes s ts)) ≡ judge K (i + 1) (drop (i + 1) (lexemes s ts))
expected (token w) k m s ts i K h = token_read w s ts i K (rw (← m) at h)
expected a_name k m s ts i K h = let p = found s ts i Kinds.Name (rw (← m) at h) in stepping s ts i (a_name ∷ K) (name p.0) (found_inside ts i k h) p.1
expected a_constant k m s ts i K h = absurd m
expected a_result k m s ts i K h = absurd m
expected an_int k m s ts i K h = let p = found s ts i Kinds.Int (rw (← m) at h) in stepping s ts i (an_int ∷ K) (type int p.0) (found_inside ts i k h) p.1
expected parameter k m s ts i K h = absurd m
expected (operand d) k m s ts i K h = absurd m
expected (called d x) k m s ts i K h = absurd m
expected (tail n d) k m s ts i K h = absurd m
expected (expr d) k m s ts i K h = absurd m
expected (exprs d) k m s ts i K h = absurd m
expected (further d) k m s ts i K h = absurd m
expected (arguments d) k m s ts i K h = absurd m
expected (statement d) k m s ts i K h = absurd m
expected (named d x) k m s ts i K h = absurd m
expected (returned d p) k m s ts i K h = absurd m
expected (statements d) k m s ts i K h = absurd m
expected (orelse d) k m s ts i K h = absurd m
expected script k m s ts i K h = absurd m
expected (declared q) k m s ts i K h = absurd m
expected (integer q p) k m s ts i K h = absurd m
expected (mainly q p r) k m s ts i K h = absurd m

-- .. and any other refused.
pub unexpected : (A : Sym) (k : Kind) → Wants A k → (s : List ℕ) (ts : List Token) (i : ℕ) (K : List Sym) → is_kind (seen ts i) k ≡ false
    → judge (A ∷ K) i (drop i (lexemes s ts)) ≡ refused 9 i
unexpected (token w) k m s ts i K h = refusing s ts i (token w ∷ K) (tok_at s ts i) refl (ap (terminal (token w) K) (at_none w (tok_at s ts i) (word_at w s ts i ∙ (rw (← m) at h)))) refl
unexpected a_name k m s ts i K h = refusing s ts i (a_name ∷ K) (tok_at s ts i) refl (ap (terminal a_name K) (name-none (seen ts i) (tok_at s ts i) (sees s ts i) (rw (← m) at h))) refl
unexpected a_constant k m s ts i K h = absurd m
unexpected a_result k m s ts i K h = absurd m
unexpected an_int k m s ts i K h = refusing s ts i (an_int ∷ K) (tok_at s ts i) refl (ap (terminal an_int K) (int_none (seen ts i) (tok_at s ts i) (sees s ts i) (rw (← m) at h))) refl
unexpected parameter k m s ts i K h = absurd m
unexpected (operand d) k m s ts i K h = absurd m
unexpected (called d x) k m s ts i K h = absurd m
unexpected (tail n d) k m s ts i K h = absurd m
unexpected (expr d) k m s ts i K h = absurd m
unexpected (exprs d) k m s ts i K h = absurd m
unexpected (further d) k m s ts i K h = absurd m
unexpected (arguments d) k m s ts i K h = absurd m
unexpected (statement d) k m s ts i K h = absurd m
unexpected (named d x) k m s ts i K h = absurd m
unexpected (returned d p) k m s ts i K h = absurd m
unexpected (statements d) k m s ts i K h = absurd m
unexpected (orelse d) k m s ts i K h = absurd m
unexpected script k m s ts i K h = absurd m
unexpected (declared q) k m s ts i K h = absurd m
unexpected (integer q p) k m s ts i K h = absurd m
unexpected (mainly q p r) k m s ts i K h = absurd m
