-- The token at a place where a lexeme of a script stands.
use Rattle.std.proofs.Common.{◌≡◌, ℕ, zero, suc, ◌+◌, ◌<◌, Bool, true, false, cond, ◌||◌, List, [], ◌∷◌, length, take, drop, Some, None, sym, refl, ap, ◌∙◌, arith}
use native.Mathlib.Numerals.{unary_clauses}
use Rattle.std.specs.List.{slice_get}
use Rattle.lexer.specs.Lexeme.{Lexeme}
use Rattle.lexer.specs.Reading.{lexeme, lexemes}
use Rattle.lexer.specs.declared.kind.Kind.{Kind}
use Rattle.lexer.specs.declared.kind.Kind.TheVariants as K
use Rattle.lexer.specs.declared.kind.Token.{Token}
use Rattle.lookahead.specs.Seen.{is_valued, is_zero, seen}
use Rattle.meaning.specs.Trees.{Ident, Constant, number, character, truth}
use Rattle.meaning.specs.Written.{sign, ident, literal}

-- a lexeme at a place lies within the tokens
pub inside : (s : List ℕ) (ts : List Token) (at : ℕ) (l : Lexeme) (r : List Lexeme) → drop at (lexemes s ts) ≡ l ∷ r → at < length ts
inside s [] zero l r h = let z : ◌≡◌ {A = ℕ} 0 1 = cc in absurd (omega arith)
inside s [] (suc at) l r h = let z : ◌≡◌ {A = ℕ} 0 1 = cc in absurd (omega arith)
inside s (t ∷ ts) zero l r h = omega arith
inside s (t ∷ ts) (suc at) l r h = let i = inside s ts at l r h in omega arith

-- the token there is the lexeme's, and what follows stands at the next place
pub token_is : (s : List ℕ) (ts : List Token) (at : ℕ) (t : Token) (l : Lexeme) (r : List Lexeme) → slice_get ts at ≡ Some t → drop at (lexemes s ts) ≡ l ∷ r → lexeme s t ≡ l
token_is s [] at t l r e h = let z : ◌≡◌ {A = ℕ} 0 1 = cc in absurd (omega arith)
token_is s (u ∷ ts) zero t l r e h = let a : u ≡ t = cc in let b : lexeme s u ≡ l = cc in rw (sym a) b
token_is s (u ∷ ts) (suc at) t l r e h = token_is s ts at t l r e h

-- a name's token: its text in the source, and its place
pub name_is : (s : List ℕ) (ts : List Token) (at : ℕ) (t : Token) (x : Ident) (r : List Lexeme) (y : List ℕ) → (at < length ts → slice_get ts at ≡ Some t) → y ≡ take t.length (drop t.place s)
    → drop at (lexemes s ts) ≡ ident x ∷ r → (y ≡ x.bytes) × (t.place ≡ x.place)
name_is s ts at t x r y e f h =
    let l : lexeme s t ≡ ident x = token_is s ts at t (ident x) r (e (inside s ts at (ident x) r h)) h in
    let k : t.kind ≡ K.Name = ap (λ (m : Lexeme). m.kind) l in
    (f ∙ rw k at (ap (λ (m : Lexeme). m.name) l), ap (λ (m : Lexeme). m.place) l)

-- the same of the word that stands at a place
pub word_is : (s : List ℕ) (ts : List Token) (at : ℕ) (t : Token) (x : Ident) (r : List Lexeme) (y : List ℕ) → (at < length ts → slice_get ts at ≡ Some t)
    → ((u : Token) → slice_get ts at ≡ Some u → y ≡ take u.length (drop u.place s)) → drop at (lexemes s ts) ≡ ident x ∷ r → (y ≡ x.bytes) × (t.place ≡ x.place)
word_is s ts at t x r y e f h = name_is s ts at t x r y e (f t (e (inside s ts at (ident x) r h))) h

pub next_is : (ls : List Lexeme) (at : ℕ) (l : Lexeme) (r : List Lexeme) → drop at ls ≡ l ∷ r → drop (at + 1) ls ≡ r
next_is [] zero l r h = let z : ◌≡◌ {A = ℕ} 0 1 = cc in absurd (omega arith)
next_is [] (suc at) l r h = let z : ◌≡◌ {A = ℕ} 0 1 = cc in absurd (omega arith)
next_is (m ∷ ls) zero l r h = cc
next_is (m ∷ ls) (suc at) l r h = simp unary_clauses (simp unary_clauses at (next_is ls at l r h))

-- The kind that code sees there.

seen_first : (s : List ℕ) (ts : List Token) (at : ℕ) (l : Lexeme) (r : List Lexeme) → drop at (lexemes s ts) ≡ l ∷ r →
    seen ts at ≡ cond (is_valued l.kind || is_zero l.value) (Some l.kind) None
seen_first s [] zero l r h = let z : ◌≡◌ {A = ℕ} 0 1 = cc in absurd (omega arith)
seen_first s [] (suc at) l r h = let z : ◌≡◌ {A = ℕ} 0 1 = cc in absurd (omega arith)
seen_first s (t ∷ ts) zero l r h = let e : lexeme s t ≡ l = cc in rw (sym e) refl
seen_first s (t ∷ ts) (suc at) l r h = seen_first s ts at l r h

valueless : (k : Kind) → cond (is_valued k || true) (Some k) None ≡ Some k
valueless k = elim (is_valued k) as (λ b. cond (b || true) (Some k) None ≡ Some k) [ true ↦ refl | false ↦ refl ]

pub seen-sign : (s : List ℕ) (ts : List Token) (at : ℕ) (k : Kind) (p : ℕ) (r : List Lexeme) → drop at (lexemes s ts) ≡ sign k p ∷ r → seen ts at ≡ Some k
seen-sign s ts at k p r h = seen_first s ts at (sign k p) r h ∙ valueless k

pub seen-ident : (s : List ℕ) (ts : List Token) (at : ℕ) (x : Ident) (r : List Lexeme) → drop at (lexemes s ts) ≡ ident x ∷ r → seen ts at ≡ Some K.Name
seen-ident s ts at x r h = seen_first s ts at (ident x) r h

pub seen-literal : (s : List ℕ) (ts : List Token) (at : ℕ) (c : Constant) (r : List Lexeme) → drop at (lexemes s ts) ≡ literal c ∷ r → seen ts at ≡ Some (literal c).kind
seen-literal s ts at (number v p) r h = seen_first s ts at (literal (number v p)) r h
seen-literal s ts at (character v p) r h = seen_first s ts at (literal (character v p)) r h
seen-literal s ts at (truth true p) r h = seen_first s ts at (sign K.True p) r h
seen-literal s ts at (truth false p) r h = seen_first s ts at (sign K.False p) r h

-- the token of a kind that is seen
kind_is : (k : Kind) (v : Bool) (j : Kind) → cond v (Some k) None ≡ Some j → k ≡ j
kind_is k true j h = cc
kind_is k false j h = let z : ◌≡◌ {A = ℕ} 0 1 = cc in absurd (omega arith)

pub seen_kind : (ts : List Token) (at : ℕ) (t : Token) (k : Kind) → slice_get ts at ≡ Some t → seen ts at ≡ Some k → t.kind ≡ k
seen_kind [] at t k e h = let z : ◌≡◌ {A = ℕ} 0 1 = cc in absurd (omega arith)
seen_kind (u ∷ ts) zero t k e h = let a : u ≡ t = cc in rw (sym a) (kind_is u.kind _ k h)
seen_kind (u ∷ ts) (suc at) t k e h = seen_kind ts at t k e h

pub seen_inside : (ts : List Token) (at : ℕ) (k : Kind) → seen ts at ≡ Some k → at < length ts
seen_inside [] zero k h = let z : ◌≡◌ {A = ℕ} 0 1 = cc in absurd (omega arith)
seen_inside [] (suc at) k h = let z : ◌≡◌ {A = ℕ} 0 1 = cc in absurd (omega arith)
seen_inside (t ∷ ts) zero k h = omega arith
seen_inside (t ∷ ts) (suc at) k h = let i = seen_inside ts at k h in omega arith
