-- Where main begins, and where an extern or a global does.
use Rattle.std.proofs.Common.{◌≡◌, ℕ, zero, suc, ◌+◌, ◌<◌, Bool, true, false, cond, ◌&&◌, List, [], ◌∷◌, length, take, drop, Some, None, Option, refl, ap, arith}
use mathlib.Core.Option.{Option as Maybe, none, some}
use Rattle.lexer.specs.Lexeme.{Lexeme}
use Rattle.lexer.specs.Reading.{lexeme, lexemes}
use Rattle.lexer.specs.declared.kind.Kind.{Kind}
use Rattle.lexer.specs.declared.kind.Kind.TheVariants as K
use Rattle.lexer.specs.declared.kind.Token.{Token}
use Rattle.lookahead.specs.Seen.{is_kind, seen, past_static, main_first, is_main, past_main}
use Rattle.meaning.specs.declared.operator.Scalar.{Scalar}
use Rattle.meaning.specs.declared.operator.Scalar.TheVariants.{Bool as bool, Char as char, Int as int}
use Rattle.meaning.specs.Trees.{Ident, Item, extern, global}
use Rattle.meaning.specs.Written.{sign, ident, literal, type_kind, static_lexemes, item_lexemes, main_name, head_lexemes}
use Rattle.translator.specs.Scripts.{main_rest}
use Rattle.translator.proofs.Lexemes.{inside, next_is, seen-sign}

-- the place after a lexeme
pub past_is : (s : List ℕ) (ts : List Token) (at p : ℕ) (l : Lexeme) (r : List Lexeme) → drop at (lexemes s ts) ≡ l ∷ r → (at < length ts → p ≡ at + 1) → drop p (lexemes s ts) ≡ r
past_is s ts at p l r h n = rw (n (inside s ts at l r h)) (next_is (lexemes s ts) at l r h)

-- a name that is `main`
main_first_lem : (s : List ℕ) (t : Token) (ts : List Token) (p : ℕ) → lexeme s t ≡ ident (record { bytes = main_name; place = p }) → main_first s (t ∷ ts) ≡ true
main_first_lem s t ts p e =
    let k : t.kind ≡ K.Name = ap (λ (m : Lexeme). m.kind) e in
    let v = ap (λ (m : Lexeme). m.value) e in
    let n : take t.length (drop t.place s) ≡ main_name = rw k at (ap (λ (m : Lexeme). m.name) e) in
    rw (k, v, n) refl

pub main_is : (s : List ℕ) (ts : List Token) (at p : ℕ) (r : List Lexeme) → drop at (lexemes s ts) ≡ ident (record { bytes = main_name; place = p }) ∷ r → is_main s ts at ≡ true
main_is s [] zero p r h = let z : ◌≡◌ {A = ℕ} 0 1 = cc in absurd (omega arith)
main_is s [] (suc at) p r h = let z : ◌≡◌ {A = ℕ} 0 1 = cc in absurd (omega arith)
main_is s (t ∷ ts) zero p r h = let e : lexeme s t ≡ ident (record { bytes = main_name; place = p }) = cc in main_first_lem s t ts p e
main_is s (t ∷ ts) (suc at) p r h = main_is s ts at p r h

-- `static`, where it stands
pub static_there : (s : List ℕ) (ts : List Token) (at p : ℕ) (r : List Lexeme) → drop at (lexemes s ts) ≡ sign K.Static p ∷ r → (past_static ts at ≡ at + 1) × (drop (at + 1) (lexemes s ts) ≡ r)
static_there s ts at p r h = (rw (seen-sign s ts at K.Static p r h) refl, next_is (lexemes s ts) at (sign K.Static p) r h)

pub static_absent : (ts : List Token) (at : ℕ) (k : Kind) → seen ts at ≡ Some k → is_kind (Some k) K.Static ≡ false → past_static ts at ≡ at
static_absent ts at k e h = rw (e, h) refl

pub type_not_static : (t : Scalar) → is_kind (Some (type_kind t)) K.Static ≡ false
type_not_static bool = refl
type_not_static char = refl
type_not_static int = refl

-- the place where a global's type stands
pub type_there : (s : List ℕ) (ts : List Token) (at : ℕ) (m : Maybe ℕ) (t : Scalar) (p : ℕ) (r : List Lexeme) → drop at (lexemes s ts) ≡ static_lexemes m (sign (type_kind t) p ∷ r)
    → drop (past_static ts at) (lexemes s ts) ≡ sign (type_kind t) p ∷ r
type_there s ts at none t p r h = rw (static_absent ts at (type_kind t) (seen-sign s ts at (type_kind t) p r h) (type_not_static t)) h
type_there s ts at (some q) t p r h = let i = static_there s ts at q (sign (type_kind t) p ∷ r) h in rw i.0 i.1

-- main begins: the place after its opening bracket
pub main_there : (s : List ℕ) (ts : List Token) (at : ℕ) (m : Maybe ℕ) (q : ℕ × ℕ × ℕ × ℕ × ℕ) (r : List Lexeme) → drop at (lexemes s ts) ≡ head_lexemes m q r
    → (past_main s ts at ≡ Some (past_static ts at + 3)) × (drop (past_static ts at + 3) (lexemes s ts) ≡ main_rest q r)
main_there s ts at m q r h =
    let ls = lexemes s ts in
    let o = past_static ts at in
    let x : Ident = record { bytes = main_name; place = q.1 } in
    let r3 = main_rest q r in
    let r2 = sign K.OpenParen q.2 ∷ r3 in
    let r1 = ident x ∷ r2 in
    let a : drop o ls ≡ sign K.Int q.0 ∷ r1 = type_there s ts at m int q.0 r1 h in
    let b : drop (o + 1) ls ≡ r1 = next_is ls o (sign K.Int q.0) r1 a in
    let c : drop (o + 2) ls ≡ r2 = let e : o + 2 ≡ o + 1 + 1 = omega arith in rw e (next_is ls (o + 1) (ident x) r2 b) in
    let d : drop (o + 3) ls ≡ r3 = let e : o + 3 ≡ o + 2 + 1 = omega arith in rw e (next_is ls (o + 2) (sign K.OpenParen q.2) r3 c) in
    let f = seen-sign s ts o K.Int q.0 r1 a in
    let g = main_is s ts (o + 1) q.1 r2 b in
    let i = seen-sign s ts (o + 2) K.OpenParen q.2 r3 c in
    (by o _ _ _ f g i, d)
  where
    by : (o : ℕ) (k l : Option Kind) (n : Bool) → k ≡ Some K.Int → n ≡ true → l ≡ Some K.OpenParen → cond (is_kind k K.Int && (n && is_kind l K.OpenParen)) (Some (o + 3)) None ≡ Some (o + 3)
    by o k l n f g i = rw (f, g, i) refl

-- An extern or a global begins: main does not.

no_main : (o : ℕ) (a b c : Bool) → c ≡ false → cond (a && (b && c)) (Some (o + 3)) None ≡ None
no_main o true true c h = rw h refl
no_main o true false c h = refl
no_main o false b c h = refl

pub item_there : (s : List ℕ) (ts : List Token) (at : ℕ) (i : Item) (r : List Lexeme) → drop at (lexemes s ts) ≡ item_lexemes i r → past_main s ts at ≡ None
item_there s ts at (extern q t x a) r h =
    let e = seen-sign s ts at K.Extern q.0 _ h in
    let f : past_static ts at ≡ at = static_absent ts at K.Extern e refl in
    rw (f, e) refl
item_there s ts at (global m q t x c) r h =
    let ls = lexemes s ts in
    let o = past_static ts at in
    let r2 = sign K.Assign q.1 ∷ literal c ∷ sign K.Semicolon q.2 ∷ r in
    let a : drop o ls ≡ sign (type_kind t) q.0 ∷ ident x ∷ r2 = type_there s ts at m t q.0 (ident x ∷ r2) h in
    let b : drop (o + 1) ls ≡ ident x ∷ r2 = next_is ls o (sign (type_kind t) q.0) (ident x ∷ r2) a in
    let d : drop (o + 2) ls ≡ r2 = let e : o + 2 ≡ o + 1 + 1 = omega arith in rw e (next_is ls (o + 1) (ident x) r2 b) in
    let e = seen-sign s ts (o + 2) K.Assign q.1 _ d in
    no_main o (is_kind (seen ts o) K.Int) (is_main s ts (o + 1)) _ (ap (λ (k : Option Kind). is_kind k K.OpenParen) e)
