-- An expression as an operand with the further operands of each level, and back.
use Rattle.std.proofs.Common.{◌≡◌, ℕ, zero, suc, ◌<◌, ◌≤◌, false, List, ◌∷◌, sym, refl, ap, ◌∙◌, arith}
use native.Mathlib.Decide.{dec_le}
use Rattle.std.proofs.lemmas.Bool.Decides.{nat_tests}
use Rattle.lexer.specs.Lexeme.{Lexeme}
use Rattle.meaning.specs.declared.operator.Operator.{Operator}
use Rattle.meaning.specs.declared.operator.Operator.TheVariants.{Add, Subtract, Multiply, Divide, Remainder, Less, LessEqual, Greater, GreaterEqual, Equal, NotEqual, And, Or}
use Rattle.meaning.specs.Trees.{Expr, constant, variable, call, bracket, unary, binary}
use Rattle.meaning.specs.Written.{sign, binary_kind, expr_lexemes}
use Rattle.meaning.specs.Depths.{expr_depths}
use Rattle.meaning.specs.Grammar.{looseness, Grouped}
use Rattle.meaning.proofs.Tokens.{Tok, OpenParen, name, value, type, operator, bang, modifier, word, stray, next, tok_operator}
use Rattle.meaning.proofs.Stack.{is_word, loose, Tail, done, link, Sym, operand, tail, Values, tails_to, attach, gather}
use Rattle.meaning.proofs.Parsed.{tail_lexemes, tail_depths, FineTail, NoCall, EndsE, EndsTail, Parsed}

-- Attaching operands.

pub attach-lexemes : (t : Tail) (e : Expr) (r : List Lexeme) → expr_lexemes (attach e t) r ≡ expr_lexemes e (tail_lexemes t r)
unfolding expr_lexemes
attach-lexemes done e r = refl
attach-lexemes (link o p b t) e r = attach-lexemes t (binary o p e b) r

pub attach_depths : (t : Tail) (e : Expr) (d : ℕ) (r : List ℕ) → expr_depths (attach e t) d r ≡ expr_depths e d (tail_depths t d r)
unfolding expr_depths
attach_depths done e d r = refl
attach_depths (link o p b t) e d r = attach_depths t (binary o p e b) d r

pub grouped_more : (e : Expr) (m n : ℕ) → m ≤ n → Grouped e m → Grouped e n
grouped_more (constant c) m n h g = tt
grouped_more (variable x) m n h g = tt
grouped_more (call x q xs) m n h g = g
grouped_more (bracket q e) m n h g = g
grouped_more (unary u p e) m n h g = g
grouped_more (binary o p a b) m n h g = (omega (arith, g.0), g.1, g.2)

pub attach_grouped : (t : Tail) (e : Expr) (n : ℕ) → Grouped e n → FineTail n t → Grouped (attach e t) n
attach_grouped done e n g f = g
attach_grouped (link o p b t) e n g f =
    attach_grouped t (binary o p e b) n (omega (arith, f.0), rw f.0 g, rw f.0 f.1) f.2

pub attach_ends : (t : Tail) (e : Expr) (n : ℕ) (r : List Lexeme) → EndsE n e (tail_lexemes t r) → EndsTail (suc n) t r → EndsE (suc n) (attach e t) r
attach_ends done e n r h k = (h.0, grind (arith, nat_tests))
attach_ends (link o p b t) e n r h k = attach_ends t (binary o p e b) n r k.0 k.1

-- every operator binds
pub looseness_positive : (o : Operator) → 0 < looseness o
looseness_positive Add = omega arith
looseness_positive Subtract = omega arith
looseness_positive Multiply = omega arith
looseness_positive Divide = omega arith
looseness_positive Remainder = omega arith
looseness_positive Less = omega arith
looseness_positive LessEqual = omega arith
looseness_positive Greater = omega arith
looseness_positive GreaterEqual = omega arith
looseness_positive Equal = omega arith
looseness_positive NotEqual = omega arith
looseness_positive And = omega arith
looseness_positive Or = omega arith

pub loose_positive : (t : Tok) → 0 < loose t
loose_positive (name x) = omega arith
loose_positive (value c) = omega arith
loose_positive (type t p) = omega arith
loose_positive (operator o p) = looseness_positive o
loose_positive (bang p) = omega arith
loose_positive (modifier m p) = omega arith
loose_positive (word w p) = omega arith
loose_positive stray = omega arith

-- e stands at the front of ls as an expression of level n
pub record Level (n d : ℕ) (e : Expr) (R : List Lexeme → List ℕ → Type 0) (ls : List Lexeme) (ds : List ℕ) : Type 0 where
  pub rest : List Lexeme
  pub depths : List ℕ
  pub fine : Grouped e n
  pub lexemes : ls ≡ expr_lexemes e rest
  pub marks : ds ≡ expr_depths e d depths
  pub ends : EndsE n e rest
  pub after : R rest depths

-- a level's further operands belong to the expression before them
level_more : (n d : ℕ) (K : List Sym) (e : Expr) (vs : Values (tail (suc n) d ∷ K)) (ls : List Lexeme) (ds : List ℕ)
    → Level n d e (Parsed (tail (suc n) d ∷ K) vs) ls ds → Level (suc n) d (attach e vs.0) (Parsed K vs.1) ls ds
level_more n d K e vs ls ds l =
    let a = l.after in
    record {
      rest = a.rest;
      depths = a.depths;
      fine = attach_grouped vs.0 e (suc n) (grouped_more e n (suc n) (omega arith) l.fine) a.fine;
      lexemes = l.lexemes ∙ ap (expr_lexemes e) a.lexemes ∙ sym (attach-lexemes vs.0 e a.rest);
      marks = l.marks ∙ ap (expr_depths e d) a.marks ∙ sym (attach_depths vs.0 e d a.depths);
      ends = attach_ends vs.0 e n a.rest (rw a.lexemes at l.ends) a.ends;
      after = a.after;
    }

pub gathered : (n d : ℕ) (K : List Sym) (e : Expr) (vs : Values (tails_to n d K)) (ls : List Lexeme) (ds : List ℕ)
    → Parsed (operand d ∷ tails_to n d K) (e, vs) ls ds → Level n d (gather n d K e vs).0 (Parsed K (gather n d K e vs).1) ls ds
gathered zero d K e vs ls ds s =
    record { rest = s.rest; depths = s.depths; fine = s.fine; lexemes = s.lexemes; marks = s.marks; ends = (s.ends, loose_positive (next s.rest)); after = s.after }
gathered (suc n) d K e vs ls ds s =
    level_more n d K _ _ ls ds (gathered n d (tail (suc n) d ∷ K) e vs ls ds s)

-- The other way: an expression of level n, where the further operands of levels up to n follow, is an operand with more of
-- them. By induction along the left operands; the operators of a level stand in the list of that level.

-- no further operands up to level n
abbrev pub nulls : (n d : ℕ) (K : List Sym) → Values K → Values (tails_to n d K)
nulls zero d K vs = vs
nulls (suc n) d K vs = nulls n d (tail (suc n) d ∷ K) (done, vs)

pub gather-nulls : (n d : ℕ) (K : List Sym) (e : Expr) (vs : Values K) → gather n d K e (nulls n d K vs) ≡ (e, vs)
gather-nulls zero d K e vs = refl
gather-nulls (suc n) d K e vs =
    ap (λ (g : Expr × Values (tail (suc n) d ∷ K)). (attach g.0 g.1.0, g.1.1)) (gather-nulls n d (tail (suc n) d ∷ K) e (done, vs))

no_tail : (n d : ℕ) (K : List Sym) (vs : Values K) (r : List Lexeme) (rs : List ℕ) → n < loose (next r) → Parsed K vs r rs → Parsed (tail n d ∷ K) (done, vs) r rs
no_tail n d K vs r rs h p = record { rest = r; depths = rs; fine = tt; lexemes = refl; marks = refl; ends = grind (arith, nat_tests); after = p }

pub parsed_nulls : (n d : ℕ) (K : List Sym) (vs : Values K) (r : List Lexeme) (rs : List ℕ) → n < loose (next r) → Parsed K vs r rs → Parsed (tails_to n d K) (nulls n d K vs) r rs
parsed_nulls zero d K vs r rs h p = p
parsed_nulls (suc n) d K vs r rs h p = parsed_nulls n d (tail (suc n) d ∷ K) (done, vs) r rs (omega arith) (no_tail (suc n) d K vs r rs h p)

-- the operands of a level that an operator does not begin are none
none-there : (n d : ℕ) (K : List Sym) (t : Tail) (vs : Values K) (r : List Lexeme) (rs : List ℕ) → n < loose (next r) → Parsed (tail n d ∷ K) (t, vs) r rs → (t ≡ done) × Parsed K vs r rs
none-there n d K done vs r rs h p = (refl, rw (p.lexemes, p.marks) p.after)
none-there n d K (link o q b t) vs r rs h p =
    let l : loose (next r) ≡ looseness o = ap (λ (x : List Lexeme). loose (next x)) p.lexemes ∙ ap loose (tok_operator o q) in
    let f = p.fine.0 in absurd (omega arith)

pub stripped : (n d : ℕ) (K : List Sym) (vs : Values (tails_to n d K)) (r : List Lexeme) (rs : List ℕ) → n < loose (next r)
    → Parsed (tails_to n d K) vs r rs → (ws : Values K) × (vs ≡ nulls n d K ws) × Parsed K ws r rs
stripped zero d K vs r rs h p = (vs, refl, p)
stripped (suc n) d K vs r rs h p =
    let i = stripped n d (tail (suc n) d ∷ K) vs r rs (omega arith) p in
    let j = none-there (suc n) d K i.0.0 i.0.1 r rs h i.2 in
    (i.0.1, i.1 ∙ ap (λ (t : Tail). nulls n d (tail (suc n) d ∷ K) (t, i.0.1)) j.0, j.1)

-- e, before the trees vs of the levels up to n, as an operand and trees ws of those levels
pub record Spread (n d : ℕ) (K : List Sym) (e : Expr) (vs : Values (tails_to n d K)) (ls : List Lexeme) (ds : List ℕ) : Type 0 where
  pub first : Expr
  pub tails : Values (tails_to n d K)
  pub same : gather n d K first tails ≡ gather n d K e vs
  pub stands : Parsed (operand d ∷ tails_to n d K) (first, tails) ls ds

-- what is to be shown of e
abbrev Spreads : ℕ → Expr → Type 0
Spreads d e = (n : ℕ) (K : List Sym) (vs : Values (tails_to n d K)) (r : List Lexeme) (rs : List ℕ)
    → Grouped e n → NoCall e r → n ≤ loose (next r) → Parsed (tails_to n d K) vs r rs
    → Spread n d K e vs (expr_lexemes e r) (expr_depths e d rs)

alone : (d : ℕ) (e : Expr) → Grouped e 0 → Spreads d e
alone d e g n K vs r rs _ c h p =
    record { first = e; tails = vs; same = refl; stands = record { rest = r; depths = rs; fine = g; lexemes = refl; marks = refl; ends = c; after = p } }

-- the operator o of level n + 1 with its right operand stands before the further operands t of that level
linked : (n d : ℕ) (K : List Sym) (o : Operator) (q : ℕ) (b : Expr) (t : Tail) (vs : Values K) (r : List Lexeme) (rs : List ℕ)
    → looseness o ≡ suc n → Grouped b n → NoCall b r → n < loose (next r)
    → Parsed (tail (suc n) d ∷ K) (t, vs) r rs → Parsed (tail (suc n) d ∷ K) (link o q b t, vs) (sign (binary_kind o) q ∷ expr_lexemes b r) (0 ∷ expr_depths b d rs)
linked n d K o q b t vs r rs l g c h p =
    record {
      rest = p.rest;
      depths = p.depths;
      fine = (l, g, p.fine);
      lexemes = ap (λ (x : List Lexeme). sign (binary_kind o) q ∷ expr_lexemes b x) p.lexemes;
      marks = ap (λ (x : List ℕ). 0 ∷ expr_depths b d x) p.marks;
      ends = (rw p.lexemes at (pair c h), p.ends);
      after = p.after;
    }
  where
    pair : NoCall b r → n < loose (next r) → EndsE n b r
    pair c h = (c, h)

widened : (n d : ℕ) (K : List Sym) (e : Expr) (vs : Values (tails_to (suc n) d K)) (ls : List Lexeme) (ds : List ℕ)
    → Spread n d (tail (suc n) d ∷ K) e vs ls ds → Spread (suc n) d K e vs ls ds
widened n d K e vs ls ds s =
    record {
      first = s.first;
      tails = s.tails;
      stands = s.stands;
      same = ap (λ (g : Expr × Values (tail (suc n) d ∷ K)). (attach g.0 g.1.0, g.1.1)) s.same;
    }

operator_next : (o : Operator) (q : ℕ) (r : List Lexeme) → (loose (next (sign (binary_kind o) q ∷ r)) ≡ looseness o) × (is_word OpenParen (next (sign (binary_kind o) q ∷ r)) ≡ false)
operator_next o q r = (ap loose (tok_operator o q), ap (is_word OpenParen) (tok_operator o q))

-- an operator of just this level
at_level : (d : ℕ) (o : Operator) (q : ℕ) (a b : Expr) → Spreads d a → (n : ℕ) (K : List Sym) (vs : Values (tails_to (suc n) d K)) (r : List Lexeme) (rs : List ℕ)
    → looseness o ≡ suc n → Grouped a (suc n) → Grouped b n → NoCall b r → suc n ≤ loose (next r) → Parsed (tails_to (suc n) d K) vs r rs
    → Spread (suc n) d K (binary o q a b) vs (expr_lexemes a (sign (binary_kind o) q ∷ expr_lexemes b r)) (expr_depths a d (0 ∷ expr_depths b d rs))
at_level d o q a b ih n K vs r rs l ga gb c h p =
    let L = tail (suc n) d ∷ K in
    let s = stripped n d L vs r rs h p in
    let k = linked n d K o q b s.0.0 s.0.1 r rs l gb c h s.2 in
    let f = operator_next o q (expr_lexemes b r) in
    let ws = nulls n d L (link o q b s.0.0, s.0.1) in
    let m : n < loose (next (sign (binary_kind o) q ∷ expr_lexemes b r)) = omega (arith, f.0) in
    let i = ih (suc n) K ws (sign (binary_kind o) q ∷ expr_lexemes b r) (0 ∷ expr_depths b d rs) ga (λ _. f.1) m (parsed_nulls n d L (link o q b s.0.0, s.0.1) _ _ m k) in
    let g : Expr × Values L → Expr × Values K = λ x. (attach x.0 x.1.0, x.1.1) in
    record {
      first = i.first;
      tails = i.tails;
      stands = i.stands;
      same = i.same ∙ ap g (gather-nulls n d L a (link o q b s.0.0, s.0.1)) ∙ sym (ap g (ap (gather n d L (binary o q a b)) s.1 ∙ gather-nulls n d L (binary o q a b) s.0));
    }

at_or_below : (d : ℕ) (o : Operator) (q : ℕ) (a b : Expr) → Spreads d a → Spreads d (binary o q a b)
unfolding expr_lexemes expr_depths
at_or_below d o q a b ih zero K vs r rs g c h p = absurd (omega (arith, g.0, looseness_positive o))
at_or_below d o q a b ih (suc n) K vs r rs g c h p =
    elim (dec_le (looseness o) n) [
      | yes m ↦ widened n d K (binary o q a b) vs _ _ (at_or_below d o q a b ih n (tail (suc n) d ∷ K) vs r rs (m, g.1, g.2) c (omega arith) p)
      | no m ↦
          let l : looseness o ≡ suc n = omega (arith, g.0) in
          at_level d o q a b ih n K vs r rs l (rw l at g.1) (rw l at g.2) c h p
    ]

pub spread : (d : ℕ) (e : Expr) → Spreads d e
spread d (constant c) = alone d (constant c) tt
spread d (variable x) = alone d (variable x) tt
spread d (call x q xs) = λ n K vs r rs g. alone d (call x q xs) g n K vs r rs g
spread d (bracket q e) = λ n K vs r rs g. alone d (bracket q e) g n K vs r rs g
spread d (unary u p e) = λ n K vs r rs g. alone d (unary u p e) g n K vs r rs g
spread d (binary o q a b) = at_or_below d o q a b (spread d a)
