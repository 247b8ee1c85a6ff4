-- The machine's verdict on lexemes: it stops at the first token that it does not take, and where something too deep begins.
use Rattle.std.proofs.Common.{ℕ, suc, cond, ltb, List, [], ◌∷◌}
use Rattle.lexer.specs.Lexeme.{Lexeme}
use Rattle.meaning.proofs.Tokens.{tok_of}
use Rattle.meaning.proofs.Stack.{Sym, Step, stop, on, step, closed}

-- accepted, or refused by number at a token
pub data Outcome : Type 0 where
  accepted : Outcome
  refused : (number at : ℕ) → Outcome

abbrev pub decide : {K : List Sym} → Step K → ℕ → (List Sym → Outcome) → Outcome
decide stop i k = refused 9 i
decide (on d L f) i k = cond (ltb 32 d) (refused 10 i) (k L)

-- the verdict on lexemes of which the first is token i
unfoldable pub judge : List Sym → ℕ → List Lexeme → Outcome
judge K i [] = cond (closed K) accepted (refused 9 i)
judge K i (l ∷ ls) = decide (step K (tok_of l)) i (λ L. judge L (suc i) ls)
