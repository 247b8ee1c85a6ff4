-- A list of lexemes is written by the trees of a stack in at most one way; so it reads as at most one script.
use Rattle.std.proofs.Common.{◌≡◌, ℕ, List, [], ◌∷◌, sym, refl, ap, ◌∙◌}
use mathlib.Core.Option.{some}
use Rattle.lexer.specs.Lexeme.{Lexeme}
use Rattle.meaning.specs.Trees.{Script}
use Rattle.meaning.specs.Written.{script_lexemes}
use Rattle.meaning.specs.Depths.{script_depths}
use Rattle.meaning.specs.Grammar.{Grammatical, ReadsAs}
use Rattle.meaning.specs.Unique.{Unique}
use Rattle.meaning.proofs.Tokens.{tok_of}
use Rattle.meaning.proofs.Stack.{Sym, script, Values, Step, stop, on, step}
use Rattle.meaning.proofs.Parsed.{Parsed, After, Blank}
use Rattle.meaning.proofs.Moves.{moves}

blank_same : (K : List Sym) (vs ws : Values K) → Blank K vs → Blank K ws → vs ≡ ws
blank_same [] vs ws a b = refl
blank_same (A ∷ K) vs ws a b =
    let e : some vs.0 ≡ some ws.0 = sym a.0 ∙ b.0 in
    let x : vs.0 ≡ ws.0 = cc in
    let y = blank_same K vs.1 ws.1 a.1 b.1 in
    λ i. (x i, y i)

-- the trees, and the depths, of a list of lexemes are the only ones
pub same_trees : (ls : List Lexeme) (K : List Sym) (vs ws : Values K) (ds es : List ℕ) → Parsed K vs ls ds → Parsed K ws ls es → (vs ≡ ws) × (ds ≡ es)
same_trees [] K vs ws ds es p q =
    let a = moves K vs [] ds p in let b = moves K ws [] es q in
    (blank_same K vs ws a.2 b.2, a.1 ∙ sym b.1)
same_trees (l ∷ ls) K vs ws ds es p q = go (step K (tok_of l)) (moves K vs (l ∷ ls) ds p) (moves K ws (l ∷ ls) es q) (same_trees ls)
  where
    go : (s : Step K) → After s vs ls ds → After s ws ls es → ((L : List Sym) (xs ys : Values L) (cs bs : List ℕ) → Parsed L xs ls cs → Parsed L ys ls bs → (xs ≡ ys) × (cs ≡ bs)) → (vs ≡ ws) × (ds ≡ es)
    go stop a b ih = absurd a
    go (on d L f) a b ih =
        let i = ih L a.0 b.0 a.1 b.1 a.4 b.4 in
        (a.3 ∙ ap f i.0 ∙ sym b.3, a.2 ∙ ap (λ (x : List ℕ). d ∷ x) i.1 ∙ sym b.2)

-- a script as the one tree of the first stack
pub parsed_script : (s : Script) → Grammatical s → Parsed (script ∷ []) (s, tt) (script_lexemes s) (script_depths s)
unfolding script_lexemes script_depths
parsed_script s g = record { rest = []; depths = []; fine = g; lexemes = refl; marks = refl; ends = tt; after = (refl, refl) }

pub script_parsed : (vs : Values (script ∷ [])) (ls : List Lexeme) (ds : List ℕ) → Parsed (script ∷ []) vs ls ds
    → Grammatical vs.0 × (script_lexemes vs.0 ≡ ls) × (script_depths vs.0 ≡ ds)
unfolding script_lexemes script_depths
script_parsed vs ls ds p =
    let a = p.after.0 in let b = p.after.1 in
    (p.fine, rw a at (sym p.lexemes), rw b at (sym p.marks))

pub reads_parsed : (ls : List Lexeme) (s : Script) → ReadsAs ls s → Parsed (script ∷ []) (s, tt) ls (script_depths s)
reads_parsed ls s r = rw r.lexemes at (parsed_script s r.grammatical)

pub reads_once : Unique
reads_once ls s t a b = ap (λ (vs : Values (script ∷ [])). vs.0) (same_trees ls (script ∷ []) (s, tt) (t, tt) (script_depths s) (script_depths t) (reads_parsed ls s a) (reads_parsed ls t b)).0
