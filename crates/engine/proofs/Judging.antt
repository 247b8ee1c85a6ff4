-- Of each call the log says one thing.
use Rattle.std.proofs.Common.{◌≡◌, ℕ, ◌+◌, List, length, pos, sym, refl, ap, ◌∙◌, subst, arith}
use Rattle.refusal.specs.Told.{Told, accepted, refused}
use Rattle.lexer.specs.declared.kind.Token.{Token}
use Rattle.meaning.specs.Trees.{Script}
use Rattle.meaning.specs.Run.{Outcome, run_script}
use Rattle.meaning.specs.Sources.{lexemes_of, Means}
use Rattle.meaning.proofs.Once.{reads_once}
use Rattle.machine.specs.Runs.{Said}
use Rattle.layout.specs.Faithful.{end_alike}
use Rattle.translator.specs.declared.counts.Counts.{Counts}
use Rattle.translator.specs.Translation.{OneAnswer}
use Rattle.engine.specs.Calls.{after}
use Rattle.engine.specs.Log.{Log, started, ran, Answers}
use Rattle.engine.specs.Successions.{load, rewind, go, Judges, AlikeBy, Alike, OneJudgement}

alike : {X : Type 0} (same : X → X → Type 0) → ((x : X) → same x x) → (t u : Told X) → t ≡ u → AlikeBy same t u
alike same r (accepted x) u e = subst (AlikeBy same (accepted x)) e (r x)
alike same r (refused n p) u e = subst (AlikeBy same (refused n p)) e (refl, refl)

apart : {X : Type 0} {P : Type 0} (t : Told X) (x : X) (n p : ℕ) → t ≡ accepted x → t ≡ refused n p → P
apart t x n p a r = let z : ◌≡◌ {A = ℕ} 0 1 = cc in let b : ⊥ = omega arith in absurd b

-- a source means one script
one_script : (source : List ℕ) (s t : Script) → Means source s → Means source t → s ≡ t
one_script source s t m n = reads_once (lexemes_of source) s t m.reads.script.reads n.reads.script.reads

go_once : (L : Log) (ticks : ℕ) (a b : Said) (M N : Log) → Answers L ticks a M → Answers L ticks b N → Alike (go ticks) (accepted a) (accepted b) × (M ≡ N)
go_once L ticks a b M N x y =
    let sources : x.source ≡ y.source = let e = sym x.latest ∙ y.latest in cc in
    let scripts : x.script ≡ y.script = one_script y.source x.script y.script (subst (λ z. Means z x.script) sources x.means) y.means in
    let runs : run_script x.script L.start (L.granted + ticks) ≡ run_script y.script L.start (L.granted + ticks) =
    ap (λ s. run_script s L.start (L.granted + ticks)) scripts in (
      (
        x.tells.end ∙ ap (λ (o : Outcome). end_alike o.ending) runs ∙ sym y.tells.end,
        x.tells.place ∙ ap (λ (o : Outcome). pos o.place) runs ∙ sym y.tells.place,
        x.tells.spent ∙ ap (λ (o : Outcome). o.spent) runs ∙ sym y.tells.spent,
      ),
      x.then ∙ ap (ran L ticks) runs ∙ sym y.then,
    )

module _ (only : OneAnswer) where
  load_once : (slots : ℕ) (L : Log) (source : List ℕ) (tokens : List Token) (t u : Told Counts) (M N : Log) →
      Judges slots L (load source tokens) t M → Judges slots L (load source tokens) u N → Alike (load source tokens) t u × (M ≡ N)
  load_once slots L source tokens (accepted c) (accepted d) M N x y = (x.0.tokens ∙ sym y.0.tokens, x.1 ∙ sym y.1)
  load_once slots L source tokens (accepted c) (refused m q) M N x y =
      let b : ⊥ = only.none source (length tokens) slots m q x.0.script x.0.sized x.0.means y.0 in absurd b
  load_once slots L source tokens (refused n p) (accepted d) M N x y =
      let b : ⊥ = only.none source (length tokens) slots n p y.0.script y.0.sized y.0.means x.0 in absurd b
  load_once slots L source tokens (refused n p) (refused m q) M N x y = (only.one source (length tokens) slots n p m q x.0 y.0, x.1 ∙ sym y.1)

  pub one_judgement : OneJudgement
  one_judgement slots L (load source tokens) t u M N x y = load_once slots L source tokens t u M N x y
  one_judgement slots L rewind t u M N x y =
      let e : t ≡ u = x.0 ∙ sym y.0 in
      (alike (λ _ _. Unit {0}) (λ _. tt) t u e, x.1 ∙ ap (λ z. after z (λ _. started L.source L) L) e ∙ sym y.1)
  one_judgement slots L (go ticks) (accepted a) (accepted b) M N x y = go_once L ticks a b M N x y
  one_judgement slots L (go ticks) (accepted a) (refused m q) M N x y = apart _ tt m q x.may y.0
  one_judgement slots L (go ticks) (refused n p) (accepted b) M N x y = apart _ tt n p y.may x.0
  one_judgement slots L (go ticks) (refused n p) (refused m q) M N x y =
      (let e = sym x.0 ∙ y.0 in (cc, cc), x.1 ∙ sym y.1)
