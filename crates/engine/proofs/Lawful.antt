-- The law of one call, and of calls one after the other.
use Rattle.std.proofs.Common.{◌≡◌, ℕ, ◌+◌, ◌*◌, ◌≤◌, Bool, true, false, cond, not, ltb, List, [], ◌∷◌, length, take, drop, is_some, Some, None, Option, sym, refl, ap, ◌∙◌, subst, zero-add, arith, length-append, length-drop, length-take-le, take_all, ltb-false, le-ltb}
use lib.Seq.{take-append-le}
use Rattle.refusal.specs.Told.{Told, accepted, refused}
use Rattle.boards.specs.Meaning.{Meaning}
use Rattle.lexer.specs.declared.kind.Token.{Token}
use Rattle.lexer.specs.Reading.{reading}
use Rattle.meaning.specs.Trees.{Script}
use Rattle.meaning.specs.Run.{Outcome, run_script}
use Rattle.machine.specs.declared.instruction.Instruction.{Instruction}
use Rattle.machine.specs.Runs.{Kept, Said, Call, fresh, call, says}
use Rattle.machine.proofs.Resuming.{resumes, bounded}
use Rattle.layout.specs.Faithful.{Faithful}
use Rattle.translator.specs.declared.counts.Counts.{Counts}
use Rattle.translator.specs.Translation.{Coded, Taken, Translation}
use Rattle.engine.specs.Views.{Held, ready, records, loaded_of}
use Rattle.engine.specs.Calls.{tick_limit, grant_limit, unless, judged, after, telling, going, gone}
use Rattle.engine.specs.Log.{Log, empty, started, ran, reasons, Accepts, Tells, JudgesGo}
use Rattle.engine.specs.Agreement.{State, state, Progress, fresh_yet, run_on, Running, AgreesOn, Agrees, CountedIn}
use Rattle.engine.specs.Successions.{Request, load, rewind, go, Reply, Performs, Judges, Lawful, Succession, none, first, Logged, SuccessionsAreLawful}
use Rattle.engine.proofs.Sizes.{tokens_few, script_tokens}
use Rattle.engine.proofs.Outcomes.{run_board, run_over, run_tells, run_carried}

-- a state is known by its parts
same_state : (T : State) (e : Held) (code : List Instruction) (b : Meaning) → T.engine ≡ e → T.code ≡ code → T.board ≡ b → state e code b ≡ T
same_state T e code b p q r = ap (λ x. state x code b) (sym p) ∙ ap (λ x. state T.engine x b) (sym q) ∙ ap (λ x. state T.engine T.code x) (sym r)

unchanged : (L : Log) (S T : State) → Agrees L S → T.engine ≡ S.engine → T.code ≡ S.code → T.board ≡ S.board → Agrees L T
unchanged L S T a p q r = subst (Agrees L) (same_state T S.engine S.code S.board p q r) a

not_some : {X : Type 0} (o : Option X) → is_some o ≡ false → o ≡ None
not_some None e = refl
not_some (Some x) e = let z : ◌≡◌ {A = ℕ} 0 1 = cc in let b : ⊥ = omega arith in absurd b

-- A load: the records that it fills are the code, and nothing has run.

-- the first records of the list are the code
filled : (s : Script) (before code : List Instruction) (n : ℕ) (c : Coded s before code n) → take n code ≡ c.code
filled s before code n c =
    ap (take n) c.list ∙ take-append-le n c.code (drop n before) (omega (arith, c.count)) ∙ take_all n c.code (omega (arith, c.count))

-- there are that many
enough : (s : Script) (before code : List Instruction) (n : ℕ) → Coded s before code n → n ≤ length code
enough s before code n c = omega (arith, ap length c.list, length-append c.code (drop n before), c.count)

few_records : (source : List ℕ) (room : ℕ) (before code : List Instruction) (c : Counts) → Taken source room before code c → c.code ≤ 4 * length (reading source).tokens
few_records source room before code c k = omega (arith, k.coded.few, script_tokens source k.script k.means)

load_runs : (source : List ℕ) (room : ℕ) (before : List Instruction) (c : Counts) (L : Log) (T : State) → Taken source room before T.code c →
    T.engine ≡ ready (Some c.code) → Running source (started (Some source) L) T
load_runs source room before c L T k e = record {
  script = k.script;
  means = k.means;
  count = c.code;
  loaded = ap (λ (x : Held). x.loaded) e;
  there = enough k.script before T.code c.code k.coded;
  few = few_records source room before T.code c k;
  faithful =
      let is : loaded_of T.engine T.code ≡ k.coded.code = ap (λ x. loaded_of x T.code) e ∙ filled k.script before T.code c.code k.coded in
      subst (λ x. Faithful x k.script) (sym is) k.coded.faithful;
  progress = fresh_yet (ap (λ (x : Held). x.machine) e) refl refl;
  over = ap (λ (x : Held). is_some x.machine.over) e;
  granted = ap (λ (x : Held). x.granted) e;
  within = omega arith;
}

load_accepts : (source : List ℕ) (room : ℕ) (before code : List Instruction) (c : Counts) → Taken source room before code c → Accepts source room (length before) c
load_accepts source room before code c k = record {
  sized = k.sized;
  script = k.script;
  means = k.means;
  tokens = k.tokens;
  code = omega (arith, few_records source room before code c k, k.tokens);
}

load_lawful : (S : State) (source : List ℕ) (tokens : List Token) (t : Told Counts) (T : State) → Performs S (load source tokens) t T → Lawful S (load source tokens) t T
load_lawful S source tokens (accepted c) T p L a = (
  started (Some source) L,
  (load_accepts source (length tokens) S.code T.code c p.0.translation, refl),
  record { board = p.1 ∙ a.board; engine = load_runs source (length tokens) S.code c L T p.0.translation p.0.engine },
  tt,
)
load_lawful S source tokens (refused n q) T p L a =
    (L, (p.0.translation.1, refl), unchanged L S T a p.0.engine p.0.translation.0 p.1, tt)

-- A rewind: the same code, and nothing has run.

-- something is loaded where the log has a source
loaded_alike : (x : Option (List ℕ)) (L : Log) (S : State) → AgreesOn x L S → is_some S.engine.loaded ≡ is_some x
loaded_alike None L S a = ap (λ (e : Held). is_some e.loaded) a
loaded_alike (Some source) L S a = ap is_some a.loaded

rewind_agrees : (x : Option (List ℕ)) (L : Log) (S T : State) → AgreesOn x L S → T.engine ≡ ready S.engine.loaded → T.code ≡ S.code → AgreesOn x (started x L) T
rewind_agrees None L S T a e c = e ∙ ap (λ (x : Held). ready x.loaded) a
rewind_agrees (Some source) L S T a e c = record {
  script = a.script;
  means = a.means;
  count = a.count;
  loaded = ap (λ (x : Held). x.loaded) e ∙ a.loaded;
  there = omega (arith, a.there, ap length c);
  few = a.few;
  faithful =
      let is : loaded_of S.engine S.code ≡ loaded_of T.engine T.code = ap (loaded_of S.engine) (sym c) ∙ ap (λ x. loaded_of x T.code) (sym e) in
      subst (λ x. Faithful x a.script) is a.faithful;
  progress = fresh_yet (ap (λ (x : Held). x.machine) e) refl refl;
  over = ap (λ (x : Held). is_some x.machine.over) e;
  granted = ap (λ (x : Held). x.granted) e;
  within = omega arith;
}

rewind_after : (S : State) (t : Told (Unit {0})) (T : State) → Performs S rewind t T → (L : Log) → Agrees L S → Agrees (after t (λ _. started L.source L) L) T
rewind_after S (accepted u) T p L a = record { board = p.2 ∙ a.board; engine = rewind_agrees L.source L S T a.engine p.0.engine p.1 }
rewind_after S (refused n q) T p L a = unchanged L S T a p.0.engine p.1 p.2

rewind_lawful : (S : State) (t : Told (Unit {0})) (T : State) → Performs S rewind t T → Lawful S rewind t T
rewind_lawful S t T p L a = (
  after t (λ _. started L.source L) L,
  (p.0.answer ∙ ap (λ x. judged ((not x, 18) ∷ [])) (loaded_alike L.source L S a.engine), refl),
  rewind_after S t T p L a,
  tt,
)

-- A go: a run that waited goes on as if it had had all its ticks from the start, so it is the run of the script.

-- the state after a go
abbrev after_go : State → ℕ → Told Call → State
after_go S ticks g = state (after g (gone S.engine ticks) S.engine) S.code (after g (λ x. x.board) S.board)

-- what the law asks of a go that comes to g
abbrev GoLaw : Log → State → ℕ → Told Call → Type 0
GoLaw L S ticks g = (M : Log) × JudgesGo L ticks (telling says g) M × Agrees M (after_go S ticks g) × CountedIn M (after_go S ticks g) (telling says g)

-- the reasons that are left where something is loaded: 20, 21, 22
abbrev decide : {X : Type 0} → (large over much : Bool) → X → Told X
decide a o d x = cond a (refused 20 0) (cond o (refused 21 0) (cond d (refused 22 0) (accepted x)))

-- 18 and 19 do not arise where the loaded records are in the list
past : {X : Type 0} (o : Option ℕ) (n l : ℕ) (rs : List (Bool × ℕ)) (x : X) → o ≡ Some n → n ≤ l → unless ((not (is_some o), 18) ∷ (ltb l (records o), 19) ∷ rs) x ≡ unless rs x
past None n l rs x e h = let z : ◌≡◌ {A = ℕ} 0 1 = cc in let b : ⊥ = omega arith in absurd b
past (Some m) n l rs x e h = let is : m ≡ n = cc in ap (λ t. cond t (refused 19 0) (unless rs x)) (le-ltb l m (omega arith))

-- the log and the engine refuse for the same reason, or neither does
ways : (L : Log) (S : State) (ticks : ℕ) (a o d : Bool) (x : Call) → judged (reasons L ticks) ≡ decide a o d tt → Agrees L S
    → (o ≡ false → d ≡ false → judged (reasons L ticks) ≡ accepted tt → GoLaw L S ticks (accepted x)) → GoLaw L S ticks (decide a o d x)
ways L S ticks true o d x j a g = (L, (j, refl), a, tt)
ways L S ticks false true d x j a g = (L, (j, refl), a, tt)
ways L S ticks false false true x j a g = (L, (j, refl), a, tt)
ways L S ticks false false false x j a g = g refl refl j

-- a run that is not over goes on to where all its ticks bring it
resume : (code : List Instruction) (L : Log) (k : Kept) (ticks : ℕ) → Progress code L k → is_some k.over ≡ false → call code k L.board ticks ≡ call code fresh L.start (L.granted + ticks)
resume code L k ticks (fresh_yet f g b) o =
    ap (λ x. call code x L.board ticks) f ∙ ap (λ x. call code fresh x ticks) b
    ∙ ap (call code fresh L.start) (sym (zero-add ticks) ∙ ap (λ x. x + ticks) (sym g))
resume code L k ticks (run_on f b) o =
    let still : (call code fresh L.start L.granted).kept.over ≡ None = not_some _ (ap (λ (x : Kept). is_some x.over) (sym f) ∙ o) in
    ap (λ x. call code x L.board ticks) f ∙ ap (λ x. call code (call code fresh L.start L.granted).kept x ticks) b
    ∙ sym (resumes code fresh L.start L.granted ticks still)

module _ (source : List ℕ) (L : Log) (S : State) (ticks : ℕ) (r : Running source L S) where
  abbrev code : List Instruction
  code = loaded_of S.engine S.code

  -- the machine's run of the code, and the script's, with all ticks
  abbrev whole : Call
  whole = call code fresh L.start (L.granted + ticks)

  abbrev meant : Outcome
  meant = run_script r.script L.start (L.granted + ticks)

  code-length : length code ≡ r.count
  code-length = ap (λ n. length (take n S.code)) (ap records r.loaded) ∙ length-take-le r.count S.code r.there

  code_short : length code ≤ 4096
  code_short = omega (arith, code-length, r.few, tokens_few source)

  -- what a go comes to that is accepted
  module _ (c : Call) (is : c ≡ whole) (fits : L.granted + ticks ≤ grant_limit) where
    ran_on : Running source (ran L ticks meant) (after_go S ticks (accepted c))
    ran_on = record {
      script = r.script;
      means = r.means;
      count = r.count;
      loaded = r.loaded;
      there = r.there;
      few = r.few;
      faithful = r.faithful;
      progress = run_on (ap (λ (x : Call). x.kept) is) (sym (run_board code r.script L.start (L.granted + ticks) r.faithful));
      over = ap (λ (x : Call). is_some x.kept.over) is ∙ run_over code r.script L.start (L.granted + ticks) r.faithful;
      granted = ap (λ n. n + ticks) r.granted;
      within = fits;
    }

    go_runs : L.source ≡ Some source → judged (reasons L ticks) ≡ accepted tt → GoLaw L S ticks (accepted c)
    go_runs e j = (
      ran L ticks meant,
      record {
        may = j;
        source = source;
        latest = e;
        script = r.script;
        means = r.means;
        tells = subst (λ x. Tells meant (says x)) (sym is) (run_tells code r.script L.start (L.granted + ticks) r.faithful r.means.checked fits);
        then = refl;
      },
      record {
        board = ap (λ (x : Call). x.board) is ∙ run_board code r.script L.start (L.granted + ticks) r.faithful;
        engine = subst (λ x. AgreesOn x (ran L ticks meant) (after_go S ticks (accepted c))) (sym e) ran_on;
      },
      record {
        carried = ap (λ (x : Call). x.kept.counted) is ∙ run_carried code L.start (L.granted + ticks) fits code_short;
        bounded =
            let n : length code ≡ records S.engine.loaded = code-length ∙ sym (ap records r.loaded) in
            let most = bounded code L.start (L.granted + ticks) in
            subst (λ x. (says x).counted ≤ ((says x).spent + 1) * records S.engine.loaded) (sym is)
            (subst (λ k. (says whole).counted ≤ ((says whole).spent + 1) * k) n most);
      },
    )

go_agrees : (x : Option (List ℕ)) (L : Log) (S : State) (ticks : ℕ) → L.source ≡ x → AgreesOn x L S → Agrees L S → GoLaw L S ticks (going S.engine S.code S.board ticks)
go_agrees None L S ticks e r a =
    let none-loaded : going S.engine S.code S.board ticks ≡ refused 18 0 = ap (λ x. going x S.code S.board ticks) r in
    subst (GoLaw L S ticks) (sym none-loaded)
    (L, (ap (λ x. unless ((not (is_some x), 18) ∷ (ltb tick_limit ticks, 20) ∷ (L.over, 21) ∷ (ltb grant_limit (L.granted + ticks), 22) ∷ []) tt) e, refl), a, tt)
go_agrees (Some source) L S ticks e r a =
    let x = call (loaded_of S.engine S.code) S.engine.machine S.board ticks in
    let o = is_some S.engine.machine.over in
    let d = ltb grant_limit (S.engine.granted + ticks) in
    let here = past S.engine.loaded r.count (length S.code) ((ltb tick_limit ticks, 20) ∷ (o, 21) ∷ (d, 22) ∷ []) x r.loaded r.there in
    let log : judged (reasons L ticks) ≡ decide (ltb tick_limit ticks) o d tt =
    ap (λ y. unless ((not (is_some y), 18) ∷ (ltb tick_limit ticks, 20) ∷ (L.over, 21) ∷ (ltb grant_limit (L.granted + ticks), 22) ∷ []) tt) e
    ∙ ap (λ y. decide (ltb tick_limit ticks) y (ltb grant_limit (L.granted + ticks)) tt) (sym r.over)
    ∙ ap (λ y. decide (ltb tick_limit ticks) o (ltb grant_limit (y + ticks)) tt) (sym r.granted) in
    subst (GoLaw L S ticks) (sym here)
    (ways L S ticks (ltb tick_limit ticks) o d x log a (λ still fits j.
    go_runs source L S ticks r x
    (ap (λ b. call (loaded_of S.engine S.code) S.engine.machine b ticks) a.board ∙ resume (loaded_of S.engine S.code) L S.engine.machine ticks r.progress still)
    (omega (arith, ltb-false grant_limit (S.engine.granted + ticks) fits, r.granted)) e j))

go_lawful : (S : State) (ticks : ℕ) (t : Told Said) (T : State) → Performs S (go ticks) t T → Lawful S (go ticks) t T
go_lawful S ticks t T p L a =
    let g = going S.engine S.code S.board ticks in
    let is : after_go S ticks g ≡ T = same_state T _ _ _ p.0.engine p.1 p.0.board in
    let law = go_agrees L.source L S ticks refl a.engine a in
    subst (λ u. (M : Log) × JudgesGo L ticks u M × Agrees M T × CountedIn M T u) (sym p.0.answer)
    (subst (λ U. (M : Log) × JudgesGo L ticks (telling says g) M × Agrees M U × CountedIn M U (telling says g)) is law)

-- one call
pub lawful : (S : State) (q : Request) (t : Reply q) (T : State) → Performs S q t T → Lawful S q t T
lawful S (load source tokens) t T p = load_lawful S source tokens t T p
lawful S rewind t T p = rewind_lawful S t T p
lawful S (go ticks) t T p = go_lawful S ticks t T p

-- the code list keeps its length
load_length : (before code : List Instruction) (source : List ℕ) (room : ℕ) (t : Told Counts) → Translation source room before code t → length code ≡ length before
load_length before code source room (accepted c) k =
    let d = k.coded in
    omega (arith, ap length d.list, length-append d.code (drop c.code before), length-drop c.code before, d.count, d.fits)
load_length before code source room (refused n p) k = ap length k.0

same_length : (S : State) (q : Request) (t : Reply q) (T : State) → Performs S q t T → length T.code ≡ length S.code
same_length S (load source tokens) t T p = load_length S.code T.code source (length tokens) t p.0.translation
same_length S rewind t T p = ap length p.1
same_length S (go ticks) t T p = ap length p.1

-- whatever log a state agrees with is kept over every succession from there
kept : {S T : State} (slots : ℕ) (L : Log) (calls : Succession S T) → length S.code ≡ slots → Agrees L S → Logged slots L calls
kept slots L none e a = tt
kept slots L (first {S} {T} q t p rest) e a =
    let l = lawful S q t T p L a in
    (l.0, subst (λ n. Judges n L q t l.0) e l.1, l.2, l.3, kept slots l.0 rest (same_length S q t T p ∙ e) l.2)

-- a new engine agrees with the empty log
pub new_agrees : (code : List Instruction) (b : Meaning) → Agrees (empty b) (state (ready None) code b)
new_agrees code b = record { board = refl; engine = refl }

pub successions : SuccessionsAreLawful
successions code b T calls = (new_agrees code b, kept (length code) (empty b) calls refl (new_agrees code b))
