-- A run that waits goes on, with more ticks, as if it had had them from the start; and how many instructions a run counts.
use Rattle.std.proofs.Common.{◌≡◌, ℕ, zero, suc, ◌+◌, ◌-◌, ◌*◌, ◌≤◌, Bool, true, false, cond, ltb, List, [], ◌∷◌, length, ℤ, pos, negsuc, Some, None, Option, sym, refl, ap, ◌∙◌, subst, add_assoc, add-mul, suc-add, one-mul, zero-add, arith, ltb-false, ltb-true}
use Rattle.std.specs.List.{slice_get}
use Rattle.boards.specs.Meaning.{Meaning}
use Rattle.ints.specs.Arith.{is_zero}
use Rattle.machine.specs.declared.instruction.Instruction.{Instruction}
use Rattle.machine.specs.Endings.{End, waiting, broken}
use Rattle.machine.specs.Codes.{Operation, plain, ask, jump, jump_if_zero, tick, unknown, operation_of, may_land, place_at}
use Rattle.machine.specs.Operations.{Store, How, goes, ends, waits, breaks, exec, answer}
use Rattle.machine.specs.Steps.{State, at, Next, go, stop, wait, break, go_to, moved, jumped, branched, ticked, performed, fetched, step}
use Rattle.machine.specs.Runs.{Ran, ran, later, Runs, run, Over, Kept, fresh, up_to, begun, Call, over_as, end_as, place_as, called, call_from, call}
use Rattle.machine.specs.Runs.Runs.{by_step, by_stop, by_wait, by_break}
use Rattle.machine.specs.Laws.{Waits, Resumes, Bounded, Stays}
use Rattle.machine.proofs.Falls.{rest, rest_most, Falls, step_falls}
use Rattle.machine.proofs.Equations.{run_go, run_runs}
use Rattle.machine.proofs.Working.{WorksAs, exec_works, answer_works}

-- a state with k more ticks
abbrev pub granted : ℕ → State → State
granted k u = at u.store u.position (u.left + k) u.board

-- a step with k more ticks: the same, unless it waited
abbrev Shifts : ℕ → State → Next → Next → Type 0
Shifts k u (go v) y = y ≡ go (granted k v)
Shifts k u (stop e v) y = e.number ≡ 1 → ⊥
Shifts k u (wait v) y = (v ≡ u) × (u.left ≡ 0)
Shifts k u (break v) y = Unit {0}

module _ (k : ℕ) (code : List Instruction) (u : State) where
  cond_shifts : (t : Bool) (p q x y : Next) → Shifts k u p x → Shifts k u q y → Shifts k u (cond t p q) (cond t x y)
  cond_shifts true p q x y a b = a
  cond_shifts false p q x y a b = b

  moved_shifts : (h : How) (m : Store) (b : Meaning) → WorksAs h u.store m → Shifts k u (moved h u m b) (moved h (granted k u) m b)
  moved_shifts goes m b w = refl
  moved_shifts (ends e) m b w = w.0
  moved_shifts waits m b w = absurd w
  moved_shifts breaks m b w = tt

  jumped_shifts : (a : ℤ) (s : List ℤ) → Shifts k u (jumped code a s u) (jumped code a s (granted k u))
  jumped_shifts (pos t) s = cond_shifts (may_land code u.position t) (go (go_to u s t)) (break u) (go (go_to (granted k u) s t)) (break (granted k u)) refl tt
  jumped_shifts (negsuc t) s = tt

  branched_shifts : (a : ℤ) (s : List ℤ) → Shifts k u (branched code a s u) (branched code a s (granted k u))
  branched_shifts a [] = tt
  branched_shifts a (v ∷ s) = cond_shifts (is_zero v) (jumped code a s u) _ (jumped code a s (granted k u)) _ (jumped_shifts a s) refl

  ticked_shifts : (l : ℕ) → u.left ≡ l → Shifts k u (ticked l u) (ticked (l + k) (granted k u))
  ticked_shifts zero e = (refl, e)
  ticked_shifts (suc l) e = rw suc-add

  performed_shifts : (o : Operation) → Shifts k u (performed code u o) (performed code (granted k u) o)
  performed_shifts (plain o) = moved_shifts (exec o u.store).how _ _ (exec_works o u.store)
  performed_shifts (ask q) = moved_shifts (answer q u.store u.board).did.how _ _ (answer_works q u.store u.board)
  performed_shifts (jump a) = jumped_shifts a u.store.stack
  performed_shifts (jump_if_zero a) = branched_shifts a u.store.stack
  performed_shifts tick = ticked_shifts u.left refl
  performed_shifts unknown = tt

  fetched_shifts : (o : Option Instruction) → Shifts k u (fetched code u o) (fetched code (granted k u) o)
  fetched_shifts None = tt
  fetched_shifts (Some i) = performed_shifts (operation_of i)

  step_shifts : Shifts k u (step code u) (step code (granted k u))
  step_shifts = fetched_shifts (slice_get code u.position)

-- a run that waits has no tick left, and with more it goes on from there
pub record Waited (code : List Instruction) (k : ℕ) (u : State) (r : Ran) : Type 0 where
  pub none_left : r.state.left ≡ 0
  pub goes_on : run code (granted k u) ≡ later r.carried (run code (granted k r.state))

later-later : (m n : ℕ) (r : Ran) → later m (later n r) ≡ later (m + n) r
later-later m n r = ap (λ c. ran r.how r.state c) (sym (add_assoc m n r.carried))

waited_step : (code : List Instruction) (k : ℕ) (u v : State) (r q : Ran) → step code u ≡ go v → Waited code k v q → r ≡ later 1 q → Waited code k u r
waited_step code k u v r q e w s = rw s (record {
  none_left = w.none_left;
  goes_on =
      let shifted : step code (granted k u) ≡ go (granted k v) = subst (λ (x : Next). Shifts k u x (step code (granted k u))) e (step_shifts k code u) in
      run_go code (granted k u) (granted k v) shifted ∙ ap (later 1) w.goes_on ∙ later-later 1 q.carried (run code (granted k q.state));
})

waited_here : (code : List Instruction) (k : ℕ) (u v : State) (r : Ran) → step code u ≡ wait v → r ≡ ran waits v 0 → Waited code k u r
waited_here code k u v r e s = rw s (
    let w = subst (λ (x : Next). Shifts k u x (step code (granted k u))) e (step_shifts k code u) in
    record {
      none_left = rw w.0 w.1;
      goes_on = rw w.0 (ap (λ c. ran (run code (granted k u)).how (run code (granted k u)).state c) (sym (zero-add (run code (granted k u)).carried)));
    })

ends_clash : {X : Type 0} (d : End) (r : Ran) → r.how ≡ waits → r.how ≡ ends d → X
ends_clash d r p q = let z : ◌≡◌ {A = ℕ} 0 1 = cc in let b : ⊥ = omega arith in absurd b

breaks_clash : {X : Type 0} (r : Ran) → r.how ≡ waits → r.how ≡ breaks → X
breaks_clash r p q = let z : ◌≡◌ {A = ℕ} 0 1 = cc in let b : ⊥ = omega arith in absurd b

pub waited : {code : List Instruction} {u : State} {r : Ran} (k : ℕ) → Runs code u r → r.how ≡ waits → Waited code k u r
waited {code} {u} {r} k (by_step {v = v} {q = q} e t s) h = waited_step code k u v r q e (waited k t (sym (ap (λ (x : Ran). x.how) s) ∙ h)) s
waited {code} {u} {r} k (by_stop {e = d} e s) h = ends_clash d r h (ap (λ (x : Ran). x.how) s)
waited {code} {u} {r} k (by_wait {v = v} e s) h = waited_here code k u v r e s
waited {code} {u} {r} k (by_break e s) h = breaks_clash r h (ap (λ (x : Ran). x.how) s)

-- what ended a run did not end it as waiting
abbrev Told : How → Type 0
Told goes = Unit {0}
Told (ends e) = e.number ≡ 1 → ⊥
Told waits = Unit {0}
Told breaks = Unit {0}

told_as : (r : Ran) (h : How) → r.how ≡ h → Told h → Told r.how
told_as r h e t = subst Told (sym e) t

told : {code : List Instruction} {u : State} {r : Ran} → Runs code u r → Told r.how
told {r = r} (by_step {q = q} e t s) = told_as r q.how (ap (λ (x : Ran). x.how) s) (told t)
told {code} {u} {r} (by_stop {e = d} e s) =
    told_as r (ends d) (ap (λ (x : Ran). x.how) s) (subst (λ (x : Next). Shifts 0 u x (step code (granted 0 u))) e (step_shifts 0 code u))
told {r = r} (by_wait e s) = told_as r waits (ap (λ (x : Ran). x.how) s) tt
told {r = r} (by_break e s) = told_as r breaks (ap (λ (x : Ran). x.how) s) tt

-- the count of a run, and that its ticks are only spent
pub record Counted (code : List Instruction) (u : State) (r : Ran) : Type 0 where
  pub within : r.carried + r.state.left * length code ≤ rest code u
  pub spends : r.state.left ≤ u.left

counted_by : (code : List Instruction) (u v : State) (r q : Ran) → step code u ≡ go v → Counted code v q → r ≡ later 1 q → Counted code u r
counted_by code u v r q e c s =
    let f = subst (Falls code u) e (step_falls code u) in
    rw s (record { within = omega (arith, c.within, f.0); spends = omega (arith, c.spends, f.1) })

counted_stop : (code : List Instruction) (u v : State) (r : Ran) (d : End) → step code u ≡ stop d v → r ≡ ran (ends d) v 1 → Counted code u r
counted_stop code u v r d e s =
    let f = subst (Falls code u) e (step_falls code u) in
    rw s (record { within = omega (arith, f.0); spends = f.1 })

counted_wait : (code : List Instruction) (u v : State) (r : Ran) → step code u ≡ wait v → r ≡ ran waits v 0 → Counted code u r
counted_wait code u v r e s =
    let f = subst (Falls code u) e (step_falls code u) in
    rw s (record { within = omega (arith, f.0); spends = f.1 })

counted_break : (code : List Instruction) (u v : State) (r : Ran) → step code u ≡ break v → r ≡ ran breaks v 0 → Counted code u r
counted_break code u v r e s =
    let f = subst (Falls code u) e (step_falls code u) in
    rw s (record { within = omega (arith, f.0); spends = f.1 })

counted : {code : List Instruction} {u : State} {r : Ran} → Runs code u r → Counted code u r
counted {code} {u} {r} (by_step {v = v} {q = q} e t s) = counted_by code u v r q e (counted t) s
counted {code} {u} {r} (by_stop {v = v} {e = d} e s) = counted_stop code u v r d e s
counted {code} {u} {r} (by_wait {v = v} e s) = counted_wait code u v r e s
counted {code} {u} {r} (by_break {v = v} e s) = counted_break code u v r e s

pub run_counted : (code : List Instruction) (u : State) → Counted code u (run code u)
run_counted code u = counted (run_runs code u)

-- the calls
over_none : (h : How) (code : List Instruction) (p : ℕ) → over_as h code p ≡ None → h ≡ waits
over_none goes code p e = let z : ◌≡◌ {A = ℕ} 0 1 = cc in let b : ⊥ = omega arith in absurd b
over_none (ends d) code p e = let z : ◌≡◌ {A = ℕ} 0 1 = cc in let b : ⊥ = omega arith in absurd b
over_none waits code p e = refl
over_none breaks code p e = let z : ◌≡◌ {A = ℕ} 0 1 = cc in let b : ⊥ = omega arith in absurd b

open_by : (h : How) (code : List Instruction) (p : ℕ) → Told h → end_as h ≡ waiting → over_as h code p ≡ None
open_by goes code p t e = let z : ◌≡◌ {A = ℕ} 4 1 = ap (λ (d : End). d.number) e in let b : ⊥ = omega arith in absurd b
open_by (ends d) code p t e = absurd (t (ap (λ (x : End). x.number) e))
open_by waits code p t e = refl
open_by breaks code p t e = let z : ◌≡◌ {A = ℕ} 4 1 = ap (λ (d : End). d.number) e in let b : ⊥ = omega arith in absurd b

open_from : (o : Option Over) (code : List Instruction) (k : Kept) (b : Meaning) (ticks : ℕ) → o ≡ None
    → (call_from o code k b ticks).end ≡ waiting → (call_from o code k b ticks).kept.over ≡ None
open_from (Some o) code k b ticks n e = let z : ◌≡◌ {A = ℕ} 0 1 = cc in let x : ⊥ = omega arith in absurd x
open_from None code k b ticks n e = open_by (run code (begun k b ticks)).how code (run code (begun k b ticks)).state.position (told (run_runs code (begun k b ticks))) e

waiting-from : (o : Option Over) (code : List Instruction) (k : Kept) (b : Meaning) (ticks : ℕ) → k.over ≡ o
    → (call_from o code k b ticks).kept.over ≡ None → (call_from o code k b ticks).end ≡ waiting
waiting-from (Some o) code k b ticks n e = let z : ◌≡◌ {A = ℕ} 0 1 = cc in let x : ⊥ = omega arith in absurd x
waiting-from None code k b ticks n e = ap end_as (over_none (run code (begun k b ticks)).how code (run code (begun k b ticks)).state.position e)

pub waits_or_over : Waits
waits_or_over = record {
  is_open = λ code k b ticks n e. open_from k.over code k b ticks n e;
  while_waiting = λ code k b ticks e. waiting-from k.over code k b ticks refl e;
}

-- a call whose numbers are given
abbrev with : ℕ → ℕ → List Instruction → Ran → Call
with spent count code r = record {
  end = end_as r.how;
  place = place_as r.how code r.state.position;
  kept = record {
    cells = r.state.store.cells;
    stack = r.state.store.stack;
    position = r.state.position;
    spent = spent;
    counted = count;
    over = over_as r.how code r.state.position;
  };
  board = r.state.board;
}

capped : (a b c : ℕ) → up_to (a + (b + c)) ≡ up_to (up_to (a + b) + c)
capped a b c = omega arith

resumes_run : (code : List Instruction) (k : Kept) (b : Meaning) (ticks more : ℕ) (r : Ran) → run code (begun k b ticks) ≡ r → r.how ≡ waits
    → called k (ticks + more) code (run code (begun k b (ticks + more)))
    ≡ called (called k ticks code r).kept more code (run code (begun (called k ticks code r).kept r.state.board more))
resumes_run code k b ticks more r e h =
    let w = waited more (subst (Runs code (begun k b ticks)) e (run_runs code (begun k b ticks))) h in
    let next : State = begun (called k ticks code r).kept r.state.board more in
    let same : granted more r.state ≡ next = ap (λ l. at r.state.store r.state.position l r.state.board) (rw w.none_left (zero-add more)) in
    let whole : run code (begun k b (ticks + more)) ≡ later r.carried (run code next) = w.goes_on ∙ ap (λ u. later r.carried (run code u)) same in
    let l : ℕ = (run code next).state.left in
    let m : l ≤ more = (run_counted code next).spends in
    let none : r.state.left ≡ 0 = w.none_left in
    let s : up_to (k.spent + ((ticks + more) - l)) ≡ up_to (up_to (k.spent + (ticks - r.state.left)) + (more - l)) = omega arith in
    ap (called k (ticks + more) code) whole
    ∙ ap (λ n. with n (up_to (k.counted + (r.carried + (run code next).carried))) code (run code next)) s
    ∙ ap (λ n. with (up_to (up_to (k.spent + (ticks - r.state.left)) + (more - l))) n code (run code next)) (capped k.counted r.carried (run code next).carried)

resumes_from : (o : Option Over) (code : List Instruction) (k : Kept) (b : Meaning) (ticks more : ℕ) → k.over ≡ o
    → (call_from o code k b ticks).kept.over ≡ None
    → call_from o code k b (ticks + more) ≡ call code (call_from o code k b ticks).kept (call_from o code k b ticks).board more
resumes_from (Some o) code k b ticks more e h = let z : ◌≡◌ {A = ℕ} 0 1 = cc in let x : ⊥ = omega arith in absurd x
resumes_from None code k b ticks more e h =
    let r : Ran = run code (begun k b ticks) in
    resumes_run code k b ticks more r refl (over_none r.how code r.state.position h)
    ∙ ap (λ o. call_from o code (called k ticks code r).kept r.state.board more) (sym h)

pub resumes : Resumes
resumes code k b ticks more h = resumes_from k.over code k b ticks more refl h

over_same : (h : How) (code : List Instruction) (p : ℕ) (o : Over) → over_as h code p ≡ Some o → (o.end ≡ end_as h) × (o.place ≡ place_as h code p)
over_same goes code p o e = let z : record { end = broken; place = pos 0 } ≡ o = cc in (rw (sym z) refl, rw (sym z) refl)
over_same (ends d) code p o e = let z : record { end = d; place = place_at code p } ≡ o = cc in (rw (sym z) refl, rw (sym z) refl)
over_same waits code p o e = let z : ◌≡◌ {A = ℕ} 0 1 = cc in let x : ⊥ = omega arith in absurd x
over_same breaks code p o e = let z : record { end = broken; place = pos 0 } ≡ o = cc in (rw (sym z) refl, rw (sym z) refl)

stays_from : (x : Option Over) (code : List Instruction) (k : Kept) (b : Meaning) (ticks : ℕ) (o : Over) → k.over ≡ x
    → (call_from x code k b ticks).kept.over ≡ Some o → (o.end ≡ (call_from x code k b ticks).end) × (o.place ≡ (call_from x code k b ticks).place)
stays_from None code k b ticks o e h = over_same (run code (begun k b ticks)).how code (run code (begun k b ticks)).state.position o h
stays_from (Some x) code k b ticks o e h = let z : x ≡ o = cc in (rw z refl, rw z refl)

pub stays : Stays
stays code k b ticks o h other c more =
    let s = stays_from k.over code k b ticks o refl h in
    let K : Kept = (call code k b ticks).kept in
    ap (λ x. call_from x other K c more) h
    ∙ ap (λ x. record { end = x; place = o.place; kept = K; board = c }) s.0
    ∙ ap (λ x. record { end = (call code k b ticks).end; place = x; kept = K; board = c }) s.1

-- a count stays within its bound where both are capped
bound_suc : (c d n : ℕ) (t : Bool) → ltb 18446744073709551615 d ≡ t → c ≤ d * suc n + suc n → up_to (0 + c) ≤ (up_to (0 + d) + 1) * suc n
bound_suc c d n true t h =
    let high = ltb-true 18446744073709551615 d t in
    let is : up_to (0 + d) ≡ 18446744073709551615 = omega arith in
    rw is (omega arith)
bound_suc c d n false t h =
    let low = ltb-false 18446744073709551615 d t in
    let is : up_to (0 + d) ≡ d = omega arith in
    let e : (d + 1) * suc n ≡ d * suc n + suc n = add-mul d 1 (suc n) ∙ ap (λ x. d * suc n + x) (one-mul (suc n)) in
    rw is (omega (arith, e))

bound : (c d n : ℕ) → c ≤ d * n + n → up_to (0 + c) ≤ (up_to (0 + d) + 1) * n
bound c d zero h = omega arith
bound c d (suc n) h = bound_suc c d n (ltb 18446744073709551615 d) refl h

pub bounded : Bounded
bounded code b ticks =
    let u : State = begun fresh b ticks in
    let r : Ran = run code u in
    let q = run_counted code u in
    let m = rest_most code u in
    let l = r.state.left in
    let d : ticks ≡ (ticks - l) + l = omega (arith, q.spends) in
    let e : ticks * length code ≡ (ticks - l) * length code + l * length code = ap (λ x. x * length code) d ∙ add-mul (ticks - l) l (length code) in
    bound r.carried (ticks - l) (length code) (omega (arith, q.within, m, e))
