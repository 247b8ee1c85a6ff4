-- The code of a whole script is faithful to it.
use Rattle.std.proofs.Common.{◌≡◌, ℕ, ◌+◌, ◌<◌, ◌≤◌, false, List, [], ◌∷◌, ◌++◌, length, set, replicate, ℤ, pos, Some, None, Option, sym, refl, ap, ◌∙◌, subst, append_assoc, add_assoc, zero-add, arith, length-append, length-set}
use Rattle.refusal.specs.Told.{accepted}
use Rattle.std.specs.List.{slice_get}
use Rattle.boards.specs.Meaning.{Meaning}
use Rattle.meaning.specs.declared.operator.Scalar.{Scalar}
use Rattle.meaning.specs.Trees.{Ident, Constant, number, character, truth, Item, extern, global, Script}
use Rattle.meaning.specs.Scopes.{Callee, main, Names, level, function, cells}
use Rattle.meaning.specs.Scopes
use Rattle.meaning.specs.Types.{constant_type, parameter_types, listed}
use Rattle.meaning.specs.Check.{Scope, declared, check_item, check_items, check_stmts, check_script}
use Rattle.meaning.specs.Values.{Value, value_type, constant_value}
use Rattle.meaning.specs.Run
use Rattle.meaning.specs.Run.{Ending, returned, waiting, divided, stuck, State, Flow, next, broke, continued, ended, run_all, declare_listed, declare_items, Outcome, outcome, finished, start, run_script}
use Rattle.meaning.proofs.Erased.{erase}
use Rattle.meaning.proofs.Follows.{HoldsF, run_all_holds}
use Rattle.meaning.proofs.Fits.{false_true, same_type_lem}
use Rattle.meaning.proofs.Sound
use Rattle.machine.specs.declared.instruction.Instruction.{Instruction}
use Rattle.machine.specs.Operations.{How}
use Rattle.machine.specs.Steps as Machine
use Rattle.machine.specs.Steps.{go, stop, wait, step}
use Rattle.machine.specs.Runs.{Ran, ran, later, fresh, begun, end_as, place_as}
use Rattle.machine.specs.Runs
use Rattle.machine.proofs.Equations.{run_go, run_stop, run_wait}
use Rattle.layout.specs.Faithful.{end_alike, Alike, Faithful}
use Rattle.layout.proofs.Compiled.{ins, held, literal_code, scope_listed, items_scope, items_end, items_code, main_scope, stmts_end, stmts_code, script_code}
use Rattle.layout.proofs.Walk.{mach, Stands, after, cut, Steps, here, on, joined, push_goes, store_goes, step_is}
use Rattle.layout.proofs.Ends.{stmts_after}
use Rattle.layout.proofs.Holds.{Holds, cells-erase, holds_new}
use Rattle.layout.proofs.Room.{stmts_need}
use Rattle.layout.proofs.Expressions.{Halts, Stopped, place_is}
use Rattle.layout.proofs.Statements.{At, AfterF, Good, defined-room, run_all_after}

later-none : (r : Ran) → r ≡ later 0 r
later-none r = ap (ran r.how r.state) (sym (zero-add r.carried))

later_more : (n : ℕ) (r : Ran) → later 1 (later n r) ≡ later (1 + n) r
later_more n r = ap (ran r.how r.state) (sym (add_assoc 1 n r.carried))

-- where a walk leads, the run leads, some instructions later
run_walks : {C : List Instruction} {u v : Machine.State} → Steps C u v → (n : ℕ) × (Runs.run C u ≡ later n (Runs.run C v))
run_walks {C} {u} here = (0, later-none (Runs.run C u))
run_walks {C} (on {u} {v} {w = x} e w) = let r = run_walks w in (1 + r.0, run_go C u v e ∙ ap (later 1) r.1 ∙ later_more r.0 (Runs.run C x))

-- the run's end, where its last step is a stop or a wait
alike_end : (C : List Instruction) (u : Machine.State) (x : Ending) (p : ℕ) (N : State) (ticks : ℕ) (h : How) (k : ℕ) (g : Halts C u x p N) →
    Runs.run C g.before ≡ ran h g.end k → end_as h ≡ end_alike x → place_as h C g.end.position ≡ pos p → N.left + N.spent ≡ ticks → Alike C ticks (outcome x p N) (Runs.run C u)
alike_end C u x p N ticks h k g e a b t =
    let w = run_walks g.walk in
    let r : Runs.run C u ≡ later w.0 (ran h g.end k) = w.1 ∙ ap (later w.0) e in
    let l = g.left in
    rw r (record { ending = a; place = b; spent = omega arith; board = g.board })

stopped_alike : (C : List Instruction) (u : Machine.State) (x : Ending) (p : ℕ) (N : State) (ticks : ℕ) → Stopped C u x p N → (x ≡ stuck → ⊥) → N.left + N.spent ≡ ticks →
    Alike C ticks (outcome x p N) (Runs.run C u)
stopped_alike C u (returned v) p N ticks g n t = alike_end C u (returned v) p N ticks _ 1 g (run_stop C g.before g.end _ g.stops) refl g.place t
stopped_alike C u waiting p N ticks g n t = alike_end C u waiting p N ticks _ 0 g (run_wait C g.before g.end g.stops) refl g.place t
stopped_alike C u divided p N ticks g n t = alike_end C u divided p N ticks _ 1 g (run_stop C g.before g.end _ g.stops) refl g.place t
stopped_alike C u (Run.board k) p N ticks g n t = alike_end C u (Run.board k) p N ticks _ 1 g (run_stop C g.before g.end _ g.stops) refl g.place t
stopped_alike C u stuck p N ticks g n t = absurd (n refl)

-- code stands in itself
nth_middle : (before : List Instruction) (i : Instruction) (is : List Instruction) → slice_get (before ++ (i ∷ is)) (length before) ≡ Some i
nth_middle [] i is = refl
nth_middle (b ∷ bs) i is = nth_middle bs i is

stands_behind : (before is : List Instruction) → Stands (before ++ is) (length before) is
stands_behind before [] = tt
stands_behind before (i ∷ is) =
    let h = stands_behind (before ++ (i ∷ [])) is in
    let a : (before ++ (i ∷ [])) ++ is ≡ before ++ (i ∷ is) = append_assoc before (i ∷ []) is in
    let l : length (before ++ (i ∷ [])) ≡ length before + 1 = length-append before (i ∷ []) in
    (nth_middle before i is, rw (a, l) at h)

pub stands_whole : (C : List Instruction) → Stands C 0 C
stands_whole C = stands_behind [] C

-- the globals

pub items_end_lem : (is : List Item) (Γ : Scope) (o : ℕ) → after (items_code is Γ) o ≡ items_end is o
unfolding items_code items_end
items_end_lem [] Γ o = refl
items_end_lem (extern q t x a ∷ is) Γ o = items_end_lem is _ o
items_end_lem (global s q t x c ∷ is) Γ o = items_end_lem is _ (o + 1 + 1)

declared_scope : (x : Ident) (f : Option Callee) (Γ Δ : Scope) → declared x f Γ ≡ accepted Δ → (Δ ≡ scope_listed f Γ) × (cells Δ ≡ cells Γ)
unfolding declared cells
declared_scope x None Γ Δ h = Sound.refused_accepted h
declared_scope x (Some f) Γ Δ h = let i = Sound.then_passed _ _ Δ h in let e : function f ∷ Γ ≡ Δ = let g = i.2 in cc in (sym e, ap cells (sym e))

-- what the globals' code does
record Set (C : List Instruction) (u : Machine.State) (ns : Names Value) (o l : ℕ) (b : Meaning) : Type 0 where
  memory : List ℤ
  sized : length memory ≡ 64
  holds : Holds ns memory
  walk : Steps C u (mach memory [] o l b)

set_later : {C : List Instruction} {u v : Machine.State} {ns : Names Value} {o l : ℕ} {b : Meaning} → Steps C u v → Set C v ns o l b → Set C u ns o l b
set_later w h = record { memory = h.memory; sized = h.sized; holds = h.holds; walk = joined w h.walk }

literal_is : (c : Constant) → (p : ℕ) × (literal_code c ≡ ins 0 (held (constant_value c)) p)
literal_is (number v p) = (p, refl)
literal_is (character v p) = (p, refl)
literal_is (truth v p) = (p, refl)

holds-listed : (f : Option Callee) (ns : Names Value) (c : List ℤ) → Holds ns c → Holds (declare_listed f ns) c
unfolding declare_listed
holds-listed None ns c h = h
holds-listed (Some f) ns c h = h

erase-listed : (f : Option Callee) (ns : Names Value) (Γ : Scope) → erase ns ≡ Γ → erase (declare_listed f ns) ≡ scope_listed f Γ
unfolding declare_listed
erase-listed None ns Γ e = e
erase-listed (Some f) ns Γ e = ap (◌∷◌ (function f)) e

module _ (C : List Instruction) (l : ℕ) (b : Meaning) where
  items_walk : (is : List Item) (Γ Δ : Scope) (ns : Names Value) (c : List ℤ) (o : ℕ) → check_items is Γ ≡ accepted Δ → erase ns ≡ Γ → length c ≡ 64 → Holds ns c →
      Stands C o (items_code is Γ) → Set C (mach c [] o l b) (declare_items is ns) (items_end is o) l b
  unfolding check_items check_item items_code items_end declare_items
  items_walk [] Γ Δ ns c o h e z g st = record { memory = c; sized = z; holds = g; walk = here }
  items_walk (extern q t x a ∷ is) Γ Δ ns c o h e z g st =
      let i = Sound.then_passed _ _ Δ h in
      let f = listed x.bytes t (parameter_types a) in
      let d = (declared_scope x f Γ i.0 i.1).0 in
      items_walk is (scope_listed f Γ) Δ (declare_listed f ns) c o (rw d at i.2) (erase-listed f ns Γ e) z (holds-listed f ns c g) st
  items_walk (global s q t x k ∷ is) Γ Δ ns c o h e z g st =
      let i = Sound.then_passed _ _ Δ h in
      let j = Sound.then_passed _ _ i.0 i.1 in
      let d = (Sound.defined-leave x t Γ i.0 j.2).0 in
      let r = defined-room C x t Γ i.0 j.2 in
      let n : cells ns ≡ cells Γ = sym (cells-erase ns) ∙ ap cells e in
      let v = constant_value k in
      let y : value_type v ≡ t = Sound.ConstantTyped k ∙ same_type_lem (constant_type k) t (Sound.needs_passed _ _ _ j.0 j.1) in
      let w = literal_is k in
      let c2 = set c (cells Γ) (held v) in
      set_later
      (on (push_goes C c [] o l b (held v) w.0 (st.0 ∙ ap Some w.1) (omega arith))
      (on (store_goes C c [] (o + 1) l b (held v) (cells Γ) x.place st.1.0 r) here))
      (items_walk is (Scopes.variable x.bytes t ∷ Γ) Δ (Scopes.variable x.bytes v ∷ ns) c2 (o + 1 + 1) (rw d at i.2) (cc) (length-set c (cells Γ) (held v) ∙ z)
      (rw (sym n) (holds_new x.bytes v ns c (omega arith) g)) st.1.1)

one_more : (x : List ℕ) (t : Scalar) (Γ : Scope) → cells Γ < 64 → cells (Scopes.variable x t ∷ Γ) ≤ 64
unfolding cells
one_more x t Γ h = h

-- the check and the code agree on the globals' names, which take no more than 64 cells
items_scope_lem : (is : List Item) (Γ Δ : Scope) → check_items is Γ ≡ accepted Δ → cells Γ ≤ 64 → (Δ ≡ items_scope is Γ) × (cells Δ ≤ 64)
unfolding check_items check_item items_scope
items_scope_lem [] Γ Δ h f = let e : Γ ≡ Δ = cc in (sym e, subst (λ (D : Scope). cells D ≤ 64) e f)
items_scope_lem (extern q t x a ∷ is) Γ Δ h f =
    let i = Sound.then_passed _ _ Δ h in
    let g = listed x.bytes t (parameter_types a) in
    let d = declared_scope x g Γ i.0 i.1 in
    let w : cells (scope_listed g Γ) ≡ cells Γ = ap cells (sym d.0) ∙ d.1 in
    items_scope_lem is (scope_listed g Γ) Δ (rw d.0 at i.2) (omega arith)
items_scope_lem (global s q t x k ∷ is) Γ Δ h f =
    let i = Sound.then_passed _ _ Δ h in
    let j = Sound.then_passed _ _ i.0 i.1 in
    let d = (Sound.defined-leave x t Γ i.0 j.2).0 in
    items_scope_lem is (Scopes.variable x.bytes t ∷ Γ) Δ (rw d at i.2) (one_more x.bytes t Γ (defined-room [] x t Γ i.0 j.2))

-- main's closing brace
closing_alike : (C : List Instruction) (u : Machine.State) (N : State) (z q ticks : ℕ) → At C u N z → Stands C z (ins 0 (pos 0) q ∷ ins 21 (pos 0) q ∷ []) → N.left + N.spent ≡ ticks →
    Alike C ticks (outcome (returned (pos 0)) q N) (Runs.run C u)
closing_alike C u N z q ticks h st t =
    let c = h.memory in
    let e = mach c (pos 0 ∷ []) (z + 1) N.left N.board in
    stopped_alike C u (returned (pos 0)) q N ticks (record {
      before = e;
      end = e;
      walk = joined h.walk (on (push_goes C c [] z N.left N.board (pos 0) q st.0 (omega arith)) here);
      stops = step_is C e (ins 21 (pos 0) q) st.1.0;
      place = place_is C (z + 1) 21 q (pos 0) st.1.0;
      left = refl;
      board = refl;
    }) (λ x. let n : ◌≡◌ {A = ℕ} 0 1 = cc in omega arith) t

finished_alike : (C : List Instruction) (u : Machine.State) (S : State) (Γ Δ : Scope) (z k t q ticks : ℕ) (a : Flow) → AfterF C u z k t a → Sound.TypedF false Γ Δ a → HoldsF S a →
    ((finished a q).ending ≡ stuck → ⊥) → S.left + S.spent ≡ ticks → Stands C z (ins 0 (pos 0) q ∷ ins 21 (pos 0) q ∷ []) → Alike C ticks (finished a q) (Runs.run C u)
unfolding finished
finished_alike C u S Γ Δ z k t q ticks (next N) h y f n e st = closing_alike C u N z q ticks h st (f.ticks ∙ e)
finished_alike C u S Γ Δ z k t q ticks (broke N) h y f n e st = false_true y.0
finished_alike C u S Γ Δ z k t q ticks (continued N) h y f n e st = false_true y.0
finished_alike C u S Γ Δ z k t q ticks (ended x p N) h y f n e st = stopped_alike C u x p N ticks h n (f.0.ticks ∙ e)

-- a run that walks from u to v ends as from v
alike_later : (C : List Instruction) (u v : Machine.State) (ticks : ℕ) (o : Outcome) → Steps C u v → Alike C ticks o (Runs.run C v) → Alike C ticks o (Runs.run C u)
alike_later C u v ticks o w h =
    let r = run_walks w in rw r.1 (record { ending = h.ending; place = h.place; spent = h.spent; board = h.board })

pub faithful : (s : Script) → check_script s ≡ accepted tt → stmts_need s.body ≤ 256 → Faithful (script_code s) s
unfolding check_script script_code run_script start cells
faithful s h n b ticks =
    let C = script_code s in
    let o = items_end s.items 0 in
    let i = Sound.then_passed (check_items s.items (level ∷ [])) _ tt h in
    let y = items_scope_lem s.items (level ∷ []) i.0 i.1 (omega arith) in
    let m = Sound.then_passed (check_stmts s.body false (level ∷ function main ∷ level ∷ i.0)) _ tt i.2 in
    let Γ = main_scope s in
    let body : check_stmts s.body false Γ ≡ accepted m.0 = ap (λ (G : Scope). check_stmts s.body false (level ∷ function main ∷ level ∷ G)) (sym y.0) ∙ m.1 in
    let few : cells (items_scope s.items (level ∷ [])) ≤ 64 = subst (λ (G : Scope). cells G ≤ 64) y.0 y.1 in
    let st = cut C (items_code s.items (level ∷ [])) _ 0 (stands_whole C) in
    let st1 = rw (items_end_lem s.items (level ∷ []) 0) at st.1 in
    let st2 = cut C (stmts_code s.body Γ o 0 0) _ o st1 in
    let st3 = rw (stmts_after s.body Γ o 0 0) at st2.1 in
    let w = items_walk C ticks b s.items (level ∷ []) i.0 (level ∷ []) (replicate 64 (pos 0)) 0 i.1 refl refl tt st.0 in
    let S = start s b ticks in
    let e : erase S.names ≡ Γ = ap (λ (r : Scope). level ∷ function main ∷ level ∷ r) (Sound.items_typed s.items (level ∷ []) i.0 (level ∷ []) i.1 refl ∙ y.0) in
    let g : Good C Γ S w.memory = record { erased = e; sized = w.sized; holds = w.holds } in
    let z = stmts_end s.body Γ o in
    alike_later C _ (mach w.memory [] o ticks b) ticks _ w.walk
    (finished_alike C _ S Γ m.0 z 0 0 s.close ticks (run_all s.body S)
    (run_all_after C s.body false Γ m.0 body few n o 0 0 (λ x. false_true x) st2.0 S w.memory g)
    (Sound.run_all_typed s.body false Γ m.0 body S e) (run_all_holds s.body S) (Sound.checked_never_stuck s b ticks h) (omega arith) st3)
