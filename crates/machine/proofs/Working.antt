-- What does not go on leaves cells, values, position and ticks as they were.
use Rattle.std.proofs.Common.{◌≡◌, ℕ, zero, suc, ◌+◌, Bool, true, false, cond, ltb, List, [], ◌∷◌, length, get_or, ℤ, pos, negsuc, Some, None, Option, refl, arith, w32}
use Rattle.std.specs.List.{slice_get}
use Rattle.refusal.specs.Told.{Told, accepted, refused}
use Rattle.boards.specs.Meaning.{Meaning, zone_answer, report_answer}
use Rattle.ints.specs.Arith.{is_zero, compute}
use Rattle.ints.specs.declared.operator.Operator.{Operator}
use Rattle.ints.specs.declared.operator.Unary.{Unary}
use Rattle.machine.specs.declared.instruction.Instruction.{Instruction}
use Rattle.machine.specs.Codes.{Plain, push, load, store, discard, binary, unary, give, Query, zone, columns, rows, report, Operation, plain, ask, jump, jump_if_zero, tick, unknown, operation_of, may_land}
use Rattle.machine.specs.Operations.{Store, How, goes, ends, waits, breaks, Did, done, fault, pushed, loaded, stored_top, stored, discarded, computed, combined, turned, given, exec, zoned, zone_of, filed, report_of, answer}
use Rattle.machine.specs.Steps.{State, Next, go, stop, wait, break, go_to, moved, jumped, branched, ticked, performed, fetched, step}

-- by how an operation comes out: none waits, none ends a run as waiting, and what does not go on changes nothing
abbrev pub WorksAs : How → Store → Store → Type 0
WorksAs goes m n = Unit {0}
WorksAs (ends e) m n = (e.number ≡ 1 → ⊥) × (n ≡ m)
WorksAs waits m n = ⊥
WorksAs breaks m n = n ≡ m

abbrev pub Works : Store → Did → Type 0
Works m d = WorksAs d.how m d.store

cond_works : (m : Store) (t : Bool) (d e : Did) → Works m d → Works m e → Works m (cond t d e)
cond_works m true d e p q = p
cond_works m false d e p q = q

pushed_works : (v : ℤ) (m : Store) → Works m (pushed v m)
pushed_works v m = cond_works m (ltb (length m.stack) 256) (done m.cells (v ∷ m.stack)) (fault m) tt refl

loaded_works : (a : ℤ) (m : Store) → Works m (loaded a m)
loaded_works (pos k) m = cond_works m (ltb k 64) (pushed (get_or m.cells k (pos 0)) m) (fault m) (pushed_works _ m) refl
loaded_works (negsuc k) m = refl

top_works : (k : ℕ) (s : List ℤ) (m : Store) → Works m (stored_top k s m)
top_works k [] m = refl
top_works k (v ∷ s) m = tt

stored_works : (a : ℤ) (m : Store) → Works m (stored a m)
stored_works (pos k) m = cond_works m (ltb k 64) (stored_top k m.stack m) (fault m) (top_works k m.stack m) refl
stored_works (negsuc k) m = refl

discarded_works : (s : List ℤ) (m : Store) → Works m (discarded s m)
discarded_works [] m = refl
discarded_works (v ∷ s) m = tt

computed_works : (o : Option ℤ) (s : List ℤ) (m : Store) → Works m (computed o s m)
computed_works None s m = (λ h. omega arith, refl)
computed_works (Some v) s m = tt

combined_works : (o : Operator) (s : List ℤ) (m : Store) → Works m (combined o s m)
combined_works o [] m = refl
combined_works o (r ∷ []) m = refl
combined_works o (r ∷ (l ∷ s)) m = computed_works (compute w32 o l r) s m

turned_works : (u : Unary) (s : List ℤ) (m : Store) → Works m (turned u s m)
turned_works u [] m = refl
turned_works u (v ∷ s) m = tt

given_works : (s : List ℤ) (m : Store) → Works m (given s m)
given_works [] m = refl
given_works (v ∷ s) m = (λ h. omega arith, refl)

pub exec_works : (o : Plain) (m : Store) → Works m (exec o m)
exec_works (push v) m = pushed_works v m
exec_works (load a) m = loaded_works a m
exec_works (store a) m = stored_works a m
exec_works discard m = discarded_works m.stack m
exec_works (binary o) m = combined_works o m.stack m
exec_works (unary u) m = turned_works u m.stack m
exec_works give m = given_works m.stack m

zoned_works : (t : Told ℤ) (s : List ℤ) (m : Store) → Works m (zoned t s m)
zoned_works (accepted v) s m = tt
zoned_works (refused n p) s m = (λ h. omega arith, refl)

zone_works : (s : List ℤ) (m : Store) (b : Meaning) → Works m (zone_of s m b)
zone_works [] m b = refl
zone_works (i ∷ s) m b = zoned_works (zone_answer b i) s m

filed_works : (t : Told (Unit {0})) (s : List ℤ) (m : Store) → Works m (filed t s m)
filed_works (accepted v) s m = tt
filed_works (refused n p) s m = (λ h. omega arith, refl)

report_works : (s : List ℤ) (m : Store) (b : Meaning) → Works m (report_of s m b).did
report_works [] m b = refl
report_works (v ∷ s) m b = filed_works (report_answer b) s m

pub answer_works : (q : Query) (m : Store) (b : Meaning) → Works m (answer q m b).did
answer_works zone m b = zone_works m.stack m b
answer_works columns m b = pushed_works _ m
answer_works rows m b = pushed_works _ m
answer_works report m b = report_works m.stack m b

pub record Same (u v : State) : Type 0 where
  pub store : v.store ≡ u.store
  pub position : v.position ≡ u.position
  pub left : v.left ≡ u.left

abbrev pub Still : State → Next → Type 0
Still u (go v) = Unit {0}
Still u (stop d v) = Same u v
Still u (wait v) = Same u v
Still u (break v) = Same u v

module _ (code : List Instruction) (u : State) where
  here : Same u u
  here = record { store = refl; position = refl; left = refl }

  cond_still : (t : Bool) (x y : Next) → Still u x → Still u y → Still u (cond t x y)
  cond_still true x y p q = p
  cond_still false x y p q = q

  moved_still : (h : How) (m : Store) (b : Meaning) → WorksAs h u.store m → Still u (moved h u m b)
  moved_still goes m b w = tt
  moved_still (ends e) m b w = record { store = w.1; position = refl; left = refl }
  moved_still waits m b w = absurd w
  moved_still breaks m b w = record { store = w; position = refl; left = refl }

  jumped_still : (a : ℤ) (s : List ℤ) → Still u (jumped code a s u)
  jumped_still (pos t) s = cond_still (may_land code u.position t) (go (go_to u s t)) (break u) tt here
  jumped_still (negsuc t) s = here

  branched_still : (a : ℤ) (s : List ℤ) → Still u (branched code a s u)
  branched_still a [] = here
  branched_still a (v ∷ s) = cond_still (is_zero v) (jumped code a s u) (go (go_to u s (u.position + 1))) (jumped_still a s) tt

  ticked_still : (l : ℕ) → Still u (ticked l u)
  ticked_still zero = here
  ticked_still (suc l) = tt

  performed_still : (o : Operation) → Still u (performed code u o)
  performed_still (plain o) = moved_still (exec o u.store).how _ _ (exec_works o u.store)
  performed_still (ask q) = moved_still (answer q u.store u.board).did.how _ _ (answer_works q u.store u.board)
  performed_still (jump a) = jumped_still a u.store.stack
  performed_still (jump_if_zero a) = branched_still a u.store.stack
  performed_still tick = ticked_still u.left
  performed_still unknown = here

  fetched_still : (o : Option Instruction) → Still u (fetched code u o)
  fetched_still None = here
  fetched_still (Some i) = performed_still (operation_of i)

pub step_still : (code : List Instruction) (u : State) → Still u (step code u)
step_still code u = fetched_still code u (slice_get code u.position)
