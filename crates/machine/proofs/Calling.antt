-- From what the loop says to the call.
use Rattle.std.proofs.Common.{◌≡◌, ℕ, ◌+◌, ◌-◌, ◌≤◌, List, None, Ok, Err, Result, refl, sym, ap, ◌∙◌, subst}
use Rattle.boards.specs.Meaning.{Meaning}
use Rattle.machine.specs.declared.instruction.Instruction.{Instruction}
use Rattle.machine.specs.declared.cursor.Cursor.{Cursor}
use Rattle.machine.specs.declared.machine.Machine.{Machine}
use Rattle.machine.specs.declared.memory.Memory.{Memory}
use Rattle.machine.specs.declared.running.Halted.{Halted}
use Rattle.machine.specs.declared.stop.Stop.{Stop}
use Rattle.machine.specs.declared.stop.Stop.TheVariants.{Waits, Ends, Breaks}
use Rattle.machine.specs.Operations.{How}
use Rattle.machine.specs.Steps.{State, Next, go, step}
use Rattle.machine.specs.Runs.{run, Kept, up_to, begun, Call, end_as, place_as, over_as, kept_at, call_from, call, Said, says, on, off, closed, turned, turn_from, turn}
use Rattle.machine.specs.Views.{keeps, state_of, stop_of, stopped, carried_of, next_of}
use Rattle.machine.proofs.Falls.{Falls, step_falls}
use Rattle.machine.proofs.Resuming.{run_counted}

-- what a call answers and leaves, by how its run came out
abbrev shape : Kept → ℕ → List Instruction → How → State → ℕ → Call
shape k ticks code h u count = record {
  end = end_as h;
  place = place_as h code u.position;
  kept = record {
    cells = u.store.cells;
    stack = u.store.stack;
    position = u.position;
    spent = up_to (k.spent + (ticks - u.left));
    counted = count;
    over = over_as h code u.position;
  };
  board = u.board;
}

module _ (k : Kept) (code : List Instruction) (b c : Meaning) (ticks : ℕ) (m : Memory) (h : Halted)
    (how : stop_of h.stop ≡ (run code (begun k b ticks)).how)
    (state : state_of m h.at c ≡ (run code (begun k b ticks)).state)
    (counted : h.counted ≡ up_to (k.counted + (run code (begun k b ticks)).carried)) where
  pub call_is : k.over ≡ None → shape k ticks code (stop_of h.stop) (state_of m h.at c) h.counted ≡ call code k b ticks
  call_is none =
      ap (λ n. shape k ticks code (stop_of h.stop) (state_of m h.at c) n) counted
      ∙ ap (λ u. shape k ticks code (stop_of h.stop) u (up_to (k.counted + (run code (begun k b ticks)).carried))) state
      ∙ ap (λ x. shape k ticks code x (run code (begun k b ticks)).state (up_to (k.counted + (run code (begun k b ticks)).carried))) how
      ∙ ap (λ o. call_from o code k b ticks) (sym none)

  pub left_within : h.at.left ≤ ticks
  left_within = rw (ap (λ (u : State). u.left) state) (run_counted code (begun k b ticks)).spends

-- where a run that is not over begins
pub begun_is : (m : Machine) (from : Cursor) (b : Meaning) (ticks : ℕ) → (m.over ≡ None) × (from.position ≡ m.position) × (from.height ≡ m.height) × (from.left ≡ ticks)
    → state_of m.memory from b ≡ begun (keeps m) b ticks
begun_is m from b ticks h = rw (h.1, h.2, h.3)

-- a step spends ticks at most, however it comes out
falls_left : (code : List Instruction) (u v : State) (r : Result (Unit {0}) Stop) → Falls code u (next_of r v v) → v.left ≤ u.left
falls_left code u v (Ok x) h = h.1
falls_left code u v (Err Waits) h = h.1
falls_left code u v (Err (Ends e)) h = h.1
falls_left code u v (Err Breaks) h = h.1

pub step_within : (code : List Instruction) (u v : State) (r : Result (Unit {0}) Stop) → next_of r v v ≡ step code u → v.left ≤ u.left
step_within code u v r e = falls_left code u v r (subst (Falls code u) (sym e) (step_falls code u))

-- a step of a machine that is not over
module _ (k : Kept) (code : List Instruction) (b : Meaning) (ticks : ℕ) (none : k.over ≡ None) where
  pub turn_is : (x : Next) → step code (begun k b ticks) ≡ x → turned k ticks code x ≡ turn code k b ticks
  turn_is x e = ap (turned k ticks code) (sym e) ∙ ap (λ o. turn_from o code k b ticks) (sym none)

  -- a step that goes on
  pub on_is : (v : State) (l : Kept) → step code (begun k b ticks) ≡ go v → l ≡ kept_at k ticks v 1 None → on v.left l v.board ≡ turn code k b ticks
  on_is v l e q = ap (λ (x : Kept). on v.left x v.board) q ∙ turn_is (go v) e

  -- a step that stops
  closed_is : (s : Stop) (v : State) → closed (shape k ticks code (stop_of s) v (up_to (k.counted + carried_of s))) ≡ turned k ticks code (stopped s v)
  closed_is Waits v = refl
  closed_is (Ends e) v = refl
  closed_is Breaks v = refl

  pub off_is : (h : Stop) (v : State) (n : ℕ) (s : Said) (l : Kept) → step code (begun k b ticks) ≡ stopped h v → n ≡ up_to (k.counted + carried_of h)
      → s ≡ says (shape k ticks code (stop_of h) v n) → l ≡ (shape k ticks code (stop_of h) v n).kept → off s l v.board ≡ turn code k b ticks
  off_is h v n s l e c p q =
      ap (λ x. off x l v.board) p ∙ ap (λ x. off (says (shape k ticks code (stop_of h) v n)) x v.board) q
      ∙ ap (λ x. closed (shape k ticks code (stop_of h) v x)) c ∙ closed_is h v ∙ turn_is (stopped h v) e
