-- From what an instruction's function says to the step.
use Rattle.std.proofs.Common.{◌≡◌, ℕ, ◌+◌, ◌<◌, ◌≤◌, List, length, get_or, ℤ, pos, negsuc, Some, Ok, Err, Result, refl, ap, ◌∙◌, w32, SFits, of_z}
use Rattle.std.proofs.lemmas.List.{get_or_past}
use Rattle.std.proofs.lemmas.Option.{slice_get-get_or, slice_get_past}
use Rattle.std.specs.List.{slice_get}
use Rattle.std.specs.Result.{IsErrAnd}
use Rattle.boards.specs.Meaning.{Meaning}
use Rattle.machine.specs.declared.cursor.Cursor.{Cursor}
use Rattle.machine.specs.declared.instruction.Instruction.{Instruction}
use Rattle.machine.specs.declared.memory.Memory.{Memory}
use Rattle.machine.specs.declared.stop.Stop.{Stop}
use Rattle.machine.specs.declared.stop.Stop.TheVariants.{Waits, Ends, Breaks}
use Rattle.machine.specs.Codes.{Operation, unknown, operations, decode, operation_of}
use Rattle.machine.specs.Operations.{Store, Did, Reply}
use Rattle.machine.specs.Steps.{State, at, break, moved, performed, step}
use Rattle.machine.specs.Views.{store_of, state_of, stop_of, stopped, next_of, after, fetched_at, Moves, Asks}

stopped_is : (s : Stop) (u : State) (m : Store) (b : Meaning) → stopped s (at m u.position u.left b) ≡ moved (stop_of s) u m b
stopped_is Waits u m b = refl
stopped_is (Ends e) u m b = refl
stopped_is Breaks u m b = refl

-- an operation that needs no jump and no tick, with the board before and after it
pub moved_is : (from : ℕ) (next to : Cursor) → next.position ≡ from + 1 → (m n : Memory) (b c : Meaning) (d : Did) (r : Result (Unit {0}) Stop)
    → Moves d next to n r → next_of r (fetched_at n next from c) (state_of n to c) ≡ moved d.how (fetched_at m next from b) d.store c
moved_is from next to p m n b c d (Ok x) w =
    rw (w.1.position, w.1.left, p) (ap (λ (e : Did). moved e.how (fetched_at m next from b) e.store c) w.0)
moved_is from next to p m n b c d (Err s) w =
    stopped_is s (fetched_at m next from b) (store_of n next.height) c ∙ ap (λ (e : Did). moved e.how (fetched_at m next from b) e.store c) w

pub asked_is : (from : ℕ) (next to : Cursor) → next.position ≡ from + 1 → (m n : Memory) (b c : Meaning) (a : Reply) (r : Result (Unit {0}) Stop)
    → Asks a next to n c r → next_of r (fetched_at n next from c) (state_of n to c) ≡ moved a.did.how (fetched_at m next from b) a.did.store a.board
asked_is from next to p m n b c a r w = moved_is from next to p m n b c a.did r w.moves ∙ ap (moved a.did.how (fetched_at m next from b) a.did.store) w.board

-- what stands at the position is carried out
pub fetched_is : (code : List Instruction) (u : State) (i : Instruction) → slice_get code u.position ≡ Some i → (z : ℤ) → i.code ≡ z
    → performed code u (decode z i.operand) ≡ step code u
fetched_is code u i here z e = rw (here, e)

module _ (code : List Instruction) (from : Cursor) (d : Instruction) (inside : from.position < length code) where
  pub by_operation : (m : Memory) (b : Meaning) (o : Operation) → operation_of (get_or code from.position d) ≡ o → step code (state_of m from b) ≡ performed code (state_of m from b) o
  by_operation m b o e = rw (slice_get-get_or code from.position d inside, e)

-- an instruction by its code
pub decoded : (i : Instruction) (n : ℕ) → i.code ≡ pos n → operation_of i ≡ get_or (operations i.operand) n unknown
decoded i n e = ap (λ z. decode z i.operand) e

pub not_decoded : (i : Instruction) → SFits w32 i.code → 22 ≤ of_z w32 i.code → operation_of i ≡ unknown
not_decoded i f l = past i.code f l
  where
    past : (z : ℤ) → SFits w32 z → 22 ≤ of_z w32 z → decode z i.operand ≡ unknown
    past (pos n) f l = get_or_past (operations i.operand) n unknown l
    past (negsuc n) f l = refl

pub unknown_is : (code : List Instruction) (from : Cursor) (m : Memory) (b : Meaning) (i : Instruction) → slice_get code from.position ≡ Some i
    → decode i.code i.operand ≡ unknown → (r : Result (Unit {0}) Stop) → IsErrAnd r (λ s. s ≡ Breaks) → after r from from m b ≡ step code (state_of m from b)
unknown_is code from m b i here e (Ok x) k = absurd k
unknown_is code from m b i here e (Err s) k = rw (k, here, e)

-- where no instruction stands
pub broke_outside : (code : List Instruction) (from : Cursor) (m : Memory) (b : Meaning) → length code ≤ from.position → break (state_of m from b) ≡ step code (state_of m from b)
broke_outside code from m b l = rw (slice_get_past code from.position l)
