-- The code of an expression does what the expression means: it walks to its end with the value on the stack, or the run
-- stops where the source run stops.
use Rattle.std.proofs.Common.{◌≡◌, ℕ, ◌+◌, ◌<◌, ◌≤◌, max, Bool, true, false, cond, List, [], ◌∷◌, ◌++◌, length, ℤ, pos, Some, None, Option, sym, refl, ap, ◌∙◌, subst, arith}
use Rattle.refusal.specs.Told.{Told, accepted, refused}
use Rattle.std.specs.List.{slice_get}
use Rattle.boards.specs.Meaning.{zone_answer, report_answer, reported}
use Rattle.meaning.specs.declared.operator.Scalar.{Scalar}
use Rattle.meaning.specs.declared.operator.Scalar.TheVariants.{Bool as bool, Char as char, Int as int}
use Rattle.meaning.specs.declared.operator.Operator.{Operator}
use Rattle.meaning.specs.declared.operator.Operator.TheVariants.{Add, Subtract, Multiply, Divide, Remainder, Less, LessEqual, Greater, GreaterEqual, Equal, NotEqual, And, Or}
use Rattle.meaning.specs.Trees.{Ident, number, character, truth, Unary, negate, invert, Expr, constant, variable, call, bracket, unary, binary, Args, no_args, args, Exprs, last, more, Return}
use Rattle.meaning.specs.Scopes.{Callee, zone, columns, rows, report, main, Names, Meant, absent, a_variable, a_function, lookup, cells}
use Rattle.meaning.specs.Types.{result_of, same_types, signature}
use Rattle.meaning.specs.Check.{Scope, as_variable, as_callee, called, type_of, arg_types, expr_types}
use Rattle.meaning.specs.Values.{Value, of_bool, of_char, of_int, value_type, constant_value, Result, zero_divisor, mistyped, short_circuit, decided, open_still, apply, apply_unary}
use Rattle.meaning.specs.Values
use Rattle.meaning.specs.Run
use Rattle.meaning.specs.Run.{Ending, returned, waiting, divided, stuck, State, Evaluated, comes_to, ends, then_eval, result, read_variable, operate, answered, invoke, invoke_meant, needs_value, eval, eval_args, eval_exprs}
use Rattle.meaning.proofs.Erased.{erase, erase_meant, lookup-erase}
use Rattle.meaning.proofs.Fits.{none_some, false_true}
use Rattle.meaning.proofs.Sound.{then_passed, needs_passed, there_passed, refused_accepted, types, TypedE, eval_typed, callee_known}
use Rattle.machine.specs.declared.instruction.Instruction.{Instruction}
use Rattle.machine.specs.Endings
use Rattle.machine.specs.Endings.{End, refused_by}
use Rattle.machine.specs.Codes.{place_at}
use Rattle.machine.specs.Steps as Machine
use Rattle.machine.specs.Steps.{Next, go, stop, wait, step}
use Rattle.layout.proofs.Compiled.{ins, held, cell_of, is_char, low, codes_of, strict, both, either, shape_of, plainly, past, call_code, expr_end, args_end, exprs_end, binary_code, expr_code, args_code, exprs_code}
use Rattle.layout.proofs.Walk
use Rattle.layout.proofs.Walk.{mach, Stands, after, cut, Steps, here, on, joined, push_goes, load_goes, jump_goes, zero_goes, nonzero_goes, forward, step_is}
use Rattle.layout.proofs.Operate.{is_of_char, Makes, apply_makes, minus_makes, not_makes}
use Rattle.layout.proofs.Ends.{expr_after, args_after, expr_grows}
use Rattle.layout.proofs.Holds.{Holds, cells-erase, cell_of-erase, holds-lookup}
use Rattle.layout.proofs.Room.{expr_needs, args_need, exprs_need, needs-one}

-- the machine's last step, by how the source run ends
abbrev pub last_step : Ending → Machine.State → Next
last_step (returned v) u = stop (Endings.returned v) u
last_step waiting u = wait u
last_step divided u = stop Endings.divided u
last_step (Run.board n) u = stop (refused_by n) u
last_step stuck u = go u

-- the machine's run stops as the source run does: at this place, with these ticks left and this board
pub record Halts (C : List Instruction) (u : Machine.State) (x : Ending) (p : ℕ) (N : State) : Type 0 where
  pub before : Machine.State
  pub end : Machine.State
  pub walk : Steps C u before
  pub stops : step C before ≡ last_step x end
  pub place : place_at C end.position ≡ pos p
  pub left : end.left ≡ N.left
  pub board : end.board ≡ N.board

-- nothing is claimed of a run that gets stuck
abbrev pub Stopped : List Instruction → Machine.State → Ending → ℕ → State → Type 0
Stopped C u (returned v) p N = Halts C u (returned v) p N
Stopped C u waiting p N = Halts C u waiting p N
Stopped C u divided p N = Halts C u divided p N
Stopped C u (Run.board n) p N = Halts C u (Run.board n) p N
Stopped C u stuck p N = Unit {0}

pub halts_later : {C : List Instruction} {u v : Machine.State} {x : Ending} {p : ℕ} {N : State} → Steps C u v → Halts C v x p N → Halts C u x p N
halts_later w h = record { before = h.before; end = h.end; walk = joined w h.walk; stops = h.stops; place = h.place; left = h.left; board = h.board }

pub stopped-later : (C : List Instruction) (u v : Machine.State) (x : Ending) (p : ℕ) (N : State) → Steps C u v → Stopped C v x p N → Stopped C u x p N
stopped-later C u v (returned n) p N w h = halts_later w h
stopped-later C u v waiting p N w h = halts_later w h
stopped-later C u v divided p N w h = halts_later w h
stopped-later C u v (Run.board n) p N w h = halts_later w h
stopped-later C u v stuck p N w h = tt

-- the place of an instruction that stands
pub place_is : (C : List Instruction) (o k p : ℕ) (a : ℤ) → slice_get C o ≡ Some (ins k a p) → place_at C o ≡ pos p
place_is C o k p a e = rw e refl

-- the names of the run and the cells that hold them, with what the check knows of the names
pub record Ready (Γ : Scope) (ns : Names Value) (c : List ℤ) : Type 0 where
  pub erased : erase ns ≡ Γ
  pub few : cells Γ ≤ 64
  pub holds : Holds ns c

module _ (C : List Instruction) (Γ : Scope) (ns : Names Value) (c : List ℤ) where
  -- the machine after an expression: at z, with the value over s
  abbrev pub After : List ℤ → Machine.State → ℕ → Evaluated Value → Type 0
  After s u z (comes_to v N) = (N.names ≡ ns) × Steps C u (mach c (held v ∷ s) z N.left N.board)
  After s u z (ends x p N) = Stopped C u x p N

  -- the same with the value's type
  abbrev pub AfterT : Scalar → List ℤ → Machine.State → ℕ → Evaluated Value → Type 0
  AfterT t s u z (comes_to v N) = (value_type v ≡ t) × (N.names ≡ ns) × Steps C u (mach c (held v ∷ s) z N.left N.board)
  AfterT t s u z (ends x p N) = Stopped C u x p N

  typed : (t : Scalar) (s : List ℤ) (u : Machine.State) (z : ℕ) (a : Evaluated Value) → TypedE Γ (λ v. value_type v ≡ t) a → After s u z a → AfterT t s u z a
  typed t s u z (comes_to v N) h k = (h.0, k.0, k.1)
  typed t s u z (ends x p N) h k = k

  later : (s : List ℤ) (u v : Machine.State) (z : ℕ) (a : Evaluated Value) → Steps C u v → After s v z a → After s u z a
  later s u v z (comes_to x N) w h = (h.0, joined w h.1)
  later s u v z (ends x p N) w h = stopped-later C u v x p N w h

  then-after : (t : Scalar) (s r : List ℤ) (u : Machine.State) (m z : ℕ) (a : Evaluated Value) (f : Value → State → Evaluated Value) → AfterT t s u m a →
      ((v : Value) (N : State) → value_type v ≡ t → N.names ≡ ns → After r (mach c (held v ∷ s) m N.left N.board) z (f v N)) → After r u z (then_eval a f)
  unfolding then_eval
  then-after t s r u m z (comes_to v N) f h k = later r u _ z (f v N) h.2 (k v N h.0 h.1)
  then-after t s r u m z (ends x p N) f h k = h

  -- an operator's result, by what its codes make
  result-after : (r : Result) (p : ℕ) (N : State) (s : List ℤ) (v w : Value) (o : ℕ) (cs : List ℕ) → N.names ≡ ns → place_at C o ≡ pos p →
      Makes C p c s N.left N.board o cs v w r → After s (mach c (held w ∷ held v ∷ s) o N.left N.board) (past cs o) (result r p N)
  unfolding result
  result-after (Values.gives z) p N s v w o cs e q m = (e, m)
  result-after zero_divisor p N s v w o cs e q m = record { before = _; end = _; walk = here; stops = m; place = q; left = refl; board = refl }
  result-after mistyped p N s v w o cs e q m = tt

  -- operators that take both operands

  open_strict : (f : Operator) (v : Value) → shape_of f ≡ strict → short_circuit f v ≡ open_still
  unfolding short_circuit
  open_strict Add v h = refl
  open_strict Subtract v h = refl
  open_strict Multiply v h = refl
  open_strict Divide v h = refl
  open_strict Remainder v h = refl
  open_strict Less v h = refl
  open_strict LessEqual v h = refl
  open_strict Greater v h = refl
  open_strict GreaterEqual v h = refl
  open_strict Equal v h = refl
  open_strict NotEqual v h = refl
  open_strict And v h = let z : ◌≡◌ {A = ℕ} 0 1 = cc in absurd (omega arith)
  open_strict Or v h = let z : ◌≡◌ {A = ℕ} 0 1 = cc in absurd (omega arith)

  -- the first instruction of an operator stands for its place
  codes_place : (f : Operator) (ch : Bool) (n p : ℕ) → shape_of f ≡ strict → Stands C n (plainly (codes_of f ch) p) → place_at C n ≡ pos p
  codes_place Add ch n p h t = place_is C n 4 p (pos 0) t.0
  codes_place Subtract ch n p h t = place_is C n 5 p (pos 0) t.0
  codes_place Multiply ch n p h t = place_is C n 6 p (pos 0) t.0
  codes_place Divide ch n p h t = place_is C n 7 p (pos 0) t.0
  codes_place Remainder ch n p h t = place_is C n 8 p (pos 0) t.0
  codes_place Less ch n p h t = place_is C n 10 p (pos 0) t.0
  codes_place LessEqual ch n p h t = place_is C n 11 p (pos 0) t.0
  codes_place Greater ch n p h t = place_is C n 11 p (pos 0) t.0
  codes_place GreaterEqual ch n p h t = place_is C n 10 p (pos 0) t.0
  codes_place Equal ch n p h t = place_is C n 12 p (pos 0) t.0
  codes_place NotEqual ch n p h t = place_is C n 12 p (pos 0) t.0
  codes_place And ch n p h t = let z : ◌≡◌ {A = ℕ} 0 1 = cc in absurd (omega arith)
  codes_place Or ch n p h t = let z : ◌≡◌ {A = ℕ} 0 1 = cc in absurd (omega arith)

  -- what is known of the right operand, whose code stands from m to n over the stack s
  abbrev Right : Scalar → List ℤ → (m n : ℕ) → (State → Evaluated Value) → Type 0
  Right t s m n f = (K : State) → K.names ≡ ns → AfterT t s (mach c s m K.left K.board) n (f K)

  strict_after : (f : Operator) (p : ℕ) (v : Value) (s : List ℤ) (right : State → Evaluated Value) (t : Scalar) (m n : ℕ) → shape_of f ≡ strict →
      Right t (held v ∷ s) m n right → Stands C n (plainly (codes_of f (is_of_char v)) p) → (N : State) → N.names ≡ ns →
      After s (mach c (held v ∷ s) m N.left N.board) (past (codes_of f (is_of_char v)) n) (operate (short_circuit f v) f p v right N)
  unfolding operate
  strict_after f p v s right t m n h g k N e =
      rw (open_strict f v h) (then-after t (held v ∷ s) s _ n _ (right N) _ (g N e)
      (λ w K q d. result-after (apply f v w) p K s v w n (codes_of f (is_of_char v)) d (codes_place f (is_of_char v) n p h k) (apply_makes C p c s K.left K.board f h n v w k)))

  -- a decided value is pushed
  pushed-after : (s : List ℤ) (v : ℤ) (p o : ℕ) (N : State) (w : Value) → slice_get C o ≡ Some (ins 0 v p) → held w ≡ v → length s < 256 → N.names ≡ ns →
      After s (mach c s o N.left N.board) (o + 1) (comes_to w N)
  pushed-after s v p o N w e h l d = (d, on (push_goes C c s o N.left N.board v p e l) (rw h here))

  abbrev flags : Bool → ℤ
  flags b = cond b (pos 1) (pos 0)

  -- `&&`
  and_after : (p : ℕ) (x : Bool) (s : List ℤ) (right : State → Evaluated Value) (m n : ℕ) → m + 1 < n → length s < 256 → Right bool s (m + 1) n right →
      slice_get C m ≡ Some (ins 15 (pos (n + 1)) p) → slice_get C n ≡ Some (ins 14 (pos (n + 1 + 1)) p) → slice_get C (n + 1) ≡ Some (ins 0 (pos 0) p) → (N : State) → N.names ≡ ns →
      After s (mach c (flags x ∷ s) m N.left N.board) (n + 1 + 1) (operate (short_circuit And (of_bool x)) And p (of_bool x) right N)
  unfolding operate short_circuit result apply Values.logic
  and_after p true s right m n g l r i j k N e =
      later s _ (mach c s (m + 1) N.left N.board) (n + 1 + 1) (then_eval (right N) (λ w K. result (apply And (of_bool true) w) p K)) (on (nonzero_goes C c s m N.left N.board (pos 1) (n + 1) p i refl) here)
      (then-after bool s s _ n _ (right N) _ (r N e) (λ w K q d. joins w K q d))
    where
      joins : (w : Value) (K : State) → value_type w ≡ bool → K.names ≡ ns →
          After s (mach c (held w ∷ s) n K.left K.board) (n + 1 + 1) (result (apply And (of_bool true) w) p K)
      joins (of_bool y) K q d = (d, on (jump_goes C c (held (of_bool y) ∷ s) n K.left K.board (n + 1 + 1) p j (forward C n (n + 1 + 1) (omega arith))) here)
      joins (of_char y) K q d = tt
      joins (of_int y) K q d = tt
  and_after p false s right m n g l r i j k N e =
      later s _ (mach c s (n + 1) N.left N.board) (n + 1 + 1) (comes_to (of_bool false) N) (on (zero_goes C c s m N.left N.board (pos 0) (n + 1) p i refl (forward C m (n + 1) (omega arith))) here)
      (pushed-after s (pos 0) p (n + 1) N (of_bool false) k refl l e)

  -- `||`
  or_after : (p : ℕ) (x : Bool) (s : List ℤ) (right : State → Evaluated Value) (m n : ℕ) → m + 1 + 1 + 1 < n → length s < 256 → Right bool s (m + 1 + 1 + 1) n right →
      slice_get C m ≡ Some (ins 15 (pos (m + 1 + 1 + 1)) p) → slice_get C (m + 1) ≡ Some (ins 0 (pos 1) p) → slice_get C (m + 1 + 1) ≡ Some (ins 14 (pos n) p) → (N : State) → N.names ≡ ns →
      After s (mach c (flags x ∷ s) m N.left N.board) n (operate (short_circuit Or (of_bool x)) Or p (of_bool x) right N)
  unfolding operate short_circuit result apply Values.logic
  or_after p true s right m n g l r i j k N e = (
    e,
    on (nonzero_goes C c s m N.left N.board (pos 1) (m + 1 + 1 + 1) p i refl)
        (on (push_goes C c s (m + 1) N.left N.board (pos 1) p j l)
        (on (jump_goes C c (pos 1 ∷ s) (m + 1 + 1) N.left N.board n p k (forward C (m + 1 + 1) n (omega arith))) here)),
  )
  or_after p false s right m n g l r i j k N e =
      later s _ (mach c s (m + 1 + 1 + 1) N.left N.board) n (then_eval (right N) (λ w K. result (apply Or (of_bool false) w) p K))
      (on (zero_goes C c s m N.left N.board (pos 0) (m + 1 + 1 + 1) p i refl (forward C m (m + 1 + 1 + 1) (omega arith))) here)
      (then-after bool s s _ n _ (right N) _ (r N e) (λ w K q d. joins w K q d))
    where
      joins : (w : Value) (K : State) → value_type w ≡ bool → K.names ≡ ns →
          After s (mach c (held w ∷ s) n K.left K.board) n (result (apply Or (of_bool false) w) p K)
      joins (of_bool y) K q d = (d, here)
      joins (of_char y) K q d = tt
      joins (of_int y) K q d = tt

  -- a truth is a bool
  as_truth : (v : Value) → value_type v ≡ bool → (x : Bool) × (v ≡ of_bool x)
  as_truth (of_bool x) h = (x, refl)
  as_truth (of_char x) h = let z : ◌≡◌ {A = ℕ} 0 1 = cc in absurd (omega arith)
  as_truth (of_int x) h = let z : ◌≡◌ {A = ℕ} 0 1 = cc in absurd (omega arith)

  -- unary operators

  negated_after : (p : ℕ) (N : State) (s : List ℤ) (v : Value) (o : ℕ) → N.names ≡ ns → Stands C o (plainly (5 ∷ low (is_of_char v)) p) →
      After s (mach c (held v ∷ pos 0 ∷ s) o N.left N.board) (past (5 ∷ low (is_of_char v)) o) (result (apply_unary negate v) p N)
  unfolding result apply_unary
  negated_after p N s (of_bool x) o e t = tt
  negated_after p N s (of_char x) o e t = (e, minus_makes C p c s N.left N.board o (of_char x) _ refl t)
  negated_after p N s (of_int x) o e t = (e, minus_makes C p c s N.left N.board o (of_int x) _ refl t)

  inverted_after : (p : ℕ) (N : State) (s : List ℤ) (v : Value) (o : ℕ) → N.names ≡ ns → slice_get C o ≡ Some (ins 13 (pos 0) p) →
      After s (mach c (held v ∷ s) o N.left N.board) (o + 1) (result (apply_unary invert v) p N)
  unfolding result apply_unary
  inverted_after p N s (of_bool x) o e t = (e, not_makes C p c s N.left N.board o (of_bool x) _ refl t)
  inverted_after p N s (of_char x) o e t = tt
  inverted_after p N s (of_int x) o e t = tt

  -- calls

  -- arguments on the stack, the last one on top
  abbrev pub onto : List Value → List ℤ → List ℤ
  onto [] s = s
  onto (v ∷ vs) s = onto vs (held v ∷ s)

  abbrev pub AfterArgs : List Scalar → List ℤ → Machine.State → ℕ → Evaluated (List Value) → Type 0
  AfterArgs ts s u z (comes_to vs N) = (types vs ≡ ts) × (N.names ≡ ns) × Steps C u (mach c (onto vs s) z N.left N.board)
  AfterArgs ts s u z (ends x p N) = Stopped C u x p N

  -- after a call that may give nothing
  abbrev pub AfterCall : List ℤ → Machine.State → ℕ → Evaluated (Option Value) → Type 0
  AfterCall s u z (comes_to (Some v) N) = (N.names ≡ ns) × Steps C u (mach c (held v ∷ s) z N.left N.board)
  AfterCall s u z (comes_to None N) = (N.names ≡ ns) × Steps C u (mach c s z N.left N.board)
  AfterCall s u z (ends x p N) = Stopped C u x p N

  args_later : (ts : List Scalar) (s : List ℤ) (u v : Machine.State) (z : ℕ) (a : Evaluated (List Value)) → Steps C u v → AfterArgs ts s v z a → AfterArgs ts s u z a
  args_later ts s u v z (comes_to vs N) w h = (h.0, h.1, joined w h.2)
  args_later ts s u v z (ends x p N) w h = stopped-later C u v x p N w h

  call-later : (s : List ℤ) (u v : Machine.State) (z : ℕ) (a : Evaluated (Option Value)) → Steps C u v → AfterCall s v z a → AfterCall s u z a
  call-later s u v z (comes_to (Some x) N) w h = (h.0, joined w h.1)
  call-later s u v z (comes_to None N) w h = (h.0, joined w h.1)
  call-later s u v z (ends x p N) w h = stopped-later C u v x p N w h

  zone_after : (i : ℤ) (p : ℕ) (N : State) (s : List ℤ) (o : ℕ) → slice_get C o ≡ Some (ins 17 (pos 0) p) → N.names ≡ ns →
      AfterCall s (mach c (i ∷ s) o N.left N.board) (o + 1) (answered (zone_answer N.board i) (λ z. Some (of_int z)) p N)
  unfolding answered
  zone_after i p N s o e d = go (zone_answer N.board i) refl
    where
      go : (t : Told ℤ) → zone_answer N.board i ≡ t → AfterCall s (mach c (i ∷ s) o N.left N.board) (o + 1) (answered t (λ z. Some (of_int z)) p N)
      go (accepted z) h = (d, on (step_is C (mach c (i ∷ s) o N.left N.board) (ins 17 (pos 0) p) e ∙ rw h refl) here)
      go (refused n q) h = record {
        before = mach c (i ∷ s) o N.left N.board;
        end = mach c (i ∷ s) o N.left N.board;
        walk = here;
        stops = step_is C (mach c (i ∷ s) o N.left N.board) (ins 17 (pos 0) p) e ∙ rw h refl;
        place = place_is C o 17 p (pos 0) e;
        left = refl;
        board = refl;
      }

  report_after : (v : ℤ) (p : ℕ) (N : State) (s : List ℤ) (o : ℕ) → slice_get C o ≡ Some (ins 20 (pos 0) p) → N.names ≡ ns →
      AfterCall s (mach c (v ∷ s) o N.left N.board) (o + 1) (answered (report_answer N.board) (λ _. None) p (Run.with_board N (reported N.board v)))
  unfolding answered
  report_after v p N s o e d = go (report_answer N.board) refl
    where
      go : (t : Told (Unit {0})) → report_answer N.board ≡ t →
          AfterCall s (mach c (v ∷ s) o N.left N.board) (o + 1) (answered t (λ _. None) p (Run.with_board N (reported N.board v)))
      go (accepted u) h = (d, on (step_is C (mach c (v ∷ s) o N.left N.board) (ins 20 (pos 0) p) e ∙ rw h refl) here)
      go (refused n q) h = record {
        before = mach c (v ∷ s) o N.left N.board;
        end = mach c (v ∷ s) o N.left (reported N.board v);
        walk = here;
        stops = step_is C (mach c (v ∷ s) o N.left N.board) (ins 20 (pos 0) p) e ∙ rw h refl;
        place = place_is C o 20 p (pos 0) e;
        left = refl;
        board = refl;
      }

  -- columns and rows are pushed
  asked_after : (v : ℤ) (p : ℕ) (N : State) (s : List ℤ) (o : ℕ) → N.names ≡ ns →
      step C (mach c s o N.left N.board) ≡ go (mach c (v ∷ s) (o + 1) N.left N.board) →
      AfterCall s (mach c s o N.left N.board) (o + 1) (comes_to (Some (of_int v)) N)
  asked_after v p N s o d h = (d, on h here)

  invoke-after : (f : Callee) (vs : List Value) (p : ℕ) (N : State) (s : List ℤ) (o : ℕ) → same_types (types vs) (signature f).parameters ≡ true → (f ≡ main → ⊥) →
      slice_get C o ≡ Some (ins (call_code (a_function f)) (pos 0) p) → length s < 256 → N.names ≡ ns →
      AfterCall s (mach c (onto vs s) o N.left N.board) (o + 1) (invoke f vs p N)
  unfolding invoke same_types
  invoke-after zone [] p N s o h m e l d = false_true h
  invoke-after zone (of_int i ∷ []) p N s o h m e l d = zone_after i p N s o e d
  invoke-after zone (of_int i ∷ (w ∷ vs)) p N s o h m e l d = false_true h
  invoke-after zone (of_bool x ∷ vs) p N s o h m e l d = false_true h
  invoke-after zone (of_char x ∷ vs) p N s o h m e l d = false_true h
  invoke-after columns [] p N s o h m e l d =
      asked_after _ p N s o d (step_is C (mach c s o N.left N.board) (ins 18 (pos 0) p) e ∙ rw (Walk.below (length s) 256 l) refl)
  invoke-after columns (v ∷ vs) p N s o h m e l d = false_true h
  invoke-after rows [] p N s o h m e l d =
      asked_after _ p N s o d (step_is C (mach c s o N.left N.board) (ins 19 (pos 0) p) e ∙ rw (Walk.below (length s) 256 l) refl)
  invoke-after rows (v ∷ vs) p N s o h m e l d = false_true h
  invoke-after report [] p N s o h m e l d = false_true h
  invoke-after report (of_int i ∷ []) p N s o h m e l d = report_after i p N s o e d
  invoke-after report (of_int i ∷ (w ∷ vs)) p N s o h m e l d = false_true h
  invoke-after report (of_bool x ∷ vs) p N s o h m e l d = false_true h
  invoke-after report (of_char x ∷ vs) p N s o h m e l d = false_true h
  invoke-after main vs p N s o h m e l d = absurd (m refl)

  -- an operator whose operands are done

  -- what is known of an operand: over any stack with room, from wherever its code stands
  abbrev Operand : Expr → Scalar → Type 0
  Operand e t = (S : State) → S.names ≡ ns → (s : List ℤ) (o : ℕ) → length s + expr_needs e ≤ 256 → Stands C o (expr_code e Γ o) →
      AfterT t s (mach c s o S.left S.board) (expr_end e Γ o) (eval e S)

  -- the operator with its operands, in a state
  abbrev Combined : Operator → ℕ → Expr → Expr → State → Evaluated Value
  Combined f p a b S = then_eval (eval a S) (λ v N. operate (short_circuit f v) f p v (λ K. eval b K) N)

  strict_case : (f : Operator) (p : ℕ) (a b : Expr) (ch : Bool) (r t : Scalar) → shape_of f ≡ strict → ((v : Value) → value_type v ≡ r → ch ≡ is_of_char v) →
      Operand a r → Operand b t → (S : State) → S.names ≡ ns → (s : List ℤ) (o : ℕ) → length s + max (expr_needs a) (1 + expr_needs b) ≤ 256 →
      Stands C o (expr_code a Γ o ++ (expr_code b Γ (expr_end a Γ o) ++ plainly (codes_of f ch) p)) →
      After s (mach c s o S.left S.board) (past (codes_of f ch) (expr_end b Γ (expr_end a Γ o))) (Combined f p a b S)
  strict_case f p a b ch r t h chars left right S e s o l st =
      let i = cut C (expr_code a Γ o) _ o st in
      let j = cut C (expr_code b Γ (expr_end a Γ o)) _ (expr_end a Γ o) (rw (expr_after a Γ o) at i.1) in
      let k : Stands C (expr_end b Γ (expr_end a Γ o)) (plainly (codes_of f ch) p) = rw (expr_after b Γ (expr_end a Γ o)) at j.1 in
      then-after r s s _ (expr_end a Γ o) _ (eval a S) _ (left S e s o (omega arith) i.0) (λ v N q d.
      rw (chars v q) (strict_after f p v s (λ K. eval b K) t (expr_end a Γ o) (expr_end b Γ (expr_end a Γ o)) h
      (λ K g. right K g (held v ∷ s) (expr_end a Γ o) (omega arith) j.0) (rw (chars v q) at k) N d))

  and_case : (p : ℕ) (a b : Expr) → Operand a bool → Operand b bool → (S : State) → S.names ≡ ns → (s : List ℤ) (o : ℕ) → length s + max (expr_needs a) (expr_needs b) ≤ 256 →
      Stands C o (binary_code both [] p (expr_code a Γ o) (λ m. expr_code b Γ m) (λ m. expr_end b Γ m) (expr_end a Γ o)) →
      After s (mach c s o S.left S.board) (expr_end b Γ (expr_end a Γ o + 1) + 1 + 1) (Combined And p a b S)
  and_case p a b left right S e s o l st =
      let m = expr_end a Γ o in
      let n = expr_end b Γ (m + 1) in
      let g = expr_grows b Γ (m + 1) in
      let q = needs-one a in
      let i = cut C (expr_code a Γ o) _ o st in
      let i1 = rw (expr_after a Γ o) at i.1 in
      let j = cut C (expr_code b Γ (m + 1)) _ (m + 1) i1.1 in
      let j1 = rw (expr_after b Γ (m + 1)) at j.1 in
      then-after bool s s _ m _ (eval a S) _ (left S e s o (omega arith) i.0) (λ v N t d.
      let w = as_truth v t in
      rw w.1 (and_after p w.0 s (λ K. eval b K) m n (omega arith) (omega arith) (λ K h. right K h s (m + 1) (omega arith) j.0) i1.0 j1.0 j1.1.0 N d))

  or_case : (p : ℕ) (a b : Expr) → Operand a bool → Operand b bool → (S : State) → S.names ≡ ns → (s : List ℤ) (o : ℕ) → length s + max (expr_needs a) (expr_needs b) ≤ 256 →
      Stands C o (binary_code either [] p (expr_code a Γ o) (λ m. expr_code b Γ m) (λ m. expr_end b Γ m) (expr_end a Γ o)) →
      After s (mach c s o S.left S.board) (expr_end b Γ (expr_end a Γ o + 1 + 1 + 1)) (Combined Or p a b S)
  or_case p a b left right S e s o l st =
      let m = expr_end a Γ o in
      let n = expr_end b Γ (m + 1 + 1 + 1) in
      let g = expr_grows b Γ (m + 1 + 1 + 1) in
      let q = needs-one a in
      let i = cut C (expr_code a Γ o) _ o st in
      let i1 = rw (expr_after a Γ o) at i.1 in
      then-after bool s s _ m _ (eval a S) _ (left S e s o (omega arith) i.0) (λ v N t d.
      let w = as_truth v t in
      rw w.1 (or_after p w.0 s (λ K. eval b K) m n (omega arith) (omega arith) (λ K h. right K h s (m + 1 + 1 + 1) (omega arith) i1.1.1.1)
      i1.0 i1.1.0 i1.1.1.0 N d))

  -- `&&` and `||` take two bools
  and_types : (r t u : Scalar) → result_of And r t ≡ Some u → (r ≡ bool) × (t ≡ bool)
  and_types bool bool u h = (refl, refl)
  and_types bool char u h = none_some h
  and_types bool int u h = none_some h
  and_types char bool u h = none_some h
  and_types char char u h = none_some h
  and_types char int u h = none_some h
  and_types int bool u h = none_some h
  and_types int char u h = none_some h
  and_types int int u h = none_some h

  binary_case : (f : Operator) (p : ℕ) (a b : Expr) (r t u : Scalar) → type_of a Γ ≡ accepted r → result_of f r t ≡ Some u →
      Operand a r → Operand b t → (S : State) → S.names ≡ ns → (s : List ℤ) (o : ℕ) → length s + expr_needs (binary f p a b) ≤ 256 →
      Stands C o (expr_code (binary f p a b) Γ o) → After s (mach c s o S.left S.board) (expr_end (binary f p a b) Γ o) (Combined f p a b S)
  unfolding expr_needs expr_code expr_end
  binary_case Add p a b r t u x h left right S e s o l st = strict_case Add p a b _ r t refl (λ v q. ap is_char (x ∙ ap accepted (sym q))) left right S e s o l st
  binary_case Subtract p a b r t u x h left right S e s o l st = strict_case Subtract p a b _ r t refl (λ v q. ap is_char (x ∙ ap accepted (sym q))) left right S e s o l st
  binary_case Multiply p a b r t u x h left right S e s o l st = strict_case Multiply p a b _ r t refl (λ v q. ap is_char (x ∙ ap accepted (sym q))) left right S e s o l st
  binary_case Divide p a b r t u x h left right S e s o l st = strict_case Divide p a b _ r t refl (λ v q. ap is_char (x ∙ ap accepted (sym q))) left right S e s o l st
  binary_case Remainder p a b r t u x h left right S e s o l st = strict_case Remainder p a b _ r t refl (λ v q. ap is_char (x ∙ ap accepted (sym q))) left right S e s o l st
  binary_case Less p a b r t u x h left right S e s o l st = strict_case Less p a b _ r t refl (λ v q. ap is_char (x ∙ ap accepted (sym q))) left right S e s o l st
  binary_case LessEqual p a b r t u x h left right S e s o l st = strict_case LessEqual p a b _ r t refl (λ v q. ap is_char (x ∙ ap accepted (sym q))) left right S e s o l st
  binary_case Greater p a b r t u x h left right S e s o l st = strict_case Greater p a b _ r t refl (λ v q. ap is_char (x ∙ ap accepted (sym q))) left right S e s o l st
  binary_case GreaterEqual p a b r t u x h left right S e s o l st = strict_case GreaterEqual p a b _ r t refl (λ v q. ap is_char (x ∙ ap accepted (sym q))) left right S e s o l st
  binary_case Equal p a b r t u x h left right S e s o l st = strict_case Equal p a b _ r t refl (λ v q. ap is_char (x ∙ ap accepted (sym q))) left right S e s o l st
  binary_case NotEqual p a b r t u x h left right S e s o l st = strict_case NotEqual p a b _ r t refl (λ v q. ap is_char (x ∙ ap accepted (sym q))) left right S e s o l st
  binary_case And p a b r t u x h left right S e s o l st =
      let w = and_types r t u h in and_case p a b (rw w.0 at left) (rw w.1 at right) S e s o l st
  binary_case Or p a b r t u x h left right S e s o l st =
      let w = and_types r t u h in or_case p a b (rw w.0 at left) (rw w.1 at right) S e s o l st

  unary_case : (g : Unary) (p : ℕ) (a : Expr) (r u : Scalar) → type_of a Γ ≡ accepted r → Operand a r → (S : State) → S.names ≡ ns → (s : List ℤ) (o : ℕ) →
      length s + expr_needs (unary g p a) ≤ 256 → Stands C o (expr_code (unary g p a) Γ o) →
      After s (mach c s o S.left S.board) (expr_end (unary g p a) Γ o) (then_eval (eval a S) (λ v N. result (apply_unary g v) p N))
  unfolding expr_needs expr_code expr_end
  unary_case negate p a r u x operand S e s o l st =
      let m = expr_end a Γ (o + 1) in
      let i = cut C (expr_code a Γ (o + 1)) _ (o + 1) st.1 in
      let k = rw (expr_after a Γ (o + 1)) at i.1 in
      later s _ (mach c (pos 0 ∷ s) (o + 1) S.left S.board) _ (then_eval (eval a S) (λ v N. result (apply_unary negate v) p N))
      (on (push_goes C c s o S.left S.board (pos 0) p st.0 (omega arith)) here)
      (then-after r (pos 0 ∷ s) s _ m _ (eval a S) _ (operand S e (pos 0 ∷ s) (o + 1) (omega arith) i.0) (λ v N q d.
      let ch : is_char (type_of a Γ) ≡ is_of_char v = ap is_char (x ∙ ap accepted (sym q)) in
      rw ch (negated_after p N s v m d (rw ch at k))))
  unary_case invert p a r u x operand S e s o l st =
      let m = expr_end a Γ o in
      let i = cut C (expr_code a Γ o) _ o st in
      let k = rw (expr_after a Γ o) at i.1 in
      then-after r s s _ m _ (eval a S) _ (operand S e s o l i.0) (λ v N q d. inverted_after p N s v m d k.0)

  value_after : (s : List ℤ) (u : Machine.State) (z : ℕ) (a : Evaluated (Option Value)) → AfterCall s u z a → After s u z (then_eval a (λ o N. needs_value o N))
  unfolding then_eval needs_value
  value_after s u z (comes_to (Some v) N) h = h
  value_after s u z (comes_to None N) h = tt
  value_after s u z (ends x p N) h = h

  then-call : (ts : List Scalar) (s : List ℤ) (u : Machine.State) (m z : ℕ) (a : Evaluated (List Value)) (f : List Value → State → Evaluated (Option Value)) → AfterArgs ts s u m a →
      ((vs : List Value) (N : State) → types vs ≡ ts → N.names ≡ ns → AfterCall s (mach c (onto vs s) m N.left N.board) z (f vs N)) → AfterCall s u z (then_eval a f)
  unfolding then_eval
  then-call ts s u m z (comes_to vs N) f h k = call-later s u _ z (f vs N) h.2 (k vs N h.0 h.1)
  then-call ts s u m z (ends x p N) f h k = h

  then_args : (t : Scalar) (ts : List Scalar) (s r : List ℤ) (u : Machine.State) (m z : ℕ) (a : Evaluated Value) (f : Value → State → Evaluated (List Value)) → AfterT t s u m a →
      ((v : Value) (N : State) → value_type v ≡ t → N.names ≡ ns → AfterArgs ts r (mach c (held v ∷ s) m N.left N.board) z (f v N)) → AfterArgs ts r u z (then_eval a f)
  unfolding then_eval
  then_args t ts s r u m z (comes_to v N) f h k = args_later ts r u _ z (f v N) h.2 (k v N h.0 h.1)
  then_args t ts s r u m z (ends x p N) f h k = h

  -- a further argument in front of others
  more_args : (t : Scalar) (ts us : List Scalar) (v : Value) (s : List ℤ) (u : Machine.State) (z : ℕ) (a : Evaluated (List Value)) → value_type v ≡ t → t ∷ ts ≡ us →
      AfterArgs ts (held v ∷ s) u z a → AfterArgs us s u z (then_eval a (λ vs K. comes_to (v ∷ vs) K))
  unfolding then_eval
  more_args t ts us v s u z (comes_to vs N) e q h = (ap (λ (x : Scalar). x ∷ types vs) e ∙ ap (◌∷◌ t) h.0 ∙ q, h.1, h.2)
  more_args t ts us v s u z (ends x p N) e q h = h

module _ (C : List Instruction) (Γ : Scope) (ns : Names Value) (c : List ℤ) (ready : Ready Γ ns c) where
  -- the names of a state by their types
  known : (S : State) → S.names ≡ ns → erase S.names ≡ Γ
  known S e = ap erase e ∙ ready.erased

  variable_after : (x : Ident) (t : Scalar) → as_variable (lookup x.bytes Γ) x.place ≡ accepted t → (S : State) → S.names ≡ ns → (s : List ℤ) (o : ℕ) → length s < 256 →
      slice_get C o ≡ Some (ins 1 (pos (cell_of x.bytes Γ)) x.place) →
      After C Γ ns c s (mach c s o S.left S.board) (o + 1) (read_variable (lookup x.bytes S.names) S)
  unfolding as_variable read_variable
  variable_after x t h S e s o l st =
      go (lookup x.bytes S.names) (ap (lookup x.bytes) (sym e)) (ap (λ (m : Meant Scalar). as_variable m x.place) (sym found) ∙ h)
    where
      found : lookup x.bytes Γ ≡ erase_meant (lookup x.bytes S.names)
      found = ap (lookup x.bytes) (sym (known S e)) ∙ lookup-erase x.bytes S.names

      cell : cell_of x.bytes Γ ≡ cell_of x.bytes ns
      cell = ap (cell_of x.bytes) (sym ready.erased) ∙ cell_of-erase x.bytes ns

      size : cells ns ≡ cells Γ
      size = sym (cells-erase ns) ∙ ap cells ready.erased

      go : (m : Meant Value) → lookup x.bytes ns ≡ m → as_variable (erase_meant m) x.place ≡ accepted t → After C Γ ns c s (mach c s o S.left S.board) (o + 1) (read_variable m S)
      go absent q k = refused_accepted k
      go (a_variable v) q k =
          let w = holds-lookup x.bytes v ns c ready.holds q in
          let f = ready.few in
          let i : cell_of x.bytes Γ < 64 = omega (arith, cell, size, w.inside) in
          (e, on (load_goes C c s o S.left S.board (cell_of x.bytes Γ) x.place st i l) (rw (cell, w.value) here))
      go (a_function f) q k = refused_accepted k

  -- a call, once its arguments are done
  pub call_case : (x : Ident) (xs : Args) (r : Return) → called Γ x (arg_types xs Γ) ≡ accepted r → (S : State) (s : List ℤ) (u : Machine.State) (m : ℕ) → length s < 256 →
      ((ts : List Scalar) → arg_types xs Γ ≡ accepted ts → AfterArgs C Γ ns c ts s u m (eval_args xs S)) → slice_get C m ≡ Some (ins (call_code (lookup x.bytes Γ)) (pos 0) x.place) →
      AfterCall C Γ ns c s u (m + 1) (then_eval (eval_args xs S) (λ vs N. invoke_meant (lookup x.bytes N.names) vs x.place N))
  unfolding called invoke_meant
  call_case x xs r h S s u m l k st =
      let i = then_passed _ _ r h in
      let j = then_passed (arg_types xs Γ) _ r i.2 in
      let n = then_passed _ _ r j.2 in
      let f : Callee = i.0 in
      let g : same_types j.0 (signature f).parameters ≡ true = needs_passed _ _ _ n.0 n.1 in
      let found : lookup x.bytes Γ ≡ erase_meant (lookup x.bytes ns) = ap (lookup x.bytes) (sym ready.erased) ∙ lookup-erase x.bytes ns in
      let w = callee_known Γ (lookup x.bytes ns) x.place f (ap (λ (y : Meant Scalar). as_callee y x.place) (sym found) ∙ i.1) in
      let q : lookup x.bytes Γ ≡ a_function f = found ∙ ap erase_meant w.0 in
      then-call C Γ ns c j.0 s u m _ _ _ (k j.0 j.1) (λ vs N t d.
      subst (λ (y : Meant Value). AfterCall C Γ ns c s (mach c (onto C Γ ns c vs s) m N.left N.board) (m + 1) (invoke_meant y vs x.place N))
      (sym (ap (lookup x.bytes) d ∙ w.0)) (invoke-after C Γ ns c f vs x.place N s m (rw t g) w.1 (rw q at st) l d))

  -- with the type that the check found
  pub with_type : (a : Expr) (t : Scalar) → type_of a Γ ≡ accepted t → (S : State) → S.names ≡ ns → (s : List ℤ) (o : ℕ) →
      After C Γ ns c s (mach c s o S.left S.board) (expr_end a Γ o) (eval a S) → AfterT C Γ ns c t s (mach c s o S.left S.board) (expr_end a Γ o) (eval a S)
  with_type a t h S e s o k = typed C Γ ns c t s _ _ (eval a S) (eval_typed Γ a t h S (known S e)) k

  mutual
    unfolding eval eval_args eval_exprs type_of arg_types expr_types expr_code args_code exprs_code expr_end args_end exprs_end expr_needs args_need exprs_need

    pub eval_after : (e : Expr) (t : Scalar) → type_of e Γ ≡ accepted t → (S : State) → S.names ≡ ns → (s : List ℤ) (o : ℕ) → length s + expr_needs e ≤ 256 → Stands C o (expr_code e Γ o) →
        After C Γ ns c s (mach c s o S.left S.board) (expr_end e Γ o) (eval e S)
    eval_after (constant (number v p)) t h S e s o l st = (e, on (push_goes C c s o S.left S.board v p st.0 (omega arith)) here)
    eval_after (constant (character v p)) t h S e s o l st = (e, on (push_goes C c s o S.left S.board v p st.0 (omega arith)) here)
    eval_after (constant (truth v p)) t h S e s o l st = (e, on (push_goes C c s o S.left S.board (cond v (pos 1) (pos 0)) p st.0 (omega arith)) here)
    eval_after (variable x) t h S e s o l st = variable_after x t h S e s o (omega arith) st.0
    eval_after (call x q xs) t h S e s o l st =
        let i = then_passed _ _ t h in
        let j = cut C (args_code xs Γ o) _ o st in
        let k = rw (args_after xs Γ o) at j.1 in
        value_after C Γ ns c s _ _ _ (call_case x xs i.0 i.1 S s _ (args_end xs Γ o) (omega arith) (λ ts g. args_done xs ts g S e s o (omega arith) j.0) k.0)
    eval_after (bracket q a) t h S e s o l st = eval_after a t h S e s o l st
    eval_after (unary g p a) t h S e s o l st =
        let i = then_passed (type_of a Γ) _ t h in
        unary_case C Γ ns c g p a i.0 t i.1 (λ K d r m y z. with_type a i.0 i.1 K d r m (eval_after a i.0 i.1 K d r m y z)) S e s o l st
    eval_after (binary f p a b) t h S e s o l st =
        let i = then_passed (type_of a Γ) _ t h in
        let j = then_passed (type_of b Γ) _ t i.2 in
        binary_case C Γ ns c f p a b i.0 j.0 t i.1 (there_passed _ _ _ t j.2)
        (λ K d r m y z. with_type a i.0 i.1 K d r m (eval_after a i.0 i.1 K d r m y z))
        (λ K d r m y z. with_type b j.0 j.1 K d r m (eval_after b j.0 j.1 K d r m y z)) S e s o l st

    pub args_done : (xs : Args) (ts : List Scalar) → arg_types xs Γ ≡ accepted ts → (S : State) → S.names ≡ ns → (s : List ℤ) (o : ℕ) → length s + args_need xs ≤ 256 → Stands C o (args_code xs Γ o) →
        AfterArgs C Γ ns c ts s (mach c s o S.left S.board) (args_end xs Γ o) (eval_args xs S)
    args_done no_args ts h S e s o l st = (cc, e, here)
    args_done (args es) ts h S e s o l st = exprs_done es ts h S e s o l st

    exprs_done : (es : Exprs) (ts : List Scalar) → expr_types es Γ ≡ accepted ts → (S : State) → S.names ≡ ns → (s : List ℤ) (o : ℕ) → length s + exprs_need es ≤ 256 → Stands C o (exprs_code es Γ o) →
        AfterArgs C Γ ns c ts s (mach c s o S.left S.board) (exprs_end es Γ o) (eval_exprs es S)
    exprs_done (last a) ts h S e s o l st =
        let i = then_passed (type_of a Γ) _ ts h in
        then_args C Γ ns c i.0 ts s s _ (expr_end a Γ o) _ (eval a S) _ (with_type a i.0 i.1 S e s o (eval_after a i.0 i.1 S e s o l st))
        (λ v N q d. (let g = i.2 in cc, d, here))
    exprs_done (more a p es) ts h S e s o l st =
        let i = then_passed (type_of a Γ) _ ts h in
        let j = then_passed (expr_types es Γ) _ ts i.2 in
        let k = cut C (expr_code a Γ o) _ o st in
        let m = expr_end a Γ o in
        then_args C Γ ns c i.0 ts s s _ m _ (eval a S) _ (with_type a i.0 i.1 S e s o (eval_after a i.0 i.1 S e s o (omega arith) k.0))
        (λ v N q d. more_args C Γ ns c i.0 j.0 ts v s _ _ _ q (let g = j.2 in cc)
        (exprs_done es j.0 j.1 N d (held v ∷ s) m (omega arith) (rw (expr_after a Γ o) at k.1)))
