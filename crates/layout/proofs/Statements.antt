-- The code of a statement does what the statement means: it walks to the position after it, to the target of a `break` or
-- of a `continue`, or the run stops where the source run stops. The stack is empty between statements.
use Rattle.std.proofs.Common.{◌≡◌, ℕ, zero, suc, ◌+◌, ◌<◌, ◌≤◌, Bool, true, false, cond, ◌⊎◌, List, [], ◌∷◌, ◌++◌, length, get_or, set, ℤ, pos, ◌+ℤ◌, Some, None, Option, sym, refl, ap, ◌∙◌, subst, inl, inr, arith, length-set, get_or-set_other, get_or-set_same, w32}
use lib.Signed.{lt_z}
use Rattle.refusal.specs.Told.{Told, accepted}
use Rattle.std.specs.List.{slice_get}
use Rattle.std.proofs.lemmas.Bool.Decides.{nat_tests}
use Rattle.std.specs.Int.{int_wrap}
use Rattle.ints.specs.Arith.{flag}
use Rattle.ints.specs.declared.operator.Operator.TheVariants as O
use Rattle.meaning.specs.declared.operator.Scalar.{Scalar}
use Rattle.meaning.specs.declared.operator.Scalar.TheVariants.{Bool as bool, Int as int}
use Rattle.meaning.specs.Trees.{Ident, Expr, constant, variable, call, bracket, unary, binary, Args, Stmt, block, define, assign, modify, evaluate, if_then, if_else, while, do_while, for_to, break, continue, return, return_bare, Stmts, nil, cons, Return, void, gives}
use Rattle.meaning.specs.Scopes.{Callee, zone, columns, rows, report, main, Names, level, stop, function, Meant, absent, a_variable, a_function, lookup, leave, assigned, cells}
use Rattle.meaning.specs.Scopes
use Rattle.meaning.specs.Types.{operator_of, signature}
use Rattle.meaning.specs.Check.{Scope, needs, room, as_variable, as_callee, called, type_of, arg_types, needs_type, check_whole, defined, check_stmt, check_stmts}
use Rattle.meaning.specs.Values.{Value, of_bool, of_char, of_int, value_type}
use Rattle.meaning.specs.Run.{returned, waiting, State, with_names, Evaluated, comes_to, ends, then_eval, invoke_meant, eval, eval_args, eval_whole, Flow, next, broke, continued, ended, given, then_flow, choose, as_int, outside, leaving, in_level, store, defining, spend, again, loop, looping, after_body, counts, counting, below, adding, while_round, do_round, for_round, run, run_all}
use Rattle.meaning.proofs.Erased.{erase, erase_meant, lookup-erase}
use Rattle.meaning.proofs.Follows.{HoldsF, eval_holds, run_holds, while_round-holds, do_round-holds, for_round-holds}
use Rattle.meaning.proofs.Fits.{same_type_lem}
use Rattle.meaning.proofs.Sound
use Rattle.meaning.proofs.Sound.{eval_typed}
use Rattle.machine.specs.declared.instruction.Instruction.{Instruction}
use Rattle.machine.specs.Codes.{may_land}
use Rattle.machine.specs.Steps as Machine
use Rattle.machine.specs.Steps.{go, stop, wait, step}
use Rattle.layout.proofs.Compiled.{ins, held, cell_of, expr_end, args_end, expr_code, args_code, call_code, gives_nothing, leaves_nothing, drop_end, drop_code, scope_after, for_scope, stmt_end, stmts_end, stmt_code, stmts_code}
use Rattle.layout.proofs.Walk.{mach, Stands, after, after-append, cut, Steps, here, on, joined, push_goes, load_goes, store_goes, drop-goes, jump_goes, zero_goes, nonzero_goes, tick_goes, tick_waits, forward, onto_tick, step_is}
use Rattle.layout.proofs.Operate
use Rattle.layout.proofs.Ends.{expr_after, args_after, stmt_after, expr_grows, stmt_grows, stmts_grow}
use Rattle.layout.proofs.Holds.{Holds, cells-erase, cell_of-erase, holds-lookup, holds_beyond, holds_new, holds-assigned, holds-leave}
use Rattle.layout.proofs.Room.{expr_needs, stmt_needs, stmts_need}
use Rattle.layout.proofs.Expressions.{Stopped, stopped-later, place_is, Ready, AfterT, AfterCall, eval_after, args_done, with_type, call_case}

module _ (C : List Instruction) where
  -- the machine has walked from u to the position z, its cells hold the names of N, and its stack is empty
  pub record At (u : Machine.State) (N : State) (z : ℕ) : Type 0 where
    pub memory : List ℤ
    pub sized : length memory ≡ 64
    pub holds : Holds N.names memory
    pub walk : Steps C u (mach memory [] z N.left N.board)

  -- what comes of a statement: z is the position after it, k that of a `break`, t that of a `continue`
  abbrev pub AfterF : Machine.State → (z k t : ℕ) → Flow → Type 0
  AfterF u z k t (next N) = At u N z
  AfterF u z k t (broke N) = At u N k
  AfterF u z k t (continued N) = At u N t
  AfterF u z k t (ended x p N) = Stopped C u x p N

  at-later : (u v : Machine.State) (N : State) (z : ℕ) → Steps C u v → At v N z → At u N z
  at-later u v N z w h = record { memory = h.memory; sized = h.sized; holds = h.holds; walk = joined w h.walk }

  pub later_f : (u v : Machine.State) (z k t : ℕ) (a : Flow) → Steps C u v → AfterF v z k t a → AfterF u z k t a
  later_f u v z k t (next N) w h = at-later u v N z w h
  later_f u v z k t (broke N) w h = at-later u v N k w h
  later_f u v z k t (continued N) w h = at-later u v N t w h
  later_f u v z k t (ended x p N) w h = stopped-later C u v x p N w h

  -- the machine may go on from the position of `next` to another
  next_on : (u : Machine.State) (y z k t : ℕ) (a : Flow) → ((N : State) (c : List ℤ) → Steps C (mach c [] y N.left N.board) (mach c [] z N.left N.board)) →
      AfterF u y k t a → AfterF u z k t a
  next_on u y z k t (next N) w h = record { memory = h.memory; sized = h.sized; holds = h.holds; walk = joined h.walk (w N h.memory) }
  next_on u y z k t (broke N) w h = h
  next_on u y z k t (continued N) w h = h
  next_on u y z k t (ended x p N) w h = h

  leaving-after : (u : Machine.State) (z k t : ℕ) (a : Flow) → AfterF u z k t a → AfterF u z k t (leaving a)
  unfolding leaving outside
  leaving-after u z k t (next N) h = record { memory = h.memory; sized = h.sized; holds = holds-leave N.names h.memory h.holds; walk = h.walk }
  leaving-after u z k t (broke N) h = record { memory = h.memory; sized = h.sized; holds = holds-leave N.names h.memory h.holds; walk = h.walk }
  leaving-after u z k t (continued N) h = record { memory = h.memory; sized = h.sized; holds = holds-leave N.names h.memory h.holds; walk = h.walk }
  leaving-after u z k t (ended x p N) h = h

  -- a state whose names have these types, and memory that holds them
  pub record Good (Γ : Scope) (N : State) (c : List ℤ) : Type 0 where
    pub erased : erase N.names ≡ Γ
    pub sized : length c ≡ 64
    pub holds : Holds N.names c

  -- what is known of code that stands from o on, under names of the types Γ
  abbrev pub Does : Scope → ℕ → (z k t : ℕ) → (State → Flow) → Type 0
  Does Γ o z k t f = (N : State) (c : List ℤ) → Good Γ N c → AfterF (mach c [] o N.left N.board) z k t (f N)

  then_flow-after : (l : Bool) (Γ Δ : Scope) (u : Machine.State) (m z k t : ℕ) (a : Flow) (f : State → Flow) → Sound.TypedF l Γ Δ a → AfterF u m k t a → Does Δ m z k t f →
      AfterF u z k t (then_flow a f)
  unfolding then_flow
  then_flow-after l Γ Δ u m z k t (next N) f e h g =
      later_f u _ z k t (f N) h.walk (g N h.memory (record { erased = e; sized = h.sized; holds = h.holds }))
  then_flow-after l Γ Δ u m z k t (broke N) f e h g = h
  then_flow-after l Γ Δ u m z k t (continued N) f e h g = h
  then_flow-after l Γ Δ u m z k t (ended x p N) f e h g = h

  -- a body in its level
  in_level-after : (Γ : Scope) (o z k t : ℕ) (f : State → Flow) → Does (level ∷ Γ) o z k t f → Does Γ o z k t (λ N. in_level f N)
  unfolding in_level
  in_level-after Γ o z k t f g N c h = leaving-after _ z k t _ (g _ c (record { erased = ap (◌∷◌ level) h.erased; sized = h.sized; holds = h.holds }))

  -- a value on the stack, over r, and what is done with it
  given-after : (Γ : Scope) (N : State) (c r : List ℤ) (s : Scalar) (u : Machine.State) (m z k t : ℕ) (a : Evaluated Value) (f : Value → State → Flow) →
      AfterT C Γ N.names c s r u m a →
      ((v : Value) (K : State) → value_type v ≡ s → K.names ≡ N.names → AfterF (mach c (held v ∷ r) m K.left K.board) z k t (f v K)) → AfterF u z k t (given a f)
  unfolding given
  given-after Γ N c r s u m z k t (comes_to v K) f h g = later_f u _ z k t (f v K) h.2 (g v K h.0 h.1)
  given-after Γ N c r s u m z k t (ends x p K) f h g = h

  -- the memory still holds the names of a state that has the same ones
  still : (Γ : Scope) (N K : State) (c : List ℤ) → Good Γ N c → K.names ≡ N.names → Good Γ K c
  still Γ N K c h e = record { erased = ap erase e ∙ h.erased; sized = h.sized; holds = subst (λ (ns : Names Value). Holds ns c) (sym e) h.holds }

  ready : (Γ : Scope) (N : State) (c : List ℤ) → cells Γ ≤ 64 → Good Γ N c → Ready Γ N.names c
  ready Γ N c f h = record { erased = h.erased; few = f; holds = h.holds }

  -- an expression of a statement, over r
  evaluated : (Γ : Scope) (N : State) (c r : List ℤ) (e : Expr) (s : Scalar) (o : ℕ) → type_of e Γ ≡ accepted s → cells Γ ≤ 64 → Good Γ N c → length r + expr_needs e ≤ 256 → Stands C o (expr_code e Γ o) →
      AfterT C Γ N.names c s r (mach c r o N.left N.board) (expr_end e Γ o) (eval e N)
  evaluated Γ N c r e s o h f g l st =
      with_type C Γ N.names c (ready Γ N c f g) e s h N refl r o (eval_after C Γ N.names c (ready Γ N c f g) e s h N refl r o l st)

  -- a condition's value decides where to go on
  choose-after : (Γ : Scope) (K : State) (c : List ℤ) (v : Value) (f g : State → Flow) (m j p z k t : ℕ) → value_type v ≡ bool → Good Γ K c →
      slice_get C m ≡ Some (ins 15 (pos j) p) → m < j → Does Γ (m + 1) z k t f → Does Γ j z k t g → AfterF (mach c (held v ∷ []) m K.left K.board) z k t (choose v f g K)
  unfolding choose
  choose-after Γ K c (of_bool true) f g m j p z k t e h st l a b =
      later_f _ (mach c [] (m + 1) K.left K.board) z k t (f K) (on (nonzero_goes C c [] m K.left K.board (pos 1) j p st refl) here) (a K c h)
  choose-after Γ K c (of_bool false) f g m j p z k t e h st l a b =
      later_f _ (mach c [] j K.left K.board) z k t (g K) (on (zero_goes C c [] m K.left K.board (pos 0) j p st refl (forward C m j l)) here) (b K c h)
  choose-after Γ K c (of_char x) f g m j p z k t e h st l a b = tt
  choose-after Γ K c (of_int x) f g m j p z k t e h st l a b = tt

  return_after : (K : State) (c : List ℤ) (v : Value) (m p z k t : ℕ) → slice_get C m ≡ Some (ins 21 (pos 0) p) →
      AfterF (mach c (held v ∷ []) m K.left K.board) z k t (as_int v (λ n K. ended (returned n) p K) K)
  unfolding as_int
  return_after K c (of_bool x) m p z k t st = tt
  return_after K c (of_char x) m p z k t st = tt
  return_after K c (of_int n) m p z k t st = record {
    before = mach c (n ∷ []) m K.left K.board;
    end = mach c (n ∷ []) m K.left K.board;
    walk = here;
    stops = step_is C (mach c (n ∷ []) m K.left K.board) (ins 21 (pos 0) p) st;
    place = place_is C m 21 p (pos 0) st;
    left = refl;
    board = refl;
  }

  -- how many cells the names of a state take
  size_of : (Γ : Scope) (N : State) (c : List ℤ) → Good Γ N c → cells N.names ≡ cells Γ
  size_of Γ N c h = sym (cells-erase N.names) ∙ ap cells h.erased

  defining-after : (Γ : Scope) (K : State) (c : List ℤ) (x : List ℕ) (v : Value) (m p k t : ℕ) → Good Γ K c → cells Γ < 64 → slice_get C m ≡ Some (ins 2 (pos (cells Γ)) p) →
      AfterF (mach c (held v ∷ []) m K.left K.board) (m + 1) k t (defining x v K)
  unfolding defining
  defining-after Γ K c x v m p k t h l st =
      let n = size_of Γ K c h in
      let g = h.sized in
      record {
        memory = set c (cells Γ) (held v);
        sized = length-set c (cells Γ) (held v) ∙ g;
        holds = rw (sym n) (holds_new x v K.names c (omega arith) h.holds);
        walk = on (store_goes C c [] m K.left K.board (held v) (cells Γ) p st l) here;
      }

  -- an assignment to a variable that the check found
  store-after : (Γ : Scope) (K : State) (c : List ℤ) (x : List ℕ) (q : ℕ) (s : Scalar) (v : Value) (m p k t : ℕ) → Good Γ K c → cells Γ ≤ 64 → as_variable (lookup x Γ) q ≡ accepted s →
      slice_get C m ≡ Some (ins 2 (pos (cell_of x Γ)) p) → AfterF (mach c (held v ∷ []) m K.left K.board) (m + 1) k t (store (lookup x K.names) x v K)
  unfolding store as_variable
  store-after Γ K c x q s v m p k t h f a st = go (lookup x K.names) refl (ap (λ (y : Meant Scalar). as_variable y q) (sym found) ∙ a)
    where
      found : lookup x Γ ≡ erase_meant (lookup x K.names)
      found = ap (lookup x) (sym h.erased) ∙ lookup-erase x K.names

      cell : cell_of x K.names ≡ cell_of x Γ
      cell = sym (cell_of-erase x K.names) ∙ ap (cell_of x) h.erased

      go : (y : Meant Value) → lookup x K.names ≡ y → as_variable (erase_meant y) q ≡ accepted s → AfterF (mach c (held v ∷ []) m K.left K.board) (m + 1) k t (store y x v K)
      go absent e i = Sound.refused_accepted i
      go (a_variable w) e i =
          let j = holds-lookup x w K.names c h.holds e in
          let n = size_of Γ K c h in
          let g = h.sized in
          let inside : cell_of x Γ < 64 = omega (arith, cell, n, j.inside) in
          record {
            memory = set c (cell_of x Γ) (held v);
            sized = length-set c (cell_of x Γ) (held v) ∙ g;
            holds = rw (sym cell) (holds-assigned x v w K.names c (omega arith) h.holds e);
            walk = on (store_goes C c [] m K.left K.board (held v) (cell_of x Γ) p st inside) here;
          }
      go (a_function y) e i = Sound.refused_accepted i

  -- loops

  -- what is known of a round: z is where the loop is left, o where its tick stands
  pub record Rounds (Γ : Scope) (o z : ℕ) (f : State → Flow) : Type 0 where
    pub typed : (N : State) → erase N.names ≡ Γ → Sound.TypedB true Γ (f N)
    pub fewer : (N : State) → HoldsF N (f N)
    pub does : Does Γ (o + 1) o z o f

  waits-after : (N : State) (c : List ℤ) (o p z k t : ℕ) → slice_get C o ≡ Some (ins 16 (pos 0) p) → N.left ≡ 0 → AfterF (mach c [] o N.left N.board) z k t (ended waiting p N)
  waits-after N c o p z k t st e = record {
    before = mach c [] o N.left N.board;
    end = mach c [] o 0 N.board;
    walk = here;
    stops = rw e (tick_waits C c [] o N.left N.board p st);
    place = place_is C o 16 p (pos 0) st;
    left = sym e;
    board = refl;
  }

  again-after : (Γ : Scope) (S : State) (u : Machine.State) (o z k t : ℕ) (a : Flow) (f : State → Flow) → Sound.TypedB true Γ a → HoldsF S a → AfterF u o z o a →
      ((N : State) (c : List ℤ) → N.left ≤ S.left → Good Γ N c → AfterF (mach c [] o N.left N.board) z k t (f N)) → AfterF u z k t (again a f)
  unfolding again
  again-after Γ S u o z k t (next N) f e w h g =
      later_f u _ z k t (f N) h.walk (g N h.memory w.fewer (record { erased = e; sized = h.sized; holds = h.holds }))
  again-after Γ S u o z k t (broke N) f e w h g = h
  again-after Γ S u o z k t (continued N) f e w h g =
      later_f u _ z k t (f N) h.walk (g N h.memory w.fewer (record { erased = e.1; sized = h.sized; holds = h.holds }))
  again-after Γ S u o z k t (ended x p N) f e w h g = h

  spend-after : (N : State) (c : List ℤ) (l o p z k t : ℕ) (f : State → Flow) → N.left ≡ l → slice_get C o ≡ Some (ins 16 (pos 0) p) →
      ((K : State) → suc K.left ≡ N.left → K.names ≡ N.names → AfterF (mach c [] (o + 1) K.left K.board) z k t (f K)) →
      AfterF (mach c [] o N.left N.board) z k t (spend l p f N)
  unfolding spend
  spend-after N c zero o p z k t f e st g = waits-after N c o p z k t st e
  spend-after N c (suc l) o p z k t f e st g =
      let K : State = record { names = N.names; board = N.board; left = l; spent = suc N.spent } in
      later_f _ (mach c [] (o + 1) l N.board) z k t (f K) (rw e (on (tick_goes C c [] o l N.board p st) here)) (g K (sym e) refl)

  loop-after : (Γ : Scope) (n o p z k t : ℕ) (f : State → Flow) → Rounds Γ o z f → slice_get C o ≡ Some (ins 16 (pos 0) p) →
      (N : State) (c : List ℤ) → Good Γ N c → N.left ≤ n → AfterF (mach c [] o N.left N.board) z k t (loop n p f N)
  unfolding loop
  loop-after Γ zero o p z k t f r st N c h l = waits-after N c o p z k t st (omega arith)
  loop-after Γ (suc n) o p z k t f r st N c h l =
      spend-after N c N.left o p z k t _ refl st (λ K e d.
      let g = still Γ N K c h d in
      again-after Γ K _ o z k t (f K) _ (r.typed K g.erased) (r.fewer K) (r.does K c g) (λ J b w i. loop-after Γ n o p z k t f r st J b i (omega arith)))

  pub looping-after : (Γ : Scope) (o p z k t : ℕ) (f : State → Flow) → Rounds Γ o z f → slice_get C o ≡ Some (ins 16 (pos 0) p) → Does Γ o z k t (λ N. looping p f N)
  unfolding looping
  looping-after Γ o p z k t f r st N c h = loop-after Γ N.left o p z k t f r st N c h (omega arith)

  after_body-after : (l : Bool) (Γ : Scope) (u : Machine.State) (m z k : ℕ) (a : Flow) (f : State → Flow) → Sound.TypedB l Γ a → AfterF u m k m a → Does Γ m z k z f →
      AfterF u z k z (after_body a f)
  unfolding after_body
  after_body-after l Γ u m z k (next N) f e h g =
      later_f u _ z k z (f N) h.walk (g N h.memory (record { erased = e; sized = h.sized; holds = h.holds }))
  after_body-after l Γ u m z k (broke N) f e h g = h
  after_body-after l Γ u m z k (continued N) f e h g =
      later_f u _ z k z (f N) h.walk (g N h.memory (record { erased = e.1; sized = h.sized; holds = h.holds }))
  after_body-after l Γ u m z k (ended x p N) f e h g = h

  -- a `for`, whose variable has the cell v and whose stop has the next one

  -- the names that `counting` takes apart
  counting_names : (ns : Names Value) (x : List ℕ) (i n : ℤ) (r : Names Value) → counting ns ≡ counts x i n r → ns ≡ stop (of_int n) ∷ Scopes.variable x (of_int i) ∷ r
  unfolding counting
  counting_names [] x i n r h = let z : ◌≡◌ {A = ℕ} 0 1 = cc in absurd (omega arith)
  counting_names (level ∷ q) x i n r h = let z : ◌≡◌ {A = ℕ} 0 1 = cc in absurd (omega arith)
  counting_names (Scopes.variable y v ∷ q) x i n r h = let z : ◌≡◌ {A = ℕ} 0 1 = cc in absurd (omega arith)
  counting_names (function f ∷ q) x i n r h = let z : ◌≡◌ {A = ℕ} 0 1 = cc in absurd (omega arith)
  counting_names (stop (of_bool b) ∷ q) x i n r h = let z : ◌≡◌ {A = ℕ} 0 1 = cc in absurd (omega arith)
  counting_names (stop (of_char b) ∷ q) x i n r h = let z : ◌≡◌ {A = ℕ} 0 1 = cc in absurd (omega arith)
  counting_names (stop (of_int m) ∷ []) x i n r h = let z : ◌≡◌ {A = ℕ} 0 1 = cc in absurd (omega arith)
  counting_names (stop (of_int m) ∷ (level ∷ q)) x i n r h = let z : ◌≡◌ {A = ℕ} 0 1 = cc in absurd (omega arith)
  counting_names (stop (of_int m) ∷ (stop v ∷ q)) x i n r h = let z : ◌≡◌ {A = ℕ} 0 1 = cc in absurd (omega arith)
  counting_names (stop (of_int m) ∷ (function f ∷ q)) x i n r h = let z : ◌≡◌ {A = ℕ} 0 1 = cc in absurd (omega arith)
  counting_names (stop (of_int m) ∷ (Scopes.variable y (of_bool b) ∷ q)) x i n r h = let z : ◌≡◌ {A = ℕ} 0 1 = cc in absurd (omega arith)
  counting_names (stop (of_int m) ∷ (Scopes.variable y (of_char b) ∷ q)) x i n r h = let z : ◌≡◌ {A = ℕ} 0 1 = cc in absurd (omega arith)
  counting_names (stop (of_int m) ∷ (Scopes.variable y (of_int j) ∷ q)) x i n r h = cc

  -- what memory holds of an open `for`
  record Open (x : List ℕ) (Γ : Scope) (N : State) (c : List ℤ) : Type 0 where
    current : ℤ
    bound : ℤ
    rest : Names Value
    is : counting N.names ≡ counts x current bound rest
    erased : erase rest ≡ level ∷ Γ
    current_at : get_or c (cells Γ) (pos 0) ≡ current
    bound_at : get_or c (cells Γ + 1) (pos 0) ≡ bound
    holds : Holds rest c
    size : cells rest ≡ cells Γ

  opened_for : (x : List ℕ) (Γ : Scope) (N : State) (c : List ℤ) → Good (for_scope x Γ) N c → Open x Γ N c
  unfolding cells
  opened_for x Γ N c h =
      let w = Sound.counting_found x Γ N.names h.erased in
      let e = counting_names N.names x w.current w.bound w.rest w.is in
      let g : Holds (stop (of_int w.bound) ∷ Scopes.variable x (of_int w.current) ∷ w.rest) c = subst (λ (ns : Names Value). Holds ns c) e h.holds in
      let s : cells w.rest ≡ cells Γ = sym (cells-erase w.rest) ∙ ap cells w.below_it in
      let b : suc (cells w.rest) ≡ cells Γ + 1 = omega arith in
      record {
        current = w.current;
        bound = w.bound;
        rest = w.rest;
        is = w.is;
        erased = w.below_it;
        current_at = ap (λ (k : ℕ). get_or c k (pos 0)) (sym s) ∙ g.1.0;
        bound_at = ap (λ (k : ℕ). get_or c k (pos 0)) (sym b) ∙ g.0;
        holds = g.1.1;
        size = s;
      }

  below-after : (x : List ℕ) (Γ : Scope) (f : State → Flow) (o p y z : ℕ) → cells Γ + 1 < 64 → o + 1 + 1 + 1 < z →
      Stands C o (ins 1 (pos (cells Γ)) p ∷ ins 1 (pos (cells Γ + 1)) p ∷ ins 10 (pos 0) p ∷ ins 15 (pos z) p ∷ []) →
      Does (for_scope x Γ) (o + 1 + 1 + 1 + 1) y z y f → Does (for_scope x Γ) o y z y (λ N. below (counting N.names) f N)
  unfolding below
  below-after x Γ f o p y z l j st g N c h = rw w.is (go (lt_z w.current w.bound) refl)
    where
      w : Open x Γ N c
      w = opened_for x Γ N c h

      compared : Steps C (mach c [] o N.left N.board) (mach c (flag (lt_z w.current w.bound) ∷ []) (o + 1 + 1 + 1) N.left N.board)
      compared =
          on (load_goes C c [] o N.left N.board (cells Γ) p st.0 (omega arith) (omega arith))
          (on (load_goes C c (get_or c (cells Γ) (pos 0) ∷ []) (o + 1) N.left N.board (cells Γ + 1) p st.1.0 l (omega arith))
          (on (Operate.takes_two C p c [] N.left N.board (o + 1 + 1) 10 O.Less _ _ _ st.1.1.0 refl (rw (w.current_at, w.bound_at) refl)) here))

      go : (b : Bool) → lt_z w.current w.bound ≡ b → AfterF (mach c [] o N.left N.board) y z y (cond b f (λ K. broke K) N)
      go true e =
          later_f _ (mach c [] (o + 1 + 1 + 1 + 1) N.left N.board) y z y (f N)
          (joined compared (on (nonzero_goes C c [] (o + 1 + 1 + 1) N.left N.board _ z p st.1.1.1.0 (rw e refl)) here)) (g N c h)
      go false e = record {
        memory = c;
        sized = h.sized;
        holds = h.holds;
        walk = joined compared (on (zero_goes C c [] (o + 1 + 1 + 1) N.left N.board _ z p st.1.1.1.0 (rw e refl) (forward C (o + 1 + 1 + 1) z j)) here);
      }

  adding-after : (x : List ℕ) (Γ : Scope) (o p t k q : ℕ) → cells Γ + 1 < 64 →
      Stands C o (ins 1 (pos (cells Γ)) p ∷ ins 0 (pos 1) p ∷ ins 4 (pos 0) p ∷ ins 2 (pos (cells Γ)) p ∷ ins 14 (pos t) p ∷ []) → slice_get C t ≡ Some (ins 16 (pos 0) p) →
      Does (for_scope x Γ) o t k q (λ N. adding (counting N.names) N)
  unfolding adding cells
  adding-after x Γ o p t k q l st tick N c h =
      let w = opened_for x Γ N c h in
      let v = cells Γ in
      let y = int_wrap w32 (w.current +ℤ pos 1) in
      let g = h.sized in
      let s = w.size in
      let here-is : get_or (set c v y) (cells w.rest) (pos 0) ≡ y = rw s (get_or-set_same c v y (pos 0) (omega arith)) in
      let other : get_or (set c v y) (suc (cells w.rest)) (pos 0) ≡ w.bound =
      let n : suc (cells w.rest) ≡ v + 1 = omega arith in
      rw n (get_or-set_other c v (v + 1) y (pos 0) (omega arith) ∙ w.bound_at) in
      rw w.is (record {
        memory = set c v y;
        sized = length-set c v y ∙ g;
        holds = (other, (here-is, holds_beyond w.rest c v y (omega arith) w.holds));
        walk =
            on (load_goes C c [] o N.left N.board v p st.0 (omega arith) (omega arith))
            (on (push_goes C c (get_or c v (pos 0) ∷ []) (o + 1) N.left N.board (pos 1) p st.1.0 (omega arith))
            (on (Operate.takes_two C p c [] N.left N.board (o + 1 + 1) 4 O.Add (get_or c v (pos 0)) (pos 1) y st.1.1.0 refl (rw w.current_at refl))
            (on (store_goes C c [] (o + 1 + 1 + 1) N.left N.board y v p st.1.1.1.0 (omega arith))
            (on (jump_goes C (set c v y) [] (o + 1 + 1 + 1 + 1) N.left N.board t p st.1.1.1.1.0 (onto_tick C (o + 1 + 1 + 1 + 1) t p tick)) here))));
      })

  -- whole expression statements

  -- the machine after a statement that drops its value
  at_end : (N K : State) (c : List ℤ) (Γ : Scope) (u : Machine.State) (z : ℕ) → Good Γ N c → K.names ≡ N.names → Steps C u (mach c [] z K.left K.board) → At u K z
  at_end N K c Γ u z h e w = record { memory = c; sized = h.sized; holds = (still Γ N K c h e).holds; walk = w }

  dropped_after : (Γ : Scope) (N : State) (c : List ℤ) (s : Scalar) (u : Machine.State) (m q k t : ℕ) (a : Evaluated Value) → Good Γ N c → AfterT C Γ N.names c s [] u m a →
      slice_get C m ≡ Some (ins 3 (pos 0) q) → AfterF u (m + 1) k t (given (then_eval a (λ v K. comes_to (tt {0}) K)) (λ _ K. next K))
  unfolding given then_eval
  dropped_after Γ N c s u m q k t (comes_to v K) h g st =
      at_end N K c Γ u (m + 1) h g.1 (joined g.2 (on (drop-goes C c [] m K.left K.board (held v) q st) here))
  dropped_after Γ N c s u m q k t (ends x p K) h g st = g

  -- a call drops its value if it gives one
  abbrev is_void : Return → Bool
  is_void void = true
  is_void (gives t) = false

  called-after : (Γ : Scope) (N : State) (c : List ℤ) (r : Return) (u : Machine.State) (m q k t : ℕ) (a : Evaluated (Option Value)) → Good Γ N c → AfterCall C Γ N.names c [] u m a →
      Sound.TypedE Γ (λ o. Sound.Returned r o) a → Stands C m (drop_code (is_void r) q) → AfterF u (drop_end (is_void r) m) k t (given (then_eval a (λ o K. comes_to (tt {0}) K)) (λ _ K. next K))
  unfolding given then_eval
  called-after Γ N c void u m q k t (comes_to (Some v) K) h g e st = absurd e.0
  called-after Γ N c void u m q k t (comes_to None K) h g e st = at_end N K c Γ u m h g.0 g.1
  called-after Γ N c (gives y) u m q k t (comes_to (Some v) K) h g e st =
      at_end N K c Γ u (m + 1) h g.0 (joined g.1 (on (drop-goes C c [] m K.left K.board (held v) q st.0) here))
  called-after Γ N c (gives y) u m q k t (comes_to None K) h g e st = absurd e.0
  called-after Γ N c r u m q k t (ends x p K) h g e st = g

  -- where `break` and `continue` go, from code that ends at e: forward, or onto a tick
  abbrev pub Lands : Bool → (e k t : ℕ) → Type 0
  Lands l e k t = l ≡ true → (e ≤ k) × ((e ≤ t) ⊎ ((p : ℕ) × (slice_get C t ≡ Some (ins 16 (pos 0) p))))

  closer : (l : Bool) (d e k t : ℕ) → d ≤ e → Lands l e k t → Lands l d k t
  closer l d e k t h g b = let w = g b in (omega (arith, w.0), nearer w.1)
    where
      nearer : (e ≤ t) ⊎ ((p : ℕ) × (slice_get C t ≡ Some (ins 16 (pos 0) p))) → (d ≤ t) ⊎ ((p : ℕ) × (slice_get C t ≡ Some (ins 16 (pos 0) p)))
      nearer (inl x) = inl (omega arith)
      nearer (inr x) = inr x

  continue_lands : (o t : ℕ) → (o + 1 ≤ t) ⊎ ((p : ℕ) × (slice_get C t ≡ Some (ins 16 (pos 0) p))) → may_land C o t ≡ true
  continue_lands o t (inl h) = forward C o t (omega arith)
  continue_lands o t (inr h) = onto_tick C o t h.0 h.1

  -- a jump out of a body, from wherever in it
  jump_after : (N : State) (c : List ℤ) (Γ : Scope) (o p j : ℕ) → Good Γ N c → slice_get C o ≡ Some (ins 14 (pos j) p) → may_land C o j ≡ true → At (mach c [] o N.left N.board) N j
  jump_after N c Γ o p j h st g = record { memory = c; sized = h.sized; holds = h.holds; walk = on (jump_goes C c [] o N.left N.board j p st g) here }

  -- the code goes on where it is
  stays : (Γ : Scope) (z k t : ℕ) → Does Γ z z k t (λ N. next N)
  stays Γ z k t N c h = record { memory = c; sized = h.sized; holds = h.holds; walk = here }

  leaves : (Γ : Scope) (z y t : ℕ) → Does Γ z y z t (λ N. broke N)
  leaves Γ z y t N c h = record { memory = c; sized = h.sized; holds = h.holds; walk = here }

  -- a new variable has a cell
  pub defined-room : (x : Ident) (t : Scalar) (Γ Δ : Scope) → defined x t Γ ≡ accepted Δ → cells Γ < 64
  unfolding defined room
  defined-room x t Γ Δ h =
      let i = Sound.then_passed _ _ Δ h in
      let j = Sound.then_passed _ _ Δ i.2 in
      let r = Sound.needs_passed _ _ _ j.0 j.1 in grind (arith, nat_tests)

  -- the check and the code agree on the names after a statement
  scope_is : (s : Stmt) (l : Bool) (Γ Δ : Scope) → check_stmt s l Γ ≡ accepted Δ → Δ ≡ scope_after s Γ
  unfolding check_stmt check_stmts scope_after
  scope_is (block q ss) l Γ Δ h = sym (Sound.kept _ Γ Δ h)
  scope_is (define t q x e) l Γ Δ h = let i = Sound.then_passed _ _ Δ h in (Sound.defined-leave x t Γ Δ i.2).0
  scope_is (assign x p e q) l Γ Δ h = let i = Sound.then_passed _ _ Δ h in sym (Sound.kept _ Γ Δ i.2)
  scope_is (modify m x p e q) l Γ Δ h = let i = Sound.then_passed _ _ Δ h in let j = Sound.then_passed _ _ Δ i.2 in sym (Sound.kept _ Γ Δ j.2)
  scope_is (evaluate e q) l Γ Δ h = sym (Sound.kept _ Γ Δ h)
  scope_is (if_then p q e s) l Γ Δ h = let i = Sound.then_passed _ _ Δ h in sym (Sound.kept _ Γ Δ i.2)
  scope_is (if_else p q e s o t) l Γ Δ h = let i = Sound.then_passed _ _ Δ h in let j = Sound.then_passed _ _ Δ i.2 in sym (Sound.kept _ Γ Δ j.2)
  scope_is (while p q e s) l Γ Δ h = let i = Sound.then_passed _ _ Δ h in sym (Sound.kept _ Γ Δ i.2)
  scope_is (do_while p s q e) l Γ Δ h = let i = Sound.then_passed _ _ Δ h in sym (Sound.kept _ Γ Δ i.2)
  scope_is (for_to p q x a b s) l Γ Δ h =
      let i = Sound.then_passed _ _ Δ h in let j = Sound.then_passed _ _ Δ i.2 in let m = Sound.then_passed _ _ Δ j.2 in let n = Sound.then_passed _ _ Δ m.2 in
      sym (Sound.kept _ Γ Δ n.2)
  scope_is (break p q) l Γ Δ h = sym (Sound.kept _ Γ Δ h)
  scope_is (continue p q) l Γ Δ h = sym (Sound.kept _ Γ Δ h)
  scope_is (return p e q) l Γ Δ h = sym (Sound.kept _ Γ Δ h)
  scope_is (return_bare p q) l Γ Δ h = Sound.refused_accepted h

  -- no statement takes more than 64 cells
  few_after : (s : Stmt) (l : Bool) (Γ Δ : Scope) → check_stmt s l Γ ≡ accepted Δ → cells Γ ≤ 64 → cells (scope_after s Γ) ≤ 64
  unfolding check_stmt scope_after cells
  few_after (block q ss) l Γ Δ h f = f
  few_after (define t q x e) l Γ Δ h f = let i = Sound.then_passed _ _ Δ h in let g = defined-room x t Γ Δ i.2 in omega arith
  few_after (assign x p e q) l Γ Δ h f = f
  few_after (modify m x p e q) l Γ Δ h f = f
  few_after (evaluate e q) l Γ Δ h f = f
  few_after (if_then p q e s) l Γ Δ h f = f
  few_after (if_else p q e s o t) l Γ Δ h f = f
  few_after (while p q e s) l Γ Δ h f = f
  few_after (do_while p s q e) l Γ Δ h f = f
  few_after (for_to p q x a b s) l Γ Δ h f = f
  few_after (break p q) l Γ Δ h f = f
  few_after (continue p q) l Γ Δ h f = f
  few_after (return p e q) l Γ Δ h f = f
  few_after (return_bare p q) l Γ Δ h f = f

  -- an expression that the check found to be of a type
  typed_as : (e : Expr) (Γ : Scope) (t : Scalar) (p : ℕ) (u : Unit {0}) → needs_type e Γ t p ≡ accepted u → type_of e Γ ≡ accepted t
  unfolding needs_type
  typed_as e Γ t p u h =
      let i = Sound.then_passed (type_of e Γ) _ u h in i.1 ∙ ap accepted (same_type_lem i.0 t (Sound.needs_passed _ _ _ u i.2))

  -- One lemma for each form of statement; what its body does is handed in.

  module _ (Γ : Scope) (few : cells Γ ≤ 64) where
    define_case : (x : Ident) (e : Expr) (s : Scalar) (o k t : ℕ) → type_of e Γ ≡ accepted s → cells Γ < 64 → expr_needs e ≤ 256 →
        Stands C o (expr_code e Γ o ++ (ins 2 (pos (cells Γ)) x.place ∷ [])) → Does Γ o (expr_end e Γ o + 1) k t (λ N. given (eval e N) (λ v K. defining x.bytes v K))
    define_case x e s o k t h l r st N c g =
        let i = cut C (expr_code e Γ o) _ o st in
        let j = rw (expr_after e Γ o) at i.1 in
        given-after Γ N c [] s _ (expr_end e Γ o) _ k t (eval e N) _ (evaluated Γ N c [] e s o h few g (omega arith) i.0)
        (λ v K q d. defining-after Γ K c x.bytes v (expr_end e Γ o) x.place k t (still Γ N K c g d) l j.0)

    assign_case : (x : Ident) (e : Expr) (s r : Scalar) (o p k t : ℕ) → type_of e Γ ≡ accepted s → as_variable (lookup x.bytes Γ) x.place ≡ accepted r → expr_needs e ≤ 256 →
        Stands C o (expr_code e Γ o ++ (ins 2 (pos (cell_of x.bytes Γ)) p ∷ [])) →
        Does Γ o (expr_end e Γ o + 1) k t (λ N. given (eval e N) (λ v K. store (lookup x.bytes K.names) x.bytes v K))
    assign_case x e s r o p k t h a n st N c g =
        let i = cut C (expr_code e Γ o) _ o st in
        let j = rw (expr_after e Γ o) at i.1 in
        given-after Γ N c [] s _ (expr_end e Γ o) _ k t (eval e N) _ (evaluated Γ N c [] e s o h few g (omega arith) i.0)
        (λ v K q d. store-after Γ K c x.bytes x.place r v (expr_end e Γ o) p k t (still Γ N K c g d) few a j.0)

    return_case : (e : Expr) (s : Scalar) (o p z k t : ℕ) → type_of e Γ ≡ accepted s → expr_needs e ≤ 256 → Stands C o (expr_code e Γ o ++ (ins 21 (pos 0) p ∷ [])) →
        Does Γ o z k t (λ N. given (eval e N) (λ v K. as_int v (λ n J. ended (returned n) p J) K))
    return_case e s o p z k t h n st N c g =
        let i = cut C (expr_code e Γ o) _ o st in
        let j = rw (expr_after e Γ o) at i.1 in
        given-after Γ N c [] s _ (expr_end e Γ o) z k t (eval e N) _ (evaluated Γ N c [] e s o h few g (omega arith) i.0)
        (λ v K q d. return_after K c v (expr_end e Γ o) p z k t j.0)

    -- a condition, and what is done by it: on at m + 1, or at j
    condition_case : (e : Expr) (f g : State → Flow) (o j p z k t : ℕ) → type_of e Γ ≡ accepted bool → expr_needs e ≤ 256 → Stands C o (expr_code e Γ o) →
        slice_get C (expr_end e Γ o) ≡ Some (ins 15 (pos j) p) → expr_end e Γ o < j → Does Γ (expr_end e Γ o + 1) z k t f → Does Γ j z k t g →
        Does Γ o z k t (λ N. given (eval e N) (λ v K. choose v f g K))
    condition_case e f g o j p z k t h n st i l a b N c w =
        given-after Γ N c [] bool _ (expr_end e Γ o) z k t (eval e N) _ (evaluated Γ N c [] e bool o h few w (omega arith) st)
        (λ v K q d. choose-after Γ K c v f g (expr_end e Γ o) j p z k t q (still Γ N K c w d) i l a b)

    -- goes on from y to z
    jumps_on : (y z p o k t : ℕ) (f : State → Flow) → slice_get C y ≡ Some (ins 14 (pos z) p) → may_land C y z ≡ true → Does Γ o y k t f → Does Γ o z k t f
    jumps_on y z p o k t f st g h N c w =
        next_on _ y z k t (f N) (λ K b. on (jump_goes C b [] y K.left K.board z p st g) here) (h N c w)

    while_case : (e : Expr) (f : State → Flow) (o p k t n : ℕ) → type_of e Γ ≡ accepted bool → expr_needs e ≤ 256 →
        slice_get C o ≡ Some (ins 16 (pos 0) p) → Stands C (o + 1) (expr_code e Γ (o + 1)) → slice_get C (expr_end e Γ (o + 1)) ≡ Some (ins 15 (pos (n + 1)) p) → expr_end e Γ (o + 1) + 1 ≤ n →
        slice_get C n ≡ Some (ins 14 (pos o) p) → Does Γ (expr_end e Γ (o + 1) + 1) n (n + 1) o (λ N. in_level f N) → Sound.Body true Γ f → ((N : State) → HoldsF N (f N)) →
        Does Γ o (n + 1) k t (λ N. looping p (while_round (λ K. eval e K) f) N)
    unfolding while_round
    while_case e f o p k t n h r tick st i l back b typed fewer =
        looping-after Γ o p (n + 1) k t _ (record {
          typed = λ N d. Sound.while_round_typed Γ (λ K. eval e K) f (λ K g. eval_typed Γ e bool h K g) typed N d;
          fewer = λ N. while_round-holds (λ K. eval e K) f (λ K. eval_holds e K) fewer N;
          does = condition_case e (λ N. in_level f N) (λ N. broke N) (o + 1) (n + 1) p o (n + 1) o h r st i (omega arith)
              (jumps_on n o p _ (n + 1) o (λ N. in_level f N) back (onto_tick C n o p tick) b) (leaves Γ (n + 1) o o);
        }) tick

    do_case : (e : Expr) (f : State → Flow) (o p k t m : ℕ) → type_of e Γ ≡ accepted bool → expr_needs e ≤ 256 →
        slice_get C o ≡ Some (ins 16 (pos 0) p) → Does Γ (o + 1) m (expr_end e Γ m + 1 + 1) m (λ N. in_level f N) → Stands C m (expr_code e Γ m) →
        slice_get C (expr_end e Γ m) ≡ Some (ins 15 (pos (expr_end e Γ m + 1 + 1)) p) → slice_get C (expr_end e Γ m + 1) ≡ Some (ins 14 (pos o) p) →
        Sound.Body true Γ f → ((N : State) → HoldsF N (f N)) → Does Γ o (expr_end e Γ m + 1 + 1) k t (λ N. looping p (do_round (λ K. eval e K) f) N)
    unfolding do_round
    do_case e f o p k t m h r tick b st i back typed fewer =
        let n = expr_end e Γ m in
        let z = n + 1 + 1 in
        looping-after Γ o p z k t _ (record {
          typed = λ N d. Sound.do_round_typed Γ (λ K. eval e K) f (λ K g. eval_typed Γ e bool h K g) typed N d;
          fewer = λ N. do_round-holds (λ K. eval e K) f (λ K. eval_holds e K) fewer N;
          does = λ N c g. after_body-after true Γ _ m o z (in_level f N) _ (typed N g.erased) (b N c g)
              (condition_case e (λ K. next K) (λ K. broke K) m z p o z o h r st i (omega arith)
              (jumps_on (n + 1) o p (n + 1) z o (λ K. next K) back (onto_tick C (n + 1) o p tick) (stays Γ (n + 1) z o)) (leaves Γ z o o));
        }) tick

    -- the start and the stop of a `for` go into their cells
    set_for : (x : List ℕ) (v w : Value) (K : State) (c : List ℤ) → Good Γ K c → cells Γ + 1 < 64 → value_type v ≡ int → value_type w ≡ int →
        Good (for_scope x Γ) (with_names K (stop w ∷ Scopes.variable x v ∷ level ∷ K.names)) (set (set c (cells Γ + 1) (held w)) (cells Γ) (held v))
    unfolding cells
    set_for x v w K c g l i j =
        let n = size_of Γ K c g in
        let s = g.sized in
        let d = set c (cells Γ + 1) (held w) in
        let sd : length d ≡ 64 = length-set c (cells Γ + 1) (held w) ∙ s in
        let a : get_or (set d (cells Γ) (held v)) (suc (cells K.names)) (pos 0) ≡ held w =
        let m : suc (cells K.names) ≡ cells Γ + 1 = omega arith in
        rw m (get_or-set_other d (cells Γ) (cells Γ + 1) (held v) (pos 0) (omega arith) ∙ get_or-set_same c (cells Γ + 1) (held w) (pos 0) (omega arith)) in
        let b : get_or (set d (cells Γ) (held v)) (cells K.names) (pos 0) ≡ held v = rw n (get_or-set_same d (cells Γ) (held v) (pos 0) (omega arith)) in
        let h = holds_beyond K.names c (cells Γ + 1) (held w) (omega arith) g.holds in
        record {
          erased = let e = g.erased in cc;
          sized = length-set d (cells Γ) (held v) ∙ sd;
          holds = (a, (b, holds_beyond K.names d (cells Γ) (held v) (omega arith) h));
        }

    for_case : (x : Ident) (a b : Expr) (f : State → Flow) (o p k t n : ℕ) → type_of a Γ ≡ accepted int → type_of b Γ ≡ accepted int → expr_needs a ≤ 256 → 1 + expr_needs b ≤ 256 → cells Γ + 1 < 64 →
        (let j = expr_end b Γ (expr_end a Γ o) in
        let y = j + 1 + 1 in
        let m = y + 1 + 1 + 1 + 1 + 1 in
        let z = n + 1 + 1 + 1 + 1 + 1 in
        let v = cells Γ in
        Stands C o (expr_code a Γ o) → Stands C (expr_end a Γ o) (expr_code b Γ (expr_end a Γ o)) →
        Stands C j (ins 2 (pos (v + 1)) x.place ∷ ins 2 (pos v) x.place ∷ ins 16 (pos 0) p ∷ ins 1 (pos v) p ∷ ins 1 (pos (v + 1)) p ∷ ins 10 (pos 0) p ∷ ins 15 (pos z) p ∷ []) →
        Stands C n (ins 1 (pos v) p ∷ ins 0 (pos 1) p ∷ ins 4 (pos 0) p ∷ ins 2 (pos v) p ∷ ins 14 (pos y) p ∷ []) → m ≤ n →
        Does (for_scope x.bytes Γ) m n z n (λ N. in_level f N) → Sound.Body true (for_scope x.bytes Γ) f → ((N : State) → HoldsF N (f N)) →
        Does Γ o z k t (λ N. given (eval a N) (λ v N. given (eval b N) (λ w K. leaving (looping p (for_round f) (with_names K (stop w ∷ Scopes.variable x.bytes v ∷ level ∷ K.names)))))))
    unfolding for_round
    for_case x a b f o p k t n h g r q l sa sb st sn mn body typed fewer N c w =
        let j = expr_end b Γ (expr_end a Γ o) in
        let y = j + 1 + 1 in
        let m = y + 1 + 1 + 1 + 1 + 1 in
        let z = n + 1 + 1 + 1 + 1 + 1 in
        let v = cells Γ in
        let Δ = for_scope x.bytes Γ in
        let rounds : Rounds Δ y z (for_round f) = record {
          typed = λ M d. Sound.for_round_typed x.bytes Γ f typed M d;
          fewer = λ M. for_round-holds f fewer M;
          does = below-after x.bytes Γ _ (y + 1) p y z l (omega arith) (st.1.1.1.0, (st.1.1.1.1.0, (st.1.1.1.1.1.0, (st.1.1.1.1.1.1.0, tt))))
              (λ M e i. after_body-after true Δ _ n y z (in_level f M) _ (typed M i.erased) (body M e i) (adding-after x.bytes Γ n p y z y l sn st.1.1.0));
        } in
        given-after Γ N c [] int _ (expr_end a Γ o) z k t (eval a N) _ (evaluated Γ N c [] a int o h few w (omega arith) sa) (λ s K e d.
        let u = still Γ N K c w d in
        given-after Γ K c (held s ∷ []) int _ j z k t (eval b K) _ (evaluated Γ K c (held s ∷ []) b int (expr_end a Γ o) g few u (omega arith) sb) (λ i J e2 d2.
        let u2 = still Γ K J c u d2 in
        let c1 = set c (v + 1) (held i) in
        let c2 = set c1 v (held s) in
        let M = with_names J (stop i ∷ Scopes.variable x.bytes s ∷ level ∷ J.names) in
        leaving-after _ z k t (looping p (for_round f) M) (later_f _ (mach c2 [] y J.left J.board) z k t (looping p (for_round f) M)
        (on (store_goes C c (held s ∷ []) j J.left J.board (held i) (v + 1) x.place st.0 l)
        (on (store_goes C c1 [] (j + 1) J.left J.board (held s) v x.place st.1.0 (omega arith)) here))
        (looping-after Δ y p z k t (for_round f) rounds st.1.1.0 M c2 (set_for x.bytes s i J c u2 l e e2)))))

    -- a whole expression statement
    dropped_case : (e : Expr) (s : Scalar) (o q k t : ℕ) → type_of e Γ ≡ accepted s → expr_needs e ≤ 256 → Stands C o (expr_code e Γ o ++ (ins 3 (pos 0) q ∷ [])) →
        Does Γ o (expr_end e Γ o + 1) k t (λ N. given (then_eval (eval e N) (λ v K. comes_to (tt {0}) K)) (λ _ K. next K))
    dropped_case e s o q k t h n st N c g =
        let i = cut C (expr_code e Γ o) _ o st in
        let j = rw (expr_after e Γ o) at i.1 in
        dropped_after Γ N c s _ (expr_end e Γ o) q k t (eval e N) g (evaluated Γ N c [] e s o h few g (omega arith) i.0) j.0

    -- what a called function leaves is what its declaration says
    void_is : (f : Callee) → gives_nothing (a_function f) ≡ is_void (signature f).result
    void_is zone = refl
    void_is columns = refl
    void_is rows = refl
    void_is report = refl
    void_is main = refl

    returns_nothing : (x : Ident) (gs : Told (List Scalar)) (r : Return) → called Γ x gs ≡ accepted r → (ns : Names Value) → erase ns ≡ Γ → gives_nothing (lookup x.bytes Γ) ≡ is_void r
    unfolding called
    returns_nothing x gs r h ns e =
        let i = Sound.then_passed _ _ r h in
        let j = Sound.then_passed gs _ r i.2 in
        let n = Sound.then_passed _ _ r j.2 in
        let f : Callee = i.0 in
        let q : (signature f).result ≡ r = let g = n.2 in cc in
        let found : lookup x.bytes Γ ≡ erase_meant (lookup x.bytes ns) = ap (lookup x.bytes) (sym e) ∙ lookup-erase x.bytes ns in
        let w = Sound.callee_known Γ (lookup x.bytes ns) x.place f (ap (λ (y : Meant Scalar). as_callee y x.place) (sym found) ∙ i.1) in
        ap gives_nothing (found ∙ ap erase_meant w.0) ∙ void_is f ∙ ap is_void q

    call_statement : (x : Ident) (qq : ℕ × ℕ) (xs : Args) (r : Return) (o q k t : ℕ) → called Γ x (arg_types xs Γ) ≡ accepted r → expr_needs (call x qq xs) ≤ 256 →
        Stands C o (expr_code (call x qq xs) Γ o ++ drop_code (leaves_nothing (call x qq xs) Γ) q) →
        Does Γ o (drop_end (leaves_nothing (call x qq xs) Γ) (expr_end (call x qq xs) Γ o)) k t
        (λ N. given (then_eval (then_eval (eval_args xs N) (λ vs K. invoke_meant (lookup x.bytes K.names) vs x.place K)) (λ o K. comes_to (tt {0}) K)) (λ _ K. next K))
    unfolding expr_code expr_end expr_needs
    call_statement x qq xs r o q k t h n st N c g =
        let v = returns_nothing x (arg_types xs Γ) r h N.names g.erased in
        let i = cut C (args_code xs Γ o ++ (ins (call_code (lookup x.bytes Γ)) (pos 0) x.place ∷ [])) _ o st in
        let i1 = cut C (args_code xs Γ o) _ o i.0 in
        let m = args_end xs Γ o in
        let z : after (args_code xs Γ o ++ (ins (call_code (lookup x.bytes Γ)) (pos 0) x.place ∷ [])) o ≡ m + 1 = after-append (args_code xs Γ o) _ o ∙ rw (args_after xs Γ o) refl in
        let d : Stands C (m + 1) (drop_code (is_void r) q) = rw (z, v) at i.1 in
        let rd = ready Γ N c few g in
        rw v (called-after Γ N c r _ (m + 1) q k t _ g
        (call_case C Γ N.names c rd x xs r h N [] _ m (omega arith) (λ ts e. args_done C Γ N.names c rd xs ts e N refl [] o (omega arith) i1.0) (rw (args_after xs Γ o) at i1.1).0)
        (Sound.call_typed Γ x (arg_types xs Γ) r (eval_args xs N) h (λ ts e. Sound.eval_args_typed Γ xs ts e N g.erased)) d)

    evaluate_case : (e : Expr) (u : Unit {0}) (o q k t : ℕ) → check_whole e Γ ≡ accepted u → expr_needs e ≤ 256 → Stands C o (expr_code e Γ o ++ drop_code (leaves_nothing e Γ) q) →
        Does Γ o (drop_end (leaves_nothing e Γ) (expr_end e Γ o)) k t (λ N. given (eval_whole e N) (λ _ K. next K))
    unfolding check_whole eval_whole eval type_of then_eval
    evaluate_case (constant a) u o q k t h n st = dropped_case (constant a) _ o q k t refl n st
    evaluate_case (variable x) u o q k t h n st = let i = Sound.then_passed (type_of (variable x) Γ) _ u h in dropped_case (variable x) i.0 o q k t i.1 n st
    evaluate_case (call x qq xs) u o q k t h n st = let i = Sound.then_passed _ _ u h in call_statement x qq xs i.0 o q k t i.1 n st
    evaluate_case (bracket qq e) u o q k t h n st = let i = Sound.then_passed (type_of e Γ) _ u h in dropped_case (bracket qq e) i.0 o q k t i.1 n st
    evaluate_case (unary f p e) u o q k t h n st = let i = Sound.then_passed (type_of (unary f p e) Γ) _ u h in dropped_case (unary f p e) i.0 o q k t i.1 n st
    evaluate_case (binary f p a b) u o q k t h n st = let i = Sound.then_passed (type_of (binary f p a b) Γ) _ u h in dropped_case (binary f p a b) i.0 o q k t i.1 n st

  for_room : (Γ : Scope) (p : ℕ) (u : Unit {0}) → needs (room 2 Γ) 17 p ≡ accepted u → cells Γ + 1 < 64
  unfolding room
  for_room Γ p u h = let r = Sound.needs_passed _ _ _ u h in grind (arith, nat_tests)

  mutual
    unfolding run run_all check_stmt check_stmts stmt_code stmts_code stmt_end stmts_end stmt_needs stmts_need cells

    pub run-after : (s : Stmt) (l : Bool) (Γ Δ : Scope) → check_stmt s l Γ ≡ accepted Δ → cells Γ ≤ 64 → stmt_needs s ≤ 256 → (o k t : ℕ) → Lands l (stmt_end s Γ o) k t →
        Stands C o (stmt_code s Γ o k t) → Does Γ o (stmt_end s Γ o) k t (λ N. run s N)
    run-after (block q ss) l Γ Δ h f n o k t g st =
        let i = Sound.then_passed (check_stmts ss l (level ∷ Γ)) _ Δ h in
        in_level-after Γ o _ k t _ (run_all_after ss l (level ∷ Γ) i.0 i.1 f n o k t g st)
    run-after (define s q x e) l Γ Δ h f n o k t g st =
        let i = Sound.then_passed (needs_type e Γ s x.place) _ Δ h in
        define_case Γ f x e s o k t (typed_as e Γ s _ _ i.1) (defined-room x s Γ Δ i.2) n st
    run-after (assign x p e q) l Γ Δ h f n o k t g st =
        let i = Sound.then_passed _ _ Δ h in
        let j = Sound.then_passed (needs_type e Γ i.0 p) _ Δ i.2 in
        assign_case Γ f x e i.0 i.0 o p k t (typed_as e Γ i.0 _ _ j.1) i.1 n st
    run-after (modify m x p e q) l Γ Δ h f n o k t g st =
        let i = Sound.then_passed _ _ Δ h in
        let j = Sound.then_passed (type_of e Γ) _ Δ i.2 in
        let w = Sound.then_passed _ _ Δ j.2 in
        assign_case Γ f x (binary (operator_of m) p (variable x) e) w.0 i.0 o p k t (Sound.modify_type Γ m x p e i.0 j.0 w.0 i.1 j.1 w.1) i.1 n st
    run-after (evaluate e q) l Γ Δ h f n o k t g st =
        let i = Sound.then_passed (check_whole e Γ) _ Δ h in evaluate_case Γ f e i.0 o q k t i.1 n st
    run-after (if_then p q e s) l Γ Δ h f n o k t g st =
        let i = Sound.then_passed (needs_type e Γ bool p) _ Δ h in
        let j = Sound.then_passed (check_stmt s l (level ∷ Γ)) _ Δ i.2 in
        let m = expr_end e Γ o in
        let z = stmt_end s (level ∷ Γ) (m + 1) in
        let a = cut C (expr_code e Γ o) _ o st in
        let b = rw (expr_after e Γ o) at a.1 in
        let y = stmt_grows s (level ∷ Γ) (m + 1) in
        condition_case Γ f e _ (λ K. next K) o z p z k t (typed_as e Γ bool _ _ i.1) (omega arith) a.0 b.0 (omega arith)
        (in_level-after Γ (m + 1) z k t _ (run-after s l (level ∷ Γ) j.0 j.1 f (omega arith) (m + 1) k t g b.1)) (stays Γ z k t)
    run-after (if_else p q e s r s2) l Γ Δ h f n o k t g st =
        let i = Sound.then_passed (needs_type e Γ bool p) _ Δ h in
        let j = Sound.then_passed (check_stmt s l (level ∷ Γ)) _ Δ i.2 in
        let w = Sound.then_passed (check_stmt s2 l (level ∷ Γ)) _ Δ j.2 in
        let m = expr_end e Γ o in
        let y = stmt_end s (level ∷ Γ) (m + 1) in
        let z = stmt_end s2 (level ∷ Γ) (y + 1) in
        let a = cut C (expr_code e Γ o) _ o st in
        let b = rw (expr_after e Γ o) at a.1 in
        let c = cut C (stmt_code s (level ∷ Γ) (m + 1) k t) _ (m + 1) b.1 in
        let d = rw (stmt_after s (level ∷ Γ) (m + 1) k t) at c.1 in
        let g1 = stmt_grows s (level ∷ Γ) (m + 1) in
        let g2 = stmt_grows s2 (level ∷ Γ) (y + 1) in
        condition_case Γ f e (λ N. in_level (λ L. run s L) N) (λ N. in_level (λ L. run s2 L) N) o (y + 1) p z k t (typed_as e Γ bool _ _ i.1) (omega arith) a.0 b.0 (omega arith)
        (jumps_on Γ f y z p (m + 1) k t (λ N. in_level (λ L. run s L) N) d.0 (forward C y z (omega arith))
        (in_level-after Γ (m + 1) y k t (λ L. run s L) (run-after s l (level ∷ Γ) j.0 j.1 f (omega arith) (m + 1) k t (closer l y z k t (omega arith) g) c.0)))
        (in_level-after Γ (y + 1) z k t (λ L. run s2 L) (run-after s2 l (level ∷ Γ) w.0 w.1 f (omega arith) (y + 1) k t g d.1))
    run-after (while p q e s) l Γ Δ h f n o k t g st =
        let i = Sound.then_passed (needs_type e Γ bool p) _ Δ h in
        let j = Sound.then_passed (check_stmt s true (level ∷ Γ)) _ Δ i.2 in
        let m = expr_end e Γ (o + 1) in
        let y = stmt_end s (level ∷ Γ) (m + 1) in
        let a = cut C (expr_code e Γ (o + 1)) _ (o + 1) st.1 in
        let b = rw (expr_after e Γ (o + 1)) at a.1 in
        let c = cut C (stmt_code s (level ∷ Γ) (m + 1) (y + 1) o) _ (m + 1) b.1 in
        let d = rw (stmt_after s (level ∷ Γ) (m + 1) (y + 1) o) at c.1 in
        let g1 = stmt_grows s (level ∷ Γ) (m + 1) in
        while_case Γ f e (λ N. run s N) o p k t y (typed_as e Γ bool _ _ i.1) (omega arith) st.0 a.0 b.0 (omega arith) d.0
        (in_level-after Γ (m + 1) y (y + 1) o _ (run-after s true (level ∷ Γ) j.0 j.1 f (omega arith) (m + 1) (y + 1) o (λ _. (omega arith, inr (p, st.0))) c.0))
        (Sound.in_level_lem true Γ j.0 _ (Sound.stmt_leave s true _ _ j.1) (λ B β. Sound.run_typed s true (level ∷ Γ) j.0 j.1 B β)) (λ N. run_holds s N)
    run-after (do_while p s q e) l Γ Δ h f n o k t g st =
        let i = Sound.then_passed (check_stmt s true (level ∷ Γ)) _ Δ h in
        let j = Sound.then_passed (needs_type e Γ bool p) _ Δ i.2 in
        let m = stmt_end s (level ∷ Γ) (o + 1) in
        let z = expr_end e Γ m + 1 + 1 in
        let a = cut C (stmt_code s (level ∷ Γ) (o + 1) z m) _ (o + 1) st.1 in
        let b = rw (stmt_after s (level ∷ Γ) (o + 1) z m) at a.1 in
        let c = cut C (expr_code e Γ m) _ m b in
        let d = rw (expr_after e Γ m) at c.1 in
        let g1 = expr_grows e Γ m in
        do_case Γ f e (λ N. run s N) o p k t m (typed_as e Γ bool _ _ j.1) (omega arith) st.0
        (in_level-after Γ (o + 1) m z m _ (run-after s true (level ∷ Γ) i.0 i.1 f (omega arith) (o + 1) z m (λ _. (omega arith, inl (omega arith))) a.0))
        c.0 d.0 d.1.0
        (Sound.in_level_lem true Γ i.0 _ (Sound.stmt_leave s true _ _ i.1) (λ B β. Sound.run_typed s true (level ∷ Γ) i.0 i.1 B β)) (λ N. run_holds s N)
    run-after (for_to p q x a b s) l Γ Δ h f n o k t g st =
        let i = Sound.then_passed (type_of a Γ) _ Δ h in
        let j = Sound.then_passed (type_of b Γ) _ Δ i.2 in
        let w1 = Sound.then_passed _ _ Δ j.2 in
        let w2 = Sound.then_passed _ _ Δ w1.2 in
        let Θ = for_scope x.bytes Γ in
        let w3 = Sound.then_passed (check_stmt s true (level ∷ Θ)) _ Δ w2.2 in
        let ty = Sound.both_ints i.0 j.0 (Sound.needs_passed _ _ _ w1.0 w1.1) in
        let r = for_room Γ x.place w2.0 w2.1 in
        let e1 = expr_end a Γ o in
        let y0 = expr_end b Γ e1 in
        let m = y0 + 1 + 1 + 1 + 1 + 1 + 1 + 1 in
        let y = stmt_end s (level ∷ Θ) m in
        let z = y + 1 + 1 + 1 + 1 + 1 in
        let a1 = cut C (expr_code a Γ o) _ o st in
        let b1 = cut C (expr_code b Γ e1) _ e1 (rw (expr_after a Γ o) at a1.1) in
        let c1 = rw (expr_after b Γ e1) at b1.1 in
        let d1 = cut C (stmt_code s (level ∷ Θ) m z y) _ m c1.1.1.1.1.1.1.1 in
        let d2 = rw (stmt_after s (level ∷ Θ) m z y) at d1.1 in
        let g1 = stmt_grows s (level ∷ Θ) m in
        for_case Γ f x a b (λ N. run s N) o p k t y (i.1 ∙ ap accepted ty.0) (j.1 ∙ ap accepted ty.1) (omega arith) (omega arith) r a1.0 b1.0
        (c1.0, (c1.1.0, (c1.1.1.0, (c1.1.1.1.0, (c1.1.1.1.1.0, (c1.1.1.1.1.1.0, (c1.1.1.1.1.1.1.0, tt))))))) d2 g1
        (in_level-after Θ m y z y _ (run-after s true (level ∷ Θ) w3.0 w3.1 (omega arith) (omega arith) m z y (λ _. (omega arith, inl (omega arith))) d1.0))
        (Sound.in_level_lem true Θ w3.0 _ (Sound.stmt_leave s true _ _ w3.1) (λ B β. Sound.run_typed s true (level ∷ Θ) w3.0 w3.1 B β)) (λ N. run_holds s N)
    run-after (break p q) l Γ Δ h f n o k t g st = λ N c w.
        let i = g (Sound.needs_passed l _ _ _ (Sound.then_passed (needs l 16 p) _ Δ h).1) in
        jump_after N c Γ o p k w st.0 (forward C o k (omega (arith, i.0)))
    run-after (continue p q) l Γ Δ h f n o k t g st = λ N c w.
        let i = g (Sound.needs_passed l _ _ _ (Sound.then_passed (needs l 16 p) _ Δ h).1) in
        jump_after N c Γ o p t w st.0 (continue_lands o t i.1)
    run-after (return p e q) l Γ Δ h f n o k t g st =
        let i = Sound.then_passed (needs_type e Γ int p) _ Δ h in
        return_case Γ f e int o p _ k t (typed_as e Γ int _ _ i.1) n st
    run-after (return_bare p q) l Γ Δ h f n o k t g st = Sound.refused_accepted h

    pub run_all_after : (ss : Stmts) (l : Bool) (Γ Δ : Scope) → check_stmts ss l Γ ≡ accepted Δ → cells Γ ≤ 64 → stmts_need ss ≤ 256 → (o k t : ℕ) → Lands l (stmts_end ss Γ o) k t →
        Stands C o (stmts_code ss Γ o k t) → Does Γ o (stmts_end ss Γ o) k t (λ N. run_all ss N)
    run_all_after nil l Γ Δ h f n o k t g st = stays Γ o k t
    run_all_after (cons s ss) l Γ Δ h f n o k t g st = λ N c w.
        let i = Sound.then_passed (check_stmt s l Γ) _ Δ h in
        let e = scope_is s l Γ i.0 i.1 in
        let m = stmt_end s Γ o in
        let a = cut C (stmt_code s Γ o k t) _ o st in
        let b = rw (stmt_after s Γ o k t) at a.1 in
        let g1 = stmts_grow ss (scope_after s Γ) m in
        then_flow-after l Γ (scope_after s Γ) _ m _ k t (run s N) _ (rw e at (Sound.run_typed s l Γ i.0 i.1 N w.erased))
        (run-after s l Γ i.0 i.1 f (omega arith) o k t (closer l m _ k t g1 g) a.0 N c w)
        (run_all_after ss l (scope_after s Γ) Δ (rw e at i.2) (few_after s l Γ i.0 i.1 f) (omega arith) m k t g b)
