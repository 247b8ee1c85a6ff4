-- With more ticks, whatever does not wait comes to the same, with the further ticks still left.
use Rattle.std.proofs.Common.{◌≡◌, ℕ, zero, suc, ◌+◌, ◌≤◌, Bool, true, false, cond, List, [], ◌∷◌, Some, None, Option, sym, refl, arith}
use lib.Signed.{lt_z}
use Rattle.refusal.specs.Told.{Told, accepted, refused}
use Rattle.boards.specs.Meaning.{zone_answer, report_answer}
use Rattle.meaning.specs.declared.operator.Operator.{Operator}
use Rattle.meaning.specs.Trees.{Expr, constant, variable, call, bracket, unary, binary, Args, no_args, args, Exprs, last, more, Stmt, block, define, assign, modify, evaluate, if_then, if_else, while, do_while, for_to, break, continue, return, return_bare, Stmts, nil, cons}
use Rattle.meaning.specs.Scopes.{Callee, zone, columns, rows, report, main, Meant, absent, a_variable, a_function}
use Rattle.meaning.specs.Values.{Value, of_bool, of_char, of_int, Result, gives, zero_divisor, mistyped, Decided, decided, open_still}
use Rattle.meaning.specs.Laws.{MoreTicksChangeNothing}
use Rattle.meaning.specs.Run
use Rattle.meaning.specs.Run.{Ending, returned, waiting, divided, stuck, State, with_names, Evaluated, comes_to, ends, then_eval, result, read_variable, operate, answered, invoke, invoke_meant, needs_value, eval, eval_args, eval_exprs, eval_whole, Flow, next, broke, continued, ended, given, then_flow, choose, as_int, outside, leaving, in_level, store, defining, spend, again, loop, looping, after_body, Counting, counts, no_count, counting, below, adding, while_round, do_round, for_round, run, run_all, Outcome, finished, start, run_script}
use Rattle.meaning.proofs.Follows.{HoldsF, eval_holds, run_holds, while_round-holds, do_round-holds, for_round-holds}

module _ (k : ℕ) where
  -- the same state with k more ticks left
  abbrev pub richer : State → State
  richer S = record { names = S.names; board = S.board; left = S.left + k; spent = S.spent }

-- what is claimed of an ending: nothing where it is waiting
abbrev pub Unless : Ending → Type 0 → Type 0
Unless (returned v) P = P
Unless waiting P = Unit {0}
Unless divided P = P
Unless (Run.board n) P = P
Unless stuck P = P

pub unless : (e : Ending) {P Q : Type 0} → (P → Q) → Unless e P → Unless e Q
unless (returned v) f h = f h
unless waiting f h = tt
unless divided f h = f h
unless (Run.board n) f h = f h
unless stuck f h = f h

pub always : (e : Ending) {P : Type 0} → P → Unless e P
always (returned v) h = h
always waiting h = tt
always divided h = h
always (Run.board n) h = h
always stuck h = h

-- what a result becomes with k more ticks
abbrev pub GrownE : {X : Type 0} → ℕ → Evaluated X → Evaluated X → Type 0
GrownE k (comes_to x N) r = r ≡ comes_to x (richer k N)
GrownE k (ends e p N) r = Unless e (r ≡ ends e p (richer k N))

abbrev pub GrownF : ℕ → Flow → Flow → Type 0
GrownF k (next N) r = r ≡ next (richer k N)
GrownF k (broke N) r = r ≡ broke (richer k N)
GrownF k (continued N) r = r ≡ continued (richer k N)
GrownF k (ended e p N) r = Unless e (r ≡ ended e p (richer k N))

module _ (k : ℕ) where
  then_eval_grown : {X Y : Type 0} (a b : Evaluated X) (f : X → State → Evaluated Y) →
      GrownE k a b → ((x : X) (N : State) → GrownE k (f x N) (f x (richer k N))) → GrownE k (then_eval a f) (then_eval b f)
  unfolding then_eval
  then_eval_grown (comes_to x N) b f h g = rw h (g x N)
  then_eval_grown (ends e p N) b f h g = unless e (λ h. rw h refl) h

  result_grown : (r : Result) (p : ℕ) (S : State) → GrownE k (result r p S) (result r p (richer k S))
  unfolding result
  result_grown (gives v) p S = refl
  result_grown zero_divisor p S = refl
  result_grown mistyped p S = refl

  read_variable_grown : (m : Meant Value) (S : State) → GrownE k (read_variable m S) (read_variable m (richer k S))
  unfolding read_variable
  read_variable_grown absent S = refl
  read_variable_grown (a_variable v) S = refl
  read_variable_grown (a_function f) S = refl

  operate_grown : (d : Decided) (o : Operator) (p : ℕ) (v : Value) (f : State → Evaluated Value) →
      ((N : State) → GrownE k (f N) (f (richer k N))) → (S : State) → GrownE k (operate d o p v f S) (operate d o p v f (richer k S))
  unfolding operate
  operate_grown (decided w) o p v f g S = refl
  operate_grown open_still o p v f g S = then_eval_grown (f S) _ _ (g S) (λ w N. result_grown _ p N)

  answered_grown : {X Y : Type 0} (t : Told X) (f : X → Y) (p : ℕ) (S : State) → GrownE k (answered t f p S) (answered t f p (richer k S))
  unfolding answered
  answered_grown (accepted x) f p S = refl
  answered_grown (refused n q) f p S = refl

  invoke_grown : (f : Callee) (vs : List Value) (p : ℕ) (S : State) → GrownE k (invoke f vs p S) (invoke f vs p (richer k S))
  unfolding invoke
  invoke_grown zone [] p S = refl
  invoke_grown zone (of_int i ∷ []) p S = answered_grown (zone_answer S.board i) _ p S
  invoke_grown zone (of_int i ∷ (w ∷ vs)) p S = refl
  invoke_grown zone (of_bool b ∷ vs) p S = refl
  invoke_grown zone (of_char c ∷ vs) p S = refl
  invoke_grown columns [] p S = refl
  invoke_grown columns (v ∷ vs) p S = refl
  invoke_grown rows [] p S = refl
  invoke_grown rows (v ∷ vs) p S = refl
  invoke_grown report [] p S = refl
  invoke_grown report (of_int i ∷ []) p S = answered_grown (report_answer S.board) _ p _
  invoke_grown report (of_int i ∷ (w ∷ vs)) p S = refl
  invoke_grown report (of_bool b ∷ vs) p S = refl
  invoke_grown report (of_char c ∷ vs) p S = refl
  invoke_grown main vs p S = refl

  invoke_meant_grown : (m : Meant Value) (vs : List Value) (p : ℕ) (S : State) → GrownE k (invoke_meant m vs p S) (invoke_meant m vs p (richer k S))
  unfolding invoke_meant
  invoke_meant_grown absent vs p S = refl
  invoke_meant_grown (a_variable v) vs p S = refl
  invoke_meant_grown (a_function f) vs p S = invoke_grown f vs p S

  needs_value_grown : (o : Option Value) (S : State) → GrownE k (needs_value o S) (needs_value o (richer k S))
  unfolding needs_value
  needs_value_grown (Some v) S = refl
  needs_value_grown None S = refl

  mutual
    unfolding eval eval_args eval_exprs

    eval_grown : (e : Expr) (S : State) → GrownE k (eval e S) (eval e (richer k S))
    eval_grown (constant c) S = refl
    eval_grown (variable x) S = read_variable_grown _ S
    eval_grown (call x q xs) S =
        then_eval_grown _ _ _ (then_eval_grown _ _ _ (eval_args_grown xs S) (λ vs N. invoke_meant_grown _ vs x.place N)) (λ o N. needs_value_grown o N)
    eval_grown (bracket q e) S = eval_grown e S
    eval_grown (unary u p e) S = then_eval_grown _ _ _ (eval_grown e S) (λ v N. result_grown _ p N)
    eval_grown (binary o p a b) S = then_eval_grown _ _ _ (eval_grown a S) (λ v N. operate_grown _ o p v _ (λ K. eval_grown b K) N)

    eval_args_grown : (xs : Args) (S : State) → GrownE k (eval_args xs S) (eval_args xs (richer k S))
    eval_args_grown no_args S = refl
    eval_args_grown (args es) S = eval_exprs_grown es S

    eval_exprs_grown : (es : Exprs) (S : State) → GrownE k (eval_exprs es S) (eval_exprs es (richer k S))
    eval_exprs_grown (last e) S = then_eval_grown _ _ _ (eval_grown e S) (λ v N. refl)
    eval_exprs_grown (more e p es) S =
        then_eval_grown _ _ _ (eval_grown e S) (λ v N. then_eval_grown _ _ _ (eval_exprs_grown es N) (λ vs K. refl))

  eval_whole_grown : (e : Expr) (S : State) → GrownE k (eval_whole e S) (eval_whole e (richer k S))
  unfolding eval_whole
  eval_whole_grown (constant c) S = refl
  eval_whole_grown (variable x) S = then_eval_grown _ _ _ (eval_grown (variable x) S) (λ v N. refl)
  eval_whole_grown (call x q xs) S =
      then_eval_grown _ _ _ (then_eval_grown _ _ _ (eval_args_grown xs S) (λ vs N. invoke_meant_grown _ vs x.place N)) (λ o N. refl)
  eval_whole_grown (bracket q e) S = then_eval_grown _ _ _ (eval_grown e S) (λ v N. refl)
  eval_whole_grown (unary u p e) S = then_eval_grown _ _ _ (eval_grown (unary u p e) S) (λ v N. refl)
  eval_whole_grown (binary o p a b) S = then_eval_grown _ _ _ (eval_grown (binary o p a b) S) (λ v N. refl)

  given_grown : {X : Type 0} (a b : Evaluated X) (f : X → State → Flow) →
      GrownE k a b → ((x : X) (N : State) → GrownF k (f x N) (f x (richer k N))) → GrownF k (given a f) (given b f)
  unfolding given
  given_grown (comes_to x N) b f h g = rw h (g x N)
  given_grown (ends e p N) b f h g = unless e (λ h. rw h refl) h

  then_flow_grown : (a b : Flow) (f : State → Flow) → GrownF k a b → ((N : State) → GrownF k (f N) (f (richer k N))) → GrownF k (then_flow a f) (then_flow b f)
  unfolding then_flow
  then_flow_grown (next N) b f h g = rw h (g N)
  then_flow_grown (broke N) b f h g = rw h refl
  then_flow_grown (continued N) b f h g = rw h refl
  then_flow_grown (ended e p N) b f h g = unless e (λ h. rw h refl) h

  choose_grown : (v : Value) (f g : State → Flow) → ((N : State) → GrownF k (f N) (f (richer k N))) →
      ((N : State) → GrownF k (g N) (g (richer k N))) → (S : State) → GrownF k (choose v f g S) (choose v f g (richer k S))
  unfolding choose
  choose_grown (of_bool true) f g a b S = a S
  choose_grown (of_bool false) f g a b S = b S
  choose_grown (of_char c) f g a b S = refl
  choose_grown (of_int n) f g a b S = refl

  return_grown : (v : Value) (p : ℕ) (S : State) →
      GrownF k (as_int v (λ n K. ended (returned n) p K) S) (as_int v (λ n K. ended (returned n) p K) (richer k S))
  unfolding as_int
  return_grown (of_bool b) p S = refl
  return_grown (of_char c) p S = refl
  return_grown (of_int n) p S = refl

  leaving_grown : (a b : Flow) → GrownF k a b → GrownF k (leaving a) (leaving b)
  unfolding leaving outside
  leaving_grown (next N) b h = rw h refl
  leaving_grown (broke N) b h = rw h refl
  leaving_grown (continued N) b h = rw h refl
  leaving_grown (ended e p N) b h = unless e (λ h. rw h refl) h

  in_level_grown : (f : State → Flow) → ((N : State) → GrownF k (f N) (f (richer k N))) → (S : State) → GrownF k (in_level f S) (in_level f (richer k S))
  unfolding in_level
  in_level_grown f g S = leaving_grown _ _ (g _)

  store_grown : (m : Meant Value) (x : List ℕ) (v : Value) (S : State) → GrownF k (store m x v S) (store m x v (richer k S))
  unfolding store
  store_grown absent x v S = refl
  store_grown (a_variable w) x v S = refl
  store_grown (a_function f) x v S = refl

  defining_grown : (x : List ℕ) (v : Value) (S : State) → GrownF k (defining x v S) (defining x v (richer k S))
  unfolding defining
  defining_grown x v S = refl

  -- a tick of l that are left, and of l + k
  spend_grown : (l m p : ℕ) (f g : State → Flow) (S : State) → S.left ≡ l → m ≡ S.left + k →
      ((N : State) → suc N.left ≡ S.left → GrownF k (f N) (g (richer k N))) → GrownF k (spend l p f S) (spend m p g (richer k S))
  unfolding spend
  spend_grown zero m p f g S e d h = tt
  spend_grown (suc l) zero p f g S e d h = absurd (omega arith)
  spend_grown (suc l) (suc m) p f g S e d h =
      let N : State = record { names = S.names; board = S.board; left = l; spent = suc S.spent } in
      let z : m ≡ l + k = omega arith in rw z (h N (sym e))

  again_grown : (S : State) (a b : Flow) (f g : State → Flow) → HoldsF S a → GrownF k a b →
      ((N : State) → N.left ≤ S.left → GrownF k (f N) (g (richer k N))) → GrownF k (again a f) (again b g)
  unfolding again
  again_grown S (next N) b f g w h t = rw h (t N w.fewer)
  again_grown S (broke N) b f g w h t = rw h refl
  again_grown S (continued N) b f g w h t = rw h (t N w.fewer)
  again_grown S (ended e p N) b f g w h t = unless e (λ h. rw h refl) h

  -- what is known of a round of a loop
  record Round (f : State → Flow) : Type 0 where
    holds : (N : State) → HoldsF N (f N)
    grown : (N : State) → GrownF k (f N) (f (richer k N))

  spend-none : (l p : ℕ) (f : State → Flow) (S : State) (r : Flow) → l ≡ 0 → GrownF k (spend l p f S) r
  unfolding spend
  spend-none zero p f S r e = tt
  spend-none (suc l) p f S r e = absurd (omega arith)

  loop_grown : (n m p : ℕ) (f : State → Flow) → Round f → (S : State) → S.left ≤ n → S.left + k ≤ m →
      GrownF k (loop n p f S) (loop m p f (richer k S))
  unfolding loop
  loop_grown zero m p f r S a b = tt
  loop_grown (suc n) zero p f r S a b = spend-none S.left p _ S _ (omega arith)
  loop_grown (suc n) (suc m) p f r S a b =
      spend_grown S.left (S.left + k) p _ _ S refl refl
      (λ N e. again_grown N (f N) _ _ _ (r.holds N) (r.grown N) (λ K d. loop_grown n m p f r K (omega arith) (omega arith)))

  looping_grown : (p : ℕ) (f : State → Flow) → Round f → (S : State) → GrownF k (looping p f S) (looping p f (richer k S))
  unfolding looping
  looping_grown p f r S = loop_grown S.left (S.left + k) p f r S (omega arith) (omega arith)

  after_body_grown : (a b : Flow) (f : State → Flow) → GrownF k a b → ((N : State) → GrownF k (f N) (f (richer k N))) → GrownF k (after_body a f) (after_body b f)
  unfolding after_body
  after_body_grown (next N) b f h g = rw h (g N)
  after_body_grown (broke N) b f h g = rw h refl
  after_body_grown (continued N) b f h g = rw h (g N)
  after_body_grown (ended e p N) b f h g = unless e (λ h. rw h refl) h

  below_grown : (c : Counting) (f : State → Flow) → ((N : State) → GrownF k (f N) (f (richer k N))) → (S : State) → GrownF k (below c f S) (below c f (richer k S))
  unfolding below
  below_grown no_count f g S = refl
  below_grown (counts x i n r) f g S = go (lt_z i n)
    where
      go : (b : Bool) → GrownF k (cond b f (λ N. broke N) S) (cond b f (λ N. broke N) (richer k S))
      go true = g S
      go false = refl

  adding_grown : (c : Counting) (S : State) → GrownF k (adding c S) (adding c (richer k S))
  unfolding adding
  adding_grown no_count S = refl
  adding_grown (counts x i n r) S = refl

  while_round_grown : (c : State → Evaluated Value) (f : State → Flow) → ((N : State) → GrownE k (c N) (c (richer k N))) →
      ((N : State) → GrownF k (f N) (f (richer k N))) → (S : State) → GrownF k (while_round c f S) (while_round c f (richer k S))
  unfolding while_round
  while_round_grown c f g h S = given_grown _ _ _ (g S) (λ v N. choose_grown v _ _ (λ K. in_level_grown _ h K) (λ K. refl) N)

  do_round_grown : (c : State → Evaluated Value) (f : State → Flow) → ((N : State) → GrownE k (c N) (c (richer k N))) →
      ((N : State) → GrownF k (f N) (f (richer k N))) → (S : State) → GrownF k (do_round c f S) (do_round c f (richer k S))
  unfolding do_round
  do_round_grown c f g h S =
      after_body_grown _ _ _ (in_level_grown _ h S) (λ N. given_grown _ _ _ (g N) (λ v K. choose_grown v _ _ (λ L. refl) (λ L. refl) K))

  for_round_grown : (f : State → Flow) → ((N : State) → GrownF k (f N) (f (richer k N))) → (S : State) → GrownF k (for_round f S) (for_round f (richer k S))
  unfolding for_round
  for_round_grown f h S = below_grown _ _ (λ N. after_body_grown _ _ _ (in_level_grown _ h N) (λ K. adding_grown _ K)) S

  mutual
    unfolding run run_all

    run_grown : (s : Stmt) (S : State) → GrownF k (run s S) (run s (richer k S))
    run_grown (block q ss) S = in_level_grown _ (λ N. run_all_grown ss N) S
    run_grown (define t q x e) S = given_grown _ _ _ (eval_grown e S) (λ v N. defining_grown _ v N)
    run_grown (assign x p e q) S = given_grown _ _ _ (eval_grown e S) (λ v N. store_grown _ _ v N)
    run_grown (modify m x p e q) S = given_grown _ _ _ (eval_grown (binary _ p (variable x) e) S) (λ v N. store_grown _ _ v N)
    run_grown (evaluate e q) S = given_grown _ _ _ (eval_whole_grown e S) (λ _ N. refl)
    run_grown (if_then p q e s) S =
        given_grown _ _ _ (eval_grown e S) (λ v N. choose_grown v _ _ (λ K. in_level_grown _ (λ L. run_grown s L) K) (λ K. refl) N)
    run_grown (if_else p q e s o t) S =
        given_grown _ _ _ (eval_grown e S)
        (λ v N. choose_grown v _ _ (λ K. in_level_grown _ (λ L. run_grown s L) K) (λ K. in_level_grown _ (λ L. run_grown t L) K) N)
    run_grown (while p q e s) S =
        looping_grown p _ (record { holds = while_round-holds _ _ (λ N. eval_holds e N) (λ N. run_holds s N); grown = while_round_grown _ _ (λ N. eval_grown e N) (λ N. run_grown s N) }) S
    run_grown (do_while p s q e) S =
        looping_grown p _ (record { holds = do_round-holds _ _ (λ N. eval_holds e N) (λ N. run_holds s N); grown = do_round_grown _ _ (λ N. eval_grown e N) (λ N. run_grown s N) }) S
    run_grown (for_to p q x a b s) S =
        given_grown _ _ _ (eval_grown a S) (λ v N. given_grown _ _ _ (eval_grown b N) (λ w K.
        leaving_grown _ _ (looping_grown p _ (record { holds = for_round-holds _ (λ L. run_holds s L); grown = for_round_grown _ (λ L. run_grown s L) }) _)))
    run_grown (break p q) S = refl
    run_grown (continue p q) S = refl
    run_grown (return p e q) S = given_grown _ _ _ (eval_grown e S) (λ v N. return_grown v p N)
    run_grown (return_bare p q) S = refl

    pub run_all_grown : (ss : Stmts) (S : State) → GrownF k (run_all ss S) (run_all ss (richer k S))
    run_all_grown nil S = refl
    run_all_grown (cons s ss) S = then_flow_grown _ _ _ (run_grown s S) (λ N. run_all_grown ss N)

-- an ending that is not waiting is told

ended_same : (k : ℕ) (e : Ending) (p : ℕ) (N : State) (b : Flow) (q : ℕ) → Unless e (b ≡ ended e p (richer k N)) → (e ≡ waiting → ⊥) →
    finished b q ≡ finished (ended e p N) q
unfolding finished
ended_same k (returned v) p N b q h w = rw h refl
ended_same k waiting p N b q h w = absurd (w refl)
ended_same k divided p N b q h w = rw h refl
ended_same k (Run.board n) p N b q h w = rw h refl
ended_same k stuck p N b q h w = rw h refl

finished_same : (k : ℕ) (a b : Flow) (q : ℕ) → GrownF k a b → ((finished a q).ending ≡ waiting → ⊥) → finished b q ≡ finished a q
unfolding finished
finished_same k (next N) b q h w = rw h refl
finished_same k (broke N) b q h w = rw h refl
finished_same k (continued N) b q h w = rw h refl
finished_same k (ended e p N) b q h w = ended_same k e p N b q h w

pub more_ticks_change_nothing : MoreTicksChangeNothing
unfolding run_script start
more_ticks_change_nothing s b ticks k w = finished_same k _ _ s.close (run_all_grown k s.body (start s b ticks)) w
