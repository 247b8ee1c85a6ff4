-- What a run does to ticks and board, whatever the script: a tick that is no longer left is spent, a run that waits has
-- none left, and reports are only added. One relation between the states before and after, and one lemma for each
-- combinator of the run.
use Rattle.std.proofs.Common.{◌≡◌, ℕ, zero, suc, ◌+◌, ◌≤◌, Bool, true, false, cond, List, [], ◌∷◌, ◌++◌, ℤ, Some, None, Option, sym, refl, ap, ◌∙◌, append_assoc, append-nil, arith}
use lib.Signed.{lt_z}
use Rattle.refusal.specs.Told.{Told, accepted, refused}
use Rattle.boards.specs.Meaning.{Meaning, has_room, with_reports, reported, report_answer, zone_answer}
use Rattle.meaning.specs.declared.operator.Operator.{Operator}
use Rattle.meaning.specs.Trees.{Expr, constant, variable, call, bracket, unary, binary, Args, no_args, args, Exprs, last, more, Stmt, block, define, assign, modify, evaluate, if_then, if_else, while, do_while, for_to, break, continue, return, return_bare, Stmts, nil, cons, Script}
use Rattle.meaning.specs.Scopes.{Callee, zone, columns, rows, report, main, Names, Meant, absent, a_variable, a_function}
use Rattle.meaning.specs.Values.{Value, of_bool, of_char, of_int, Result, gives, zero_divisor, mistyped, Decided, decided, open_still}
use Rattle.meaning.specs.Laws.{ReportsOnlyGrow, WaitingSpendsAll}
use Rattle.meaning.specs.Run
use Rattle.meaning.specs.Run.{Ending, returned, waiting, divided, stuck, State, with_names, Evaluated, comes_to, ends, then_eval, result, read_variable, operate, answered, invoke, invoke_meant, needs_value, eval, eval_args, eval_exprs, eval_whole, Flow, next, broke, continued, ended, given, then_flow, choose, as_int, outside, leaving, in_level, store, defining, spend, again, loop, looping, after_body, Counting, counts, no_count, counting, below, adding, while_round, do_round, for_round, run, run_all, Outcome, finished, start, run_script}

-- how a later state of a run follows an earlier one
pub record Follows (S N : State) : Type 0 where
  pub ticks : N.left + N.spent ≡ S.left + S.spent
  pub fewer : N.left ≤ S.left
  pub filed : List ℤ
  pub board : N.board ≡ with_reports S.board (S.board.reports ++ filed)

-- where a run ends: waiting, no tick is left
abbrev pub Rests : Ending → State → Type 0
Rests (returned v) N = Unit {0}
Rests waiting N = N.left ≡ 0
Rests divided N = Unit {0}
Rests (Run.board n) N = Unit {0}
Rests stuck N = Unit {0}

abbrev pub HoldsE : {X : Type 0} → State → Evaluated X → Type 0
HoldsE S (comes_to x N) = Follows S N
HoldsE S (ends e p N) = Follows S N × Rests e N

abbrev pub HoldsF : State → Flow → Type 0
HoldsF S (next N) = Follows S N
HoldsF S (broke N) = Follows S N
HoldsF S (continued N) = Follows S N
HoldsF S (ended e p N) = Follows S N × Rests e N

-- a state with other names only
pub renamed : (S : State) (ns : Names Value) → Follows S (with_names S ns)
renamed S ns = record { ticks = refl; fewer = omega arith; filed = []; board = ap (with_reports S.board) (sym (append-nil S.board.reports)) }

pub same : (S : State) → Follows S S
same S = renamed S S.names

pub follows_on : (S N K : State) → Follows S N → Follows N K → Follows S K
follows_on S N K a b = record {
  ticks = b.ticks ∙ a.ticks;
  fewer = omega arith;
  filed = a.filed ++ b.filed;
  board = b.board ∙ ap (λ (m : Meaning). with_reports m (m.reports ++ b.filed)) a.board
      ∙ ap (with_reports S.board) (append_assoc S.board.reports a.filed b.filed);
}

pub on_e : {X : Type 0} (S N : State) (r : Evaluated X) → Follows S N → HoldsE N r → HoldsE S r
on_e S N (comes_to x K) a h = follows_on S N K a h
on_e S N (ends e p K) a h = (follows_on S N K a h.0, h.1)

pub on_f : (S N : State) (r : Flow) → Follows S N → HoldsF N r → HoldsF S r
on_f S N (next K) a h = follows_on S N K a h
on_f S N (broke K) a h = follows_on S N K a h
on_f S N (continued K) a h = follows_on S N K a h
on_f S N (ended e p K) a h = (follows_on S N K a h.0, h.1)

-- expressions

then_eval-holds : {X Y : Type 0} (S : State) (a : Evaluated X) (f : X → State → Evaluated Y) →
    HoldsE S a → ((x : X) (N : State) → HoldsE N (f x N)) → HoldsE S (then_eval a f)
unfolding then_eval
then_eval-holds S (comes_to x N) f h k = on_e S N (f x N) h (k x N)
then_eval-holds S (ends e p N) f h k = h

result-holds : (r : Result) (p : ℕ) (S : State) → HoldsE S (result r p S)
unfolding result
result-holds (gives v) p S = same S
result-holds zero_divisor p S = (same S, tt)
result-holds mistyped p S = (same S, tt)

read_variable-holds : (m : Meant Value) (S : State) → HoldsE S (read_variable m S)
unfolding read_variable
read_variable-holds absent S = (same S, tt)
read_variable-holds (a_variable v) S = same S
read_variable-holds (a_function f) S = (same S, tt)

operate-holds : (d : Decided) (o : Operator) (p : ℕ) (v : Value) (f : State → Evaluated Value) →
    ((N : State) → HoldsE N (f N)) → (S : State) → HoldsE S (operate d o p v f S)
unfolding operate
operate-holds (decided w) o p v f k S = same S
operate-holds open_still o p v f k S = then_eval-holds S (f S) _ (k S) (λ w N. result-holds _ p N)

answered-holds : {X Y : Type 0} (t : Told X) (f : X → Y) (p : ℕ) (S N : State) → Follows S N → HoldsE S (answered t f p N)
unfolding answered
answered-holds (accepted x) f p S N h = h
answered-holds (refused n q) f p S N h = (h, tt)

report_follows : (S : State) (v : ℤ) → Follows S (Run.with_board S (reported S.board v))
report_follows S v = go (has_room S.board)
  where
    go : (b : Bool) → Follows S (Run.with_board S (cond b (with_reports S.board (S.board.reports ++ (v ∷ []))) S.board))
    go true = record { ticks = refl; fewer = omega arith; filed = v ∷ []; board = refl }
    go false = same S

invoke-holds : (f : Callee) (vs : List Value) (p : ℕ) (S : State) → HoldsE S (invoke f vs p S)
unfolding invoke
invoke-holds zone [] p S = (same S, tt)
invoke-holds zone (of_int i ∷ []) p S = answered-holds (zone_answer S.board i) _ p S S (same S)
invoke-holds zone (of_int i ∷ (w ∷ vs)) p S = (same S, tt)
invoke-holds zone (of_bool b ∷ vs) p S = (same S, tt)
invoke-holds zone (of_char c ∷ vs) p S = (same S, tt)
invoke-holds columns [] p S = same S
invoke-holds columns (v ∷ vs) p S = (same S, tt)
invoke-holds rows [] p S = same S
invoke-holds rows (v ∷ vs) p S = (same S, tt)
invoke-holds report [] p S = (same S, tt)
invoke-holds report (of_int i ∷ []) p S = answered-holds (report_answer S.board) _ p S _ (report_follows S i)
invoke-holds report (of_int i ∷ (w ∷ vs)) p S = (same S, tt)
invoke-holds report (of_bool b ∷ vs) p S = (same S, tt)
invoke-holds report (of_char c ∷ vs) p S = (same S, tt)
invoke-holds main vs p S = (same S, tt)

invoke_meant-holds : (m : Meant Value) (vs : List Value) (p : ℕ) (S : State) → HoldsE S (invoke_meant m vs p S)
unfolding invoke_meant
invoke_meant-holds absent vs p S = (same S, tt)
invoke_meant-holds (a_variable v) vs p S = (same S, tt)
invoke_meant-holds (a_function f) vs p S = invoke-holds f vs p S

needs_value-holds : (o : Option Value) (S : State) → HoldsE S (needs_value o S)
unfolding needs_value
needs_value-holds (Some v) S = same S
needs_value-holds None S = (same S, tt)

mutual
  unfolding eval eval_args eval_exprs

  pub eval_holds : (e : Expr) (S : State) → HoldsE S (eval e S)
  eval_holds (constant c) S = same S
  eval_holds (variable x) S = read_variable-holds _ S
  eval_holds (call x q xs) S =
      then_eval-holds S _ _ (then_eval-holds S _ _ (eval_args_holds xs S) (λ vs N. invoke_meant-holds _ vs x.place N)) (λ o N. needs_value-holds o N)
  eval_holds (bracket q e) S = eval_holds e S
  eval_holds (unary u p e) S = then_eval-holds S _ _ (eval_holds e S) (λ v N. result-holds _ p N)
  eval_holds (binary o p a b) S = then_eval-holds S _ _ (eval_holds a S) (λ v N. operate-holds _ o p v _ (λ K. eval_holds b K) N)

  eval_args_holds : (xs : Args) (S : State) → HoldsE S (eval_args xs S)
  eval_args_holds no_args S = same S
  eval_args_holds (args es) S = eval_exprs_holds es S

  eval_exprs_holds : (es : Exprs) (S : State) → HoldsE S (eval_exprs es S)
  eval_exprs_holds (last e) S = then_eval-holds S _ _ (eval_holds e S) (λ v N. same N)
  eval_exprs_holds (more e p es) S =
      then_eval-holds S _ _ (eval_holds e S) (λ v N. then_eval-holds N _ _ (eval_exprs_holds es N) (λ vs K. same K))

eval_whole-holds : (e : Expr) (S : State) → HoldsE S (eval_whole e S)
unfolding eval_whole
eval_whole-holds (constant c) S = same S
eval_whole-holds (variable x) S = then_eval-holds S _ _ (eval_holds (variable x) S) (λ v N. same N)
eval_whole-holds (call x q xs) S =
    then_eval-holds S _ _ (then_eval-holds S _ _ (eval_args_holds xs S) (λ vs N. invoke_meant-holds _ vs x.place N)) (λ o N. same N)
eval_whole-holds (bracket q e) S = then_eval-holds S _ _ (eval_holds e S) (λ v N. same N)
eval_whole-holds (unary u p e) S = then_eval-holds S _ _ (eval_holds (unary u p e) S) (λ v N. same N)
eval_whole-holds (binary o p a b) S = then_eval-holds S _ _ (eval_holds (binary o p a b) S) (λ v N. same N)

-- statements

given_holds : {X : Type 0} (S : State) (a : Evaluated X) (f : X → State → Flow) →
    HoldsE S a → ((x : X) (N : State) → HoldsF N (f x N)) → HoldsF S (given a f)
unfolding given
given_holds S (comes_to x N) f h k = on_f S N (f x N) h (k x N)
given_holds S (ends e p N) f h k = h

then_flow-holds : (S : State) (a : Flow) (f : State → Flow) → HoldsF S a → ((N : State) → HoldsF N (f N)) → HoldsF S (then_flow a f)
unfolding then_flow
then_flow-holds S (next N) f h k = on_f S N (f N) h (k N)
then_flow-holds S (broke N) f h k = h
then_flow-holds S (continued N) f h k = h
then_flow-holds S (ended e p N) f h k = h

choose-holds : (v : Value) (f g : State → Flow) → ((N : State) → HoldsF N (f N)) → ((N : State) → HoldsF N (g N)) →
    (S : State) → HoldsF S (choose v f g S)
unfolding choose
choose-holds (of_bool true) f g h k S = h S
choose-holds (of_bool false) f g h k S = k S
choose-holds (of_char c) f g h k S = (same S, tt)
choose-holds (of_int n) f g h k S = (same S, tt)

return_holds : (v : Value) (p : ℕ) (S : State) → HoldsF S (as_int v (λ n K. ended (returned n) p K) S)
unfolding as_int
return_holds (of_bool b) p S = (same S, tt)
return_holds (of_char c) p S = (same S, tt)
return_holds (of_int n) p S = (same S, tt)

leaving-holds : (S : State) (a : Flow) → HoldsF S a → HoldsF S (leaving a)
unfolding leaving outside
leaving-holds S (next N) h = follows_on S N _ h (renamed N _)
leaving-holds S (broke N) h = follows_on S N _ h (renamed N _)
leaving-holds S (continued N) h = follows_on S N _ h (renamed N _)
leaving-holds S (ended e p N) h = h

in_level-holds : (f : State → Flow) → ((N : State) → HoldsF N (f N)) → (S : State) → HoldsF S (in_level f S)
unfolding in_level
in_level-holds f k S = leaving-holds S _ (on_f S _ _ (renamed S _) (k _))

store-holds : (m : Meant Value) (x : List ℕ) (v : Value) (S : State) → HoldsF S (store m x v S)
unfolding store
store-holds absent x v S = (same S, tt)
store-holds (a_variable w) x v S = renamed S _
store-holds (a_function f) x v S = (same S, tt)

defining-holds : (x : List ℕ) (v : Value) (S : State) → HoldsF S (defining x v S)
unfolding defining
defining-holds x v S = renamed S _

spend-holds : (l p : ℕ) (f : State → Flow) (S : State) → S.left ≡ l →
    ((N : State) → suc N.left ≡ S.left → HoldsF N (f N)) → HoldsF S (spend l p f S)
unfolding spend
spend-holds zero p f S e k = (same S, e)
spend-holds (suc n) p f S e k =
    let N : State = record { names = S.names; board = S.board; left = n; spent = suc S.spent } in
    let h : Follows S N = record { ticks = omega arith; fewer = omega arith; filed = (same S).filed; board = (same S).board } in
    on_f S N (f N) h (k N (sym e))

again-holds : (S : State) (a : Flow) (f : State → Flow) → HoldsF S a → ((N : State) → N.left ≤ S.left → HoldsF N (f N)) → HoldsF S (again a f)
unfolding again
again-holds S (next N) f h k = on_f S N (f N) h (k N h.fewer)
again-holds S (broke N) f h k = h
again-holds S (continued N) f h k = on_f S N (f N) h (k N h.fewer)
again-holds S (ended e p N) f h k = h

loop-holds : (n p : ℕ) (f : State → Flow) → ((N : State) → HoldsF N (f N)) → (S : State) → S.left ≤ n → HoldsF S (loop n p f S)
unfolding loop
loop-holds zero p f k S l = (same S, omega arith)
loop-holds (suc n) p f k S l =
    spend-holds S.left p _ S refl (λ N e. again-holds N (f N) _ (k N) (λ K m. loop-holds n p f k K (omega arith)))

looping-holds : (p : ℕ) (f : State → Flow) → ((N : State) → HoldsF N (f N)) → (S : State) → HoldsF S (looping p f S)
unfolding looping
looping-holds p f k S = loop-holds S.left p f k S (omega arith)

after_body-holds : (S : State) (a : Flow) (f : State → Flow) → HoldsF S a → ((N : State) → HoldsF N (f N)) → HoldsF S (after_body a f)
unfolding after_body
after_body-holds S (next N) f h k = on_f S N (f N) h (k N)
after_body-holds S (broke N) f h k = h
after_body-holds S (continued N) f h k = on_f S N (f N) h (k N)
after_body-holds S (ended e p N) f h k = h

below_holds : (c : Counting) (f : State → Flow) → ((N : State) → HoldsF N (f N)) → (S : State) → HoldsF S (below c f S)
unfolding below
below_holds no_count f k S = (same S, tt)
below_holds (counts x i n r) f k S = go (lt_z i n)
  where
    go : (b : Bool) → HoldsF S (cond b f (λ N. broke N) S)
    go true = k S
    go false = same S

adding-holds : (c : Counting) (S : State) → HoldsF S (adding c S)
unfolding adding
adding-holds no_count S = (same S, tt)
adding-holds (counts x i n r) S = renamed S _

pub while_round-holds : (c : State → Evaluated Value) (f : State → Flow) → ((N : State) → HoldsE N (c N)) → ((N : State) → HoldsF N (f N)) →
    (S : State) → HoldsF S (while_round c f S)
unfolding while_round
while_round-holds c f g h S = given_holds S _ _ (g S) (λ v N. choose-holds v _ _ (λ K. in_level-holds _ h K) (λ K. same K) N)

pub do_round-holds : (c : State → Evaluated Value) (f : State → Flow) → ((N : State) → HoldsE N (c N)) → ((N : State) → HoldsF N (f N)) →
    (S : State) → HoldsF S (do_round c f S)
unfolding do_round
do_round-holds c f g h S =
    after_body-holds S _ _ (in_level-holds _ h S) (λ N. given_holds N _ _ (g N) (λ v K. choose-holds v _ _ (λ L. same L) (λ L. same L) K))

pub for_round-holds : (f : State → Flow) → ((N : State) → HoldsF N (f N)) → (S : State) → HoldsF S (for_round f S)
unfolding for_round
for_round-holds f h S = below_holds _ _ (λ N. after_body-holds N _ _ (in_level-holds _ h N) (λ K. adding-holds _ K)) S

mutual
  unfolding run run_all

  pub run_holds : (s : Stmt) (S : State) → HoldsF S (run s S)
  run_holds (block q ss) S = in_level-holds _ (λ N. run_all_holds ss N) S
  run_holds (define t q x e) S = given_holds S _ _ (eval_holds e S) (λ v N. defining-holds _ v N)
  run_holds (assign x p e q) S = given_holds S _ _ (eval_holds e S) (λ v N. store-holds _ _ v N)
  run_holds (modify m x p e q) S = given_holds S _ _ (eval_holds (binary _ p (variable x) e) S) (λ v N. store-holds _ _ v N)
  run_holds (evaluate e q) S = given_holds S _ _ (eval_whole-holds e S) (λ _ N. same N)
  run_holds (if_then p q e s) S =
      given_holds S _ _ (eval_holds e S) (λ v N. choose-holds v _ _ (λ K. in_level-holds _ (λ L. run_holds s L) K) (λ K. same K) N)
  run_holds (if_else p q e s o t) S =
      given_holds S _ _ (eval_holds e S)
      (λ v N. choose-holds v _ _ (λ K. in_level-holds _ (λ L. run_holds s L) K) (λ K. in_level-holds _ (λ L. run_holds t L) K) N)
  run_holds (while p q e s) S = looping-holds p _ (while_round-holds _ _ (λ N. eval_holds e N) (λ N. run_holds s N)) S
  run_holds (do_while p s q e) S = looping-holds p _ (do_round-holds _ _ (λ N. eval_holds e N) (λ N. run_holds s N)) S
  run_holds (for_to p q x a b s) S =
      given_holds S _ _ (eval_holds a S) (λ v N. given_holds N _ _ (eval_holds b N) (λ w K.
      leaving-holds K _ (on_f K _ _ (renamed K _) (looping-holds p _ (for_round-holds _ (λ L. run_holds s L)) _))))
  run_holds (break p q) S = same S
  run_holds (continue p q) S = same S
  run_holds (return p e q) S = given_holds S _ _ (eval_holds e S) (λ v N. return_holds v p N)
  run_holds (return_bare p q) S = (same S, tt)

  pub run_all_holds : (ss : Stmts) (S : State) → HoldsF S (run_all ss S)
  run_all_holds nil S = same S
  run_all_holds (cons s ss) S = then_flow-holds S _ _ (run_holds s S) (λ N. run_all_holds ss N)

-- the whole run

abbrev Ended : State → Outcome → Type 0
Ended S o = (filed : List ℤ) × (o.board ≡ with_reports S.board (S.board.reports ++ filed)) × (o.ending ≡ waiting → o.spent ≡ S.left + S.spent)

rested : (S N : State) (e : Ending) (p : ℕ) → Follows S N → Rests e N → Ended S (Run.outcome e p N)
rested S N (returned v) p h r = (h.filed, h.board, λ w. let z : ◌≡◌ {A = ℕ} 0 1 = cc in absurd (omega arith))
rested S N waiting p h r = (h.filed, h.board, λ w. omega arith)
rested S N divided p h r = (h.filed, h.board, λ w. let z : ◌≡◌ {A = ℕ} 0 1 = cc in absurd (omega arith))
rested S N (Run.board n) p h r = (h.filed, h.board, λ w. let z : ◌≡◌ {A = ℕ} 0 1 = cc in absurd (omega arith))
rested S N stuck p h r = (h.filed, h.board, λ w. let z : ◌≡◌ {A = ℕ} 0 1 = cc in absurd (omega arith))

finished-ended : (S : State) (a : Flow) (q : ℕ) → HoldsF S a → Ended S (finished a q)
unfolding finished
finished-ended S (next N) q h = rested S N _ q h tt
finished-ended S (broke N) q h = rested S N _ 0 h tt
finished-ended S (continued N) q h = rested S N _ 0 h tt
finished-ended S (ended e p N) q h = rested S N e p h.0 h.1

script_ended : (s : Script) (b : Meaning) (ticks : ℕ) → Ended (start s b ticks) (run_script s b ticks)
unfolding run_script
script_ended s b ticks = finished-ended _ _ _ (run_all_holds s.body (start s b ticks))

pub reports_only_grow : ReportsOnlyGrow
unfolding start
reports_only_grow s b ticks = let h = script_ended s b ticks in (h.0, h.1)

pub waiting_spends_all : WaitingSpendsAll
unfolding start
waiting_spends_all s b ticks w = let h = (script_ended s b ticks).2 w in omega arith
