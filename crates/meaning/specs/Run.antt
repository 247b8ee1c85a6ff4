-- The source run: what a script does on a board with a number of ticks.
use Rattle.std.specs.Prelude.{ℕ, zero, suc, true, false, cond, List, [], ◌∷◌, ℤ, pos, ◌+ℤ◌, Some, None, Option, int_lt}
use Rattle.std.specs.Int.{int_wrap, w32}
use Rattle.refusal.specs.Told.{Told, accepted, refused}
use Rattle.boards.specs.Meaning.{Meaning, zone_answer, report_answer, reported}
use Rattle.meaning.specs.declared.operator.Operator.{Operator}
use Rattle.meaning.specs.Trees.{Expr, constant, variable, call, bracket, unary, binary, Args, no_args, args, Exprs, last, more, Stmt, block, define, assign, modify, evaluate, if_then, if_else, while, do_while, for_to, break, continue, return, return_bare, Stmts, nil, cons, Item, extern, global, Script}
use Rattle.meaning.specs.Scopes.{Callee, zone, columns, rows, report, main, Names, Entry, level, stop, function, Meant, absent, a_variable, a_function, lookup, leave, assigned}
use Rattle.meaning.specs.Scopes
use Rattle.meaning.specs.Types.{operator_of, parameter_types, listed}
use Rattle.meaning.specs.Values.{Value, of_bool, of_char, of_int, constant_value, Result, gives, zero_divisor, mistyped, Decided, decided, open_still, short_circuit, apply, apply_unary}

-- how a run ends; `stuck` is where it meets an absent name or a value of a type that does not fit, which no script does
-- that is checked
pub data Ending : Type 0 where
  returned : ℤ → Ending
  waiting : Ending
  divided : Ending
  board : (number : ℕ) → Ending
  stuck : Ending

-- the number that goes with an ending
abbrev pub ending_value : Ending → ℤ
ending_value (returned v) = v
ending_value waiting = pos 0
ending_value divided = pos 0
ending_value (board n) = pos n
ending_value stuck = pos 0

-- where a run stands: the names in force with their values, the board, the ticks left and the ticks spent
pub record State : Type 0 where
  pub names : Names Value
  pub board : Meaning
  pub left : ℕ
  pub spent : ℕ

-- the same state with other names in force
abbrev pub with_names : State → Names Value → State
with_names S ns = record { names = ns; board = S.board; left = S.left; spent = S.spent }

-- the same state with another board
abbrev pub with_board : State → Meaning → State
with_board S b = record { names = S.names; board = b; left = S.left; spent = S.spent }

-- what an expression comes to: a value (nothing, of a void call), or the end of the run at a place
pub data Evaluated (X : Type 0) : Type 0 where
  comes_to : X → State → Evaluated X
  ends : Ending → (place : ℕ) → State → Evaluated X

-- one part after another
unfoldable pub then_eval : {X Y : Type 0} → Evaluated X → (X → State → Evaluated Y) → Evaluated Y
then_eval (comes_to x S) f = f x S
then_eval (ends e p S) f = ends e p S

-- an operator's result; a zero divisor ends the run at the operator
unfoldable pub result : Result → (place : ℕ) → State → Evaluated Value
result (gives v) p S = comes_to v S
result zero_divisor p S = ends divided p S
result mistyped p S = ends stuck 0 S

-- the value of the variable that a name means
unfoldable pub read_variable : Meant Value → State → Evaluated Value
read_variable absent S = ends stuck 0 S
read_variable (a_variable v) S = comes_to v S
read_variable (a_function f) S = ends stuck 0 S

-- the right operand, unless the left one decides
unfoldable pub operate : Decided → Operator → (place : ℕ) → Value → (State → Evaluated Value) → State → Evaluated Value
operate (decided w) o p v right S = comes_to w S
operate open_still o p v right S = then_eval (right S) (λ w N. result (apply o v w) p N)

-- what a board answers; its refusal ends the run at the function's name, with the refusal's number
unfoldable pub answered : {X Y : Type 0} → Told X → (X → Y) → (place : ℕ) → State → Evaluated Y
answered (accepted x) f p S = comes_to (f x) S
answered (refused n q) f p S = ends (board n) p S

-- A call of a listed function, with its arguments' values. (A board has at most 64 columns and rows, so wrapping them to
-- an int changes nothing; it makes the definition right for whatever a board means.)
unfoldable pub invoke : Callee → List Value → (place : ℕ) → State → Evaluated (Option Value)
invoke zone [] p S = ends stuck 0 S
invoke zone (of_int i ∷ []) p S = answered (zone_answer S.board i) (λ z. Some (of_int z)) p S
invoke zone (of_int i ∷ (w ∷ vs)) p S = ends stuck 0 S
invoke zone (of_bool b ∷ vs) p S = ends stuck 0 S
invoke zone (of_char c ∷ vs) p S = ends stuck 0 S
invoke columns [] p S = comes_to (Some (of_int (int_wrap w32 (pos S.board.columns)))) S
invoke columns (v ∷ vs) p S = ends stuck 0 S
invoke rows [] p S = comes_to (Some (of_int (int_wrap w32 (pos S.board.rows)))) S
invoke rows (v ∷ vs) p S = ends stuck 0 S
invoke report [] p S = ends stuck 0 S
invoke report (of_int i ∷ []) p S = answered (report_answer S.board) (λ _. None) p (with_board S (reported S.board i))
invoke report (of_int i ∷ (w ∷ vs)) p S = ends stuck 0 S
invoke report (of_bool b ∷ vs) p S = ends stuck 0 S
invoke report (of_char c ∷ vs) p S = ends stuck 0 S
invoke main vs p S = ends stuck 0 S

-- a call of the function that a name means
unfoldable pub invoke_meant : Meant Value → List Value → (place : ℕ) → State → Evaluated (Option Value)
invoke_meant absent vs p S = ends stuck 0 S
invoke_meant (a_variable v) vs p S = ends stuck 0 S
invoke_meant (a_function f) vs p S = invoke f vs p S

-- a call that has to give a value
unfoldable pub needs_value : Option Value → State → Evaluated Value
needs_value (Some v) S = comes_to v S
needs_value None S = ends stuck 0 S

-- the value of an expression: operands and arguments from the left
unfoldable mutual
  pub eval : Expr → State → Evaluated Value
  eval (constant c) S = comes_to (constant_value c) S
  eval (variable x) S = read_variable (lookup x.bytes S.names) S
  eval (call x q xs) S =
      then_eval (then_eval (eval_args xs S) (λ vs N. invoke_meant (lookup x.bytes N.names) vs x.place N)) (λ o N. needs_value o N)
  eval (bracket q e) S = eval e S
  eval (unary u p e) S = then_eval (eval e S) (λ v N. result (apply_unary u v) p N)
  eval (binary o p a b) S = then_eval (eval a S) (λ v N. operate (short_circuit o v) o p v (λ K. eval b K) N)

  pub eval_args : Args → State → Evaluated (List Value)
  eval_args no_args S = comes_to [] S
  eval_args (args es) S = eval_exprs es S

  pub eval_exprs : Exprs → State → Evaluated (List Value)
  eval_exprs (last e) S = then_eval (eval e S) (λ v N. comes_to (v ∷ []) N)
  eval_exprs (more e p es) S = then_eval (eval e S) (λ v N. then_eval (eval_exprs es N) (λ vs K. comes_to (v ∷ vs) K))

-- a whole expression statement: a call may give nothing
unfoldable pub eval_whole : Expr → State → Evaluated (Unit {0})
eval_whole (constant c) S = comes_to tt S
eval_whole (variable x) S = then_eval (eval (variable x) S) (λ v N. comes_to tt N)
eval_whole (call x q xs) S =
    then_eval (then_eval (eval_args xs S) (λ vs N. invoke_meant (lookup x.bytes N.names) vs x.place N)) (λ o N. comes_to tt N)
eval_whole (bracket q e) S = then_eval (eval e S) (λ v N. comes_to tt N)
eval_whole (unary u p e) S = then_eval (eval (unary u p e) S) (λ v N. comes_to tt N)
eval_whole (binary o p a b) S = then_eval (eval (binary o p a b) S) (λ v N. comes_to tt N)

-- what a statement comes to: the next statement, the end of the innermost loop, its next round, or the end of the run
pub data Flow : Type 0 where
  next : State → Flow
  broke : State → Flow
  continued : State → Flow
  ended : Ending → (place : ℕ) → State → Flow

-- a value, and what is done with it
unfoldable pub given : {X : Type 0} → Evaluated X → (X → State → Flow) → Flow
given (comes_to x S) f = f x S
given (ends e p S) f = ended e p S

-- one statement after another
unfoldable pub then_flow : Flow → (State → Flow) → Flow
then_flow (next S) f = f S
then_flow (broke S) f = broke S
then_flow (continued S) f = continued S
then_flow (ended e p S) f = ended e p S

-- by a condition's value
unfoldable pub choose : Value → (State → Flow) → (State → Flow) → State → Flow
choose (of_bool true) f g S = f S
choose (of_bool false) f g S = g S
choose (of_char c) f g S = ended stuck 0 S
choose (of_int n) f g S = ended stuck 0 S

-- an int's value, for a `for` or a `return`
unfoldable pub as_int : Value → (ℤ → State → Flow) → State → Flow
as_int (of_bool b) f S = ended stuck 0 S
as_int (of_char c) f S = ended stuck 0 S
as_int (of_int n) f S = f n S

-- the state with the newest level left
unfoldable pub outside : State → State
outside S = with_names S (leave S.names)

-- the newest level ends with what ran in it
unfoldable pub leaving : Flow → Flow
leaving (next S) = next (outside S)
leaving (broke S) = broke (outside S)
leaving (continued S) = continued (outside S)
leaving (ended e p S) = ended e p S

-- a block or a body is a level of its own
unfoldable pub in_level : (State → Flow) → State → Flow
in_level f S = leaving (f (with_names S (level ∷ S.names)))

-- the variable that a name means gets a value
unfoldable pub store : Meant Value → List ℕ → Value → State → Flow
store absent x v S = ended stuck 0 S
store (a_variable w) x v S = next (with_names S (assigned x v S.names))
store (a_function f) x v S = ended stuck 0 S

-- a variable with its value is in force from here on
unfoldable pub defining : List ℕ → Value → State → Flow
defining x v S = next (with_names S (Scopes.variable x v ∷ S.names))

-- one tick is spent, or the run waits for one at the loop's keyword
unfoldable pub spend : ℕ → (place : ℕ) → (State → Flow) → State → Flow
spend zero p f S = ended waiting p S
spend (suc n) p f S = f (record { names = S.names; board = S.board; left = n; spent = suc S.spent })

-- after a round of a loop: the next round, or what follows the loop
unfoldable pub again : Flow → (State → Flow) → Flow
again (next S) f = f S
again (broke S) f = next S
again (continued S) f = f S
again (ended e p S) f = ended e p S

-- A loop: before each round a tick is spent; a round that breaks ends the loop. At most n rounds can be paid where n
-- ticks are left, so the recursion is on the ticks left at the loop's beginning.
unfoldable pub loop : ℕ → (place : ℕ) → (State → Flow) → State → Flow
loop zero p round S = ended waiting p S
loop (suc n) p round S = spend S.left p (λ N. again (round N) (λ K. loop n p round K)) S

-- a loop, with the ticks that are left
unfoldable pub looping : (place : ℕ) → (State → Flow) → State → Flow
looping p round S = loop S.left p round S

-- `continue` in the body of a `do` goes to its condition, in that of a `for` to its adding
unfoldable pub after_body : Flow → (State → Flow) → Flow
after_body (next S) f = f S
after_body (broke S) f = broke S
after_body (continued S) f = f S
after_body (ended e p S) f = ended e p S

-- the variable and the stop of the `for` whose level is the newest
pub data Counting : Type 0 where
  counts : List ℕ → (current bound : ℤ) → Names Value → Counting
  no_count : Counting

-- what the newest level counts, if it is that of a `for`
unfoldable pub counting : Names Value → Counting
counting [] = no_count
counting (level ∷ r) = no_count
counting (Scopes.variable x v ∷ r) = no_count
counting (function f ∷ r) = no_count
counting (stop (of_bool b) ∷ r) = no_count
counting (stop (of_char c) ∷ r) = no_count
counting (stop (of_int n) ∷ []) = no_count
counting (stop (of_int n) ∷ (level ∷ r)) = no_count
counting (stop (of_int n) ∷ (stop v ∷ r)) = no_count
counting (stop (of_int n) ∷ (function f ∷ r)) = no_count
counting (stop (of_int n) ∷ (Scopes.variable x (of_bool b) ∷ r)) = no_count
counting (stop (of_int n) ∷ (Scopes.variable x (of_char c) ∷ r)) = no_count
counting (stop (of_int n) ∷ (Scopes.variable x (of_int i) ∷ r)) = counts x i n r

-- a `for` goes on while its variable is below the stop
unfoldable pub below : Counting → (State → Flow) → State → Flow
below no_count f S = ended stuck 0 S
below (counts x i n r) f S = cond (int_lt i n) f (λ N. broke N) S

-- 1 is added to the variable of a `for`, wrapping
unfoldable pub adding : Counting → State → Flow
adding no_count S = ended stuck 0 S
adding (counts x i n r) S = next (with_names S (stop (of_int n) ∷ Scopes.variable x (of_int (int_wrap w32 (i +ℤ pos 1))) ∷ r))

-- a round of a `while`: its condition, then its body
unfoldable pub while_round : (State → Evaluated Value) → (State → Flow) → State → Flow
while_round condition body S = given (condition S) (λ v N. choose v (λ K. in_level body K) (λ K. broke K) N)

-- a round of a `do`: its body, then its condition, outside the body's level
unfoldable pub do_round : (State → Evaluated Value) → (State → Flow) → State → Flow
do_round condition body S = after_body (in_level body S) (λ N. given (condition N) (λ v K. choose v (λ L. next L) (λ L. broke L) K))

-- a round of a `for`: its comparison, then its body, then the adding
unfoldable pub for_round : (State → Flow) → State → Flow
for_round body S = below (counting S.names) (λ N. after_body (in_level body N) (λ K. adding (counting K.names) K)) S

-- what a statement does
unfoldable mutual
  pub run : Stmt → State → Flow
  run (block q ss) S = in_level (λ N. run_all ss N) S
  run (define t q x e) S = given (eval e S) (λ v N. defining x.bytes v N)
  run (assign x p e q) S = given (eval e S) (λ v N. store (lookup x.bytes N.names) x.bytes v N)
  run (modify m x p e q) S =
      given (eval (binary (operator_of m) p (variable x) e) S) (λ v N. store (lookup x.bytes N.names) x.bytes v N)
  run (evaluate e q) S = given (eval_whole e S) (λ _ N. next N)
  run (if_then p q e s) S = given (eval e S) (λ v N. choose v (λ K. in_level (λ L. run s L) K) (λ K. next K) N)
  run (if_else p q e s o t) S =
      given (eval e S) (λ v N. choose v (λ K. in_level (λ L. run s L) K) (λ K. in_level (λ L. run t L) K) N)
  run (while p q e s) S = looping p (while_round (λ N. eval e N) (λ N. run s N)) S
  run (do_while p s q e) S = looping p (do_round (λ N. eval e N) (λ N. run s N)) S
  run (for_to p q x a b s) S =
      given (eval a S) (λ v N. given (eval b N) (λ w K.
      leaving (looping p (for_round (λ L. run s L)) (with_names K (stop w ∷ Scopes.variable x.bytes v ∷ level ∷ K.names)))))
  run (break p q) S = broke S
  run (continue p q) S = continued S
  run (return p e q) S = given (eval e S) (λ v N. as_int v (λ n K. ended (returned n) p K) N)
  run (return_bare p q) S = ended stuck 0 S

  pub run_all : Stmts → State → Flow
  run_all nil S = next S
  run_all (cons s ss) S = then_flow (run s S) (λ N. run_all ss N)

-- an extern brings a function into force, a global a variable with its constant's value
unfoldable pub declare_listed : Option Callee → Names Value → Names Value
declare_listed None ns = ns
declare_listed (Some f) ns = function f ∷ ns

-- the names in force after externs and globals
unfoldable pub declare_items : List Item → Names Value → Names Value
declare_items [] ns = ns
declare_items (extern q t x a ∷ is) ns = declare_items is (declare_listed (listed x.bytes t (parameter_types a)) ns)
declare_items (global s q t x c ∷ is) ns = declare_items is (Scopes.variable x.bytes (constant_value c) ∷ ns)

-- what a run comes to
pub record Outcome : Type 0 where
  pub ending : Ending
  pub place : ℕ
  pub spent : ℕ
  pub board : Meaning

-- a run that ends so at a place, in a state
abbrev pub outcome : Ending → ℕ → State → Outcome
outcome e p S = record { ending = e; place = p; spent = S.spent; board = S.board }

-- main's closing brace returns 0
unfoldable pub finished : Flow → (close : ℕ) → Outcome
finished (next S) q = outcome (returned (pos 0)) q S
finished (broke S) q = outcome stuck 0 S
finished (continued S) q = outcome stuck 0 S
finished (ended e p S) q = outcome e p S

-- main begins: the globals are set, and nothing is spent
unfoldable pub start : Script → Meaning → ℕ → State
start s b ticks = record { names = level ∷ function main ∷ level ∷ declare_items s.items (level ∷ []); board = b; left = ticks; spent = 0 }

-- the run of a script on a board with a number of ticks
unfoldable pub run_script : Script → Meaning → (ticks : ℕ) → Outcome
run_script s b ticks = finished (run_all s.body (start s b ticks)) s.close
