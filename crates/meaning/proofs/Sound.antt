-- Type soundness: a script that passes the check never gets stuck. The names of the run, by their types, are at every
-- point the names that the check had in force there.
use Rattle.std.proofs.Common.{◌≡◌, ℕ, zero, suc, Bool, true, false, cond, ◌&&◌, List, [], ◌∷◌, ℤ, Some, None, Option, sym, refl, ap, ◌∙◌, subst, arith}
use lib.Signed.{lt_z}
use Rattle.refusal.specs.Told.{Told, accepted, refused}
use Rattle.boards.specs.Meaning.{zone_answer, report_answer}
use Rattle.meaning.specs.declared.operator.Scalar.{Scalar}
use Rattle.meaning.specs.declared.operator.Scalar.TheVariants.{Bool as bool, Char as char, Int as int}
use Rattle.meaning.specs.declared.operator.Operator.{Operator}
use Rattle.meaning.specs.declared.operator.Operator.TheVariants.{Add, Subtract, Multiply, Divide, Remainder, Less, LessEqual, Greater, GreaterEqual, Equal, NotEqual, And, Or}
use Rattle.meaning.specs.Trees.{Ident, Constant, number, character, truth, Expr, constant, variable, call, bracket, unary, binary, Args, no_args, args, Exprs, last, more, Modifier, plus, minus, times, over, modulo, both, either, Stmt, block, define, assign, modify, evaluate, if_then, if_else, while, do_while, for_to, break, continue, return, return_bare, Stmts, nil, cons, Return, void, gives, Item, extern, global}
use Rattle.meaning.specs.Scopes.{Callee, zone, columns, rows, report, main, Names, Entry, level, stop, function, Meant, absent, a_variable, a_function, lookup, leave, assigned}
use Rattle.meaning.specs.Scopes
use Rattle.meaning.specs.Types
use Rattle.meaning.specs.Types.{same_type, same_types, result_of, constant_type, operator_of, signature, parameter_types, listed}
use Rattle.meaning.specs.Check.{Scope, then, needs, there, as_variable, as_callee, called, value, type_of, arg_types, expr_types, needs_type, check_whole, defined, check_stmt, check_stmts, declared, check_item, check_items, check_script}
use Rattle.meaning.specs.Values.{Value, of_bool, of_char, of_int, value_type, constant_value, Result, zero_divisor, mistyped, Decided, decided, open_still, short_circuit, apply, apply_unary}
use Rattle.meaning.specs.Values
use Rattle.meaning.specs.Laws.{CheckedNeverStuck}
use Rattle.meaning.specs.Run
use Rattle.meaning.specs.Run.{Ending, returned, waiting, divided, stuck, State, with_names, Evaluated, comes_to, ends, then_eval, result, read_variable, operate, answered, invoke, invoke_meant, needs_value, eval, eval_args, eval_exprs, eval_whole, Flow, next, broke, continued, ended, given, then_flow, choose, as_int, outside, leaving, in_level, store, defining, spend, again, loop, looping, after_body, Counting, counts, no_count, counting, below, adding, while_round, do_round, for_round, run, run_all, declare_listed, declare_items, Outcome, finished, start, run_script}
use Rattle.meaning.proofs.Erased.{erase, erase_meant, lookup-erase, leave-erase, assigned-erase}
use Rattle.meaning.proofs.Fits.{none_some, false_true, Fits, apply_fits, unary_fits, same_type_lem}

-- what a passed check says of its parts

pub refused_accepted : {X : Type 0} {n p : ℕ} {x : X} {P : Type 0} → refused n p ≡ accepted x → P
refused_accepted e = let z : ◌≡◌ {A = ℕ} 0 1 = cc in absurd (omega arith)

pub then_passed : {X Y : Type 0} (a : Told X) (f : X → Told Y) (y : Y) → then a f ≡ accepted y → (x : X) × (a ≡ accepted x) × (f x ≡ accepted y)
unfolding then
then_passed (accepted x) f y e = (x, refl, e)
then_passed (refused n p) f y e = refused_accepted e

pub needs_passed : (b : Bool) (n p : ℕ) (u : Unit {0}) → needs b n p ≡ accepted u → b ≡ true
unfolding needs
needs_passed true n p u e = refl
needs_passed false n p u e = refused_accepted e

pub there_passed : {X : Type 0} (o : Option X) (n p : ℕ) (x : X) → there o n p ≡ accepted x → o ≡ Some x
unfolding there
there_passed (Some y) n p x e = cc
there_passed None n p x e = refused_accepted e

-- `&&` and `||` give a bool
pub logical : (s t : Scalar) → cond (same_type bool s) (Some bool) None ≡ Some t → bool ≡ t
logical bool t h = cc
logical char t h = none_some h
logical int t h = none_some h

-- the types of some values
abbrev pub types : List Value → List Scalar
types [] = []
types (v ∷ vs) = value_type v ∷ types vs

-- a call's result is of the type that its function gives
abbrev pub Returned : Return → Option Value → Type 0
Returned void (Some v) = ⊥
Returned void None = Unit {0}
Returned (gives t) (Some v) = value_type v ≡ t
Returned (gives t) None = ⊥

abbrev pub NotStuck : Ending → Type 0
NotStuck (returned v) = Unit {0}
NotStuck waiting = Unit {0}
NotStuck divided = Unit {0}
NotStuck (Run.board n) = Unit {0}
NotStuck stuck = ⊥

-- an expression's result under names of these types
abbrev pub TypedE : {X : Type 0} → Scope → (X → Type 0) → Evaluated X → Type 0
TypedE Γ P (comes_to x N) = P x × (erase N.names ≡ Γ)
TypedE Γ P (ends e p N) = NotStuck e

module _ (Γ : Scope) where
  pub then_eval_typed : {X Y : Type 0} (P : X → Type 0) (Q : Y → Type 0) (a : Evaluated X) (f : X → State → Evaluated Y) → TypedE Γ P a →
      ((x : X) (N : State) → P x → erase N.names ≡ Γ → TypedE Γ Q (f x N)) → TypedE Γ Q (then_eval a f)
  unfolding then_eval
  then_eval_typed P Q (comes_to x N) f h k = k x N h.0 h.1
  then_eval_typed P Q (ends e p N) f h k = h

  pub result_typed : (r : Result) (t : Scalar) (p : ℕ) (S : State) → Fits t r → erase S.names ≡ Γ → TypedE Γ (λ v. value_type v ≡ t) (result r p S)
  unfolding result
  result_typed (Values.gives v) t p S h e = (h, e)
  result_typed zero_divisor t p S h e = tt
  result_typed mistyped t p S h e = h

  -- a name that the check took for a variable
  pub read_variable_typed : (m : Meant Value) (p : ℕ) (t : Scalar) (S : State) → as_variable (erase_meant m) p ≡ accepted t → erase S.names ≡ Γ →
      TypedE Γ (λ v. value_type v ≡ t) (read_variable m S)
  unfolding read_variable as_variable
  read_variable_typed absent p t S h e = refused_accepted h
  read_variable_typed (a_variable v) p t S h e = (cc, e)
  read_variable_typed (a_function f) p t S h e = refused_accepted h

  -- the right operand, where the left one does not decide
  pub strict_typed : (o : Operator) (p : ℕ) (v : Value) (f : State → Evaluated Value) (s t : Scalar) → result_of o (value_type v) s ≡ Some t →
      ((N : State) → erase N.names ≡ Γ → TypedE Γ (λ w. value_type w ≡ s) (f N)) → (S : State) → erase S.names ≡ Γ →
      TypedE Γ (λ w. value_type w ≡ t) (operate open_still o p v f S)
  unfolding operate
  strict_typed o p v f s t h k S e =
      then_eval_typed _ _ (f S) _ (k S e) (λ w N q d. result_typed _ t p N (apply_fits o v w t (rw q h)) d)

  pub operate_typed : (o : Operator) (p : ℕ) (v : Value) (f : State → Evaluated Value) (s t : Scalar) → result_of o (value_type v) s ≡ Some t →
      ((N : State) → erase N.names ≡ Γ → TypedE Γ (λ w. value_type w ≡ s) (f N)) → (S : State) → erase S.names ≡ Γ →
      TypedE Γ (λ w. value_type w ≡ t) (operate (short_circuit o v) o p v f S)
  unfolding operate short_circuit
  operate_typed Add p v f s t h k S e = strict_typed Add p v f s t h k S e
  operate_typed Subtract p v f s t h k S e = strict_typed Subtract p v f s t h k S e
  operate_typed Multiply p v f s t h k S e = strict_typed Multiply p v f s t h k S e
  operate_typed Divide p v f s t h k S e = strict_typed Divide p v f s t h k S e
  operate_typed Remainder p v f s t h k S e = strict_typed Remainder p v f s t h k S e
  operate_typed Less p v f s t h k S e = strict_typed Less p v f s t h k S e
  operate_typed LessEqual p v f s t h k S e = strict_typed LessEqual p v f s t h k S e
  operate_typed Greater p v f s t h k S e = strict_typed Greater p v f s t h k S e
  operate_typed GreaterEqual p v f s t h k S e = strict_typed GreaterEqual p v f s t h k S e
  operate_typed Equal p v f s t h k S e = strict_typed Equal p v f s t h k S e
  operate_typed NotEqual p v f s t h k S e = strict_typed NotEqual p v f s t h k S e
  operate_typed And p (of_bool true) f s t h k S e = strict_typed And p (of_bool true) f s t h k S e
  operate_typed And p (of_bool false) f s t h k S e = (logical s t h, e)
  operate_typed And p (of_char c) f s t h k S e = strict_typed And p (of_char c) f s t h k S e
  operate_typed And p (of_int n) f s t h k S e = strict_typed And p (of_int n) f s t h k S e
  operate_typed Or p (of_bool true) f s t h k S e = (logical s t h, e)
  operate_typed Or p (of_bool false) f s t h k S e = strict_typed Or p (of_bool false) f s t h k S e
  operate_typed Or p (of_char c) f s t h k S e = strict_typed Or p (of_char c) f s t h k S e
  operate_typed Or p (of_int n) f s t h k S e = strict_typed Or p (of_int n) f s t h k S e

  pub answered_typed : {X Y : Type 0} (P : Y → Type 0) (a : Told X) (f : X → Y) (p : ℕ) (S : State) → ((x : X) → P (f x)) → erase S.names ≡ Γ →
      TypedE Γ P (answered a f p S)
  unfolding answered
  answered_typed P (accepted x) f p S h e = (h x, e)
  answered_typed P (refused n q) f p S h e = tt

  pub invoke_typed : (f : Callee) (vs : List Value) (p : ℕ) (S : State) → same_types (types vs) (signature f).parameters ≡ true → (f ≡ main → ⊥) → erase S.names ≡ Γ →
      TypedE Γ (λ o. Returned (signature f).result o) (invoke f vs p S)
  unfolding invoke same_types
  invoke_typed zone [] p S h m e = false_true h
  invoke_typed zone (of_int i ∷ []) p S h m e = answered_typed _ (zone_answer S.board i) _ p S (λ z. refl) e
  invoke_typed zone (of_int i ∷ (w ∷ vs)) p S h m e = false_true h
  invoke_typed zone (of_bool b ∷ vs) p S h m e = false_true h
  invoke_typed zone (of_char c ∷ vs) p S h m e = false_true h
  invoke_typed columns [] p S h m e = (refl, e)
  invoke_typed columns (v ∷ vs) p S h m e = false_true h
  invoke_typed rows [] p S h m e = (refl, e)
  invoke_typed rows (v ∷ vs) p S h m e = false_true h
  invoke_typed report [] p S h m e = false_true h
  invoke_typed report (of_int i ∷ []) p S h m e = answered_typed _ (report_answer S.board) _ p _ (λ u. tt) e
  invoke_typed report (of_int i ∷ (w ∷ vs)) p S h m e = false_true h
  invoke_typed report (of_bool b ∷ vs) p S h m e = false_true h
  invoke_typed report (of_char c ∷ vs) p S h m e = false_true h
  invoke_typed main vs p S h m e = absurd (m refl)

  -- a name that the check took for a function to call
  pub callee_known : (m : Meant Value) (p : ℕ) (f : Callee) → as_callee (erase_meant m) p ≡ accepted f → (m ≡ a_function f) × (f ≡ main → ⊥)
  unfolding as_callee
  callee_known absent p f h = refused_accepted h
  callee_known (a_variable v) p f h = refused_accepted h
  callee_known (a_function zone) p f h = let d : zone ≡ f = cc in (ap a_function d, λ m. let z : ◌≡◌ {A = ℕ} 0 1 = cc in omega arith)
  callee_known (a_function columns) p f h = let d : columns ≡ f = cc in (ap a_function d, λ m. let z : ◌≡◌ {A = ℕ} 0 1 = cc in omega arith)
  callee_known (a_function rows) p f h = let d : rows ≡ f = cc in (ap a_function d, λ m. let z : ◌≡◌ {A = ℕ} 0 1 = cc in omega arith)
  callee_known (a_function report) p f h = let d : report ≡ f = cc in (ap a_function d, λ m. let z : ◌≡◌ {A = ℕ} 0 1 = cc in omega arith)
  callee_known (a_function main) p f h = refused_accepted h

  -- a call whose arguments come to values of the types that the check found
  pub call_typed : (x : Ident) (given-types : Told (List Scalar)) (r : Return) (a : Evaluated (List Value)) → called Γ x given-types ≡ accepted r →
      ((ts : List Scalar) → given-types ≡ accepted ts → TypedE Γ (λ vs. types vs ≡ ts) a) →
      TypedE Γ (λ o. Returned r o) (then_eval a (λ vs N. invoke_meant (lookup x.bytes N.names) vs x.place N))
  unfolding called invoke_meant
  call_typed x gs r a h k =
      let i = then_passed _ _ r h in
      let j = then_passed gs _ r i.2 in
      let n = then_passed _ _ r j.2 in
      let f : Callee = i.0 in
      let q : (signature f).result ≡ r = cc in
      let g : same_types j.0 (signature f).parameters ≡ true = needs_passed _ _ _ n.0 n.1 in
      then_eval_typed _ _ a _ (k j.0 j.1) (λ vs N t e.
      let l = lookup-erase x.bytes N.names in
      let w = callee_known (lookup x.bytes N.names) x.place f (ap (λ (m : Meant Scalar). as_callee m x.place) (sym l ∙ ap (lookup x.bytes) e) ∙ i.1) in
      rw w.0 (subst (λ (y : Return). TypedE Γ (λ o. Returned y o) (invoke f vs x.place N)) q (invoke_typed f vs x.place N (rw t g) w.1 e)))

  pub needs_value_typed : (r : Return) (p : ℕ) (t : Scalar) (o : Option Value) (S : State) → value r p ≡ accepted t → Returned r o → erase S.names ≡ Γ →
      TypedE Γ (λ v. value_type v ≡ t) (needs_value o S)
  unfolding value needs_value
  needs_value_typed void p t o S h q e = refused_accepted h
  needs_value_typed (gives s) p t (Some v) S h q e = (cc, e)
  needs_value_typed (gives s) p t None S h q e = absurd q

  mutual
    unfolding eval eval_args eval_exprs type_of arg_types expr_types

    pub eval_typed : (e : Expr) (t : Scalar) → type_of e Γ ≡ accepted t → (S : State) → erase S.names ≡ Γ → TypedE Γ (λ v. value_type v ≡ t) (eval e S)
    eval_typed (constant (number v p)) t h S e = (cc, e)
    eval_typed (constant (character v p)) t h S e = (cc, e)
    eval_typed (constant (truth v p)) t h S e = (cc, e)
    eval_typed (variable x) t h S e =
        read_variable_typed (lookup x.bytes S.names) x.place t S
        (ap (λ (m : Meant Scalar). as_variable m x.place) (sym (lookup-erase x.bytes S.names) ∙ ap (lookup x.bytes) e) ∙ h) e
    eval_typed (call x q xs) t h S e =
        let i = then_passed _ _ t h in
        then_eval_typed _ _ _ _ (call_typed x (arg_types xs Γ) i.0 _ i.1 (λ ts g. eval_args_typed xs ts g S e))
        (λ o N r d. needs_value_typed i.0 x.place t o N i.2 r d)
    eval_typed (bracket q x) t h S e = eval_typed x t h S e
    eval_typed (unary u p x) t h S e =
        let i = then_passed (type_of x Γ) _ t h in
        then_eval_typed _ _ _ _ (eval_typed x i.0 i.1 S e)
        (λ v N s d. result_typed _ t p N (unary_fits u v t (rw s (there_passed _ _ _ t i.2))) d)
    eval_typed (binary o p a b) t h S e =
        let i = then_passed (type_of a Γ) _ t h in
        let j = then_passed (type_of b Γ) _ t i.2 in
        then_eval_typed _ _ _ _ (eval_typed a i.0 i.1 S e)
        (λ v N s d. operate_typed o p v _ j.0 t (rw s (there_passed _ _ _ t j.2)) (λ K c. eval_typed b j.0 j.1 K c) N d)

    pub eval_args_typed : (xs : Args) (ts : List Scalar) → arg_types xs Γ ≡ accepted ts → (S : State) → erase S.names ≡ Γ → TypedE Γ (λ vs. types vs ≡ ts) (eval_args xs S)
    eval_args_typed no_args ts h S e = (cc, e)
    eval_args_typed (args es) ts h S e = eval_exprs_typed es ts h S e

    pub eval_exprs_typed : (es : Exprs) (ts : List Scalar) → expr_types es Γ ≡ accepted ts → (S : State) → erase S.names ≡ Γ → TypedE Γ (λ vs. types vs ≡ ts) (eval_exprs es S)
    eval_exprs_typed (last x) ts h S e =
        let i = then_passed (type_of x Γ) _ ts h in
        then_eval_typed _ _ _ _ (eval_typed x i.0 i.1 S e) (λ v N s d. (let q = i.2 in cc, d))
    eval_exprs_typed (more x p es) ts h S e =
        let i = then_passed (type_of x Γ) _ ts h in
        let j = then_passed (expr_types es Γ) _ ts i.2 in
        then_eval_typed _ _ _ _ (eval_typed x i.0 i.1 S e)
        (λ v N s d. then_eval_typed _ _ _ _ (eval_exprs_typed es j.0 j.1 N d) (λ vs K r c. (let q = j.2 in cc, c)))

  pub eval_whole_typed : (e : Expr) (u : Unit {0}) → check_whole e Γ ≡ accepted u → (S : State) → erase S.names ≡ Γ → TypedE Γ (λ _. Unit {0}) (eval_whole e S)
  unfolding eval_whole check_whole
  eval_whole_typed (constant c) u h S e = (tt, e)
  eval_whole_typed (variable x) u h S e =
      let i = then_passed (type_of (variable x) Γ) _ u h in then_eval_typed _ _ _ _ (eval_typed (variable x) i.0 i.1 S e) (λ v N s d. (tt, d))
  eval_whole_typed (call x q xs) u h S e =
      let i = then_passed _ _ u h in
      then_eval_typed _ _ _ _ (call_typed x (arg_types xs Γ) i.0 _ i.1 (λ ts g. eval_args_typed xs ts g S e)) (λ o N r d. (tt, d))
  eval_whole_typed (bracket q x) u h S e =
      let i = then_passed (type_of x Γ) _ u h in then_eval_typed _ _ _ _ (eval_typed x i.0 i.1 S e) (λ v N s d. (tt, d))
  eval_whole_typed (unary o p x) u h S e =
      let i = then_passed (type_of (unary o p x) Γ) _ u h in then_eval_typed _ _ _ _ (eval_typed (unary o p x) i.0 i.1 S e) (λ v N s d. (tt, d))
  eval_whole_typed (binary o p a b) u h S e =
      let i = then_passed (type_of (binary o p a b) Γ) _ u h in then_eval_typed _ _ _ _ (eval_typed (binary o p a b) i.0 i.1 S e) (λ v N s d. (tt, d))

  -- an expression that the check found to be of a type
  pub needed_typed : (e : Expr) (t : Scalar) (p : ℕ) (u : Unit {0}) → needs_type e Γ t p ≡ accepted u → (S : State) → erase S.names ≡ Γ →
      TypedE Γ (λ v. value_type v ≡ t) (eval e S)
  unfolding needs_type
  needed_typed e t p u h S d =
      let i = then_passed (type_of e Γ) _ u h in
      eval_typed e t (i.1 ∙ ap accepted (same_type_lem i.0 t (needs_passed _ _ _ u i.2))) S d

-- What a statement comes to, where the check had the names Γ before it and Δ after it, in a loop or not. Where it breaks
-- or continues, the names of the newest level may be more than Γ.
abbrev pub TypedF : Bool → (Γ Δ : Scope) → Flow → Type 0
TypedF l Γ Δ (next N) = erase N.names ≡ Δ
TypedF l Γ Δ (broke N) = (l ≡ true) × (leave (erase N.names) ≡ leave Γ)
TypedF l Γ Δ (continued N) = (l ≡ true) × (leave (erase N.names) ≡ leave Γ)
TypedF l Γ Δ (ended e p N) = NotStuck e

-- what a whole body or a round comes to: the names are again those before it
abbrev pub TypedB : Bool → Scope → Flow → Type 0
TypedB l Γ (next N) = erase N.names ≡ Γ
TypedB l Γ (broke N) = (l ≡ true) × (erase N.names ≡ Γ)
TypedB l Γ (continued N) = (l ≡ true) × (erase N.names ≡ Γ)
TypedB l Γ (ended e p N) = NotStuck e

-- a body is a statement that leaves the names as they were
pub as_statement : (l : Bool) (Γ : Scope) (a : Flow) → TypedB l Γ a → TypedF l Γ Γ a
as_statement l Γ (next N) h = h
as_statement l Γ (broke N) h = (h.0, ap leave h.1)
as_statement l Γ (continued N) h = (h.0, ap leave h.1)
as_statement l Γ (ended e p N) h = h

-- what neither breaks nor continues may stand anywhere
pub anywhere : (l : Bool) (Γ : Scope) (a : Flow) → TypedB false Γ a → TypedB l Γ a
anywhere l Γ (next N) h = h
anywhere l Γ (broke N) h = false_true h.0
anywhere l Γ (continued N) h = false_true h.0
anywhere l Γ (ended e p N) h = h

pub given_typed : {X : Type 0} (Γ : Scope) (P : X → Type 0) (Q : Flow → Type 0) (a : Evaluated X) (f : X → State → Flow) → TypedE Γ P a →
    ((e : Ending) (p : ℕ) (N : State) → NotStuck e → Q (ended e p N)) →
    ((x : X) (N : State) → P x → erase N.names ≡ Γ → Q (f x N)) → Q (given a f)
unfolding given
given_typed Γ P Q (comes_to x N) f h s k = k x N h.0 h.1
given_typed Γ P Q (ends e p N) f h s k = s e p N h

pub choose_typed : (Γ : Scope) (Q : Flow → Type 0) (v : Value) (f g : State → Flow) → value_type v ≡ bool →
    ((N : State) → erase N.names ≡ Γ → Q (f N)) → ((N : State) → erase N.names ≡ Γ → Q (g N)) →
    (S : State) → erase S.names ≡ Γ → Q (choose v f g S)
unfolding choose
choose_typed Γ Q (of_bool true) f g t h k S e = h S e
choose_typed Γ Q (of_bool false) f g t h k S e = k S e
choose_typed Γ Q (of_char c) f g t h k S e = let z : ◌≡◌ {A = ℕ} 0 1 = cc in absurd (omega arith)
choose_typed Γ Q (of_int n) f g t h k S e = let z : ◌≡◌ {A = ℕ} 0 1 = cc in absurd (omega arith)

pub then_flow_typed : (l : Bool) (Γ Δ Θ : Scope) (a : Flow) (f : State → Flow) → leave Δ ≡ leave Γ → TypedF l Γ Δ a →
    ((N : State) → erase N.names ≡ Δ → TypedF l Δ Θ (f N)) → TypedF l Γ Θ (then_flow a f)
unfolding then_flow
then_flow_typed l Γ Δ Θ (next N) f d h k = lower (f N) (k N h)
  where
    lower : (a : Flow) → TypedF l Δ Θ a → TypedF l Γ Θ a
    lower (next K) h = h
    lower (broke K) h = (h.0, h.1 ∙ d)
    lower (continued K) h = (h.0, h.1 ∙ d)
    lower (ended e p K) h = h
then_flow_typed l Γ Δ Θ (broke N) f d h k = h
then_flow_typed l Γ Δ Θ (continued N) f d h k = h
then_flow_typed l Γ Δ Θ (ended e p N) f d h k = h

pub return_typed : (l : Bool) (Γ : Scope) (v : Value) (p : ℕ) (S : State) → value_type v ≡ int → TypedF l Γ Γ (as_int v (λ n K. ended (returned n) p K) S)
unfolding as_int
return_typed l Γ (of_bool b) p S t = let z : ◌≡◌ {A = ℕ} 0 1 = cc in absurd (omega arith)
return_typed l Γ (of_char c) p S t = let z : ◌≡◌ {A = ℕ} 0 1 = cc in absurd (omega arith)
return_typed l Γ (of_int n) p S t = tt

-- leaving the newest level of Θ, which is over Γ
pub leaving_typed : (l : Bool) (Γ Θ Δ : Scope) (a : Flow) → leave Θ ≡ Γ → leave Δ ≡ Γ → TypedF l Θ Δ a → TypedB l Γ (leaving a)
unfolding leaving outside
leaving_typed l Γ Θ Δ (next N) t d h = leave-erase N.names ∙ ap leave h ∙ d
leaving_typed l Γ Θ Δ (broke N) t d h = (h.0, leave-erase N.names ∙ h.1 ∙ t)
leaving_typed l Γ Θ Δ (continued N) t d h = (h.0, leave-erase N.names ∙ h.1 ∙ t)
leaving_typed l Γ Θ Δ (ended e p N) t d h = h

pub opened : (Γ : Scope) → leave (level ∷ Γ) ≡ Γ
unfolding leave
opened Γ = refl

pub in_level_typed : (l : Bool) (Γ Δ : Scope) (f : State → Flow) → leave Δ ≡ Γ → ((N : State) → erase N.names ≡ level ∷ Γ → TypedF l (level ∷ Γ) Δ (f N)) →
    (S : State) → erase S.names ≡ Γ → TypedB l Γ (in_level f S)
unfolding in_level
in_level_typed l Γ Δ f d k S e = leaving_typed l Γ (level ∷ Γ) Δ _ (opened Γ) d (k _ (ap (◌∷◌ level) e))

-- a variable that the check found gets a value of its type
pub store_typed : (l : Bool) (Γ : Scope) (x : List ℕ) (p : ℕ) (t : Scalar) (v : Value) (S : State) → as_variable (lookup x Γ) p ≡ accepted t → value_type v ≡ t →
    erase S.names ≡ Γ → TypedF l Γ Γ (store (lookup x S.names) x v S)
unfolding as_variable store
store_typed l Γ x p t v S h s e =
    go (lookup x S.names) refl (ap (λ (m : Meant Scalar). as_variable m p) (sym (lookup-erase x S.names) ∙ ap (lookup x) e) ∙ h)
  where
    go : (m : Meant Value) → lookup x S.names ≡ m → as_variable (erase_meant m) p ≡ accepted t → TypedF l Γ Γ (store m x v S)
    go absent q h = refused_accepted h
    go (a_variable w) q h = let r : value_type w ≡ t = cc in assigned-erase x v w S.names q (s ∙ sym r) ∙ e
    go (a_function f) q h = refused_accepted h

-- loops: a round that is typed in a loop makes a loop that neither breaks nor continues

pub spend_typed : (Γ : Scope) (l p : ℕ) (f : State → Flow) → ((N : State) → erase N.names ≡ Γ → TypedB false Γ (f N)) →
    (S : State) → erase S.names ≡ Γ → TypedB false Γ (spend l p f S)
unfolding spend
spend_typed Γ zero p f k S e = tt
spend_typed Γ (suc n) p f k S e = k _ e

pub again_typed : (Γ : Scope) (a : Flow) (f : State → Flow) → TypedB true Γ a → ((N : State) → erase N.names ≡ Γ → TypedB false Γ (f N)) → TypedB false Γ (again a f)
unfolding again
again_typed Γ (next N) f h k = k N h
again_typed Γ (broke N) f h k = h.1
again_typed Γ (continued N) f h k = k N h.1
again_typed Γ (ended e p N) f h k = h

pub loop_typed : (Γ : Scope) (n p : ℕ) (f : State → Flow) → ((N : State) → erase N.names ≡ Γ → TypedB true Γ (f N)) →
    (S : State) → erase S.names ≡ Γ → TypedB false Γ (loop n p f S)
unfolding loop
loop_typed Γ zero p f k S e = tt
loop_typed Γ (suc n) p f k S e = spend_typed Γ S.left p _ (λ N d. again_typed Γ (f N) _ (k N d) (λ K c. loop_typed Γ n p f k K c)) S e

pub looping_typed : (Γ : Scope) (p : ℕ) (f : State → Flow) → ((N : State) → erase N.names ≡ Γ → TypedB true Γ (f N)) →
    (S : State) → erase S.names ≡ Γ → TypedB false Γ (looping p f S)
unfolding looping
looping_typed Γ p f k S e = loop_typed Γ S.left p f k S e

pub after_body_typed : (Γ : Scope) (a : Flow) (f : State → Flow) → TypedB true Γ a → ((N : State) → erase N.names ≡ Γ → TypedB true Γ (f N)) → TypedB true Γ (after_body a f)
unfolding after_body
after_body_typed Γ (next N) f h k = k N h
after_body_typed Γ (broke N) f h k = h
after_body_typed Γ (continued N) f h k = k N h.1
after_body_typed Γ (ended e p N) f h k = h

-- what is known of a condition, and of a body in a level of its own over Γ
abbrev pub Condition : Scope → (State → Evaluated Value) → Type 0
Condition Γ c = (N : State) → erase N.names ≡ Γ → TypedE Γ (λ v. value_type v ≡ bool) (c N)

abbrev pub Body : Bool → Scope → (State → Flow) → Type 0
Body l Γ f = (N : State) → erase N.names ≡ Γ → TypedB l Γ (in_level f N)

-- a body that is typed in its level over Γ, whose names after it are Δ
pub in_level_lem : (l : Bool) (Γ Δ : Scope) (f : State → Flow) → leave Δ ≡ leave (level ∷ Γ) → ((N : State) → erase N.names ≡ level ∷ Γ → TypedF l (level ∷ Γ) Δ (f N)) → Body l Γ f
in_level_lem l Γ Δ f d k S e = in_level_typed l Γ Δ f (d ∙ opened Γ) k S e

pub while_round_typed : (Γ : Scope) (c : State → Evaluated Value) (f : State → Flow) → Condition Γ c → Body true Γ f →
    (S : State) → erase S.names ≡ Γ → TypedB true Γ (while_round c f S)
unfolding while_round
while_round_typed Γ c f g h S e =
    given_typed Γ _ (TypedB true Γ) _ _ (g S e) (λ x p N n. n) (λ v N t d. choose_typed Γ (TypedB true Γ) v _ _ t h (λ K b. (refl, b)) N d)

pub do_round_typed : (Γ : Scope) (c : State → Evaluated Value) (f : State → Flow) → Condition Γ c → Body true Γ f →
    (S : State) → erase S.names ≡ Γ → TypedB true Γ (do_round c f S)
unfolding do_round
do_round_typed Γ c f g h S e =
    after_body_typed Γ _ _ (h S e) (λ N d. given_typed Γ _ (TypedB true Γ) _ _ (g N d) (λ x p K n. n)
    (λ v K t b. choose_typed Γ (TypedB true Γ) v _ _ t (λ L a. a) (λ L a. (refl, a)) K b))

-- the names of a `for`: its stop and its variable, ints, in a level over Γ
abbrev pub Counted : List ℕ → Scope → Scope
Counted x Γ = stop int ∷ Scopes.variable x int ∷ level ∷ Γ

-- what `counting` finds in such names
pub record Found (x : List ℕ) (Γ : Scope) (c : Counting) : Type 0 where
  pub current : ℤ
  pub bound : ℤ
  pub rest : Names Value
  pub is : c ≡ counts x current bound rest
  pub below_it : erase rest ≡ level ∷ Γ

pub counting_found : (x : List ℕ) (Γ : Scope) (ns : Names Value) → erase ns ≡ Counted x Γ → Found x Γ (counting ns)
unfolding counting
counting_found x Γ [] h = let z : ◌≡◌ {A = ℕ} 0 1 = cc in absurd (omega arith)
counting_found x Γ (level ∷ r) h = let z : ◌≡◌ {A = ℕ} 0 1 = cc in absurd (omega arith)
counting_found x Γ (Scopes.variable y v ∷ r) h = let z : ◌≡◌ {A = ℕ} 0 1 = cc in absurd (omega arith)
counting_found x Γ (function f ∷ r) h = let z : ◌≡◌ {A = ℕ} 0 1 = cc in absurd (omega arith)
counting_found x Γ (stop (of_bool b) ∷ r) h = let z : ◌≡◌ {A = ℕ} 0 1 = cc in absurd (omega arith)
counting_found x Γ (stop (of_char c) ∷ r) h = let z : ◌≡◌ {A = ℕ} 0 1 = cc in absurd (omega arith)
counting_found x Γ (stop (of_int n) ∷ []) h = let z : ◌≡◌ {A = ℕ} 0 1 = cc in absurd (omega arith)
counting_found x Γ (stop (of_int n) ∷ (level ∷ r)) h = let z : ◌≡◌ {A = ℕ} 0 1 = cc in absurd (omega arith)
counting_found x Γ (stop (of_int n) ∷ (stop v ∷ r)) h = let z : ◌≡◌ {A = ℕ} 0 1 = cc in absurd (omega arith)
counting_found x Γ (stop (of_int n) ∷ (function f ∷ r)) h = let z : ◌≡◌ {A = ℕ} 0 1 = cc in absurd (omega arith)
counting_found x Γ (stop (of_int n) ∷ (Scopes.variable y (of_bool b) ∷ r)) h = let z : ◌≡◌ {A = ℕ} 0 1 = cc in absurd (omega arith)
counting_found x Γ (stop (of_int n) ∷ (Scopes.variable y (of_char c) ∷ r)) h = let z : ◌≡◌ {A = ℕ} 0 1 = cc in absurd (omega arith)
counting_found x Γ (stop (of_int n) ∷ (Scopes.variable y (of_int i) ∷ r)) h =
    let d : y ≡ x = cc in record { current = i; bound = n; rest = r; is = ap (λ (w : List ℕ). counts w i n r) d; below_it = cc }

pub below_typed : (x : List ℕ) (Γ : Scope) (c : Counting) (f : State → Flow) → Found x Γ c → ((N : State) → erase N.names ≡ Counted x Γ → TypedB true (Counted x Γ) (f N)) →
    (S : State) → erase S.names ≡ Counted x Γ → TypedB true (Counted x Γ) (below c f S)
unfolding below
below_typed x Γ c f w k S e = rw w.is (go (lt_z w.current w.bound))
  where
    go : (b : Bool) → TypedB true (Counted x Γ) (cond b f (λ N. broke N) S)
    go true = k S e
    go false = (refl, e)

pub adding_typed : (x : List ℕ) (Γ : Scope) (c : Counting) (S : State) → Found x Γ c → TypedB true (Counted x Γ) (adding c S)
unfolding adding
adding_typed x Γ c S w = rw w.is (ap (λ (r : Scope). stop int ∷ Scopes.variable x int ∷ r) w.below_it)

pub for_round_typed : (x : List ℕ) (Γ : Scope) (f : State → Flow) → Body true (Counted x Γ) f →
    (S : State) → erase S.names ≡ Counted x Γ → TypedB true (Counted x Γ) (for_round f S)
unfolding for_round
for_round_typed x Γ f h S e =
    below_typed x Γ _ _ (counting_found x Γ S.names e) (λ N d.
    after_body_typed _ _ _ (h N d) (λ K b. adding_typed x Γ _ K (counting_found x Γ K.names b))) S e

-- what the check keeps: the levels below the newest

pub defined-leave : (x : Ident) (t : Scalar) (Γ Δ : Scope) → defined x t Γ ≡ accepted Δ → (Δ ≡ Scopes.variable x.bytes t ∷ Γ) × (leave Δ ≡ leave Γ)
unfolding defined leave
defined-leave x t Γ Δ h =
    let i = then_passed _ _ Δ h in
    let j = then_passed _ _ Δ i.2 in
    let q : Scopes.variable x.bytes t ∷ Γ ≡ Δ = let g = j.2 in cc in
    (sym q, ap leave (sym q))

-- a check that gives back the names it was given
pub kept : {X : Type 0} (a : Told X) (Γ Δ : Scope) → then a (λ _. accepted Γ) ≡ accepted Δ → Γ ≡ Δ
kept a Γ Δ h = let i = then_passed a _ Δ h in let g = i.2 in cc

-- every statement but a definition leaves the names in force as they were
pub stmt_leave : (s : Stmt) (l : Bool) (Γ Δ : Scope) → check_stmt s l Γ ≡ accepted Δ → leave Δ ≡ leave Γ
unfolding check_stmt check_stmts
stmt_leave (block q ss) l Γ Δ h = ap leave (sym (kept _ Γ Δ h))
stmt_leave (define t q x e) l Γ Δ h = let i = then_passed _ _ Δ h in (defined-leave x t Γ Δ i.2).1
stmt_leave (assign x p e q) l Γ Δ h = let i = then_passed _ _ Δ h in ap leave (sym (kept _ Γ Δ i.2))
stmt_leave (modify m x p e q) l Γ Δ h =
    let i = then_passed _ _ Δ h in let j = then_passed _ _ Δ i.2 in ap leave (sym (kept _ Γ Δ j.2))
stmt_leave (evaluate e q) l Γ Δ h = ap leave (sym (kept _ Γ Δ h))
stmt_leave (if_then p q e s) l Γ Δ h = let i = then_passed _ _ Δ h in ap leave (sym (kept _ Γ Δ i.2))
stmt_leave (if_else p q e s o t) l Γ Δ h =
    let i = then_passed _ _ Δ h in let j = then_passed _ _ Δ i.2 in ap leave (sym (kept _ Γ Δ j.2))
stmt_leave (while p q e s) l Γ Δ h = let i = then_passed _ _ Δ h in ap leave (sym (kept _ Γ Δ i.2))
stmt_leave (do_while p s q e) l Γ Δ h = let i = then_passed _ _ Δ h in ap leave (sym (kept _ Γ Δ i.2))
stmt_leave (for_to p q x a b s) l Γ Δ h =
    let i = then_passed _ _ Δ h in let j = then_passed _ _ Δ i.2 in let m = then_passed _ _ Δ j.2 in let n = then_passed _ _ Δ m.2 in
    ap leave (sym (kept _ Γ Δ n.2))
stmt_leave (break p q) l Γ Δ h = ap leave (sym (kept _ Γ Δ h))
stmt_leave (continue p q) l Γ Δ h = ap leave (sym (kept _ Γ Δ h))
stmt_leave (return p e q) l Γ Δ h = ap leave (sym (kept _ Γ Δ h))
stmt_leave (return_bare p q) l Γ Δ h = refused_accepted h

pub stmts_leave : (ss : Stmts) (l : Bool) (Γ Δ : Scope) → check_stmts ss l Γ ≡ accepted Δ → leave Δ ≡ leave Γ
unfolding check_stmts
stmts_leave nil l Γ Δ h = let q : Γ ≡ Δ = cc in ap leave (sym q)
stmts_leave (cons s ss) l Γ Δ h =
    let i = then_passed (check_stmt s l Γ) _ Δ h in stmts_leave ss l i.0 Δ i.2 ∙ stmt_leave s l Γ i.0 i.1

-- an operator that modifies a variable gives the variable's type
pub arithmetic-keeps : (b : Bool) (t r : Scalar) → cond b (Types.result_at Types.arithmetic t) None ≡ Some r → r ≡ t
arithmetic-keeps true bool r h = none_some h
arithmetic-keeps true char r h = cc
arithmetic-keeps true int r h = cc
arithmetic-keeps false t r h = none_some h

pub logic-keeps : (b : Bool) (t r : Scalar) → cond b (Types.result_at Types.logic t) None ≡ Some r → r ≡ t
logic-keeps true bool r h = cc
logic-keeps true char r h = none_some h
logic-keeps true int r h = none_some h
logic-keeps false t r h = none_some h

pub modified : (m : Modifier) (t s r : Scalar) → result_of (operator_of m) t s ≡ Some r → r ≡ t
modified plus t s r h = arithmetic-keeps _ t r h
modified minus t s r h = arithmetic-keeps _ t r h
modified times t s r h = arithmetic-keeps _ t r h
modified over t s r h = arithmetic-keeps _ t r h
modified modulo t s r h = arithmetic-keeps _ t r h
modified both t s r h = logic-keeps _ t r h
modified either t s r h = logic-keeps _ t r h

pub both_ints : (s t : Scalar) → (same_type s int && same_type t int) ≡ true → (s ≡ int) × (t ≡ int)
both_ints s t h = go (same_type s int) (same_type t int) refl refl h
  where
    go : (a b : Bool) → same_type s int ≡ a → same_type t int ≡ b → (a && b) ≡ true → (s ≡ int) × (t ≡ int)
    go true true p q h = (same_type_lem s int p, same_type_lem t int q)
    go true false p q h = false_true h
    go false b p q h = false_true h

-- in place of the names Γ, their equals Δ
pub after : (l : Bool) (Γ Δ : Scope) (a : Flow) → Γ ≡ Δ → TypedF l Γ Γ a → TypedF l Γ Δ a
after l Γ Δ a q h = subst (λ (D : Scope). TypedF l Γ D a) q h

-- a new variable
pub defined_typed : (l : Bool) (Γ Δ : Scope) (t : Scalar) (x : List ℕ) (v : Value) (S : State) → Δ ≡ Scopes.variable x t ∷ Γ → value_type v ≡ t → erase S.names ≡ Γ →
    TypedF l Γ Δ (defining x v S)
unfolding defining
defined_typed l Γ Δ t x v S w s e = cc

-- the type of `x op e`, from those of x and e
pub modify_type : (Γ : Scope) (m : Modifier) (x : Ident) (p : ℕ) (e : Expr) (t s r : Scalar) → as_variable (lookup x.bytes Γ) x.place ≡ accepted t →
    type_of e Γ ≡ accepted s → there (result_of (operator_of m) t s) 15 p ≡ accepted r → type_of (binary (operator_of m) p (variable x) e) Γ ≡ accepted r
unfolding type_of then
modify_type Γ m x p e t s r h g k = rw (h, g) k

-- a `for` with its start and stop
pub for_typed : (x : List ℕ) (p : ℕ) (v w : Value) (l : Bool) (Γ : Scope) (K : State) → value_type v ≡ int → value_type w ≡ int → erase K.names ≡ Γ →
    (f : State → Flow) → Body true (Counted x Γ) f →
    TypedB l Γ (leaving (looping p (for_round f) (with_names K (stop w ∷ Scopes.variable x v ∷ level ∷ K.names))))
unfolding leave
for_typed x p v w l Γ K g k e f b =
    let S : State = with_names K (stop w ∷ Scopes.variable x v ∷ level ∷ K.names) in
    let F : Flow = looping p (for_round f) S in
    let d : erase S.names ≡ Counted x Γ = cc in
    let h : TypedB false (Counted x Γ) F = looping_typed (Counted x Γ) p (for_round f) (for_round_typed x Γ f b) S d in
    leaving_typed l Γ (Counted x Γ) (Counted x Γ) F refl refl (as_statement l (Counted x Γ) F (anywhere l (Counted x Γ) F h))

mutual
  unfolding run run_all check_stmt check_stmts

  pub run_typed : (s : Stmt) (l : Bool) (Γ Δ : Scope) → check_stmt s l Γ ≡ accepted Δ → (S : State) → erase S.names ≡ Γ → TypedF l Γ Δ (run s S)
  run_typed (block q ss) l Γ Δ h S e =
      let i = then_passed (check_stmts ss l (level ∷ Γ)) _ Δ h in
      after l Γ Δ (run (block q ss) S) (kept _ Γ Δ h) (as_statement l Γ (run (block q ss) S) (in_level_lem l Γ i.0 _ (stmts_leave ss l _ _ i.1) (λ B β. run_all_typed ss l (level ∷ Γ) i.0 i.1 B β) S e))
  run_typed (define t q x e) l Γ Δ h S d =
      let i = then_passed (needs_type e Γ t x.place) _ Δ h in
      let w = (defined-leave x t Γ Δ i.2).0 in
      given_typed Γ _ (TypedF l Γ Δ) _ _ (needed_typed Γ e t _ _ i.1 S d) (λ x p N n. n) (λ v N s c. defined_typed l Γ Δ t x.bytes v N w s c)
  run_typed (assign x p e q) l Γ Δ h S d =
      let i = then_passed _ _ Δ h in
      let j = then_passed (needs_type e Γ i.0 p) _ Δ i.2 in
      after l Γ Δ (run (assign x p e q) S) (kept _ Γ Δ i.2) (given_typed Γ _ (TypedF l Γ Γ) _ _ (needed_typed Γ e i.0 _ _ j.1 S d) (λ x p N n. n)
      (λ v N s c. store_typed l Γ x.bytes x.place i.0 v N i.1 s c))
  run_typed (modify m x p e q) l Γ Δ h S d =
      let i = then_passed _ _ Δ h in
      let j = then_passed (type_of e Γ) _ Δ i.2 in
      let n = then_passed _ _ Δ j.2 in
      after l Γ Δ (run (modify m x p e q) S) (kept _ Γ Δ j.2) (given_typed Γ _ (TypedF l Γ Γ) _ _
      (eval_typed Γ (binary (operator_of m) p (variable x) e) n.0 (modify_type Γ m x p e i.0 j.0 n.0 i.1 j.1 n.1) S d) (λ x p N n. n)
      (λ v N s c. store_typed l Γ x.bytes x.place i.0 v N i.1 (s ∙ modified m i.0 j.0 n.0 (there_passed _ _ _ n.0 n.1)) c))
  run_typed (evaluate e q) l Γ Δ h S d =
      let i = then_passed (check_whole e Γ) _ Δ h in
      after l Γ Δ (run (evaluate e q) S) (kept _ Γ Δ h) (given_typed Γ _ (TypedF l Γ Γ) _ _ (eval_whole_typed Γ e i.0 i.1 S d) (λ x p N n. n) (λ _ N s c. c))
  run_typed (if_then p q e s) l Γ Δ h S d =
      let i = then_passed (needs_type e Γ bool p) _ Δ h in
      let j = then_passed (check_stmt s l (level ∷ Γ)) _ Δ i.2 in
      after l Γ Δ (run (if_then p q e s) S) (kept _ Γ Δ i.2) (as_statement l Γ (run (if_then p q e s) S) (given_typed Γ _ (TypedB l Γ) _ _ (needed_typed Γ e bool _ _ i.1 S d) (λ x p N n. n)
      (λ v N t c. choose_typed Γ (TypedB l Γ) v _ _ t (in_level_lem l Γ j.0 _ (stmt_leave s l _ _ j.1) (λ B β. run_typed s l (level ∷ Γ) j.0 j.1 B β)) (λ K b. b) N c)))
  run_typed (if_else p q e s o t) l Γ Δ h S d =
      let i = then_passed (needs_type e Γ bool p) _ Δ h in
      let j = then_passed (check_stmt s l (level ∷ Γ)) _ Δ i.2 in
      let n = then_passed (check_stmt t l (level ∷ Γ)) _ Δ j.2 in
      after l Γ Δ (run (if_else p q e s o t) S) (kept _ Γ Δ j.2) (as_statement l Γ (run (if_else p q e s o t) S) (given_typed Γ _ (TypedB l Γ) _ _ (needed_typed Γ e bool _ _ i.1 S d) (λ x p N n. n)
      (λ v N u c. choose_typed Γ (TypedB l Γ) v _ _ u (in_level_lem l Γ j.0 _ (stmt_leave s l _ _ j.1) (λ B β. run_typed s l (level ∷ Γ) j.0 j.1 B β)) (in_level_lem l Γ n.0 _ (stmt_leave t l _ _ n.1) (λ B β. run_typed t l (level ∷ Γ) n.0 n.1 B β)) N c)))
  run_typed (while p q e s) l Γ Δ h S d =
      let i = then_passed (needs_type e Γ bool p) _ Δ h in
      let j = then_passed (check_stmt s true (level ∷ Γ)) _ Δ i.2 in
      after l Γ Δ (run (while p q e s) S) (kept _ Γ Δ i.2) (as_statement l Γ (run (while p q e s) S) (anywhere l Γ (run (while p q e s) S) (looping_typed Γ p _
      (while_round_typed Γ _ _ (λ N c. needed_typed Γ e bool _ _ i.1 N c) (in_level_lem true Γ j.0 _ (stmt_leave s true _ _ j.1) (λ B β. run_typed s true (level ∷ Γ) j.0 j.1 B β))) S d)))
  run_typed (do_while p s q e) l Γ Δ h S d =
      let i = then_passed (check_stmt s true (level ∷ Γ)) _ Δ h in
      let j = then_passed (needs_type e Γ bool p) _ Δ i.2 in
      after l Γ Δ (run (do_while p s q e) S) (kept _ Γ Δ i.2) (as_statement l Γ (run (do_while p s q e) S) (anywhere l Γ (run (do_while p s q e) S) (looping_typed Γ p _
      (do_round_typed Γ _ _ (λ N c. needed_typed Γ e bool _ _ j.1 N c) (in_level_lem true Γ i.0 _ (stmt_leave s true _ _ i.1) (λ B β. run_typed s true (level ∷ Γ) i.0 i.1 B β))) S d)))
  run_typed (for_to p q x a b s) l Γ Δ h S d =
      let i = then_passed (type_of a Γ) _ Δ h in
      let j = then_passed (type_of b Γ) _ Δ i.2 in
      let m = then_passed _ _ Δ j.2 in
      let n = then_passed _ _ Δ m.2 in
      let w = then_passed (check_stmt s true (level ∷ Counted x.bytes Γ)) _ Δ n.2 in
      let t = both_ints i.0 j.0 (needs_passed _ _ _ m.0 m.1) in
      after l Γ Δ (run (for_to p q x a b s) S) (kept _ Γ Δ n.2) (as_statement l Γ (run (for_to p q x a b s) S) (given_typed Γ _ (TypedB l Γ) _ _ (eval_typed Γ a i.0 i.1 S d) (λ x p N n. n)
      (λ v N g c. given_typed Γ _ (TypedB l Γ) _ _ (eval_typed Γ b j.0 j.1 N c) (λ x p K n. n)
      (λ y K k f. for_typed x.bytes p v y l Γ K (g ∙ t.0) (k ∙ t.1) f _ (in_level_lem true (Counted x.bytes Γ) w.0 _ (stmt_leave s true _ _ w.1) (λ B β. run_typed s true (level ∷ (Counted x.bytes Γ)) w.0 w.1 B β))))))
  run_typed (break p q) l Γ Δ h S d = (needs_passed l _ _ _ (then_passed (needs l 16 p) _ Δ h).1, ap leave d)
  run_typed (continue p q) l Γ Δ h S d = (needs_passed l _ _ _ (then_passed (needs l 16 p) _ Δ h).1, ap leave d)
  run_typed (return p e q) l Γ Δ h S d =
      let i = then_passed (needs_type e Γ int p) _ Δ h in
      after l Γ Δ (run (return p e q) S) (kept _ Γ Δ h) (given_typed Γ _ (TypedF l Γ Γ) _ _ (needed_typed Γ e int _ _ i.1 S d) (λ x p N n. n)
      (λ v N t c. return_typed l Γ v p N t))
  run_typed (return_bare p q) l Γ Δ h S d = refused_accepted h

  pub run_all_typed : (ss : Stmts) (l : Bool) (Γ Δ : Scope) → check_stmts ss l Γ ≡ accepted Δ → (S : State) → erase S.names ≡ Γ → TypedF l Γ Δ (run_all ss S)
  run_all_typed nil l Γ Δ h S e = let q : Γ ≡ Δ = cc in e ∙ q
  run_all_typed (cons s ss) l Γ Δ h S e =
      let i = then_passed (check_stmt s l Γ) _ Δ h in
      then_flow_typed l Γ i.0 Δ _ _ (stmt_leave s l Γ i.0 i.1) (run_typed s l Γ i.0 i.1 S e) (λ N d. run_all_typed ss l i.0 Δ i.2 N d)

-- globals and externs

pub ConstantTyped : (c : Constant) → value_type (constant_value c) ≡ constant_type c
ConstantTyped (number v p) = refl
ConstantTyped (character v p) = refl
ConstantTyped (truth v p) = refl

pub declared_typed : (x : Ident) (o : Option Callee) (Γ Δ : Scope) (ns : Names Value) → declared x o Γ ≡ accepted Δ → erase ns ≡ Γ → erase (declare_listed o ns) ≡ Δ
unfolding declared declare_listed
declared_typed x None Γ Δ ns h e = refused_accepted h
declared_typed x (Some f) Γ Δ ns h e = let i = then_passed _ _ Δ h in let g = i.2 in cc

pub items_typed : (is : List Item) (Γ Δ : Scope) (ns : Names Value) → check_items is Γ ≡ accepted Δ → erase ns ≡ Γ → erase (declare_items is ns) ≡ Δ
unfolding check_items check_item declare_items
items_typed [] Γ Δ ns h e = cc
items_typed (extern q t x a ∷ is) Γ Δ ns h e =
    let i = then_passed _ _ Δ h in items_typed is i.0 Δ _ i.2 (declared_typed x (listed x.bytes t (parameter_types a)) Γ i.0 ns i.1 e)
items_typed (global s q t x c ∷ is) Γ Δ ns h e =
    let i = then_passed _ _ Δ h in
    let j = then_passed _ _ i.0 i.1 in
    let w = (defined-leave x t Γ i.0 j.2).0 in
    let g : value_type (constant_value c) ≡ t = ConstantTyped c ∙ same_type_lem (constant_type c) t (needs_passed _ _ _ j.0 j.1) in
    items_typed is i.0 Δ _ i.2 (cc)

-- the whole script

pub finished_typed : (Γ Δ : Scope) (a : Flow) (q : ℕ) → TypedF false Γ Δ a → (finished a q).ending ≡ stuck → ⊥
unfolding finished
finished_typed Γ Δ (next N) q h e = let z : ◌≡◌ {A = ℕ} 0 1 = cc in omega arith
finished_typed Γ Δ (broke N) q h e = false_true h.0
finished_typed Γ Δ (continued N) q h e = false_true h.0
finished_typed Γ Δ (ended x p N) q h e = let P : Ending → Type 0 = NotStuck in subst P e h

pub checked_never_stuck : CheckedNeverStuck
unfolding check_script run_script start
checked_never_stuck s b ticks h =
    let i = then_passed (check_items s.items (level ∷ [])) _ tt h in
    let j = then_passed (check_stmts s.body false (level ∷ function main ∷ level ∷ i.0)) _ tt i.2 in
    finished_typed _ j.0 _ s.close (run_all_typed s.body false _ j.0 j.1 _
    (ap (λ (r : Scope). level ∷ function main ∷ level ∷ r) (items_typed s.items (level ∷ []) i.0 (level ∷ []) i.1 refl)))
