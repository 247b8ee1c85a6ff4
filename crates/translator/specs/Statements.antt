-- What the translation of statements comes to.
use Rattle.std.specs.Prelude.{◌≡◌, ℕ, ◌+◌, ◌<◌, ◌≤◌, Bool, true, List, [], ◌∷◌, ◌++◌, length, take, drop, pos, Ok, Err, Result}
use Rattle.refusal.specs.Told.{accepted, refused, number_of}
use Rattle.refusal.specs.declared.reason.Refusal.{Refusal}
use Rattle.stacks.specs.Held.{Held, holding, cut, seen}
use Rattle.lexer.specs.Lexeme.{Lexeme}
use Rattle.lexer.specs.Reading.{lexemes}
use Rattle.lexer.specs.declared.kind.Kind.TheVariants as K
use Rattle.lexer.specs.declared.kind.Token.{Token}
use Rattle.meaning.specs.declared.operator.Scalar.{Scalar}
use Rattle.meaning.specs.declared.operator.Scalar.TheVariants.{Bool as bool, Int as int}
use Rattle.meaning.specs.declared.operator.Operator.{Operator}
use Rattle.meaning.specs.Trees.{Ident, Expr, Modifier, Stmt, block, define, assign, modify, evaluate, if_then, if_else, while, do_while, for_to, break, continue, return, return_bare, Stmts}
use Rattle.meaning.specs.Types.{operator_of}
use Rattle.meaning.specs.Written.{sign, expr_lexemes, stmt_lexemes, stmts_lexemes}
use Rattle.meaning.specs.Grammar.{Grouped, Proper, Propers}
use Rattle.meaning.specs.Scopes.{level, cells}
use Rattle.meaning.specs.Check.{Scope, type_of, needs_type, check_stmt, check_stmts}
use Rattle.meaning.proofs.Parsed.{NoElse}
use Rattle.machine.specs.declared.instruction.Instruction.{Instruction}
use Rattle.layout.proofs.Compiled.{ins, expr_end, expr_code, stmt_end, stmts_end, stmt_code, stmts_code}
use Rattle.translator.specs.Translation.{code_limit}
use Rattle.translator.specs.Code.{Placed, coded, aimed, patched}
use Rattle.translator.specs.Names.{scope_of}
use Rattle.translator.specs.Expressions.{AllPlaced, ExprAt}
use Rattle.translator.specs.declared.name.Name.{Name}
use Rattle.translator.specs.declared.pending.Jump.{Jump}
use Rattle.translator.specs.declared.work.Work.{Work as Stacks}

-- the jumps stand from lo on, before hi
unfoldable pub Between : List Jump → (lo hi : ℕ) → Type 0
Between [] lo hi = Unit {0}
Between (j ∷ js) lo hi = (lo ≤ j.at) × (j.at < hi) × Between js lo hi

-- D is C with more code, in which the jumps js still want their targets: once each `break` goes to k and each `continue` to
-- c, what was added is F k c.
pub record Grows (C : List Instruction) (js : List Jump) (D : List Instruction) (F : ℕ → ℕ → List Instruction) : Type 0 where
  pub between : Between js (length C) (length D)
  pub equal : (k c : ℕ) → patched js k c D ≡ C ++ F k c

-- the three stacks of a translation
pub record Work : Type 0 where
  pub names : Held Name
  pub jumps : Held Jump
  pub code : Held Instruction

abbrev pub work : Held Name → Held Jump → Held Instruction → Work
work n j c = record { names = n; jumps = j; code = c }

-- what the stacks of a translation hold
abbrev pub held : Stacks → Work
held w = work (seen w.names) (seen w.jumps) (seen w.code)

-- Lexemes stand at a place of the tokens, and the stacks have room: for as many names and jumps as there are tokens left,
-- and for code up to an end.
pub record Ready (s : List ℕ) (ts : List Token) (at : ℕ) (W : Work) (ls : List Lexeme) (end : ℕ → ℕ) : Type 0 where
  pub code : List Instruction
  pub placed : AllPlaced (lexemes s ts)
  pub few : cells (scope_of s W.names.held) ≤ 64
  pub stands : drop at (lexemes s ts) ≡ ls
  pub begun : W.code ≡ coded code
  pub room : end (length code) ≤ code_limit
  pub entries : length W.names.held + length ls ≤ W.names.most
  pub waiting : length W.jumps.held + length ls ≤ W.jumps.most

-- The stacks afterwards, at the place q where the lexemes ls are down to rest: the names are Δ, with those from before
-- still there; no more names and jumps came than tokens went; the code is more by F.
pub record Worked (s : List ℕ) (ts : List Token) (q : ℕ) (W V : Work) (ls rest : List Lexeme) (C : List Instruction) (F : ℕ → ℕ → List Instruction) : Type 0 where
  pub next : drop q (lexemes s ts) ≡ rest
  pub kept : take (length W.names.held) V.names.held ≡ W.names.held
  pub names : V.names.most ≡ W.names.most
  pub entries : length V.names.held + length rest ≤ length W.names.held + length ls
  pub new : List Jump
  pub jumps : V.jumps ≡ holding (W.jumps.held ++ new) W.jumps.most
  pub waiting : length new + length rest ≤ length ls
  pub code : List Instruction
  pub ended : V.code ≡ coded code
  pub grows : Grows C new code F

-- A statement stands there.
pub record StmtAt (s : List ℕ) (ts : List Token) (at : ℕ) (W : Work) (t : Stmt) : Type 0 where
  pub rest : List Lexeme
  pub proper : Proper t
  pub ends : NoElse t rest
  pub ready : Ready s ts at W (stmt_lexemes t rest) (stmt_end t (scope_of s W.names.held))

-- What was made of it: the names in force afterwards, its code; or its first fault. `l` tells whether a loop is around it.
abbrev pub StmtDone : List ℕ → List Token → Bool → (W V : Work) → (t : Stmt) → (rest : List Lexeme) → List Instruction → Result ℕ Refusal → Type 0
StmtDone s ts l W V t rest C (Ok q) =
    (check_stmt t l (scope_of s W.names.held) ≡ accepted (scope_of s V.names.held))
    × Worked s ts q W V (stmt_lexemes t rest) rest C (λ k c. stmt_code t (scope_of s W.names.held) (length C) k c)
StmtDone s ts l W V t rest C (Err f) = check_stmt t l (scope_of s W.names.held) ≡ refused (number_of f.reason) f.place

-- whatever statement stands there is translated
abbrev pub TranslatesStmt : List ℕ → List Token → ℕ → Bool → (W V : Work) → Result ℕ Refusal → Type 0
TranslatesStmt s ts at l W V r = (t : Stmt) (h : StmtAt s ts at W t) → StmtDone s ts l W V t h.rest h.ready.code r

-- Statements and the brace that closes them stand there.
pub record StmtsAt (s : List ℕ) (ts : List Token) (at : ℕ) (W : Work) (ss : Stmts) : Type 0 where
  pub close : ℕ
  pub rest : List Lexeme
  pub proper : Propers ss
  pub ready : Ready s ts at W (stmts_lexemes ss (sign K.CloseBrace close ∷ rest)) (stmts_end ss (scope_of s W.names.held))

-- What was made of them; q is the place of the brace.
abbrev pub StmtsDone : List ℕ → List Token → Bool → (W V : Work) → (ss : Stmts) → (rest : List Lexeme) → List Instruction → Result ℕ Refusal → Type 0
StmtsDone s ts l W V ss rest C (Ok q) =
    (check_stmts ss l (scope_of s W.names.held) ≡ accepted (scope_of s V.names.held))
    × Worked s ts q W V (stmts_lexemes ss rest) rest C (λ k c. stmts_code ss (scope_of s W.names.held) (length C) k c)
StmtsDone s ts l W V ss rest C (Err f) = check_stmts ss l (scope_of s W.names.held) ≡ refused (number_of f.reason) f.place

-- whatever statements stand there are translated
abbrev pub TranslatesStmts : List ℕ → List Token → ℕ → Bool → (W V : Work) → Result ℕ Refusal → Type 0
TranslatesStmts s ts at l W V r =
    (ss : Stmts) (h : StmtsAt s ts at W ss) → StmtsDone s ts l W V ss (sign K.CloseBrace h.close ∷ h.rest) h.ready.code r

-- on the way there: what becomes of the statements from here on becomes of all of them
abbrev pub StmtsOn : List ℕ → List Token → Bool → ℕ → Work → ℕ → Work → Type 0
StmtsOn s ts l at W end V =
    (ss : Stmts) (h : StmtsAt s ts at W ss)
    → (us : Stmts) × (g : StmtsAt s ts end V us)
    × ((X : Work) (r : Result ℕ Refusal) → StmtsDone s ts l V X us (sign K.CloseBrace g.close ∷ g.rest) g.ready.code r
    → StmtsDone s ts l W X ss (sign K.CloseBrace h.close ∷ h.rest) h.ready.code r)

-- The parts of statements.

-- What was made of an expression that has to be of a type, else 15 at p: the place after it, and its code; or the first fault.
abbrev pub NeedDone : List ℕ → List Token → Scope → Held Instruction → Expr → Scalar → ℕ → List Lexeme → List Instruction → Result ℕ Refusal → Type 0
NeedDone s ts Γ D e t p rest code (Ok q) =
    (needs_type e Γ t p ≡ accepted tt) × (drop q (lexemes s ts) ≡ rest) × (D ≡ coded (code ++ expr_code e Γ (length code)))
NeedDone s ts Γ D e t p rest code (Err f) = needs_type e Γ t p ≡ refused (number_of f.reason) f.place

-- whatever expression stands there is translated as one of the type
abbrev pub TranslatesNeeded : List ℕ → List Token → ℕ → Scalar → ℕ → Held Name → Held Instruction → Held Instruction → Result ℕ Refusal → Type 0
TranslatesNeeded s ts at t p N C D r =
    (e : Expr) (h : ExprAt 6 s ts at (scope_of s N.held) C e) → NeedDone s ts (scope_of s N.held) D e t p h.rest h.code r

-- An expression in brackets stands there, and there is room for its code.
pub record ConditionAt (s : List ℕ) (ts : List Token) (at : ℕ) (Γ : Scope) (C : Held Instruction) (e : Expr) : Type 0 where
  pub opened : ℕ
  pub closed : ℕ
  pub rest : List Lexeme
  pub code : List Instruction
  pub placed : AllPlaced (lexemes s ts)
  pub few : cells Γ ≤ 64
  pub grouped : Grouped e 6
  pub stands : drop at (lexemes s ts) ≡ sign K.OpenParen opened ∷ expr_lexemes e (sign K.CloseParen closed ∷ rest)
  pub begun : C ≡ coded code
  pub room : expr_end e Γ (length code) ≤ code_limit

-- whatever condition stands there is translated, with its faults of type at p
abbrev pub TranslatesCondition : List ℕ → List Token → ℕ → ℕ → Held Name → Held Instruction → Held Instruction → Result ℕ Refusal → Type 0
TranslatesCondition s ts at p N C D r =
    (e : Expr) (h : ConditionAt s ts at (scope_of s N.held) C e) → NeedDone s ts (scope_of s N.held) D e bool p h.rest h.code r

-- A body stands there, with room for the level that it opens.
pub record BodyAt (s : List ℕ) (ts : List Token) (at : ℕ) (W : Work) (t : Stmt) : Type 0 where
  pub rest : List Lexeme
  pub proper : Proper t
  pub ends : NoElse t rest
  pub ready : Ready s ts at W (stmt_lexemes t rest) (stmt_end t (level ∷ scope_of s W.names.held))
  pub spare : length W.names.held + length (stmt_lexemes t rest) < W.names.most

-- What was made of it: the names are as they were.
abbrev pub BodyDone : List ℕ → List Token → Bool → (W V : Work) → (t : Stmt) → (rest : List Lexeme) → List Instruction → Result ℕ Refusal → Type 0
BodyDone s ts l W V t rest C (Ok q) =
    (Δ : Scope) × (check_stmt t l (level ∷ scope_of s W.names.held) ≡ accepted Δ) × (V.names ≡ W.names)
    × Worked s ts q W V (stmt_lexemes t rest) rest C (λ k c. stmt_code t (level ∷ scope_of s W.names.held) (length C) k c)
BodyDone s ts l W V t rest C (Err f) = check_stmt t l (level ∷ scope_of s W.names.held) ≡ refused (number_of f.reason) f.place

-- whatever body stands there is translated
abbrev pub TranslatesBody : List ℕ → List Token → ℕ → Bool → (W V : Work) → Result ℕ Refusal → Type 0
TranslatesBody s ts at l W V r = (t : Stmt) (h : BodyAt s ts at W t) → BodyDone s ts l W V t h.rest h.ready.code r

-- `else` with a body stands there.
pub record ElseAt (s : List ℕ) (ts : List Token) (at p : ℕ) (W : Work) (t : Stmt) : Type 0 where
  pub else : ℕ
  pub rest : List Lexeme
  pub proper : Proper t
  pub ends : NoElse t rest
  pub place : Placed p
  pub ready : Ready s ts at W (sign K.Else else ∷ stmt_lexemes t rest) (λ o. stmt_end t (level ∷ scope_of s W.names.held) (o + 1))

-- the code of an `else`: a jump over its body for what comes before, and the body
abbrev pub else_code : Stmt → Scope → (p o k c : ℕ) → List Instruction
else_code t Γ p o k c = ins 14 (pos (stmt_end t (level ∷ Γ) (o + 1))) p ∷ stmt_code t (level ∷ Γ) (o + 1) k c

-- What was made of it: the jump at i, which skips what comes before, goes to the body.
abbrev pub ElseDone : List ℕ → List Token → Bool → (i p : ℕ) → (W V : Work) → (t : Stmt) → (ls rest : List Lexeme) → List Instruction → Result ℕ Refusal → Type 0
ElseDone s ts l i p W V t ls rest C (Ok q) =
    (Δ : Scope) × (check_stmt t l (level ∷ scope_of s W.names.held) ≡ accepted Δ) × (V.names ≡ W.names)
    × Worked s ts q W V ls rest (aimed i (length C + 1) C) (λ k c. else_code t (scope_of s W.names.held) p (length C) k c)
ElseDone s ts l i p W V t ls rest C (Err f) = check_stmt t l (level ∷ scope_of s W.names.held) ≡ refused (number_of f.reason) f.place

-- whatever `else` stands there is translated
abbrev pub TranslatesElse : List ℕ → List Token → ℕ → Bool → (i p : ℕ) → (W V : Work) → Result ℕ Refusal → Type 0
TranslatesElse s ts at l i p W V r =
    (t : Stmt) (h : ElseAt s ts at p W t) → i < length h.ready.code
    → ElseDone s ts l i p W V t (sign K.Else h.else ∷ stmt_lexemes t h.rest) h.rest h.ready.code r

-- The end of a loop: a jump back to o. Of the jumps from the mark on, a `break` goes behind it, as does the jump at i, and a
-- `continue` to c.
abbrev pub Closes : Held Jump → ℕ → Held Instruction → (i o c p : ℕ) → Held Jump → Held Instruction → Type 0
Closes J mark before i o c p K after =
    (C : List Instruction) → before ≡ coded C → length C < code_limit → Placed o → Placed c → Placed p
    → (after ≡ coded (aimed i (length C + 1) (patched (drop mark J.held) (length C + 1) c (C ++ (ins 14 (pos o) p ∷ []))))) × (K ≡ cut mark J)

-- the start of a turn of `for`, whose variable has the cell v: is it less than the stop?
abbrev pub test_code : (v p : ℕ) → List Instruction
test_code v p = ins 16 (pos 0) p ∷ ins 1 (pos v) p ∷ ins 1 (pos (v + 1)) p ∷ ins 10 (pos 0) p ∷ []

-- the end of a turn: the variable becomes one more
abbrev pub advance_code : (v p : ℕ) → List Instruction
advance_code v p = ins 1 (pos v) p ∷ ins 0 (pos 1) p ∷ ins 4 (pos 0) p ∷ ins 2 (pos v) p ∷ []

-- four more instructions, where there is room
abbrev pub EmitsFour : Held Instruction → List Instruction → ℕ → Held Instruction → Type 0
EmitsFour before is p after =
    (C : List Instruction) → before ≡ coded C → length C + 1 + 1 + 1 + 1 ≤ code_limit → Placed p → after ≡ coded (C ++ is)

-- the test at the start of a turn is emitted
abbrev pub Tests : Held Instruction → (v p : ℕ) → Held Instruction → Type 0
Tests before v p after = EmitsFour before (test_code v p) p after

-- the end of a turn is emitted
abbrev pub Advances : Held Instruction → (v p : ℕ) → Held Instruction → Type 0
Advances before v p after = EmitsFour before (advance_code v p) p after

-- the turns of a `for`
abbrev pub count_code : Stmt → Scope → (v p o : ℕ) → List Instruction
count_code t Γ v p o =
    let m = o + 1 + 1 + 1 + 1 + 1 in
    let n = stmt_end t (level ∷ Γ) m in
    let z = n + 1 + 1 + 1 + 1 + 1 in
    test_code v p ++ (ins 15 (pos z) p ∷ (stmt_code t (level ∷ Γ) m z n ++ (advance_code v p ++ (ins 14 (pos o) p ∷ []))))

-- The body of a `for` stands there, the `for`'s own names are in force, and its variable has the cell v.
pub record CountAt (s : List ℕ) (ts : List Token) (at p : ℕ) (W : Work) (t : Stmt) : Type 0 where
  pub rest : List Lexeme
  pub proper : Proper t
  pub ends : NoElse t rest
  pub place : Placed p
  pub ready : Ready s ts at W (stmt_lexemes t rest) (λ o. stmt_end t (level ∷ scope_of s W.names.held) (o + 1 + 1 + 1 + 1 + 1) + 1 + 1 + 1 + 1 + 1)
  pub spare : length W.names.held + length (stmt_lexemes t rest) < W.names.most

-- What was made of it: only the code is another.
abbrev pub CountDone : List ℕ → List Token → (v p : ℕ) → (W V : Work) → (t : Stmt) → (rest : List Lexeme) → List Instruction → Result ℕ Refusal → Type 0
CountDone s ts v p W V t rest C (Ok q) =
    (Δ : Scope) × (check_stmt t true (level ∷ scope_of s W.names.held) ≡ accepted Δ) × (drop q (lexemes s ts) ≡ rest) × (length rest ≤ length (stmt_lexemes t rest))
    × (V ≡ work W.names W.jumps (coded (C ++ count_code t (scope_of s W.names.held) v p (length C))))
CountDone s ts v p W V t rest C (Err f) = check_stmt t true (level ∷ scope_of s W.names.held) ≡ refused (number_of f.reason) f.place

-- whatever body of a `for` stands there is translated, with the turns around it
abbrev pub TranslatesCount : List ℕ → List Token → ℕ → (v p : ℕ) → (W V : Work) → Result ℕ Refusal → Type 0
TranslatesCount s ts at v p W V r = (t : Stmt) (h : CountAt s ts at p W t) → CountDone s ts v p W V t h.rest h.ready.code r

-- Statements by their forms: `Makes` says that the tree t, where it stands there, is translated.
abbrev pub Makes : List ℕ → List Token → ℕ → Bool → (W V : Work) → Stmt → Result ℕ Refusal → Type 0
Makes s ts at l W V t r = (h : StmtAt s ts at W t) → StmtDone s ts l W V t h.rest h.ready.code r

-- the same of a statement that has no `break` and no `continue`, in a loop or not
abbrev pub MakesPlain : List ℕ → List Token → ℕ → Held Name → Held Instruction → Held Name → Held Instruction → Stmt → Result ℕ Refusal → Type 0
MakesPlain s ts at N C M D t r = (J : Held Jump) (l : Bool) → Makes s ts at l (work N J C) (work M J D) t r

-- a definition
abbrev pub TranslatesDefinition : List ℕ → List Token → ℕ → Held Name → Held Instruction → Held Name → Held Instruction → Result ℕ Refusal → Type 0
TranslatesDefinition s ts at N C M D r = (t : Scalar) (q : ℕ × ℕ × ℕ) (x : Ident) (e : Expr) → MakesPlain s ts at N C M D (define t q x e) r

-- an assignment
abbrev pub TranslatesAssignment : List ℕ → List Token → ℕ → Held Name → Held Instruction → Held Instruction → Result ℕ Refusal → Type 0
TranslatesAssignment s ts at N C D r = (x : Ident) (p : ℕ) (e : Expr) (q : ℕ) → MakesPlain s ts at N C N D (assign x p e q) r

-- a modification by this operator
abbrev pub TranslatesModification : List ℕ → List Token → ℕ → Operator → Held Name → Held Instruction → Held Instruction → Result ℕ Refusal → Type 0
TranslatesModification s ts at o N C D r =
    (m : Modifier) (x : Ident) (p : ℕ) (e : Expr) (q : ℕ) → o ≡ operator_of m → MakesPlain s ts at N C N D (modify m x p e q) r

-- an expression statement
abbrev pub TranslatesEvaluation : List ℕ → List Token → ℕ → Held Name → Held Instruction → Held Instruction → Result ℕ Refusal → Type 0
TranslatesEvaluation s ts at N C D r = (e : Expr) (q : ℕ) → MakesPlain s ts at N C N D (evaluate e q) r

-- a `return`, with an expression or bare
abbrev pub TranslatesReturn : List ℕ → List Token → ℕ → Held Name → Held Instruction → Held Instruction → Result ℕ Refusal → Type 0
TranslatesReturn s ts at N C D r =
    ((p : ℕ) (e : Expr) (q : ℕ) → MakesPlain s ts at N C N D (return p e q) r) × ((p q : ℕ) → MakesPlain s ts at N C N D (return_bare p q) r)

-- a `break` or a `continue`, whatever names are in force
abbrev pub TranslatesJump : List Token → ℕ → Bool → Held Jump → Held Instruction → Held Jump → Held Instruction → Result ℕ Refusal → Type 0
TranslatesJump ts at l J C K D r =
    (s : List ℕ) (N : Held Name) (p q : ℕ)
    → Makes s ts at l (work N J C) (work N K D) (break p q) r × Makes s ts at l (work N J C) (work N K D) (continue p q) r

-- a block
abbrev pub TranslatesBlock : List ℕ → List Token → ℕ → Bool → (W V : Work) → Result ℕ Refusal → Type 0
TranslatesBlock s ts at l W V r = (q : ℕ × ℕ) (ss : Stmts) → Makes s ts at l W V (block q ss) r

-- an `if`, without an `else` or with one
abbrev pub TranslatesConditional : List ℕ → List Token → ℕ → Bool → (W V : Work) → Result ℕ Refusal → Type 0
TranslatesConditional s ts at l W V r =
    ((p : ℕ) (q : ℕ × ℕ) (e : Expr) (t : Stmt) → Makes s ts at l W V (if_then p q e t) r)
    × ((p : ℕ) (q : ℕ × ℕ) (e : Expr) (t : Stmt) (o : ℕ) (u : Stmt) → Makes s ts at l W V (if_else p q e t o u) r)

-- a `while`, in a loop or not
abbrev pub TranslatesWhile : List ℕ → List Token → ℕ → (W V : Work) → Result ℕ Refusal → Type 0
TranslatesWhile s ts at W V r = (l : Bool) (p : ℕ) (q : ℕ × ℕ) (e : Expr) (t : Stmt) → Makes s ts at l W V (while p q e t) r

-- a `do`, in a loop or not
abbrev pub TranslatesDo : List ℕ → List Token → ℕ → (W V : Work) → Result ℕ Refusal → Type 0
TranslatesDo s ts at W V r = (l : Bool) (p : ℕ) (t : Stmt) (q : ℕ × ℕ × ℕ × ℕ) (e : Expr) → Makes s ts at l W V (do_while p t q e) r

-- a `for`, in a loop or not
abbrev pub TranslatesFor : List ℕ → List Token → ℕ → (W V : Work) → Result ℕ Refusal → Type 0
TranslatesFor s ts at W V r =
    (l : Bool) (p : ℕ) (q : ℕ × ℕ × ℕ × ℕ × ℕ) (x : Ident) (a b : Expr) (t : Stmt) → Makes s ts at l W V (for_to p q x a b t) r

-- What was made of the start a and the stop b of a `for`: both are ints, the body stands at the place q, and their code; or
-- the `for` is refused.
abbrev pub BoundsDone : List ℕ → List Token → Scope → Held Instruction → Stmt → Expr → Expr → List Lexeme → List Instruction → Result ℕ Refusal → Type 0
BoundsDone s ts Γ D t a b rest C (Ok q) =
    (type_of a Γ ≡ accepted int) × (type_of b Γ ≡ accepted int) × (drop q (lexemes s ts) ≡ rest)
    × (D ≡ coded (C ++ (expr_code a Γ (length C) ++ expr_code b Γ (expr_end a Γ (length C)))))
BoundsDone s ts Γ D t a b rest C (Err f) = (l : Bool) → check_stmt t l Γ ≡ refused (number_of f.reason) f.place

-- the start and the stop of whatever `for` stands there are translated
abbrev pub TranslatesBounds : List ℕ → List Token → (at name : ℕ) → Held Name → Held Instruction → Held Instruction → Result ℕ Refusal → Type 0
TranslatesBounds s ts at name N C D r =
    (p : ℕ) (q : ℕ × ℕ × ℕ × ℕ × ℕ) (x : Ident) (a b : Expr) (t : Stmt) (J : Held Jump) (h : StmtAt s ts at (work N J C) (for_to p q x a b t)) → name ≡ at + 1 + 1 + 1
    → BoundsDone s ts (scope_of s N.held) D (for_to p q x a b t) a b (stmt_lexemes t h.rest) h.ready.code r
