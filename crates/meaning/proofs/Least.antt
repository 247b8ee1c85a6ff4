-- Every stack that the machine comes to can be finished, by a smallest tree for each symbol; and the depth of what begins
-- rises by no more than one at a time.
use Rattle.std.proofs.Common.{◌≡◌, ℕ, zero, suc, pred, ◌≤◌, Bool, true, false, cond, not, eqb, List, [], ◌∷◌, pos, refl, arith}
use mathlib.Core.Option.{Option, none, some}
use Rattle.std.proofs.lemmas.Bool.Decides.{nat_tests}
use Rattle.std.specs.Str.{bytes_eq}
use Rattle.lexer.specs.Lexeme.{Lexeme}
use Rattle.lexer.specs.declared.kind.Kind.TheVariants as Kinds
use Rattle.meaning.specs.declared.operator.Scalar.{Scalar}
use Rattle.meaning.specs.declared.operator.Scalar.TheVariants.{Bool as bool, Char as char, Int as int}
use Rattle.meaning.specs.declared.operator.Operator.{Operator}
use Rattle.meaning.specs.declared.operator.Operator.TheVariants.{Add, Subtract, Multiply, Divide, Remainder, Less, LessEqual, Greater, GreaterEqual, Equal, NotEqual, And, Or}
use Rattle.meaning.specs.Trees.{Ident, Constant, number, constant, variable, call, no_args, args, last, break, assign, return_bare, evaluate, return, nil, cons, void, takes, global, Script}
use Rattle.meaning.specs.Written.{sign, ident, literal, main_name, expr_lexemes, args_lexemes, exprs_lexemes, stmt_lexemes, stmts_lexemes, items_lexemes}
use Rattle.meaning.specs.Depths.{expr_depths, args_depths, exprs_depths, stmt_depths, stmts_depths, items_depths}
use Rattle.meaning.specs.Grammar.{ends_open}
use Rattle.meaning.proofs.Tokens.{Word, Void, Extern, Static, If, Else, While, Do, For, To, Break, Continue, Return, Assign, OpenParen, CloseParen, OpenBrace, CloseBrace, Comma, Semicolon, Tok, name, value, type, operator, bang, modifier, word, stray, word_kind, next}
use Rattle.meaning.proofs.Stack.{at, is_word, as_name, as_constant, as_type, as_result, as_int, loose, Assigning, plainly, modifying, neither, assigning, done, end, other, Sym, token, a_name, a_constant, a_result, an_int, parameter, operand, called, tail, expr, exprs, further, arguments, statement, named, returned, statements, orelse, script, declared, integer, mainly, Value, Values, Step, stop, on, onto, tails_to, gather, terminal, call_rule, called_step, minus_rule, bracket_rule, operand_rule, tail_rule, tail_step, tails_step, expr_rule, listed, exprs_rule, further_rule, evaluation, named_rule, returned_rule, word_rule, statement_rule, statements_rule, orelse_rule, global_row, prepend, parameter_rule, mainly_rule, integer_rule, typed_rule, declared_rule, static_rule, item_rule, script_rule, rule, empty, absorbs, choose, step}
use Rattle.meaning.proofs.Parsed.{lex_v, dep_v, before, before_d, FineV, EndsV, Parsed}
use Rattle.meaning.proofs.Builds.{never}

-- Smallest trees, and what they are written as.

abbrev zero' : Constant
zero' = number (pos 0) 0

abbrev nameless : Ident
nameless = record { bytes = []; place = 0 }

abbrev bare : Option ℕ → ℕ → ℕ → Script
bare s p q = record { items = []; static = s; marks = (p, q, 0, 0, 0); body = nil; close = 0 }

abbrev pub least : (A : Sym) → Value A
least (token w) = 0
least a_name = nameless
least a_constant = zero'
least a_result = (void, 0)
least an_int = 0
least parameter = takes int 0 nameless
least (operand d) = constant zero'
least (called d x) = call x (0, 0) no_args
least (tail n d) = done
least (expr d) = constant zero'
least (exprs d) = last (constant zero')
least (further d) = end
least (arguments d) = args (last (constant zero'))
least (statement d) = break 0 0
least (named d x) = assign x 0 (constant zero') 0
least (returned d p) = return_bare p 0
least (statements d) = nil
least (orelse d) = other 0 (break 0 0)
least script = bare none 0 0
least (declared s) = bare s 0 0
least (integer s p) = bare s p 0
least (mainly s p q) = bare s p q

-- [int] [main] ( ) { }
abbrev rest_of_main : List Lexeme → List Lexeme
rest_of_main r = sign Kinds.OpenParen 0 ∷ sign Kinds.CloseParen 0 ∷ sign Kinds.OpenBrace 0 ∷ sign Kinds.CloseBrace 0 ∷ r

abbrev main_lexeme : ℕ → Lexeme
main_lexeme q = ident (record { bytes = main_name; place = q })

abbrev pub least_by : Sym → List Lexeme → List Lexeme
least_by (token w) r = sign (word_kind w) 0 ∷ r
least_by a_name r = ident nameless ∷ r
least_by a_constant r = literal zero' ∷ r
least_by a_result r = sign Kinds.Void 0 ∷ r
least_by an_int r = sign Kinds.Int 0 ∷ r
least_by parameter r = sign Kinds.Int 0 ∷ ident nameless ∷ r
least_by (operand d) r = literal zero' ∷ r
least_by (called d x) r = sign Kinds.OpenParen 0 ∷ sign Kinds.CloseParen 0 ∷ r
least_by (tail n d) r = r
least_by (expr d) r = literal zero' ∷ r
least_by (exprs d) r = literal zero' ∷ r
least_by (further d) r = r
least_by (arguments d) r = literal zero' ∷ r
least_by (statement d) r = sign Kinds.Break 0 ∷ sign Kinds.Semicolon 0 ∷ r
least_by (named d x) r = sign Kinds.Assign 0 ∷ literal zero' ∷ sign Kinds.Semicolon 0 ∷ r
least_by (returned d p) r = sign Kinds.Semicolon 0 ∷ r
least_by (statements d) r = r
least_by (orelse d) r = sign Kinds.Else 0 ∷ sign Kinds.Break 0 ∷ sign Kinds.Semicolon 0 ∷ r
least_by script r = sign Kinds.Int 0 ∷ main_lexeme 0 ∷ rest_of_main r
least_by (declared s) r = sign Kinds.Int 0 ∷ main_lexeme 0 ∷ rest_of_main r
least_by (integer s p) r = main_lexeme 0 ∷ rest_of_main r
least_by (mainly s p q) r = rest_of_main r

abbrev pub least_by_depths : Sym → List ℕ → List ℕ
least_by_depths (token w) r = 0 ∷ r
least_by_depths a_name r = 0 ∷ r
least_by_depths a_constant r = 0 ∷ r
least_by_depths a_result r = 0 ∷ r
least_by_depths an_int r = 0 ∷ r
least_by_depths parameter r = 0 ∷ 0 ∷ r
least_by_depths (operand d) r = d ∷ r
least_by_depths (called d x) r = 0 ∷ 0 ∷ r
least_by_depths (tail n d) r = r
least_by_depths (expr d) r = d ∷ r
least_by_depths (exprs d) r = d ∷ r
least_by_depths (further d) r = r
least_by_depths (arguments d) r = d ∷ r
least_by_depths (statement d) r = d ∷ 0 ∷ r
least_by_depths (named d x) r = 0 ∷ d ∷ 0 ∷ r
least_by_depths (returned d p) r = 0 ∷ r
least_by_depths (statements d) r = r
least_by_depths (orelse d) r = 0 ∷ suc d ∷ 0 ∷ r
least_by_depths script r = 0 ∷ 0 ∷ 0 ∷ 0 ∷ 0 ∷ 0 ∷ r
least_by_depths (declared s) r = 0 ∷ 0 ∷ 0 ∷ 0 ∷ 0 ∷ 0 ∷ r
least_by_depths (integer s p) r = 0 ∷ 0 ∷ 0 ∷ 0 ∷ 0 ∷ r
least_by_depths (mainly s p q) r = 0 ∷ 0 ∷ 0 ∷ 0 ∷ r

abbrev pub least_of : List Sym → List Lexeme
least_of [] = []
least_of (A ∷ K) = least_by A (least_of K)

abbrev pub least_depths : List Sym → List ℕ
least_depths [] = []
least_depths (A ∷ K) = least_by_depths A (least_depths K)

abbrev pub least_values : (K : List Sym) → Values K
least_values [] = tt
least_values (A ∷ K) = (least A, least_values K)

-- What keeps a stack sound: an expression is followed by no operator, comma or argument, statements by `}`; and no depth is
-- above m + 1, or m where something one deeper may be wanted yet.

abbrev Quiet : List Lexeme → Type 0
Quiet r = (loose (next r) ≡ 7) × (is_word Comma (next r) ≡ false)

abbrev pub Fits : ℕ → Sym → List Lexeme → Type 0
Fits m (token w) r = Unit {0}
Fits m a_name r = Unit {0}
Fits m a_constant r = Unit {0}
Fits m a_result r = Unit {0}
Fits m an_int r = Unit {0}
Fits m parameter r = Unit {0}
Fits m (operand d) r = d ≤ suc m
Fits m (called d x) r = d ≤ m
Fits m (tail n d) r = (n ≤ 6) × Quiet r × (d ≤ suc m)
Fits m (expr d) r = Quiet r × (d ≤ suc m)
Fits m (exprs d) r = Quiet r × (d ≤ suc m)
Fits m (further d) r = Quiet r × (d ≤ suc m)
Fits m (arguments d) r = Quiet r × (d ≤ suc m)
Fits m (statement d) r = d ≤ suc m
Fits m (named d x) r = d ≤ m
Fits m (returned d p) r = d ≤ m
Fits m (statements d) r = (not (is_word CloseBrace (next r)) ≡ false) × (d ≤ suc m)
Fits m (orelse d) r = d ≤ m
Fits m script r = Unit {0}
Fits m (declared s) r = Unit {0}
Fits m (integer s p) r = Unit {0}
Fits m (mainly s p q) r = Unit {0}

abbrev pub Sane : ℕ → List Sym → Type 0
Sane m [] = Unit {0}
Sane m (A ∷ K) = Fits m A (least_of K) × Sane m K

fits_more : (A : Sym) (m : ℕ) (r : List Lexeme) → Fits m A r → Fits (suc m) A r
fits_more (token w) m r h = tt
fits_more a_name m r h = tt
fits_more a_constant m r h = tt
fits_more a_result m r h = tt
fits_more an_int m r h = tt
fits_more parameter m r h = tt
fits_more (operand d) m r h = omega arith
fits_more (called d x) m r h = omega arith
fits_more (tail n d) m r h = (h.0, h.1, omega (arith, h.2))
fits_more (expr d) m r h = (h.0, omega (arith, h.1))
fits_more (exprs d) m r h = (h.0, omega (arith, h.1))
fits_more (further d) m r h = (h.0, omega (arith, h.1))
fits_more (arguments d) m r h = (h.0, omega (arith, h.1))
fits_more (statement d) m r h = omega arith
fits_more (named d x) m r h = omega arith
fits_more (returned d p) m r h = omega arith
fits_more (statements d) m r h = (h.0, omega (arith, h.1))
fits_more (orelse d) m r h = omega arith
fits_more script m r h = tt
fits_more (declared s) m r h = tt
fits_more (integer s p) m r h = tt
fits_more (mainly s p q) m r h = tt

pub sane_more : (m : ℕ) (K : List Sym) → Sane m K → Sane (suc m) K
sane_more m [] h = tt
sane_more m (A ∷ K) h = (fits_more A m (least_of K) h.0, sane_more m K h.1)

-- A sound stack is finished by its smallest trees.

least_fine : (A : Sym) → FineV A (least A)
least_fine (token w) = tt
least_fine a_name = tt
least_fine a_constant = tt
least_fine a_result = tt
least_fine an_int = tt
least_fine parameter = tt
least_fine (operand d) = tt
least_fine (called d x) = tt
least_fine (tail n d) = tt
least_fine (expr d) = tt
least_fine (exprs d) = tt
least_fine (further d) = tt
least_fine (arguments d) = tt
least_fine (statement d) = tt
least_fine (named d x) = tt
least_fine (returned d p) = tt
least_fine (statements d) = tt
least_fine (orelse d) = tt
least_fine script = tt
least_fine (declared s) = (tt, refl)
least_fine (integer s p) = (tt, refl)
least_fine (mainly s p q) = (tt, refl)

least_ends : (A : Sym) (m : ℕ) (r : List Lexeme) → Fits m A r → EndsV A (least A) r
unfolding ends_open
least_ends (token w) m r h = tt
least_ends a_name m r h = tt
least_ends a_constant m r h = tt
least_ends a_result m r h = tt
least_ends an_int m r h = tt
least_ends parameter m r h = tt
least_ends (operand d) m r h = never
least_ends (called d x) m r h = never
least_ends (tail n d) m r h = let z = h.1.0 in let y = h.0 in grind (arith, nat_tests)
least_ends (expr d) m r h = (never, omega (arith, h.0.0))
least_ends (exprs d) m r h = ((never, omega (arith, h.0.0)), h.0.1)
least_ends (further d) m r h = h.0.1
least_ends (arguments d) m r h = ((never, omega (arith, h.0.0)), h.0.1)
least_ends (statement d) m r h = never
least_ends (named d x) m r h = never
least_ends (returned d p) m r h = never
least_ends (statements d) m r h = h.0
least_ends (orelse d) m r h = never
least_ends script m r h = tt
least_ends (declared s) m r h = tt
least_ends (integer s p) m r h = tt
least_ends (mainly s p q) m r h = tt

least-lexemes : (A : Sym) (r : List Lexeme) → before A (least_by A r) ≡ lex_v A (least A) r
unfolding expr_lexemes args_lexemes exprs_lexemes stmt_lexemes stmts_lexemes items_lexemes
least-lexemes (token w) r = refl
least-lexemes a_name r = refl
least-lexemes a_constant r = refl
least-lexemes a_result r = refl
least-lexemes an_int r = refl
least-lexemes parameter r = refl
least-lexemes (operand d) r = refl
least-lexemes (called d x) r = refl
least-lexemes (tail n d) r = refl
least-lexemes (expr d) r = refl
least-lexemes (exprs d) r = refl
least-lexemes (further d) r = refl
least-lexemes (arguments d) r = refl
least-lexemes (statement d) r = refl
least-lexemes (named d x) r = refl
least-lexemes (returned d p) r = refl
least-lexemes (statements d) r = refl
least-lexemes (orelse d) r = refl
least-lexemes script r = refl
least-lexemes (declared s) r = refl
least-lexemes (integer s p) r = refl
least-lexemes (mainly s p q) r = refl

least_depths_lem : (A : Sym) (r : List ℕ) → before_d A (least_by_depths A r) ≡ dep_v A (least A) r
unfolding expr_depths args_depths exprs_depths stmt_depths stmts_depths items_depths
least_depths_lem (token w) r = refl
least_depths_lem a_name r = refl
least_depths_lem a_constant r = refl
least_depths_lem a_result r = refl
least_depths_lem an_int r = refl
least_depths_lem parameter r = refl
least_depths_lem (operand d) r = refl
least_depths_lem (called d x) r = refl
least_depths_lem (tail n d) r = refl
least_depths_lem (expr d) r = refl
least_depths_lem (exprs d) r = refl
least_depths_lem (further d) r = refl
least_depths_lem (arguments d) r = refl
least_depths_lem (statement d) r = refl
least_depths_lem (named d x) r = refl
least_depths_lem (returned d p) r = refl
least_depths_lem (statements d) r = refl
least_depths_lem (orelse d) r = refl
least_depths_lem script r = refl
least_depths_lem (declared s) r = refl
least_depths_lem (integer s p) r = refl
least_depths_lem (mainly s p q) r = refl

pub finished : (m : ℕ) (K : List Sym) → Sane m K → Parsed K (least_values K) (least_of K) (least_depths K)
finished m [] h = (refl, refl)
finished m (A ∷ K) h =
    record { rest = least_of K; depths = least_depths K; fine = least_fine A; lexemes = least-lexemes A (least_of K); marks = least_depths_lem A (least_depths K); ends = least_ends A m (least_of K) h.0; after = finished m K h.1 }

-- Steps keep stacks sound.

abbrev pub Keeps : (m : ℕ) (K : List Sym) → Step K → Type 0
Keeps m K stop = Unit {0}
Keeps m K (on d L f) = Sane m K → (d ≤ suc m) × (d ≤ m → Sane m L)

keeps-onto : (m : ℕ) (K L : List Sym) (g : Values K → Values L) → (Sane m L → Sane m K) → (s : Step K) → Keeps m K s → Keeps m L (onto g s)
keeps-onto m K L g h stop k = tt
keeps-onto m K L g h (on d M f) k = λ z. k (h z)

keeps_cond : (m : ℕ) (K : List Sym) (b : Bool) (x y : Step K) → Keeps m K x → Keeps m K y → Keeps m K (cond b x y)
keeps_cond m K true x y h i = h
keeps_cond m K false x y h i = i

keeps-terminal : (m : ℕ) (A : Sym) (K : List Sym) (o : Option (Value A)) → Keeps m (A ∷ K) (terminal A K o)
keeps-terminal m A K none = tt
keeps-terminal m A K (some v) = λ z. (omega arith, λ _. z.1)

keeps-call : (m d : ℕ) (x : Ident) (K : List Sym) (o : Option ℕ) → Keeps m (called d x ∷ K) (call_rule d x K o)
keeps-call m d x K none = tt
keeps-call m d x K (some p) = λ z. (omega arith, λ _. (((refl, refl), omega (arith, z.0)), (tt, z.1)))

keeps-called : (m d : ℕ) (x : Ident) (t : Tok) (K : List Sym) (s : Step K) → Keeps m K s → Keeps m (called d x ∷ K) (called_step d x t K s)
keeps-called m d x t K s k = keeps_cond m (called d x ∷ K) (is_word OpenParen t) _ _ (keeps-call m d x K (at OpenParen t)) (keeps-onto m K (called d x ∷ K) (λ vs. (variable x, vs)) (λ z. z.1) s k)

keeps_minus : (m : ℕ) (o : Operator) (d p : ℕ) (K : List Sym) → Keeps m (operand d ∷ K) (minus_rule o d p K)
keeps_minus m Add d p K = tt
keeps_minus m Subtract d p K = λ z. (z.0, λ l. (omega arith, z.1))
keeps_minus m Multiply d p K = tt
keeps_minus m Divide d p K = tt
keeps_minus m Remainder d p K = tt
keeps_minus m Less d p K = tt
keeps_minus m LessEqual d p K = tt
keeps_minus m Greater d p K = tt
keeps_minus m GreaterEqual d p K = tt
keeps_minus m Equal d p K = tt
keeps_minus m NotEqual d p K = tt
keeps_minus m And d p K = tt
keeps_minus m Or d p K = tt

keeps_bracket : (m d : ℕ) (K : List Sym) (o : Option ℕ) → Keeps m (operand d ∷ K) (bracket_rule d K o)
keeps_bracket m d K none = tt
keeps_bracket m d K (some p) = λ z. (z.0, λ l. (((refl, refl), omega arith), (tt, z.1)))

keeps_operand : (m d : ℕ) (t : Tok) (K : List Sym) → Keeps m (operand d ∷ K) (operand_rule d t K)
keeps_operand m d (name x) K = λ z. (z.0, λ l. (l, z.1))
keeps_operand m d (value c) K = λ z. (z.0, λ l. z.1)
keeps_operand m d (type t p) K = tt
keeps_operand m d (operator o p) K = keeps_minus m o d p K
keeps_operand m d (bang p) K = λ z. (z.0, λ l. (omega arith, z.1))
keeps_operand m d (modifier n p) K = tt
keeps_operand m d (word w p) K = keeps_bracket m d K (at OpenParen (word w p))
keeps_operand m d stray K = tt

-- before further operands there is nothing
tails_least : (n d : ℕ) (K : List Sym) → least_of (tails_to n d K) ≡ least_of K
tails_least zero d K = refl
tails_least (suc n) d K = tails_least n d (tail (suc n) d ∷ K)

tails_sane : (m n d : ℕ) (K : List Sym) → n ≤ 6 → Quiet (least_of K) → d ≤ suc m → Sane m K → Sane m (tails_to n d K)
tails_sane m zero d K l q c h = h
tails_sane m (suc n) d K l q c h = tails_sane m n d (tail (suc n) d ∷ K) (omega arith) q c ((l, q, c), h)

keeps_tail : (m n d : ℕ) (t : Tok) (K : List Sym) → Keeps m (tail n d ∷ K) (tail_rule n d t K)
keeps_tail m n d (name x) K = tt
keeps_tail m n d (value c) K = tt
keeps_tail m n d (type t p) K = tt
keeps_tail m n d (operator o p) K = λ z. (omega arith, λ _. (z.0.2, tails_sane m (pred n) d (tail n d ∷ K) (omega (arith, z.0.0)) z.0.1 z.0.2 z))
keeps_tail m n d (bang p) K = tt
keeps_tail m n d (modifier q p) K = tt
keeps_tail m n d (word w p) K = tt
keeps_tail m n d stray K = tt

keeps-tail_step : (m n d : ℕ) (t : Tok) (K : List Sym) (s : Step K) → Keeps m K s → Keeps m (tail n d ∷ K) (tail_step n d t K s)
keeps-tail_step m n d t K s k = keeps_cond m (tail n d ∷ K) (eqb (loose t) n) _ _ (keeps_tail m n d t K) (keeps-onto m K (tail n d ∷ K) (λ vs. (done, vs)) (λ z. z.1) s k)

keeps_tails : (m n d : ℕ) (t : Tok) (K : List Sym) (s : Step K) → Keeps m K s → Keeps m (tails_to n d K) (tails_step n d t K s)
keeps_tails m zero d t K s k = k
keeps_tails m (suc n) d t K s k = keeps_tails m n d t (tail (suc n) d ∷ K) (tail_step (suc n) d t K s) (keeps-tail_step m (suc n) d t K s k)

keeps_expr : (m d : ℕ) (t : Tok) (K : List Sym) → Keeps m (expr d ∷ K) (expr_rule d t K)
keeps_expr m d t K =
    keeps-onto m (operand d ∷ tails_to 6 d K) (expr d ∷ K) (λ vs. gather 6 d K vs.0 vs.1) (λ z. (z.0.1, tails_sane m 6 d K (omega arith) z.0.0 z.0.1 z.1)) (operand_rule d t (tails_to 6 d K)) (keeps_operand m d t (tails_to 6 d K))

keeps_exprs : (m d : ℕ) (t : Tok) (K : List Sym) → Keeps m (exprs d ∷ K) (exprs_rule d t K)
keeps_exprs m d t K = keeps-onto m (expr d ∷ further d ∷ K) (exprs d ∷ K) (λ vs. (listed vs.0 vs.1.0, vs.1.1)) (λ z. (z.0, (z.0, z.1))) (expr_rule d t (further d ∷ K)) (keeps_expr m d t (further d ∷ K))

keeps_further : (m d : ℕ) (K : List Sym) (o : Option ℕ) → Keeps m (further d ∷ K) (further_rule d K o)
keeps_further m d K none = tt
keeps_further m d K (some p) = λ z. (omega arith, λ _. z)

-- Statements.

-- an expression and `;`
ended : (m d : ℕ) (K : List Sym) → d ≤ suc m → Sane m K → Sane m (expr d ∷ token Semicolon ∷ K)
ended m d K l h = (((refl, refl), l), (tt, h))

keeps-evaluation : (m d : ℕ) (t : Tok) (K : List Sym) → Keeps m (statement d ∷ K) (evaluation d t K)
keeps-evaluation m d t K = keeps-onto m (expr d ∷ token Semicolon ∷ K) (statement d ∷ K) (λ vs. (evaluate vs.0 vs.1.0, vs.1.1)) (λ z. ended m d K z.0 z.1) (expr_rule d t (token Semicolon ∷ K)) (keeps_expr m d t (token Semicolon ∷ K))

keeps_named : (m d : ℕ) (x : Ident) (t : Tok) (K : List Sym) (a : Assigning) → Keeps m (named d x ∷ K) (named_rule d x t K a)
keeps_named m d x t K (plainly p) = λ z. (omega arith, λ _. ended m d K (omega (arith, z.0)) z.1)
keeps_named m d x t K (modifying n p) = λ z. (omega arith, λ _. ended m d K (omega (arith, z.0)) z.1)
keeps_named m d x t K neither =
    keeps-onto m (called d x ∷ tails_to 6 d (token Semicolon ∷ K)) (named d x ∷ K) (λ vs. let g = gather 6 d (token Semicolon ∷ K) vs.0 vs.1 in (evaluate g.0 g.1.0, g.1.1))
    (λ z. (z.0, tails_sane m 6 d (token Semicolon ∷ K) (omega arith) (refl, refl) (omega (arith, z.0)) (tt, z.1)))
    _ (keeps-called m d x t (tails_to 6 d (token Semicolon ∷ K)) _ (keeps_tails m 6 d t (token Semicolon ∷ K) _ (keeps-terminal m (token Semicolon) K (at Semicolon t))))

keeps-returned : (m d p : ℕ) (t : Tok) (K : List Sym) (o : Option ℕ) → Keeps m (returned d p ∷ K) (returned_rule d p t K o)
keeps-returned m d p t K (some q) = λ z. (omega arith, λ _. z.1)
keeps-returned m d p t K none = keeps-onto m (expr d ∷ token Semicolon ∷ K) (returned d p ∷ K) (λ vs. (return p vs.0 vs.1.0, vs.1.1)) (λ z. ended m d K (omega (arith, z.0)) z.1) (expr_rule d t (token Semicolon ∷ K)) (keeps_expr m d t (token Semicolon ∷ K))

keeps_word : (m : ℕ) (w : Word) (d p : ℕ) (K : List Sym) (e : Step (statement d ∷ K)) → Keeps m (statement d ∷ K) e → Keeps m (statement d ∷ K) (word_rule w d p K e)
keeps_word m Void d p K e k = k
keeps_word m Extern d p K e k = k
keeps_word m Static d p K e k = k
keeps_word m If d p K e k = λ z. (z.0, λ l. (tt, (((refl, refl), z.0), (tt, (omega arith, (l, z.1))))))
keeps_word m Else d p K e k = k
keeps_word m While d p K e k = λ z. (z.0, λ l. (tt, (((refl, refl), z.0), (tt, (omega arith, z.1)))))
keeps_word m Do d p K e k = λ z. (z.0, λ l. (omega arith, (tt, (tt, (((refl, refl), z.0), (tt, (tt, z.1)))))))
keeps_word m For d p K e k = λ z. (z.0, λ l. (tt, (tt, (tt, (tt, (((refl, refl), z.0), (tt, (((refl, refl), z.0), (tt, (omega arith, z.1))))))))))
keeps_word m To d p K e k = k
keeps_word m Break d p K e k = λ z. (z.0, λ l. (tt, z.1))
keeps_word m Continue d p K e k = λ z. (z.0, λ l. (tt, z.1))
keeps_word m Return d p K e k = λ z. (z.0, λ l. (l, z.1))
keeps_word m Assign d p K e k = k
keeps_word m OpenParen d p K e k = k
keeps_word m CloseParen d p K e k = k
keeps_word m OpenBrace d p K e k = λ z. (z.0, λ l. ((refl, omega arith), (tt, z.1)))
keeps_word m CloseBrace d p K e k = k
keeps_word m Comma d p K e k = k
keeps_word m Semicolon d p K e k = k

keeps_statement : (m d : ℕ) (t : Tok) (K : List Sym) → Keeps m (statement d ∷ K) (statement_rule d t K)
keeps_statement m d (name x) K = λ z. (z.0, λ l. (l, z.1))
keeps_statement m d (value c) K = keeps-evaluation m d (value c) K
keeps_statement m d (type t p) K = λ z. (z.0, λ l. (tt, (tt, ended m d K z.0 z.1)))
keeps_statement m d (operator o p) K = keeps-evaluation m d (operator o p) K
keeps_statement m d (bang p) K = keeps-evaluation m d (bang p) K
keeps_statement m d (modifier n p) K = tt
keeps_statement m d (word w p) K = keeps_word m w d p K (evaluation d (word w p) K) (keeps-evaluation m d (word w p) K)
keeps_statement m d stray K = tt

keeps_statements : (m d : ℕ) (t : Tok) (K : List Sym) → Keeps m (statements d ∷ K) (statements_rule d t K)
keeps_statements m d t K = keeps-onto m (statement d ∷ statements d ∷ K) (statements d ∷ K) (λ vs. (cons vs.0 vs.1.0, vs.1.1)) (λ z. (z.0.1, z)) (statement_rule d t (statements d ∷ K)) (keeps_statement m d t (statements d ∷ K))

keeps_orelse : (m d : ℕ) (K : List Sym) (o : Option ℕ) → Keeps m (orelse d ∷ K) (orelse_rule d K o)
keeps_orelse m d K none = tt
keeps_orelse m d K (some p) = λ z. (omega arith, λ _. (omega (arith, z.0), z.1))

-- Scripts.

keeps_parameter : (m : ℕ) (K : List Sym) (o : Option (Scalar × ℕ)) → Keeps m (parameter ∷ K) (parameter_rule K o)
keeps_parameter m K none = tt
keeps_parameter m K (some v) = λ z. (omega arith, λ _. (tt, z.1))

row : (m : ℕ) (K : List Sym) → Sane m K → Sane m (global_row K)
row m K h = (tt, (tt, (tt, (tt, h))))

keeps_mainly : (m : ℕ) (s : Option ℕ) (p q : ℕ) (t : Tok) (K : List Sym) (o : Option ℕ) → Keeps m (mainly s p q ∷ K) (mainly_rule s p q t K o)
keeps_mainly m s p q t K (some o) = λ z. (omega arith, λ _. (tt, (tt, ((refl, omega arith), (tt, z.1)))))
keeps_mainly m s p q t K none = keeps-onto m (global_row K) (mainly s p q ∷ K) (λ vs. (prepend (global s (p, vs.0, vs.1.1.0) int (record { bytes = main_name; place = q }) vs.1.0) vs.1.1.1.0, vs.1.1.1.1)) (λ z. row m K z.1) _ (keeps-terminal m (token Assign) (a_constant ∷ token Semicolon ∷ script ∷ K) (at Assign t))

keeps_integer : (m : ℕ) (s : Option ℕ) (p : ℕ) (K : List Sym) (o : Option Ident) → Keeps m (integer s p ∷ K) (integer_rule s p K o)
keeps_integer m s p K none = tt
keeps_integer m s p K (some x) = keeps_cond m (integer s p ∷ K) (bytes_eq x.bytes main_name) _ _ (λ z. (omega arith, λ _. (tt, z.1))) (λ z. (omega arith, λ _. row m K z.1))

keeps_typed : (m : ℕ) (s : Option ℕ) (c : Scalar) (p : ℕ) (K : List Sym) → Keeps m (declared s ∷ K) (typed_rule s c p K)
keeps_typed m s bool p K = λ z. (omega arith, λ _. (tt, row m K z.1))
keeps_typed m s char p K = λ z. (omega arith, λ _. (tt, row m K z.1))
keeps_typed m s int p K = λ z. (omega arith, λ _. (tt, z.1))

keeps-declared : (m : ℕ) (s : Option ℕ) (K : List Sym) (o : Option (Scalar × ℕ)) → Keeps m (declared s ∷ K) (declared_rule s K o)
keeps-declared m s K none = tt
keeps-declared m s K (some v) = keeps_typed m s v.0 v.1 K

keeps_static : (m : ℕ) (K : List Sym) (o : Option ℕ) → Keeps m (script ∷ K) (static_rule K o)
keeps_static m K none = tt
keeps_static m K (some p) = λ z. (omega arith, λ _. (tt, z.1))

keeps_item : (m : ℕ) (t : Tok) (K : List Sym) (o : Option ℕ) → Keeps m (script ∷ K) (item_rule t K o)
keeps_item m t K (some p) = λ z. (omega arith, λ _. (tt, (tt, (tt, (tt, (tt, (tt, (tt, z.1))))))))
keeps_item m t K none = keeps_static m K (at Static t)

keeps_script : (m : ℕ) (t : Tok) (K : List Sym) → Keeps m (script ∷ K) (script_rule t K)
keeps_script m (name x) K = tt
keeps_script m (value c) K = tt
keeps_script m (type t p) K = keeps-onto m (declared none ∷ K) (script ∷ K) (λ vs. vs) (λ z. (tt, z.1)) _ (keeps-declared m none K (some (t, p)))
keeps_script m (operator o p) K = tt
keeps_script m (bang p) K = tt
keeps_script m (modifier n p) K = tt
keeps_script m (word w p) K = keeps_item m (word w p) K (at Extern (word w p))
keeps_script m stray K = tt

-- All of them.

keeps-rule : (m : ℕ) (A : Sym) (t : Tok) (K : List Sym) → Keeps m (A ∷ K) (rule A t K)
keeps-rule m (token w) t K = keeps-terminal m (token w) K (at w t)
keeps-rule m a_name t K = keeps-terminal m a_name K (as_name t)
keeps-rule m a_constant t K = keeps-terminal m a_constant K (as_constant t)
keeps-rule m a_result t K = keeps-terminal m a_result K (as_result t)
keeps-rule m an_int t K = keeps-terminal m an_int K (as_int t)
keeps-rule m parameter t K = keeps_parameter m K (as_type t)
keeps-rule m (operand d) t K = keeps_operand m d t K
keeps-rule m (called d x) t K = keeps-call m d x K (at OpenParen t)
keeps-rule m (tail n d) t K = keeps_tail m n d t K
keeps-rule m (expr d) t K = keeps_expr m d t K
keeps-rule m (exprs d) t K = keeps_exprs m d t K
keeps-rule m (further d) t K = keeps_further m d K (at Comma t)
keeps-rule m (arguments d) t K = keeps-onto m (exprs d ∷ K) (arguments d ∷ K) (λ vs. (args vs.0, vs.1)) (λ z. z) (exprs_rule d t K) (keeps_exprs m d t K)
keeps-rule m (statement d) t K = keeps_statement m d t K
keeps-rule m (named d x) t K = keeps_named m d x t K (assigning t)
keeps-rule m (returned d p) t K = keeps-returned m d p t K (at Semicolon t)
keeps-rule m (statements d) t K = keeps_statements m d t K
keeps-rule m (orelse d) t K = keeps_orelse m d K (at Else t)
keeps-rule m script t K = keeps_script m t K
keeps-rule m (declared s) t K = keeps-declared m s K (as_type t)
keeps-rule m (integer s p) t K = keeps_integer m s p K (as_name t)
keeps-rule m (mainly s p q) t K = keeps_mainly m s p q t K (at OpenParen t)

keeps-choose : (m : ℕ) (A : Sym) (t : Tok) (K : List Sym) (o : Option (Value A)) (s : Step K) → Keeps m K s → Keeps m (A ∷ K) (choose A t K o s)
keeps-choose m A t K none s k = keeps-rule m A t K
keeps-choose m A t K (some v) s k = keeps_cond m (A ∷ K) (absorbs A t) _ _ (keeps-rule m A t K) (keeps-onto m K (A ∷ K) (λ vs. (v, vs)) (λ z. z.1) s k)

pub keeps : (m : ℕ) (K : List Sym) (t : Tok) → Keeps m K (step K t)
keeps m [] t = tt
keeps m (A ∷ K) t = keeps-choose m A t K (empty A) (step K t) (keeps m K t)
