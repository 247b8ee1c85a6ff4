-- What a part of the parser has read, in terms of the machine that reads scripts.
use Rattle.std.specs.Prelude.{◌≡◌, ℕ, zero, suc, ◌+◌, ◌-◌, ◌<◌, ◌≤◌, List, [], ◌∷◌, length, drop, cond, Some, None, Option, Ok, Err, Result, IfOk, nat_lt}
use Rattle.lexer.specs.Lexeme.{Lexeme}
use Rattle.lexer.specs.Reading.{lexemes}
use Rattle.lexer.specs.declared.kind.Kind.{Kind}
use Rattle.lexer.specs.declared.kind.Kind.TheVariants as K
use Rattle.meaning.proofs.Tokens.{OpenBrace, OpenParen, CloseParen, CloseBrace, Assign, Semicolon, To, While, word_kind}
use Rattle.meaning.proofs.Stack.{Sym, token, a_name, a_constant, a_result, an_int, parameter, operand, called, tail, expr, exprs, further, arguments, statement, named, returned, statements, orelse, script, declared, integer, mainly, tails_to}
use Rattle.meaning.proofs.Judge.{Outcome, accepted, refused, judge}
use Rattle.lookahead.specs.Seen.{past_main}
use Rattle.parser.specs.Verdict.{end_place}
use Rattle.parser.specs.declared.cursor.Cursor.{Cursor}
use Rattle.parser.specs.declared.fault.Fault.{Fault}
use Rattle.parser.specs.declared.fault.Fault.TheVariants.{Unexpected, TooDeep}

-- a fault as an outcome of the machine
abbrev pub faulted : Fault → Outcome
faulted (Unexpected k) = refused 9 k
faulted (TooDeep k) = refused 10 k

-- the place after the next token
abbrev pub past : Cursor → Cursor
past c = record c { at = c.at + 1 }

-- how many tokens are left at a place
abbrev pub left : Cursor → ℕ
left c = length c.text.now.tokens.now - c.at

-- the verdict of a machine with the stack K on the tokens left at a place
abbrev pub ahead : List ℕ → Cursor → List Sym → Outcome
ahead s c K = judge K c.at (drop c.at (lexemes s c.text.now.tokens.now))

-- the verdict, where what stands before K was read as the answer says
abbrev pub resumed : List ℕ → List Sym → Result Cursor Fault → Outcome
resumed s K (Ok q) = ahead s q K
resumed s K (Err f) = faulted f

-- The answer r says where the symbols that F puts before a stack end, or the first fault in them.
abbrev pub Parses : (List Sym → List Sym) → Cursor → Result Cursor Fault → Type 0
Parses F c r = (s : List ℕ) (K : List Sym) → ahead s c (F K) ≡ resumed s K r

-- The answer r, if it is a place, is one further on within the same text.
abbrev pub Onward : Cursor → Result Cursor Fault → Type 0
Onward c r = IfOk r (λ q. (q.text ≡ c.text) × (left q < left c) × (q.at ≤ length q.text.now.tokens.now))

-- What F puts before a stack is read, from the place c to the answer r.
pub record Reads (F : List Sym → List Sym) (c : Cursor) (r : Result Cursor Fault) : Type 0 where
  pub onward : Onward c r
  pub same : Parses F c r

-- what begins at a token, if it may, and else the fault: nothing begins there, or it would lie too deep
abbrev pub admission : {T : Type 0} → Option T → ℕ → ℕ → Result T Fault
admission None at d = Err (Unexpected at)
admission (Some x) at d = cond (nat_lt 32 d) (Err (TooDeep at)) (Ok x)

-- A, read by itself
abbrev pub one : Sym → List Sym → List Sym
one A K = A ∷ K

-- the symbols for which a token of one kind is wanted
abbrev pub Wants : Sym → Kind → Type 0
Wants (token w) k = word_kind w ≡ k
Wants a_name k = K.Name ≡ k
Wants a_constant k = ⊥
Wants a_result k = ⊥
Wants an_int k = K.Int ≡ k
Wants parameter k = ⊥
Wants (operand d) k = ⊥
Wants (called d x) k = ⊥
Wants (tail n d) k = ⊥
Wants (expr d) k = ⊥
Wants (exprs d) k = ⊥
Wants (further d) k = ⊥
Wants (arguments d) k = ⊥
Wants (statement d) k = ⊥
Wants (named d x) k = ⊥
Wants (returned d p) k = ⊥
Wants (statements d) k = ⊥
Wants (orelse d) k = ⊥
Wants script k = ⊥
Wants (declared s) k = ⊥
Wants (integer s p) k = ⊥
Wants (mainly s p q) k = ⊥

-- an operand at depth d
abbrev pub an_operand : ℕ → List Sym → List Sym
an_operand d K = operand d ∷ K

-- an expression at depth d
abbrev pub an_expression : ℕ → List Sym → List Sym
an_expression d K = expr d ∷ K

-- operands joined by operators that bind no more loosely than n
abbrev pub operands : ℕ → ℕ → List Sym → List Sym
operands n d K = operand d ∷ tails_to n d K

-- arguments and `)`
abbrev pub the_arguments : ℕ → List Sym → List Sym
the_arguments d K = arguments d ∷ token CloseParen ∷ K

-- Each of these, one deeper than an operand at depth d: under a prefix operator, in brackets, as arguments.

-- what stands under a prefix operator
abbrev pub prefixed_by : ℕ → List Sym → List Sym
prefixed_by d K = operand (d + 1) ∷ K

-- an expression in brackets, after `(`
abbrev pub in_brackets : ℕ → List Sym → List Sym
in_brackets d K = expr (d + 1) ∷ token CloseParen ∷ K

-- what follows the `(` of a call
abbrev pub called_with : ℕ → List Sym → List Sym
called_with d K = the_arguments (d + 1) K

-- Statements; depths in a statement at depth d.

-- a statement at depth d
abbrev pub a_statement : ℕ → List Sym → List Sym
a_statement d K = statement d ∷ K

-- an expression and `;`
abbrev pub terminated : ℕ → List Sym → List Sym
terminated d K = expr d ∷ token Semicolon ∷ K

-- ( e )
abbrev pub a_condition : ℕ → List Sym → List Sym
a_condition d K = token OpenParen ∷ expr d ∷ token CloseParen ∷ K

-- statements and `}`
abbrev pub a_block : ℕ → List Sym → List Sym
a_block d K = statements d ∷ token CloseBrace ∷ K

-- the statements of a block
abbrev pub in_braces : ℕ → List Sym → List Sym
in_braces d K = a_block (d + 1) K

-- NAME = e ;
abbrev pub a_definition : ℕ → List Sym → List Sym
a_definition d K = a_name ∷ token Assign ∷ terminated d K

-- ( e ) s, perhaps with `else`
abbrev pub a_branch : ℕ → List Sym → List Sym
a_branch d K = a_condition d (statement (d + 1) ∷ orelse d ∷ K)

-- ( e ) s
abbrev pub a_repetition : ℕ → List Sym → List Sym
a_repetition d K = a_condition d (statement (d + 1) ∷ K)

-- s while ( e ) ;
abbrev pub a_round : ℕ → List Sym → List Sym
a_round d K = statement (d + 1) ∷ token While ∷ a_condition d (token Semicolon ∷ K)

-- ( int NAME = e to f ) s
abbrev pub a_count : ℕ → List Sym → List Sym
a_count d K = token OpenParen ∷ an_int ∷ a_name ∷ token Assign ∷ expr d ∷ token To ∷ expr d ∷ token CloseParen ∷ statement (d + 1) ∷ K

-- Scripts.

-- = constant ;
abbrev pub an_initializer : List Sym → List Sym
an_initializer K = token Assign ∷ a_constant ∷ token Semicolon ∷ K

-- a parameter or none, and `)`
abbrev pub parameters : List Sym → List Sym
parameters K = parameter ∷ token CloseParen ∷ K

-- an extern after `extern`
abbrev pub an_extern : List Sym → List Sym
an_extern K = a_result ∷ a_name ∷ token OpenParen ∷ parameters (token Semicolon ∷ K)

-- ) { statements }
abbrev pub main_rest : List Sym → List Sym
main_rest K = token CloseParen ∷ token OpenBrace ∷ a_block 1 K

-- one item is read, where main does not begin
pub record ReadsItem (c : Cursor) (r : Result Cursor Fault) : Type 0 where
  pub onward : Onward c r
  pub same : (s : List ℕ) (K : List Sym) → past_main s c.text.now.tokens.now c.at ≡ None → ahead s c (script ∷ K) ≡ resumed s (script ∷ K) r

-- all is read, of the source of this text
pub record ReadsScript (c : Cursor) (r : Result Cursor Fault) : Type 0 where
  pub onward : Onward c r
  pub same : (K : List Sym) → ahead c.text.now.source.now c (script ∷ K) ≡ resumed c.text.now.source.now K r

-- the verdict on all the tokens
abbrev pub outcome_of : Result (Unit {0}) Fault → Outcome
outcome_of (Ok u) = accepted
outcome_of (Err f) = faulted f

-- a whole script
abbrev pub a_script : List Sym
a_script = script ∷ []

-- the place of token k, or of the source's end where there is none
abbrev pub place_by : List Lexeme → ℕ → ℕ → ℕ
place_by [] n k = end_place n
place_by (l ∷ ls) n zero = l.place
place_by (l ∷ ls) n (suc k) = place_by ls n k

-- the number of a fault
abbrev pub fault_number : Fault → ℕ
fault_number (Unexpected k) = 9
fault_number (TooDeep k) = 10

-- the token of a fault
abbrev pub fault_at : Fault → ℕ
fault_at (Unexpected k) = k
fault_at (TooDeep k) = k
