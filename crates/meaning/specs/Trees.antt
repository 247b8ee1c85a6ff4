-- Scripts as trees. A node holds the place of each of its tokens: the place that a fault or an ending names stands
-- alone, and the places of brackets, separators and the like stand together in a tuple, in the order of the tokens.
use Rattle.std.specs.Prelude.{ℕ, Bool, List, ℤ}
use Rattle.std.proofs.Math.Option.{Option}
use Rattle.meaning.specs.declared.operator.Scalar.{Scalar}
use Rattle.meaning.specs.declared.operator.Operator.{Operator}

-- a name as it is written: its bytes, and the place of the first
pub record Ident : Type 0 where
  pub bytes : List ℕ
  pub place : ℕ

-- a constant, with its place
pub data Constant : Type 0 where
  number : (value : ℤ) (place : ℕ) → Constant
  character : (value : ℤ) (place : ℕ) → Constant
  truth : (value : Bool) (place : ℕ) → Constant

-- the operators that take one operand: `-` and `!`
pub data Unary : Type 0 where
  negate : Unary
  invert : Unary

mutual
  -- an expression
  pub data Expr : Type 0 where
    constant : Constant → Expr
    variable : Ident → Expr
    -- NAME ( arguments )
    call : Ident → (round : ℕ × ℕ) → Args → Expr
    -- ( e )
    bracket : (round : ℕ × ℕ) → Expr → Expr
    unary : Unary → (place : ℕ) → Expr → Expr
    binary : Operator → (place : ℕ) → Expr → Expr → Expr

  -- the arguments of a call
  pub data Args : Type 0 where
    no_args : Args
    args : Exprs → Args

  -- one expression or more, with commas between them
  pub data Exprs : Type 0 where
    last : Expr → Exprs
    more : Expr → (comma : ℕ) → Exprs → Exprs

-- the operators that modify a variable: `+=` `-=` `*=` `/=` `%=` `&&=` `||=`
pub data Modifier : Type 0 where
  plus minus times over modulo both either : Modifier

mutual
  -- a statement
  pub data Stmt : Type 0 where
    -- { statements }
    block : (braces : ℕ × ℕ) → Stmts → Stmt
    -- TYPE NAME = e ;
    define : Scalar → (marks : ℕ × ℕ × ℕ) → Ident → Expr → Stmt
    -- NAME = e ;
    assign : Ident → (place : ℕ) → Expr → (semicolon : ℕ) → Stmt
    -- NAME op= e ;
    modify : Modifier → Ident → (place : ℕ) → Expr → (semicolon : ℕ) → Stmt
    -- e ;
    evaluate : Expr → (semicolon : ℕ) → Stmt
    -- if ( e ) s
    if_then : (place : ℕ) (round : ℕ × ℕ) → Expr → Stmt → Stmt
    -- if ( e ) s else t
    if_else : (place : ℕ) (round : ℕ × ℕ) → Expr → Stmt → (else : ℕ) → Stmt → Stmt
    -- while ( e ) s
    while : (place : ℕ) (round : ℕ × ℕ) → Expr → Stmt → Stmt
    -- do s while ( e ) ;
    do_while : (place : ℕ) → Stmt → (marks : ℕ × ℕ × ℕ × ℕ) → Expr → Stmt
    -- for ( int NAME = e to f ) s
    for_to : (place : ℕ) (marks : ℕ × ℕ × ℕ × ℕ × ℕ) → Ident → Expr → Expr → Stmt → Stmt
    break : (place semicolon : ℕ) → Stmt
    continue : (place semicolon : ℕ) → Stmt
    -- return e ;
    return : (place : ℕ) → Expr → (semicolon : ℕ) → Stmt
    -- return ;
    return_bare : (place semicolon : ℕ) → Stmt

  -- statements one after the other
  pub data Stmts : Type 0 where
    nil : Stmts
    cons : Stmt → Stmts → Stmts

-- what a function gives: nothing, or a value of a type
pub data Return : Type 0 where
  void : Return
  gives : Scalar → Return

-- what an extern takes: nothing, or TYPE NAME
pub data Parameter : Type 0 where
  nothing : Parameter
  takes : Scalar → (place : ℕ) → Ident → Parameter

-- what stands before main
pub data Item : Type 0 where
  -- extern RETURN NAME ( parameter ) ;
  extern : (marks : ℕ × ℕ × ℕ × ℕ × ℕ) → Return → Ident → Parameter → Item
  -- [static] TYPE NAME = constant ;
  global : (static : Option ℕ) (marks : ℕ × ℕ × ℕ) → Scalar → Ident → Constant → Item

-- a script: externs and globals, then [static] int main ( ) { statements }
pub record Script : Type 0 where
  pub items : List Item
  pub static : Option ℕ
  -- the places of `int`, `main`, `(`, `)`, `{`
  pub marks : ℕ × ℕ × ℕ × ℕ × ℕ
  pub body : Stmts
  -- the place of main's closing brace
  pub close : ℕ
