-- A condition in brackets and the body that it guards, of `if` and of `while`.
use Rattle.std.proofs.Common.{◌≡◌, ℕ, ◌+◌, ◌<◌, ◌≤◌, List, [], ◌∷◌, ◌++◌, length, drop, pos, Ok, ap, ◌∙◌, arith, length-append}
use Rattle.stacks.specs.Held.{Held}
use Rattle.lexer.specs.Lexeme.{Lexeme}
use Rattle.lexer.specs.Reading.{lexemes}
use Rattle.lexer.specs.declared.kind.Kind.{Kind}
use Rattle.lexer.specs.declared.kind.Kind.TheVariants as K
use Rattle.lexer.specs.declared.kind.Token.{Token}
use Rattle.machine.specs.declared.instruction.Instruction.{Instruction}
use Rattle.meaning.specs.Trees.{Expr, Stmt}
use Rattle.meaning.specs.Written.{sign, expr_lexemes, stmt_lexemes}
use Rattle.meaning.specs.Grammar.{Grouped, Proper}
use Rattle.meaning.specs.Scopes.{level, cells}
use Rattle.meaning.specs.Check.{Scope}
use Rattle.meaning.proofs.Parsed.{NoElse}
use Rattle.layout.proofs.Compiled.{ins, expr_end, expr_code, stmt_end}
use Rattle.layout.proofs.Ends.{stmt_grows}
use Rattle.translator.specs.Translation.{code_limit}
use Rattle.translator.specs.Code.{Placed, coded, Emits}
use Rattle.translator.specs.Names.{scope_of}
use Rattle.translator.specs.Expressions.{AllPlaced}
use Rattle.translator.specs.Statements.{work, BodyAt, ConditionAt, TranslatesCondition}
use Rattle.translator.specs.declared.name.Name.{Name}
use Rattle.translator.specs.declared.pending.Jump.{Jump}
use Rattle.translator.proofs.Along.{placed_at}
use Rattle.translator.proofs.Emitting.{code-length}
use Rattle.translator.proofs.Lexemes.{next_is}

-- They stand there, with the code in front of them.
pub record GuardAt (s : List ℕ) (ts : List Token) (at : ℕ) (N : Held Name) (J : Held Jump) (B : Held Instruction) (p : ℕ) (e : Expr) (t : Stmt) : Type 0 where
  pub word : Kind
  pub round : ℕ × ℕ
  pub rest : List Lexeme
  pub code : List Instruction
  pub placed : AllPlaced (lexemes s ts)
  pub few : cells (scope_of s N.held) ≤ 64
  pub grouped : Grouped e 6
  pub proper : Proper t
  pub ends : NoElse t rest
  pub stands : drop at (lexemes s ts) ≡ sign word p ∷ sign K.OpenParen round.0 ∷ expr_lexemes e (sign K.CloseParen round.1 ∷ stmt_lexemes t rest)
  pub begun : B ≡ coded code
  pub room : stmt_end t (level ∷ scope_of s N.held) (expr_end e (scope_of s N.held) (length code) + 1) ≤ code_limit
  pub entries : length N.held + length (stmt_lexemes t rest) < N.most
  pub waiting : length J.held + length (stmt_lexemes t rest) ≤ J.most

module _ (s : List ℕ) (ts : List Token) (at p : ℕ) (N : Held Name) (J : Held Jump) (B : Held Instruction) (e : Expr) (t : Stmt) (h : GuardAt s ts at N J B p e t) where
  abbrev in_force : Scope
  in_force = scope_of s N.held

  -- the code up to the jump over the body
  abbrev pub tested : List Instruction
  tested = h.code ++ expr_code e in_force (length h.code)

  pub tested_length : length (tested ++ (ins 15 (pos 0) p ∷ [])) ≡ expr_end e in_force (length h.code) + 1
  tested_length = length-append tested (ins 15 (pos 0) p ∷ []) ∙ ap (λ (n : ℕ). n + 1) (code-length h.code e in_force)

  unfoldable pub guard_condition : ConditionAt s ts (at + 1) in_force B e
  guard_condition =
      let r = h.room in
      let g = stmt_grows t (level ∷ in_force) (expr_end e in_force (length h.code) + 1) in
      record {
        opened = h.round.0;
        closed = h.round.1;
        rest = stmt_lexemes t h.rest;
        code = h.code;
        placed = h.placed;
        few = h.few;
        grouped = h.grouped;
        stands = next_is (lexemes s ts) at _ _ h.stands;
        begun = h.begun;
        room = omega arith;
      }

  pub guard_placed : Placed p
  guard_placed = placed_at (lexemes s ts) at _ _ h.placed h.stands

  module _ (inside : ℕ) (C D : Held Instruction) (c : TranslatesCondition s ts (at + 1) p N B C (Ok inside)) (f : Emits C 15 0 p D) where
    unfoldable pub guard_body : BodyAt s ts inside (work N J D) t
    unfolding guard_condition
    guard_body =
        let d = c e guard_condition in
        let r = h.room in
        let g = stmt_grows t (level ∷ in_force) (expr_end e in_force (length h.code) + 1) in
        let n = code-length h.code e in_force in
        let en = h.entries in
        record {
          rest = h.rest;
          proper = h.proper;
          ends = h.ends;
          spare = h.entries;
          ready = record {
            code = tested ++ (ins 15 (pos 0) p ∷ []);
            placed = h.placed;
            few = h.few;
            stands = d.1;
            begun = f tested d.2 (omega arith) (omega arith) guard_placed;
            room = rw tested_length h.room;
            entries = omega arith;
            waiting = h.waiting;
          };
        }
