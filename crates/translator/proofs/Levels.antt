-- Levels of names that are opened and left.
use Rattle.std.proofs.Common.{◌≡◌, ℕ, ◌+◌, ◌<◌, ◌≤◌, Bool, List, [], ◌∷◌, ◌++◌, length, take, drop, Ok, Err, sym, refl, ap, ◌∙◌, arith, length-append, take-take}
use lib.Seq.{take-length, take-append_seam}
use Rattle.refusal.specs.declared.reason.Refusal.{Refusal}
use Rattle.stacks.specs.Held.{Held, cut}
use Rattle.lexer.specs.Lexeme.{Lexeme}
use Rattle.lexer.specs.Reading.{lexemes}
use Rattle.lexer.specs.declared.kind.Kind.TheVariants as K
use Rattle.lexer.specs.declared.kind.Token.{Token}
use Rattle.machine.specs.declared.instruction.Instruction.{Instruction}
use Rattle.meaning.specs.declared.operator.Scalar.{Scalar}
use Rattle.meaning.specs.Trees.{Stmt, block, Stmts}
use Rattle.meaning.specs.Written.{sign, stmt_lexemes, stmts_lexemes}
use Rattle.meaning.specs.Scopes.{level}
use Rattle.meaning.specs.Scopes as Scopes
use Rattle.meaning.specs.Check.{Scope, check_stmt, check_stmts}
use Rattle.layout.proofs.Compiled.{stmt_end, stmt_code, stmts_code}
use Rattle.translator.specs.Code.{coded}
use Rattle.translator.specs.Names.{scope_of, Enters}
use Rattle.translator.specs.Statements.{Grows, work, Worked, StmtAt, StmtsAt, TranslatesStmt, TranslatesStmts, BodyAt, TranslatesBody, TranslatesBlock}
use Rattle.translator.specs.declared.name.Name.{Name}
use Rattle.translator.specs.declared.pending.Jump.{Jump}
use Rattle.translator.proofs.Checked.{then_stops, then-goes, level_cells}
use Rattle.translator.proofs.Growing.{grown_as}
use Rattle.translator.proofs.Lexemes.{next_is}
use Rattle.translator.proofs.Records.{stacked_more}

-- one more record
pub record Entered (s : List ℕ) (N M : Held Name) (e : Scopes.Entry Scalar) : Type 0 where
  pub name : Name
  pub held : M.held ≡ N.held ++ (name ∷ [])
  pub most : M.most ≡ N.most
  pub scope : scope_of s M.held ≡ e ∷ scope_of s N.held
  pub count : length M.held ≡ length N.held + 1

pub entered : (s : List ℕ) (N M : Held Name) (e : Scopes.Entry Scalar) → Enters s N e M → length N.held < N.most → Entered s N M e
entered s N M e f r =
    let y = f r in
    let h : M.held ≡ N.held ++ (y.0 ∷ []) = ap (λ (H : Held Name). H.held) y.1 in
    record {
      name = y.0;
      held = h;
      most = ap (λ (H : Held Name). H.most) y.1;
      scope = ap (scope_of s) h ∙ stacked_more s N.held y.0 [] ∙ ap (λ (w : Scopes.Entry Scalar). w ∷ scope_of s N.held) y.2;
      count = ap length h ∙ length-append N.held (y.0 ∷ []);
    }

-- the records from before, once the others are cut off
pub restored : (s : List ℕ) (N M P : Held Name) (e : Scopes.Entry Scalar) (m : ℕ) → Entered s N M e → take (length M.held) P.held ≡ M.held → P.most ≡ M.most → m ≡ length N.held → cut m P ≡ N
restored s N M P e m y k o l =
    let n = y.count in
    let h : take m P.held ≡ N.held =
    sym (take-take m (length M.held) P.held (omega arith)) ∙ ap (take m) (k ∙ y.held) ∙ rw l (take-append_seam N.held (y.name ∷ [])) in
    let q : P.most ≡ N.most = o ∙ y.most in
    rw (h, q) refl

-- The stacks after the whole of a statement, by those after the last part of it: the names are back, the code is E.
pub worked_whole : (s : List ℕ) (ts : List Token) (q r : ℕ) (N Q A P : Held Name) (J K : Held Jump) (B D Y Z : Held Instruction) (ls rest ms left : List Lexeme) (C X E : List Instruction) (F G : ℕ → ℕ → List Instruction)
    (w : Worked s ts q (work A J B) (work P K D) ls rest C F) → Q ≡ N → drop r (lexemes s ts) ≡ left → length ls + length left ≤ length ms + length rest → Z ≡ coded E → Grows X w.new E G →
    Worked s ts r (work N J Y) (work Q K Z) ms left X G
worked_whole s ts q r N Q A P J K B D Y Z ls rest ms left C X E F G w e n l c g =
    let v = w.waiting in
    rw e (record { next = n; kept = take-length N.held; names = refl; entries = omega arith; new = w.new; jumps = w.jumps; waiting = omega arith; code = E; ended = c; grows = g })

-- A body.
module _ (s : List ℕ) (ts : List Token) (at : ℕ) (l : Bool) (N M P Q : Held Name) (J L : Held Jump) (C D : Held Instruction) (f : Enters s N level M) where
  body_at : (t : Stmt) → BodyAt s ts at (work N J C) t → StmtAt s ts at (work M J C) t
  body_at t h =
      let sp = h.spare in
      let y = entered s N M level f (omega arith) in
      let c = y.count in
      let m = y.most in
      let few = h.ready.few in
      let lc = level_cells (scope_of s N.held) in
      record {
        rest = h.rest;
        proper = h.proper;
        ends = h.ends;
        ready = record {
          code = h.ready.code;
          placed = h.ready.placed;
          few = rw y.scope (omega arith);
          stands = h.ready.stands;
          begun = h.ready.begun;
          room = rw y.scope h.ready.room;
          entries = omega arith;
          waiting = h.ready.waiting;
        };
      }

  pub body_fails : (g : Refusal) → TranslatesStmt s ts at l (work M J C) (work P L D) (Err g) → TranslatesBody s ts at l (work N J C) (work P L D) (Err g)
  unfolding body_at
  body_fails g i t h =
      let sp = h.spare in
      let y = entered s N M level f (omega arith) in rw y.scope at (i t (body_at t h))

  pub body_done : (mark q : ℕ) → TranslatesStmt s ts at l (work M J C) (work P L D) (Ok q) → mark ≡ length N.held → Q ≡ cut mark P → TranslatesBody s ts at l (work N J C) (work Q L D) (Ok q)
  unfolding body_at
  body_done mark q i e c t h =
      let sp = h.spare in
      let y = entered s N M level f (omega arith) in
      let d = i t (body_at t h) in
      let w = d.1 in
      let o = h.ready.code in
      let Δ = level ∷ scope_of s N.held in
      let back : Q ≡ N = c ∙ restored s N M P level mark y w.kept w.names e in
      let g : Grows o w.new w.code (λ k b. stmt_code t Δ (length o) k b) =
      grown_as o w.new w.code _ (λ k b. stmt_code t Δ (length o) k b) w.grows (λ k b. ap (λ (Γ : Scope). stmt_code t Γ (length o) k b) y.scope) in (
        scope_of s P.held,
        rw y.scope at d.0,
        back,
        worked_whole s ts q q N Q M P J L C D C D _ h.rest (stmt_lexemes t h.rest) h.rest o o w.code _ (λ k b. stmt_code t Δ (length o) k b) w back w.next (omega arith) w.ended g,
      )

-- A block.
module _ (s : List ℕ) (ts : List Token) (at : ℕ) (l : Bool) (N M P Q : Held Name) (J L : Held Jump) (C D : Held Instruction) (f : Enters s N level M) where
  block_at : (q : ℕ × ℕ) (ss : Stmts) → StmtAt s ts at (work N J C) (block q ss) → StmtsAt s ts (at + 1) (work M J C) ss
  unfolding stmt_lexemes stmt_end
  block_at q ss h =
      let ls = stmts_lexemes ss (sign K.CloseBrace q.1 ∷ h.rest) in
      let en : length N.held + length (sign K.OpenBrace q.0 ∷ ls) ≤ N.most = h.ready.entries in
      let wa : length J.held + length (sign K.OpenBrace q.0 ∷ ls) ≤ J.most = h.ready.waiting in
      let y = entered s N M level f (omega arith) in
      let c = y.count in
      let m = y.most in
      let few = h.ready.few in
      let lc = level_cells (scope_of s N.held) in
      record {
        close = q.1;
        rest = h.rest;
        proper = h.proper;
        ready = record {
          code = h.ready.code;
          placed = h.ready.placed;
          few = rw y.scope (omega arith);
          stands = next_is (lexemes s ts) at _ _ h.ready.stands;
          begun = h.ready.begun;
          room = rw y.scope h.ready.room;
          entries = omega arith;
          waiting = omega arith;
        };
      }

  level_open : (q : ℕ × ℕ) (ss : Stmts) → StmtAt s ts at (work N J C) (block q ss) → Entered s N M level
  unfolding stmt_lexemes
  level_open q ss h =
      let ls = stmts_lexemes ss (sign K.CloseBrace q.1 ∷ h.rest) in
      let en : length N.held + length (sign K.OpenBrace q.0 ∷ ls) ≤ N.most = h.ready.entries in
      entered s N M level f (omega arith)

  pub block_fails : (g : Refusal) → TranslatesStmts s ts (at + 1) l (work M J C) (work P L D) (Err g) → TranslatesBlock s ts at l (work N J C) (work P L D) (Err g)
  unfolding check_stmt block_at
  block_fails g i q ss h =
      then_stops (check_stmts ss l (level ∷ scope_of s N.held)) _ _ _ (rw (level_open q ss h).scope at (i ss (block_at q ss h)))

  pub block_done : (mark close : ℕ) → TranslatesStmts s ts (at + 1) l (work M J C) (work P L D) (Ok close) → mark ≡ length N.held → Q ≡ cut mark P → TranslatesBlock s ts at l (work N J C) (work Q L D) (Ok (close + 1))
  unfolding check_stmt stmt_lexemes stmt_code block_at
  block_done mark close i e c q ss h =
      let y = level_open q ss h in
      let d = i ss (block_at q ss h) in
      let w = d.1 in
      let o = h.ready.code in
      let Δ = level ∷ scope_of s N.held in
      let back : Q ≡ N = c ∙ restored s N M P level mark y w.kept w.names e in
      let g : Grows o w.new w.code (λ k b. stmts_code ss Δ (length o) k b) =
      grown_as o w.new w.code _ (λ k b. stmts_code ss Δ (length o) k b) w.grows (λ k b. ap (λ (Γ : Scope). stmts_code ss Γ (length o) k b) y.scope) in (
        then-goes (check_stmts ss l Δ) _ (scope_of s P.held) (rw y.scope at d.0) ∙ rw back refl,
        worked_whole s ts close (close + 1) N Q M P J L C D C D _ (sign K.CloseBrace q.1 ∷ h.rest) (stmt_lexemes (block q ss) h.rest) h.rest o o w.code _ (λ k b. stmts_code ss Δ (length o) k b)
            w back (next_is (lexemes s ts) close _ _ w.next) (omega arith) w.ended g,
      )
