-- Statements one after the other.
use Rattle.std.proofs.Common.{◌≡◌, ℕ, ◌+◌, ◌≤◌, Bool, true, false, List, [], ◌∷◌, ◌++◌, length, take, Ok, Err, Option, Result, sym, refl, ap, ◌∙◌, append_assoc, append-nil, arith, length-append, length-take, take-take}
use Rattle.refusal.specs.declared.reason.Refusal.{Refusal}
use Rattle.stacks.specs.Held.{Held, holding}
use Rattle.lexer.specs.Lexeme.{Lexeme}
use Rattle.lexer.specs.declared.kind.Kind.{Kind}
use Rattle.lexer.specs.declared.kind.Kind.TheVariants as K
use Rattle.lexer.specs.declared.kind.Token.{Token}
use Rattle.lookahead.specs.Seen.{seen, is_kind}
use Rattle.machine.specs.declared.instruction.Instruction.{Instruction}
use Rattle.meaning.specs.Trees.{Stmt, Stmts, nil, cons}
use Rattle.meaning.specs.Written.{sign, stmt_lexemes, stmts_lexemes}
use Rattle.meaning.specs.Check.{Scope, check_stmt, check_stmts}
use Rattle.layout.proofs.Compiled.{scope_after, stmt_end, stmts_end, stmt_code, stmts_code}
use Rattle.layout.proofs.Ends.{stmts_grow}
use Rattle.translator.specs.Translation.{code_limit}
use Rattle.translator.specs.Code.{coded}
use Rattle.translator.specs.Names.{scope_of}
use Rattle.translator.specs.Statements.{Grows, Work, StmtAt, TranslatesStmt, StmtsAt, StmtsDone, TranslatesStmts, StmtsOn}
use Rattle.translator.specs.declared.pending.Jump.{Jump}
use Rattle.translator.proofs.Checked.{then_stops, then-goes, scope_is, few_still}
use Rattle.translator.proofs.Forms.{not_close, stmts_otherwise}
use Rattle.translator.proofs.Growing.{grown_as, grown_on, stmt_ends}
use Rattle.translator.proofs.Leaves.{worked_same}
use Rattle.translator.proofs.Lexemes.{seen-sign}

-- the first of some statements
module _ (s : List ℕ) (ts : List Token) (l : Bool) (end : ℕ) (V : Work) (t : Stmt) (us : Stmts) (g : StmtsAt s ts end V (cons t us)) where
  abbrev later : List Lexeme
  later = stmts_lexemes us (sign K.CloseBrace g.close ∷ g.rest)

  first_at : StmtAt s ts end V t
  unfolding stmts_lexemes stmts_end
  first_at =
      let Γ = scope_of s V.names.held in
      let o = length g.ready.code in
      let r : stmts_end us (scope_after t Γ) (stmt_end t Γ o) ≤ code_limit = g.ready.room in
      let gr = stmts_grow us (scope_after t Γ) (stmt_end t Γ o) in
      record {
        rest = later;
        proper = g.proper.0;
        ends = λ _. stmts_otherwise us g.close g.rest;
        ready = record { code = g.ready.code; placed = g.ready.placed; few = g.ready.few; stands = g.ready.stands; begun = g.ready.begun; room = omega arith; entries = g.ready.entries; waiting = g.ready.waiting };
      }

  -- a fault of the first
  first_fails : (X : Work) (f : Refusal) → TranslatesStmt s ts end l V X (Err f) → StmtsDone s ts l V X (cons t us) (sign K.CloseBrace g.close ∷ g.rest) g.ready.code (Err f)
  unfolding check_stmts first_at
  first_fails X f i = then_stops (check_stmt t l (scope_of s V.names.held)) _ _ _ (i t first_at)

  module _ (U : Work) (q : ℕ) (i : TranslatesStmt s ts end l V U (Ok q)) where
    scope_after_lem : scope_of s U.names.held ≡ scope_after t (scope_of s V.names.held)
    scope_after_lem = scope_is t l (scope_of s V.names.held) (scope_of s U.names.held) (i t first_at).0

    -- the others
    others_at : StmtsAt s ts q U us
    unfolding stmts_lexemes stmts_end first_at
    others_at =
        let Γ = scope_of s V.names.held in
        let d = i t first_at in
        let w = d.1 in
        let en : length V.names.held + length (stmt_lexemes t later) ≤ V.names.most = g.ready.entries in
        let wa : length V.jumps.held + length (stmt_lexemes t later) ≤ V.jumps.most = g.ready.waiting in
        let w1 = w.entries in
        let w2 = w.waiting in
        let nm = w.names in
        let lj : length U.jumps.held ≡ length V.jumps.held + length w.new = ap (λ (H : Held Jump). length H.held) w.jumps ∙ length-append V.jumps.held w.new in
        let lm : U.jumps.most ≡ V.jumps.most = ap (λ (H : Held Jump). H.most) w.jumps in
        record {
          close = g.close;
          rest = g.rest;
          proper = g.proper.1;
          ready = record {
            code = w.code;
            placed = g.ready.placed;
            few = few_still t l Γ (scope_of s U.names.held) d.0 g.ready.few;
            stands = w.next;
            begun = w.ended;
            room = rw (scope_after_lem, stmt_ends t Γ g.ready.code w.new w.code w.grows) g.ready.room;
            entries = omega arith;
            waiting = omega arith;
          };
        }

    -- what becomes of the others becomes of all
    others_done : (X : Work) (r : Result ℕ Refusal) → StmtsDone s ts l U X us (sign K.CloseBrace g.close ∷ g.rest) (i t first_at).1.code r →
        StmtsDone s ts l V X (cons t us) (sign K.CloseBrace g.close ∷ g.rest) g.ready.code r
    unfolding check_stmts stmts_lexemes stmts_code first_at
    others_done X (Err f) d = then-goes (check_stmt t l (scope_of s V.names.held)) _ (scope_of s U.names.held) (i t first_at).0 ∙ d
    others_done X (Ok z) d =
        let Γ = scope_of s V.names.held in
        let a = i t first_at in
        let w = a.1 in
        let x = d.1 in
        let o = g.ready.code in
        let n = length V.names.held in
        let k1 = w.kept in
        let k2 = x.kept in
        let e1 = w.entries in
        let e2 = x.entries in
        let w1 = w.waiting in
        let w2 = x.waiting in
        let ln = length-append w.new x.new in
        let le : n ≤ length U.names.held = let y = length-take n U.names.held in let y2 = ap length k1 in omega arith in
        let ke : take n X.names.held ≡ V.names.held =
        sym (take-take n (length U.names.held) X.names.held le) ∙ ap (take n) k2 ∙ k1 in
        let G : ℕ → ℕ → List Instruction = λ k c. stmts_code (cons t us) Γ (length o) k c in
        let gr : Grows o (w.new ++ x.new) x.code G =
        grown_as o (w.new ++ x.new) x.code _ G (grown_on o w.new w.code _ x.new x.code _ w.grows x.grows)
        (λ k c. ap (λ (Y : List Instruction). stmt_code t Γ (length o) k c ++ Y)
        (ap (λ (Δ : Scope). stmts_code us Δ (length w.code) k c) scope_after_lem ∙ ap (λ (m : ℕ). stmts_code us (scope_after t Γ) m k c) (stmt_ends t Γ o w.new w.code w.grows))) in (
          then-goes (check_stmt t l Γ) _ (scope_of s U.names.held) a.0 ∙ d.0,
          record {
            next = x.next;
            kept = ke;
            names = x.names ∙ w.names;
            entries = omega arith;
            new = w.new ++ x.new;
            jumps = x.jumps ∙ ap (λ (I : Held Jump). holding (I.held ++ x.new) I.most) w.jumps ∙ ap (λ (js : List Jump). holding js V.jumps.most) (append_assoc V.jumps.held w.new x.new);
            waiting = omega arith;
            code = x.code;
            ended = x.ended;
            grows = gr;
          },
        )

-- The brace that closes statements is seen where none is left, and nowhere else.
module _ (s : List ℕ) (ts : List Token) (end : ℕ) (V : Work) where
  none_left : StmtsAt s ts end V nil → is_kind (seen ts end) K.CloseBrace ≡ true
  unfolding stmts_lexemes
  none_left g = ap (λ (y : Option Kind). is_kind y K.CloseBrace) (seen-sign s ts end K.CloseBrace _ _ g.ready.stands)

  some_left : (t : Stmt) (us : Stmts) → StmtsAt s ts end V (cons t us) → is_kind (seen ts end) K.CloseBrace ≡ false
  unfolding stmts_lexemes
  some_left t us g = not_close s ts end t _ g.ready.stands

  over : (l : Bool) (us : Stmts) (g : StmtsAt s ts end V us) → true ≡ is_kind (seen ts end) K.CloseBrace → StmtsDone s ts l V V us (sign K.CloseBrace g.close ∷ g.rest) g.ready.code (Ok end)
  unfolding check_stmts stmts_lexemes stmts_code
  over l nil g b =
      (refl, worked_same s ts end V.names V.jumps V.code V.code _ _ g.ready.code [] g.ready.stands (omega arith) (g.ready.begun ∙ ap coded (sym (append-nil g.ready.code))))
  over l (cons t us) g b = let y = some_left t us g in let z : ◌≡◌ {A = ℕ} 0 1 = cc in absurd (omega arith)

  failing : (l : Bool) (us : Stmts) (g : StmtsAt s ts end V us) → false ≡ is_kind (seen ts end) K.CloseBrace → (X : Work) (f : Refusal) → TranslatesStmt s ts end l V X (Err f) →
      StmtsDone s ts l V X us (sign K.CloseBrace g.close ∷ g.rest) g.ready.code (Err f)
  failing l nil g b X f i = let y = none_left g in let z : ◌≡◌ {A = ℕ} 0 1 = cc in absurd (omega arith)
  failing l (cons t us) g b X f i = first_fails s ts l end V t us g X f i

  going : (l : Bool) (us : Stmts) (g : StmtsAt s ts end V us) → false ≡ is_kind (seen ts end) K.CloseBrace → (U : Work) (q : ℕ) → TranslatesStmt s ts end l V U (Ok q) →
      (vs : Stmts) × (k : StmtsAt s ts q U vs)
      × ((X : Work) (r : Result ℕ Refusal) → StmtsDone s ts l U X vs (sign K.CloseBrace k.close ∷ k.rest) k.ready.code r → StmtsDone s ts l V X us (sign K.CloseBrace g.close ∷ g.rest) g.ready.code r)
  unfolding others_at
  going l nil g b U q i = let y = none_left g in let z : ◌≡◌ {A = ℕ} 0 1 = cc in absurd (omega arith)
  going l (cons t us) g b U q i = (us, others_at s ts l end V t us g U q i, λ X r d. others_done s ts l end V t us g U q i X r d)

-- The loop over them.
module _ (s : List ℕ) (ts : List Token) (l : Bool) (at : ℕ) (W : Work) where
  pub stmts_begin : StmtsOn s ts l at W at W
  stmts_begin ss h = (ss, h, λ X r d. d)

  module _ (end : ℕ) (V : Work) (on : StmtsOn s ts l at W end V) where
    pub stmts_over : true ≡ is_kind (seen ts end) K.CloseBrace → TranslatesStmts s ts at l W V (Ok end)
    stmts_over b ss h = let i = on ss h in i.2 V (Ok end) (over s ts end V l i.0 i.1 b)

    pub stmts_fail : false ≡ is_kind (seen ts end) K.CloseBrace → (X : Work) (f : Refusal) → TranslatesStmt s ts end l V X (Err f) → TranslatesStmts s ts at l W X (Err f)
    stmts_fail b X f t ss h = let i = on ss h in i.2 X (Err f) (failing s ts end V l i.0 i.1 b X f t)

    pub stmts_more : false ≡ is_kind (seen ts end) K.CloseBrace → (U : Work) (q : ℕ) → TranslatesStmt s ts end l V U (Ok q) → StmtsOn s ts l at W q U
    stmts_more b U q t ss h =
        let i = on ss h in
        let j = going s ts end V l i.0 i.1 b U q t in
        (j.0, j.1, λ X r d. i.2 X r (j.2 X r d))
