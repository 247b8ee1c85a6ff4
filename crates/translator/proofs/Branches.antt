-- `if` and `else`.
use Rattle.std.proofs.Common.{◌≡◌, ℕ, ◌+◌, ◌<◌, ◌≤◌, Bool, true, false, List, [], ◌∷◌, ◌++◌, length, take, drop, pos, Some, Ok, Err, Result, sym, refl, ap, ◌∙◌, append_assoc, arith, length-append}
use lib.Seq.{take-length}
use Rattle.refusal.specs.Told.{accepted}
use Rattle.refusal.specs.declared.reason.Refusal.{Refusal}
use Rattle.stacks.specs.Held.{Held, holding}
use Rattle.std.specs.List.{slice_get}
use Rattle.lexer.specs.Lexeme.{Lexeme}
use Rattle.lexer.specs.Reading.{lexemes}
use Rattle.lexer.specs.declared.kind.Kind.TheVariants as K
use Rattle.lexer.specs.declared.kind.Token.{Token}
use Rattle.lookahead.specs.Seen.{seen, is_kind}
use Rattle.machine.specs.declared.instruction.Instruction.{Instruction}
use Rattle.meaning.specs.declared.operator.Scalar.TheVariants.{Bool as bool}
use Rattle.meaning.specs.Trees.{Expr, Stmt, if_then, if_else}
use Rattle.meaning.specs.Written.{sign, expr_lexemes, stmt_lexemes}
use Rattle.meaning.specs.Grammar.{ends_open}
use Rattle.meaning.specs.Scopes.{level}
use Rattle.meaning.specs.Check.{Scope, needs_type, check_stmt}
use Rattle.meaning.proofs.Tokens.{Else, next}
use Rattle.meaning.proofs.Stack.{is_word}
use Rattle.parser.proofs.Expect.{word_at}
use Rattle.layout.proofs.Compiled.{ins, expr_end, expr_code, stmt_end, stmt_code}
use Rattle.layout.proofs.Ends.{stmt_grows}
use Rattle.translator.specs.Translation.{code_limit}
use Rattle.translator.specs.Code.{coded, aim, aimed, Emits, Lands}
use Rattle.translator.specs.Names.{scope_of}
use Rattle.translator.specs.Statements.{Grows, work, StmtAt, BodyAt, ElseAt, else_code, TranslatesCondition, Makes, StmtDone, TranslatesBody, TranslatesElse, TranslatesConditional}
use Rattle.translator.specs.declared.name.Name.{Name}
use Rattle.translator.specs.declared.pending.Jump.{Jump}
use Rattle.translator.proofs.Along.{place_is, expr_more}
use Rattle.translator.proofs.Checked.{then_stops, then-goes}
use Rattle.translator.proofs.Emitting.{code-length}
use Rattle.translator.proofs.Growing.{aimed-length, aimed-front, grown_as, grown_on, grown_before, grown_landed, stmt_ends}
use Rattle.translator.proofs.Guards.{GuardAt, tested, tested_length, guard_condition, guard_placed, guard_body}
use Rattle.translator.proofs.Levels.{worked_whole}
use Rattle.translator.proofs.Lexemes.{next_is}

-- `else` and its body
module _ (s : List ℕ) (ts : List Token) (at : ℕ) (l : Bool) (i p j start : ℕ) (N M : Held Name) (J L : Held Jump) (D A B E : Held Instruction)
    (f : Emits D 14 0 p A) (fj : j ≡ length D.held) (fs : start ≡ length A.held) (g : Lands A i start B) where
  -- the code before the body, once the jump over what comes before it has landed there
  abbrev landed : List Instruction → List Instruction
  landed d = aimed i (length d + 1) d

  else_begun : (t : Stmt) (h : ElseAt s ts at p (work N J D) t) → i < length h.ready.code → B ≡ coded (landed h.ready.code ++ (ins 14 (pos 0) p ∷ []))
  else_begun t h o =
      let d = h.ready.code in
      let x = ins 14 (pos 0) p ∷ [] in
      let r = h.ready.room in
      let gr = stmt_grows t (level ∷ scope_of s N.held) (length d + 1) in
      let a = f d h.ready.begun (omega arith) (omega arith) h.place in
      let n : start ≡ length d + 1 = fs ∙ ap (λ (H : Held Instruction). length H.held) a ∙ length-append d x in
      (rw n at g) (d ++ x) a (omega arith) ∙ ap coded (aimed-front i (length d + 1) d x o)

  else_length : (d : List Instruction) → length (landed d ++ (ins 14 (pos 0) p ∷ [])) ≡ length d + 1
  else_length d = length-append (landed d) (ins 14 (pos 0) p ∷ []) ∙ ap (λ (n : ℕ). n + 1) (aimed-length i (length d + 1) d)

  else_body : (t : Stmt) (h : ElseAt s ts at p (work N J D) t) → i < length h.ready.code → BodyAt s ts (at + 1) (work N J B) t
  else_body t h o =
      let d = h.ready.code in
      let en = h.ready.entries in
      let wa = h.ready.waiting in
      record {
        rest = h.rest;
        proper = h.proper;
        ends = h.ends;
        spare = omega arith;
        ready = record {
          code = landed d ++ (ins 14 (pos 0) p ∷ []);
          placed = h.ready.placed;
          few = h.ready.few;
          stands = next_is (lexemes s ts) at _ _ h.ready.stands;
          begun = else_begun t h o;
          room = rw (else_length d) h.ready.room;
          entries = omega arith;
          waiting = omega arith;
        };
      }

  pub else_fails : (r : Refusal) → TranslatesBody s ts (at + 1) l (work N J B) (work M L E) (Err r) → TranslatesElse s ts at l i p (work N J D) (work M L E) (Err r)
  else_fails r b t h o = b t (else_body t h o)

  pub else_done : (q after : ℕ) (F : Held Instruction) → TranslatesBody s ts (at + 1) l (work N J B) (work M L E) (Ok q) → after ≡ length E.held → Lands E j after F →
      TranslatesElse s ts at l i p (work N J D) (work M L F) (Ok q)
  unfolding else_body
  else_done q after F b fa la t h o =
      let Γ = scope_of s N.held in
      let d = h.ready.code in
      let x = ins 14 (pos 0) p in
      let y = b t (else_body t h o) in
      let w = y.3 in
      let e = w.code in
      let n = else_length d in
      let m : length (landed d) ≡ length d = aimed-length i (length d + 1) d in
      let z : length e ≡ stmt_end t (level ∷ Γ) (length d + 1) = stmt_ends t (level ∷ Γ) _ w.new e w.grows ∙ ap (stmt_end t (level ∷ Γ)) n in
      let u : after ≡ stmt_end t (level ∷ Γ) (length d + 1) = fa ∙ ap (λ (H : Held Instruction). length H.held) w.ended ∙ z in
      let v : j ≡ length (landed d) = fj ∙ ap (λ (H : Held Instruction). length H.held) h.ready.begun ∙ sym m in
      let r = h.ready.room in
      let lands : F ≡ coded (aimed (length (landed d)) (stmt_end t (level ∷ Γ) (length d + 1)) e) = (rw (u, v) at la) e w.ended (omega arith) in
      let gr : Grows (landed d) w.new (aimed (length (landed d)) (stmt_end t (level ∷ Γ) (length d + 1)) e) (λ k c. else_code t Γ p (length d) k c) =
      grown_as (landed d) w.new _ _ (λ k c. else_code t Γ p (length d) k c) (grown_landed (landed d) x w.new e _ (stmt_end t (level ∷ Γ) (length d + 1)) w.grows)
      (λ k c. ap (λ (a : ℕ). aim (stmt_end t (level ∷ Γ) (length d + 1)) x ∷ stmt_code t (level ∷ Γ) a k c) n) in (
        y.0,
        y.1,
        y.2,
        worked_whole s ts q q N M N M J L B E D F (stmt_lexemes t h.rest) h.rest (sign K.Else h.else ∷ stmt_lexemes t h.rest) h.rest _ (landed d)
            (aimed (length (landed d)) (stmt_end t (level ∷ Γ) (length d + 1)) e) _ (λ k c. else_code t Γ p (length d) k c) w y.2 w.next (omega arith) lands gr,
      )

-- the code of both branches, by equal positions and names
two_branches : (X : List Instruction) (Γ Δ : Scope) (p n a m b : ℕ) (t u : Stmt) (k g : ℕ) → a ≡ n → b ≡ m → Δ ≡ Γ →
    X ++ (aim (b + 1) (ins 15 (pos 0) p) ∷ (stmt_code t (level ∷ Γ) a k g ++ else_code u Δ p b k g)) ≡ X ++ (ins 15 (pos (m + 1)) p ∷ (stmt_code t (level ∷ Γ) n k g ++ else_code u Γ p m k g))
two_branches X Γ Δ p n a m b t u k g e f d = rw (e, f, d) refl

-- if ( e ) s
module _ (s : List ℕ) (ts : List Token) (at : ℕ) (l : Bool) (k : Token) (N : Held Name) (J : Held Jump) (C : Held Instruction) (m : at < length ts → slice_get ts at ≡ Some k) where
  then_guard : (p : ℕ) (q : ℕ × ℕ) (e : Expr) (t : Stmt) (h : StmtAt s ts at (work N J C) (if_then p q e t)) → GuardAt s ts at N J C p e t
  unfolding stmt_lexemes stmt_end ends_open
  then_guard p q e t h =
      let more = expr_more e (sign K.CloseParen q.1 ∷ stmt_lexemes t h.rest) in
      let en : length N.held + length (sign K.If p ∷ sign K.OpenParen q.0 ∷ expr_lexemes e (sign K.CloseParen q.1 ∷ stmt_lexemes t h.rest)) ≤ N.most = h.ready.entries in
      let wa : length J.held + length (sign K.If p ∷ sign K.OpenParen q.0 ∷ expr_lexemes e (sign K.CloseParen q.1 ∷ stmt_lexemes t h.rest)) ≤ J.most = h.ready.waiting in
      record {
        word = K.If;
        round = q;
        rest = h.rest;
        code = h.ready.code;
        placed = h.ready.placed;
        few = h.ready.few;
        grouped = h.proper.0;
        proper = h.proper.1;
        ends = λ _. h.ends refl;
        stands = h.ready.stands;
        begun = h.ready.begun;
        room = h.ready.room;
        entries = omega arith;
        waiting = omega arith;
      }

  else_guard : (p : ℕ) (q : ℕ × ℕ) (e : Expr) (t : Stmt) (o : ℕ) (u : Stmt) (h : StmtAt s ts at (work N J C) (if_else p q e t o u)) → GuardAt s ts at N J C p e t
  unfolding stmt_lexemes stmt_end
  else_guard p q e t o u h =
      let Γ = scope_of s N.held in
      let z = expr_end e Γ (length h.ready.code) + 1 in
      let rest = sign K.Else o ∷ stmt_lexemes u h.rest in
      let more = expr_more e (sign K.CloseParen q.1 ∷ stmt_lexemes t rest) in
      let en : length N.held + length (sign K.If p ∷ sign K.OpenParen q.0 ∷ expr_lexemes e (sign K.CloseParen q.1 ∷ stmt_lexemes t rest)) ≤ N.most = h.ready.entries in
      let wa : length J.held + length (sign K.If p ∷ sign K.OpenParen q.0 ∷ expr_lexemes e (sign K.CloseParen q.1 ∷ stmt_lexemes t rest)) ≤ J.most = h.ready.waiting in
      let r : stmt_end u (level ∷ Γ) (stmt_end t (level ∷ Γ) z + 1) ≤ code_limit = h.ready.room in
      let g = stmt_grows u (level ∷ Γ) (stmt_end t (level ∷ Γ) z + 1) in
      record {
        word = K.If;
        round = q;
        rest = rest;
        code = h.ready.code;
        placed = h.ready.placed;
        few = h.ready.few;
        grouped = h.proper.0;
        proper = h.proper.1;
        ends = λ y. let z : ◌≡◌ {A = ℕ} 0 1 = cc h.proper.2 in absurd (omega arith);
        stands = h.ready.stands;
        begun = h.ready.begun;
        room = omega arith;
        entries = omega arith;
        waiting = omega arith;
      }

  -- the condition's faults are told where `if` stands
  at_if : (p : ℕ) (r : List Lexeme) → drop at (lexemes s ts) ≡ sign K.If p ∷ r → k.place ≡ p
  at_if p r st = place_is s ts at k _ r m st

  pub condition_refused : (r : Refusal) (D : Held Instruction) → TranslatesCondition s ts (at + 1) k.place N C D (Err r) → TranslatesConditional s ts at l (work N J C) (work N J D) (Err r)
  unfolding stmt_lexemes check_stmt
  condition_refused r D c = (
    (λ p q e t h. then_stops (needs_type e (scope_of s N.held) bool p) _ _ _ (rw (at_if p _ h.ready.stands) at (c e (guard_condition s ts at p N J C e t (then_guard p q e t h))))),
    (λ p q e t o u h. then_stops (needs_type e (scope_of s N.held) bool p) _ _ _ (rw (at_if p _ h.ready.stands) at (c e (guard_condition s ts at p N J C e t (else_guard p q e t o u h))))),
  )

  -- with the condition translated, and the jump over the body
  module _ (inside i : ℕ) (A B D : Held Instruction) (M : Held Name) (L : Held Jump) (fi : i ≡ length A.held) where
    module _ (p : ℕ) (c : TranslatesCondition s ts (at + 1) p N C A (Ok inside)) (f : Emits A 15 0 p B) where
      -- the jump's position
      skip_is : (e : Expr) (t : Stmt) (g : GuardAt s ts at N J C p e t) → i ≡ length (tested s ts at p N J C e t g)
      unfolding guard_condition
      skip_is e t g = fi ∙ ap (λ (H : Held Instruction). length H.held) (c e (guard_condition s ts at p N J C e t g)).2

      then_fails : (r : Refusal) → TranslatesBody s ts inside l (work N J B) (work M L D) (Err r) → (q : ℕ × ℕ) (e : Expr) (t : Stmt) → Makes s ts at l (work N J C) (work M L D) (if_then p q e t) (Err r)
      unfolding check_stmt then_guard guard_condition guard_body
      then_fails r b q e t h =
          let g = then_guard p q e t h in
          then-goes (needs_type e (scope_of s N.held) bool p) _ tt (c e (guard_condition s ts at p N J C e t g)).0
          ∙ then_stops (check_stmt t l (level ∷ scope_of s N.held)) _ _ _ (b t (guard_body s ts at p N J C e t g inside A B c f))

      else_refused : (r : Refusal) → TranslatesBody s ts inside l (work N J B) (work M L D) (Err r) →
          (q : ℕ × ℕ) (e : Expr) (t : Stmt) (o : ℕ) (u : Stmt) → Makes s ts at l (work N J C) (work M L D) (if_else p q e t o u) (Err r)
      unfolding check_stmt else_guard guard_condition guard_body
      else_refused r b q e t o u h =
          let g = else_guard p q e t o u h in
          then-goes (needs_type e (scope_of s N.held) bool p) _ tt (c e (guard_condition s ts at p N J C e t g)).0
          ∙ then_stops (check_stmt t l (level ∷ scope_of s N.held)) _ _ _ (b t (guard_body s ts at p N J C e t g inside A B c f))

      module _ (end : ℕ) (b : TranslatesBody s ts inside l (work N J B) (work M L D) (Ok end)) where
        -- an `else` is seen where one stands, and nowhere else
        then_over : (q : ℕ × ℕ) (e : Expr) (t : Stmt) → StmtAt s ts at (work N J C) (if_then p q e t) → is_kind (seen ts end) K.Else ≡ false
        unfolding ends_open then_guard guard_body
        then_over q e t h =
            let w = (b t (guard_body s ts at p N J C e t (then_guard p q e t h) inside A B c f)).3 in
            sym (word_at Else s ts end) ∙ ap (λ (ls : List Lexeme). is_word Else (next ls)) w.next ∙ h.ends refl

        else_next : (q : ℕ × ℕ) (e : Expr) (t : Stmt) (o : ℕ) (u : Stmt) → StmtAt s ts at (work N J C) (if_else p q e t o u) → is_kind (seen ts end) K.Else ≡ true
        unfolding else_guard guard_body
        else_next q e t o u h =
            let w = (b t (guard_body s ts at p N J C e t (else_guard p q e t o u h) inside A B c f)).3 in
            sym (word_at Else s ts end) ∙ ap (λ (ls : List Lexeme). is_word Else (next ls)) w.next

        then-done : (n : ℕ) (E : Held Instruction) → n ≡ length D.held → Lands D i n E → (q : ℕ × ℕ) (e : Expr) (t : Stmt) → Makes s ts at l (work N J C) (work M L E) (if_then p q e t) (Ok end)
        unfolding check_stmt stmt_lexemes stmt_code stmt_end then_guard guard_condition guard_body
        then-done n E fn la q e t h =
            let Γ = scope_of s N.held in
            let g = then_guard p q e t h in
            let o = h.ready.code in
            let x = ins 15 (pos 0) p in
            let T = tested s ts at p N J C e t g in
            let d = c e (guard_condition s ts at p N J C e t g) in
            let y = b t (guard_body s ts at p N J C e t g inside A B c f) in
            let w = y.3 in
            let tl = tested_length s ts at p N J C e t g in
            let z = stmt_end t (level ∷ Γ) (expr_end e Γ (length o) + 1) in
            let v : length w.code ≡ z = stmt_ends t (level ∷ Γ) _ w.new w.code w.grows ∙ ap (stmt_end t (level ∷ Γ)) tl in
            let nz : n ≡ z = fn ∙ ap (λ (H : Held Instruction). length H.held) w.ended ∙ v in
            let r : z ≤ code_limit = h.ready.room in
            let lands : E ≡ coded (aimed (length T) z w.code) = (rw (nz, skip_is e t g) at la) w.code w.ended (omega arith) in
            let G : ℕ → ℕ → List Instruction = λ a b. stmt_code (if_then p q e t) Γ (length o) a b in
            let gr : Grows o w.new (aimed (length T) z w.code) G =
            grown_as o w.new _ _ G (grown_before o (expr_code e Γ (length o)) w.new _ _ (grown_landed T x w.new w.code _ z w.grows))
            (λ a b. ap (λ (j : ℕ). expr_code e Γ (length o) ++ (aim z x ∷ stmt_code t (level ∷ Γ) j a b)) tl) in
            let more = expr_more e (sign K.CloseParen q.1 ∷ stmt_lexemes t h.rest) in (
              then-goes (needs_type e Γ bool p) _ tt d.0 ∙ then-goes (check_stmt t l (level ∷ Γ)) _ y.0 y.1 ∙ rw y.2 refl,
              worked_whole s ts end end N M N M J L B D C E (stmt_lexemes t h.rest) h.rest (stmt_lexemes (if_then p q e t) h.rest) h.rest _ o (aimed (length T) z w.code) _ G w y.2 w.next (omega arith) lands gr,
            )

        -- `else` and its body, after all that
        module _ (q : ℕ × ℕ) (e : Expr) (t : Stmt) (o : ℕ) (u : Stmt) (h : StmtAt s ts at (work N J C) (if_else p q e t o u)) where
          abbrev before : GuardAt s ts at N J C p e t
          before = else_guard p q e t o u h

          abbrev first : BodyAt s ts inside (work N J B) t
          first = guard_body s ts at p N J C e t before inside A B c f

          first-length : length (b t first).3.code ≡ stmt_end t (level ∷ scope_of s N.held) (expr_end e (scope_of s N.held) (length h.ready.code) + 1)
          unfolding else_guard guard_body
          first-length =
              let w = (b t first).3 in
              stmt_ends t (level ∷ scope_of s N.held) _ w.new w.code w.grows ∙ ap (stmt_end t (level ∷ scope_of s N.held)) (tested_length s ts at p N J C e t before)

          second_at : ElseAt s ts end p (work M L D) u
          unfolding stmt_lexemes stmt_end ends_open else_guard guard_body
          second_at =
              let Γ = scope_of s N.held in
              let y = b t first in
              let w = y.3 in
              let rest = sign K.Else o ∷ stmt_lexemes u h.rest in
              let more = expr_more e (sign K.CloseParen q.1 ∷ stmt_lexemes t rest) in
              let en : length N.held + length (sign K.If p ∷ sign K.OpenParen q.0 ∷ expr_lexemes e (sign K.CloseParen q.1 ∷ stmt_lexemes t rest)) ≤ N.most = h.ready.entries in
              let wa : length J.held + length (sign K.If p ∷ sign K.OpenParen q.0 ∷ expr_lexemes e (sign K.CloseParen q.1 ∷ stmt_lexemes t rest)) ≤ J.most = h.ready.waiting in
              let wt = w.waiting in
              let lj : length L.held ≡ length J.held + length w.new = ap (λ (H : Held Jump). length H.held) w.jumps ∙ length-append J.held w.new in
              let lm : L.most ≡ J.most = ap (λ (H : Held Jump). H.most) w.jumps in
              record {
                else = o;
                rest = h.rest;
                proper = h.proper.3;
                ends = h.ends;
                place = guard_placed s ts at p N J C e t before;
                ready = record {
                  code = w.code;
                  placed = h.ready.placed;
                  few = rw y.2 h.ready.few;
                  stands = w.next;
                  begun = w.ended;
                  room = rw (y.2, first-length) h.ready.room;
                  entries = rw y.2 (omega arith);
                  waiting = omega arith;
                };
              }

          -- the jump over the first body stands before its end
          skip_early : i < length (b t first).3.code
          unfolding else_guard guard_body
          skip_early =
              let Γ = scope_of s N.held in
              let z = expr_end e Γ (length h.ready.code) in
              let a : i ≡ z = skip_is e t before ∙ code-length h.ready.code e Γ in
              let g = stmt_grows t (level ∷ Γ) (z + 1) in
              let n = first-length in omega arith

          else_joined : (P : Held Name) (H : Held Jump) (F : Held Instruction) (r : Result ℕ Refusal) → TranslatesElse s ts end l i p (work M L D) (work P H F) r →
              StmtDone s ts l (work N J C) (work P H F) (if_else p q e t o u) h.rest h.ready.code r
          unfolding check_stmt stmt_lexemes stmt_code stmt_end else_guard guard_condition guard_body second_at
          else_joined P H F (Err r) el =
              let Γ = scope_of s N.held in
              let y = b t first in
              then-goes (needs_type e Γ bool p) _ tt (c e (guard_condition s ts at p N J C e t before)).0 ∙ then-goes (check_stmt t l (level ∷ Γ)) _ y.0 y.1
              ∙ then_stops (check_stmt u l (level ∷ Γ)) _ _ _ (rw y.2 at (el u second_at skip_early))
          else_joined P H F (Ok z) el =
              let Γ = scope_of s N.held in
              let y = b t first in
              let w = y.3 in
              let v = el u second_at skip_early in
              let back : P ≡ N = v.2 ∙ y.2 in
              let sc : scope_of s M.held ≡ Γ = ap (λ (I : Held Name). scope_of s I.held) y.2 in
              let x = v.3 in
              let a = h.ready.code in
              let T = tested s ts at p N J C e t before in
              let j = ins 15 (pos 0) p in
              let n = expr_end e Γ (length a) + 1 in
              let m = stmt_end t (level ∷ Γ) n in
              let d = w.code in
              let G : ℕ → ℕ → List Instruction = λ k g. stmt_code (if_else p q e t o u) Γ (length a) k g in
              let one : Grows T w.new (aimed i (length d + 1) d) (λ k g. aim (length d + 1) j ∷ stmt_code t (level ∷ Γ) (length (T ++ (j ∷ []))) k g) =
              rw (skip_is e t before) (grown_landed T j w.new d _ (length d + 1) w.grows) in
              let two = grown_before a (expr_code e Γ (length a)) (w.new ++ x.new) x.code _ (grown_on T w.new (aimed i (length d + 1) d) _ x.new x.code _ one x.grows) in
              let gr : Grows a (w.new ++ x.new) x.code G =
              grown_as a (w.new ++ x.new) x.code _ G two (λ k g. two_branches (expr_code e Γ (length a)) Γ _ p n _ m _ t u k g (tested_length s ts at p N J C e t before) first-length sc) in
              let more = expr_more e (sign K.CloseParen q.1 ∷ stmt_lexemes t (sign K.Else o ∷ stmt_lexemes u h.rest)) in
              let w1 = w.waiting in
              let w2 = x.waiting in
              let lp : length P.held ≡ length N.held = ap (λ (I : Held Name). length I.held) back in
              let ln = length-append w.new x.new in (
                then-goes (needs_type e Γ bool p) _ tt (c e (guard_condition s ts at p N J C e t before)).0 ∙ then-goes (check_stmt t l (level ∷ Γ)) _ y.0 y.1
                    ∙ then-goes (check_stmt u l (level ∷ Γ)) _ v.0 (ap (λ (Δ : Scope). check_stmt u l (level ∷ Δ)) (sym sc) ∙ v.1) ∙ ap (λ (I : Held Name). accepted (scope_of s I.held)) (sym back),
                record {
                  next = x.next;
                  kept = ap (λ (I : Held Name). take (length N.held) I.held) back ∙ take-length N.held;
                  names = ap (λ (I : Held Name). I.most) back;
                  entries = omega arith;
                  new = w.new ++ x.new;
                  jumps = x.jumps ∙ ap (λ (I : Held Jump). holding (I.held ++ x.new) I.most) w.jumps ∙ ap (λ (js : List Jump). holding js J.most) (append_assoc J.held w.new x.new);
                  waiting = omega arith;
                  code = x.code;
                  ended = x.ended;
                  grows = gr;
                },
              )

    -- The two forms together.

    pub conditional_fails : (c : TranslatesCondition s ts (at + 1) k.place N C A (Ok inside)) (f : Emits A 15 0 k.place B) (r : Refusal) → TranslatesBody s ts inside l (work N J B) (work M L D) (Err r) →
        TranslatesConditional s ts at l (work N J C) (work M L D) (Err r)
    unfolding stmt_lexemes
    conditional_fails c f r b = (
      (λ p q e t h. let w = at_if p _ h.ready.stands in then_fails p (rw w at c) (rw w at f) r b q e t h),
      (λ p q e t o u h. let w = at_if p _ h.ready.stands in else_refused p (rw w at c) (rw w at f) r b q e t o u h),
    )

    pub conditional_then : (c : TranslatesCondition s ts (at + 1) k.place N C A (Ok inside)) (f : Emits A 15 0 k.place B) (end : ℕ) → TranslatesBody s ts inside l (work N J B) (work M L D) (Ok end) →
        false ≡ is_kind (seen ts end) K.Else → (n : ℕ) (E : Held Instruction) → n ≡ length D.held → Lands D i n E → TranslatesConditional s ts at l (work N J C) (work M L E) (Ok end)
    unfolding stmt_lexemes
    conditional_then c f end b v n E fn la = (
      (λ p q e t h. let w = at_if p _ h.ready.stands in then-done p (rw w at c) (rw w at f) end b n E fn la q e t h),
      (λ p q e t o u h.
          let w = at_if p _ h.ready.stands in
          let y = else_next p (rw w at c) (rw w at f) end b q e t o u h in
          let z : ◌≡◌ {A = ℕ} 0 1 = cc in absurd (omega arith)),
    )

    pub conditional_else : (c : TranslatesCondition s ts (at + 1) k.place N C A (Ok inside)) (f : Emits A 15 0 k.place B) (end : ℕ) → TranslatesBody s ts inside l (work N J B) (work M L D) (Ok end) →
        true ≡ is_kind (seen ts end) K.Else → (P : Held Name) (H : Held Jump) (F : Held Instruction) (r : Result ℕ Refusal) → TranslatesElse s ts end l i k.place (work M L D) (work P H F) r →
        TranslatesConditional s ts at l (work N J C) (work P H F) r
    unfolding stmt_lexemes
    conditional_else c f end b v P H F r el = (
      (λ p q e t h.
          let w = at_if p _ h.ready.stands in
          let y = then_over p (rw w at c) (rw w at f) end b q e t h in
          let z : ◌≡◌ {A = ℕ} 0 1 = cc in absurd (omega arith)),
      (λ p q e t o u h. let w = at_if p _ h.ready.stands in else_joined p (rw w at c) (rw w at f) end b q e t o u h P H F r (rw w at el)),
    )
