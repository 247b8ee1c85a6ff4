-- The parts of loops, and the jumps out of them.
use Rattle.std.proofs.Common.{◌≡◌, ℕ, ◌+◌, ◌<◌, ◌≤◌, Bool, true, false, cond, ◌&&◌, List, [], ◌∷◌, ◌++◌, length, drop, pos, Some, Ok, Err, Option, sym, refl, ap, ◌∙◌, append_assoc, arith, length-append}
use lib.Seq.{take-length}
use Rattle.refusal.specs.Told.{accepted, refused}
use Rattle.refusal.specs.declared.reason.Refusal.{Refusal}
use Rattle.refusal.specs.declared.reason.Reason.TheVariants.{TypeMismatch, OutsideLoop}
use Rattle.stacks.specs.Held.{Held, holding}
use Rattle.std.specs.List.{slice_get}
use Rattle.lexer.specs.Lexeme.{Lexeme}
use Rattle.lexer.specs.Reading.{lexemes}
use Rattle.lexer.specs.declared.kind.Kind.{Kind}
use Rattle.lexer.specs.declared.kind.Kind.TheVariants as K
use Rattle.lexer.specs.declared.kind.Token.{Token}
use Rattle.lookahead.specs.Seen.{seen, is_kind}
use Rattle.machine.specs.declared.instruction.Instruction.{Instruction}
use Rattle.meaning.specs.declared.operator.Scalar.TheVariants.{Int as int}
use Rattle.meaning.specs.Trees.{Ident, Expr, Stmt, for_to}
use Rattle.meaning.specs.Written.{sign, ident, expr_lexemes, stmt_lexemes}
use Rattle.meaning.specs.Scopes.{level}
use Rattle.meaning.specs.Types.{same_type}
use Rattle.meaning.specs.Check.{Scope, needs, type_of, check_stmt}
use Rattle.meaning.proofs.Fits.{same_type_lem}
use Rattle.layout.proofs.Compiled.{ins, expr_end, expr_code, for_scope, stmt_end, stmt_code}
use Rattle.layout.proofs.Ends.{expr_grows, stmt_grows}
use Rattle.translator.specs.Translation.{code_limit}
use Rattle.translator.specs.Code.{Placed, coded, patched, Emits, Lands, LandsAll}
use Rattle.translator.specs.Names.{scope_of}
use Rattle.translator.specs.Expressions.{ExprAt, Translates}
use Rattle.translator.specs.Statements.{Between, Grows, work, Worked, StmtAt, Closes, EmitsFour, TranslatesBounds, TranslatesJump}
use Rattle.translator.specs.declared.name.Name.{Name}
use Rattle.translator.specs.declared.pending.Jump.{Jump}
use Rattle.translator.specs.declared.typed.Typed.{Typed}
use Rattle.translator.proofs.Along.{place_is, on_by, placed_at, ends_close, ends_to}
use Rattle.translator.proofs.Checked.{then_stops, then-goes, needs_met, needs_unmet}
use Rattle.translator.proofs.Emitting.{code-length}
use Rattle.translator.proofs.Growing.{aimed-at}
use Rattle.translator.proofs.Lexemes.{next_is, seen-sign}

-- the end of a loop
pub closing : (J K : Held Jump) (B M P A : Held Instruction) (mark end i o c p : ℕ) → Emits B 14 o p M → end ≡ length M.held → LandsAll J M mark end c K P → Lands P i end A → Closes J mark B i o c p K A
closing J K B M P A mark end i o c p f e g h C b l po pc pp =
    let m = f C b l po pp in
    let n = length-append C (ins 14 (pos o) p ∷ []) in
    let d : end ≡ length C + 1 = e ∙ ap (λ (H : Held Instruction). length H.held) m ∙ n in
    let q : Placed (length C + 1) = omega arith in
    let y = (rw d at g) (C ++ (ins 14 (pos o) p ∷ [])) m q pc in
    ((rw d at h) _ y.0 q, y.1)

-- four instructions
pub emit_four : (B M P Q A : Held Instruction) (i j k l a b c d p : ℕ) → Emits B i a p M → Emits M j b p P → Emits P k c p Q → Emits Q l d p A → Placed a → Placed b → Placed c → Placed d →
    EmitsFour B (ins i (pos a) p ∷ ins j (pos b) p ∷ ins k (pos c) p ∷ ins l (pos d) p ∷ []) p A
emit_four B M P Q A i j k l a b c d p e f g h pa pb pc pd C z r pp =
    let x1 = ins i (pos a) p ∷ [] in
    let x2 = ins j (pos b) p ∷ [] in
    let x3 = ins k (pos c) p ∷ [] in
    let x4 = ins l (pos d) p ∷ [] in
    let n1 = length-append C x1 in
    let n2 = length-append (C ++ x1) x2 in
    let n3 = length-append ((C ++ x1) ++ x2) x3 in
    let m = e C z (omega arith) pa pp in
    let q = f (C ++ x1) m (omega arith) pb pp in
    let t = g ((C ++ x1) ++ x2) q (omega arith) pc pp in
    h (((C ++ x1) ++ x2) ++ x3) t (omega arith) pd pp ∙ ap coded (simp append_assoc)

-- `break` and `continue`

abbrev outside : ℕ → Refusal
outside p = record { reason = OutsideLoop; place = p }

module _ (ts : List Token) (at : ℕ) (k : Token) (m : at < length ts → slice_get ts at ≡ Some k) where
  pub jump_refused : (J : Held Jump) (C : Held Instruction) (l : Bool) → l ≡ false → TranslatesJump ts at l J C J C (Err (outside k.place))
  unfolding stmt_lexemes check_stmt
  jump_refused J C l f s N p q = (
    (λ h. then_stops (needs l 16 p) _ _ _ (needs_unmet l 16 p f ∙ ap (refused 16) (sym (place_is s ts at k _ _ m h.ready.stands)))),
    (λ h. then_stops (needs l 16 p) _ _ _ (needs_unmet l 16 p f ∙ ap (refused 16) (sym (place_is s ts at k _ _ m h.ready.stands)))),
  )

  -- a jump that waits for its target
  waits : (C : List Instruction) (b : Bool) (p : ℕ) → Grows C (record { at = length C; leaves = b } ∷ []) (C ++ (ins 14 (pos 0) p ∷ [])) (λ x y. ins 14 (pos (cond b x y)) p ∷ [])
  unfolding Between patched
  waits C b p =
      let n = length-append C (ins 14 (pos 0) p ∷ []) in
      record { between = (omega arith, omega arith, tt); equal = λ x y. aimed-at C [] (ins 14 (pos 0) p) (cond b x y) }

  module _ (J L : Held Jump) (C D : Held Instruction) (l : Bool) (i q : ℕ) (f : l ≡ true) (g : Emits C 14 0 k.place D) (e : i ≡ length C.held) (n : at + 1 < length ts → q ≡ at + 1 + 1) where
    jump_worked : (s : List ℕ) (N : Held Name) (p z : ℕ) (rest : List Lexeme) (w : Kind) (b : Bool) (c : List Instruction) → drop at (lexemes s ts) ≡ sign w p ∷ sign K.Semicolon z ∷ rest →
        Placed p → C ≡ coded c → length c + 1 ≤ code_limit → length J.held + length (sign w p ∷ sign K.Semicolon z ∷ rest) ≤ J.most →
        (length J.held < J.most → L ≡ holding (J.held ++ (record { at = i; leaves = b } ∷ [])) J.most) →
        Worked s ts q (work N J C) (work N L D) (sign w p ∷ sign K.Semicolon z ∷ rest) rest c (λ x y. ins 14 (pos (cond b x y)) p ∷ [])
    jump_worked s N p z rest w b c st pl be r en kp =
        let pp : k.place ≡ p = place_is s ts at k _ _ m st in
        let len : i ≡ length c = e ∙ ap (λ (H : Held Instruction). length H.held) be in
        record {
          next = on_by s ts (at + 1) q _ _ n (next_is (lexemes s ts) at _ _ st);
          kept = take-length N.held;
          names = refl;
          entries = omega arith;
          new = record { at = length c; leaves = b } ∷ [];
          jumps = rw len at (kp (omega arith));
          waiting = omega arith;
          code = c ++ (ins 14 (pos 0) p ∷ []);
          ended = (rw pp at g) c be (omega arith) (omega arith) pl;
          grows = waits c b p;
        }

    pub jump_kept : (b : Bool) → b ≡ is_kind (seen ts at) K.Break → (length J.held < J.most → L ≡ holding (J.held ++ (record { at = i; leaves = b } ∷ [])) J.most) → TranslatesJump ts at l J C L D (Ok q)
    unfolding stmt_lexemes stmt_end stmt_code check_stmt
    jump_kept b v kp s N p z = (
      (λ h.
          let st = h.ready.stands in
          let u : b ≡ true = v ∙ ap (λ (y : Option Kind). is_kind y K.Break) (seen-sign s ts at K.Break p _ st) in (
            then-goes (needs l 16 p) _ tt (needs_met l 16 p f),
            jump_worked s N p z h.rest K.Break true h.ready.code st (placed_at (lexemes s ts) at _ _ h.ready.placed st) h.ready.begun h.ready.room h.ready.waiting (rw u at kp),
          )),
      (λ h.
          let st = h.ready.stands in
          let u : b ≡ false = v ∙ ap (λ (y : Option Kind). is_kind y K.Break) (seen-sign s ts at K.Continue p _ st) in (
            then-goes (needs l 16 p) _ tt (needs_met l 16 p f),
            jump_worked s N p z h.rest K.Continue false h.ready.code st (placed_at (lexemes s ts) at _ _ h.ready.placed st) h.ready.begun h.ready.room h.ready.waiting (rw u at kp),
          )),
    )

-- The start and the stop of a `for`.
module _ (s : List ℕ) (ts : List Token) (at name a b : ℕ) (N : Held Name) (C D : Held Instruction) (na : name < length ts → a ≡ name + 1) (nb : a < length ts → b ≡ a + 1) where
  module _ (p : ℕ) (q : ℕ × ℕ × ℕ × ℕ × ℕ) (x : Ident) (e f : Expr) (t : Stmt) (J : Held Jump) (h : StmtAt s ts at (work N J C) (for_to p q x e f t)) (w : name ≡ at + 1 + 1 + 1) where
    abbrev in_force : Scope
    in_force = scope_of s N.held

    bounds_room : expr_end f in_force (expr_end e in_force (length h.ready.code)) ≤ code_limit
    unfolding stmt_end
    bounds_room =
        let m = expr_end f in_force (expr_end e in_force (length h.ready.code)) in
        let r : stmt_end t (level ∷ for_scope x.bytes in_force) (m + 1 + 1 + 1 + 1 + 1 + 1 + 1) + 1 + 1 + 1 + 1 + 1 ≤ code_limit = h.ready.room in
        let g = stmt_grows t (level ∷ for_scope x.bytes in_force) (m + 1 + 1 + 1 + 1 + 1 + 1 + 1) in
        omega arith

    start-at : ExprAt 6 s ts b in_force C e
    unfolding stmt_lexemes
    start-at =
        let r = bounds_room in
        let g = expr_grows f in_force (expr_end e in_force (length h.ready.code)) in
        let n : drop name (lexemes s ts) ≡ ident x ∷ sign K.Assign q.2 ∷ expr_lexemes e (sign K.To q.3 ∷ expr_lexemes f (sign K.CloseParen q.4 ∷ stmt_lexemes t h.rest)) =
        rw w (next_is (lexemes s ts) (at + 1 + 1) _ _ (next_is (lexemes s ts) (at + 1) _ _ (next_is (lexemes s ts) at _ _ h.ready.stands))) in
        record {
          rest = sign K.To q.3 ∷ expr_lexemes f (sign K.CloseParen q.4 ∷ stmt_lexemes t h.rest);
          code = h.ready.code;
          placed = h.ready.placed;
          few = h.ready.few;
          grouped = h.proper.0;
          ends = ends_to e q.3 (expr_lexemes f (sign K.CloseParen q.4 ∷ stmt_lexemes t h.rest));
          stands = on_by s ts a b _ _ nb (on_by s ts name a _ _ na n);
          begun = h.ready.begun;
          room = omega arith;
        }

    module _ (v : Typed) (c : ℕ) (g : Translates 6 s ts b N C D (Ok v)) (nc : v.end < length ts → c ≡ v.end + 1) where
      stop_at : ExprAt 6 s ts c in_force D f
      unfolding start-at
      stop_at =
          let d = g e start-at in
          record {
            rest = sign K.CloseParen q.4 ∷ stmt_lexemes t h.rest;
            code = h.ready.code ++ expr_code e in_force (length h.ready.code);
            placed = h.ready.placed;
            few = h.ready.few;
            grouped = h.proper.1;
            ends = ends_close f q.4 (stmt_lexemes t h.rest);
            stands = on_by s ts v.end c _ _ nc d.1;
            begun = d.2;
            room = rw (code-length h.ready.code e in_force) bounds_room;
          }

  pub start_fails : (f : Refusal) → Translates 6 s ts b N C D (Err f) → TranslatesBounds s ts at name N C D (Err f)
  unfolding check_stmt start-at
  start_fails f g p q x e u t J h w l = then_stops (type_of e (scope_of s N.held)) _ _ _ (g e (start-at p q x e u t J h w))

  module _ (v : Typed) (c : ℕ) (E : Held Instruction) (g : Translates 6 s ts b N C D (Ok v)) (nc : v.end < length ts → c ≡ v.end + 1) where
    pub stop_fails : (f : Refusal) → Translates 6 s ts c N D E (Err f) → TranslatesBounds s ts at name N C E (Err f)
    unfolding check_stmt start-at stop_at
    stop_fails f i p q x e u t J h w l =
        then-goes (type_of e (scope_of s N.held)) _ v.kind (g e (start-at p q x e u t J h w)).0
        ∙ then_stops (type_of u (scope_of s N.held)) _ _ _ (i u (stop_at p q x e u t J h w v c g nc))

    module _ (z : Typed) (i : Translates 6 s ts c N D E (Ok z)) where
      pub bounds_unfit : (k : Token) → (at < length ts → slice_get ts at ≡ Some k) → (same_type v.kind int && same_type z.kind int) ≡ false →
          TranslatesBounds s ts at name N C E (Err (record { reason = TypeMismatch; place = k.place }))
      unfolding stmt_lexemes check_stmt start-at stop_at
      bounds_unfit k m n p q x e u t J h w l =
          let Γ = scope_of s N.held in
          then-goes (type_of e Γ) _ v.kind (g e (start-at p q x e u t J h w)).0 ∙ then-goes (type_of u Γ) _ z.kind (i u (stop_at p q x e u t J h w v c g nc)).0
          ∙ then_stops (needs (same_type v.kind int && same_type z.kind int) 15 p) _ _ _ (needs_unmet _ 15 p n ∙ ap (refused 15) (sym (place_is s ts at k _ _ m h.ready.stands)))

      pub bounds_done : (r : ℕ) → true ≡ same_type v.kind int → true ≡ same_type z.kind int → (z.end < length ts → r ≡ z.end + 1) → TranslatesBounds s ts at name N C E (Ok r)
      unfolding start-at stop_at
      bounds_done r m n o p q x e u t J h w =
          let Γ = scope_of s N.held in
          let y = h.ready.code in
          let d = g e (start-at p q x e u t J h w) in
          let j = i u (stop_at p q x e u t J h w v c g nc) in (
            d.0 ∙ ap accepted (same_type_lem v.kind int (sym m)),
            j.0 ∙ ap accepted (same_type_lem z.kind int (sym n)),
            on_by s ts z.end r _ _ o j.1,
            j.2 ∙ ap (λ (X : List Instruction). coded X) (append_assoc y (expr_code e Γ (length y)) (expr_code u Γ (length (y ++ expr_code e Γ (length y)))) ∙ rw (code-length y e Γ) refl),
          )
