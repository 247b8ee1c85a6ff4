-- The three loops.
use Rattle.std.proofs.Common.{◌≡◌, ℕ, ◌+◌, ◌<◌, ◌≤◌, Bool, true, List, [], ◌∷◌, ◌++◌, length, drop, pos, Some, Ok, Err, sym, refl, ap, ◌∙◌, append_assoc, append-nil, arith, length-append}
use lib.Seq.{take-append_seam, drop-append_seam}
use Rattle.refusal.specs.Told.{accepted}
use Rattle.refusal.specs.declared.reason.Refusal.{Refusal}
use Rattle.stacks.specs.Held.{Held, holding, cut}
use Rattle.std.specs.List.{slice_get}
use Rattle.lexer.specs.Lexeme.{Lexeme}
use Rattle.lexer.specs.Reading.{lexemes}
use Rattle.lexer.specs.declared.kind.Kind.TheVariants as K
use Rattle.lexer.specs.declared.kind.Token.{Token}
use Rattle.machine.specs.declared.instruction.Instruction.{Instruction}
use Rattle.meaning.specs.declared.operator.Scalar.TheVariants.{Bool as bool}
use Rattle.meaning.specs.Trees.{Expr, Stmt, while, do_while}
use Rattle.meaning.specs.Written.{sign, expr_lexemes, stmt_lexemes}
use Rattle.meaning.specs.Grammar.{ends_open}
use Rattle.meaning.specs.Scopes.{level}
use Rattle.meaning.specs.Check.{Scope, needs_type, check_stmt}
use Rattle.layout.proofs.Compiled.{ins, expr_end, expr_code, stmt_end, stmt_code}
use Rattle.layout.proofs.Ends.{expr_grows, stmt_grows}
use Rattle.translator.specs.Translation.{code_limit}
use Rattle.translator.specs.Code.{Placed, coded, aim, aimed, patched, Emits}
use Rattle.translator.specs.Names.{scope_of}
use Rattle.translator.specs.Statements.{Grows, work, Worked, StmtAt, StmtDone, BodyAt, ConditionAt, TranslatesCondition, TranslatesBody, Closes, test_code, advance_code, Tests, Advances, count_code, CountAt, TranslatesCount, TranslatesWhile, TranslatesDo}
use Rattle.translator.specs.declared.name.Name.{Name}
use Rattle.translator.specs.declared.pending.Jump.{Jump}
use Rattle.translator.proofs.Along.{place_is, on_by, placed_at, expr_more}
use Rattle.translator.proofs.Checked.{then_stops, then-goes}
use Rattle.translator.proofs.Emitting.{code-length}
use Rattle.translator.proofs.Growing.{looped, looped_late, stmt_ends}
use Rattle.translator.proofs.Guards.{GuardAt, tested, tested_length, guard_condition, guard_placed, guard_body}
use Rattle.translator.proofs.Leaves.{worked_same}
use Rattle.translator.proofs.Lexemes.{next_is}

-- the jumps that came since the mark, and those from before
new_ones : (J L : Held Jump) (js : List Jump) (mark : ℕ) → L ≡ holding (J.held ++ js) J.most → mark ≡ length J.held → (drop mark L.held ≡ js) × (cut mark L ≡ J)
new_ones J L js mark e m = rw (e, m) (drop-append_seam J.held js, ap (λ (ks : List Jump). holding ks J.most) (take-append_seam J.held js))

-- the stacks after a statement that leaves names and jumps as they were
pub worked_again : (s : List ℕ) (ts : List Token) (q : ℕ) (N M : Held Name) (J L : Held Jump) (B A : Held Instruction) (ls rest : List Lexeme) (C X : List Instruction) → M ≡ N → L ≡ J → drop q (lexemes s ts) ≡ rest →
    length rest ≤ length ls → A ≡ coded (C ++ X) → Worked s ts q (work N J B) (work M L A) ls rest C (λ _ _. X)
worked_again s ts q N M J L B A ls rest C X m j n l a = rw (m, j) (worked_same s ts q N J B A ls rest C X n l a)

-- a loop whose exit stands before its body; X ends a turn
ended_early : (J L G : Held Jump) (D E : Held Instruction) (T d X : List Instruction) (x : Instruction) (js : List Jump) (F : ℕ → ℕ → List Instruction) (mark i o c p : ℕ) →
    Closes L mark D i o c p G E → Grows (T ++ (x ∷ [])) js d F → D ≡ coded (d ++ X) → length (d ++ X) < code_limit → Placed o → Placed c → Placed p → i ≡ length T → L ≡ holding (J.held ++ js) J.most → mark ≡ length J.held →
    (E ≡ coded (T ++ (aim (length (d ++ X) + 1) x ∷ (F (length (d ++ X) + 1) c ++ (X ++ (ins 14 (pos o) p ∷ [])))))) × (G ≡ J)
ended_early J L G D E T d X x js F mark i o c p cl g b r po pc pp e l m =
    let k = length (d ++ X) + 1 in
    let back = ins 14 (pos o) p ∷ [] in
    let y = cl (d ++ X) b r po pc pp in
    let n = new_ones J L js mark l m in
    let q : aimed i k (patched (drop mark L.held) k c ((d ++ X) ++ back)) ≡ T ++ (aim k x ∷ (F k c ++ (X ++ back))) =
    ap (λ (a : ℕ). aimed a k (patched (drop mark L.held) k c ((d ++ X) ++ back))) e
    ∙ ap (λ (ks : List Jump). aimed (length T) k (patched ks k c ((d ++ X) ++ back))) n.0
    ∙ ap (λ (Y : List Instruction). aimed (length T) k (patched js k c Y)) (append_assoc d X back)
    ∙ looped T x js d F (X ++ back) k c g in
    (y.0 ∙ ap coded q, y.1 ∙ n.1)

-- the code of `while`, by equal positions
while_code : (o : List Instruction) (e : Expr) (t : Stmt) (Γ : Scope) (p : ℕ) (q : ℕ × ℕ) (start a b k : ℕ) → start ≡ length o → a ≡ length o + 1 → b ≡ expr_end e Γ (length o + 1) + 1 →
    k ≡ stmt_end t (level ∷ Γ) (expr_end e Γ (length o + 1) + 1) →
    ((o ++ (ins 16 (pos 0) p ∷ [])) ++ expr_code e Γ a) ++ (aim (k + 1) (ins 15 (pos 0) p) ∷ (stmt_code t (level ∷ Γ) b (k + 1) start ++ ([] ++ (ins 14 (pos start) p ∷ [])))) ≡ o ++ stmt_code (while p q e t) Γ (length o) 0 0
unfolding stmt_code
while_code o e t Γ p q start a b k es ea eb ek = rw (es, ea, eb, ek) (simp append_assoc)

-- while ( e ) s
module _ (s : List ℕ) (ts : List Token) (at start mark : ℕ) (N : Held Name) (J : Held Jump) (C A : Held Instruction) (fs : start ≡ length C.held) (fm : mark ≡ length J.held) where
  module _ (p : ℕ) (f : Emits C 16 0 p A) (q : ℕ × ℕ) (e : Expr) (t : Stmt) (h : StmtAt s ts at (work N J C) (while p q e t)) where
    abbrev ticked : List Instruction
    ticked = h.ready.code ++ (ins 16 (pos 0) p ∷ [])

    ticked-length : length ticked ≡ length h.ready.code + 1
    ticked-length = length-append h.ready.code (ins 16 (pos 0) p ∷ [])

    while_guard : GuardAt s ts at N J A p e t
    unfolding stmt_lexemes stmt_end ends_open
    while_guard =
        let Γ = scope_of s N.held in
        let o = length h.ready.code in
        let z = expr_end e Γ (o + 1) + 1 in
        let more = expr_more e (sign K.CloseParen q.1 ∷ stmt_lexemes t h.rest) in
        let en : length N.held + length (sign K.While p ∷ sign K.OpenParen q.0 ∷ expr_lexemes e (sign K.CloseParen q.1 ∷ stmt_lexemes t h.rest)) ≤ N.most = h.ready.entries in
        let wa : length J.held + length (sign K.While p ∷ sign K.OpenParen q.0 ∷ expr_lexemes e (sign K.CloseParen q.1 ∷ stmt_lexemes t h.rest)) ≤ J.most = h.ready.waiting in
        let r : stmt_end t (level ∷ Γ) z + 1 ≤ code_limit = h.ready.room in
        let r1 : stmt_end t (level ∷ Γ) z ≤ code_limit = omega arith in
        let g = stmt_grows t (level ∷ Γ) z in
        let g1 = expr_grows e Γ (o + 1) in
        let pl : Placed p = placed_at (lexemes s ts) at _ _ h.ready.placed h.ready.stands in
        record {
          word = K.While;
          round = q;
          rest = h.rest;
          code = ticked;
          placed = h.ready.placed;
          few = h.ready.few;
          grouped = h.proper.0;
          proper = h.proper.1;
          ends = h.ends;
          stands = h.ready.stands;
          begun = f h.ready.code h.ready.begun (omega arith) (omega arith) pl;
          room = rw ticked-length r1;
          entries = omega arith;
          waiting = omega arith;
        }

    module _ (l : Bool) (inside i : ℕ) (B P D : Held Instruction) (M : Held Name) (L : Held Jump) (c : TranslatesCondition s ts (at + 1) p N A B (Ok inside)) (fi : i ≡ length B.held) (g : Emits B 15 0 p P) where
      while_stops : (r : Refusal) → TranslatesBody s ts inside true (work N J P) (work M L D) (Err r) → StmtDone s ts l (work N J C) (work M L D) (while p q e t) h.rest h.ready.code (Err r)
      unfolding check_stmt while_guard guard_condition guard_body
      while_stops r b =
          then-goes (needs_type e (scope_of s N.held) bool p) _ tt (c e (guard_condition s ts at p N J A e t while_guard)).0
          ∙ then_stops (check_stmt t true (level ∷ scope_of s N.held)) _ _ _ (b t (guard_body s ts at p N J A e t while_guard inside B P c g))

      while_goes : (end : ℕ) (G : Held Jump) (E : Held Instruction) → TranslatesBody s ts inside true (work N J P) (work M L D) (Ok end) → Closes L mark D i start start p G E →
          StmtDone s ts l (work N J C) (work M G E) (while p q e t) h.rest h.ready.code (Ok end)
      unfolding check_stmt stmt_lexemes stmt_code stmt_end while_guard guard_condition guard_body
      while_goes end G E b cl =
          let Γ = scope_of s N.held in
          let o = h.ready.code in
          let T = tested s ts at p N J A e t while_guard in
          let x = ins 15 (pos 0) p in
          let cd = c e (guard_condition s ts at p N J A e t while_guard) in
          let y = b t (guard_body s ts at p N J A e t while_guard inside B P c g) in
          let v = y.3 in
          let d = v.code in
          let n = expr_end e Γ (length o + 1) + 1 in
          let z = stmt_end t (level ∷ Γ) n in
          let ln : length (T ++ (x ∷ [])) ≡ n = tested_length s ts at p N J A e t while_guard ∙ ap (λ (a : ℕ). expr_end e Γ a + 1) ticked-length in
          let ld : length d ≡ z = stmt_ends t (level ∷ Γ) (T ++ (x ∷ [])) v.new d v.grows ∙ ap (stmt_end t (level ∷ Γ)) ln in
          let ls : start ≡ length o = fs ∙ ap (λ (H : Held Instruction). length H.held) h.ready.begun in
          let li : i ≡ length T = fi ∙ ap (λ (H : Held Instruction). length H.held) cd.2 in
          let nil : d ++ [] ≡ d = append-nil d in
          let le : length (d ++ []) ≡ z = ap length nil ∙ ld in
          let r : z + 1 ≤ code_limit = h.ready.room in
          let g1 = stmt_grows t (level ∷ Γ) n in
          let g2 = expr_grows e Γ (length o + 1) in
          let pl : Placed p = guard_placed s ts at p N J A e t while_guard in
          let k = ended_early J L G D E T d [] x v.new (λ a b. stmt_code t (level ∷ Γ) (length (T ++ (x ∷ []))) a b) mark i start start p cl v.grows (v.ended ∙ ap coded (sym nil)) (omega arith) (omega arith) (omega arith) pl li v.jumps fm in
          let code : E ≡ coded (o ++ stmt_code (while p q e t) Γ (length o) 0 0) = k.0 ∙ ap coded (while_code o e t Γ p q start (length ticked) (length (T ++ (x ∷ []))) (length (d ++ [])) ls ticked-length ln le) in
          let w1 = v.waiting in
          let more = expr_more e (sign K.CloseParen q.1 ∷ stmt_lexemes t h.rest) in (
            then-goes (needs_type e Γ bool p) _ tt cd.0 ∙ then-goes (check_stmt t true (level ∷ Γ)) _ y.0 y.1 ∙ ap (λ (I : Held Name). accepted (scope_of s I.held)) (sym y.2),
            worked_again s ts end N M J G C E (stmt_lexemes (while p q e t) h.rest) h.rest o (stmt_code (while p q e t) Γ (length o) 0 0) y.2 k.1 v.next (omega arith) code,
          )

  module _ (k : Token) (m : at < length ts → slice_get ts at ≡ Some k) (f : Emits C 16 0 k.place A) where
    at_while : (p : ℕ) (r : List Lexeme) → drop at (lexemes s ts) ≡ sign K.While p ∷ r → k.place ≡ p
    at_while p r st = place_is s ts at k _ r m st

    pub while_refused : (r : Refusal) (B : Held Instruction) → TranslatesCondition s ts (at + 1) k.place N A B (Err r) → TranslatesWhile s ts at (work N J C) (work N J B) (Err r)
    unfolding check_stmt stmt_lexemes while_guard guard_condition
    while_refused r B c l p q e t h =
        let w = at_while p _ h.ready.stands in
        then_stops (needs_type e (scope_of s N.held) bool p) _ _ _ (rw w at (c e (guard_condition s ts at p N J A e t (while_guard p (rw w at f) q e t h))))

    module _ (inside i : ℕ) (B P D : Held Instruction) (M : Held Name) (L : Held Jump) (c : TranslatesCondition s ts (at + 1) k.place N A B (Ok inside)) (fi : i ≡ length B.held) (g : Emits B 15 0 k.place P) where
      pub while_fails : (r : Refusal) → TranslatesBody s ts inside true (work N J P) (work M L D) (Err r) → TranslatesWhile s ts at (work N J C) (work M L D) (Err r)
      unfolding stmt_lexemes
      while_fails r b l p q e t h =
          let w = at_while p _ h.ready.stands in while_stops p (rw w at f) q e t h l inside i B P D M L (rw w at c) fi (rw w at g) r b

      pub while_done : (end : ℕ) (G : Held Jump) (E : Held Instruction) → TranslatesBody s ts inside true (work N J P) (work M L D) (Ok end) → Closes L mark D i start start k.place G E →
          TranslatesWhile s ts at (work N J C) (work M G E) (Ok end)
      unfolding stmt_lexemes
      while_done end G E b cl l p q e t h =
          let w = at_while p _ h.ready.stands in while_goes p (rw w at f) q e t h l inside i B P D M L (rw w at c) fi (rw w at g) end G E b (rw w at cl)

-- a loop whose exit stands after its body and X
ended_late : (J L G : Held Jump) (D E : Held Instruction) (T d X : List Instruction) (x : Instruction) (js : List Jump) (F : ℕ → ℕ → List Instruction) (mark i o c p : ℕ) →
    Closes L mark D i o c p G E → Grows T js d F → D ≡ coded ((d ++ X) ++ (x ∷ [])) → length ((d ++ X) ++ (x ∷ [])) < code_limit → Placed o → Placed c → Placed p → i ≡ length (d ++ X) → L ≡ holding (J.held ++ js) J.most →
    mark ≡ length J.held →
    (E ≡ coded (T ++ (F (length ((d ++ X) ++ (x ∷ [])) + 1) c ++ (X ++ (aim (length ((d ++ X) ++ (x ∷ [])) + 1) x ∷ ins 14 (pos o) p ∷ []))))) × (G ≡ J)
ended_late J L G D E T d X x js F mark i o c p cl g b r po pc pp e l m =
    let k = length ((d ++ X) ++ (x ∷ [])) + 1 in
    let back = ins 14 (pos o) p ∷ [] in
    let y = cl ((d ++ X) ++ (x ∷ [])) b r po pc pp in
    let n = new_ones J L js mark l m in
    let flat : ((d ++ X) ++ (x ∷ [])) ++ back ≡ d ++ (X ++ (x ∷ back)) = simp append_assoc in
    let q : aimed i k (patched (drop mark L.held) k c (((d ++ X) ++ (x ∷ [])) ++ back)) ≡ T ++ (F k c ++ (X ++ (aim k x ∷ back))) =
    ap (λ (ks : List Jump). aimed i k (patched ks k c (((d ++ X) ++ (x ∷ [])) ++ back))) n.0
    ∙ ap (λ (Y : List Instruction). aimed i k (patched js k c Y)) flat
    ∙ looped_late T x js d F X back k c i g (e ∙ length-append d X) in
    (y.0 ∙ ap coded q, y.1 ∙ n.1)

-- the code of `do`, by equal positions
do_code : (o : List Instruction) (t : Stmt) (e : Expr) (Γ Δ : Scope) (p : ℕ) (q : ℕ × ℕ × ℕ × ℕ) (start a n m k : ℕ) → start ≡ length o → a ≡ length o + 1 → n ≡ stmt_end t (level ∷ Γ) (length o + 1) → m ≡ n → Δ ≡ Γ →
    k ≡ expr_end e Γ n + 1 →
    (o ++ (ins 16 (pos 0) p ∷ [])) ++ (stmt_code t (level ∷ Γ) a (k + 1) n ++ (expr_code e Δ m ++ (aim (k + 1) (ins 15 (pos 0) p) ∷ ins 14 (pos start) p ∷ []))) ≡ o ++ stmt_code (do_while p t q e) Γ (length o) 0 0
unfolding stmt_code
do_code o t e Γ Δ p q start a n m k es ea en em ed ek = rw (es, ea, ed, ek, em, en) (simp append_assoc)

-- do s while ( e ) ;
module _ (s : List ℕ) (ts : List Token) (at start mark : ℕ) (N : Held Name) (J : Held Jump) (C A : Held Instruction) (fs : start ≡ length C.held) (fm : mark ≡ length J.held) where
  module _ (p : ℕ) (f : Emits C 16 0 p A) (t : Stmt) (q : ℕ × ℕ × ℕ × ℕ) (e : Expr) (h : StmtAt s ts at (work N J C) (do_while p t q e)) where
    abbrev begun : List Instruction
    begun = h.ready.code ++ (ins 16 (pos 0) p ∷ [])

    begun-length : length begun ≡ length h.ready.code + 1
    begun-length = length-append h.ready.code (ins 16 (pos 0) p ∷ [])

    abbrev following : List Lexeme
    following = sign K.While q.0 ∷ sign K.OpenParen q.1 ∷ expr_lexemes e (sign K.CloseParen q.2 ∷ sign K.Semicolon q.3 ∷ h.rest)

    do_body : BodyAt s ts (at + 1) (work N J A) t
    unfolding stmt_lexemes stmt_end
    do_body =
        let Γ = scope_of s N.held in
        let o = length h.ready.code in
        let m = stmt_end t (level ∷ Γ) (o + 1) in
        let en : length N.held + length (sign K.Do p ∷ stmt_lexemes t following) ≤ N.most = h.ready.entries in
        let wa : length J.held + length (sign K.Do p ∷ stmt_lexemes t following) ≤ J.most = h.ready.waiting in
        let r : expr_end e Γ m + 1 + 1 ≤ code_limit = h.ready.room in
        let g = expr_grows e Γ m in
        let g1 = stmt_grows t (level ∷ Γ) (o + 1) in
        let r1 : m ≤ code_limit = omega arith in
        let pl : Placed p = placed_at (lexemes s ts) at _ _ h.ready.placed h.ready.stands in
        record {
          rest = following;
          proper = h.proper.0;
          ends = λ _. refl;
          spare = omega arith;
          ready = record {
            code = begun;
            placed = h.ready.placed;
            few = h.ready.few;
            stands = next_is (lexemes s ts) at _ _ h.ready.stands;
            begun = f h.ready.code h.ready.begun (omega arith) (omega arith) pl;
            room = rw begun-length r1;
            entries = omega arith;
            waiting = omega arith;
          };
        }

    do_stops : (r : Refusal) (M : Held Name) (L : Held Jump) (D : Held Instruction) (l : Bool) → TranslatesBody s ts (at + 1) true (work N J A) (work M L D) (Err r) →
        StmtDone s ts l (work N J C) (work M L D) (do_while p t q e) h.rest h.ready.code (Err r)
    unfolding check_stmt do_body
    do_stops r M L D l b = then_stops (check_stmt t true (level ∷ scope_of s N.held)) _ _ _ (b t do_body)

    module _ (l : Bool) (end next z i : ℕ) (M : Held Name) (L : Held Jump) (D E F : Held Instruction) (b : TranslatesBody s ts (at + 1) true (work N J A) (work M L D) (Ok end))
        (fn : next ≡ length D.held) (nz : end < length ts → z ≡ end + 1) where
      same_scope : scope_of s M.held ≡ scope_of s N.held
      unfolding do_body
      same_scope = ap (λ (I : Held Name). scope_of s I.held) (b t do_body).2

      body_length : length (b t do_body).3.code ≡ stmt_end t (level ∷ scope_of s N.held) (length h.ready.code + 1)
      unfolding do_body
      body_length =
          let v = (b t do_body).3 in
          stmt_ends t (level ∷ scope_of s N.held) begun v.new v.code v.grows ∙ ap (stmt_end t (level ∷ scope_of s N.held)) begun-length

      do_condition : ConditionAt s ts z (scope_of s M.held) D e
      unfolding stmt_end do_body
      do_condition =
          let Γ = scope_of s N.held in
          let v = (b t do_body).3 in
          let m = stmt_end t (level ∷ Γ) (length h.ready.code + 1) in
          let r : expr_end e Γ m + 1 + 1 ≤ code_limit = h.ready.room in
          let r1 : expr_end e Γ m ≤ code_limit = omega arith in
          record {
            opened = q.1;
            closed = q.2;
            rest = sign K.Semicolon q.3 ∷ h.rest;
            code = v.code;
            placed = h.ready.placed;
            few = rw same_scope h.ready.few;
            grouped = h.proper.1;
            stands = on_by s ts end z _ _ nz v.next;
            begun = v.ended;
            room = rw (same_scope, body_length) r1;
          }

      do_unfit : (r : Refusal) → TranslatesCondition s ts z p M D E (Err r) → StmtDone s ts l (work N J C) (work M L E) (do_while p t q e) h.rest h.ready.code (Err r)
      unfolding check_stmt do_body do_condition
      do_unfit r c =
          let Γ = scope_of s N.held in
          let y = b t do_body in
          then-goes (check_stmt t true (level ∷ Γ)) _ y.0 y.1
          ∙ then_stops (needs_type e Γ bool p) _ _ _ (ap (λ (Δ : Scope). needs_type e Δ bool p) (sym same_scope) ∙ c e do_condition)

      do_goes : (semicolon w : ℕ) (G : Held Jump) (H : Held Instruction) → TranslatesCondition s ts z p M D E (Ok semicolon) → i ≡ length E.held → Emits E 15 0 p F → Closes L mark F i start next p G H →
          (semicolon < length ts → w ≡ semicolon + 1) → StmtDone s ts l (work N J C) (work M G H) (do_while p t q e) h.rest h.ready.code (Ok w)
      unfolding check_stmt stmt_lexemes stmt_code stmt_end do_body do_condition
      do_goes semicolon w G H c fi g cl nw =
          let Γ = scope_of s N.held in
          let Δ = scope_of s M.held in
          let o = h.ready.code in
          let y = b t do_body in
          let v = y.3 in
          let d = v.code in
          let cd = c e do_condition in
          let X = expr_code e Δ (length d) in
          let x = ins 15 (pos 0) p in
          let m = stmt_end t (level ∷ Γ) (length o + 1) in
          let r : expr_end e Γ m + 1 + 1 ≤ code_limit = h.ready.room in
          let g1 = expr_grows e Γ m in
          let g2 = stmt_grows t (level ∷ Γ) (length o + 1) in
          let ld : length d ≡ m = body_length in
          let lx : length (d ++ X) ≡ expr_end e Γ m = code-length d e Δ ∙ rw (same_scope, ld) refl in
          let ly : length ((d ++ X) ++ (x ∷ [])) ≡ expr_end e Γ m + 1 = length-append (d ++ X) (x ∷ []) ∙ ap (λ (a : ℕ). a + 1) lx in
          let ls : start ≡ length o = fs ∙ ap (λ (I : Held Instruction). length I.held) h.ready.begun in
          let ln : next ≡ m = fn ∙ ap (λ (I : Held Instruction). length I.held) v.ended ∙ ld in
          let li : i ≡ length (d ++ X) = fi ∙ ap (λ (I : Held Instruction). length I.held) cd.2 in
          let pl : Placed p = placed_at (lexemes s ts) at _ _ h.ready.placed h.ready.stands in
          let em : F ≡ coded ((d ++ X) ++ (x ∷ [])) = g (d ++ X) cd.2 (omega arith) (omega arith) pl in
          let k = ended_late J L G F H begun d X x v.new (λ a b. stmt_code t (level ∷ Γ) (length begun) a b) mark i start next p cl v.grows em (omega arith) (omega arith) (omega arith) pl li v.jumps fm in
          let code : H ≡ coded (o ++ stmt_code (do_while p t q e) Γ (length o) 0 0) =
          k.0 ∙ ap coded (do_code o t e Γ Δ p q start (length begun) next (length d) (length ((d ++ X) ++ (x ∷ []))) ls begun-length ln (ld ∙ sym ln) same_scope (rw ln ly)) in
          let w1 = v.waiting in
          let more = expr_more e (sign K.CloseParen q.2 ∷ sign K.Semicolon q.3 ∷ h.rest) in (
            then-goes (check_stmt t true (level ∷ Γ)) _ y.0 y.1 ∙ then-goes (needs_type e Γ bool p) _ tt (ap (λ (Θ : Scope). needs_type e Θ bool p) (sym same_scope) ∙ cd.0)
                ∙ ap accepted (sym same_scope),
            worked_again s ts w N M J G C H (stmt_lexemes (do_while p t q e) h.rest) h.rest o (stmt_code (do_while p t q e) Γ (length o) 0 0) y.2 k.1 (on_by s ts semicolon w _ _ nw cd.1) (omega arith) code,
          )

  module _ (k : Token) (m : at < length ts → slice_get ts at ≡ Some k) (f : Emits C 16 0 k.place A) where
    at_do : (p : ℕ) (r : List Lexeme) → drop at (lexemes s ts) ≡ sign K.Do p ∷ r → k.place ≡ p
    at_do p r st = place_is s ts at k _ r m st

    pub do_fails : (r : Refusal) (M : Held Name) (L : Held Jump) (D : Held Instruction) → TranslatesBody s ts (at + 1) true (work N J A) (work M L D) (Err r) → TranslatesDo s ts at (work N J C) (work M L D) (Err r)
    unfolding stmt_lexemes
    do_fails r M L D b l p t q e h = let w = at_do p _ h.ready.stands in do_stops p (rw w at f) t q e h r M L D l b

    module _ (end next z : ℕ) (M : Held Name) (L : Held Jump) (D E : Held Instruction) (b : TranslatesBody s ts (at + 1) true (work N J A) (work M L D) (Ok end)) (fn : next ≡ length D.held) (nz : end < length ts → z ≡ end + 1) where
      pub do_refused : (r : Refusal) → TranslatesCondition s ts z k.place M D E (Err r) → TranslatesDo s ts at (work N J C) (work M L E) (Err r)
      unfolding stmt_lexemes
      do_refused r c l p t q e h = let w = at_do p _ h.ready.stands in do_unfit p (rw w at f) t q e h l end next z 0 M L D E E b fn nz r (rw w at c)

      pub do_done : (semicolon w i : ℕ) (F : Held Instruction) (G : Held Jump) (H : Held Instruction) → TranslatesCondition s ts z k.place M D E (Ok semicolon) → i ≡ length E.held → Emits E 15 0 k.place F →
          Closes L mark F i start next k.place G H → (semicolon < length ts → w ≡ semicolon + 1) → TranslatesDo s ts at (work N J C) (work M G H) (Ok w)
      unfolding stmt_lexemes
      do_done semicolon w i F G H c fi g cl nw l p t q e h =
          let v = at_do p _ h.ready.stands in
          do_goes p (rw v at f) t q e h l end next z i M L D E F b fn nz semicolon w G H (rw v at c) fi (rw v at g) (rw v at cl) nw

-- the code of the turns of a `for`, by equal positions
count_code_lem : (o : List Instruction) (t : Stmt) (Γ : Scope) (v p start a n k : ℕ) → start ≡ length o → a ≡ length o + 1 + 1 + 1 + 1 + 1 → n ≡ stmt_end t (level ∷ Γ) (length o + 1 + 1 + 1 + 1 + 1) →
    k ≡ stmt_end t (level ∷ Γ) (length o + 1 + 1 + 1 + 1 + 1) + 1 + 1 + 1 + 1 →
    (o ++ test_code v p) ++ (aim (k + 1) (ins 15 (pos 0) p) ∷ (stmt_code t (level ∷ Γ) a (k + 1) n ++ (advance_code v p ++ (ins 14 (pos start) p ∷ [])))) ≡ o ++ count_code t Γ v p (length o)
count_code_lem o t Γ v p start a n k es ea en ek = rw (es, ea, en, ek) (append_assoc o (test_code v p) _)

-- the turns of a `for`
module _ (s : List ℕ) (ts : List Token) (at start mark v p i : ℕ) (N : Held Name) (J : Held Jump) (C A B : Held Instruction) (fs : start ≡ length C.held) (fm : mark ≡ length J.held)
    (f : Tests C v p A) (fi : i ≡ length A.held) (g : Emits A 15 0 p B) where
  module _ (t : Stmt) (h : CountAt s ts at p (work N J C) t) where
    abbrev tried : List Instruction
    tried = h.ready.code ++ test_code v p

    count_tested : length (tried ++ (ins 15 (pos 0) p ∷ [])) ≡ length h.ready.code + 1 + 1 + 1 + 1 + 1
    count_tested =
        let a = length-append h.ready.code (test_code v p) in
        let b = length-append tried (ins 15 (pos 0) p ∷ []) in
        omega arith

    count_room : stmt_end t (level ∷ scope_of s N.held) (length h.ready.code + 1 + 1 + 1 + 1 + 1) + 1 + 1 + 1 + 1 + 1 ≤ code_limit
    count_room = h.ready.room

    count_begun : A ≡ coded tried
    count_begun =
        let r = count_room in
        let gr = stmt_grows t (level ∷ scope_of s N.held) (length h.ready.code + 1 + 1 + 1 + 1 + 1) in
        f h.ready.code h.ready.begun (omega arith) h.place

    count_body : BodyAt s ts at (work N J B) t
    count_body =
        let r = count_room in
        let n = count_tested in
        let m = length-append tried (ins 15 (pos 0) p ∷ []) in
        let gr = stmt_grows t (level ∷ scope_of s N.held) (length h.ready.code + 1 + 1 + 1 + 1 + 1) in
        let r1 : stmt_end t (level ∷ scope_of s N.held) (length h.ready.code + 1 + 1 + 1 + 1 + 1) ≤ code_limit = omega arith in
        record {
          rest = h.rest;
          proper = h.proper;
          ends = h.ends;
          spare = h.spare;
          ready = record {
            code = tried ++ (ins 15 (pos 0) p ∷ []);
            placed = h.ready.placed;
            few = h.ready.few;
            stands = h.ready.stands;
            begun = g tried count_begun (omega arith) (omega arith) h.place;
            room = rw n r1;
            entries = h.ready.entries;
            waiting = h.ready.waiting;
          };
        }

  pub count_fails : (r : Refusal) (M : Held Name) (L : Held Jump) (D : Held Instruction) → TranslatesBody s ts at true (work N J B) (work M L D) (Err r) → TranslatesCount s ts at v p (work N J C) (work M L D) (Err r)
  unfolding count_body
  count_fails r M L D b t h = b t (count_body t h)

  pub count_done : (end next : ℕ) (M : Held Name) (L G : Held Jump) (D E H : Held Instruction) → TranslatesBody s ts at true (work N J B) (work M L D) (Ok end) → next ≡ length D.held → Advances D v p E →
      Closes L mark E i start next p G H → TranslatesCount s ts at v p (work N J C) (work M G H) (Ok end)
  unfolding count_body
  count_done end next M L G D E H b fn ad cl t h =
      let Γ = scope_of s N.held in
      let o = h.ready.code in
      let T = tried t h in
      let x = ins 15 (pos 0) p in
      let y = b t (count_body t h) in
      let u = y.3 in
      let d = u.code in
      let X = advance_code v p in
      let z = stmt_end t (level ∷ Γ) (length o + 1 + 1 + 1 + 1 + 1) in
      let ct = count_tested t h in
      let r : z + 1 + 1 + 1 + 1 + 1 ≤ code_limit = h.ready.room in
      let g1 = stmt_grows t (level ∷ Γ) (length o + 1 + 1 + 1 + 1 + 1) in
      let ld : length d ≡ z = stmt_ends t (level ∷ Γ) (T ++ (x ∷ [])) u.new d u.grows ∙ ap (stmt_end t (level ∷ Γ)) ct in
      let lx : length (d ++ X) ≡ z + 1 + 1 + 1 + 1 = let a = length-append d X in omega arith in
      let ls : start ≡ length o = fs ∙ ap (λ (I : Held Instruction). length I.held) h.ready.begun in
      let ln : next ≡ z = fn ∙ ap (λ (I : Held Instruction). length I.held) u.ended ∙ ld in
      let li : i ≡ length T = fi ∙ ap (λ (I : Held Instruction). length I.held) (count_begun t h) in
      let em : E ≡ coded (d ++ X) = ad d u.ended (omega arith) h.place in
      let k = ended_early J L G E H T d X x u.new (λ a b. stmt_code t (level ∷ Γ) (length (T ++ (x ∷ []))) a b) mark i start next p cl u.grows em (omega arith) (omega arith) (omega arith) h.place li u.jumps fm in
      let code : H ≡ coded (o ++ count_code t Γ v p (length o)) = k.0 ∙ ap coded (count_code_lem o t Γ v p start (length (T ++ (x ∷ []))) next (length (d ++ X)) ls ct ln lx) in
      let w1 = u.waiting in
      let whole : work M G H ≡ work N J (coded (o ++ count_code t Γ v p (length o))) = rw (y.2, k.1, code) refl in
      (y.0, y.1, u.next, omega arith, whole)
