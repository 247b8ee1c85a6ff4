-- `for`: its names, its start and stop, and its turns.
use Rattle.std.proofs.Common.{◌≡◌, ℕ, ◌+◌, ◌<◌, ◌≤◌, Bool, true, false, List, [], ◌∷◌, ◌++◌, length, take, drop, pos, Some, Ok, Err, sym, refl, ap, ◌∙◌, append_assoc, arith, length-append}
use lib.Seq.{take-append_seam}
use Rattle.std.proofs.lemmas.Bool.Decides.{nat_tests}
use Rattle.refusal.specs.Told.{accepted, refused}
use Rattle.refusal.specs.declared.reason.Refusal.{Refusal}
use Rattle.refusal.specs.declared.reason.Reason.TheVariants.{TooManyCells}
use Rattle.stacks.specs.Held.{Held, cut}
use Rattle.std.specs.List.{slice_get}
use Rattle.lexer.specs.Lexeme.{Lexeme}
use Rattle.lexer.specs.Reading.{lexemes}
use Rattle.lexer.specs.declared.kind.Kind.TheVariants as K
use Rattle.lexer.specs.declared.kind.Token.{Token}
use Rattle.machine.specs.declared.instruction.Instruction.{Instruction}
use Rattle.meaning.specs.declared.operator.Scalar.TheVariants.{Int as int}
use Rattle.meaning.specs.Trees.{Ident, Expr, Stmt, for_to}
use Rattle.meaning.specs.Written.{sign, ident, expr_lexemes, stmt_lexemes}
use Rattle.meaning.specs.Grammar.{ends_open}
use Rattle.meaning.specs.Scopes.{level, stop, cells}
use Rattle.meaning.specs.Scopes as Scopes
use Rattle.meaning.specs.Check.{Scope, then, needs, room, type_of, check_stmt}
use Rattle.layout.proofs.Compiled.{ins, expr_end, expr_code, for_scope, stmt_end, stmt_code}
use Rattle.layout.proofs.Ends.{stmt_grows}
use Rattle.translator.specs.Translation.{code_limit}
use Rattle.translator.specs.Code.{Placed, coded, Emits}
use Rattle.translator.specs.Names.{scope_of, Enters}
use Rattle.translator.specs.Statements.{Work, work, StmtAt, StmtDone, count_code, CountAt, TranslatesCount, TranslatesBounds, TranslatesFor}
use Rattle.translator.specs.declared.name.Name.{Name}
use Rattle.translator.specs.declared.pending.Jump.{Jump}
use Rattle.translator.proofs.Along.{place_is, on_by, placed_at, expr_more}
use Rattle.translator.proofs.Checked.{then_stops, then-goes, needs_met, needs_unmet}
use Rattle.translator.proofs.Emitting.{code-length}
use Rattle.translator.proofs.Levels.{Entered, entered, restored}
use Rattle.translator.proofs.Lexemes.{inside, next_is}
use Rattle.translator.proofs.Repeats.{worked_again}

-- room for two more cells
room_for : (Γ : Scope) → cells Γ ≤ 62 → room 2 Γ ≡ true
unfolding room
room_for Γ h = grind (arith, nat_tests)

no_room_for : (Γ : Scope) → 62 < cells Γ → room 2 Γ ≡ false
unfolding room
no_room_for Γ h = grind (arith, nat_tests)

for_cells : (x : List ℕ) (Γ : Scope) → cells (for_scope x Γ) ≡ cells Γ + 1 + 1
unfolding cells
for_cells x Γ = omega arith

-- the code of the start and the stop
bounds_length : (o : List Instruction) (a b : Expr) (Γ : Scope) → length (o ++ (expr_code a Γ (length o) ++ expr_code b Γ (expr_end a Γ (length o)))) ≡ expr_end b Γ (expr_end a Γ (length o))
bounds_length o a b Γ =
    let X = expr_code a Γ (length o) in
    let n : length (o ++ X) ≡ expr_end a Γ (length o) = code-length o a Γ in
    ap length (sym (append_assoc o X (expr_code b Γ (expr_end a Γ (length o))))) ∙ ap (λ (m : ℕ). length ((o ++ X) ++ expr_code b Γ m)) (sym n) ∙ code-length (o ++ X) b Γ ∙ ap (expr_end b Γ) n

-- the code of `for`, by equal positions and names
for_code : (o : List Instruction) (a b : Expr) (t : Stmt) (Γ Θ : Scope) (p n : ℕ) (q : ℕ × ℕ × ℕ × ℕ × ℕ) (x : Ident) → Θ ≡ for_scope x.bytes Γ → n ≡ expr_end b Γ (expr_end a Γ (length o)) + 1 + 1 →
    (((o ++ (expr_code a Γ (length o) ++ expr_code b Γ (expr_end a Γ (length o)))) ++ (ins 2 (pos (cells Γ + 1)) x.place ∷ [])) ++ (ins 2 (pos (cells Γ)) x.place ∷ [])) ++ count_code t Θ (cells Γ) p n
    ≡ o ++ stmt_code (for_to p q x a b t) Γ (length o) 0 0
unfolding stmt_code
for_code o a b t Γ Θ p n q x e f = rw (e, f) (simp append_assoc)

module _ (s : List ℕ) (ts : List Token) (at b name : ℕ) (N : Held Name) (J : Held Jump) (C D : Held Instruction)
    (nb : at + 1 < length ts → b ≡ at + 1 + 1) (nn : b < length ts → name ≡ b + 1) where
  -- where the name stands
  module _ (p : ℕ) (q : ℕ × ℕ × ℕ × ℕ × ℕ) (x : Ident) (e f : Expr) (t : Stmt) (h : StmtAt s ts at (work N J C) (for_to p q x e f t)) where
    abbrev after_name : List Lexeme
    after_name = sign K.Assign q.2 ∷ expr_lexemes e (sign K.To q.3 ∷ expr_lexemes f (sign K.CloseParen q.4 ∷ stmt_lexemes t h.rest))

    second_place : drop (at + 1) (lexemes s ts) ≡ sign K.OpenParen q.0 ∷ sign K.Int q.1 ∷ ident x ∷ after_name
    unfolding stmt_lexemes
    second_place = next_is (lexemes s ts) at _ _ h.ready.stands

    third_place : drop b (lexemes s ts) ≡ sign K.Int q.1 ∷ ident x ∷ after_name
    third_place = on_by s ts (at + 1) b _ _ nb second_place

    name_place : drop name (lexemes s ts) ≡ ident x ∷ after_name
    name_place = on_by s ts b name _ _ nn third_place

    name_is : name ≡ at + 1 + 1 + 1
    name_is = nn (inside s ts b _ _ third_place) ∙ ap (λ (m : ℕ). m + 1) (nb (inside s ts (at + 1) _ _ second_place))

  pub for_unbound : (r : Refusal) → TranslatesBounds s ts at name N C D (Err r) → TranslatesFor s ts at (work N J C) (work N J D) (Err r)
  for_unbound r g l p q x e f t h = g p q x e f t J h (name_is p q x e f t h) l

  module _ (within cell : ℕ) (g : TranslatesBounds s ts at name N C D (Ok within)) (ce : cell ≡ cells (scope_of s N.held)) where
    pub for_full : (k : Token) → (name < length ts → slice_get ts name ≡ Some k) → 62 < cell → TranslatesFor s ts at (work N J C) (work N J D) (Err (record { reason = TooManyCells; place = k.place }))
    unfolding check_stmt
    for_full k m o l p q x e f t h =
        let Γ = scope_of s N.held in
        let d = g p q x e f t J h (name_is p q x e f t h) in
        let w : k.place ≡ x.place = place_is s ts name k _ _ m (name_place p q x e f t h) in
        then-goes (type_of e Γ) _ int d.0 ∙ then-goes (type_of f Γ) _ int d.1 ∙ then-goes (needs true 15 p) _ tt (needs_met true 15 p refl)
        ∙ then_stops (needs (room 2 Γ) 17 x.place) _ _ _ (needs_unmet (room 2 Γ) 17 x.place (no_room_for Γ (rw ce at o)) ∙ ap (refused 17) (sym w))

    -- the names and the code of the turns
    module _ (o : cells (scope_of s N.held) ≤ 62) (N1 N2 N3 : Held Name) (E F : Held Instruction) (y1 : Enters s N level N1) (y3 : Enters s N2 (stop int) N3)
        (p : ℕ) (q : ℕ × ℕ × ℕ × ℕ × ℕ) (x : Ident) (e f : Expr) (t : Stmt) (h : StmtAt s ts at (work N J C) (for_to p q x e f t)) (y2 : Enters s N1 (Scopes.variable x.bytes int) N2)
        (m1 : Emits D 2 (cells (scope_of s N.held) + 1) x.place E) (m2 : Emits E 2 (cells (scope_of s N.held)) x.place F) where
      abbrev in_force : Scope
      in_force = scope_of s N.held

      for_entries : length N.held + length (stmt_lexemes t h.rest) + 1 + 1 + 1 + 1 ≤ N.most
      unfolding stmt_lexemes
      for_entries =
          let rest = stmt_lexemes t h.rest in
          let ls = expr_lexemes f (sign K.CloseParen q.4 ∷ rest) in
          let en : length N.held + length (sign K.For p ∷ sign K.OpenParen q.0 ∷ sign K.Int q.1 ∷ ident x ∷ sign K.Assign q.2 ∷ expr_lexemes e (sign K.To q.3 ∷ ls)) ≤ N.most = h.ready.entries in
          let a = expr_more f (sign K.CloseParen q.4 ∷ rest) in
          let c = expr_more e (sign K.To q.3 ∷ ls) in omega arith

      one : Entered s N N1 level
      one = let r = for_entries in entered s N N1 level y1 (omega arith)

      two : Entered s N1 N2 (Scopes.variable x.bytes int)
      two = let r = for_entries in let c = one.count in let m = one.most in entered s N1 N2 (Scopes.variable x.bytes int) y2 (omega arith)

      three : Entered s N2 N3 (stop int)
      three =
          let r = for_entries in
          let c = one.count in
          let m = one.most in
          let c2 = two.count in
          let m2 = two.most in entered s N2 N3 (stop int) y3 (omega arith)

      for_scope_lem : scope_of s N3.held ≡ for_scope x.bytes in_force
      for_scope_lem = three.scope ∙ ap (λ (Θ : Scope). stop int ∷ Θ) (two.scope ∙ ap (λ (Θ : Scope). Scopes.variable x.bytes int ∷ Θ) one.scope)

      -- the names from before, once the others are cut off
      for_restored : (mark : ℕ) → mark ≡ length N.held → cut mark N3 ≡ N
      for_restored mark m =
          let k : N3.held ≡ N1.held ++ (two.name ∷ three.name ∷ []) =
          three.held ∙ ap (λ (ns : List Name). ns ++ (three.name ∷ [])) two.held ∙ append_assoc N1.held (two.name ∷ []) (three.name ∷ []) in
          restored s N N1 N3 level mark one (ap (take (length N1.held)) k ∙ take-append_seam N1.held (two.name ∷ three.name ∷ [])) (three.most ∙ two.most) m

      abbrev bounded : List Instruction
      bounded = h.ready.code ++ (expr_code e in_force (length h.ready.code) ++ expr_code f in_force (expr_end e in_force (length h.ready.code)))

      abbrev stored : List Instruction
      stored = (bounded ++ (ins 2 (pos (cells in_force + 1)) x.place ∷ [])) ++ (ins 2 (pos (cells in_force)) x.place ∷ [])

      stored-length : length stored ≡ expr_end f in_force (expr_end e in_force (length h.ready.code)) + 1 + 1
      stored-length =
          let a = bounds_length h.ready.code e f in_force in
          let b = length-append bounded (ins 2 (pos (cells in_force + 1)) x.place ∷ []) in
          let c = length-append (bounded ++ (ins 2 (pos (cells in_force + 1)) x.place ∷ [])) (ins 2 (pos (cells in_force)) x.place ∷ []) in omega arith

      count_at : CountAt s ts within p (work N3 J F) t
      unfolding stmt_lexemes stmt_end ends_open
      count_at =
          let d = g p q x e f t J h (name_is p q x e f t h) in
          let w = expr_end f in_force (expr_end e in_force (length h.ready.code)) in
          let r : stmt_end t (level ∷ for_scope x.bytes in_force) (w + 1 + 1 + 1 + 1 + 1 + 1 + 1) + 1 + 1 + 1 + 1 + 1 ≤ code_limit = h.ready.room in
          let gr = stmt_grows t (level ∷ for_scope x.bytes in_force) (w + 1 + 1 + 1 + 1 + 1 + 1 + 1) in
          let bl = bounds_length h.ready.code e f in_force in
          let b2 = length-append bounded (ins 2 (pos (cells in_force + 1)) x.place ∷ []) in
          let pl : Placed x.place = placed_at (lexemes s ts) name _ _ h.ready.placed (name_place p q x e f t h) in
          let st = m1 bounded d.3 (omega arith) (omega arith) pl in
          let su = m2 (bounded ++ (ins 2 (pos (cells in_force + 1)) x.place ∷ [])) st (omega arith) (omega arith) pl in
          let rest = stmt_lexemes t h.rest in
          let ls = expr_lexemes f (sign K.CloseParen q.4 ∷ rest) in
          let wa : length J.held + length (sign K.For p ∷ sign K.OpenParen q.0 ∷ sign K.Int q.1 ∷ ident x ∷ sign K.Assign q.2 ∷ expr_lexemes e (sign K.To q.3 ∷ ls)) ≤ J.most = h.ready.waiting in
          let a = expr_more f (sign K.CloseParen q.4 ∷ rest) in
          let c = expr_more e (sign K.To q.3 ∷ ls) in
          let en = for_entries in
          let c1 = one.count in
          let c2 = two.count in
          let c3 = three.count in
          let n1 = one.most in
          let n2 = two.most in
          let n3 = three.most in
          let fc = for_cells x.bytes in_force in
          record {
            rest = h.rest;
            proper = h.proper.2;
            ends = h.ends;
            place = placed_at (lexemes s ts) at _ _ h.ready.placed h.ready.stands;
            spare = omega arith;
            ready = record { code = stored; placed = h.ready.placed; few = rw for_scope_lem (omega arith); stands = d.2; begun = su; room = rw (for_scope_lem, stored-length) r; entries = omega arith; waiting = omega arith };
          }

      module _ (l : Bool) (P : Held Name) (H : Held Jump) (G : Held Instruction) where
        checked : check_stmt (for_to p q x e f t) l in_force ≡ then (check_stmt t true (level ∷ for_scope x.bytes in_force)) (λ _. accepted in_force)
        unfolding check_stmt
        checked =
            let d = g p q x e f t J h (name_is p q x e f t h) in
            then-goes (type_of e in_force) _ int d.0 ∙ then-goes (type_of f in_force) _ int d.1 ∙ then-goes (needs true 15 p) _ tt (needs_met true 15 p refl)
            ∙ then-goes (needs (room 2 in_force) 17 x.place) _ tt (needs_met (room 2 in_force) 17 x.place (room_for in_force o))

        for_stops : (r : Refusal) → TranslatesCount s ts within (cells in_force) p (work N3 J F) (work P H G) (Err r) → StmtDone s ts l (work N J C) (work P H G) (for_to p q x e f t) h.rest h.ready.code (Err r)
        unfolding count_at
        for_stops r c =
            checked ∙ then_stops (check_stmt t true (level ∷ for_scope x.bytes in_force)) _ _ _ (ap (λ (Θ : Scope). check_stmt t true (level ∷ Θ)) (sym for_scope_lem) ∙ c t count_at)

        for_goes : (mark end : ℕ) (Q : Held Name) → mark ≡ length N.held → Q ≡ cut mark P → TranslatesCount s ts within (cells in_force) p (work N3 J F) (work P H G) (Ok end) →
            StmtDone s ts l (work N J C) (work Q H G) (for_to p q x e f t) h.rest h.ready.code (Ok end)
        unfolding stmt_lexemes stmt_code count_at
        for_goes mark end Q m c i =
            let d = i t count_at in
            let a = h.ready.code in
            let back : Q ≡ N = c ∙ ap (cut mark) (ap (λ (V : Work). V.names) d.4) ∙ for_restored mark m in
            let code : G ≡ coded (a ++ stmt_code (for_to p q x e f t) in_force (length a) 0 0) =
            ap (λ (V : Work). V.code) d.4 ∙ ap coded (for_code a e f t in_force (scope_of s N3.held) p (length stored) q x for_scope_lem stored-length) in
            let w1 = d.3 in
            let rest = stmt_lexemes t h.rest in
            let a1 = expr_more f (sign K.CloseParen q.4 ∷ rest) in
            let a2 = expr_more e (sign K.To q.3 ∷ expr_lexemes f (sign K.CloseParen q.4 ∷ rest)) in (
              checked ∙ then-goes (check_stmt t true (level ∷ for_scope x.bytes in_force)) _ d.0 (ap (λ (Θ : Scope). check_stmt t true (level ∷ Θ)) (sym for_scope_lem) ∙ d.1)
                  ∙ ap (λ (I : Held Name). accepted (scope_of s I.held)) (sym back),
              worked_again s ts end N Q J H C G (stmt_lexemes (for_to p q x e f t) h.rest) h.rest a (stmt_code (for_to p q x e f t) in_force (length a) 0 0) back (ap (λ (V : Work). V.jumps) d.4) d.2 (omega arith) code,
            )

    module _ (k n : Token) (mk : at < length ts → slice_get ts at ≡ Some k) (mn : name < length ts → slice_get ts name ≡ Some n) (o : cell ≤ 62) (N1 N2 N3 P : Held Name) (H : Held Jump) (E F G : Held Instruction) (y1 : Enters s N level N1)
        (y2 : (x : Ident) (ls : List Lexeme) → drop name (lexemes s ts) ≡ ident x ∷ ls → Enters s N1 (Scopes.variable x.bytes int) N2) (y3 : Enters s N2 (stop int) N3)
        (m1 : Emits D 2 (cell + 1) n.place E) (m2 : Emits E 2 cell n.place F) where
      pub for_fails : (r : Refusal) → TranslatesCount s ts within cell k.place (work N3 J F) (work P H G) (Err r) → TranslatesFor s ts at (work N J C) (work P H G) (Err r)
      unfolding stmt_lexemes
      for_fails r c l p q x e f t h =
          let w : n.place ≡ x.place = place_is s ts name n _ _ mn (name_place p q x e f t h) in
          let v : k.place ≡ p = place_is s ts at k _ _ mk h.ready.stands in
          for_stops (rw ce at o) N1 N2 N3 E F y1 y3 p q x e f t h (y2 x _ (name_place p q x e f t h)) (rw (ce, w) at m1) (rw (ce, w) at m2) l P H G r (rw v at c)

      pub for_done : (mark end : ℕ) (Q : Held Name) → mark ≡ length N.held → Q ≡ cut mark P → TranslatesCount s ts within cell k.place (work N3 J F) (work P H G) (Ok end) → TranslatesFor s ts at (work N J C) (work Q H G) (Ok end)
      unfolding stmt_lexemes
      for_done mark end Q m u c l p q x e f t h =
          let w : n.place ≡ x.place = place_is s ts name n _ _ mn (name_place p q x e f t h) in
          let v : k.place ≡ p = place_is s ts at k _ _ mk h.ready.stands in
          for_goes (rw ce at o) N1 N2 N3 E F y1 y3 p q x e f t h (y2 x _ (name_place p q x e f t h)) (rw (ce, w) at m1) (rw (ce, w) at m2) l P H G mark end Q m u (rw (ce, v) at c)
