-- Main, and the whole script.
use Rattle.std.proofs.Common.{◌≡◌, ℕ, ◌+◌, ◌<◌, ◌≤◌, false, List, [], ◌∷◌, ◌++◌, length, drop, pos, Some, Ok, Err, Result, sym, refl, ap, ◌∙◌, append_assoc, arith, length-append}
use mathlib.Core.Option.{Option as Maybe, none, some}
use Rattle.std.specs.List.{slice_get}
use Rattle.refusal.specs.Told.{accepted, refused, number_of}
use Rattle.refusal.specs.declared.reason.Refusal.{Refusal}
use Rattle.lexer.specs.Lexeme.{Lexeme}
use Rattle.lexer.specs.Reading.{lexemes}
use Rattle.lexer.specs.declared.kind.Kind.TheVariants as K
use Rattle.lexer.specs.declared.kind.Token.{Token}
use Rattle.meaning.specs.declared.operator.Scalar.{Scalar}
use Rattle.meaning.specs.Trees.{Stmts, Parameter, nothing, takes, Item, extern, global, Script}
use Rattle.meaning.specs.Written.{sign, ident, literal, type_kind, parameter_lexemes, static_lexemes, items_lexemes, head_lexemes, stmts_lexemes, script_lexemes}
use Rattle.meaning.specs.Scopes.{level, function, main, cells}
use Rattle.meaning.specs.Check.{Scope, then, check_items, check_stmts, check_script}
use Rattle.machine.specs.declared.instruction.Instruction.{Instruction}
use Rattle.layout.proofs.Compiled.{ins, items_scope, items_end, items_code, main_scope, stmts_end, stmts_code, script_code}
use Rattle.layout.proofs.Ends.{stmts_after, stmts_grow}
use Rattle.layout.proofs.Scripts.{items_end_lem}
use Rattle.layout.proofs.Size.{script_size}
use Rattle.stacks.specs.Held.{Held}
use Rattle.translator.specs.declared.name.Name.{Name}
use Rattle.translator.specs.declared.pending.Jump.{Jump}
use Rattle.translator.specs.Translation.{code_limit}
use Rattle.translator.specs.Code.{Placed, coded, patched, Emits, LandsAll}
use Rattle.translator.specs.Names.{stacked, scope_of, Enters}
use Rattle.translator.specs.Statements.{Work, work, StmtsAt, TranslatesStmts}
use Rattle.translator.specs.Scripts.{ItemsAt, Declared, TranslatesItems, main_rest, in_main, MainAt, main_code, MainDone, TranslatesMain, ScriptAt, ScriptDone}
use Rattle.translator.proofs.Emitting.{after-length, emit_two}
use Rattle.translator.proofs.Joining.{placed_at}
use Rattle.translator.proofs.Heads.{past_is}
use Rattle.translator.proofs.Items.{place_at_lem, entered, items_length}

-- the code of statements ends where they say
stmts_length : (C : List Instruction) (ss : Stmts) (Γ : Scope) (k c : ℕ) → length (C ++ stmts_code ss Γ (length C) k c) ≡ stmts_end ss Γ (length C)
stmts_length C ss Γ k c = length-append C (stmts_code ss Γ (length C) k c) ∙ sym (after-length (stmts_code ss Γ (length C) k c) (length C)) ∙ stmts_after ss Γ (length C) k c

main_cells : (Γ : Scope) → cells (in_main Γ) ≡ cells Γ
unfolding cells
main_cells Γ = refl

module _ (s : List ℕ) (ts : List Token) (at : ℕ) (N N1 N2 N3 : Held Name) (J : Held Jump) (C : Held Instruction) (ss : Stmts) (h : MainAt s ts at N J C ss)
    (a : Enters s N level N1) (b : Enters s N1 (function main) N2) (c : Enters s N2 level N3) where
  names_in : (scope_of s N3.held ≡ in_main (scope_of s N.held)) × (N3.most ≡ N.most) × (length N3.held ≡ length N.held + 3)
  names_in =
      let e = h.entries in
      let i = entered s N N1 level a (omega arith) in
      let l = i.2 in
      let m = i.1 in
      let j = entered s N1 N2 (function main) b (omega arith) in
      let o = j.2 in
      let p = j.1 in
      let k = entered s N2 N3 level c (omega arith) in
      let q = k.2 in
      let r = k.1 in
      (k.0 ∙ ap (λ (Γ : Scope). level ∷ Γ) (j.0 ∙ ap (λ (Γ : Scope). function main ∷ Γ) i.0), r ∙ p ∙ m, omega arith)

  -- the statements stand after the brace
  body_ready : (mark body : ℕ) → (at < length ts → mark ≡ at + 1) → (mark < length ts → body ≡ mark + 1) → StmtsAt s ts body (work N3 J C) ss
  body_ready mark body m n =
      let i = names_in in
      let e = h.entries in
      let r = h.room in
      let w = h.waiting in
      let x = i.1 in
      let y = i.2 in
      let z : length J.held ≡ 0 = ap length h.idle in
      record {
        close = h.close;
        rest = [];
        proper = h.proper;
        ready = record {
          code = h.code;
          placed = h.placed;
          few = rw (i.0, main_cells (scope_of s N.held)) h.few;
          stands = past_is s ts mark body _ _ (past_is s ts at mark _ _ h.stands m) n;
          begun = h.begun;
          room = rw i.0 (omega arith);
          entries = omega arith;
          waiting = omega arith;
        };
      }

  module _ (mark body : ℕ) (m : at < length ts → mark ≡ at + 1) (n : mark < length ts → body ≡ mark + 1) (V : Work) where
    pub main_fault : (f : Refusal) → TranslatesStmts s ts body false (work N3 J C) V (Err f) → check_stmts ss false (in_main (scope_of s N.held)) ≡ refused (number_of f.reason) f.place
    main_fault f t = rw (sym names_in.0) (t ss (body_ready mark body m n))

    pub main_done : (q : ℕ) (R : Held Jump) (L E D : Held Instruction) (w : Token) → TranslatesStmts s ts body false (work N3 J C) V (Ok q) → LandsAll V.jumps V.code 0 0 0 R L
        → (q < length ts → slice_get ts q ≡ Some w) → Emits L 0 0 w.place E → Emits E 21 0 w.place D → MainDone s N D ss h.close h.code (Ok tt)
    unfolding body_ready
    main_done q R L E D w t l e f g =
        let d = t ss (body_ready mark body m n) in
        let Γ = in_main (scope_of s N.held) in
        let i : scope_of s N3.held ≡ Γ = names_in.0 in
        let v = d.1 in
        let X = h.code ++ stmts_code ss Γ (length h.code) 0 0 in
        let js : drop 0 V.jumps.held ≡ v.new = ap (λ (x : Held Jump). x.held) v.jumps ∙ ap (λ (x : List Jump). x ++ v.new) h.idle in
        let x : patched (drop 0 V.jumps.held) 0 0 v.code ≡ X =
        ap (λ (y : List Jump). patched y 0 0 v.code) js ∙ v.grows.equal 0 0 ∙ ap (λ (Δ : Scope). h.code ++ stmts_code ss Δ (length h.code) 0 0) i in
        let y : L ≡ coded X = (l v.code v.ended (omega arith) (omega arith)).0 ∙ ap coded x in
        let z : length X ≡ stmts_end ss Γ (length h.code) = stmts_length h.code ss Γ 0 0 in
        let r = h.room in
        let p : w.place ≡ h.close = place_at_lem s ts q w (sign K.CloseBrace h.close) [] e v.next in
        let o : Placed h.close = placed_at (lexemes s ts) q (sign K.CloseBrace h.close) [] h.placed v.next in
        let u : D ≡ coded (X ++ (ins 0 (pos 0) h.close ∷ ins 21 (pos 0) h.close ∷ [])) = emit_two L E D X 0 21 h.close (rw p at f) (rw p at g) y (omega arith) o in
        ((scope_of s V.names.held, rw (sym i) d.0), u ∙ ap coded (append_assoc h.code (stmts_code ss Γ (length h.code) 0 0) (ins 0 (pos 0) h.close ∷ ins 21 (pos 0) h.close ∷ [])))

-- The whole script.

-- each item has a token of its own
parameter_more : (a : Parameter) (r : List Lexeme) → length r ≤ length (parameter_lexemes a r)
parameter_more nothing r = omega arith
parameter_more (takes t p x) r = omega arith

static_more : (m : Maybe ℕ) (r : List Lexeme) → length r ≤ length (static_lexemes m r)
static_more none r = omega arith
static_more (some p) r = omega arith

items_more : (is : List Item) (r : List Lexeme) → length is + length r ≤ length (items_lexemes is r)
unfolding items_lexemes
items_more [] r = omega arith
items_more (extern q t x a ∷ is) r =
    let i = items_more is r in let j = parameter_more a (sign K.CloseParen q.3 ∷ sign K.Semicolon q.4 ∷ items_lexemes is r) in omega arith
items_more (global m q t x c ∷ is) r =
    let i = items_more is r in
    let j = static_more m (sign (type_kind t) q.0 ∷ ident x ∷ sign K.Assign q.1 ∷ literal c ∷ sign K.Semicolon q.2 ∷ items_lexemes is r) in omega arith

head_more : (m : Maybe ℕ) (q : ℕ × ℕ × ℕ × ℕ × ℕ) (r : List Lexeme) → length r ≤ length (head_lexemes m q r)
head_more none q r = omega arith
head_more (some p) q r = omega arith

-- the code of a script ends with the end of main
script_length : (t : Script) → length (script_code t) ≡ stmts_end t.body (main_scope t) (items_end t.items 0) + 1 + 1
unfolding script_code
script_length t =
    let o = items_end t.items 0 in
    let items = items_code t.items (level ∷ []) in
    let body = stmts_code t.body (main_scope t) o 0 0 in
    let last = ins 0 (pos 0) t.close ∷ ins 21 (pos 0) t.close ∷ [] in
    omega (
      arith,
      length-append items (body ++ last),
      length-append body last,
      after-length items 0,
      items_end_lem t.items (level ∷ []) 0,
      after-length body o,
      stmts_after t.body (main_scope t) o 0 0,
    )

no_cells : cells {X = Scalar} (level ∷ []) ≡ 0
unfolding cells
no_cells = refl

module _ (t : Script) where
  abbrev body_text : List Lexeme
  body_text = stmts_lexemes t.body (sign K.CloseBrace t.close ∷ [])

  items_refused : (n p : ℕ) → check_items t.items (level ∷ []) ≡ refused n p → check_script t ≡ refused n p
  unfolding check_script then
  items_refused n p e = rw e refl

  main_checked : (Γ : Scope) → check_items t.items (level ∷ []) ≡ accepted Γ → check_script t ≡ then (check_stmts t.body false (in_main Γ)) (λ _. accepted tt)
  unfolding check_script then
  main_checked Γ e = rw e refl

  main_refused : (Γ : Scope) (n p : ℕ) → check_items t.items (level ∷ []) ≡ accepted Γ → check_stmts t.body false (in_main Γ) ≡ refused n p → check_script t ≡ refused n p
  unfolding then
  main_refused Γ n p e f = main_checked Γ e ∙ rw f refl

  main_accepted : (Γ Δ : Scope) → check_items t.items (level ∷ []) ≡ accepted Γ → check_stmts t.body false (in_main Γ) ≡ accepted Δ → check_script t ≡ accepted tt
  unfolding then
  main_accepted Γ Δ e f = main_checked Γ e ∙ rw f refl

  script_code_lem : script_code t ≡ items_code t.items (level ∷ []) ++ main_code t.body (main_scope t) (items_end t.items 0) t.close
  unfolding script_code
  script_code_lem = refl

module _ (s : List ℕ) (ts : List Token) (N O : Held Name) (J : Held Jump) (C : Held Instruction) (t : Script) (h : ScriptAt s ts N J C t) (a : Enters s N level O) where
  begins : (scope_of s O.held ≡ level ∷ []) × (O.most ≡ N.most) × (length O.held ≡ 1)
  unfolding stacked
  begins =
      let e = h.entries in
      let z : length N.held ≡ 0 = ap length h.unnamed in
      let i = entered s N O level a (omega arith) in
      let l = i.2 in (i.0 ∙ ap (λ (x : List Name). level ∷ scope_of s x) h.unnamed, i.1, omega arith)

  written : lexemes s ts ≡ items_lexemes t.items (head_lexemes t.static t.marks (body_text t))
  unfolding script_lexemes
  written = sym h.reads.lexemes

  tokens_left : length t.items + length (body_text t) ≤ length (lexemes s ts)
  tokens_left =
      let i = items_more t.items (head_lexemes t.static t.marks (body_text t)) in
      let j = head_more t.static t.marks (body_text t) in
      let k = ap length written in omega arith

  room_left : stmts_end t.body (main_scope t) (items_end t.items 0) + 1 + 1 ≤ code_limit
  room_left =
      let i = script_size t in
      let j = script_length t in
      let k : length (script_lexemes t) ≡ length (lexemes s ts) = ap length h.reads.lexemes in
      let l = h.short in omega arith

  items_ready : ItemsAt s ts 0 O C t.items
  items_ready =
      let b = begins in
      let i = b.1 in
      let j = b.2 in
      let e = h.entries in
      let k = tokens_left in
      let r = room_left in
      let g = stmts_grow t.body (main_scope t) (items_end t.items 0) in
      record {
        static = t.static;
        marks = t.marks;
        rest = body_text t;
        code = [];
        placed = h.placed;
        few = rw (b.0, no_cells) (omega arith);
        stands = written;
        begun = h.begun;
        room = omega arith;
        entries = omega arith;
      }

  pub items_faulty : (P : Held Name) (D : Held Instruction) (f : Refusal) → TranslatesItems s ts 0 O P C D (Err f) → check_script t ≡ refused (number_of f.reason) f.place
  items_faulty P D f e = items_refused t _ _ (rw begins.0 at (e t.items items_ready))

  module _ (q : ℕ) (P : Held Name) (D : Held Instruction) (e : TranslatesItems s ts 0 O P C D (Ok q)) where
    items_made : Declared s ts q O P D t.items (main_rest t.marks (body_text t)) []
    unfolding items_ready
    items_made = e t.items items_ready

    -- the names in main's braces, and where its code begins
    scope_made : in_main (scope_of s P.held) ≡ main_scope t
    scope_made = ap in_main (items_made.scope ∙ ap (items_scope t.items) begins.0)

    begun-at : length (items_code t.items (scope_of s O.held)) ≡ items_end t.items 0
    begun-at = items_length [] t.items (scope_of s O.held)

    main_ready : MainAt s ts q P J D t.body
    main_ready =
        let d = items_made in
        let i = begins.2 in
        let j = begins.1 in
        let k = d.most in
        let l = d.entries in
        let m = h.entries in
        let n = tokens_left in
        let w = h.waiting in
        record {
          marks = t.marks;
          close = t.close;
          code = items_code t.items (scope_of s O.held);
          proper = h.reads.grammatical;
          placed = h.placed;
          few = d.few;
          stands = d.next;
          begun = d.ended;
          room = rw (scope_made, begun-at) room_left;
          entries = omega arith;
          idle = h.idle;
          waiting = omega arith;
        }

    checked_items : check_items t.items (level ∷ []) ≡ accepted (scope_of s P.held)
    checked_items = rw (sym begins.0) items_made.checked

    pub script_done : (E : Held Instruction) (r : Result (Unit {0}) Refusal) → TranslatesMain s ts q P J D E r → ScriptDone E t r
    unfolding main_ready
    script_done E (Ok u) f =
        let d = f t.body main_ready in
        let x : items_code t.items (scope_of s O.held) ≡ items_code t.items (level ∷ []) = ap (items_code t.items) begins.0 in
        (main_accepted t _ d.0.0 checked_items d.0.1, d.1 ∙ rw (scope_made, begun-at, x, sym (script_code_lem t)) refl)
    script_done E (Err g) f = main_refused t _ _ _ checked_items (f t.body main_ready)
