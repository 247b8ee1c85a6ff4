-- Externs and globals, one by one.
use Rattle.std.proofs.Common.{◌≡◌, ℕ, suc, ◌+◌, ◌<◌, ◌≤◌, Bool, true, false, List, [], ◌∷◌, ◌++◌, length, drop, ℤ, pos, IfOk, Some, None, Ok, Err, Option, Result, sym, refl, ap, ◌∙◌, append_assoc, append-nil, arith, length-append}
use mathlib.Core.Option.{Option as Maybe, none, some}
use Rattle.std.specs.List.{slice_get}
use Rattle.refusal.specs.Told.{Told, accepted, refused, number_of}
use Rattle.refusal.specs.declared.reason.Refusal.{Refusal}
use Rattle.lexer.specs.Lexeme.{Lexeme}
use Rattle.lexer.specs.Reading.{lexeme, lexemes}
use Rattle.lexer.specs.declared.kind.Kind.{Kind}
use Rattle.lexer.specs.declared.kind.Kind.TheVariants as K
use Rattle.lexer.specs.declared.kind.Token.{Token}
use Rattle.lookahead.specs.Seen.{is_kind, seen, past_static, past_main}
use Rattle.meaning.specs.declared.operator.Scalar.{Scalar}
use Rattle.meaning.specs.declared.operator.Scalar.TheVariants.{Bool as bool, Char as char, Int as int}
use Rattle.meaning.specs.Trees.{Ident, Constant, number, character, truth, Return, Parameter, nothing, takes, Item, extern, global}
use Rattle.meaning.specs.Written.{sign, ident, literal, type_kind, parameter_lexemes, item_lexemes, items_lexemes, head_lexemes}
use Rattle.meaning.specs.Scopes.{Callee, cells}
use Rattle.meaning.specs.Scopes as Scopes
use Rattle.meaning.specs.Types.{same_type, constant_type, parameter_types, listed}
use Rattle.meaning.specs.Values.{constant_value}
use Rattle.meaning.specs.Check.{Scope, then, needs, defined, declared, check_item, check_items}
use Rattle.meaning.proofs.Fits.{false_true}
use Rattle.machine.specs.declared.instruction.Instruction.{Instruction}
use Rattle.layout.proofs.Compiled.{ins, held, literal_code, items_scope, items_end, items_code}
use Rattle.layout.proofs.Statements.{defined-room}
use Rattle.layout.proofs.Scripts.{items_end_lem}
use Rattle.stacks.specs.Held.{Held}
use Rattle.translator.specs.declared.name.Name.{Name}
use Rattle.translator.specs.declared.look.Literal.{Literal}
use Rattle.translator.specs.Translation.{code_limit}
use Rattle.translator.specs.Code.{Placed, coded, Emits, Pushes}
use Rattle.translator.specs.Look.{LiteralOf, ScalarOf}
use Rattle.translator.specs.Names.{scope_of, return_of, types_of, Enters, DefinesAs, DeclaresAs}
use Rattle.translator.specs.declared.typed.Parameter as Bracketed
use Rattle.translator.specs.Scripts.{GivenBy, TakenAt, ItemAt, Declared, ItemsDone, TranslatesExtern, TranslatesGlobal, TranslatesItem, ItemsAt, AllDone, ItemsOn}
use Rattle.translator.proofs.Lexemes.{inside, token_is, next_is, seen-sign}
use Rattle.translator.proofs.Records.{stacked_more}
use Rattle.translator.proofs.Emitting.{after-length}
use Rattle.translator.proofs.Heads.{past_is, type_there, main_there, item_there}

-- the token at a place where a lexeme stands
pub lexeme-at : (s : List ℕ) (ts : List Token) (at : ℕ) (t : Token) (l : Lexeme) (r : List Lexeme) → (at < length ts → slice_get ts at ≡ Some t) → drop at (lexemes s ts) ≡ l ∷ r → lexeme s t ≡ l
lexeme-at s ts at t l r e h = token_is s ts at t l r (e (inside s ts at l r h)) h

pub kind_at : (s : List ℕ) (ts : List Token) (at : ℕ) (t : Token) (l : Lexeme) (r : List Lexeme) → (at < length ts → slice_get ts at ≡ Some t) → drop at (lexemes s ts) ≡ l ∷ r → t.kind ≡ l.kind
kind_at s ts at t l r e h = ap (λ (m : Lexeme). m.kind) (lexeme-at s ts at t l r e h)

pub place_at_lem : (s : List ℕ) (ts : List Token) (at : ℕ) (t : Token) (l : Lexeme) (r : List Lexeme) → (at < length ts → slice_get ts at ≡ Some t) → drop at (lexemes s ts) ≡ l ∷ r → t.place ≡ l.place
place_at_lem s ts at t l r e h = ap (λ (m : Lexeme). m.place) (lexeme-at s ts at t l r e h)

pub value-at : (s : List ℕ) (ts : List Token) (at : ℕ) (t : Token) (l : Lexeme) (r : List Lexeme) → (at < length ts → slice_get ts at ≡ Some t) → drop at (lexemes s ts) ≡ l ∷ r → t.value ≡ l.value
value-at s ts at t l r e h = ap (λ (m : Lexeme). m.value) (lexeme-at s ts at t l r e h)

-- What an extern takes.

not_close : (t : Scalar) (k : Option Kind) → k ≡ Some (type_kind t) → is_kind k K.CloseParen ≡ false
not_close bool k e = rw e refl
not_close char k e = rw e refl
not_close int k e = rw e refl

module _ (s : List ℕ) (ts : List Token) (at : ℕ) where
  pub none_taken : (a : Parameter) (p : ℕ) (ls : List Lexeme) → is_kind (seen ts at) K.CloseParen ≡ true → drop at (lexemes s ts) ≡ parameter_lexemes a (sign K.CloseParen p ∷ ls)
      → (types_of None ≡ parameter_types a) × (drop at (lexemes s ts) ≡ sign K.CloseParen p ∷ ls)
  none_taken nothing p ls e h = (refl, h)
  none_taken (takes t m x) p ls e h = false_true (sym (not_close t (seen ts at) (seen-sign s ts at (type_kind t) m _ h)) ∙ e)

  pub one_taken : (a : Parameter) (p : ℕ) (ls : List Lexeme) (w : Token) (u : Scalar) (name close : ℕ) → is_kind (seen ts at) K.CloseParen ≡ false
      → (at < length ts → slice_get ts at ≡ Some w) → ScalarOf w.kind u → (at < length ts → name ≡ at + 1) → (name < length ts → close ≡ name + 1)
      → drop at (lexemes s ts) ≡ parameter_lexemes a (sign K.CloseParen p ∷ ls) → (types_of (Some u) ≡ parameter_types a) × (drop close (lexemes s ts) ≡ sign K.CloseParen p ∷ ls)
  one_taken nothing p ls w u name close e t f n c h =
      let g : is_kind (seen ts at) K.CloseParen ≡ true = ap (λ (k : Option Kind). is_kind k K.CloseParen) (seen-sign s ts at K.CloseParen p ls h) in false_true (sym e ∙ g)
  one_taken (takes v m x) p ls w u name close e t f n c h =
      let k : u ≡ v = f v (kind_at s ts at w (sign (type_kind v) m) _ t h) in
      let a = past_is s ts at name _ _ h n in (ap (λ (y : Scalar). y ∷ []) k, past_is s ts name close _ _ a c)

-- One item by itself.

one_refused : (i : Item) (Γ : Scope) (n p : ℕ) → check_item i Γ ≡ refused n p → check_items (i ∷ []) Γ ≡ refused n p
unfolding check_items then
one_refused i Γ n p h = rw h refl

one_accepted : (i : Item) (Γ Δ : Scope) → check_item i Γ ≡ accepted Δ → check_items (i ∷ []) Γ ≡ accepted Δ
unfolding check_items then
one_accepted i Γ Δ h = rw h refl

-- one more record is in force
pub entered : (s : List ℕ) (N M : Held Name) (e : Scopes.Entry Scalar) → Enters s N e M → length N.held < N.most
    → (scope_of s M.held ≡ e ∷ scope_of s N.held) × (M.most ≡ N.most) × (length M.held ≡ length N.held + 1)
entered s N M e f l =
    let r = f l in
    let n = r.0 in
    rw r.1 (stacked_more s N.held n [] ∙ ap (λ (x : Scopes.Entry Scalar). x ∷ scope_of s N.held) r.2, refl, length-append N.held (n ∷ []))

-- An extern.

-- what code sees of it: what it gives and takes, where its name stands, and where it is closed
pub record SeenExtern (s : List ℕ) (ts : List Token) (name close : ℕ) (g u : Option Scalar) (q : ℕ × ℕ × ℕ × ℕ × ℕ) (t : Return) (x : Ident) (a : Parameter) (rest : List Lexeme) : Type 0 where
  pub named : drop name (lexemes s ts) ≡ ident x ∷ sign K.OpenParen q.2 ∷ parameter_lexemes a (sign K.CloseParen q.3 ∷ sign K.Semicolon q.4 ∷ rest)
  pub gives : return_of g ≡ t
  pub taken : types_of u ≡ parameter_types a
  pub closed : drop close (lexemes s ts) ≡ sign K.CloseParen q.3 ∷ sign K.Semicolon q.4 ∷ rest

module _ (s : List ℕ) (ts : List Token) (at name mark inner : ℕ) (word : Token) (g : Option Scalar) (p : Bracketed.Parameter) (q : ℕ × ℕ × ℕ × ℕ × ℕ) (t : Return) (x : Ident) (a : Parameter)
    (rest : List Lexeme) where
  pub seen_extern : drop at (lexemes s ts) ≡ item_lexemes (extern q t x a) rest → (at + 1 < length ts → name ≡ at + 1 + 1) → (name < length ts → mark ≡ name + 1) → (mark < length ts → inner ≡ mark + 1)
      → (at + 1 < length ts → slice_get ts (at + 1) ≡ Some word) → GivenBy word.kind g → TakenAt ts inner p → SeenExtern s ts name p.close g p.takes q t x a rest
  seen_extern h n o i w f k =
      let b = next_is (lexemes s ts) at (sign K.Extern q.0) _ h in
      let c = past_is s ts (at + 1) name _ _ b n in
      let d = past_is s ts name mark _ _ c o in
      let e = k s a q.3 _ (past_is s ts mark inner _ _ d i) in
      record { named = c; gives = f t (kind_at s ts (at + 1) word _ _ w b); taken = e.0; closed = e.1 }

module _ (s : List ℕ) (ts : List Token) (N M : Held Name) (C : Held Instruction) (q : ℕ × ℕ × ℕ × ℕ × ℕ) (t : Return) (x : Ident) (a : Parameter) (code : List Instruction) (g u : Option Scalar)
    (gives : return_of g ≡ t) (taken : types_of u ≡ parameter_types a) where
  abbrev Γ : Scope
  Γ = scope_of s N.held

  extern_refused : (n p : ℕ) → declared x (listed x.bytes (return_of g) (types_of u)) Γ ≡ refused n p → check_items (extern q t x a ∷ []) Γ ≡ refused n p
  unfolding check_item
  extern_refused n p h = one_refused (extern q t x a) Γ n p (rw (gives, taken) at h)

  extern_accepted : (f : Callee) → listed x.bytes (return_of g) (types_of u) ≡ Some f → declared x (Some f) Γ ≡ accepted (Scopes.function f ∷ Γ)
      → check_items (extern q t x a ∷ []) Γ ≡ accepted (Scopes.function f ∷ Γ)
  unfolding check_item
  extern_accepted f l h = one_accepted (extern q t x a) Γ _ (rw (← gives, ← taken, l) h)

  extern_scope : (f : Callee) → listed x.bytes (return_of g) (types_of u) ≡ Some f → items_scope (extern q t x a ∷ []) Γ ≡ Scopes.function f ∷ Γ
  unfolding items_scope
  extern_scope f l = rw (← gives, ← taken, l) refl

  extern_cells : (f : Callee) → cells (Scopes.function f ∷ Γ) ≡ cells Γ
  unfolding cells
  extern_cells f = refl

  extern_code : C ≡ coded code → C ≡ coded (code ++ items_code (extern q t x a ∷ []) Γ)
  unfolding items_code
  extern_code b = b ∙ ap coded (sym (append-nil code))

  pub extern_done : (at end : ℕ) (h : ItemAt s ts at N C (extern q t x a)) → h.code ≡ code → drop end (lexemes s ts) ≡ h.rest
      → DeclaresAs s N M x g u (Ok tt) → ItemsDone s ts N M C (extern q t x a ∷ []) h.rest code (Ok end)
  extern_done at end h k n d =
      let f = d.0 in
      let e = entered s N M (Scopes.function f) d.3 h.entries in
      record {
        next = n;
        checked = extern_accepted f d.1 d.2 ∙ ap accepted (sym e.0);
        scope = e.0 ∙ sym (extern_scope f d.1);
        few = rw (e.0, extern_cells f) h.few;
        most = e.1;
        entries = e.2;
        ended = extern_code (rw k at h.begun);
      }

  pub extern_fault : (f : Refusal) → DeclaresAs s N M x g u (Err f) → check_items (extern q t x a ∷ []) Γ ≡ refused (number_of f.reason) f.place
  extern_fault f d = extern_refused _ _ d

-- A global.

same_by : (a b c d : Scalar) (v : Bool) → v ≡ same_type a b → a ≡ c → b ≡ d → same_type c d ≡ v
same_by a b c d v e p q = rw (sym p, sym q) (sym e)

-- what code sees of it: its type, its name and its constant, with their places, and whether the types are the same
pub record SeenGlobal (s : List ℕ) (ts : List Token) (name value : ℕ) (k : Scalar) (constant place : Token) (l : Literal) (v : Bool) (q : ℕ × ℕ × ℕ) (t : Scalar) (x : Ident) (c : Constant) (rest : List Lexeme) : Type 0 where
  pub named : drop name (lexemes s ts) ≡ ident x ∷ sign K.Assign q.1 ∷ literal c ∷ sign K.Semicolon q.2 ∷ rest
  pub valued : drop value (lexemes s ts) ≡ literal c ∷ sign K.Semicolon q.2 ∷ rest
  pub typed : k ≡ t
  pub worth : l.value ≡ held (constant_value c)
  pub same : same_type (constant_type c) t ≡ v
  pub there : place.place ≡ x.place
  pub constant_there : constant.place ≡ (literal c).place

module _ (s : List ℕ) (ts : List Token) (at name mark value : ℕ) (word constant place : Token) (k : Scalar) (l : Literal) (v : Bool) (q : ℕ × ℕ × ℕ) (t : Scalar) (x : Ident) (c : Constant)
    (rest : List Lexeme) where
  pub seen_global : drop at (lexemes s ts) ≡ item_lexemes (global none q t x c) rest → (at < length ts → name ≡ at + 1) → (name < length ts → mark ≡ name + 1) → (mark < length ts → value ≡ mark + 1)
      → (at < length ts → slice_get ts at ≡ Some word) → (value < length ts → slice_get ts value ≡ Some constant) → (name < length ts → slice_get ts name ≡ Some place) → ScalarOf word.kind k → LiteralOf constant l
      → v ≡ same_type l.kind k → SeenGlobal s ts name value k constant place l v q t x c rest
  seen_global h n m o w d p f g e =
      let a = past_is s ts at name _ _ h n in
      let b = past_is s ts mark value _ _ (past_is s ts name mark _ _ a m) o in
      let i = f t (kind_at s ts at word _ _ w h) in
      let j = g c (kind_at s ts value constant _ _ d b) (value-at s ts value constant _ _ d b) in
      record {
        named = a;
        valued = b;
        typed = i;
        worth = j.1;
        same = same_by _ _ _ _ v e j.0 i;
        there = place_at_lem s ts name place _ _ p a;
        constant_there = place_at_lem s ts value constant _ _ d b;
      }

pub literal-code : (c : Constant) → literal_code c ≡ ins 0 (held (constant_value c)) (literal c).place
literal-code (number v p) = refl
literal-code (character v p) = refl
literal-code (truth true p) = refl
literal-code (truth false p) = refl

module _ (Γ : Scope) (m : Maybe ℕ) (q : ℕ × ℕ × ℕ) (t : Scalar) (x : Ident) (c : Constant) where
  pub global_mismatch : same_type (constant_type c) t ≡ false → check_items (global m q t x c ∷ []) Γ ≡ refused 15 x.place
  unfolding check_item then needs
  global_mismatch h = one_refused (global m q t x c) Γ 15 x.place (rw h refl)

  global_checked : same_type (constant_type c) t ≡ true → check_item (global m q t x c) Γ ≡ defined x t Γ
  unfolding check_item then needs
  global_checked h = rw h refl

  pub global_refused : (n p : ℕ) → same_type (constant_type c) t ≡ true → defined x t Γ ≡ refused n p → check_items (global m q t x c ∷ []) Γ ≡ refused n p
  global_refused n p h d = one_refused (global m q t x c) Γ n p (global_checked h ∙ d)

  global_accepted : (Δ : Scope) → same_type (constant_type c) t ≡ true → defined x t Γ ≡ accepted Δ → check_items (global m q t x c ∷ []) Γ ≡ accepted Δ
  global_accepted Δ h d = one_accepted (global m q t x c) Γ Δ (global_checked h ∙ d)

  global_scope : items_scope (global m q t x c ∷ []) Γ ≡ Scopes.variable x.bytes t ∷ Γ
  unfolding items_scope
  global_scope = refl

  global_code : items_code (global m q t x c ∷ []) Γ ≡ ins 0 (held (constant_value c)) (literal c).place ∷ ins 2 (pos (cells Γ)) x.place ∷ []
  unfolding items_code
  global_code = ap (λ (i : Instruction). i ∷ ins 2 (pos (cells Γ)) x.place ∷ []) (literal-code c)

  global_end : (o : ℕ) → items_end (global m q t x c ∷ []) o ≡ o + 1 + 1
  unfolding items_end
  global_end o = refl

  global_cells : (d : Scope) → defined x t Γ ≡ accepted d → cells (Scopes.variable x.bytes t ∷ Γ) ≤ 64
  unfolding cells
  global_cells d h = defined-room [] x t Γ d h

  pub global_emitted : (B E D : Held Instruction) (code : List Instruction) (v : ℤ) (p r n : ℕ) → B ≡ coded code → Pushes B v p E → Emits E 2 n r D
      → v ≡ held (constant_value c) → p ≡ (literal c).place → r ≡ x.place → n ≡ cells Γ → cells Γ ≤ 64 → items_end (global m q t x c ∷ []) (length code) ≤ code_limit → Placed p → Placed r
      → D ≡ coded (code ++ items_code (global m q t x c ∷ []) Γ)
  global_emitted B E D code v p r n b f g ev ep er en few room pp pr =
      let l : length code + 1 + 1 ≤ code_limit = rw (global_end (length code)) at room in
      let e = f code b (omega arith) pp in
      let k = length-append code (ins 0 v p ∷ []) in
      let d = g (code ++ (ins 0 v p ∷ [])) e (omega arith) (omega arith) pr in
      d ∙ ap coded (append_assoc code (ins 0 v p ∷ []) (ins 2 (pos n) r ∷ []) ∙ rw (ev, ep, er, en, sym global_code) refl)

module _ (s : List ℕ) (ts : List Token) (at : ℕ) (N M : Held Name) (C : Held Instruction) (q : ℕ × ℕ × ℕ) (t : Scalar) (x : Ident) (c : Constant) (h : ItemAt s ts at N C (global none q t x c))
    (k : Scalar) (e : k ≡ t) (same : same_type (constant_type c) t ≡ true) where
  pub global_done : (D : Held Instruction) (end : ℕ) → drop end (lexemes s ts) ≡ h.rest → DefinesAs s N M x k (Ok tt) → D ≡ coded (h.code ++ items_code (global none q t x c ∷ []) (scope_of s N.held))
      → Declared s ts end N M D (global none q t x c ∷ []) h.rest h.code
  global_done D end n f d =
      let Γ = scope_of s N.held in
      let g : DefinesAs s N M x t (Ok tt) = rw e at f in
      let i = entered s N M (Scopes.variable x.bytes t) g.1 h.entries in
      record {
        next = n;
        checked = global_accepted Γ none q t x c _ same g.0 ∙ ap accepted (sym i.0);
        scope = i.0 ∙ sym (global_scope Γ none q t x c);
        few = rw i.0 (global_cells Γ none q t x c _ g.0);
        most = i.1;
        entries = i.2;
        ended = d;
      }

  pub global_fault : (f : Refusal) → DefinesAs s N M x k (Err f) → check_items (global none q t x c ∷ []) (scope_of s N.held) ≡ refused (number_of f.reason) f.place
  global_fault f d = global_refused (scope_of s N.held) none q t x c _ _ same (rw e at d)

-- An extern or a global, as code sees it.

-- a place after `static` is passed
pub passed : (r : Result ℕ Refusal) (at p n : ℕ) → at < n → at ≤ p → IfOk r (λ q. (p ≤ q) × (p < n → p < q) × (q ≤ n)) → IfOk r (λ q. (at < q) × (q ≤ n))
passed (Ok q) at p n a b h = let c = h.0 in let d = h.1 in let e = h.2 in (grind arith, e)
passed (Err f) at p n a b h = tt

not_extern : (t : Scalar) (k : Option Kind) → k ≡ Some (type_kind t) → is_kind k K.Extern ≡ false
not_extern bool k e = rw e refl
not_extern char k e = rw e refl
not_extern int k e = rw e refl

global_no_extern : (s : List ℕ) (ts : List Token) (at : ℕ) (m : Maybe ℕ) (q : ℕ × ℕ × ℕ) (t : Scalar) (x : Ident) (c : Constant) (r : List Lexeme) → drop at (lexemes s ts) ≡ item_lexemes (global m q t x c) r
    → is_kind (seen ts at) K.Extern ≡ false
global_no_extern s ts at none q t x c r h = not_extern t (seen ts at) (seen-sign s ts at (type_kind t) q.0 _ h)
global_no_extern s ts at (some p) q t x c r h = ap (λ (k : Option Kind). is_kind k K.Extern) (seen-sign s ts at K.Static p _ h)

module _ (s : List ℕ) (ts : List Token) (at : ℕ) (N M : Held Name) (C D : Held Instruction) where
  pub item_extern : (r : Result ℕ Refusal) → is_kind (seen ts at) K.Extern ≡ true → TranslatesExtern s ts at N M r → TranslatesItem s ts at N M C C r
  item_extern r e f (extern q t x a) h = f q t x a C h
  item_extern r e f (global m q t x c) h = false_true (sym (global_no_extern s ts at m q t x c h.rest h.stands) ∙ e)

  -- `static` changes nothing
  without_static : (m : Maybe ℕ) (q : ℕ × ℕ × ℕ) (t : Scalar) (x : Ident) (c : Constant) (rest : List Lexeme) (code : List Instruction) (r : Result ℕ Refusal)
      → ItemsDone s ts N M D (global none q t x c ∷ []) rest code r → ItemsDone s ts N M D (global m q t x c ∷ []) rest code r
  unfolding check_items check_item items_scope items_code
  without_static m q t x c rest code (Ok p) d = record { next = d.next; checked = d.checked; scope = d.scope; few = d.few; most = d.most; entries = d.entries; ended = d.ended }
  without_static m q t x c rest code (Err f) d = d

  typed_room : (m : Maybe ℕ) (q : ℕ × ℕ × ℕ) (t : Scalar) (x : Ident) (c : Constant) (o : ℕ) → items_end (global m q t x c ∷ []) o ≤ code_limit → items_end (global none q t x c ∷ []) o ≤ code_limit
  unfolding items_end
  typed_room m q t x c o h = h

  pub item_global : (p : ℕ) (r : Result ℕ Refusal) → is_kind (seen ts at) K.Extern ≡ false → p ≡ past_static ts at → TranslatesGlobal s ts p N M C D r → TranslatesItem s ts at N M C D r
  item_global p r e u f (extern q t x a) h =
      let g : is_kind (seen ts at) K.Extern ≡ true = ap (λ (k : Option Kind). is_kind k K.Extern) (seen-sign s ts at K.Extern q.0 _ h.stands) in false_true (sym e ∙ g)
  item_global p r e u f (global m q t x c) h =
      without_static m q t x c h.rest h.code r (f q t x c (record {
        rest = h.rest;
        code = h.code;
        placed = h.placed;
        few = h.few;
        stands = rw u (type_there s ts at m t q.0 _ h.stands);
        begun = h.begun;
        room = typed_room m q t x c _ h.room;
        entries = h.entries;
      }))

-- One item after another.

one_is : (i : Item) (Γ Δ : Scope) → check_items (i ∷ []) Γ ≡ accepted Δ → check_item i Γ ≡ accepted Δ
unfolding check_items then
one_is i Γ Δ h = by (check_item i Γ) h
  where
    by : (v : Told Scope) → then v (λ Θ. accepted Θ) ≡ accepted Δ → v ≡ accepted Δ
    by (accepted Θ) e = e
    by (refused n p) e = let z : ◌≡◌ {A = ℕ} 0 1 = cc in absurd (omega arith)

one_faulty : (i : Item) (Γ : Scope) (n p : ℕ) → check_items (i ∷ []) Γ ≡ refused n p → check_item i Γ ≡ refused n p
unfolding check_items then
one_faulty i Γ n p h = by (check_item i Γ) h
  where
    by : (v : Told Scope) → then v (λ Θ. accepted Θ) ≡ refused n p → v ≡ refused n p
    by (accepted Θ) e = let z : ◌≡◌ {A = ℕ} 0 1 = cc in absurd (omega arith)
    by (refused m q) e = e

check_more : (i : Item) (is : List Item) (Γ Δ : Scope) → check_item i Γ ≡ accepted Δ → check_items (i ∷ is) Γ ≡ check_items is Δ
unfolding check_items then
check_more i is Γ Δ h = rw h refl

check_faulty : (i : Item) (is : List Item) (Γ : Scope) (n p : ℕ) → check_item i Γ ≡ refused n p → check_items (i ∷ is) Γ ≡ refused n p
unfolding check_items then
check_faulty i is Γ n p h = rw h refl

scope_more : (i : Item) (is : List Item) (Γ : Scope) → items_scope (i ∷ is) Γ ≡ items_scope is (items_scope (i ∷ []) Γ)
unfolding items_scope
scope_more (extern q t x a) is Γ = refl
scope_more (global m q t x c) is Γ = refl

code_more : (i : Item) (is : List Item) (Γ : Scope) → items_code (i ∷ is) Γ ≡ items_code (i ∷ []) Γ ++ items_code is (items_scope (i ∷ []) Γ)
unfolding items_scope items_code
code_more (extern q t x a) is Γ = refl
code_more (global m q t x c) is Γ = refl

end_more : (i : Item) (is : List Item) (o : ℕ) → items_end (i ∷ is) o ≡ items_end is (items_end (i ∷ []) o)
unfolding items_end
end_more (extern q t x a) is o = refl
end_more (global m q t x c) is o = refl

pub items_grow : (is : List Item) (o : ℕ) → o ≤ items_end is o
unfolding items_end
items_grow [] o = omega arith
items_grow (extern q t x a ∷ is) o = items_grow is o
items_grow (global m q t x c ∷ is) o = let h = items_grow is (o + 1 + 1) in omega arith

pub items_length : (C : List Instruction) (is : List Item) (Γ : Scope) → length (C ++ items_code is Γ) ≡ items_end is (length C)
items_length C is Γ = length-append C (items_code is Γ) ∙ sym (after-length (items_code is Γ) (length C)) ∙ items_end_lem is Γ (length C)

first_lexemes : (i : Item) (is : List Item) (r : List Lexeme) → items_lexemes (i ∷ is) r ≡ item_lexemes i (items_lexemes is r)
unfolding items_lexemes
first_lexemes i is r = refl

no_lexemes : (r : List Lexeme) → items_lexemes [] r ≡ r
unfolding items_lexemes
no_lexemes r = refl

module _ (s : List ℕ) (ts : List Token) (at : ℕ) (N : Held Name) (C : Held Instruction) where
  -- main's head stands within the tokens
  head_inside : (m : Maybe ℕ) (q : ℕ × ℕ × ℕ × ℕ × ℕ) (r : List Lexeme) → drop at (lexemes s ts) ≡ head_lexemes m q r → at < length ts
  head_inside none q r h = inside s ts at _ _ h
  head_inside (some p) q r h = inside s ts at _ _ h

  item_inside : (i : Item) (r : List Lexeme) → drop at (lexemes s ts) ≡ item_lexemes i r → at < length ts
  item_inside (extern q t x a) r h = inside s ts at _ _ h
  item_inside (global none q t x c) r h = inside s ts at _ _ h
  item_inside (global (some p) q t x c) r h = inside s ts at _ _ h

  pub items_nowhere : (is : List Item) → ItemsAt s ts at N C is → length ts ≤ at → ⊥
  items_nowhere [] h l = let i = head_inside h.static h.marks h.rest (h.stands ∙ no_lexemes _) in omega arith
  items_nowhere (i ∷ is) h l = let j = item_inside i _ (h.stands ∙ first_lexemes i is _) in omega arith

  none_checked : (Γ : Scope) → check_items [] Γ ≡ accepted Γ
  unfolding check_items
  none_checked Γ = refl

  none_scope : (Γ : Scope) → Γ ≡ items_scope [] Γ
  unfolding items_scope
  none_scope Γ = refl

  none-code : (code : List Instruction) (Γ : Scope) → code ≡ code ++ items_code [] Γ
  unfolding items_code
  none-code code Γ = sym (append-nil code)

  -- where main begins, nothing is left
  pub items_ended : (is : List Item) (h : ItemsAt s ts at N C is) (p : ℕ) → Some p ≡ past_main s ts at → AllDone s ts at N C is h N C (Ok p)
  items_ended [] h p e =
      let m = main_there s ts at h.static h.marks h.rest (h.stands ∙ no_lexemes _) in
      let f : Some p ≡ Some (past_static ts at + 3) = e ∙ m.0 in
      let g : p ≡ past_static ts at + 3 = cc in
      record {
        next = rw g m.1;
        checked = none_checked _;
        scope = none_scope _;
        few = h.few;
        most = refl;
        entries = omega arith;
        ended = h.begun ∙ ap coded (none-code _ _);
      }
  items_ended (i ∷ is) h p e =
      let f : Some p ≡ None = e ∙ item_there s ts at i _ (h.stands ∙ first_lexemes i is _) in let z : ◌≡◌ {A = ℕ} 0 1 = cc in absurd (omega arith)

  -- else an item stands there
  pub record First (is : List Item) (h : ItemsAt s ts at N C is) : Type 0 where
    pub first : Item
    pub others : List Item
    pub all : is ≡ first ∷ others
    pub there : ItemAt s ts at N C first
    pub rest : there.rest ≡ items_lexemes others (head_lexemes h.static h.marks h.rest)
    pub code : there.code ≡ h.code

  pub items_first : (is : List Item) (h : ItemsAt s ts at N C is) → None ≡ past_main s ts at → First is h
  items_first [] h e =
      let m = main_there s ts at h.static h.marks h.rest (h.stands ∙ no_lexemes _) in
      let f : None ≡ Some (past_static ts at + 3) = e ∙ m.0 in let z : ◌≡◌ {A = ℕ} 0 1 = cc in absurd (omega arith)
  items_first (i ∷ is) h e =
      let r = h.room in
      let m = end_more i is (length h.code) in
      let g = items_grow is (items_end (i ∷ []) (length h.code)) in
      let n = h.entries in
      record {
        first = i;
        others = is;
        all = refl;
        there = record {
          rest = items_lexemes is (head_lexemes h.static h.marks h.rest);
          code = h.code;
          placed = h.placed;
          few = h.few;
          stands = h.stands ∙ first_lexemes i is _;
          begun = h.begun;
          room = omega arith;
          entries = omega arith;
        };
        rest = refl;
        code = refl;
      }

  -- a fault of the first is the fault of all
  pub items_fault : (M : Held Name) (D : Held Instruction) (is : List Item) (h : ItemsAt s ts at N C is) (f : Refusal) → None ≡ past_main s ts at → TranslatesItem s ts at N M C D (Err f)
      → check_items is (scope_of s N.held) ≡ refused (number_of f.reason) f.place
  items_fault M D is h f e t =
      let g = items_first is h e in
      rw g.all (check_faulty g.first g.others _ _ _ (one_faulty g.first _ _ _ (t g.first g.there)))

-- after the first, the others
module _ (s : List ℕ) (ts : List Token) (at q : ℕ) (N O : Held Name) (C E : Held Instruction) (is : List Item) (h : ItemsAt s ts at N C is) (g : First s ts at N C is h)
    (d : Declared s ts q N O E (g.first ∷ []) g.there.rest g.there.code) where
  pub items_left : ItemsAt s ts q O E g.others
  items_left =
      let i = g.first in
      let Γ = scope_of s N.held in
      let k = h.code ++ items_code (i ∷ []) Γ in
      let m : items_end is (length h.code) ≡ items_end g.others (items_end (i ∷ []) (length h.code)) = rw g.all (end_more i g.others (length h.code)) in
      let w : length k ≡ items_end (i ∷ []) (length h.code) = items_length h.code (i ∷ []) Γ in
      let r : items_end g.others (length k) ≤ code_limit = rw (w, sym m) h.room in
      let n : length N.held + (1 + length g.others) ≤ N.most = let a : length is ≡ suc (length g.others) = ap length g.all in let b = h.entries in omega arith in
      record {
        static = h.static;
        marks = h.marks;
        rest = h.rest;
        code = k;
        placed = h.placed;
        few = d.few;
        stands = d.next ∙ g.rest;
        begun = d.ended ∙ ap (λ (x : List Instruction). coded (x ++ items_code (i ∷ []) Γ)) g.code;
        room = r;
        entries = let a = d.entries in let b = d.most in omega arith;
      }

  joined_check : (v : Told Scope) → check_items g.others (scope_of s O.held) ≡ v → check_items is (scope_of s N.held) ≡ v
  joined_check v e = rw g.all (check_more g.first g.others _ _ (one_is g.first _ _ d.checked) ∙ e)

  pub items_joined : (M : Held Name) (D : Held Instruction) (r : Result ℕ Refusal) → AllDone s ts q O E g.others items_left M D r → AllDone s ts at N C is h M D r
  unfolding items_left
  items_joined M D (Ok p) e =
      let i = g.first in
      let Γ = scope_of s N.held in
      let a : items_scope is Γ ≡ items_scope g.others (scope_of s O.held) = rw g.all (scope_more i g.others Γ ∙ ap (items_scope g.others) (sym d.scope)) in
      let b : items_code is Γ ≡ items_code (i ∷ []) Γ ++ items_code g.others (scope_of s O.held) =
      rw g.all (code_more i g.others Γ ∙ ap (λ (x : Scope). items_code (i ∷ []) Γ ++ items_code g.others x) (sym d.scope)) in
      record {
        next = e.next;
        checked = joined_check _ e.checked;
        scope = e.scope ∙ sym a;
        few = e.few;
        most = e.most ∙ d.most;
        entries = let x : length is ≡ suc (length g.others) = ap length g.all in let y = d.entries in let z = e.entries in omega arith;
        ended = e.ended ∙ ap coded (append_assoc h.code (items_code (i ∷ []) Γ) (items_code g.others (scope_of s O.held)) ∙ ap (λ (x : List Instruction). h.code ++ x) (sym b));
      }
  items_joined M D (Err f) e = joined_check _ e

-- the first is translated, and the others are left
pub items_further : (s : List ℕ) (ts : List Token) (at now q : ℕ) (N O P : Held Name) (C E F : Held Instruction) → ItemsOn s ts at N C now O E → None ≡ past_main s ts now → TranslatesItem s ts now O P E F (Ok q)
    → ItemsOn s ts at N C q P F
items_further s ts at now q N O P C E F v e t is h =
    let i = v is h in
    let g = items_first s ts now O E i.0 i.1 e in
    let d = t g.first g.there in
    (g.others, items_left s ts now q O P E F i.0 i.1 g d, λ M D r a. i.2 M D r (items_joined s ts now q O P E F i.0 i.1 g d M D r a))
