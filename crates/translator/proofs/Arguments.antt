-- The arguments of a call, one after the other.
use Rattle.std.proofs.Common.{◌≡◌, ℕ, ◌+◌, ◌<◌, ◌≤◌, true, false, List, [], ◌∷◌, ◌++◌, length, drop, Some, None, Ok, Option, sym, refl, ap, ◌∙◌, append_assoc, append-nil, arith, length-append}
use Rattle.refusal.specs.Told.{Told, accepted, refused}
use Rattle.stacks.specs.Held.{Held}
use Rattle.lexer.specs.Lexeme.{Lexeme}
use Rattle.lexer.specs.Reading.{lexemes}
use Rattle.lexer.specs.declared.kind.Kind.{Kind}
use Rattle.lexer.specs.declared.kind.Kind.TheVariants as K
use Rattle.lexer.specs.declared.kind.Token.{Token}
use Rattle.lookahead.specs.Seen.{seen, is_kind, start_of}
use Rattle.meaning.specs.declared.operator.Scalar.{Scalar}
use Rattle.meaning.specs.Trees.{Expr, Args, no_args, args, Exprs, last, more}
use Rattle.meaning.specs.Written.{sign, expr_lexemes, args_lexemes, exprs_lexemes}
use Rattle.meaning.specs.Grammar.{Grouped, GroupedExprs}
use Rattle.meaning.specs.Scopes.{cells}
use Rattle.meaning.specs.Check.{Scope, then, type_of, arg_types, expr_types}
use Rattle.meaning.proofs.Stack.{More, end, comma}
use Rattle.meaning.proofs.Parsed.{more_lexemes, FineMore, EndsE}
use Rattle.parser.proofs.Expect.{same_code}
use Rattle.machine.specs.declared.instruction.Instruction.{Instruction}
use Rattle.layout.proofs.Compiled.{expr_end, expr_code, args_end, args_code, exprs_end, exprs_code}
use Rattle.layout.proofs.Ends.{exprs_grow}
use Rattle.translator.specs.declared.typed.Typed.{Typed}
use Rattle.translator.specs.declared.typed.Given.{Given}
use Rattle.translator.specs.declared.typed.Given.TheVariants.{Nothing, One, Many}
use Rattle.translator.specs.Translation.{code_limit}
use Rattle.translator.specs.Code.{coded}
use Rattle.translator.specs.Expressions.{AllPlaced, ExprAt, ExprDone, ArgsAt, ArgsDone, given_of, first_of, after_first}
use Rattle.translator.proofs.Lexemes.{inside, next_is, seen-sign}
use Rattle.translator.proofs.Emitting.{code-length}
use Rattle.translator.proofs.Tails.{first_lexemes, first_grouped}
use Rattle.translator.proofs.Operands.{start_is, never_starts}

-- the kind that a test finds
pub kind_found : (o : Option Kind) (k : Kind) → is_kind o k ≡ true → o ≡ Some k
kind_found None k h = let w : ◌≡◌ {A = ℕ} 0 1 = cc in absurd (omega arith)
kind_found (Some j) k h = ap Some (same_code j k h)

-- an expression does not begin with what begins no operand
pub expr_begins : (s : List ℕ) (ts : List Token) (at n : ℕ) (e : Expr) (r : List Lexeme) → Grouped e n → drop at (lexemes s ts) ≡ expr_lexemes e r → start_of (seen ts at) ≡ None → ⊥
expr_begins s ts at n e r g h z =
    never_starts (first_of e) (first_grouped e n g) (sym z ∙ start_is s ts at (first_of e) (after_first e r) (first_grouped e n g) (h ∙ first_lexemes e r))

-- The first of some arguments, and the others.

abbrev pub head_of : Exprs → Expr
head_of (last e) = e
head_of (more e p es) = e

abbrev pub rest_of : Exprs → More
rest_of (last e) = end
rest_of (more e p es) = comma p es

abbrev pub more_types : More → Scope → Told (List Scalar)
more_types end Γ = accepted []
more_types (comma p es) Γ = expr_types es Γ

abbrev pub more_code : More → Scope → ℕ → List Instruction
more_code end Γ o = []
more_code (comma p es) Γ o = exprs_code es Γ o

abbrev pub more_end : More → Scope → ℕ → ℕ
more_end end Γ o = o
more_end (comma p es) Γ o = exprs_end es Γ o

pub exprs_lexemes_lem : (es : Exprs) (r : List Lexeme) → exprs_lexemes es r ≡ expr_lexemes (head_of es) (more_lexemes (rest_of es) r)
unfolding exprs_lexemes
exprs_lexemes_lem (last e) r = refl
exprs_lexemes_lem (more e p es) r = refl

exprs_types : (es : Exprs) (Γ : Scope) (t : Scalar) (us : List Scalar) → type_of (head_of es) Γ ≡ accepted t → more_types (rest_of es) Γ ≡ accepted us → expr_types es Γ ≡ accepted (t ∷ us)
unfolding expr_types then
exprs_types (last e) Γ t us h m = let z : [] ≡ us = cc in rw (h, sym z) refl
exprs_types (more e p es) Γ t us h m = rw (h, m) refl

exprs_fault : (es : Exprs) (Γ : Scope) (n p : ℕ) → type_of (head_of es) Γ ≡ refused n p → expr_types es Γ ≡ refused n p
unfolding expr_types then
exprs_fault (last e) Γ n p h = rw h refl
exprs_fault (more e q es) Γ n p h = rw h refl

exprs_later : (es : Exprs) (Γ : Scope) (t : Scalar) (n p : ℕ) → type_of (head_of es) Γ ≡ accepted t → more_types (rest_of es) Γ ≡ refused n p → expr_types es Γ ≡ refused n p
unfolding expr_types then
exprs_later (last e) Γ t n p h m = let w : ◌≡◌ {A = ℕ} 0 1 = cc in absurd (omega arith)
exprs_later (more e q es) Γ t n p h m = rw (h, m) refl

exprs_code_lem : (es : Exprs) (Γ : Scope) (o : ℕ) → exprs_code es Γ o ≡ expr_code (head_of es) Γ o ++ more_code (rest_of es) Γ (expr_end (head_of es) Γ o)
unfolding exprs_code
exprs_code_lem (last e) Γ o = sym (append-nil (expr_code e Γ o))
exprs_code_lem (more e p es) Γ o = refl

pub exprs_end_lem : (es : Exprs) (Γ : Scope) (o : ℕ) → exprs_end es Γ o ≡ more_end (rest_of es) Γ (expr_end (head_of es) Γ o)
unfolding exprs_end
exprs_end_lem (last e) Γ o = refl
exprs_end_lem (more e p es) Γ o = refl

pub more_grows : (m : More) (Γ : Scope) (o : ℕ) → o ≤ more_end m Γ o
more_grows end Γ o = omega arith
more_grows (comma p es) Γ o = exprs_grow es Γ o

pub exprs_fine : (es : Exprs) → GroupedExprs es → Grouped (head_of es) 6 × FineMore (rest_of es)
exprs_fine (last e) g = (g, tt)
exprs_fine (more e p es) g = (g.0, g.1)

-- what follows an argument does not go on with it
pub argument_ends : (m : More) (e : Expr) (q : ℕ) (r : List Lexeme) → EndsE 6 e (more_lexemes m (sign K.CloseParen q ∷ r))
argument_ends end e q r = (λ _. refl, omega arith)
argument_ends (comma p es) e q r = (λ _. refl, omega arith)

-- Arguments stand at a place, after code.
pub record ListAt (s : List ℕ) (ts : List Token) (at : ℕ) (Γ : Scope) (C : Held Instruction) (es : Exprs) (q : ℕ) (r : List Lexeme) (here : List Instruction) : Type 0 where
  pub placed : AllPlaced (lexemes s ts)
  pub few : cells Γ ≤ 64
  pub grouped : GroupedExprs es
  pub stands : drop at (lexemes s ts) ≡ exprs_lexemes es (sign K.CloseParen q ∷ r)
  pub begun : C ≡ coded here
  pub room : exprs_end es Γ (length here) ≤ code_limit

-- Some arguments are translated, of these types, and the others of xs follow.
pub record Listing (s : List ℕ) (ts : List Token) (at : ℕ) (Γ : Scope) (C : Held Instruction) (given : Given) (xs : Args) (q : ℕ) (r : List Lexeme) (k : List Instruction) : Type 0 where
  pub types : List Scalar
  pub others : More
  pub here : List Instruction
  pub placed : AllPlaced (lexemes s ts)
  pub few : cells Γ ≤ 64
  pub given_is : given ≡ given_of types
  pub some : 1 ≤ length types
  pub all : (us : List Scalar) → more_types others Γ ≡ accepted us → arg_types xs Γ ≡ accepted (types ++ us)
  pub fault : (n p : ℕ) → more_types others Γ ≡ refused n p → arg_types xs Γ ≡ refused n p
  pub fine : FineMore others
  pub stands : drop at (lexemes s ts) ≡ more_lexemes others (sign K.CloseParen q ∷ r)
  pub begun : C ≡ coded here
  pub same : k ++ args_code xs Γ (length k) ≡ here ++ more_code others Γ (length here)
  pub room : more_end others Γ (length here) ≤ code_limit

module _ (s : List ℕ) (ts : List Token) (at : ℕ) (Γ : Scope) (C : Held Instruction) (es : Exprs) (q : ℕ) (r : List Lexeme) (here : List Instruction) (h : ListAt s ts at Γ C es q r here) where
  -- the first of them
  abbrev pub head_at : ExprAt 6 s ts at Γ C (head_of es)
  head_at =
      let z = exprs_end_lem es Γ (length here) in
      let m = more_grows (rest_of es) Γ (expr_end (head_of es) Γ (length here)) in
      let l = h.room in
      record {
        rest = more_lexemes (rest_of es) (sign K.CloseParen q ∷ r);
        code = here;
        placed = h.placed;
        few = h.few;
        grouped = (exprs_fine es h.grouped).0;
        ends = argument_ends (rest_of es) (head_of es) q r;
        stands = h.stands ∙ exprs_lexemes_lem es (sign K.CloseParen q ∷ r);
        begun = h.begun;
        room = omega arith;
      }

  -- the code goes on from there
  head_code : here ++ exprs_code es Γ (length here) ≡ (here ++ expr_code (head_of es) Γ (length here)) ++ more_code (rest_of es) Γ (length (here ++ expr_code (head_of es) Γ (length here)))
  head_code =
      ap (λ (x : List Instruction). here ++ x) (exprs_code_lem es Γ (length here)) ∙ sym (append_assoc here (expr_code (head_of es) Γ (length here)) _)
      ∙ rw (code-length here (head_of es) Γ) refl

  head_room : more_end (rest_of es) Γ (length (here ++ expr_code (head_of es) Γ (length here))) ≤ code_limit
  head_room = rw (code-length here (head_of es) Γ) (rw (exprs_end_lem es Γ (length here)) at h.room)

given_more : (ts : List Scalar) (t : Scalar) → 1 ≤ length ts → Many ≡ given_of (ts ++ (t ∷ []))
given_more [] t l = absurd (omega arith)
given_more (u ∷ []) t l = refl
given_more (u ∷ v ∷ ts) t l = refl

-- The first argument.

module _ (s : List ℕ) (ts : List Token) (at : ℕ) (Γ : Scope) (C : Held Instruction) where
  -- what stands where no bracket closes at once
  pub first_list : (es : Exprs) (h : ArgsAt s ts at Γ C (args es)) → ListAt s ts at Γ C es h.close h.rest h.code
  unfolding args_lexemes args_end
  first_list es h = record { placed = h.placed; few = h.few; grouped = h.grouped; stands = h.stands; begun = h.begun; room = h.room }

  pub no_list : (h : ArgsAt s ts at Γ C no_args) → is_kind (seen ts at) K.CloseParen ≡ true
  unfolding args_lexemes
  no_list h = ap (λ (o : Option Kind). is_kind o K.CloseParen) (seen-sign s ts at K.CloseParen h.close h.rest h.stands)

  pub some_list : (es : Exprs) (h : ArgsAt s ts at Γ C (args es)) → is_kind (seen ts at) K.CloseParen ≡ true → ⊥
  some_list es h z =
      let l = first_list es h in
      let i = head_at s ts at Γ C es h.close h.rest h.code l in
      expr_begins s ts at 6 (head_of es) i.rest i.grouped i.stands (ap start_of (kind_found (seen ts at) K.CloseParen z))

  -- no arguments
  pub none_done : (stop : ℕ) → is_kind (seen ts at) K.CloseParen ≡ true → (at < length ts → stop ≡ at + 1) → (xs : Args) (h : ArgsAt s ts at Γ C xs) →
      ArgsDone s ts Γ C xs h.rest h.code (Ok (record { given = Nothing; end = stop }))
  unfolding arg_types args_lexemes args_code
  none_done stop z n no_args h =
      let i = inside s ts at (sign K.CloseParen h.close) h.rest h.stands in
      ([], refl, refl, rw (n i) (next_is (lexemes s ts) at (sign K.CloseParen h.close) h.rest h.stands), h.begun ∙ ap coded (sym (append-nil h.code)))
  none_done stop z n (args es) h = absurd (some_list es h z)

  -- the fault of the first
  pub first_wrong : is_kind (seen ts at) K.CloseParen ≡ false → (n p : ℕ) → ((e : Expr) (x : ExprAt 6 s ts at Γ C e) → type_of e Γ ≡ refused n p) → (xs : Args) (h : ArgsAt s ts at Γ C xs) → arg_types xs Γ ≡ refused n p
  unfolding arg_types
  first_wrong z n p f no_args h = let q : true ≡ false = sym (no_list h) ∙ z in let w : ◌≡◌ {A = ℕ} 0 1 = cc in absurd (omega arith)
  first_wrong z n p f (args es) h = exprs_fault es Γ n p (f (head_of es) (head_at s ts at Γ C es h.close h.rest h.code (first_list es h)))

  pub first_listed : is_kind (seen ts at) K.CloseParen ≡ false → (D : Held Instruction) (first : Typed) → ((e : Expr) (x : ExprAt 6 s ts at Γ C e) → ExprDone s ts Γ D e x.rest x.code (Ok first)) →
      (xs : Args) (h : ArgsAt s ts at Γ C xs) → Listing s ts first.end Γ D (One first.kind) xs h.close h.rest h.code
  unfolding arg_types args_code
  first_listed z D first f no_args h = let q : true ≡ false = sym (no_list h) ∙ z in let w : ◌≡◌ {A = ℕ} 0 1 = cc in absurd (omega arith)
  first_listed z D first f (args es) h =
      let l = first_list es h in
      let d = f (head_of es) (head_at s ts at Γ C es h.close h.rest h.code l) in
      record {
        types = first.kind ∷ [];
        others = rest_of es;
        here = h.code ++ expr_code (head_of es) Γ (length h.code);
        placed = h.placed;
        few = h.few;
        given_is = refl;
        some = omega arith;
        all = λ us m. exprs_types es Γ first.kind us d.0 m;
        fault = λ n p m. exprs_later es Γ first.kind n p d.0 m;
        fine = (exprs_fine es h.grouped).1;
        stands = d.1;
        begun = d.2;
        same = head_code s ts at Γ C es h.close h.rest h.code l;
        room = head_room s ts at Γ C es h.close h.rest h.code l;
      }

-- A further argument.

module _ (s : List ℕ) (ts : List Token) (at : ℕ) (Γ : Scope) (C : Held Instruction) (given : Given) (xs : Args) (q : ℕ) (r : List Lexeme) (k : List Instruction) where
  next_list : (g : Listing s ts at Γ C given xs q r k) (p : ℕ) (es : Exprs) → g.others ≡ comma p es → ListAt s ts (at + 1) Γ C es q r g.here
  next_list g p es e =
      record {
        placed = g.placed;
        few = g.few;
        grouped = rw e at g.fine;
        stands = next_is (lexemes s ts) at (sign K.Comma p) _ (rw e at g.stands);
        begun = g.begun;
        room = rw e at g.room;
      }

  -- the others, where a comma stands
  pub the_others : is_kind (seen ts at) K.Comma ≡ true → (g : Listing s ts at Γ C given xs q r k) → (p : ℕ) × (es : Exprs) × (g.others ≡ comma p es)
  the_others z g = by g.others refl
    where
      by : (m : More) → g.others ≡ m → (p : ℕ) × (es : Exprs) × (g.others ≡ comma p es)
      by end e =
          let a : true ≡ false = sym z ∙ ap (λ (o : Option Kind). is_kind o K.Comma) (seen-sign s ts at K.CloseParen q r (g.stands ∙ ap (λ (m : More). more_lexemes m (sign K.CloseParen q ∷ r)) e)) in
          let w : ◌≡◌ {A = ℕ} 0 1 = cc in absurd (omega arith)
      by (comma p es) e = (p, es, e)

  pub next_wrong : is_kind (seen ts at) K.Comma ≡ true → (n p : ℕ) → ((e : Expr) (x : ExprAt 6 s ts (at + 1) Γ C e) → type_of e Γ ≡ refused n p) → Listing s ts at Γ C given xs q r k → arg_types xs Γ ≡ refused n p
  next_wrong z n p f g =
      let o = the_others z g in
      g.fault n p (rw o.2 (exprs_fault o.1 Γ n p (f (head_of o.1) (head_at s ts (at + 1) Γ C o.1 q r g.here (next_list g o.0 o.1 o.2)))))

  pub next-listed : is_kind (seen ts at) K.Comma ≡ true → (D : Held Instruction) (next : Typed) → ((e : Expr) (x : ExprAt 6 s ts (at + 1) Γ C e) → ExprDone s ts Γ D e x.rest x.code (Ok next)) →
      Listing s ts at Γ C given xs q r k → Listing s ts next.end Γ D Many xs q r k
  next-listed z D next f g =
      let o = the_others z g in
      let es = o.1 in
      let l = next_list g o.0 es o.2 in
      let d = f (head_of es) (head_at s ts (at + 1) Γ C es q r g.here l) in
      let n = length-append g.types (next.kind ∷ []) in
      record {
        types = g.types ++ (next.kind ∷ []);
        others = rest_of es;
        here = g.here ++ expr_code (head_of es) Γ (length g.here);
        placed = g.placed;
        few = g.few;
        given_is = given_more g.types next.kind g.some;
        some = omega arith;
        all = λ us m. g.all (next.kind ∷ us) (rw o.2 (exprs_types es Γ next.kind us d.0 m)) ∙ ap accepted (sym (append_assoc g.types (next.kind ∷ []) us));
        fault = λ n p m. g.fault n p (rw o.2 (exprs_later es Γ next.kind n p d.0 m));
        fine = (exprs_fine es l.grouped).1;
        stands = d.1;
        begun = d.2;
        same = g.same ∙ ap (λ (m : More). g.here ++ more_code m Γ (length g.here)) o.2 ∙ head_code s ts (at + 1) Γ C es q r g.here l;
        room = head_room s ts (at + 1) Γ C es q r g.here l;
      }

  -- no comma: all are translated
  pub listed-done : is_kind (seen ts at) K.Comma ≡ false → (stop : ℕ) → (at < length ts → stop ≡ at + 1) → Listing s ts at Γ C given xs q r k → ArgsDone s ts Γ C xs r k (Ok (record { given = given; end = stop }))
  listed-done z stop n g = by g.others refl
    where
      by : (m : More) → g.others ≡ m → ArgsDone s ts Γ C xs r k (Ok (record { given = given; end = stop }))
      by end e =
          let h : drop at (lexemes s ts) ≡ sign K.CloseParen q ∷ r = g.stands ∙ ap (λ (m : More). more_lexemes m (sign K.CloseParen q ∷ r)) e in
          let i = inside s ts at (sign K.CloseParen q) r h in (
            g.types,
            g.all [] (rw e refl) ∙ ap accepted (append-nil g.types),
            g.given_is,
            rw (n i) (next_is (lexemes s ts) at (sign K.CloseParen q) r h),
            g.begun ∙ ap coded (sym (g.same ∙ ap (λ (m : More). g.here ++ more_code m Γ (length g.here)) e ∙ append-nil g.here)),
          )
      by (comma p es) e =
          let a : true ≡ false = ap (λ (o : Option Kind). is_kind o K.Comma) (sym (seen-sign s ts at K.Comma p _ (g.stands ∙ ap (λ (m : More). more_lexemes m (sign K.CloseParen q ∷ r)) e))) ∙ z in
          let w : ◌≡◌ {A = ℕ} 0 1 = cc in absurd (omega arith)

-- the loop: what is left of the arguments is left later on
abbrev pub Lists : List ℕ → List Token → Scope → ℕ → Held Instruction → Given → ℕ → Held Instruction → Given → Type 0
Lists s ts Γ from B g at C h =
    (xs : Args) (q : ℕ) (r : List Lexeme) (k : List Instruction) → Listing s ts from Γ B g xs q r k → Listing s ts at Γ C h xs q r k
