-- Calls: the function, its arguments, and whether it takes them.
use Rattle.std.proofs.Common.{◌≡◌, ℕ, ◌+◌, ◌<◌, ◌≤◌, Bool, true, false, List, [], ◌∷◌, ◌++◌, length, drop, Some, Ok, Err, Option, sym, refl, ap, ◌∙◌, append_assoc, arith, length-append}
use Rattle.refusal.specs.Told.{Told, accepted, refused, number_of}
use Rattle.refusal.specs.declared.reason.Refusal.{Refusal}
use Rattle.stacks.specs.Held.{Held}
use Rattle.std.specs.List.{slice_get}
use Rattle.lexer.specs.Reading.{lexemes}
use Rattle.lexer.specs.declared.kind.Kind.TheVariants as K
use Rattle.lexer.specs.declared.kind.Token.{Token}
use Rattle.meaning.specs.declared.operator.Scalar.{Scalar}
use Rattle.meaning.specs.declared.operator.Scalar.TheVariants.{Bool as bool, Char as char, Int as int}
use Rattle.meaning.specs.Trees.{Ident, call, Args, void, gives}
use Rattle.meaning.specs.Written.{sign, ident, expr_lexemes, args_lexemes}
use Rattle.meaning.specs.Scopes.{Callee, a_function, lookup}
use Rattle.meaning.specs.Types.{signature, same_types}
use Rattle.meaning.specs.Check.{Scope, then, needs, as_callee, called, value, type_of, arg_types}
use Rattle.machine.specs.declared.instruction.Instruction.{Instruction}
use Rattle.layout.proofs.Compiled.{call_code, expr_end, expr_code, args_end, args_code}
use Rattle.layout.proofs.Ends.{args_after}
use Rattle.translator.specs.declared.name.Callee as Listed
use Rattle.translator.specs.declared.name.Callee.TheVariants as C
use Rattle.translator.specs.declared.typed.Given.{Given}
use Rattle.translator.specs.Translation.{code_limit}
use Rattle.translator.specs.Code.{Placed, coded, Emits}
use Rattle.translator.specs.Names.{callee_of, return_of, CalleeIs}
use Rattle.translator.specs.Expressions.{ExprAt, ArgsAt, CallDone, given_of, takes_int, takes_given}
use Rattle.translator.proofs.Lexemes.{inside, next_is}
use Rattle.translator.proofs.Emitting.{after-length}
use Rattle.translator.proofs.Joining.{place_is, placed_at}

-- Types.

unknown_callee : (Γ : Scope) (x : Ident) (given : Told (List Scalar)) (n p : ℕ) → as_callee (lookup x.bytes Γ) x.place ≡ refused n p → called Γ x given ≡ refused n p
unfolding called then
unknown_callee Γ x given n p h = rw h refl

wrong_argument : (Γ : Scope) (x : Ident) (given : Told (List Scalar)) (f : Callee) (n p : ℕ) → as_callee (lookup x.bytes Γ) x.place ≡ accepted f → given ≡ refused n p → called Γ x given ≡ refused n p
unfolding called then
wrong_argument Γ x given f n p h g = rw (h, g) refl

not_taken : (Γ : Scope) (x : Ident) (given : Told (List Scalar)) (f : Callee) (us : List Scalar) → as_callee (lookup x.bytes Γ) x.place ≡ accepted f → given ≡ accepted us → same_types us (signature f).parameters ≡ false →
    called Γ x given ≡ refused 15 x.place
unfolding called then needs
not_taken Γ x given f us h g s = rw (h, g, s) refl

taken : (Γ : Scope) (x : Ident) (given : Told (List Scalar)) (f : Callee) (us : List Scalar) → as_callee (lookup x.bytes Γ) x.place ≡ accepted f → given ≡ accepted us → same_types us (signature f).parameters ≡ true →
    called Γ x given ≡ accepted (signature f).result
unfolding called then needs
taken Γ x given f us h g s = rw (h, g, s) refl

pub call-fault : (x : Ident) (q : ℕ × ℕ) (xs : Args) (Γ : Scope) (n p : ℕ) → called Γ x (arg_types xs Γ) ≡ refused n p → type_of (call x q xs) Γ ≡ refused n p
unfolding type_of then
call-fault x q xs Γ n p h = rw h refl

pub call_void : (x : Ident) (q : ℕ × ℕ) (xs : Args) (Γ : Scope) → called Γ x (arg_types xs Γ) ≡ accepted void → type_of (call x q xs) Γ ≡ refused 15 x.place
unfolding type_of then value
call_void x q xs Γ h = rw h refl

pub call_gives : (x : Ident) (q : ℕ × ℕ) (xs : Args) (Γ : Scope) (t : Scalar) → called Γ x (arg_types xs Γ) ≡ accepted (gives t) → type_of (call x q xs) Γ ≡ accepted t
unfolding type_of then value
call_gives x q xs Γ t h = rw h refl

module _ (s : List ℕ) (ts : List Token) (at : ℕ) (Γ : Scope) (C : Held Instruction) (x : Ident) (q : ℕ × ℕ) (xs : Args) (h : ExprAt 0 s ts at Γ C (call x q xs)) where
  -- the name that is called
  pub call-name : drop at (lexemes s ts) ≡ ident x ∷ sign K.OpenParen q.0 ∷ args_lexemes xs (sign K.CloseParen q.1 ∷ h.rest)
  unfolding expr_lexemes
  call-name = h.stands

  pub call_place : (t : Token) → slice_get ts at ≡ Some t → t.place ≡ x.place
  call_place t n = place_is s ts at t (ident x) _ n call-name

  call_placed : Placed x.place
  call_placed = placed_at (lexemes s ts) at (ident x) _ h.placed call-name

  pub call-room : args_end xs Γ (length h.code) ≤ code_limit
  unfolding expr_end
  call-room = let l = h.room in omega arith

  -- its arguments
  abbrev pub call_args : (inner : ℕ) → (at + 1 < length ts → inner ≡ at + 1 + 1) → ArgsAt s ts inner Γ C xs
  call_args inner n =
      let a = next_is (lexemes s ts) at (ident x) _ call-name in
      let i = inside s ts (at + 1) (sign K.OpenParen q.0) _ a in
      record {
        close = q.1;
        rest = h.rest;
        code = h.code;
        placed = h.placed;
        few = h.few;
        grouped = h.grouped;
        stands = rw (n i) (next_is (lexemes s ts) (at + 1) (sign K.OpenParen q.0) _ a);
        begun = h.begun;
        room = call-room;
      }

  pub callee_wrong : (f : Refusal) → CalleeIs Γ x.bytes x.place (Err f) → called Γ x (arg_types xs Γ) ≡ refused (number_of f.reason) f.place
  callee_wrong f e = unknown_callee Γ x (arg_types xs Γ) _ _ e

  module _ (f : Listed.Callee) (callee : CalleeIs Γ x.bytes x.place (Ok f)) where
    pub argument_wrong : (n p : ℕ) → arg_types xs Γ ≡ refused n p → called Γ x (arg_types xs Γ) ≡ refused n p
    argument_wrong n p e = wrong_argument Γ x (arg_types xs Γ) (callee_of f) n p callee.1 e

    pub misfit : (us : List Scalar) (t : Token) → slice_get ts at ≡ Some t → arg_types xs Γ ≡ accepted us → same_types us (signature (callee_of f)).parameters ≡ false → called Γ x (arg_types xs Γ) ≡ refused 15 t.place
    misfit us t n e z = not_taken Γ x (arg_types xs Γ) (callee_of f) us callee.1 e z ∙ ap (refused 15) (sym (call_place t n))

    pub call-done : (us : List Scalar) (t : Token) (E D : Held Instruction) (c : ℕ) (g : Option Scalar) (end : ℕ) → slice_get ts at ≡ Some t → arg_types xs Γ ≡ accepted us → same_types us (signature (callee_of f)).parameters ≡ true →
        drop end (lexemes s ts) ≡ h.rest → E ≡ coded (h.code ++ args_code xs Γ (length h.code)) → c ≡ call_code (a_function (callee_of f)) → Emits E c 0 t.place D → return_of g ≡ (signature (callee_of f)).result →
        CallDone s ts Γ D x q xs h.rest h.code (Ok (record { gives = g; end = end }))
    unfolding expr_code expr_end
    call-done us t E D c g end n e z d k o m r =
        let Y = h.code ++ args_code xs Γ (length h.code) in
        let l : length Y ≡ args_end xs Γ (length h.code) =
        length-append h.code (args_code xs Γ (length h.code)) ∙ sym (after-length (args_code xs Γ (length h.code)) (length h.code)) ∙ args_after xs Γ (length h.code) in
        let room = h.room in
        let p = call_place t n in (
          taken Γ x (arg_types xs Γ) (callee_of f) us callee.1 e z ∙ ap accepted (sym r),
          d,
          m Y k (omega arith) (omega arith) (rw p call_placed) ∙ rw (o, p, callee.0) (simp append_assoc),
        )

-- what a function takes

int_alone : (us : List Scalar) → takes_given true (given_of us) ≡ same_types us (int ∷ [])
unfolding same_types
int_alone [] = refl
int_alone (bool ∷ []) = refl
int_alone (char ∷ []) = refl
int_alone (int ∷ []) = refl
int_alone (bool ∷ u ∷ us) = refl
int_alone (char ∷ u ∷ us) = refl
int_alone (int ∷ u ∷ us) = refl

nothing_alone : (us : List Scalar) → takes_given false (given_of us) ≡ same_types us []
unfolding same_types
nothing_alone [] = refl
nothing_alone (bool ∷ []) = refl
nothing_alone (char ∷ []) = refl
nothing_alone (int ∷ []) = refl
nothing_alone (t ∷ u ∷ us) = refl

pub takes_is : (f : Listed.Callee) (us : List Scalar) (g : Given) (b : Bool) → b ≡ takes_given (takes_int f) g → g ≡ given_of us → same_types us (signature (callee_of f)).parameters ≡ b
takes_is C.Zone us g b e h = sym (e ∙ ap (takes_given true) h ∙ int_alone us)
takes_is C.Columns us g b e h = sym (e ∙ ap (takes_given false) h ∙ nothing_alone us)
takes_is C.Rows us g b e h = sym (e ∙ ap (takes_given false) h ∙ nothing_alone us)
takes_is C.Report us g b e h = sym (e ∙ ap (takes_given true) h ∙ int_alone us)
takes_is C.Main us g b e h = sym (e ∙ ap (takes_given false) h ∙ nothing_alone us)
