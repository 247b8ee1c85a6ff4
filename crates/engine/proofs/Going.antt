-- From the reasons to refuse a go to what the go comes to.
use Rattle.std.proofs.Common.{◌≡◌, ℕ, ◌+◌, Bool, true, false, cond, List, [], ◌∷◌, length, take, sym, refl, ap, ◌∙◌}
use Rattle.refusal.specs.Told.{accepted, refused}
use Rattle.boards.specs.Meaning.{Meaning}
use Rattle.machine.specs.declared.instruction.Instruction.{Instruction}
use Rattle.machine.specs.Runs.{Kept, Said, Call, call, says}
use Rattle.engine.specs.Views.{Held, records, loaded_of}
use Rattle.engine.specs.Calls.{unless, after, telling, go_reasons, going, gone, Goes}

-- whether a call is refused does not depend on what it would answer
whatever : {X Y : Type 0} (rs : List (Bool × ℕ)) (x : X) (y : Y) → unless rs y ≡ telling (λ _. y) (unless rs x)
whatever [] x y = refl
whatever (r ∷ rs) x y =
    elim r.0 as (λ t. cond t (refused r.1 0) (unless rs y) ≡ telling (λ _. y) (cond t (refused r.1 0) (unless rs x)))
    [ true ↦ refl | false ↦ whatever rs x y ]

-- what is accepted is what was asked
accepted_is : {X : Type 0} (rs : List (Bool × ℕ)) (x y : X) → accepted y ≡ unless rs x → y ≡ x
accepted_is rs x y e = let f = whatever rs x x ∙ ap (telling (λ _. x)) (sym e) in cc

module _ (e : Held) (code : List Instruction) (b : Meaning) (ticks : ℕ) where
  pub go_refused : (n p : ℕ) → refused n p ≡ unless (go_reasons e (length code) ticks) (records e.loaded) → Goes e code b ticks (refused n p) e b
  go_refused n p r =
      let is : refused n p ≡ going e code b ticks = ap (telling (λ _. call (loaded_of e code) e.machine b ticks)) r ∙ sym (whatever (go_reasons e (length code) ticks) (records e.loaded) _) in
      record {
        answer = ap (telling says) is;
        engine = ap (λ g. after g (gone e ticks) e) is;
        board = ap (λ g. after g (λ (x : Call). x.board) b) is;
      }

  pub go_accepted : (n : ℕ) → accepted n ≡ unless (go_reasons e (length code) ticks) (records e.loaded) →
      (a : Said) (k : Kept) (c : Meaning) → a ≡ says (call (take n code) e.machine b ticks) → k ≡ (call (take n code) e.machine b ticks).kept →
      c ≡ (call (take n code) e.machine b ticks).board → Goes e code b ticks (accepted a) (record { loaded = e.loaded; machine = k; granted = e.granted + ticks }) c
  go_accepted n r a k c p q s =
      let x = call (loaded_of e code) e.machine b ticks in
      let is : accepted x ≡ going e code b ticks = ap (telling (λ _. x)) r ∙ sym (whatever (go_reasons e (length code) ticks) (records e.loaded) x) in
      let same : call (take n code) e.machine b ticks ≡ x = ap (λ m. call (take m code) e.machine b ticks) (accepted_is (go_reasons e (length code) ticks) (records e.loaded) n r) in
      record {
        answer = ap accepted (p ∙ ap says same) ∙ ap (telling says) is;
        engine = ap (λ m. record { loaded = e.loaded; machine = m; granted = e.granted + ticks }) q ∙ ap (gone e ticks) same ∙ ap (λ g. after g (gone e ticks) e) is;
        board = s ∙ ap (λ (y : Call). y.board) same ∙ ap (λ g. after g (λ (y : Call). y.board) b) is;
      }
