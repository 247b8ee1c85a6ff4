-- Jumps that get their targets.
use Rattle.std.proofs.Common.{◌≡◌, ℕ, zero, suc, ◌-◌, ◌<◌, ◌≤◌, true, false, cond, List, [], ◌∷◌, ◌++◌, length, take, drop, set, ℤ, pos, Some, None, sym, refl, ap, ◌∙◌, arith, length-take, take_all, take-take}
use lib.Seq.{drop-append-le, split_at}
use Rattle.std.specs.List.{slice_get}
use Rattle.std.proofs.lemmas.List.{drop_all}
use Rattle.std.proofs.lemmas.Option.{slice_get-get_or}
use Rattle.stacks.specs.Held.{Held, holding, top, popped}
use Rattle.machine.specs.declared.instruction.Instruction.{Instruction}
use Rattle.translator.specs.declared.pending.Jump.{Jump}
use Rattle.translator.specs.Code.{Placed, coded, aim, aimed, patched, Lands, LandsAll, LandsOn}

-- replacing an instruction by one with another target
set_aims : (C : List Instruction) (i t : ℕ) (x : Instruction) → slice_get C i ≡ Some x → set C i (aim t x) ≡ aimed i t C
unfolding aimed
set_aims [] i t x e = let z : ◌≡◌ {A = ℕ} 0 1 = cc in absurd (omega arith)
set_aims (y ∷ C) zero t x e = let a : y ≡ x = cc in rw (sym a) refl
set_aims (y ∷ C) (suc i) t x e = ap (◌∷◌ y) (set_aims C i t x e)

past_aims : (C : List Instruction) (i t : ℕ) → slice_get C i ≡ None → C ≡ aimed i t C
unfolding aimed
past_aims [] i t e = refl
past_aims (y ∷ C) zero t e = let z : ◌≡◌ {A = ℕ} 0 1 = cc in absurd (omega arith)
past_aims (y ∷ C) (suc i) t e = ap (◌∷◌ y) (past_aims C i t e)

-- landing one jump
pub lands_there : (B A : Held Instruction) (i t : ℕ) (x : Instruction) (v : ℤ) → slice_get B.held i ≡ Some x → (t < 2147483648 → v ≡ pos t) →
    A ≡ holding (set B.held i (record { code = x.code; operand = v; place = x.place })) B.most → Lands B i t A
lands_there B A i t x v e f h C b p =
    h ∙ rw (f p, b) (ap coded (set_aims C i t x (rw b at e)))

pub lands_nowhere : (B : Held Instruction) (i t : ℕ) → slice_get B.held i ≡ None → Lands B i t B
lands_nowhere B i t e C b p = b ∙ ap coded (past_aims C i t (rw b at e))

pub patched-append : (js ks : List Jump) (k c : ℕ) (C : List Instruction) → patched (js ++ ks) k c C ≡ patched js k c (patched ks k c C)
unfolding patched
patched-append [] ks k c C = refl
patched-append (j ∷ js) ks k c C = ap (aimed j.at (cond j.leaves k c)) (patched-append js ks k c C)

-- the newest of the jumps from a mark on
last_split : (js : List Jump) (j : Jump) (m : ℕ) → m < length js → slice_get js (length js - 1) ≡ Some j → drop m js ≡ drop m (take (length js - 1) js) ++ (j ∷ [])
last_split js j m l e =
    let n = length js - 1 in
    let h : n < length js = omega arith in
    let g : lib.ListN.get_or js n j ≡ j = let f = slice_get-get_or js n j h in cc in
    let s : js ≡ take n js ++ (lib.ListN.get_or js n j ∷ drop (suc n) js) = split_at js n j h in
    let d : drop (suc n) js ≡ [] = drop_all (suc n) js (omega arith) in
    let t : js ≡ take n js ++ (j ∷ []) = s ∙ rw (g, d) refl in
    let z : length (take n js) ≡ n = length-take n js ∙ (omega arith) in
    ap (drop m) t ∙ drop-append-le m (take n js) (j ∷ []) (omega arith)

-- one more is landed
landing_one : (J K : Held Jump) (B M A : Held Instruction) (mark k c : ℕ) (j : Jump) → LandsOn J B mark k c K M → mark < length K.held → top K ≡ Some j →
    Lands M j.at (cond j.leaves k c) A → LandsOn J B mark k c (popped K) A
unfolding patched
landing_one J K B M A mark k c j h l e f C b p q =
    let i = h C b p q in
    let D = i.0 in
    let n = length K.held - 1 in
    let t : Placed (cond j.leaves k c) = elim j.leaves as (λ v. Placed (cond v k c)) [ true ↦ p | false ↦ q ] in
    let s = last_split K.held j mark l e in
    let u : patched (drop mark K.held) k c D ≡ patched (drop mark (take n K.held)) k c (aimed j.at (cond j.leaves k c) D) =
    ap (λ (x : List Jump). patched x k c D) s ∙ patched-append (drop mark (take n K.held)) (j ∷ []) k c D in
    let w : take mark (take n K.held) ≡ take mark K.held = take-take mark n K.held (omega arith) in
    (aimed j.at (cond j.leaves k c) D, f D i.1 t, i.2 ∙ u, ap (λ (x : List Jump). holding x K.most) w ∙ i.3)

pub landing_more : (J K L : Held Jump) (B M A : Held Instruction) (mark k c t : ℕ) (j : Jump) → LandsOn J B mark k c K M → mark < length K.held → top K ≡ Some j →
    L ≡ popped K → t ≡ cond j.leaves k c → Lands M j.at t A → LandsOn J B mark k c L A
landing_more J K L B M A mark k c t j h l e p q f = rw p (landing_one J K B M A mark k c j h l e (rw q at f))

pub never_empty : (K : Held Jump) (mark : ℕ) → mark < length K.held → top K ≡ None → ⊥
never_empty K mark l e =
    elim K.held as (λ (js : List Jump). mark < length js → slice_get js (length js - 1) ≡ None → ⊥) [
      | [] ↦ λ h _. omega arith
      | x ∷ xs ↦ λ h g. let f = slice_get-get_or (x ∷ xs) (length (x ∷ xs) - 1) x (omega arith) in let z : ◌≡◌ {A = ℕ} 0 1 = cc in omega arith
    ] l e

pub landing_done : (J K : Held Jump) (B A : Held Instruction) (mark k c : ℕ) → LandsOn J B mark k c K A → length K.held ≤ mark → LandsAll J B mark k c K A
unfolding patched
landing_done J K B A mark k c h l C b p q =
    let i = h C b p q in
    let d : drop mark K.held ≡ [] = drop_all mark K.held l in
    let t : take mark K.held ≡ K.held = take_all mark K.held l in
    (i.1 ∙ ap coded (sym (i.2 ∙ ap (λ (x : List Jump). patched x k c i.0) d)), sym (ap (λ (x : List Jump). holding x K.most) t) ∙ i.3)
