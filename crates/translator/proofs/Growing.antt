-- Code that grows while jumps in it wait for their targets.
use Rattle.std.proofs.Common.{◌≡◌, ℕ, zero, suc, ◌+◌, ◌<◌, ◌≤◌, cond, List, [], ◌∷◌, ◌++◌, length, sym, refl, ap, ◌∙◌, append_assoc, arith, length-append}
use Rattle.machine.specs.declared.instruction.Instruction.{Instruction}
use Rattle.meaning.specs.Trees.{Stmt, Stmts}
use Rattle.meaning.specs.Check.{Scope}
use Rattle.layout.proofs.Compiled.{stmt_end, stmts_end, stmt_code, stmts_code}
use Rattle.layout.proofs.Ends.{stmt_after, stmts_after}
use Rattle.translator.specs.declared.pending.Jump.{Jump}
use Rattle.translator.specs.Code.{aim, aimed, patched}
use Rattle.translator.specs.Statements.{Between, Grows}
use Rattle.translator.proofs.Emitting.{after-length}
use Rattle.translator.proofs.Jumps.{patched-append}

-- Targets change no lengths ..

pub aimed-length : (i t : ℕ) (C : List Instruction) → length (aimed i t C) ≡ length C
unfolding aimed
aimed-length i t [] = refl
aimed-length zero t (x ∷ C) = refl
aimed-length (suc i) t (x ∷ C) = ap suc (aimed-length i t C)

patched-length : (js : List Jump) (k c : ℕ) (C : List Instruction) → length (patched js k c C) ≡ length C
unfolding patched
patched-length [] k c C = refl
patched-length (j ∷ js) k c C = aimed-length j.at (cond j.leaves k c) (patched js k c C) ∙ patched-length js k c C

-- .. and nothing apart from the instruction at their position.

pub aimed-front : (i t : ℕ) (C X : List Instruction) → i < length C → aimed i t (C ++ X) ≡ aimed i t C ++ X
unfolding aimed
aimed-front i t [] X h = absurd (omega arith)
aimed-front zero t (x ∷ C) X h = refl
aimed-front (suc i) t (x ∷ C) X h = ap (◌∷◌ x) (aimed-front i t C X (omega arith))

pub aimed-at : (C X : List Instruction) (j : Instruction) (t : ℕ) → aimed (length C) t (C ++ (j ∷ X)) ≡ C ++ (aim t j ∷ X)
unfolding aimed
aimed-at [] X j t = refl
aimed-at (x ∷ C) X j t = ap (◌∷◌ x) (aimed-at C X j t)

aimed_swap : (i j t u : ℕ) (C : List Instruction) → i < j → aimed j u (aimed i t C) ≡ aimed i t (aimed j u C)
unfolding aimed
aimed_swap i j t u [] h = refl
aimed_swap i zero t u (x ∷ C) h = absurd (omega arith)
aimed_swap zero (suc j) t u (x ∷ C) h = refl
aimed_swap (suc i) (suc j) t u (x ∷ C) h = ap (◌∷◌ x) (aimed_swap i j t u C (omega arith))

-- jumps that stand in a wider part
wider : (js : List Jump) (a b m n : ℕ) → Between js a b → m ≤ a → b ≤ n → Between js m n
unfolding Between
wider [] a b m n h l g = tt
wider (j ∷ js) a b m n h l g = (omega arith, omega arith, wider js a b m n h.2 l g)

both_between : (js ks : List Jump) (m n : ℕ) → Between js m n → Between ks m n → Between (js ++ ks) m n
unfolding Between
both_between [] ks m n h g = g
both_between (j ∷ js) ks m n h g = (h.0, h.1, both_between js ks m n h.2 g)

patched-front : (js : List Jump) (k c m : ℕ) (C X : List Instruction) → Between js m (length C) → patched js k c (C ++ X) ≡ patched js k c C ++ X
unfolding patched Between
patched-front [] k c m C X h = refl
patched-front (j ∷ js) k c m C X h =
    let t = cond j.leaves k c in
    let n = patched-length js k c C in
    ap (aimed j.at t) (patched-front js k c m C X h.2) ∙ aimed-front j.at t (patched js k c C) X (omega arith)

patched_swap : (js : List Jump) (k c m n i t : ℕ) (C : List Instruction) → Between js m n → i < m → patched js k c (aimed i t C) ≡ aimed i t (patched js k c C)
unfolding patched Between
patched_swap [] k c m n i t C h l = refl
patched_swap (j ∷ js) k c m n i t C h l =
    let u = cond j.leaves k c in
    ap (aimed j.at u) (patched_swap js k c m n i t C h.2 l) ∙ aimed_swap i j.at t u (patched js k c C) (omega arith)

-- How code grows.

pub grown_by : (C : List Instruction) (js : List Jump) (D : List Instruction) (F : ℕ → ℕ → List Instruction) (k c : ℕ) → Grows C js D F → length D ≡ length C + length (F k c)
grown_by C js D F k c g = sym (patched-length js k c D) ∙ ap length (g.equal k c) ∙ length-append C (F k c)

pub grown_length : (C : List Instruction) (js : List Jump) (D : List Instruction) (F : ℕ → ℕ → List Instruction) → Grows C js D F → length D ≡ length C + length (F 0 0)
grown_length C js D F g = grown_by C js D F 0 0 g

-- the same by equal code
pub grown_as : (C : List Instruction) (js : List Jump) (D : List Instruction) (F G : ℕ → ℕ → List Instruction) → Grows C js D F → ((k c : ℕ) → F k c ≡ G k c) → Grows C js D G
grown_as C js D F G g e = record { between = g.between; equal = λ k c. g.equal k c ∙ ap (λ (X : List Instruction). C ++ X) (e k c) }

-- by code without such jumps
pub grown_plain : (C X : List Instruction) → Grows C [] (C ++ X) (λ _ _. X)
unfolding patched Between
grown_plain C X = record { between = tt; equal = λ _ _. refl }

-- by one part after another
pub grown_on : (C : List Instruction) (js : List Jump) (D : List Instruction) (F : ℕ → ℕ → List Instruction) (ks : List Jump) (E : List Instruction) (G : ℕ → ℕ → List Instruction) →
    Grows C js D F → Grows D ks E G → Grows C (js ++ ks) E (λ k c. F k c ++ G k c)
grown_on C js D F ks E G f g =
    let l = grown_length C js D F f in
    let m = grown_length D ks E G g in
    record {
      between = both_between js ks (length C) (length E)
          (wider js (length C) (length D) (length C) (length E) f.between (omega arith) (omega arith))
          (wider ks (length D) (length E) (length C) (length E) g.between (omega arith) (omega arith));
      equal = λ k c.
          patched-append js ks k c E ∙ ap (patched js k c) (g.equal k c) ∙ patched-front js k c (length C) D (G k c) f.between
          ∙ ap (λ (X : List Instruction). X ++ G k c) (f.equal k c) ∙ append_assoc C (F k c) (G k c);
    }

pub grown_before : (C X : List Instruction) (js : List Jump) (D : List Instruction) (F : ℕ → ℕ → List Instruction) → Grows (C ++ X) js D F → Grows C js D (λ k c. X ++ F k c)
grown_before C X js D F g = grown_on C [] (C ++ X) (λ _ _. X) js D F (grown_plain C X) g

-- a jump before such code gets its target
pub grown_landed : (C : List Instruction) (j : Instruction) (js : List Jump) (D : List Instruction) (F : ℕ → ℕ → List Instruction) (t : ℕ) → Grows (C ++ (j ∷ [])) js D F →
    Grows C js (aimed (length C) t D) (λ k c. aim t j ∷ F k c)
grown_landed C j js D F t g =
    let l = length-append C (j ∷ []) in
    let n = aimed-length (length C) t D in
    record {
      between = wider js (length (C ++ (j ∷ []))) (length D) (length C) (length (aimed (length C) t D)) g.between (omega arith) (omega arith);
      equal = λ k c.
          patched_swap js k c (length (C ++ (j ∷ []))) (length D) (length C) t D g.between (omega arith)
          ∙ ap (aimed (length C) t) (g.equal k c ∙ append_assoc C (j ∷ []) (F k c)) ∙ aimed-at C (F k c) j t;
    }

-- the loop around such code ends: its jumps get their targets
pub grown_closed : (C : List Instruction) (js : List Jump) (D : List Instruction) (F : ℕ → ℕ → List Instruction) (X : List Instruction) (k c : ℕ) → Grows C js D F →
    patched js k c (D ++ X) ≡ C ++ (F k c ++ X)
grown_closed C js D F X k c g =
    patched-front js k c (length C) D X g.between ∙ ap (λ (Y : List Instruction). Y ++ X) (g.equal k c) ∙ append_assoc C (F k c) X

-- .. as does the loop's own exit, which stands before the body, with X after it
pub looped : (C : List Instruction) (j : Instruction) (js : List Jump) (D : List Instruction) (F : ℕ → ℕ → List Instruction) (X : List Instruction) (k c : ℕ) → Grows (C ++ (j ∷ [])) js D F →
    aimed (length C) k (patched js k c (D ++ X)) ≡ C ++ (aim k j ∷ (F k c ++ X))
looped C j js D F X k c g =
    ap (aimed (length C) k) (grown_closed (C ++ (j ∷ [])) js D F X k c g ∙ append_assoc C (j ∷ []) (F k c ++ X)) ∙ aimed-at C (F k c ++ X) j k

-- .. or after it, with X between them and Y after it
pub looped_late : (C : List Instruction) (j : Instruction) (js : List Jump) (D : List Instruction) (F : ℕ → ℕ → List Instruction) (X Y : List Instruction) (k c i : ℕ) → Grows C js D F → i ≡ length D + length X →
    aimed i k (patched js k c (D ++ (X ++ (j ∷ Y)))) ≡ C ++ (F k c ++ (X ++ (aim k j ∷ Y)))
looped_late C j js D F X Y k c i g e =
    let A = C ++ (F k c ++ X) in
    let m = grown_by C js D F k c g in
    let n = length-append C (F k c ++ X) in
    let o = length-append (F k c) X in
    let l : i ≡ length A = omega arith in
    let q : C ++ (F k c ++ (X ++ (j ∷ Y))) ≡ A ++ (j ∷ Y) = simp append_assoc in
    let r : A ++ (aim k j ∷ Y) ≡ C ++ (F k c ++ (X ++ (aim k j ∷ Y))) = simp append_assoc in
    rw l (ap (aimed (length A) k) (grown_closed C js D F (X ++ (j ∷ Y)) k c g ∙ q) ∙ aimed-at A Y j k ∙ r)

-- Where the code of statements ends.

pub stmt_ends : (t : Stmt) (Γ : Scope) (C : List Instruction) (js : List Jump) (D : List Instruction) → Grows C js D (λ k c. stmt_code t Γ (length C) k c) → length D ≡ stmt_end t Γ (length C)
stmt_ends t Γ C js D g =
    grown_length C js D _ g ∙ sym (after-length (stmt_code t Γ (length C) 0 0) (length C)) ∙ stmt_after t Γ (length C) 0 0

pub stmts_end_lem : (ss : Stmts) (Γ : Scope) (C : List Instruction) (js : List Jump) (D : List Instruction) → Grows C js D (λ k c. stmts_code ss Γ (length C) k c) → length D ≡ stmts_end ss Γ (length C)
stmts_end_lem ss Γ C js D g =
    grown_length C js D _ g ∙ sym (after-length (stmts_code ss Γ (length C) 0 0) (length C)) ∙ stmts_after ss Γ (length C) 0 0
