-- The bounds of what is scanned are those of the front.
use Rattle.std.proofs.Common.{Ok, Err, Result, ◌≡◌, ℕ, ◌+◌, ◌-◌, ◌<◌, ◌≤◌, List, length, get_or, take, drop, sym, ap, ◌∙◌, subst, arith, w32}
use Rattle.std.proofs.lemmas.List.{take_rest, length-drop}
use Rattle.std.proofs.lemmas.Int.{to_z_pos}
use Rattle.std.specs.Result.{MatchResult, IsErrAnd}
use Rattle.refusal.specs.declared.reason.Reason.{Reason}
use Rattle.refusal.specs.declared.reason.Refusal.{Refusal}
use Rattle.lexer.specs.declared.scan.Scanned.{Scanned}
use Rattle.lexer.specs.declared.kind.Kind.{Kind}
use Rattle.lexer.specs.Classes.{class_of}
use Rattle.lexer.specs.Reading.{Front, token, token_front}
use Rattle.lexer.specs.Constants.{greatest}
use Rattle.lexer.specs.Scans.{front_of}
use Rattle.lexer.proofs.Judged.{bounded}
use Rattle.lexer.proofs.scan.token_at.Goals as goal

-- the front that the rest of a source gives, and its bounds
rest_front : (s : List ℕ) (at : ℕ) (f : Front) → f ≡ token_front (class_of (get_or (take (length s - at) (drop at s)) 0 0)) (take (length s - at) (drop at s)) → token_front (class_of (get_or (drop at s) 0 0)) (drop at s) ≡ f
rest_front s at f e = ap (λ r. token_front (class_of (get_or r 0 0)) r) (sym (take_rest s at)) ∙ sym e

rest_bounds : (s : List ℕ) (at : ℕ) (k : Kind) (n v : ℕ) → at < length s → token_front (class_of (get_or (drop at s) 0 0)) (drop at s) ≡ token k n v → (0 < n) × (at + n ≤ length s) × (v ≤ greatest)
rest_bounds s at k n v h e =
    let b = bounded (drop at s) k n v (omega (arith, length-drop at s)) e in
    (b.0, omega (arith, length-drop at s), b.2)

-- what `map_err` passes on
scanned : (Q : Reason → Refusal → Type 0) (r : Result Scanned Reason) (m : Result Scanned Refusal) (x : Scanned) → MatchResult r (λ y. m ≡ Ok y) (λ e. IsErrAnd m (Q e)) → m ≡ Ok x → r ≡ Ok x
scanned Q (Ok y) m x h e = cc
scanned Q (Err y) m x h e = absurd (subst (λ m. IsErrAnd m (Q y)) e h)

-- the same of what was scanned
found : (c : goal.In_ok-kind) → c.scan.result ≡ Ok c.in_ok-kind.field-0
found c = scanned _ c.scan.result c.map_err.result c.in_ok-kind.field-0 c.map_err.ensures.cases c.in_ok-kind.was

found_front : (c : goal.In_ok-kind) → token_front (class_of (get_or (drop c.args.at c.args.source.now) 0 0)) (drop c.args.at c.args.source.now) ≡ token c.in_ok-kind.field-0.kind c.in_ok-kind.field-0.length c.in_ok-kind.field-0.value
found_front c = rest_front c.args.source.now c.args.at _ (ap front_of (sym (found c)) ∙ c.scan.ensures)

found_bounds : (c : goal.In_ok-kind) → (0 < c.in_ok-kind.field-0.length) × (c.args.at + c.in_ok-kind.field-0.length ≤ length c.args.source.now) × (c.in_ok-kind.field-0.value ≤ greatest)
found_bounds c = rest_bounds c.args.source.now c.args.at _ _ _ c.requires.within (found_front c)

pub overflow_cast-result : goal.overflow_cast-result
overflow_cast-result c = record { fits = omega (arith, found_bounds c, c.requires.short) }

pub overflow_cast-result-2 : goal.overflow_cast-result-2
overflow_cast-result-2 c = record { sfits = omega (arith, found_bounds c) }

pub returns : goal.returns
returns c =
    let b = found_bounds c in
    let x = c.in_ok-kind.field-0 in
    let value = to_z_pos w32 c.in_ok-kind.field-0.value (omega (arith, found_bounds c)) in (
      x.kind,
      x.length,
      x.value,
      found_front c,
      (λ i. record { kind = x.kind; place = c.args.at; length = x.length; value = value i }),
      b.0,
      b.1,
    )
