-- What writing and cutting do to the values on the stack.
use Rattle.std.proofs.Common.{◌≡◌, ℕ, zero, suc, ◌+◌, ◌-◌, ◌<◌, ◌≤◌, ◌≢◌, List, ◌∷◌, length, get_or, set, ℤ, pos, refl, ap, add-one, arith, get_or-set_other, get_or-set_same, lt-ltb}
use Rattle.machine.specs.declared.memory.Memory.{Memory}
use Rattle.machine.specs.Operations.{done, pushed}
use Rattle.machine.specs.Views.{tops, store_of}

pub length-tops : (xs : List ℤ) (n : ℕ) → length (tops xs n) ≡ n
length-tops xs zero = refl
length-tops xs (suc n) = ap suc (length-tops xs n)

-- a write above changes nothing below
pub tops_set : (xs : List ℤ) (i : ℕ) (v : ℤ) (n : ℕ) → n ≤ i → tops (set xs i v) n ≡ tops xs n
tops_set xs i v zero h = refl
tops_set xs i v (suc n) h =
    let ne : n ≢ i = omega arith in
    rw (get_or-set_other, tops_set xs i v n (omega arith))

-- a write at n, with n + 1 values after it
pub tops_push : (xs : List ℤ) (n : ℕ) (v : ℤ) → n < length xs → tops (set xs n v) (n + 1) ≡ v ∷ tops xs n
tops_push xs n v h = rw (add-one, get_or-set_same, tops_set xs n v n (omega arith))

pub tops-one : (xs : List ℤ) (n : ℕ) → 0 < n → tops xs n ≡ get_or xs (n - 1) (pos 0) ∷ tops xs (n - 1)
tops-one xs n h =
    let e : n ≡ suc (n - 1) = omega arith in
    ap (tops xs) e

pub tops_two : (xs : List ℤ) (n : ℕ) → 2 ≤ n → tops xs n ≡ get_or xs (n - 1) (pos 0) ∷ (get_or xs (n - 2) (pos 0) ∷ tops xs (n - 2))
tops_two xs n h =
    let e : n ≡ suc (suc (n - 2)) = omega arith in
    let f : n - 1 ≡ suc (n - 2) = omega arith in
    rw f (ap (tops xs) e)

-- a value fits
pub room : (v : ℤ) (m : Memory) (h : ℕ) → h < 256 → pushed v (store_of m h) ≡ done m.cells (v ∷ tops m.values h)
room v m h l = rw (length-tops, lt-ltb h 256 l)
