-- What a bounded stack holds, and what each call makes of it.
use Rattle.std.specs.Prelude.{ℕ, ◌-◌, Bool, cond, List, [], ◌∷◌, ◌++◌, length, take, Option, nat_lt, slice_set}
use Rattle.std.specs.List.{slice_get}
use Rattle.stacks.specs.declared.bounded.BoundedStack.{BoundedStack}

-- the elements, the oldest first, and how many there can be
pub record Held (X : Type 0) : Type 0 where
  pub held : List X
  pub most : ℕ

-- a stack with these elements that can hold n
abbrev pub holding : {X : Type 0} → List X → ℕ → Held X
holding xs n = record { held = xs; most = n }

-- what a stack holds: the first `len` of the lent elements
abbrev pub seen : {X : Type 0} → BoundedStack X → Held X
seen s = holding (take s.len s.items.now) (length s.items.now)

-- whether one more element fits
abbrev pub has_room : {X : Type 0} → Held X → Bool
has_room h = nat_lt (length h.held) h.most

-- with x on top, if there is room
abbrev pub pushed : {X : Type 0} → Held X → X → Held X
pushed h x = holding (cond (has_room h) (h.held ++ (x ∷ [])) h.held) h.most

-- the newest element
abbrev pub top : {X : Type 0} → Held X → Option X
top h = slice_get h.held (length h.held - 1)

-- with the oldest n elements
abbrev pub cut : {X : Type 0} → ℕ → Held X → Held X
cut n h = holding (take n h.held) h.most

-- without the newest element
abbrev pub popped : {X : Type 0} → Held X → Held X
popped h = cut (length h.held - 1) h

-- with another element at i, if there is one
abbrev pub replaced : {X : Type 0} → ℕ → X → Held X → Held X
replaced i x h = holding (slice_set h.held i x) h.most
