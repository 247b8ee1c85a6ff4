-- How a run ends.
use Rattle.std.specs.Prelude.{ℕ, Bool, List, ℤ, pos, ◌==◌, codes}
use Rattle.refusal.specs.Told.{number_of}
use Rattle.machine.specs.declared.ending.Ending.{Ending}
use Rattle.machine.specs.declared.ending.Ending.TheVariants.{Returned, Waiting, Divided, Board, Broken}

-- an ending by its number, with its value
pub record End : Type 0 where
  pub number : ℕ
  pub value : ℤ

-- a value was returned
abbrev pub returned : ℤ → End
returned v = record { number = 0; value = v }

-- no tick is left
abbrev pub waiting : End
waiting = record { number = 1; value = pos 0 }

-- a divisor was 0
abbrev pub divided : End
divided = record { number = 2; value = pos 0 }

-- the board refused, with the refusal's number
abbrev pub refused_by : ℕ → End
refused_by n = record { number = 3; value = pos n }

-- the code was no good
abbrev pub broken : End
broken = record { number = 4; value = pos 0 }

-- the number and the value of each case
abbrev pub end_of : Ending → End
end_of (Returned v) = returned v
end_of Waiting = waiting
end_of Divided = divided
end_of (Board reason) = refused_by (number_of reason)
end_of Broken = broken

-- the bytes of each case's name
abbrev pub name_of : Ending → List ℕ
name_of (Returned v) = codes "returned"
name_of Waiting = codes "waiting"
name_of Divided = codes "divided"
name_of (Board reason) = codes "board"
name_of Broken = codes "broken"

-- a run that waits can go on, any other is over
abbrev pub is_waiting : End → Bool
is_waiting e = e.number == 1
