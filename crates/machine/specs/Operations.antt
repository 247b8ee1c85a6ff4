-- What an operation does to cells and values, and what it asks of the board.
use Rattle.std.specs.Prelude.{ℕ, cond, List, [], ◌∷◌, length, ℤ, pos, negsuc, Some, None, Option, nat_lt, slice_index_or, slice_set}
use Rattle.std.specs.Int.{int_wrap, w32}
use Rattle.refusal.specs.Told.{Told, accepted, refused}
use Rattle.boards.specs.Meaning.{Meaning, zone_answer, report_answer, reported}
use Rattle.ints.specs.Arith.{compute, changed}
use Rattle.ints.specs.declared.operator.Operator.{Operator}
use Rattle.ints.specs.declared.operator.Unary.{Unary}
use Rattle.machine.specs.Endings.{End, returned, divided, refused_by}
use Rattle.machine.specs.Codes.{Plain, push, load, store, discard, binary, unary, give, Query, zone, columns, rows, report}

-- the cells, and the values with the top one first
pub record Store : Type 0 where
  pub cells : List ℤ
  pub stack : List ℤ

-- how a step comes out: the run goes on, ends, waits for a tick, or is broken
pub data How : Type 0 where
  goes : How
  ends : End → How
  waits : How
  breaks : How

-- how an operation came out, and the cells and values after it
pub record Did : Type 0 where
  pub how : How
  pub store : Store

-- the run goes on with these cells and values
abbrev pub done : List ℤ → List ℤ → Did
done c s = record { how = goes; store = record { cells = c; stack = s } }

-- what ends or breaks a run leaves cells and values as they were
abbrev pub ended : End → Store → Did
ended e m = record { how = ends e; store = m }

-- the run is broken
abbrev pub fault : Store → Did
fault m = record { how = breaks; store = m }

-- a 257th value is a fault
abbrev pub pushed : ℤ → Store → Did
pushed v m = cond (nat_lt (length m.stack) 256) (done m.cells (v ∷ m.stack)) (fault m)

-- a cell is one of 0 to 63
abbrev pub loaded : ℤ → Store → Did
loaded (pos k) m = cond (nat_lt k 64) (pushed (slice_index_or m.cells k (pos 0)) m) (fault m)
loaded (negsuc k) m = fault m

-- the top value goes to cell k
abbrev pub stored_top : ℕ → List ℤ → Store → Did
stored_top k [] m = fault m
stored_top k (v ∷ s) m = done (slice_set m.cells k v) s

-- a cell is one of 0 to 63
abbrev pub stored : ℤ → Store → Did
stored (pos k) m = cond (nat_lt k 64) (stored_top k m.stack m) (fault m)
stored (negsuc k) m = fault m

-- the top value goes
abbrev pub discarded : List ℤ → Store → Did
discarded [] m = fault m
discarded (v ∷ s) m = done m.cells s

-- what was computed goes on top; a zero divisor ends the run
abbrev pub computed : Option ℤ → List ℤ → Store → Did
computed (Some v) s m = done m.cells (v ∷ s)
computed None s m = ended divided m

-- the right number lies on top of the left one
abbrev pub combined : Operator → List ℤ → Store → Did
combined o [] m = fault m
combined o (r ∷ []) m = fault m
combined o (r ∷ (l ∷ s)) m = computed (compute w32 o l r) s m

-- the top value is changed
abbrev pub turned : Unary → List ℤ → Store → Did
turned u [] m = fault m
turned u (v ∷ s) m = done m.cells (changed u v ∷ s)

-- the top value is returned
abbrev pub given : List ℤ → Store → Did
given [] m = fault m
given (v ∷ s) m = ended (returned v) m

-- what each operation that needs neither board nor position does
abbrev pub exec : Plain → Store → Did
exec (push v) m = pushed v m
exec (load k) m = loaded k m
exec (store k) m = stored k m
exec discard m = discarded m.stack m
exec (binary o) m = combined o m.stack m
exec (unary u) m = turned u m.stack m
exec give m = given m.stack m

-- what comes of a question, and the board after it
pub record Reply : Type 0 where
  pub did : Did
  pub board : Meaning

-- what came of a question, with the board
abbrev pub replied : Did → Meaning → Reply
replied d b = record { did = d; board = b }

-- a zone goes on top; a refusal ends the run with its number
abbrev pub zoned : Told ℤ → List ℤ → Store → Did
zoned (accepted v) s m = done m.cells (v ∷ s)
zoned (refused n place) s m = ended (refused_by n) m

-- the zone that the top value names
abbrev pub zone_of : List ℤ → Store → Meaning → Did
zone_of [] m b = fault m
zone_of (i ∷ s) m b = zoned (zone_answer b i) s m

-- a report that was taken leaves the values below; a refusal ends the run with its number
abbrev pub filed : Told (Unit {0}) → List ℤ → Store → Did
filed (accepted u) s m = done m.cells s
filed (refused n place) s m = ended (refused_by n) m

-- an empty stack asks nothing of the board
abbrev pub report_of : List ℤ → Store → Meaning → Reply
report_of [] m b = replied (fault m) b
report_of (v ∷ s) m b = replied (filed (report_answer b) s m) (reported b v)

-- what comes of each question
abbrev pub answer : Query → Store → Meaning → Reply
answer zone m b = replied (zone_of m.stack m b) b
answer columns m b = replied (pushed (int_wrap w32 (pos b.columns)) m) b
answer rows m b = replied (pushed (int_wrap w32 (pos b.rows)) m) b
answer report m b = report_of m.stack m b
