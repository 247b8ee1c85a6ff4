-- What a call says to its caller: an answer, or a refusal's number and place.
use Rattle.std.specs.Prelude.{ℕ, Ok, Err, Result, List, ◌++◌, codes}
use Rattle.std.specs.Fmt.{decimal}
use Rattle.refusal.specs.declared.reason.Reason.{Reason}
use Rattle.refusal.specs.declared.reason.Reason.TheVariants.{SourceTooLong, TokenListShort, CodeListShort, StrayByte, UnclosedComment, BadCharacter, NumberTooLarge, TooManyTokens, UnexpectedToken, TooDeep, UnlistedExtern, DuplicateName, AbsentName, MisusedName, TypeMismatch, OutsideLoop, TooManyCells, NothingLoaded, CodeListCut, TooManyTicks, RunOver, GrantTooLarge, NoSuchZone, ReportsFull, BadDimensions, AllowanceTooLarge, CropOutside}
use Rattle.refusal.specs.declared.reason.Refusal.{Refusal}

-- the number of each reason
abbrev pub number_of : Reason → ℕ
number_of SourceTooLong = 1
number_of TokenListShort = 2
number_of CodeListShort = 3
number_of StrayByte = 4
number_of UnclosedComment = 5
number_of BadCharacter = 6
number_of NumberTooLarge = 7
number_of TooManyTokens = 8
number_of UnexpectedToken = 9
number_of TooDeep = 10
number_of UnlistedExtern = 11
number_of DuplicateName = 12
number_of AbsentName = 13
number_of MisusedName = 14
number_of TypeMismatch = 15
number_of OutsideLoop = 16
number_of TooManyCells = 17
number_of NothingLoaded = 18
number_of CodeListCut = 19
number_of TooManyTicks = 20
number_of RunOver = 21
number_of GrantTooLarge = 22
number_of NoSuchZone = 23
number_of ReportsFull = 24
number_of BadDimensions = 25
number_of AllowanceTooLarge = 26
number_of CropOutside = 27

-- an answer, or a refusal by number and place
pub data Told (X : Type 0) : Type 0 where
  accepted : X → Told X
  refused : (number place : ℕ) → Told X

-- what a result tells
abbrev pub told : {X : Type 0} → Result X Refusal → Told X
told (Ok x) = accepted x
told (Err e) = refused (number_of e.reason) e.place

-- what is printed of a refusal: the word, its number and its place, with a blank between them
abbrev pub line_of : Refusal → List ℕ
line_of e = codes "refused " ++ decimal (number_of e.reason) ++ codes " " ++ decimal e.place
