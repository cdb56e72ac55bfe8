-- The numbers of document 01, and what a call that may be refused answers.
use Rattle.std.specs.Prelude.{◌≡◌, Result, Ok, Err, ℕ}
use Rattle.refusals.specs.declared.Refusal.{Refusal}
use Rattle.refusals.specs.declared.Refusal.TheVariants.{Malformed, OutOfRange, EdgeIsLoop, TerminalAtSource, Unbalanced, NotOnBoard, NoCycle, ShortBuffer, NotInPlay, AtSource, NotEntering, NotOpen, CarryOpen, NoFlow, NotSingular, NothingToUndo, NotFinished, NotLoaded, NoLetter, NothingKept}

abbrev pub number : Refusal → ℕ
number Malformed = 1
number OutOfRange = 2
number EdgeIsLoop = 3
number TerminalAtSource = 4
number Unbalanced = 5
number NotOnBoard = 6
number NoCycle = 7
number ShortBuffer = 8
number NotInPlay = 20
number AtSource = 21
number NotEntering = 22
number NotOpen = 23
number CarryOpen = 24
number NoFlow = 25
number NotSingular = 26
number NothingToUndo = 27
number NotFinished = 28
number NotLoaded = 29
number NoLetter = 30
number NothingKept = 31

-- what the conversion gives
abbrev pub Numbers : Refusal → ℕ → Type 0
Numbers r n = n ≡ number r

-- 0, or the number that the call is refused with
abbrev pub answer_of : {A : Type 0} → Result A Refusal → ℕ
answer_of (Ok x) = 0
answer_of (Err r) = number r
