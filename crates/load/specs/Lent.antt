-- The call `load` with the journal lent: what it gives stands for what `load_text` names.
use Rattle.std.specs.Prelude.{Result, Ok, Err, List, ℕ}
use Rattle.refusals.specs.declared.Refusal.{Refusal}
use Rattle.refusals.specs.Refusals.{number}
use Rattle.board.specs.Record.{closed_table}
use Rattle.board.specs.Whole.{Table}
use Rattle.journal.specs.Words.{whole_of}
use Rattle.load.specs.Load.{Loaded}

-- what the code gives: a board without its journal, or why the text is refused
abbrev pub Opened : Type 0
Opened = Result Table Refusal

-- what a load gave, as a number and a board: the board, or the number that the text is refused with and the closed board
abbrev pub loaded_of : Opened → List (List ℕ) → Loaded
loaded_of (Ok b) words = record { answer = 0; board = whole_of b words }
loaded_of (Err r) words = record { answer = number r; board = whole_of closed_table words }
