-- The call `finish` on a table and the words of its journal.
use Rattle.std.specs.Prelude.{Result, Ok, Err, List, ℕ}
use Rattle.refusals.specs.declared.Refusal.{Refusal}
use Rattle.refusals.specs.Refusals.{number}
use Rattle.board.specs.Whole.{Table}
use Rattle.journal.specs.Words.{whole_of}
use Rattle.solve_finish.specs.declared.Finished as code
use Rattle.solve_finish.specs.Finishes.{Finished}

-- the code's `Finished`: its board is without the journal
abbrev pub Ended : Type 0
Ended = code.Finished

-- what a finish gave, as two numbers and a board: the table at the end, or a refusal, where the table is as it was
abbrev pub ended_of : Table → Result Ended Refusal → List (List ℕ) → Finished
ended_of old (Ok e) words = record { answer = 0; count = e.count; board = whole_of e.board words }
ended_of old (Err r) words = record { answer = number r; count = 0; board = whole_of old words }
