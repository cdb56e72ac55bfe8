-- What the programs print: document 01, "Route sheet".
use Rattle.std.specs.Prelude.{Result, Ok, Err, List, [], ◌∷◌, ℕ, eqb}
use Rattle.lists.specs.Choice.{pick}
use Rattle.board.specs.Whole.{Board}
use Rattle.board.specs.Whole.{Table}
use Rattle.journal.specs.Words.{whole_of}
use Rattle.refusals.specs.declared.Refusal.{Refusal}
use Rattle.refusals.specs.Refusals.{number}
use Rattle.text.specs.Text.{numbers_text}
use Rattle.load.specs.Load.{load_text}
use Rattle.solve_finish.specs.Finishes.{Finished}
use Rattle.solve_finish.specs.Finishes.{finish_call}
use Rattle.report.specs.Reports.{report_text, unreported}

-- a number "alone on a line"
abbrev pub number_line : ℕ → List ℕ
number_line n = numbers_text (n ∷ [])

-- the report of a board, or the number that it is refused with
unfoldable pub report_of : Board → List ℕ
report_of b = pick (eqb (unreported b) 0) (report_text b) (number_line (unreported b))

-- the same of a board whose journal is these words, or of a refusal
abbrev pub prints : Result Table Refusal → List (List ℕ) → List ℕ
prints (Ok b) words = report_of (whole_of b words)
prints (Err r) words = number_line (number r)

-- the report of a finished board, or the number that the finish is refused with
unfoldable pub finish_output : Finished → List ℕ
finish_output f = pick (eqb f.answer 0) (report_of f.board) (number_line f.answer)

-- "Program `sheet` reads a board on standard input, finishes it and prints the sheet, or the refusal number alone on a line"
unfoldable pub sheet_output : List ℕ → List ℕ
sheet_output input =
    pick (eqb (load_text input).answer 0) (finish_output (finish_call (load_text input).board)) (number_line (load_text input).answer)
