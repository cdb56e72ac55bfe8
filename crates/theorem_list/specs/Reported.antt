-- For inner contracts only: what the report and the program `sheet` say of a board that a load gave.
use Rattle.std.specs.Prelude.{◌≡◌, true, false, List, [], ℕ}
use Rattle.board.specs.Whole.{Board}
use Rattle.solve_finish.specs.Finishes.{finish_call}
use Rattle.report.specs.Reports.{report_text, unreported}
use Rattle.sheet_output.specs.Outputs.{sheet_output}
use Rattle.move_list.specs.Calls.{Call}
use Rattle.theorem_list.specs.Player.{is_over, standing_moves}
use Rattle.theorem_list.specs.Complete.{Complete}

-- b, a board in play, has no report yet; once it is finished, complete, it has one
pub record Reported (b : Board) : Type 0 where
  pub before : unreported b ≡ 28
  pub complete : Complete b (finish_call b)
  pub after : unreported (finish_call b).board ≡ 0

-- the board after the calls cs: in play, or it has its report
pub record ReportedAfter (text : List ℕ) (cs : List Call) (b : Board) : Type 0 where
  pub goes_on : is_over (standing_moves text [] cs) ≡ false → Reported b
  pub over : is_over (standing_moves text [] cs) ≡ true → unreported b ≡ 0

-- the program `sheet` prints the report of that board
pub record Printed (text : List ℕ) (b : Board) : Type 0 where
  pub complete : Complete b (finish_call b)
  pub printed : sheet_output text ≡ report_text (finish_call b).board
