-- Document 01, "Route sheet"; document 02, E1, E3: what `play` prints for its lines, by the player who never strayed.
use Rattle.std.specs.Prelude.{true, false, List, [], ◌∷◌, ◌++◌, ℕ, eqb, length}
use Rattle.lists.specs.Choice.{pick}
use Rattle.board.specs.Whole.{Board}
use Rattle.solve_next.specs.Hints.{hint_call}
use Rattle.solve_finish.specs.Finishes.{finish_call}
use Rattle.move_list.specs.Calls.{Call, carry, turn, undo, hint, finish}
use Rattle.report.specs.Reports.{report_text}
use Rattle.sheet_output.specs.Outputs.{number_line}
use Rattle.play_lines.specs.Orders.{Order, call, other, order_of}
use Rattle.play_lines.specs.MoveLines.{hint_line}
use Rattle.theorem_list.specs.Player.{Item, afresh, says_to, standing_after}

-- what the lines s ask for, where the bytes l of the first of them were read before: a call or nothing; a last line without its line feed is of another form
unfoldable pub orders_from : List ℕ → List ℕ → List Order
orders_from l [] = pick (eqb (length l) 0) [] (other ∷ [])
orders_from l (c ∷ s) = elim (eqb c 10) [ true ↦ order_of l ∷ orders_from [] s | false ↦ orders_from (l ++ (c ∷ [])) s ]

-- what is printed behind the 0 of a call on board b: "the sheet after an accepted `F`", the move after an accepted `H` (document 02, E3)
abbrev pub shown : Board → Call → List ℕ
shown b (carry i e) = []
shown b (turn w) = []
shown b undo = []
shown b hint = hint_line (hint_call b).advice
shown b finish = report_text (finish_call b).board

-- "It prints 0 or the refusal number for each, 1 for a line of another form": the number of the player with the standing items ms, and what this player's board shows
unfoldable pub said : List ℕ → List Item → List Order → List ℕ
said text ms [] = []
said text ms (call c ∷ os) =
    number_line (says_to text ms c) ++ (pick (eqb (says_to text ms c) 0) (shown (afresh text ms) c) [] ++ said text (standing_after text ms c) os)
said text ms (other ∷ os) = number_line 1 ++ said text ms os
