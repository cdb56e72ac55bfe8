-- What the program `play` prints: document 01, "Route sheet"; document 02, E1, E3.
use Rattle.std.specs.Prelude.{true, false, List, [], ◌∷◌, ◌++◌, ℕ, eqb, length}
use Rattle.lists.specs.Choice.{pick}
use Rattle.board.specs.Whole.{Board}
use Rattle.board.specs.Whole.{Played}
use Rattle.solve_next.specs.Hints.{hint_call}
use Rattle.move_list.specs.Calls.{game_of, made, carry, turn, undo, hint, finish}
use Rattle.solve_finish.specs.Finishes.{finish_call}
use Rattle.load.specs.Load.{load_text}
use Rattle.play_lines.specs.Orders.{Order, call, other, order_of}
use Rattle.play_lines.specs.MoveLines.{hint_line}
use Rattle.sheet_output.specs.Outputs.{number_line, report_of}
use Rattle.sheet_output.specs.Inputs.{board_part, moves_part}

-- "0 or the refusal number for each, 1 for a line of another form"; and the board after it
unfoldable pub replied : Board → Order → Played
replied b (call c) = record { answer = (made (game_of b) c).answer; board = (made (game_of b) c).game.board }
replied b other = record { answer = 1; board = b }

-- what follows a 0: "the sheet after an accepted `F`"; after an accepted `H` the move "as a line it would read, or `N` where no move is left"
abbrev pub behind_zero : Board → Order → List ℕ
behind_zero b (call (carry i e)) = []
behind_zero b (call (turn w)) = []
behind_zero b (call undo) = []
behind_zero b (call hint) = hint_line (hint_call b).advice
behind_zero b (call finish) = report_of (finish_call b).board
behind_zero b other = []

unfoldable pub reply_text : Board → Order → List ℕ
reply_text b o = number_line (replied b o).answer ++ pick (eqb (replied b o).answer 0) (behind_zero b o) []

-- what is printed for the lines s, where the bytes l of the first of them were read before; a last line without its line feed is of another form
unfoldable pub replies_from : Board → List ℕ → List ℕ → List ℕ
replies_from b l [] = pick (eqb (length l) 0) [] (reply_text b other)
replies_from b l (c ∷ s) =
    elim (eqb c 10) [
      | true ↦ reply_text b (order_of l) ++ replies_from (replied b (order_of l)).board [] s
      | false ↦ replies_from b (l ++ (c ∷ [])) s
    ]

-- "Program `play` reads a board, .. and then lines"; "A refused board prints its number only"
unfoldable pub play_output : List ℕ → List ℕ
play_output input =
    pick (eqb (load_text (board_part input)).answer 0)
    (replies_from (load_text (board_part input)).board [] (moves_part input))
    (number_line (load_text (board_part input)).answer)
