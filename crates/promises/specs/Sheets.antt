-- Document 01, "The shelf" and "Route sheet"; document 02, E4. The sheet itself is `report_text`, over the routes and loads of the player.
use Rattle.std.specs.Prelude.{◌≡◌, true, ◌≢◌, List, [], ◌++◌, ℕ, ◌≤◌, ◌<◌, length, get_or, take}
use Rattle.text.specs.Sizes.{longest_report}
use Rattle.board.specs.Whole.{Board}
use Rattle.board.specs.declared.Network.{Network}
use Rattle.text.specs.Results.{read_text}
use Rattle.graph_flows.specs.Paths.{Acyclic}
use Rattle.load.specs.Load.{acyclic_of, load_text}
use Rattle.solve_finish.specs.Finishes.{finish_call}
use Rattle.report.specs.Reports.{load_row, report_text, unreported}
use Rattle.sheet_output.specs.Inputs.{text_space, board_part, moves_part}
use Rattle.sheet_output.specs.Outputs.{number_line, sheet_output}
use Rattle.play_session.specs.Replies.{play_output}
use Rattle.play_session.specs.Machine.{new_session, end_told}
use Rattle.descriptors.specs.Serving.{input_of, served_pieces, told_pieces}
use Rattle.catalog.specs.Table.{table}
use Rattle.catalog.specs.Catalog.{catalog_text, catalog_call, all_accepted}
use Rattle.promises.specs.Plays.{OfPlay, OfFinish}
use Rattle.promises.specs.Lines.{orders_from, said}

-- what stands for edge e: its acyclic flow, which is at most the text's, and just that where the text has no cycle of positive edges
pub record FirstFlow (net : Network) (e shown : ℕ) : Type 0 where
  pub acyclic : shown ≡ get_or (acyclic_of net) e 0
  pub below : shown ≤ get_or net.flows e 0
  pub whole : Acyclic net.tails net.heads net.flows → shown ≡ get_or net.flows e 0

pub record AboutSheets : Type 0 where
  -- "Forty boards of the team's making, one constant table of at least 1,500 numbers": nothing is left behind the fortieth
  pub table_size : 1500 ≤ length table
  pub forty_boards : all_accepted 40 table ≡ true
  -- "every entry, written as text, is an accepted board"
  pub catalog_accepted : (k : ℕ) → k < 40 → (load_text (catalog_text k)).answer ≡ 0
  -- "refused 2 for a number above 39, then 8"
  pub catalog_above : (k n : ℕ) → 39 < k → catalog_call k n ≡ record { answer = 2; used = 0 }
  pub catalog_short : (k n : ℕ) → k ≤ 39 → n < length (catalog_text k) → catalog_call k n ≡ record { answer = 8; used = 0 }
  -- "28 not finished": so it is on every board of play; a board that a finish gave has a sheet
  pub sheet_before : (text : List ℕ) (b : Board) → OfPlay text b → unreported b ≡ 28
  pub sheet_after : (text : List ℕ) (f : Board) → OfFinish text f → unreported f ≡ 0
  -- "The third field of an L line becomes the drained first flow" (document 02, E4): behind the letter and the edge, in every sheet
  pub sheet_first : (text : List ℕ) (f : Board) → OfFinish text f → (e : ℕ) → FirstFlow (read_text text).network e (get_or (load_row f e) 1 0)
  -- "Program `sheet` reads a board on standard input, finishes it and prints the sheet, or the refusal number alone on a line"
  pub sheet_printed : (text : List ℕ) → (load_text text).answer ≡ 0 → sheet_output text ≡ report_text (finish_call (load_text text).board).board
  pub sheet_refused : (text : List ℕ) → (load_text text).answer ≢ 0 → sheet_output text ≡ number_line (load_text text).answer
  -- it reads no more of a long input than decides
  pub sheet_reads : (input : List ℕ) → sheet_output (take text_space input) ≡ sheet_output input
  -- "Program `play` reads a board, .. and then lines": each call is answered with the player's number
  pub play_printed : (input : List ℕ) → (load_text (board_part input)).answer ≡ 0
      → play_output input ≡ said (board_part input) [] (orders_from [] (moves_part input))
  -- "A refused board prints its number only"
  pub play_refused : (input : List ℕ) → (load_text (board_part input)).answer ≢ 0 → play_output input ≡ number_line (load_text (board_part input)).answer
  -- the session of fixed size that the program feeds prints this, whatever the lengths of the lines and of the pieces in which the input comes
  pub play_pieces : (pieces : List (List ℕ)) → told_pieces new_session pieces ++ end_told (served_pieces new_session pieces) ≡ play_output (input_of pieces)
  -- the room that a sheet needs
  pub sheet_room : (text : List ℕ) (f : Board) → OfFinish text f → length (report_text f) ≤ longest_report
