-- The program `play` in fixed memory, fed with the pieces in which its input comes. That it prints `play_output` of the whole is a theorem.
use Rattle.std.specs.Prelude.{Bool, List, [], ◌∷◌, ◌++◌, ℕ, ◌+◌, ◌-◌, leb, ltb, eqb, length, take, replicate}
use Rattle.std.proofs.lemmas.List.Edits.{sets}
use Rattle.lists.specs.Choice.{pick, both}
use Rattle.lists.specs.Lists.{index_of}
use Rattle.board.specs.Limits.{max_edges}
use Rattle.board.specs.Record.{closed_board}
use Rattle.board.specs.Whole.{Board}
use Rattle.board.specs.Whole.{Played}
use Rattle.move_carry.specs.Carries.{carry_call}
use Rattle.move_cycle.specs.Steps.{code_steps}
use Rattle.move_turn.specs.Turns.{turn_call, turn_unkept}
use Rattle.move_undo.specs.Undone.{undo_call}
use Rattle.solve_next.specs.Advices.{Suggestion}
use Rattle.solve_next.specs.Hints.{hint_refusal, hint_call}
use Rattle.solve_finish.specs.Finishes.{finish_call}
use Rattle.load.specs.Load.{Loaded}
use Rattle.load.specs.Load.{load_text}
use Rattle.play_lines.specs.declared.Kind.{Kind}
use Rattle.play_lines.specs.declared.Kind.TheVariants.{Hint, Undo, Finish, CarryWhole, Turn}
use Rattle.play_lines.specs.declared.Form.{Form}
use Rattle.play_lines.specs.declared.Scan.{Scan}
use Rattle.play_lines.specs.MoveLines.{hint_line}
use Rattle.play_lines.specs.Scans.{is_hint, is_finish, no_scan, scan_all, scanned, is_blank}
use Rattle.text.specs.Sizes.{number_bytes, report_bytes}
use Rattle.sheet_output.specs.Outputs.{number_line, report_of}
use Rattle.sheet_output.specs.Inputs.{text_space, lines_wanted}

-- a session: its stage, how many lines of the board are still to come, the text of the board as far as it is kept, the line as far as it was read, and the board
pub record Session : Type 0 where
  pub stage : ℕ
  pub left : ℕ
  pub used : ℕ
  pub text : List ℕ
  pub scan : Scan
  pub board : Board

-- ---- a line's answer

-- a turn; where its steps were not all kept there are too many of them, or an edge that the board has not
unfoldable pub turn_replied : Board → Form → Played
turn_replied b f =
    pick (both (leb f.count max_edges) (ltb f.greatest b.network.edges))
    (turn_call b (code_steps (take f.count f.steps)))
    (record { answer = turn_unkept b f.greatest; board = b })

-- a line, by its kind
abbrev pub replied_by : Kind → Board → Form → Played
replied_by CarryWhole b f = carry_call b f.first f.second
replied_by Turn b f = turn_replied b f
replied_by Hint b f = record { answer = hint_refusal b; board = b }
replied_by Undo b f = undo_call b
replied_by Finish b f = record { answer = (finish_call b).answer; board = (finish_call b).board }
replied_by _ b f = record { answer = 1; board = b }

unfoldable pub form_replied : Board → Form → Played
form_replied b f = replied_by f.kind b f

-- what is printed for a hint, for another line, and for a line
unfoldable pub suggestion_text : Suggestion → List ℕ
suggestion_text h = number_line h.answer ++ pick (eqb h.answer 0) (hint_line h.advice) []

unfoldable pub played_text : Form → Played → List ℕ
played_text f p =
    number_line p.answer ++ pick (both (is_finish f.kind) (eqb p.answer 0)) (report_of p.board) []

unfoldable pub form_text : Board → Form → List ℕ
form_text b f = pick (is_hint f.kind) (suggestion_text (hint_call b)) (played_text f (form_replied b f))

-- what a line's answer takes at most: a number, and the longest report
abbrev pub output_bytes : ℕ
output_bytes = number_bytes + report_bytes

-- ---- a session: the board is read, lines are played, or the board was refused

abbrev pub reading_stage : ℕ
reading_stage = 0

abbrev pub playing_stage : ℕ
playing_stage = 1

abbrev pub over_stage : ℕ
over_stage = 2

abbrev pub new_session : Session
new_session = record { stage = reading_stage; left = 0; used = 0; text = replicate text_space 0; scan = no_scan; board = closed_board }

-- bytes of the board's text are kept while there is room
abbrev pub text_grown : Session → List ℕ → Session
text_grown s l = record {
  stage = s.stage;
  left = s.left;
  used = pick (leb (s.used + length l) text_space) (s.used + length l) text_space;
  text = sets s.text s.used l;
  scan = s.scan;
  board = s.board;
}

abbrev pub scan_grown : Session → List ℕ → Session
scan_grown s l = record { stage = s.stage; left = s.left; used = s.used; text = s.text; scan = scan_all s.scan l; board = s.board }

-- bytes of a line
unfoldable pub grown : Session → List ℕ → Session
grown s l = pick (eqb s.stage reading_stage) (text_grown s l) (pick (eqb s.stage playing_stage) (scan_grown s l) s)

-- the board's text as far as it was kept
abbrev pub text_so_far : Session → List ℕ
text_so_far s = take s.used s.text

-- how many lines of the board are still to come behind one that has ended; the first one says how many there are
unfoldable pub lines_left : Session → ℕ
lines_left s = pick (eqb s.left 0) (lines_wanted (text_so_far s)) s.left - 1

-- the board is read, and played or refused
abbrev pub ready : Loaded → Session → Session
ready l s = record {
  stage = pick (eqb l.answer 0) playing_stage over_stage;
  left = 0;
  used = s.used;
  text = s.text;
  scan = no_scan;
  board = l.board;
}

abbrev pub expecting : ℕ → Session → Session
expecting k s = record { stage = s.stage; left = k; used = s.used; text = s.text; scan = s.scan; board = s.board }

unfoldable pub board_line : Session → Session
board_line s = pick (eqb (lines_left s) 0) (ready (load_text (text_so_far s)) s) (expecting (lines_left s) s)

-- "A refused board prints its number only"
unfoldable pub load_told : Loaded → List ℕ
load_told l = pick (eqb l.answer 0) [] (number_line l.answer)

unfoldable pub board_told : Session → List ℕ
board_told s = pick (eqb (lines_left s) 0) (load_told (load_text (text_so_far s))) []

abbrev pub played_line : Played → Session → Session
played_line p s = record { stage = s.stage; left = s.left; used = s.used; text = s.text; scan = no_scan; board = p.board }

-- a line feed: the session behind it, and what is printed
unfoldable pub line_ended : Session → Session
line_ended s =
    pick (eqb s.stage reading_stage) (board_line (text_grown s (10 ∷ [])))
    (pick (eqb s.stage playing_stage) (played_line (form_replied s.board (scanned s.scan)) s) s)

unfoldable pub line_told : Session → List ℕ
line_told s =
    pick (eqb s.stage reading_stage) (board_told (text_grown s (10 ∷ [])))
    (pick (eqb s.stage playing_stage) (form_text s.board (scanned s.scan)) [])

-- what is printed at the end of the input
unfoldable pub end_told : Session → List ℕ
end_told s =
    pick (eqb s.stage reading_stage) (load_told (load_text (text_so_far s)))
    (pick (eqb s.stage playing_stage) (pick (is_blank s.scan) [] (number_line 1)) [])

-- ---- a piece of the input: bytes up to and with the first line feed, all of them where there is none

abbrev pub has_line : List ℕ → Bool
has_line bytes = ltb (index_of 10 bytes) (length bytes)

unfoldable pub taken_of : List ℕ → ℕ
taken_of bytes = pick (has_line bytes) (index_of 10 bytes + 1) (length bytes)

unfoldable pub fed_session : Session → List ℕ → Session
fed_session s bytes = pick (has_line bytes) (line_ended (grown s (take (index_of 10 bytes) bytes))) (grown s bytes)

unfoldable pub fed_told : Session → List ℕ → List ℕ
fed_told s bytes = pick (has_line bytes) (line_told (grown s (take (index_of 10 bytes) bytes))) []
