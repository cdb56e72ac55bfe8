-- Document 01, "Turned down because of the input", "Turned down because of the state"; document 02, E1. The orders are the definitions of the refusals: `carry_refusal`, `turn_refusal`,
-- `undo_refusal`, `hint_refusal`, `finish_refusal`, `sheet_refusal`, `write_text`, `catalog_call`.
use Rattle.std.specs.Prelude.{◌≡◌, true, false, ◌≢◌, List, ◌++◌, ℕ, length, drop}
use Rattle.board.specs.Record.{closed_board}
use Rattle.board.specs.Whole.{Board}
use Rattle.graph_flows.specs.Trails.{Step}
use Rattle.text.specs.Results.{writable, write_text, written}
use Rattle.load.specs.Load.{load_text}
use Rattle.move_guard.specs.Guard.{loaded}
use Rattle.move_carry.specs.Carries.{carry_call}
use Rattle.move_turn.specs.Turns.{turn_call}
use Rattle.move_undo.specs.Undone.{undo_call}
use Rattle.move_list.specs.Calls.{Call, Game, game_of, made, played}
use Rattle.solve_next.specs.Choosing.{no_advice}
use Rattle.solve_next.specs.Hints.{hint_refusal, hint_call}
use Rattle.solve_finish.specs.Finishes.{finish_refusal, finish_call}
use Rattle.report_routes.specs.Tables.{routes_fit}
use Rattle.report.specs.Reports.{report_text, sheet_call, sheeted}
use Rattle.catalog.specs.Catalog.{catalog_call, catalogued}
use Rattle.promises.specs.Plays.{OfPlay, OfFinish}

-- "20 play is over (a finish was accepted), or no board was loaded": whatever the arguments, and nothing changes. Undo is refused with it "only where no board was loaded"
pub record Refuses20 (b : Board) : Type 0 where
  pub carry : (i e : ℕ) → carry_call b i e ≡ record { answer = 20; board = b }
  pub turn : (w : List Step) → turn_call b w ≡ record { answer = 20; board = b }
  pub hint : hint_call b ≡ record { answer = 20; advice = no_advice }
  pub finish : finish_call b ≡ record { answer = 20; count = 0; board = b }

-- "29 nothing was loaded": into any buffer, which is kept
pub record Refuses29 (b : Board) : Type 0 where
  pub sheet : (buf : List ℕ) → (sheet_call b (length buf) ≡ record { answer = 29; used = 0 }) × (sheeted b buf ≡ buf)
  pub writer : (buf : List ℕ) → (write_text b (length buf) ≡ record { answer = 29; used = 0 }) × (written b buf ≡ buf)

-- what the calls ask of a board besides its stage: that its numbers are in their ranges, the writer a lawful network, the report routes that fit their rows, hint and
-- finish a move that is accepted
pub record Whole (b : Board) : Type 0 where
  pub intact : loaded b ≡ true
  pub network : writable b.stage b.network ≡ true
  pub routes : routes_fit b ≡ true

pub record AboutRefusals : Type 0 where
  -- "A refused load gives the closed board, with no pools, on which every call but load is refused"
  pub load_refused : (text : List ℕ) → (load_text text).answer ≢ 0 → (load_text text).board ≡ closed_board
  pub closed_refused : Refuses20 closed_board × Refuses29 closed_board
  -- "Refusal 20 on undo remains only where no board was loaded"
  pub undo_refused : (b : Board) → loaded b ≡ false → undo_call b ≡ record { answer = 20; board = b }
  pub undo_open : (text : List ℕ) (cs : List Call) → (load_text text).answer ≡ 0 → (undo_call (played (game_of (load_text text).board) cs).board).answer ≢ 20
  -- "20 play is over (a finish was accepted)"
  pub over_refused : (text : List ℕ) (f : Board) → OfFinish text f → Refuses20 f
  -- no board of play, and none that a finish gave, lacks what the calls ask besides, so that no call is refused for it
  pub whole_in_play : (text : List ℕ) (b : Board) → OfPlay text b → Whole b × (hint_refusal b ≡ 0) × (finish_refusal b ≡ 0)
  pub whole_finished : (text : List ℕ) (f : Board) → OfFinish text f → Whole f
  -- "Any other refusal gives the number alone": the game is as before
  pub call_refused : (g : Game) (c : Call) → (made g c).answer ≢ 0 → (made g c).game ≡ g
  pub finish_refused : (b : Board) → (finish_call b).answer ≢ 0 → finish_call b ≡ record { answer = (finish_call b).answer; count = 0; board = b }
  -- and so is the buffer of writer, sheet and shelf
  pub writer_refused : (b : Board) (buf : List ℕ) → (write_text b (length buf)).answer ≢ 0 → written b buf ≡ buf
  pub sheet_refused : (b : Board) (buf : List ℕ) → (sheet_call b (length buf)).answer ≢ 0 → sheeted b buf ≡ buf
  pub catalog_refused : (k : ℕ) (buf : List ℕ) → (catalog_call k (length buf)).answer ≢ 0 → catalogued k buf ≡ buf
  -- "bytes past a written text are kept"
  pub sheet_written : (b : Board) (buf : List ℕ) → (sheet_call b (length buf)).answer ≡ 0 → sheeted b buf ≡ report_text b ++ drop (length (report_text b)) buf
