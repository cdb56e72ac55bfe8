-- The boards that the book speaks of.
use Rattle.std.specs.Prelude.{◌≡◌, List, ℕ}
use Rattle.board.specs.Record.{play_stage}
use Rattle.board.specs.Whole.{Board}
use Rattle.load.specs.Load.{load_text}
use Rattle.solve_finish.specs.Finishes.{finish_call}
use Rattle.move_list.specs.Calls.{Call, game_of, played}

-- "The list starts from the board that an accepted load gave": a board in play after any list of calls, refused ones and finishes that were taken back included
pub record OfPlay (text : List ℕ) (b : Board) : Type 0 where
  pub accepted : (load_text text).answer ≡ 0
  pub calls : List Call
  pub after : b ≡ (played (game_of (load_text text).board) calls).board
  pub in_play : b.stage ≡ play_stage

-- and the board that a finish gives on such a board
pub record OfFinish (text : List ℕ) (f : Board) : Type 0 where
  pub before : Board
  pub play : OfPlay text before
  pub given : f ≡ (finish_call before).board
