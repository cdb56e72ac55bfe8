-- The book of promises: every sentence that claims something, of document 01 in the paper's order, of the three demands, and of the requests of document 02 that were
-- met, each where it belongs. Demand 1 besides: no function traps, wraps or runs on, which is what the checker proves of each.
use Rattle.std.specs.Prelude.{◌≡◌, true, ◌⊎◌, List, ℕ}
use Rattle.load.specs.Load.{load_text}
use Rattle.move_list.specs.Calls.{Call, game_of, played}
use Rattle.theorem_list.specs.Faithful.{Faithful, no_finish, Unfinished}
use Rattle.promises.specs.Plays.{OfPlay, OfFinish}
use Rattle.promises.specs.Texts.{AboutTexts}
use Rattle.promises.specs.Cancelling.{AboutCancelling}
use Rattle.promises.specs.Moves.{AboutMoves}
use Rattle.promises.specs.Hints.{AboutHints}
use Rattle.promises.specs.Sheets.{AboutSheets}
use Rattle.promises.specs.Games.{AboutGames}
use Rattle.promises.specs.Refusals.{AboutRefusals}

pub record Book : Type 0 where
  pub texts : AboutTexts
  pub cancelling : AboutCancelling
  pub moves : AboutMoves
  pub hints : AboutHints
  -- "Demand 3 is one claim about a whole list of carries, turns, hints and undos, of any length, and not a claim for each call"; "Lists of calls with finishes in them now
  -- count as play" (document 02, E1)
  pub every_list : (text : List ℕ) (cs : List Call) → (load_text text).answer ≡ 0 → Faithful text cs (played (game_of (load_text text).board) cs).board
  -- after a list without a finish play goes on
  pub unfinished_list : (text : List ℕ) (cs : List Call) → (load_text text).answer ≡ 0 → no_finish cs ≡ true
      → Unfinished text cs (played (game_of (load_text text).board) cs).board
  -- and after each list the board is one of those that the other promises speak of
  pub every_board : (text : List ℕ) (cs : List Call) → (load_text text).answer ≡ 0
      → OfPlay text (played (game_of (load_text text).board) cs).board ⊎ OfFinish text (played (game_of (load_text text).board) cs).board
  pub sheets : AboutSheets
  -- games as C keeps them, in memory of its own: what include/vulprow.h says of that memory
  pub games : AboutGames
  pub refusals : AboutRefusals
