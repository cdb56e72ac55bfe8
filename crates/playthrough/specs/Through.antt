-- A whole play: a text is loaded, a list of calls is made, and the board is finished.
use Rattle.std.specs.Prelude.{◌≡◌, true, false, List, [], ℕ}
use Rattle.std.proofs.lemmas.List.Edits.{sets}
use Rattle.board.specs.Whole.{Board}
use Rattle.load.specs.Load.{load_text}
use Rattle.solve_finish.specs.Finishes.{Finished, finish_call}
use Rattle.move_list.specs.Calls.{Call, game_of, played, noted}
use Rattle.theorem_list.specs.Player.{is_over, standing_moves, says, suggests}
use Rattle.theorem_list.specs.Complete.{Complete}
use Rattle.theorem_list.specs.Faithful.{Faithful}

-- what a whole play gives: the answer of the load, the board after the calls, and what the finish gave
pub record Outcome : Type 0 where
  pub loading : ℕ
  pub board : Board
  pub finish : Finished

-- what is loaded, the board after the calls, and what finish makes of it
abbrev pub outcome : List ℕ → List Call → Outcome
outcome text cs = record {
  loading = (load_text text).answer;
  board = (played (game_of (load_text text).board) cs).board;
  finish = finish_call (played (game_of (load_text text).board) cs).board;
}

-- the buffers of the answers and of the hints' moves, before and after
module _ (text : List ℕ) (cs : List Call) (given given' hints hints' : List ℕ) (r : Outcome) where
  -- demand 3, of what was answered, written and given
  pub record Held : Type 0 where
    pub faithful : Faithful text cs r.board
    pub answers-written : given' ≡ sets given 0 (says text [] cs)
    pub hints_written : hints' ≡ noted hints 0 (suggests text [] cs)
    -- the finish completes the board; or one of the calls has done so, and it is refused
    pub finished : is_over (standing_moves text [] cs) ≡ false → Complete r.board r.finish
    pub refused : is_over (standing_moves text [] cs) ≡ true → r.finish ≡ record { answer = 20; count = 0; board = r.board }

  -- .. for every text that is accepted
  abbrev pub Holds : Type 0
  Holds = (load_text text).answer ≡ 0 → Held
