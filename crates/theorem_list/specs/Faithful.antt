-- Demand 3: document 01, "one claim about a whole list of carries, turns, hints and undos, of any length"; document 02, E1: "Lists of calls with finishes in them now
-- count as play".
use Rattle.std.specs.Prelude.{◌≡◌, Bool, true, false, List, [], ◌∷◌, map, ℕ, ◌≤◌, length, get_or, replicate}
use Rattle.lists.specs.Members.{has}
use Rattle.board.specs.Limits.{max_moves}
use Rattle.board.specs.Record.{finished_stage, blank}
use Rattle.board.specs.Whole.{Board}
use Rattle.journal.specs.Words.{blank_words, no_words, words_after, packed_all}
use Rattle.load.specs.Load.{load_text}
use Rattle.move_guard.specs.Guard.{playing}
use Rattle.solve_finish.specs.Finishes.{finish_call}
use Rattle.report_routes.specs.Routes.{route}
use Rattle.move_list.specs.Calls.{Call, carry, turn, undo, hint, finish, game_of, played, answers, hints_of}
use Rattle.move_list.specs.Words.{words_played}
use Rattle.theorem_list.specs.Player.{act, is_over, afresh, standing_moves, says, suggests, expanded, route_of, calls_again}
use Rattle.theorem_list.specs.Complete.{Completed, Complete}

-- b, with these words of its journal, is in play: finish completes it, and its moves are packed into the words behind those that stood
pub record GoesOn (b : Board) (words : List (List ℕ)) : Type 0 where
  pub in_play : playing b ≡ true
  pub finish : Complete b (finish_call b)
  pub finish_words : words_after b.moves (finish_call b).board words ≡ packed_all (finish_call b).board.journal

-- "its board is complete already, within the overfill limit"
pub record IsComplete (b : Board) : Type 0 where
  pub finished : b.stage ≡ finished_stage
  pub completed : Completed b

-- b, the board after the calls cs on the board that the text gave, is the reference player's, and so were the answers; and finish completes it, or has done so
pub record Faithful (text : List ℕ) (cs : List Call) (b : Board) : Type 0 where
  -- the network and the acyclic flow are those of the load
  pub network : b.network ≡ (load_text text).board.network
  pub acyclic : b.acyclic ≡ (load_text text).board.acyclic
  -- "the board's flows, marks, places of mills and routes are those of this player's board": the whole record is; the routes by the moves of the player's list, too
  pub board : b ≡ afresh text (standing_moves text [] cs)
  pub routes : (i : ℕ) → route b i ≡ route_of i (expanded text (standing_moves text [] cs))
  -- "equals the one that a fresh load of the same text gives once the standing moves alone are called in order"
  pub again : b ≡ (played (game_of (load_text text).board) (calls_again (standing_moves text [] cs))).board
  pub moves : b.moves ≡ length (expanded text (standing_moves text [] cs))
  -- "The journal has 1,056 places": in the words that were lent to the load and the calls each is packed of the journal's entry
  pub places : length b.journal ≡ max_moves
  pub words : words_played (game_of (load_text text).board) cs no_words ≡ packed_all b.journal
  -- "places beyond the standing moves all hold the same fixed blank": of the entries, and of the words
  pub blanks : (i : ℕ) → b.moves ≤ i → get_or b.journal i blank ≡ blank
  pub blank_words_lem : (i : ℕ) → b.moves ≤ i → get_or (words_played (game_of (load_text text).board) cs no_words) i blank_words ≡ blank_words
  -- the standing moves are each accepted when they are called again
  pub accepted_again : answers (game_of (load_text text).board) (calls_again (standing_moves text [] cs)) ≡ replicate (length (standing_moves text [] cs)) 0
  -- "Each carry, turn and undo answered this player's number"; each hint was that of "this player's board at that point"
  pub same_answers : answers (game_of (load_text text).board) cs ≡ says text [] cs
  pub same_hints : hints_of (game_of (load_text text).board) cs ≡ suggests text [] cs
  -- at the end play goes on and finish completes the board; or a finish stands, and it is complete already
  pub goes_on : is_over (standing_moves text [] cs) ≡ false → GoesOn b (words_played (game_of (load_text text).board) cs no_words)
  pub over : is_over (standing_moves text [] cs) ≡ true → IsComplete b

-- no call of the list is a finish
unfoldable pub no_finish : List Call → Bool
no_finish [] = true
no_finish (carry i e ∷ cs) = no_finish cs
no_finish (turn w ∷ cs) = no_finish cs
no_finish (undo ∷ cs) = no_finish cs
no_finish (hint ∷ cs) = no_finish cs
no_finish (finish ∷ cs) = false

-- after a list without a finish: only moves stand, play goes on, and no answer was 20
pub record Unfinished (text : List ℕ) (cs : List Call) (b : Board) : Type 0 where
  pub only_moves : map act (expanded text (standing_moves text [] cs)) ≡ standing_moves text [] cs
  pub moves : b.moves ≡ length (standing_moves text [] cs)
  pub none_over : has 20 (answers (game_of (load_text text).board) cs) ≡ false
  pub goes_on : GoesOn b (words_played (game_of (load_text text).board) cs no_words)
