-- A list of calls: what they answer, and the game after them.
use Rattle.std.specs.Prelude.{List, [], ◌∷◌, ◌++◌, ℕ, ◌+◌, ltb, length}
use Rattle.lists.specs.Choice.{pick}
use Rattle.std.proofs.lemmas.List.Edits.{sets}
use Rattle.board.specs.Limits.{max_edges}
use Rattle.board.specs.Whole.{Board}
use Rattle.board.specs.Whole.{Played}
use Rattle.graph_flows.specs.Trails.{Step}
use Rattle.move_carry.specs.Carries.{carry_call}
use Rattle.move_turn.specs.Turns.{turn_call}
use Rattle.move_undo.specs.Undone.{undo_call}
use Rattle.solve_next.specs.Advices.{Advice}
use Rattle.solve_next.specs.Advices.{Suggestion}
use Rattle.solve_next.specs.Choosing.{Act, relocate, augment}
use Rattle.solve_next.specs.Hints.{hint_refusal, hint_call}
use Rattle.solve_finish.specs.Finishes.{Finished}
use Rattle.solve_finish.specs.Finishes.{finish_call}

-- a call with its arguments: a carry of a terminal over an edge, a turn along steps, an undo, a hint, or a finish
pub data Call : Type 0 where
  carry : ℕ → ℕ → Call
  turn : List Step → Call
  undo : Call
  hint : Call
  finish : Call

-- the call that makes a move
abbrev pub call_for : Act → Call
call_for (relocate i e) = carry i e
call_for (augment w) = turn w

-- what calls are made on, and what a list of calls hands on from one to the next
pub record Game : Type 0 where
  pub board : Board

abbrev pub game_of : Board → Game
game_of b = record { board = b }

-- what one call gives: its number, and the game after it
pub record Reply : Type 0 where
  pub answer : ℕ
  pub game : Game

abbrev pub reply_of : Played → Reply
reply_of p = record { answer = p.answer; game = game_of p.board }

abbrev pub reply_of_finish : Finished → Reply
reply_of_finish f = record { answer = f.answer; game = game_of f.board }

abbrev pub made : Game → Call → Reply
made g (carry i e) = reply_of (carry_call g.board i e)
made g (turn w) = reply_of (turn_call g.board w)
made g undo = reply_of (undo_call g.board)
made g hint = record { answer = hint_refusal g.board; game = g }
made g finish = reply_of_finish (finish_call g.board)

-- "Each call gets the board as the call before it gave or left it"
unfoldable pub played : Game → List Call → Game
played g [] = g
played g (c ∷ cs) = played (made g c).game cs

unfoldable pub answers : Game → List Call → List ℕ
answers g [] = []
answers g (c ∷ cs) = (made g c).answer ∷ answers (made g c).game cs

-- the hint that one call gives, if it is one; and the hints of the calls, in order
abbrev pub hint_given : Board → Call → List Suggestion
hint_given b (carry i e) = []
hint_given b (turn w) = []
hint_given b undo = []
hint_given b hint = hint_call b ∷ []
hint_given b finish = []

unfoldable pub hints_of : Game → List Call → List Suggestion
hints_of g [] = []
hints_of g (c ∷ cs) = hint_given g.board c ++ hints_of (made g c).game cs

-- a hint's move in numbers: its kind, terminal, edge, count of steps, and the codes of the steps
abbrev pub advice_code : Advice → List ℕ
advice_code a = a.kind ∷ a.terminal ∷ a.edge ∷ a.count ∷ a.steps

-- how many of them stand before the steps, and how many there are
abbrev pub advice_head : ℕ
advice_head = 4

abbrev pub advice_width : ℕ
advice_width = advice_head + max_edges

-- the place of the next hint; none is past the end
unfoldable pub behind : List ℕ → ℕ → ℕ
behind buf k = pick (ltb k (length buf)) (k + advice_width) k

-- the buffer with the moves of the hints from place k on, as far as it reaches
unfoldable pub noted : List ℕ → ℕ → List Suggestion → List ℕ
noted buf k [] = buf
noted buf k (h ∷ hs) = noted (sets buf k (advice_code h.advice)) (behind buf k) hs
