-- The reference player: document 01, "The player who never strayed"; document 02, E1.
use Rattle.std.specs.Prelude.{Bool, true, false, List, [], ◌∷◌, ◌++◌, ℕ, zero, suc, ◌-◌, eqb, length, take}
use Rattle.lists.specs.Choice.{pick}
use Rattle.board.specs.Limits.{max_moves}
use Rattle.board.specs.Whole.{Board}
use Rattle.load.specs.Load.{load_text}
use Rattle.solve_next.specs.Advices.{Suggestion}
use Rattle.solve_next.specs.Choosing.{Act, relocate, augment, judge, acted, next_act}
use Rattle.solve_finish.specs.Finishes.{stepped, finish_call}
use Rattle.move_list.specs.Calls.{Call, carry, turn, undo, hint, finish, call_for, hint_given}

-- what stands in the player's list: a move, that is a carry or a turn with its arguments; or a finish, which "not taken back stands like a move"
pub data Item : Type 0 where
  act : Act → Item
  ending : Item

-- a finish stands in the list, so play is over and nothing joins behind it
unfoldable pub is_over : List Item → Bool
is_over [] = false
is_over (act a ∷ ms) = is_over ms
is_over (ending ∷ ms) = true

-- what a listed item does to the player's board, "as under Moves"
abbrev pub listed : Board → Item → Board
listed b (act a) = acted b a
listed b ending = (finish_call b).board

-- "then the listed moves in order"
unfoldable pub listed_all : Board → List Item → Board
listed_all b [] = b
listed_all b (m ∷ ms) = listed_all (listed b m) ms

-- "This player is fed the loaded text": the board is made afresh each time, from the text and the standing moves
module _ (text : List ℕ) where
  unfoldable pub afresh : List Item → Board
  afresh ms = listed_all (load_text text).board ms

  -- "Each call is judged on that board"; undo: "27 on an empty list. Else 0"; a hint and a finish are refused only where play is over
  unfoldable pub says_to : List Item → Call → ℕ
  says_to ms (carry i e) = judge (afresh ms) (relocate i e)
  says_to ms (turn w) = judge (afresh ms) (augment w)
  says_to ms undo = pick (eqb (length ms) 0) 27 0
  says_to ms hint = pick (is_over ms) 20 0
  says_to ms finish = pick (is_over ms) 20 0

  -- a move: "if refused .. the list stays. Else .. the move joins the list's end"
  unfoldable pub standing_with : List Item → Act → List Item
  standing_with ms a = pick (eqb (judge (afresh ms) a) 0) (ms ++ (act a ∷ [])) ms

  -- undo: "the last move leaves the list", a finish whole; "Hint: the list stays"; a finish joins the list where it is not refused
  unfoldable pub standing_after : List Item → Call → List Item
  standing_after ms (carry i e) = standing_with ms (relocate i e)
  standing_after ms (turn w) = standing_with ms (augment w)
  standing_after ms undo = take (length ms - 1) ms
  standing_after ms hint = ms
  standing_after ms finish = pick (is_over ms) ms (ms ++ (ending ∷ []))

  -- a list of calls: the standing moves after it, and the answers
  unfoldable pub standing_moves : List Item → List Call → List Item
  standing_moves ms [] = ms
  standing_moves ms (c ∷ cs) = standing_moves (standing_after ms c) cs

  unfoldable pub says : List Item → List Call → List ℕ
  says ms [] = []
  says ms (c ∷ cs) = says_to ms c ∷ says (standing_after ms c) cs

  -- the hints: each is that of "this player's board at that point"
  unfoldable pub suggests : List Item → List Call → List Suggestion
  suggests ms [] = []
  suggests ms (c ∷ cs) = hint_given (afresh ms) c ++ suggests (standing_after ms c) cs

-- the solver's moves on a board to its end, k of them at most
unfoldable pub solver_moves : ℕ → Board → List Act
solver_moves zero b = []
solver_moves (suc k) b = elim (eqb (stepped b).answer 0) [ true ↦ next_act b ∷ solver_moves k (stepped b).board | false ↦ [] ]

-- the moves that an item makes on a board: itself, or those of a finish
abbrev pub moves_of : Board → Item → List Act
moves_of b (act a) = a ∷ []
moves_of b ending = solver_moves max_moves b

-- the moves of a list, in order
unfoldable pub expanded_from : Board → List Item → List Act
expanded_from b [] = []
expanded_from b (m ∷ ms) = moves_of b m ++ expanded_from (listed b m) ms

abbrev pub expanded : List ℕ → List Item → List Act
expanded text ms = expanded_from (load_text text).board ms

-- the edge that a move carries terminal i over; and the route of it after moves, "last one first"
abbrev pub goes_over : ℕ → Act → List ℕ
goes_over i (relocate j e) = pick (eqb j i) (e ∷ []) []
goes_over i (augment w) = []

unfoldable pub route_of : ℕ → List Act → List ℕ
route_of i [] = []
route_of i (a ∷ acts) = route_of i acts ++ goes_over i a

-- the call of an item, and of each of a list: "called in order"
abbrev pub call_again : Item → Call
call_again (act a) = call_for a
call_again ending = finish

unfoldable pub calls_again : List Item → List Call
calls_again [] = []
calls_again (m ∷ ms) = call_again m ∷ calls_again ms
