-- The call `turn`: document 01, "Moves".
use Rattle.std.specs.Prelude.{Bool, true, false, List, ℕ, ltb, eqb, get_or}
use Rattle.lists.specs.Choice.{pick, unless, when}
use Rattle.sets.specs.Sets.{none, joined}
use Rattle.board.specs.Whole.{Turn, Board, Played}
use Rattle.board.specs.declared.Network.{Network}
use Rattle.graph_flows.specs.Trails.{Step, edge_of}
use Rattle.move_guard.specs.Guard.{playing}
use Rattle.move_guard.specs.Moved.{Change}
use Rattle.move_guard.specs.Moved.{after_change, answered, unchanged}
use Rattle.move_carry.specs.Opens.{some_open}
use Rattle.move_cycle.specs.Steps.{is_up, every, is_cycle, gather}
use Rattle.move_edges.specs.Marking.{singular_in, singular, fresh_in}
use Rattle.move_cycle.specs.Amounts.{amount_in}
use Rattle.move_cycle.specs.Shifts.{shifted}

-- the rules that each step of a turn keeps
pub data StepRule : Type 0 where
  OnBoard : StepRule
  Positive : StepRule
  UpSingular : StepRule

-- 6, 25 and 26, of one step: a channel that the board has; a wet one; "up-steps use single channels". By the count of edges, the
-- flows and the test for a single channel; and on a board
abbrev pub meets_in : StepRule → ℕ → List ℕ → (ℕ → Bool) → Step → Bool
meets_in OnBoard edges flows single s = ltb (edge_of s) edges
meets_in Positive edges flows single s = ltb 0 (get_or flows (edge_of s) 0)
meets_in UpSingular edges flows single s = pick (is_up s) (single (edge_of s)) true

abbrev pub meets : StepRule → Board → Step → Bool
meets rule b s = meets_in rule b.network.edges b.flows (singular b) s

-- "Turn: 20, 6, 7, 24, 25, 26", by the parts of a board: whether it is in play, whether a carry is open, the network and the flows
unfoldable pub turn_refusal_in : Bool → Bool → Network → List ℕ → List Step → ℕ
turn_refusal_in in_play any_open net flows w =
    let single = singular_in net.tails net.heads flows net.vertices in
    unless in_play 20
    (unless (every (meets_in OnBoard net.edges flows single) w) 6
    (unless (is_cycle net.tails net.heads w) 7
    (when any_open 24
    (unless (every (meets_in Positive net.edges flows single) w) 25
    (unless (every (meets_in UpSingular net.edges flows single) w) 26 0)))))

-- the marks of before with the new ones, and the flows changed by the amount; the entry holds the amount and the sets
unfoldable pub turned_in : Network → List ℕ → ℕ → List ℕ → List Step → Change
turned_in net flows marks places w =
    let amount = amount_in net.heads flows places net.demands net.terminals 0 w in
    let fresh = fresh_in net.tails net.heads flows net.vertices marks in
    record {
      answer = 0;
      flows = shifted amount (gather false none w) (gather true none w) flows;
      marks = joined marks fresh;
      places = places;
      entry = record { step = Turn (record { amount = amount; down = gather false none w; up = gather true none w; marked = fresh }) };
    }

-- on a board
module _ (b : Board) where
  abbrev pub turn_refusal : List Step → ℕ
  turn_refusal = turn_refusal_in (playing b) (some_open b) b.network b.flows

  abbrev pub turned : List Step → Board
  turned w = after_change b (turned_in b.network b.flows b.marks b.places w)

  -- the call
  unfoldable pub turn_call : List Step → Played
  turn_call w = answered (turn_refusal w) b (turned w)

-- the number of a turn that is refused by its greatest edge alone: it has more steps than there are edges, so that one comes twice and they are no cycle, or an
-- edge that the board has not
unfoldable pub turn_unkept : Board → ℕ → ℕ
turn_unkept b greatest = unless (playing b) 20 (unless (ltb greatest b.network.edges) 6 7)

-- `turn_call` by the parts of a board: what the call changes
unfoldable pub turn_change : Bool → Bool → Network → List ℕ → ℕ → List ℕ → List Step → Change
unfolding turn_refusal_in turned_in
turn_change play any_open net flows marks places w =
    let number = turn_refusal_in play any_open net flows w in
    pick (eqb number 0) (turned_in net flows marks places w) (unchanged number flows marks places)
