-- The move that the solver makes next: document 01, "Finish". A name that ends in In is said of the parts of a board: its network, flows, marks and places; the name
-- without it of the board.
use Rattle.std.specs.Prelude.{Bool, List, ℕ, eqb, take, replicate}
use Rattle.lists.specs.Choice.{pick}
use Rattle.lists.specs.Lists.{all}
use Rattle.board.specs.Limits.{max_edges}
use Rattle.board.specs.Whole.{Board}
use Rattle.board.specs.declared.Network.{Network}
use Rattle.move_guard.specs.Guard.{playing}
use Rattle.move_guard.specs.Moved.{Change, after_change}
use Rattle.move_carry.specs.Opens.{is_home_in, open_terminal_in, some_open_in}
use Rattle.move_carry.specs.Carries.{carry_refusal_in, carried_in}
use Rattle.graph_flows.specs.Trails.{Step}
use Rattle.move_cycle.specs.Steps.{code_steps}
use Rattle.move_turn.specs.Turns.{turn_refusal_in, turned_in}
use Rattle.solve_carry.specs.Search.{chosen_edge_in}
use Rattle.solve_walk.specs.Walk.{cycle_of, packed}
use Rattle.solve_next.specs.Advices.{Advice}

-- every mill is at the spring: by how many mills there are, the spring, and where the mills are
unfoldable pub all_home_in : ℕ → ℕ → List ℕ → Bool
all_home_in terminals source places = all (is_home_in source places) 0 terminals

-- a move with what it is made of: a carry of a terminal over an edge, or a turn along steps
pub data Act : Type 0 where
  relocate : ℕ → ℕ → Act
  augment : List Step → Act

-- the number that a move is refused with, 0 where it is accepted; and what it changes
abbrev pub judge_in : Bool → Network → List ℕ → ℕ → List ℕ → Act → ℕ
judge_in in_play net flows marks places (relocate i e) = carry_refusal_in in_play net flows marks places i e
judge_in in_play net flows marks places (augment w) = turn_refusal_in in_play (some_open_in net flows marks places) net flows w

abbrev pub acted_in : Network → List ℕ → ℕ → List ℕ → Act → Change
acted_in net flows marks places (relocate i e) = carried_in net flows marks places i e
acted_in net flows marks places (augment w) = turned_in net flows marks places w

-- "the ring found below": the cycle that the solver turns
abbrev pub next_cycle_in : Network → List ℕ → List Step
next_cycle_in net flows = cycle_of net.tails net.heads flows net.vertices net.source

-- "While a carry is open: lowest mill that has one; .. Otherwise the ring found below is turned"
unfoldable pub next_act_in : Network → List ℕ → ℕ → List ℕ → Act
next_act_in net flows marks places =
    let i = open_terminal_in net flows marks places in
    pick (some_open_in net flows marks places)
    (relocate i (chosen_edge_in net flows marks places i))
    (augment (next_cycle_in net flows))

-- on a board
module _ (b : Board) where
  abbrev pub all_home : Bool
  all_home = all_home_in b.network.terminals b.network.source b.places

  abbrev pub judge : Act → ℕ
  judge = judge_in (playing b) b.network b.flows b.marks b.places

  abbrev pub acted : Act → Board
  acted a = after_change b (acted_in b.network b.flows b.marks b.places a)

  abbrev pub next_cycle : List Step
  next_cycle = next_cycle_in b.network b.flows

  abbrev pub next_act : Act
  next_act = next_act_in b.network b.flows b.marks b.places

-- a move in a record: what kind it is, 0 for none, 1 for a carry and 2 for a turn, and its parts; what a kind does not need is 0
abbrev pub no_kind : ℕ
no_kind = 0

abbrev pub carry_kind : ℕ
carry_kind = 1

abbrev pub turn_kind : ℕ
turn_kind = 2

abbrev pub no_advice : Advice
no_advice = record { kind = no_kind; terminal = 0; edge = 0; count = 0; steps = replicate max_edges 0 }

abbrev pub advice_of : Act → Advice
advice_of (relocate i e) = record { kind = carry_kind; terminal = i; edge = e; count = 0; steps = replicate max_edges 0 }
advice_of (augment w) = record { kind = turn_kind; terminal = 0; edge = 0; count = (packed w).count; steps = (packed w).steps }

-- the move that a record of a kind other than none stands for
unfoldable pub act_of : Advice → Act
act_of a = pick (eqb a.kind carry_kind) (relocate a.terminal a.edge) (augment (code_steps (take a.count a.steps)))
