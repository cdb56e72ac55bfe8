-- Which carries are open: document 01, "Moves". A name that ends in In is said of the parts of a board: its network, flows, marks and places; the name without it
-- of the board.
use Rattle.std.specs.Prelude.{Bool, List, ℕ, leb, ltb, eqb, get_or}
use Rattle.lists.specs.Choice.{pick, both}
use Rattle.lists.specs.Lists.{lowest}
use Rattle.sets.specs.Sets.{has_bit}
use Rattle.board.specs.Whole.{Board}
use Rattle.board.specs.declared.Network.{Network}

-- "the channel is unmarked with flow at or above the need, or marked with flow equal to the need"
unfoldable pub flow_fits : Bool → ℕ → ℕ → Bool
flow_fits mark flow demand = pick mark (eqb flow demand) (leb demand flow)

-- a mill is at the spring
unfoldable pub is_home_in : ℕ → List ℕ → ℕ → Bool
is_home_in source places i = eqb (get_or places i 0) source

abbrev pub is_home : Board → ℕ → Bool
is_home b = is_home_in b.network.source b.places

-- "a channel entering that pool"
unfoldable pub enters_in : Network → List ℕ → ℕ → ℕ → Bool
enters_in net places i e = eqb (get_or net.heads e 0) (get_or places i 0)

abbrev pub enters : Board → ℕ → ℕ → Bool
enters b = enters_in b.network b.places

module _ (net : Network) (flows : List ℕ) (marks : ℕ) (places : List ℕ) where
  -- the flow of edge e allows a carry of terminal i, and the carry is open
  abbrev pub fits_in : ℕ → ℕ → Bool
  fits_in i e = flow_fits (has_bit marks e) (get_or flows e 0) (get_or net.demands i 0)

  unfoldable pub is_open_in : ℕ → ℕ → Bool
  is_open_in i e = both (enters_in net places i e) (fits_in i e)

  -- the lowest edge of an open carry of terminal i, and the lowest terminal that has one; the count of edges or of terminals where there is none
  unfoldable pub open_edge_in : ℕ → ℕ
  open_edge_in i = lowest (is_open_in i) 0 net.edges

  unfoldable pub has_open_in : ℕ → Bool
  has_open_in i = ltb (open_edge_in i) net.edges

  unfoldable pub open_terminal_in : ℕ
  open_terminal_in = lowest has_open_in 0 net.terminals

  -- some carry is open
  unfoldable pub some_open_in : Bool
  some_open_in = ltb open_terminal_in net.terminals

module _ (b : Board) where
  abbrev pub is_open : ℕ → ℕ → Bool
  is_open = is_open_in b.network b.flows b.marks b.places

  abbrev pub open_edge : ℕ → ℕ
  open_edge = open_edge_in b.network b.flows b.marks b.places

  abbrev pub has_open : ℕ → Bool
  has_open = has_open_in b.network b.flows b.marks b.places

  abbrev pub open_terminal : ℕ
  open_terminal = open_terminal_in b.network b.flows b.marks b.places

  abbrev pub some_open : Bool
  some_open = some_open_in b.network b.flows b.marks b.places
