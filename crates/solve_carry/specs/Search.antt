-- The open carry that the solver makes: document 01, "Finish". A name that ends in In is said of the parts of a board: its network, flows, marks and places; the name
-- without it of the board.
use Rattle.std.specs.Prelude.{Bool, List, ℕ, Option, Some, None, ltb}
use Rattle.lists.specs.Choice.{pick, both}
use Rattle.lists.specs.Lists.{lowest}
use Rattle.sets.specs.Sets.{has_bit}
use Rattle.board.specs.Whole.{Board}
use Rattle.board.specs.declared.Network.{Network}
use Rattle.move_carry.specs.Opens.{is_open_in, open_edge_in, open_terminal_in, some_open_in}
use Rattle.board.specs.declared.Relocation as code-relocation

-- a mill and the channel of its carry; the counts of mills and of channels where no carry is open
pub record Found : Type 0 where
  pub terminal : ℕ
  pub edge : ℕ

-- what the code found, by the counts of mills and of channels
abbrev pub found_of : ℕ → ℕ → Option code-relocation.Relocation → Found
found_of terminals edges (Some r) = record { terminal = r.terminal; edge = r.edge }
found_of terminals edges None = record { terminal = terminals; edge = edges }

module _ (net : Network) (flows : List ℕ) (marks : ℕ) (places : List ℕ) where
  -- "of its open carries, marked channels first, then lowest channel"
  unfoldable pub marked_open_in : ℕ → ℕ → Bool
  marked_open_in i e = both (has_bit marks e) (is_open_in net flows marks places i e)

  unfoldable pub marked_edge_in : ℕ → ℕ
  marked_edge_in i = lowest (marked_open_in i) 0 net.edges

  unfoldable pub chosen_edge_in : ℕ → ℕ
  chosen_edge_in i = pick (ltb (marked_edge_in i) net.edges) (marked_edge_in i) (open_edge_in net flows marks places i)

  -- "lowest mill that has one", and that channel; the counts of mills and of channels where no carry is open
  unfoldable pub open_carry_in : Found
  open_carry_in = record {
    terminal = open_terminal_in net flows marks places;
    edge = pick (some_open_in net flows marks places) (chosen_edge_in (open_terminal_in net flows marks places)) net.edges;
  }

module _ (b : Board) where
  abbrev pub marked_open : ℕ → ℕ → Bool
  marked_open = marked_open_in b.network b.flows b.marks b.places

  abbrev pub marked_edge : ℕ → ℕ
  marked_edge = marked_edge_in b.network b.flows b.marks b.places

  abbrev pub chosen_edge : ℕ → ℕ
  chosen_edge = chosen_edge_in b.network b.flows b.marks b.places
