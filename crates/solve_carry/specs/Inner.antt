-- For inner contracts only: the search for an open carry by sets of edges, as the code makes it, and what it leans on.
use Rattle.std.specs.Prelude.{◌≡◌, false, List, ℕ, Option, Some, None, ◌<◌, ◌≤◌, ltb, length, get_or}
use Rattle.lists.specs.Choice.{pick, both}
use Rattle.lists.specs.Lists.{lowest}
use Rattle.sets.specs.Sets.{has_bit, common}
use Rattle.sets.specs.Inner.{set_width}
use Rattle.board.specs.Limits.{max_vertices, max_edges}
use Rattle.board.specs.declared.Network.{Network}
use Rattle.move_edges.specs.Incidence.{Incident, PositiveSet}
use Rattle.move_carry.specs.Opens.{flow_fits, has_open_in}

-- the lowest edge of a set whose flow allows a carry of that demand, a number that no set has where there is none; and of a set's edges, the marked first, among
-- so many edges
unfoldable pub lowest_fit_by : List ℕ → ℕ → ℕ → ℕ → ℕ
lowest_fit_by flows marks demand set = lowest (λ e. both (has_bit set e) (flow_fits (has_bit marks e) (get_or flows e 0) demand)) 0 set_width

unfoldable pub chosen_by : List ℕ → ℕ → ℕ → ℕ → ℕ → ℕ
chosen_by flows marks edges demand set =
    pick (ltb (lowest_fit_by flows marks demand (common set marks)) edges) (lowest_fit_by flows marks demand (common set marks)) (lowest_fit_by flows marks demand set)

-- an edge that such a search gives, or none: no set has more numbers
unfoldable pub fit_of : ℕ → Option ℕ
fit_of e = pick (ltb e set_width) (Some e) None

-- what the search leans on: the sets are those of the lists, each terminal is at a vertex and needs something, and the places past the edges hold no flow
pub record Searched (net : Network) (entering flows : List ℕ) (positive : ℕ) (places : List ℕ) : Type 0 where
  pub enter : Incident net.heads entering
  pub is_positive : PositiveSet flows positive
  pub all : length flows ≡ max_edges
  pub few : net.edges ≤ max_edges
  pub past : (e : ℕ) → net.edges ≤ e → get_or flows e 0 ≡ 0
  pub placed : (i : ℕ) → i < net.terminals → get_or places i 0 < max_vertices
  pub needs : (i : ℕ) → i < net.terminals → 0 < get_or net.demands i 0

-- the search may go on at terminal i: no lower one has an open carry
pub record Resumes (net : Network) (flows : List ℕ) (marks : ℕ) (places : List ℕ) (i : ℕ) : Type 0 where
  pub inside : i ≤ net.terminals
  pub none_below : (j : ℕ) → j < i → has_open_in net flows marks places j ≡ false
