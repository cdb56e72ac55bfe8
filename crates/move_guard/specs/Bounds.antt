-- For inner contracts only: what the calls lean on, of the parts of a board in play.
use Rattle.std.specs.Prelude.{◌≡◌, List, ℕ, ◌<◌, ◌≤◌, length, get_or}
use Rattle.board.specs.Limits.{max_vertices, max_edges, max_terminals, max_total}
use Rattle.board.specs.declared.Network.{Network}

-- the lists have the lengths that the code gives them
pub record ListsSized (net : Network) (flows : List ℕ) : Type 0 where
  pub tails : length net.tails ≡ max_edges
  pub heads : length net.heads ≡ max_edges
  pub demands : length net.demands ≡ max_terminals
  pub long : length flows ≡ max_edges

-- the counts are within the limits, the source, the ends of the edges and the places of the terminals are vertices, no flow and no demand is large, each terminal
-- needs something, and the places past the edges hold no flow
pub record InBounds (net : Network) (flows places : List ℕ) : Type 0 where
  pub vertices : net.vertices ≤ max_vertices
  pub edges : net.edges ≤ max_edges
  pub source : net.source < max_vertices
  pub tailed : (e : ℕ) → get_or net.tails e 0 < max_vertices
  pub headed : (e : ℕ) → get_or net.heads e 0 < max_vertices
  pub small : (e : ℕ) → get_or flows e 0 ≤ max_total
  pub asked : (i : ℕ) → get_or net.demands i 0 ≤ max_total
  pub all : length flows ≡ max_edges
  pub past : (e : ℕ) → net.edges ≤ e → get_or flows e 0 ≡ 0
  pub placed : (i : ℕ) → i < net.terminals → get_or places i 0 < max_vertices
  pub needs : (i : ℕ) → i < net.terminals → 0 < get_or net.demands i 0
