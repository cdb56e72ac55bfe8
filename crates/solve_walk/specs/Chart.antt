-- For inner contracts only: what the code's walk looks at besides the lists: the edges at each vertex, the positive edges and the vertices seen, as sets.
use Rattle.std.specs.Prelude.{◌≡◌, Bool, not, List, ℕ, ◌<◌, ltb, length, get_or}
use Rattle.sets.specs.Sets.{has_bit}
use Rattle.sets.specs.Inner.{is_empty, dropped, lowest_in}
use Rattle.board.specs.Limits.{max_vertices, max_edges}
use Rattle.move_edges.specs.Incidence.{Incident, PositiveSet, touching_by}
use Rattle.graph_flows.specs.Trails.{Step}
use Rattle.solve_walk.specs.Walk.{first_met}

-- the sets are those of the lists, and each end of an edge is a vertex
pub record Charted (tails heads flows leaving entering : List ℕ) (positive : ℕ) : Type 0 where
  pub leave : Incident tails leaving
  pub enter : Incident heads entering
  pub is_positive : PositiveSet flows positive
  pub all : length flows ≡ max_edges
  pub tailed : (e : ℕ) → get_or tails e 0 < max_vertices
  pub headed : (e : ℕ) → get_or heads e 0 < max_vertices

-- the set has the vertices that the walk w met
abbrev pub Seen : List ℕ → List ℕ → List Step → ℕ → Type 0
Seen tails heads w seen = (v : ℕ) → v < max_vertices → has_bit seen v ≡ ltb (first_met tails heads w v) (length w)

-- `another` and `parts` by the sets
abbrev pub another_by : List ℕ → ℕ → ℕ → ℕ → ℕ
another_by edges positive v x = lowest_in (dropped (touching_by edges positive v) x)

abbrev pub parts_by : List ℕ → ℕ → ℕ → Bool
parts_by leaving positive v = not (is_empty (dropped (touching_by leaving positive v) (lowest_in (touching_by leaving positive v))))
