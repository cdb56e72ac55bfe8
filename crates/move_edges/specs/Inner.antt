-- For inner contracts only: the sets that the code looks at are those of the lists.
use Rattle.std.specs.Prelude.{◌≡◌, List, ℕ, ◌<◌, length, get_or}
use Rattle.board.specs.Limits.{max_vertices, max_edges}
use Rattle.move_edges.specs.Incidence.{Incident, PositiveSet}

-- the sets are those of the lists: the edges that leave each vertex, and the positive edges; and each edge leads to a
-- vertex
pub record ChartedOut (tails heads flows leaving : List ℕ) (positive : ℕ) : Type 0 where
  pub leave : Incident tails leaving
  pub is_positive : PositiveSet flows positive
  pub all : length flows ≡ max_edges
  pub headed : (e : ℕ) → get_or heads e 0 < max_vertices
