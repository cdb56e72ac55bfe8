-- For inner contracts only: sets of edges, those at each vertex and those that are wet.
use Rattle.std.specs.Prelude.{◌≡◌, List, ℕ, ◌<◌, ltb, eqb, get_or}
use Rattle.sets.specs.Sets.{none, has_bit, common}
use Rattle.board.specs.Limits.{max_vertices, max_edges}

-- the set of each vertex has the edges that have this end there
abbrev pub Incident : List ℕ → List ℕ → Type 0
Incident ends sets = (v e : ℕ) → v < max_vertices → e < max_edges → has_bit (get_or sets v none) e ≡ eqb (get_or ends e 0) v

-- the set has the wet channels
abbrev pub PositiveSet : List ℕ → ℕ → Type 0
PositiveSet flows m = (e : ℕ) → e < max_edges → has_bit m e ≡ ltb 0 (get_or flows e 0)

-- the wet channels of the set of v
abbrev pub touching_by : List ℕ → ℕ → ℕ → ℕ
touching_by sets positive v = common (get_or sets v none) positive
