-- For inner contracts only: steps that sets have room for, their greatest edge, and flows that are small.
use Rattle.std.specs.Prelude.{List, [], ◌∷◌, ℕ, ◌≤◌, ◌<◌, ltb, get_or, length}
use Rattle.lists.specs.Choice.{pick}
use Rattle.graph_flows.specs.Trails.{Step, edge_of}
use Rattle.sets.specs.Inner.{set_width}
use Rattle.move_cycle.specs.Steps.{code_step}

-- no flow is above c
abbrev pub AtMost : ℕ → List ℕ → Type 0
AtMost c flows = (e : ℕ) → get_or flows e 0 ≤ c

-- every step's edge has a place in a set
abbrev pub InSets : List ℕ → Type 0
InSets s = (i : ℕ) → i < length s → edge_of (code_step (get_or s i 0)) < set_width

-- the greatest edge of the steps, 0 for none
unfoldable pub greatest_edge : List Step → ℕ
greatest_edge [] = 0
greatest_edge (s ∷ w) = pick (ltb (edge_of s) (greatest_edge w)) (greatest_edge w) (edge_of s)
