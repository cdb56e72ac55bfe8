-- For inner contracts only: a walk in a record.
use Rattle.std.specs.Prelude.{◌≡◌, List, ℕ, ◌≤◌, take, drop}
use Rattle.board.specs.Limits.{max_vertices}
use Rattle.graph_flows.specs.Trails.{Step}
use Rattle.move_cycle.specs.Steps.{code_steps}
use Rattle.solve_walk.specs.declared.Walk.{Walk}
use Rattle.solve_walk.specs.declared.Way.{Way}
use Rattle.solve_walk.specs.Walk.{first_met}

-- the steps that a walk in a record holds
abbrev pub walked : Walk → List Step
walked t = code_steps (take t.count t.steps)

-- the steps that a walk so far holds
abbrev pub gone : Way → List Step
gone t = code_steps (take t.count t.steps)

-- a walk stopped with this cycle: its steps since the vertex that it met again
pub record StopsWith (tails heads : List ℕ) (w : List Step) (r : Way) : Type 0 where
  pub cycle : drop (first_met tails heads (gone r) r.vertex) (gone r) ≡ w
  pub short : r.count ≤ max_vertices
