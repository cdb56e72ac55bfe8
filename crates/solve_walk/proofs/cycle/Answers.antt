-- A walk of no steps has met no vertex, and the walk down from the source that starts so is the definition; the cycle is the part of it since the vertex met again.
use mathlib.Core.Path.{ap, ◌∙◌}
use Prim.Native.Nat.{ℕ}
use lib.ListN.{drop}
use Rattle.move_cycle.specs.Steps.{code_steps}
use Rattle.solve_walk.specs.Walk.{cycle_of, packed}
use Rattle.solve_walk.specs.Inner.{gone}
use Rattle.solve_walk.proofs.Charts.{seen_none}
use Rattle.solve_walk.proofs.cycle.Goals as goal

pub down_walk-requires-clause-seen : goal.down_walk-requires-clause-seen
unfolding code_steps
down_walk-requires-clause-seen c = rw c.none.ensures (seen_none _ _)

pub returns : goal.returns
unfolding cycle_of code_steps
returns c =
    c.walk_from.ensures
    ∙ ap packed (ap (λ (k : ℕ). drop k (gone c.down_walk.new.way)) c.first_met-from.ensures.value ∙ c.down_walk.ensures.cycle)
