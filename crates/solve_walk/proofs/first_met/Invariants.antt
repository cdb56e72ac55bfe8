-- `i` steps have been passed, and what is left to pass is the rest of the search.
use mathlib.Core.Path.{◌≡◌}
use Prim.Native.Nat.{◌+◌}
use lib.ListN.{take, drop}
use Rattle.lists.specs.Lists.{index_of}
use Rattle.move_cycle.specs.Steps.{code_steps}
use Rattle.solve_walk.specs.Walk.{starts_of}
use Rattle.solve_walk.proofs.first_met.Given as goal

abbrev pub invariant-loop-i : goal.invariant-loop-i
invariant-loop-i l =
    let starts = starts_of l.tails l.heads (code_steps (take l.way.count l.way.steps)) in
    l.i + index_of l.v (drop l.i starts) ≡ index_of l.v starts
