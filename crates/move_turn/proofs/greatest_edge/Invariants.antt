-- The greatest edge of the steps read so far and of those that are left is that of all.
use mathlib.Core.Path.{◌≡◌}
use lib.ListN.{drop}
use Rattle.std.specs.Prelude.{max}
use Rattle.move_cycle.specs.Steps.{steps_of}
use Rattle.move_cycle.specs.Inner.{greatest_edge}
use Rattle.move_turn.proofs.greatest_edge.Given as goal

abbrev pub invariant-loop-s : goal.invariant-loop-s
invariant-loop-s l = max l.most (greatest_edge (steps_of (drop l.s-index l.steps))) ≡ greatest_edge (steps_of l.steps)
