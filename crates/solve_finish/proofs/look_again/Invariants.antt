-- What is seen of the flows is right but for the edges that are left to look at.
use Rattle.sets.specs.Sets.{set_of}
use Rattle.solve_finish.proofs.Looking.{LookedBut}
use Rattle.solve_finish.proofs.look_again.Given as goal

abbrev pub invariant-loop-e : goal.invariant-loop-e
invariant-loop-e l = LookedBut l.flows l.rest l.after l.small

abbrev pub decreases-loop-e : goal.decreases-loop-e
decreases-loop-e l = set_of l.rest
