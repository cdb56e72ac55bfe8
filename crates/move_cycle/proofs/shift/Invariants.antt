-- The edges of what is left of the two sets have their old flow, and all others their new one. No old flow is large, so the sums do not wrap.
use Rattle.sets.specs.Sets.{set_of}
use Rattle.move_cycle.proofs.Shifting.{ShiftedBut}
use Rattle.move_cycle.proofs.shift.Given as goal

abbrev pub invariant-loop-e : goal.invariant-loop-e
invariant-loop-e l = ShiftedBut l.x l.downs l.ups l.initial.flows l.flows l.rest

abbrev pub decreases-loop-e : goal.decreases-loop-e
decreases-loop-e l = set_of l.rest
