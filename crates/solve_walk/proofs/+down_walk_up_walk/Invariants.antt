-- Each case of the code is the case of the walk that the laws state; the count of vertices left falls at each call.
use Rattle.solve_walk.proofs.+down_walk_up_walk.Given as goal

abbrev pub decreases-down_walk : goal.decreases-down_walk
decreases-down_walk l = l.left

abbrev pub decreases-up_walk : goal.decreases-up_walk
decreases-up_walk l = l.left
