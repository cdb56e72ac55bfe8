-- Each case of the code is the case of `straight_by` that the laws state; the count of vertices left falls at the call.
use Rattle.move_edges.proofs.+straight.Given as goal

abbrev pub decreases-straight : goal.decreases-straight
decreases-straight l = l.left
