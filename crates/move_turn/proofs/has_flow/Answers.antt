-- The flow is read at the edge of the step, and both sides ask whether it is above 0.
use Rattle.move_turn.proofs.has_flow.Goals as goal

pub returns : goal.returns
returns c = cc
