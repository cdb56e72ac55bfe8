-- The edge of the code is that of its step, so both sides compare one number with the count of edges.
use Rattle.move_turn.proofs.on_board.Goals as goal

pub returns : goal.returns
returns c = cc
