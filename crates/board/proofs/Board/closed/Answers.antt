-- The empty network and the empty set are what their calls ensure; every other part is that of the closed board.
use Rattle.board.specs.Record.{closed_table}
use Rattle.board.proofs.Board.closed.Goals as goal

pub returns : goal.returns
unfolding closed_table
returns c = cc
