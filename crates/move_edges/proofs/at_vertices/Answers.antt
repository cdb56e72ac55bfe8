-- Of the edges passed, each vertex has in its set those that have their end there.
use Rattle.board.specs.Limits.{max_vertices, max_edges}
use Rattle.move_edges.proofs.Passed.{all_none, all_turn, all_passed}
use Rattle.move_edges.proofs.at_vertices.Goals as goal

pub loop-e-init : goal.loop-e-init
loop-e-init c = rw c.none-none.ensures (all_none _ max_vertices)

pub loop-e-preserved : goal.loop-e-preserved
loop-e-preserved c = rw c.join.ensures (all_turn _ _ _ _ c.loop-e.invariant)

pub returns : goal.returns
returns c = all_passed _ max_vertices max_edges _ _ c.loop-e-test.false c.loop-e.invariant
