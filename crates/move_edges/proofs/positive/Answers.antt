-- The edges passed that are positive are in the set.
use Rattle.board.specs.Limits.{max_edges}
use Rattle.move_edges.proofs.Passed.{passed_none, passed_all, passed_turn}
use Rattle.move_edges.proofs.positive.Goals as goal

pub loop-e-init : goal.loop-e-init
loop-e-init c = rw c.none-m.ensures (passed_none _)

pub loop-e-preserved : goal.loop-e-preserved
loop-e-preserved c = rw c.with-m.ensures (passed_turn _ _ _ c.loop-e.invariant)

pub returns : goal.returns
returns c = passed_all _ max_edges _ _ c.loop-e-test.false c.loop-e.invariant
