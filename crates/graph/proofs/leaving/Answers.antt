-- For each vertex, the edges left, collected into its set, give the whole set of the edges that lead on from it.
use Rattle.sets.proofs.Bits.{collect_end}
use Rattle.graph.proofs.Onwards.{collect_left}
use native.Mathlib.Omega.{arith}
use Rattle.graph.proofs.leaving.Goals as goal

pub loop-e-preserved : goal.loop-e-preserved
loop-e-preserved c =
    λ v h. collect_left _ _ _ _ _ _ c.loop-e-test.true (c.leave.ensures v (omega arith)) (c.loop-e.invariant v h)

pub returns : goal.returns
returns c = λ v h. collect_end _ _ _ _ _ c.loop-e-test.false (c.loop-e.invariant v (omega arith))
