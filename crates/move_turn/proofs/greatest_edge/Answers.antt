-- The greatest edge of the steps read so far and of those that are left is that of all.
use mathlib.Core.Path.{ap, ◌∙◌}
use native.Mathlib.Omega.{arith}
use Rattle.graph_flows.specs.Trails.{edge_of}
use Rattle.move_turn.proofs.Decoding.{greatest_more, greatest_all}
use Rattle.move_turn.proofs.greatest_edge.Goals as goal

pub loop-s-init : goal.loop-s-init
loop-s-init c = omega arith

pub loop-s-preserved : goal.loop-s-preserved
loop-s-preserved c =
    greatest_more _ _ _ _ _ c.loop-s-test.true (c.edge_of.ensures ∙ ap edge_of c.decoded.ensures) c.max-most.ensures ∙ c.loop-s.invariant

pub returns : goal.returns
returns c = greatest_all _ _ _ c.loop-s-test.false ∙ c.loop-s.invariant
