-- The edges passed have their new flows; lowering those left by x from there ends in the flows of the definition.
use mathlib.Core.Path.{◌≡◌}
use lib.ListN.{drop}
use Rattle.graph_cancel.specs.Lowering.{lowered}
use Rattle.graph_cancel.proofs.lower.Given as goal

abbrev pub invariant-loop-e : goal.invariant-loop-e
invariant-loop-e l = lowered l.flows l.x (drop l.e-index l.cycle) ≡ lowered l.initial.flows l.x l.cycle
