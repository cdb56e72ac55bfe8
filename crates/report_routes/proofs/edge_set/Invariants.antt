-- The set has the edges that were passed; those that are left make it whole.
use Rattle.report_routes.proofs.Loops.{EdgesPassed}
use Rattle.report_routes.proofs.edge_set.Given as goal

abbrev pub invariant-loop-edge : goal.invariant-loop-edge
invariant-loop-edge l = EdgesPassed l.edges l.edge-index l.set
