-- The least flow starts as that of the first edge, and the rest of the search from it finds what the whole does.
use mathlib.Core.Path.{◌≡◌}
use lib.ListN.{get_or, drop}
use Rattle.graph_cancel.specs.Lowering.{smallest}
use Rattle.graph_cancel.proofs.smallest.Given as goal

abbrev pub invariant-loop-e : goal.invariant-loop-e
invariant-loop-e l = smallest l.flows l.least (drop l.e-index l.cycle) ≡ smallest l.flows (get_or l.flows (get_or l.cycle 0 0) 0) l.cycle
