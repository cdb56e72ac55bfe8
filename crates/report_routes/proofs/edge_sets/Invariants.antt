-- Each terminal that was passed has the set of its route in its place, and the places from there on hold the empty set.
use mathlib.Core.Path.{◌≡◌}
use lib.ListN.{length}
use Rattle.board.specs.Limits.{max_terminals}
use Rattle.report_routes.specs.Inner.{RouteSets}
use Rattle.report_routes.proofs.edge_sets.Given as goal

abbrev pub invariant-loop-i : goal.invariant-loop-i
invariant-loop-i l = (length l.edges ≡ max_terminals) × RouteSets l.edges l.routes.counts l.routes.rows l.i
