-- While no edge passed leaves v, the edges passed and the count over those left make the count over the whole walk.
use mathlib.Core.Path.{◌≡◌}
use Prim.Native.Nat.{◌+◌}
use lib.ListN.{drop}
use Rattle.graph_cancel.specs.Cycles.{since}
use Rattle.graph_cancel.proofs.since.Given as goal

abbrev pub invariant-loop-i : goal.invariant-loop-i
invariant-loop-i l = l.i + since l.tails l.v (drop l.i l.walk) ≡ since l.tails l.v l.walk
