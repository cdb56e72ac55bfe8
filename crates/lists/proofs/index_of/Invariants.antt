-- `i` elements have been passed, and what is left to pass is the rest of the search.
use mathlib.Core.Path.{◌≡◌}
use Prim.Native.Nat.{◌+◌, ◌≤◌}
use lib.ListN.{length, drop}
use Rattle.lists.specs.Lists.{index_of}
use Rattle.lists.proofs.index_of.Given as goal

abbrev pub invariant-loop-i : goal.invariant-loop-i
invariant-loop-i l = (l.i ≤ length l.s) × (l.i + index_of l.b (drop l.i l.s) ≡ index_of l.b l.s)
