-- The set of the edges passed, and what the edges left would add, is the whole set.
use mathlib.Core.Path.{◌≡◌}
use Prim.Native.Nat.{ℕ}
use lib.Dec.{ltb}
use lib.ListN.{length}
use Rattle.graph.specs.Graph.{onward}
use Rattle.graph.specs.Bitsets.{column}
use Rattle.graph_cancel.proofs.Bitsets.{found}
use Rattle.graph_cancel.proofs.on_cycles.Given as goal

abbrev pub invariant-loop-e : goal.invariant-loop-e
invariant-loop-e l =
    (v : ℕ) → found l.tails l.heads l.flows l.bitsets l.on l.e v ≡ ltb (onward l.tails l.heads l.flows (column l.bitsets v) v) (length l.flows)
