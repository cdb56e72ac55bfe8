-- The vertices passed are alone in their bitsets.
use mathlib.Core.Path.{◌≡◌}
use Prim.Native.Nat.{ℕ, ◌<◌}
use lib.ListN.{get_or}
use Rattle.sets.specs.Sets.{with_bit}
use Rattle.graph.proofs.clear.Given as goal

abbrev pub invariant-loop-v : goal.invariant-loop-v
invariant-loop-v l = (k : ℕ) → k < l.v → get_or l.bitsets k 0 ≡ with_bit 0 k
