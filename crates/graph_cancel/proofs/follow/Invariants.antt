-- The walk from here on, over the edges walked so far, is the whole walk.
use mathlib.Core.Path.{◌≡◌}
use mathlib.Core.List.{[]}
use Prim.Native.Nat.{◌<◌}
use lib.ListN.{length, drop}
use Rattle.graph_cancel.specs.Cycles.{follow}
use Rattle.graph_cancel.proofs.follow.Given as goal

abbrev pub invariant-loop-at : goal.invariant-loop-at
invariant-loop-at l =
    (length l.walk ≡ length l.initial.walk)
    × (follow l.tails l.heads l.flows l.seen l.at (drop l.at l.walk) l.v ≡ follow l.tails l.heads l.flows l.seen (length l.initial.walk) [] l.start) × (l.v < length l.seen)
