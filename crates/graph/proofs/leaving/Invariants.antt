-- For each vertex, the edges left, collected into its set, give the whole set of the edges that lead on from it.
use mathlib.Core.Path.{◌≡◌}
use Prim.Native.Nat.{ℕ, ◌-◌, ◌<◌}
use lib.ListN.{length, get_or}
use Rattle.sets.specs.Sets.{collect}
use Rattle.graph.specs.Graph.{leads}
use Rattle.graph.proofs.leaving.Given as goal

abbrev pub invariant-loop-e : goal.invariant-loop-e
invariant-loop-e l =
    (v : ℕ) → v < length l.initial.edges
    → collect (leads l.from l.to l.flows l.seen v) (get_or l.edges v 0) l.e (length l.flows - l.e) ≡ collect (leads l.from l.to l.flows l.seen v) 0 0 (length l.flows)
