-- In each column, the passes left over the bitsets as they are give all passes over the first bitsets; after a pass
-- that changed nothing, none of them matters.
use mathlib.Core.Path.{◌≡◌}
use Prim.Native.Nat.{ℕ, ◌-◌}
use Rattle.graph.specs.Graph.{passes}
use Rattle.graph.specs.Bitsets.{column}
use Rattle.graph.proofs.spread.Given as goal

abbrev pub invariant-loop : goal.invariant-loop
invariant-loop l =
    (v : ℕ) → passes l.from l.to l.flows (l.end - l.counter) (column l.bitsets v) ≡ passes l.from l.to l.flows l.end (column l.initial.bitsets v)
