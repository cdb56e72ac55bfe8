-- In each column, the rest of the pass over the bitsets as they are gives the whole pass over the first bitsets;
-- bitsets that have not changed are the first.
use mathlib.Core.Path.{◌≡◌}
use mathlib.Core.Bool.{false}
use Prim.Native.Nat.{ℕ, ◌-◌}
use lib.ListN.{length}
use Rattle.graph.specs.Graph.{pass}
use Rattle.graph.specs.Bitsets.{column}
use Rattle.graph.proofs.pass.Given as goal

abbrev pub invariant-loop-e : goal.invariant-loop-e
invariant-loop-e l =
    ((v : ℕ) → pass l.from l.to l.flows l.e (length l.flows - l.e) (column l.bitsets v) ≡ pass l.from l.to l.flows 0 (length l.flows) (column l.initial.bitsets v))
    × (l.any_changed ≡ false → l.bitsets ≡ l.initial.bitsets)
