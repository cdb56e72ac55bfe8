-- The rounds left over the flows as they are give all rounds over the first flows; where no vertex is on a cycle, no round changes them.
use mathlib.Core.Path.{◌≡◌}
use Prim.Native.Nat.{◌-◌}
use Rattle.graph_cancel.specs.Cancelling.{cancelled, acyclic_flows}
use Rattle.graph_cancel.proofs.cancel_all.Given as goal

abbrev pub invariant-loop : goal.invariant-loop
invariant-loop l = cancelled l.tails l.heads l.n (l.end - l.counter) l.flows ≡ acyclic_flows l.tails l.heads l.n l.initial.flows
