-- The sum so far and what is left of the sum make the whole sum; no demand is great, so that nothing wraps.
use mathlib.Core.Path.{◌≡◌}
use Prim.Native.Nat.{◌+◌, ◌-◌, ◌*◌, ◌≤◌}
use Rattle.lists.specs.Lists.{total}
use Rattle.board.specs.Limits.{max_flow}
use Rattle.report_routes.proofs.Loops.{part}
use Rattle.report_routes.proofs.load.Given as goal

abbrev pub invariant-loop-i : goal.invariant-loop-i
invariant-loop-i l =
    (l.sum ≤ l.i * max_flow) × (l.sum + total (part l.routes l.demands l.e) l.i (l.terminals - l.i) ≡ total (part l.routes l.demands l.e) 0 l.terminals)
