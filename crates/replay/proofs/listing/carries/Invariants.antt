-- A count of moves is at most as many as were looked at.
use Prim.Native.Nat.{◌≤◌}
use Rattle.replay.proofs.listing.carries.Given as goal

abbrev pub invariant-loop-i : goal.invariant-loop-i
invariant-loop-i l = l.count ≤ l.i
