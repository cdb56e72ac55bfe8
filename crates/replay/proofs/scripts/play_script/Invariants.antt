-- `scripts::play_script` is safe and ends. The measure is how many bytes are left.
use Prim.Native.Nat.{◌≤◌}
use Rattle.replay.proofs.scripts.play_script.Given as goal

abbrev pub invariant-loop-left : goal.invariant-loop-left
invariant-loop-left l = l.left ≤ l.initial.left

abbrev pub decreases-loop-left : goal.decreases-loop-left
decreases-loop-left l = l.left
