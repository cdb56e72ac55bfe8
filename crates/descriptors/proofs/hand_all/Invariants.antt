-- The session behind the first `from` bytes goes on as one that is served all of them from the start; a piece takes a byte at least, so that the bytes
-- run out.
use mathlib.Core.Path.{◌≡◌}
use Prim.Native.Nat.{◌-◌, ◌≤◌}
use lib.ListN.{length}
use Rattle.play_session.specs.Lent.{session_of}
use Rattle.descriptors.proofs.Taking.{ServedOn}
use Rattle.descriptors.proofs.hand_all.Given as goal

abbrev pub invariant-loop-from : goal.invariant-loop-from
invariant-loop-from g l =
    (l.from ≤ length l.bytes) × (length l.out ≡ length l.initial.out)
    × ServedOn (session_of l.initial.current l.initial.journal) l.bytes (session_of l.current l.journal) l.from

abbrev pub decreases-loop-from : goal.decreases-loop-from
decreases-loop-from g l = length l.bytes - l.from
