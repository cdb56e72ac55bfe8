-- The steps that are left, into the buffer as it is now, give the buffer with all of them.
use mathlib.Core.Path.{◌≡◌}
use Prim.Native.Nat.{◌+◌}
use lib.ListN.{drop}
use lib.Seq.{sets}
use Rattle.move_list.proofs.put_steps.Given as goal

abbrev pub invariant-loop-i : goal.invariant-loop-i
invariant-loop-i l = sets l.buf (l.k + l.i) (drop l.i l.step-items) ≡ sets l.initial.buf l.k l.step-items
