-- The loop's invariant: the digits of what is left, stored into the buffer as it is now, give what all the digits stored into the first buffer give.
use Prim.Native.Nat.{◌≤◌}
use lib.Seq.{sets}
use Rattle.decimal.specs.Decimal.{decimal}
use Rattle.decimal.proofs.Loops.{DigitsLeft}
use Rattle.decimal.proofs.write_number.Given as goal

abbrev pub invariant-loop-i : goal.invariant-loop-i
invariant-loop-i l = (l.count ≤ 10) × DigitsLeft l.buf (sets l.initial.buf l.at (decimal l.n)) l.at l.i l.rest
