-- The loop's invariant: the rest of the bytes, read after the value so far, give what all of them give; the value of i digits is below 10 ^ i.
use mathlib.Core.Path.{◌≡◌}
use Prim.Native.Nat.{◌<◌, ◌≤◌, ◌^◌}
use lib.ListN.{length, drop}
use Rattle.decimal.specs.Decimal.{value_from}
use Rattle.decimal.proofs.scan.Given as goal

abbrev pub invariant-loop-d : goal.invariant-loop-d
invariant-loop-d l = (l.d-index ≤ length l.s) × (l.acc < 10 ^ l.d-index) × (value_from l.acc (drop l.d-index l.s) ≡ value_from 0 l.s)
