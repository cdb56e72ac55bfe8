-- The loop's invariant: the rest of the bytes, read after the value so far, give what all of them give; the value of i digits is below 10 ^ i.
use mathlib.Core.Path.{refl}
use Rattle.std.proofs.Common.{inl, inr}
use native.Mathlib.Omega.{arith}
use Rattle.decimal.proofs.Loops.{scan_end, scan_low, scan_high, scan_digit, ten_more, ten_bound}
use Rattle.decimal.proofs.scan.Goals as goal

pub loop-d-init : goal.loop-d-init
loop-d-init c = (omega arith, omega arith, refl)

pub returns-then-not-is_ascii_digit : goal.returns-then-not-is_ascii_digit
returns-then-not-is_ascii_digit c =
    elim c.if-not-is_ascii_digit.ensures.cases [
      | inl l ↦ scan_low _ _ _ _ c.loop-d.invariant.2 c.loop-d-test.true l
      | inr g ↦ scan_high _ _ _ _ c.loop-d.invariant.2 c.loop-d-test.true (omega arith) g
    ]

pub overflow_mul-acc : goal.overflow_mul-acc
overflow_mul-acc c = omega (arith, ten_bound c.loop-d.d-index (omega arith))

pub overflow_add-acc : goal.overflow_add-acc
overflow_add-acc c = omega (arith, ten_bound c.loop-d.d-index (omega arith))

pub loop-d-preserved : goal.loop-d-preserved
loop-d-preserved c =
    let digit = c.if-not-is_ascii_digit.ensures.cases in (
      omega arith,
      ten_more _ _ _ c.loop-d.invariant.1 (omega (arith, digit)),
      scan_digit _ _ _ _ c.loop-d.invariant.2 c.loop-d-test.true digit.0 digit.1,
    )

pub returns : goal.returns
returns c = scan_end _ _ _ _ c.loop-d.invariant.2 c.loop-d-test.false
