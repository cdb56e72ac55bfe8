-- The loop's invariant: the digits of what is left, stored into the buffer as it is now, give what all the digits stored into the first buffer give.
use mathlib.Core.Path.{ap}
use Prim.Native.Nat.{ℕ, ◌+◌}
use native.Mathlib.Omega.{arith}
use Rattle.decimal.proofs.Laws.{decimal-length}
use Rattle.decimal.proofs.Loops.{write_begin, write_turn, write_end}
use Rattle.decimal.proofs.write_number.Goals as goal

pub loop-i-init : goal.loop-i-init
loop-i-init c = (
  omega (arith, decimal-length 9 c.args.n (omega arith), c.digit_count-count.ensures),
  write_begin _ _ _ _ c.digit_count-count.ensures,
)

pub loop-i-preserved : goal.loop-i-preserved
loop-i-preserved c = (
  c.loop-i.invariant.0,
  write_turn _ _ _ _ _ _ _ c.loop-i.invariant.1 c.loop-i-test.true c.put.ensures (omega arith),
)

pub returns : goal.returns
returns c = record {
  value = ap (λ (k : ℕ). c.args.at + k) c.digit_count-count.ensures;
  buf_after = write_end _ _ _ _ _ c.loop-i.invariant.1 c.loop-i-test.false;
  upper_bound = omega (arith, c.loop-i.invariant.0);
}
