-- What is left of the steps, written into the buffer as it is now, gives all of them written into the first buffer.
use mathlib.Core.Path.{refl}
use native.Mathlib.Omega.{arith}
use Rattle.play_lines.proofs.MovesWritten.{steps_turned, steps_done}
use Rattle.play_lines.proofs.put_pairs.Goals as goal

pub loop-step-init : goal.loop-step-init
loop-step-init c = (omega arith, record { size = refl; gives = refl })

pub loop-step-preserved : goal.loop-step-preserved
loop-step-preserved c = (
  omega arith,
  steps_turned _ _ c.loop-step.invariant.1 c.loop-step-test.true _ _ c.put_pair-to.ensures.buf_after c.put_pair-to.ensures.value,
)

pub returns : goal.returns
returns c =
    let d = steps_done _ _ c.loop-step.invariant.1 c.loop-step-test.false in record {
      value = d.0;
      upper_bound = omega arith;
      buf_after = d.1;
    }
