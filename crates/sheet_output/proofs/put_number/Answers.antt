-- The digits are stored, and the line feed behind them.
use native.Mathlib.Omega.{arith}
use Rattle.sheet_output.proofs.Prints.{number_put}
use Rattle.sheet_output.proofs.put_number.Goals as goal

pub returns : goal.returns
returns c =
    let at_put_byte = c.put in
    let at_write_number = c.write_number-end in
    let p = number_put _ _ _ _ _ _ at_write_number.ensures.value at_write_number.ensures.buf_after at_put_byte.ensures in record {
      value = p.0;
      upper_bound = omega arith;
      buf_after = p.1;
    }
