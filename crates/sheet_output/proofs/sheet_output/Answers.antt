-- The report of the finished board, or the number of the refusal.
use mathlib.Core.Path.{ap, ◌∙◌}
use mathlib.Core.List.{List}
use Prim.Native.Nat.{ℕ}
use native.Mathlib.Omega.{arith}
use lib.ListN.{length}
use lib.Seq.{sets}
use Rattle.sheet_output.specs.Outputs.{number_line}
use Rattle.sheet_output.proofs.sheet_output.Goals as goal

pub returns-in-Ok : goal.returns-in-Ok
returns-in-Ok c =
    let gave = c.in-Ok.ensures in
    let put = c.put_report.ensures in record {
      value = omega (arith, put.value, ap length gave.value);
      upper_bound = omega (arith, put.upper_bound);
      out_after = put.buf_after ∙ ap (λ (l : List ℕ). sets c.args.out.now 0 l) gave.value;
      journal_after = gave.journal_after;
    }

pub returns-in-Err : goal.returns-in-Err
returns-in-Err c =
    let gave = c.in-Err.ensures in
    let put = c.put_number.ensures in
    let line = ap number_line c.from.ensures ∙ gave.value in record {
      value = omega (arith, put.value, ap length line);
      upper_bound = omega (arith, put.upper_bound);
      out_after = put.buf_after ∙ ap (λ (l : List ℕ). sets c.args.out.now 0 l) line;
      journal_after = gave.journal_after;
    }
