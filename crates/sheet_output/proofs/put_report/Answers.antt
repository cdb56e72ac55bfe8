-- The report where there is one, and else its number: then nothing was written before it.
use mathlib.Core.Path.{ap, ◌∙◌}
use native.Mathlib.Omega.{arith}
use lib.ListN.{length}
use Rattle.journal.specs.Words.{whole_of}
use Rattle.sheet_output.specs.Outputs.{number_line}
use Rattle.sheet_output.proofs.Prints.{report_refused, report_given}
use Rattle.sheet_output.proofs.put_report.Goals as goal

pub returns-in-Err : goal.returns-in-Err
returns-in-Err c =
    let put = c.put_sheet.ensures in
    let e = report_refused (whole_of c.args.board c.args.journal.now) c.args.buf.now _ c.args.at _ put.value put.buf_after c.in-Err.is in
    let line = ap number_line c.from.ensures ∙ e.0 in record {
      value = omega (arith, ap length line);
      upper_bound = omega arith;
      buf_after = c.put_number.ensures.buf_after ∙ rw (line, e.1);
    }

pub returns-in-Ok : goal.returns-in-Ok
returns-in-Ok c =
    let put = c.put_sheet.ensures in
    let e = report_given (whole_of c.args.board c.args.journal.now) c.args.buf.now _ c.args.at _ put.value put.buf_after c.in-Ok.is in record {
      value = omega (arith, e.0);
      upper_bound = omega (arith, c.in-Ok.ensures.used_le_report_bytes);
      buf_after = e.1;
    }
