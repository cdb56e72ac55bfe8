-- The report is to be whole, at the front of the buffer.
use mathlib.Core.Path.{◌∙◌}
use Rattle.journal.specs.Words.{whole_of}
use Rattle.report.proofs.Answers.{sheet_call_lem, sheet_buffer}
use Rattle.report.proofs.sheet.Goals as goal

pub returns : goal.returns
returns c =
    let args = c.args in
    let board = whole_of args.board args.journal.now in record {
      value = c.put_sheet.ensures.value ∙ sheet_call_lem board args.buf.now;
      buf_after = c.put_sheet.ensures.buf_after ∙ sheet_buffer board args.buf.now;
    }
