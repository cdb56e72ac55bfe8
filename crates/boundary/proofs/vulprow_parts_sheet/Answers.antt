-- What the call ensures on the board that is read.
use mathlib.Core.Path.{ap, ◌∙◌}
use lib.ListN.{length}
use Rattle.board.specs.Whole.{Board}
use Rattle.text.specs.Results.{Written}
use Rattle.report.specs.Reports.{sheet_call, sheeted}
use Rattle.boundary.proofs.vulprow_parts_sheet.Goals as goal

pub returns : goal.returns
returns c =
    let args = c.args in
    let buf = args.buf.now in
    let is = c.board_in-board.ensures args.journal.now in
    let call = c.sheet-sheet.ensures.value ∙ ap (λ (b : Board). sheet_call b (length buf)) is in record {
      value = c.store_used.ensures.value ∙ ap (λ (w : Written). w.answer) call;
      used_after = c.store_used.ensures.used_after ∙ ap (λ (w : Written). w.used) call;
      buf_after = c.sheet-sheet.ensures.buf_after ∙ ap (λ (b : Board). sheeted b buf) is;
    }
