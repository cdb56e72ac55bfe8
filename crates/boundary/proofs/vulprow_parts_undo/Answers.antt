-- The board is read, the call is made, and where it is accepted its board is stored.
use mathlib.Core.Path.{◌∙◌}
use Rattle.move_undo.specs.Undone.{undo_call}
use Rattle.boundary.proofs.Calls.{called}
use Rattle.boundary.proofs.Kept.{undo_keeps}
use Rattle.boundary.proofs.vulprow_parts_undo.Goals as goal

pub returns : goal.returns
returns c =
    let args = c.args in
    let gave = c.undo-back.ensures in
    let stored = c.store_given.ensures in
    let all = called (undo_call) (undo_keeps) args.numbers.now args.edges.now args.terminals.now _ args.journal.now _ c.board_in-board.ensures _ gave.journal_after_2
    _ gave.journal_after in record {
      value = stored.value ∙ all.0;
      journal_after = stored.marks_after _ ∙ all.1;
    }
