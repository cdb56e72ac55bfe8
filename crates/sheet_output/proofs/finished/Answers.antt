-- The number of the load, the number of the finish, or the board. The words that the load emptied are those of its board, and so are those that the finish
-- leaves.
use mathlib.Core.Path.{refl}
use Rattle.std.specs.Prelude.{Ok, Err}
use Rattle.refusals.proofs.Laws.{refused, passed_on}
use Rattle.load.specs.Lent.{loaded_of}
use Rattle.solve_finish.specs.Lent.{ended_of}
use Rattle.sheet_output.proofs.Prints.{sheet_refused, sheet_unfinished, sheet_reported}
use Rattle.sheet_output.proofs.Lent.{refused_words, finish_words}
use Rattle.sheet_output.proofs.finished.Goals as goal

pub returns-in_err-board : goal.returns-in_err-board
returns-in_err-board c =
    let words = c.load.new.journal in
    let r = c.in_err-board.field-0.0 in
    let gave = c.in_err-board.ensures in
    rw (passed_on _ _ c.from_residual.ensures.1) (record {
      value = sheet_refused _ (loaded_of (Err r) words) gave.journal_after (refused r);
      journal_after = refused_words c.args.input.now words gave.journal_after_2 r gave.journal_after;
    })

pub returns-in_err-end : goal.returns-in_err-end
returns-in_err-end c =
    let words = c.load.new.journal in
    let last = c.finish.new.journal in
    let r = c.in_err-end.field-0.0 in
    let gave = c.in_ok-board.ensures in
    let made = c.in_err-end.ensures in
    rw (passed_on _ _ c.from_residual-in_err-end.ensures.1) (record {
      value = sheet_unfinished _ (loaded_of (Ok c.in_ok-board.board) words) gave.journal_after refl (ended_of c.in_ok-board.board (Err r) last) made.journal_after (refused r);
      journal_after = finish_words c.args.input.now words gave.journal_after_2 c.in_ok-board.board gave.journal_after last made.journal_after_2;
    })

pub returns : goal.returns
returns c =
    let words = c.load.new.journal in
    let last = c.finish.new.journal in
    let gave = c.in_ok-board.ensures in
    let made = c.in_ok-end.ensures in record {
      value = sheet_reported _ (loaded_of (Ok c.in_ok-board.board) words) gave.journal_after refl (ended_of c.in_ok-board.board (Ok c.in_ok-end.end) last) made.journal_after refl;
      journal_after = finish_words c.args.input.now words gave.journal_after_2 c.in_ok-board.board gave.journal_after last made.journal_after_2;
    }
