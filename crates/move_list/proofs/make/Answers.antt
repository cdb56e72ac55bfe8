-- A hint leaves the board and the words as they are, and its move is noted.
use Rattle.move_list.proofs.Going.{hint_made}
use Rattle.move_list.proofs.make.Goals as goal

pub returns-in-Ok : goal.returns-in-Ok
returns-in-Ok c =
    let all = hint_made c.args.board.now c.args.journal.now c.args.steps.now _ _ _ _ _ _ c.in-Hint.is c.in-Ok.ensures c.note.ensures.buf_after c.note.ensures.value in record {
      value = all.0;
      journal_after = all.1.0;
      hints_after = all.1.1;
    }

pub returns-in-Err : goal.returns-in-Err
returns-in-Err c =
    let all = hint_made c.args.board.now c.args.journal.now c.args.steps.now _ _ _ _ _ _ c.in-Hint.is c.in-Err.ensures c.note-in-Err.ensures.buf_after c.note-in-Err.ensures.value in record {
      value = all.0;
      journal_after = all.1.0;
      hints_after = all.1.1;
    }
