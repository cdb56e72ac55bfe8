-- The board is read, the call is made, and where it is accepted its board is stored.
use mathlib.Core.Path.{ap, ◌∙◌}
use Rattle.std.specs.Prelude.{Ok, Err}
use Rattle.solve_finish.specs.Finishes.{Finished, finish_call}
use Rattle.boundary.proofs.Calls.{stored-memory, called}
use Rattle.boundary.proofs.Kept.{ended_by, ending, finish_keeps}
use Rattle.boundary.proofs.vulprow_parts_finish.Goals as goal

pub returns-in-Ok : goal.returns-in-Ok
returns-in-Ok c =
    let args = c.args in
    let is = c.board_in-board.ensures in
    let gave = c.in-Ok.ensures in
    let kept = c.store.ensures in
    let all = called ending finish_keeps args.numbers.now args.edges.now args.terminals.now _ args.journal.now _ is _ gave.journal_after_2
    (Ok c.in-Ok.finished.board) (ap ended_by gave.journal_after) in record {
      value = all.0;
      count_after = ap (λ (f : Finished). f.count) (gave.journal_after ∙ ap finish_call (is args.journal.now));
      journal_after = stored-memory _ _ _ _ _ _ kept.numbers_after kept.edges_after kept.terminals_after kept.marks_after ∙ all.1;
    }

pub returns-in-Err : goal.returns-in-Err
returns-in-Err c =
    let args = c.args in
    let is = c.board_in-board.ensures in
    let gave = c.in-Err.ensures in
    let all = called ending finish_keeps args.numbers.now args.edges.now args.terminals.now _ args.journal.now _ is _ gave.journal_after_2
    (Err c.in-Err.refusal) (ap ended_by gave.journal_after) in record {
      value = c.from.ensures ∙ all.0;
      count_after = ap (λ (f : Finished). f.count) (gave.journal_after ∙ ap finish_call (is args.journal.now));
      journal_after = all.1;
    }
