-- The board is read, the call is made, and where it is accepted its board is stored.
use mathlib.Core.Path.{◌∙◌}
use Rattle.move_cycle.specs.Steps.{steps_of}
use Rattle.move_turn.specs.Turns.{turn_call}
use Rattle.boundary.proofs.Calls.{called}
use Rattle.boundary.proofs.Kept.{turn_keeps}
use Rattle.boundary.proofs.vulprow_parts_turn.Goals as goal

pub returns : goal.returns
returns c =
    let args = c.args in
    let gave = c.turn-turned.ensures in
    let stored = c.store_given.ensures in
    let all = called (λ b. turn_call b (steps_of args.steps.now)) (turn_keeps (steps_of args.steps.now)) args.numbers.now args.edges.now args.terminals.now _ args.journal.now _ c.board_in-board.ensures _ gave.journal_after_2
    _ gave.journal_after in record {
      value = stored.value ∙ all.0;
      journal_after = stored.marks_after _ ∙ all.1;
    }
