-- What the hint gives on the board that is read, in numbers and bytes.
use mathlib.Core.Path.{ap, ◌∙◌}
use Rattle.solve_next.specs.Advices.{Suggestion}
use Rattle.solve_next.specs.Hints.{hint_call}
use Rattle.boundary_parts.specs.Shown.{advice_numbers, advice_bytes}
use Rattle.boundary.proofs.vulprow_parts_hint.Goals as goal

pub returns-in-Ok : goal.returns-in-Ok
returns-in-Ok c =
    let hint = c.in-Ok.ensures ∙ ap hint_call (c.board_in-board.ensures c.args.journal.now) in
    let shown = c.show_hint.ensures in record {
      value = ap (λ (s : Suggestion). s.answer) hint;
      parts_after = shown.parts_after ∙ ap (λ (s : Suggestion). advice_numbers s.advice) hint;
      steps_after = shown.steps_after ∙ ap (λ (s : Suggestion). advice_bytes s.advice) hint;
    }

pub returns-in-Err : goal.returns-in-Err
returns-in-Err c =
    let hint = c.in-Err.ensures ∙ ap hint_call (c.board_in-board.ensures c.args.journal.now) in
    let shown = c.show_hint-in-Err.ensures in record {
      value = c.from.ensures ∙ ap (λ (s : Suggestion). s.answer) hint;
      parts_after = shown.parts_after ∙ ap (λ (s : Suggestion). advice_numbers s.advice) hint;
      steps_after = shown.steps_after ∙ ap (λ (s : Suggestion). advice_bytes s.advice) hint;
    }
