-- The numbers of the move, and the bytes of its steps.
use mathlib.Core.Path.{ap, ◌∙◌}
use Rattle.solve_next.specs.Advices.{Advice}
use Rattle.boundary_parts.specs.Shown.{advice_numbers, advice_bytes}
use Rattle.boundary.proofs.show_hint.Goals as goal

pub returns : goal.returns
returns c = record {
  parts_after = ap (λ (a : Advice). advice_numbers a) c.from-numbers.ensures;
  steps_after = c.step_bytes.ensures ∙ ap (λ (a : Advice). advice_bytes a) c.from-numbers.ensures;
}
