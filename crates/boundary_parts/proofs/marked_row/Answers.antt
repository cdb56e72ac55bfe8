-- What is stored so far, with the values from the next edge on, is the whole row.
use mathlib.Core.Path.{ap, ◌∙◌}
use Rattle.lists.specs.Choice.{both}
use Rattle.boundary_parts.specs.Shown.{as_number}
use Rattle.boundary_parts.proofs.Loops.{filling_first, filling_more, filling_end, from_test}
use Rattle.boundary_parts.proofs.marked_row.Goals as goal

pub loop-e-init : goal.loop-e-init
loop-e-init c = filling_first _ _

pub loop-e-preserved : goal.loop-e-preserved
loop-e-preserved c =
    let loop = c.loop-e in
    let is_marked = c.from.ensures ∙ from_test _ ∙ ap as_number (c.and.ensures ∙ ap (both _) c.has.ensures) in
    filling_more _ _ loop.row _ _ c.loop-e-test.true is_marked loop.invariant

pub returns : goal.returns
returns c = filling_end _ _ _ _ c.loop-e-test.false c.loop-e.invariant
