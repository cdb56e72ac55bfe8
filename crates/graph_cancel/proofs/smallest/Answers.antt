-- The least flow starts as that of the first edge, and the rest of the search from it finds what the whole does.
use mathlib.Core.Path.{sym, ◌∙◌}
use Rattle.graph_cancel.proofs.Folds.{smallest_turn, smallest_end}
use Rattle.graph_cancel.proofs.smallest.Goals as goal

pub loop-e-preserved : goal.loop-e-preserved
loop-e-preserved c =
    smallest_turn _ _ _ _ _ c.loop-e-test.true (c.min-least.ensures ∙ rw c.at_or-flow.ensures) ∙ c.loop-e.invariant

pub returns : goal.returns
returns c = sym (smallest_end _ _ _ _ c.loop-e-test.false) ∙ c.loop-e.invariant
