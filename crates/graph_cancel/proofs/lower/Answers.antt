-- The edges passed have their new flows; lowering those left by x from there ends in the flows of the definition.
use mathlib.Core.Path.{sym, ◌∙◌}
use Rattle.graph_cancel.proofs.Folds.{lowered_turn, lowered_end}
use Rattle.graph_cancel.proofs.lower.Goals as goal

pub loop-e-preserved : goal.loop-e-preserved
loop-e-preserved c =
    lowered_turn _ _ _ _ _ c.loop-e-test.true (c.put.ensures ∙ rw (c.saturating_sub.ensures, c.at_or-flow.ensures)) ∙ c.loop-e.invariant

pub returns : goal.returns
returns c = sym (lowered_end _ _ _ _ c.loop-e-test.false) ∙ c.loop-e.invariant
