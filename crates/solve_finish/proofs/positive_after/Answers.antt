-- An edge with no flow left is dropped from the set; with some left the set stays: the definition's pick.
use mathlib.Core.Path.{sym, ◌∙◌}
use borrow.Author.Tests.{eq-eqb, ne_eqb}
use Rattle.lists.proofs.Laws.{pick_yes, pick_no}
use Rattle.solve_finish.specs.Run.{positive_after}
use Rattle.solve_finish.proofs.positive_after.Goals as goal

pub returns-then-rest-eq0 : goal.returns-then-rest-eq0
unfolding positive_after
returns-then-rest-eq0 c = c.drop.ensures ∙ sym (pick_yes _ _ _ (eq-eqb _ _ c.if-rest-eq0.true))

pub returns : goal.returns
unfolding positive_after
returns c = sym (pick_no _ _ _ (ne_eqb _ _ c.if-rest-eq0.false))
