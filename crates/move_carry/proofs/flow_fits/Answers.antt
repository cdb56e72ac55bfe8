-- The mark picks the test, equal to the demand or no smaller than it, in the code and in the definition.
use mathlib.Core.Path.{sym}
use Rattle.lists.proofs.Laws.{pick_yes, pick_no}
use Rattle.move_carry.specs.Opens.{flow_fits}
use Rattle.move_carry.proofs.flow_fits.Goals as goal

pub returns-then-mark : goal.returns-then-mark
unfolding flow_fits
returns-then-mark c = sym (pick_yes _ _ _ c.if-mark.true)

pub returns-else-mark : goal.returns-else-mark
unfolding flow_fits
returns-else-mark c = sym (pick_no _ _ _ c.if-mark.false)
