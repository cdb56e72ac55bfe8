-- The closed board begins with 0, any other with the version.
use mathlib.Core.Path.{sym}
use borrow.Author.Tests.{eq-eqb, ne_eqb}
use Rattle.lists.proofs.Laws.{pick_yes, pick_no}
use Rattle.boundary_parts.specs.Memory.{version_of}
use Rattle.boundary_parts.proofs.version_of.Goals as goal

pub returns-then-stage-eq-CLOSED : goal.returns-then-stage-eq-CLOSED
unfolding version_of
returns-then-stage-eq-CLOSED c = sym (pick_yes _ _ _ (eq-eqb _ _ c.if-stage-eq-CLOSED.true))

pub returns-else-stage-eq-CLOSED : goal.returns-else-stage-eq-CLOSED
unfolding version_of
returns-else-stage-eq-CLOSED c = sym (pick_no _ _ _ (ne_eqb _ _ c.if-stage-eq-CLOSED.false))
