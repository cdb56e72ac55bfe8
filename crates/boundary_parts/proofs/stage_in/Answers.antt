-- The stage is the memory's where it begins with the version.
use mathlib.Core.Path.{sym}
use borrow.Author.Tests.{eq-eqb, ne_eqb}
use Rattle.lists.proofs.Laws.{pick_yes, pick_no}
use Rattle.boundary_parts.specs.Memory.{stage_read}
use Rattle.boundary_parts.proofs.stage_in.Goals as goal

pub returns-then-first-eq-VERSION : goal.returns-then-first-eq-VERSION
unfolding stage_read
returns-then-first-eq-VERSION c = sym (pick_yes _ _ _ (eq-eqb _ _ c.if-first-eq-VERSION.true))

pub returns-else-first-eq-VERSION : goal.returns-else-first-eq-VERSION
unfolding stage_read
returns-else-first-eq-VERSION c = sym (pick_no _ _ _ (ne_eqb _ _ c.if-first-eq-VERSION.false))
