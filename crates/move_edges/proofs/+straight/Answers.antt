-- Each case of the code is the case of `straight_by` that the laws state; the count of vertices left falls at the call.
use mathlib.Core.Path.{sym, ◌∙◌}
use Rattle.move_edges.proofs.Ways.{by_none, by_end, by_parts, by_on}
use Rattle.move_edges.proofs.+straight.Goals as goal

pub returns-then-left-eq0 : goal.returns-then-left-eq0
returns-then-left-eq0 t c = by_none _ _ _ _ _ c.if-left-eq0.true

pub returns-then-is_empty : goal.returns-then-is_empty
returns-then-is_empty t c =
    by_end _ _ _ _ _ c.touching-out.ensures _ c.if-left-eq0.false (sym c.is_empty.ensures ∙ c.if-is_empty.true)

pub returns-then-not-is_empty : goal.returns-then-not-is_empty
returns-then-not-is_empty t c =
    by_parts _ _ _ _ _ c.touching-out.ensures _ _ (sym c.is_empty.ensures ∙ c.if-is_empty.false) c.lowest-e.ensures
    c.drop-others.ensures _ c.if-left-eq0.false (sym c.is_empty-2.ensures ∙ c.if-not-is_empty.true)

pub returns : goal.returns
returns t c =
    c.straight.ensures
    ∙ rw c.at_or-next.ensures
    (by_on _ _ _ _ _ c.touching-out.ensures _ _ (sym c.is_empty.ensures ∙ c.if-is_empty.false) c.lowest-e.ensures
    c.drop-others.ensures _ c.if-left-eq0.false (sym c.is_empty-2.ensures ∙ c.if-not-is_empty.false))
