-- The edges of what is left of the two sets have their old flow, and all others their new one. No old flow is large, so the sums do not wrap.
use mathlib.Core.Path.{sym, ap, ◌∙◌}
use borrow.Author.Tests.{eqb-true}
use Rattle.sets.proofs.Scan.{lowest_in_lem, dropped_less}
use Rattle.move_cycle.specs.Shifts.{shifted_at}
use Rattle.move_cycle.proofs.Shifting.{but_both, but_one, but_none}
use borrow.Author.Rules.{rules}
use Rattle.move_cycle.proofs.shift.Goals as goal

pub loop-e-init : goal.loop-e-init
loop-e-init c = but_both _ _ _ _ _ (search rules) c.joined-rest.ensures

pub shifted_at-new-requires : goal.shifted_at-new-requires
shifted_at-new-requires c =
    let pre = c.requires in
    let some = sym c.is_empty.ensures ∙ c.loop-e-test.true in
    let has = lowest_in_lem _ _ c.lowest-e.ensures c.loop-e.invariant.fits some in
    (pre.x_le_max_total, rw (c.at_or-f.ensures, c.loop-e.invariant.old _ has) (pre.at_most c.lowest-e.result))

pub loop-e-smaller : goal.loop-e-smaller
loop-e-smaller c =
    let some = sym c.is_empty.ensures ∙ c.loop-e-test.true in
    rw c.drop-rest.ensures (dropped_less _ _ (lowest_in_lem _ _ c.lowest-e.ensures c.loop-e.invariant.fits some))

pub loop-e-preserved : goal.loop-e-preserved
loop-e-preserved c =
    let some = sym c.is_empty.ensures ∙ c.loop-e-test.true in
    let has = lowest_in_lem _ _ c.lowest-e.ensures c.loop-e.invariant.fits some in
    rw (c.drop-rest.ensures, c.put.ensures)
    (but_one _ _ _ _ _ _ _ _ has (c.shifted_at-new.ensures ∙ ap (shifted_at _ _ _ _) c.at_or-f.ensures) c.loop-e.invariant)

pub shape_of-flows : goal.shape_of-flows
shape_of-flows c = c.loop-e.invariant.long

pub returns : goal.returns
returns c =
    let none = eqb-true _ 0 (sym c.is_empty.ensures ∙ c.loop-e-test.false) in
    but_none _ _ _ _ _ _ none c.loop-e.invariant
