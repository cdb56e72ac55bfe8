-- What is seen of the flows is right but for the edges that are left to look at.
use mathlib.Core.Path.{sym, ◌∙◌}
use borrow.Author.Tests.{eqb-true}
use Rattle.sets.proofs.Scan.{has_inside, lowest_in_lem, dropped_less}
use Rattle.solve_finish.proofs.Looking.{look_all, look_one, look_none}
use borrow.Author.Rules.{rules}
use Rattle.solve_finish.proofs.look_again.Goals as goal

pub loop-e-init : goal.loop-e-init
loop-e-init c = look_all _ _ _ (search rules) c.requires

pub with-after-requires : goal.with-after-requires
with-after-requires c =
    let fits = c.loop-e.invariant.fits in
    has_inside _ _ fits (lowest_in_lem _ _ c.lowest-e.ensures fits (sym c.is_empty.ensures ∙ c.loop-e-test.true))

pub loop-e-smaller : goal.loop-e-smaller
loop-e-smaller c =
    rw c.drop-rest.ensures
    (dropped_less _ _
    (lowest_in_lem _ _ c.lowest-e.ensures c.loop-e.invariant.fits (sym c.is_empty.ensures ∙ c.loop-e-test.true)))

pub loop-e-preserved : goal.loop-e-preserved
loop-e-preserved c =
    let inv = c.loop-e.invariant in
    let has = lowest_in_lem _ _ c.lowest-e.ensures inv.fits (sym c.is_empty.ensures ∙ c.loop-e-test.true) in
    rw (c.drop-rest.ensures, c.and-small.ensures, c.with-after.ensures, c.drop-others.ensures)
    (look_one _ _ _ _ _ _ has c.at_or-f.ensures inv)

pub returns : goal.returns
returns c =
    let over = eqb-true _ _ (sym c.is_empty.ensures ∙ c.loop-e-test.false) in
    let seen = look_none _ _ _ _ over c.loop-e.invariant in
    record { is_positive = seen.0; smalls = seen.1 }
