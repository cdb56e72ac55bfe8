-- What is left of the set has the lowest edge that fits, as long as no edge passed.
use mathlib.Core.Path.{◌≡◌, refl, sym, ap, ◌∙◌}
use mathlib.Core.Bool.{false}
use native.Mathlib.Omega.{arith}
use borrow.Author.Rules.{rules}
use Rattle.sets.specs.Inner.{is_empty}
use Rattle.sets.proofs.Scan.{lowest_in_lem, dropped_less}
use Rattle.solve_carry.specs.Inner.{fit_of}
use Rattle.solve_carry.proofs.Finds.{fit_here, fit_later, fit_none}
use Rattle.solve_carry.proofs.lowest_fit.Lts as lts
use Rattle.solve_carry.proofs.lowest_fit.Tie as tie
use Rattle.solve_carry.proofs.lowest_fit.Reads as reads
use Rattle.solve_carry.proofs.lowest_fit.Goals as goal

-- where an edge of the set is looked at
abbrev Looked : Type 0
Looked = lts.After-lowest tie.the-claims reads.Pre reads.Post goal.the-invariant-loop-e goal.the-decreases-loop-e

some : (c : Looked) → is_empty c.loop-e.rest ≡ false
some c = sym c.is_empty.ensures ∙ c.loop-e-test.true

pub loop-e-init : goal.loop-e-init
loop-e-init c = (search rules, refl)

pub returns-then-fits : goal.returns-then-fits
returns-then-fits c =
    let inv = c.loop-e.invariant in
    fit_here _ _ _ _ _ c.lowest-e.ensures inv.0 (some c.before.before.before) (sym c.fits.ensures ∙ c.if-fits.true) ∙ ap fit_of inv.1

pub loop-e-smaller : goal.loop-e-smaller
loop-e-smaller c =
    rw c.drop-rest.ensures (dropped_less _ _ (lowest_in_lem _ _ c.lowest-e.ensures c.loop-e.invariant.0 (some c.before.before.before.before)))

pub loop-e-preserved : goal.loop-e-preserved
loop-e-preserved c =
    let inv = c.loop-e.invariant in
    let less = dropped_less _ _ (lowest_in_lem _ _ c.lowest-e.ensures inv.0 (some c.before.before.before.before)) in (
      rw c.drop-rest.ensures (omega (arith, less, inv.0)),
      rw c.drop-rest.ensures (fit_later _ _ _ _ _ c.lowest-e.ensures (sym c.fits.ensures ∙ c.if-fits.false) ∙ inv.1),
    )

pub returns : goal.returns
returns c =
    fit_none _ _ _ _ (sym c.is_empty.ensures ∙ c.loop-e-test.false) ∙ ap fit_of c.loop-e.invariant.1
