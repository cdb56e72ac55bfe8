-- What is found so far and what is left of the edges to look at have the fresh edges between them.
use mathlib.Core.Path.{sym, ◌∙◌}
use Prim.Native.Nat.{◌<◌, ◌^◌}
use native.Mathlib.Omega.{arith}
use borrow.Author.Tests.{eqb-true}
use Rattle.sets.specs.Inner.{set_width}
use Rattle.sets.proofs.Scan.{has_inside, lowest_in_lem, dropped_less}
use Rattle.move_edges.proofs.Gathering.{found_none, found_turn, found_end}
use borrow.Author.Rules.{rules}
use Rattle.move_edges.proofs.fresh_by.Goals as goal

pub loop-e-init : goal.loop-e-init
loop-e-init c =
    let positive = c.args.positive in
    let fits : positive < 2 ^ set_width = search rules in
    (search rules, rw c.none-m.ensures (found_none _ positive _ fits _ c.without-rest.ensures))

pub with-m-requires : goal.with-m-requires
with-m-requires c =
    let inv = c.loop-e.invariant in
    has_inside _ _ inv.0 (lowest_in_lem _ _ c.lowest-e.ensures inv.0 (sym c.is_empty.ensures ∙ c.loop-e-test.true))

pub loop-e-smaller : goal.loop-e-smaller
loop-e-smaller c =
    let inv = c.loop-e.invariant in
    rw c.drop-rest.ensures
    (dropped_less _ _ (lowest_in_lem _ _ c.lowest-e.ensures inv.0 (sym c.is_empty.ensures ∙ c.loop-e-test.true)))

pub loop-e-preserved : goal.loop-e-preserved
loop-e-preserved c =
    let inv = c.loop-e.invariant in
    let has = lowest_in_lem _ _ c.lowest-e.ensures inv.0 (sym c.is_empty.ensures ∙ c.loop-e-test.true) in
    let less = dropped_less _ _ has in (
      rw c.drop-rest.ensures (omega (arith, less, inv.0)),
      rw (c.drop-rest.ensures, c.with-m.ensures, c.singular_by-joins.ensures) (found_turn _ _ _ _ _ has inv.1),
    )

pub returns : goal.returns
returns c =
    let over = eqb-true _ _ (sym c.is_empty.ensures ∙ c.loop-e-test.false) in
    found_end _ _ _ _ over c.loop-e.invariant.1
