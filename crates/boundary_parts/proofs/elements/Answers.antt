-- What is stored and counted so far, with the elements from the next number on, is the whole list.
use mathlib.Core.Path.{refl, sym, ap, ◌∙◌}
use native.Mathlib.Omega.{arith}
use Rattle.boundary_parts.specs.Shown.{as_number}
use Rattle.boundary_parts.proofs.Loops.{listing_first, listing_more, listing_on, listing_end, from_test}
use Rattle.boundary_parts.proofs.elements.Goals as goal
use Rattle.boundary_parts.proofs.elements.Goals.{then-has, else-has}

pub loop-e-init : goal.loop-e-init
loop-e-init c = (omega arith, listing_first _ _)

pub loop-e-preserved : goal.loop-e-preserved
loop-e-preserved c =
    let loop = c.loop-e in
    elim c.if-has.branch [
      | then-has w ↦
          (let there = sym c.has.ensures ∙ w.if-has.true in
          let way = w.from.ensures ∙ from_test _ ∙ ap as_number w.has-then-has.ensures in (
            omega arith,
            rw (w.edges-is, w.ways-is, w.count-is)
                (listing_more _ _ loop.edges loop.ways _ _ _ _ there c.loop-e-test.true refl way loop.invariant.1),
          ))
      | else-has w ↦
          (let gone = sym c.has.ensures ∙ w.if-has.false in
          (omega arith, rw (w.edges-is, w.ways-is, w.count-is) (listing_on _ _ loop.edges loop.ways _ _ gone c.loop-e-test.true loop.invariant.1)))
    ]

pub returns : goal.returns
returns c =
    let all = listing_end _ _ _ _ _ _ c.loop-e-test.false c.loop-e.invariant.1 in record {
      count_value = all.0;
      edges_value = all.1.0;
      ways_value = all.1.1;
    }
