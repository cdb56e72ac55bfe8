-- What is left of the test, from the vertex and the set reached, is the whole test, as long as no step has failed.
use mathlib.Core.Path.{sym, ◌∙◌}
use Rattle.lists.specs.Choice.{pick}
use Rattle.move_cycle.proofs.Codes.{back_elsewhere, back_twice, back_on, back_end, start_turned}
use Rattle.move_cycle.proofs.leads_back.Goals as goal
use Rattle.move_cycle.proofs.leads_back.Goals.{then-start_of-v-via-then-start_of-v, then-start_of-v-via-else-start_of-v+then-has}

pub loop-s-init : goal.loop-s-init
loop-s-init c = rw c.none-seen.ensures

pub returns-then-start_of-v : goal.returns-then-start_of-v
returns-then-start_of-v c =
    elim c.then-start_of-v.branch [
      | then-start_of-v-via-then-start_of-v w ↦ back_elsewhere _ _ _ _ _ _ _ c.loop-s-test.true (λ e. w.if-start_of-v.true (c.start_of.ensures ∙ e)) ∙ c.loop-s.invariant
      | then-start_of-v-via-else-start_of-v+then-has w ↦
          let twice = rw c.edge_of-edge.ensures at (sym w.has.ensures ∙ w.if-has.true) in
          back_twice _ _ _ _ _ _ _ c.loop-s-test.true (sym c.start_of.ensures ∙ w.if-start_of-v.false) twice ∙ c.loop-s.invariant
    ]

pub with-seen-requires : goal.with-seen-requires
with-seen-requires c =
    rw c.edge_of-edge.ensures (c.requires _ c.loop-s-test.true)

pub loop-s-preserved : goal.loop-s-preserved
unfolding pick
loop-s-preserved c =
    let starts = sym c.start_of.ensures ∙ c.if-start_of-v.false in
    let fresh = rw c.edge_of-edge.ensures at (sym c.has.ensures ∙ c.if-has.false) in
    rw (c.start_of-v.ensures, start_turned, c.with-seen.ensures, c.edge_of-edge.ensures) (back_on _ _ _ _ _ _ _ c.loop-s-test.true starts fresh) ∙ c.loop-s.invariant

pub returns : goal.returns
returns c = back_end _ _ _ _ _ _ _ c.loop-s-test.false ∙ c.loop-s.invariant
