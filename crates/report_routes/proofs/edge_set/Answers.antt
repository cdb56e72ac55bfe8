-- The set has the edges that were passed; those that are left make it whole.
use mathlib.Core.Path.{refl, ◌∙◌}
use mathlib.Core.Logic.{inl, inr}
use Rattle.lists.proofs.Laws.{pick_yes}
use Rattle.report_routes.proofs.Loops.{set_start, set_turn, set_end}
use Rattle.report_routes.proofs.edge_set.Goals as goal
use Rattle.report_routes.proofs.edge_set.Goals.{then-e-lt-MAX_EDGES, else-e-lt-MAX_EDGES}

pub loop-edge-init : goal.loop-edge-init
loop-edge-init c = rw c.none-set.ensures (set_start _)

pub loop-edge-preserved : goal.loop-edge-preserved
loop-edge-preserved c =
    set_turn
    _
    c.loop-edge.edge-index
    c.loop-edge.set
    c.if-e-lt-MAX_EDGES.set
    c.loop-edge-test.true
    (elim c.if-e-lt-MAX_EDGES.branch [
      | then-e-lt-MAX_EDGES w ↦ inl (w.if-e-lt-MAX_EDGES.true, w.set-is ∙ w.with-set.ensures ∙ pick_yes _ _ _ refl)
      | else-e-lt-MAX_EDGES w ↦ inr (w.if-e-lt-MAX_EDGES.false, w.set-is)
    ])
    c.loop-edge.invariant

pub returns : goal.returns
returns c = set_end _ _ _ c.loop-edge-test.false c.loop-edge.invariant
