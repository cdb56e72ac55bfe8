-- The walk from here on, over the edges walked so far, is the whole walk.
use mathlib.Core.Path.{◌≡◌, refl, sym, ◌∙◌}
use Prim.Native.Nat.{◌<◌, ◌-◌}
use lib.ListN.{length, length-set}
use Rattle.graph.specs.Graph.{onward}
use Rattle.graph.proofs.Onwards.{onward_made, onward_inside}
use Rattle.graph_cancel.proofs.Loops.{follow_hit, follow_on, follow_over}
use native.Mathlib.Omega.{arith}
use Rattle.graph_cancel.proofs.follow.Goals as goal

pub returns-then-count-walk : goal.returns-then-count-walk
returns-then-count-walk c =
    let loop = c.loop-at in
    let args = c.args in
    let edge : c.lowest_edge-e.result ≡ onward args.tails.now args.heads.now args.flows.now args.seen.now loop.v =
    onward_made _ _ _ _ _ c.at_or-onward.result _ c.requires.heads_in_bounds.1
    (c.at_or-onward.ensures ∙ rw c.none-none.ensures (c.leaving.ensures loop.v (omega arith))) c.lowest_edge-e.ensures in
    follow_hit _ _ _ _ loop.walk _ loop.at loop.v _ _ _ _ c.loop-at-test.true (omega arith) edge refl c.at_or-v.ensures c.since-count.ensures.value loop.invariant.1
    c.if-count-walk.true

pub loop-at-preserved : goal.loop-at-preserved
loop-at-preserved c =
    let loop = c.loop-at in
    let args = c.args in
    let edge : c.lowest_edge-e.result ≡ onward args.tails.now args.heads.now args.flows.now args.seen.now loop.v =
    onward_made _ _ _ _ _ c.at_or-onward.result _ c.requires.heads_in_bounds.1
    (c.at_or-onward.ensures ∙ rw c.none-none.ensures (c.leaving.ensures loop.v (omega arith))) c.lowest_edge-e.ensures in
    let some : 0 < length args.seen.now = omega (arith, loop.invariant.2) in (
      length-set loop.walk (loop.at - 1) _ ∙ loop.invariant.0,
      follow_on _ _ _ _ loop.walk _ loop.at loop.v _ _ _ _ c.loop-at-test.true (omega arith) edge refl c.at_or-v.ensures c.since-count.ensures.value loop.invariant.1
          c.if-count-walk.false,
      rw (c.at_or-v.ensures, edge) (onward_inside args.tails.now args.heads.now args.flows.now args.seen.now loop.v c.requires.heads_in_bounds.0 some),
    )

pub returns : goal.returns
returns c = sym (follow_over _ _ _ _ _ _ _ c.loop-at-test.false) ∙ c.loop-at.invariant.1
