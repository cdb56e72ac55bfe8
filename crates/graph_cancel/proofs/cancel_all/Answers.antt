-- The rounds left over the flows as they are give all rounds over the first flows; where no vertex is on a cycle, no round changes them.
use mathlib.Core.Path.{sym, ◌∙◌}
use native.Mathlib.Nat.{sub-zero}
use Rattle.graph_cancel.specs.Cancelling.{acyclic_flows}
use Rattle.graph_cancel.proofs.Rounds.{round_turn, round_none, rounds_over}
use native.Mathlib.Omega.{arith}
use Rattle.graph_cancel.proofs.cancel_all.Goals as goal

pub loop-init : goal.loop-init
unfolding acyclic_flows
loop-init c = rw sub-zero

pub returns-then-n-v : goal.returns-then-n-v
returns-then-n-v c = sym (round_none _ _ _ _ _ _ _ c.cycle_vertex-v.ensures.value c.if-n-v.true) ∙ c.loop.invariant

pub loop-preserved : goal.loop-preserved
loop-preserved c =
    round_turn _ _ _ _ _ _ _ c.cycle_vertex-v.ensures.value _ _ (omega arith) c.cancel_from.ensures c.loop-test.true c.if-n-v.false ∙ c.loop.invariant

pub returns : goal.returns
returns c = sym (rounds_over _ _ _ _ _ _ c.loop-test.false) ∙ c.loop.invariant
