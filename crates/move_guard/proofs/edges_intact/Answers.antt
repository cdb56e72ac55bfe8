-- What is left of the test is the whole test, as long as no place has failed; past the edges all numbers are 0.
use mathlib.Core.Path.{◌≡◌, sym, ◌∙◌}
use native.Mathlib.Nat.{sub-zero}
use native.Mathlib.Omega.{arith}
use Rattle.lists.proofs.Laws.{all_hit, all_miss, all_end}
use Rattle.move_guard.proofs.Past.{past_edge}
use Rattle.move_guard.proofs.edges_intact.Goals as goal

pub loop-i-init : goal.loop-i-init
loop-i-init c = rw sub-zero

pub returns-then-not-edge_intact : goal.returns-then-not-edge_intact
returns-then-not-edge_intact c = all_miss _ _ _ (omega arith) (sym c.edge_intact.ensures ∙ c.if-not-edge_intact.true) ∙ c.loop-i.invariant

pub loop-i-preserved : goal.loop-i-preserved
loop-i-preserved c = all_hit _ _ _ (omega arith) (sym c.edge_intact.ensures ∙ c.if-not-edge_intact.false) ∙ c.loop-i.invariant

pub loop-past-init : goal.loop-past-init
loop-past-init c =
    let same : c.loop-i.i ≡ c.args.net.now.edges = omega arith in
    rw same at c.loop-i.invariant

pub returns-then-not-edge_blank : goal.returns-then-not-edge_blank
returns-then-not-edge_blank c = all_miss _ _ _ (omega arith) (past_edge _ _ _ _ _ _ _ _ (omega arith) ∙ sym c.edge_blank.ensures ∙ c.if-not-edge_blank.true) ∙ c.loop-past.invariant

pub loop-past-preserved : goal.loop-past-preserved
loop-past-preserved c = all_hit _ _ _ (omega arith) (past_edge _ _ _ _ _ _ _ _ (omega arith) ∙ sym c.edge_blank.ensures ∙ c.if-not-edge_blank.false) ∙ c.loop-past.invariant

pub returns : goal.returns
returns c = all_end _ _ _ (omega arith) ∙ c.loop-past.invariant
