-- `i` elements have been passed, and what is left to pass is the rest of the search.
use mathlib.Core.Path.{sym, ◌∙◌}
use native.Mathlib.Nat.{zero-add}
use native.Mathlib.Omega.{arith}
use Rattle.lists.proofs.Laws.{index_hit, index_miss, index_end}
use Rattle.lists.proofs.index_of.Goals as goal

pub loop-i-init : goal.loop-i-init
loop-i-init c = (omega arith, zero-add _)

pub returns-then-x-b : goal.returns-then-x-b
returns-then-x-b c = index_hit _ _ _ _ c.loop-i.invariant.1 c.loop-i-test.true c.if-x-b.true

pub loop-i-preserved : goal.loop-i-preserved
loop-i-preserved c = (omega arith, index_miss _ _ _ _ c.loop-i.invariant.1 c.loop-i-test.true c.if-x-b.false)

pub returns : goal.returns
returns c = omega (arith, c.loop-i.invariant.0, c.loop-i-test.false) ∙ index_end _ _ _ _ c.loop-i.invariant.1 c.loop-i-test.false
