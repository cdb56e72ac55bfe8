-- The sum so far and what is left of the sum make the whole sum; no demand is great, so that nothing wraps.
use mathlib.Core.Logic.{inl, inr}
use Rattle.report_routes.specs.Inner.{set_load}
use Rattle.report_routes.proofs.Loops.{load_turn, total_end}
use Rattle.report_routes.proofs.load.Goals as goal
use Rattle.report_routes.proofs.load.Goals.{then-has, else-has}

pub loop-i-preserved : goal.loop-i-preserved
loop-i-preserved c =
    let at_loop = c.loop-i in
    load_turn
    c.args.routes.now
    c.args.demands.now
    c.args.e
    c.args.terminals
    at_loop.i
    at_loop.sum
    c.if-has.sum
    _
    _
    c.loop-i-test.true
    c.has.ensures
    (elim c.if-has.branch [ then-has w ↦ inl (w.if-has.true, w.sum-is) | else-has w ↦ inr (w.if-has.false, w.sum-is) ])
    (c.requires.1 at_loop.i)
    at_loop.invariant

pub returns : goal.returns
unfolding set_load
returns c = total_end _ _ _ _ _ c.loop-i-test.false c.loop-i.invariant.1
