-- What is left of the run over the steps, from the amount so far, is the whole run.
use mathlib.Core.Path.{refl}
use Rattle.move_cycle.proofs.Raising.{amount_turn, amount_end}
use Rattle.move_cycle.proofs.least_allowed.Goals as goal

pub loop-s-init : goal.loop-s-init
loop-s-init c = refl

pub loop-s-preserved : goal.loop-s-preserved
loop-s-preserved c =
    let at_loop_test = c.loop-s-test in
    let at_loop = c.loop-s in
    amount_turn _ _ _ _ _ _ _ _ _ _ at_loop_test.true c.allowed-a.ensures at_loop.invariant

pub returns : goal.returns
returns c = amount_end _ _ _ _ _ _ _ _ _ c.loop-s-test.false c.loop-s.invariant
