-- What is left of the run over the terminals, from the amount so far, is the whole run.
use native.Mathlib.Nat.{sub-zero}
use Rattle.move_cycle.proofs.Raising.{raise_turn, raise_end}
use Rattle.move_cycle.proofs.raise.Goals as goal

pub loop-i-init : goal.loop-i-init
loop-i-init c = rw sub-zero

pub loop-i-preserved : goal.loop-i-preserved
loop-i-preserved c =
    let at_loop_test = c.loop-i-test in
    let at_loop = c.loop-i in
    rw (c.lessened-least.ensures, c.at_or-demand.ensures, c.at_or-place.ensures) (raise_turn _ _ _ _ _ _ _ _ at_loop_test.true at_loop.invariant)

pub returns : goal.returns
returns c = raise_end _ _ _ _ _ _ _ _ c.loop-i-test.false c.loop-i.invariant
