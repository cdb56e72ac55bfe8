-- What is left of the run over the steps, from the amount so far, is the whole run.
use mathlib.Core.Path.{◌≡◌}
use lib.ListN.{drop}
use Rattle.move_cycle.specs.Steps.{code_steps}
use Rattle.move_cycle.specs.Amounts.{amount_in}
use Rattle.move_cycle.proofs.least_allowed.Given as goal

abbrev pub invariant-loop-s : goal.invariant-loop-s
invariant-loop-s l =
    amount_in l.heads l.flows l.places l.demands l.terminals l.a (code_steps (drop l.s-index l.steps)) ≡ amount_in l.heads l.flows l.places l.demands l.terminals 0 (code_steps l.steps)
