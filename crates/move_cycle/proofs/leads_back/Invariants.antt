-- What is left of the test, from the vertex and the set reached, is the whole test, as long as no step has failed.
use mathlib.Core.Path.{◌≡◌}
use lib.ListN.{drop}
use Rattle.sets.specs.Sets.{none}
use Rattle.move_cycle.specs.Steps.{code_steps, leads_back}
use Rattle.move_cycle.proofs.leads_back.Given as goal

abbrev pub invariant-loop-s : goal.invariant-loop-s
invariant-loop-s l = leads_back l.tails l.heads l.r l.seen l.v (code_steps (drop l.s-index l.steps)) ≡ leads_back l.tails l.heads l.r none l.r (code_steps l.steps)
