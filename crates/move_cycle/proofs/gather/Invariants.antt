-- What is left to gather, into the set gathered so far, gives the whole set.
use mathlib.Core.Path.{◌≡◌}
use lib.ListN.{drop}
use Rattle.sets.specs.Sets.{none}
use Rattle.move_cycle.specs.Steps.{code_steps, gather}
use Rattle.move_cycle.proofs.gather.Given as goal

abbrev pub invariant-loop-s : goal.invariant-loop-s
invariant-loop-s l = gather l.ups l.m (code_steps (drop l.s-index l.steps)) ≡ gather l.ups none (code_steps l.steps)
