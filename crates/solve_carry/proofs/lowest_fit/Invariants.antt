-- What is left of the set has the lowest edge that fits, as long as no edge passed.
use mathlib.Core.Path.{◌≡◌}
use Prim.Native.Nat.{◌<◌, ◌^◌}
use Rattle.sets.specs.Sets.{set_of}
use Rattle.sets.specs.Inner.{set_width}
use Rattle.solve_carry.specs.Inner.{lowest_fit_by}
use Rattle.solve_carry.proofs.lowest_fit.Given as goal

abbrev pub invariant-loop-e : goal.invariant-loop-e
invariant-loop-e l = (l.rest < 2 ^ set_width) × (lowest_fit_by l.flows l.marks l.demand l.rest ≡ lowest_fit_by l.flows l.marks l.demand l.set)

abbrev pub decreases-loop-e : goal.decreases-loop-e
decreases-loop-e l = set_of l.rest
