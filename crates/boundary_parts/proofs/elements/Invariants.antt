-- What is stored and counted so far, with the elements from the next number on, is the whole list.
use Prim.Native.Nat.{◌≤◌}
use Rattle.sets.specs.Sets.{set_of}
use Rattle.boundary_parts.proofs.Loops.{Listing}
use Rattle.boundary_parts.proofs.elements.Given as goal

abbrev pub invariant-loop-e : goal.invariant-loop-e
invariant-loop-e l = (l.count ≤ l.e) × Listing (set_of l.set) (set_of l.ups) l.edges l.ways l.count l.e
