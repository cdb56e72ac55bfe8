-- The boards that are left to pass, from the place reached on, lead to the board that all of them lead to from the start of the list.
use mathlib.Core.Path.{◌≡◌}
use Prim.Native.Nat.{◌-◌, ◌≤◌}
use lib.ListN.{length, drop}
use Rattle.catalog.specs.Catalog.{boards_from}
use Rattle.catalog.proofs.start.Given as goal

abbrev pub invariant-loop : goal.invariant-loop
invariant-loop l = (l.at ≤ length l.t) × (boards_from (l.k - l.counter) (drop l.at l.t) ≡ boards_from l.k l.t)
