-- What is left of the run over the terminals, from the amount so far, is the whole run.
use mathlib.Core.Path.{◌≡◌}
use Prim.Native.Nat.{◌-◌}
use Rattle.move_cycle.specs.Amounts.{raise_in}
use Rattle.move_cycle.proofs.raise.Given as goal

abbrev pub invariant-loop-i : goal.invariant-loop-i
invariant-loop-i l =
    raise_in l.places l.demands l.head l.flow l.least l.i (l.terminals - l.i) ≡ raise_in l.places l.demands l.head l.flow l.a 0 l.terminals
