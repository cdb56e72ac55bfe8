-- The loop has blanked the places up to its own.
use mathlib.Core.Path.{◌≡◌}
use mathlib.Core.List.{[]}
use Prim.Native.Nat.{◌-◌}
use Rattle.journal.specs.Words.{packed_on}
use Rattle.journal.proofs.wipe.Given as goal

abbrev pub invariant-loop-i : goal.invariant-loop-i
invariant-loop-i l = l.journal ≡ packed_on (l.i - l.from) l.from [] l.initial.journal
