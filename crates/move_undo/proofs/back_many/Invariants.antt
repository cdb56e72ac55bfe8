-- The moves that are left, from the board as it is now, end as all of them from the first board.
use mathlib.Core.Path.{◌≡◌}
use Prim.Native.Nat.{◌-◌}
use Rattle.journal.specs.Words.{whole_of}
use Rattle.move_undo.specs.Undone.{taken_back}
use Rattle.move_undo.proofs.back_many.Given as goal

abbrev pub invariant-loop : goal.invariant-loop
invariant-loop l = taken_back (l.count - l.counter) (whole_of l.b l.journal) ≡ taken_back l.count (whole_of l.initial.b l.journal)
