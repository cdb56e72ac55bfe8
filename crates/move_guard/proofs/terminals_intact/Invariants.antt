-- What is left of the test is the whole test, as long as no place has failed.
use mathlib.Core.Path.{◌≡◌}
use Prim.Native.Nat.{◌-◌}
use Rattle.lists.specs.Lists.{all}
use Rattle.board.specs.Limits.{max_terminals}
use Rattle.move_guard.specs.Guard.{terminal_intact_in}
use Rattle.move_guard.proofs.terminals_intact.Given as goal

abbrev pub invariant-loop-j : goal.invariant-loop-j
invariant-loop-j l = all (terminal_intact_in l.net l.places) l.j (max_terminals - l.j) ≡ all (terminal_intact_in l.net l.places) 0 max_terminals

abbrev pub invariant-loop-past : goal.invariant-loop-past
invariant-loop-past l = all (terminal_intact_in l.net l.places) l.past (max_terminals - l.past) ≡ all (terminal_intact_in l.net l.places) 0 max_terminals
