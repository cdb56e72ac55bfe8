-- What is left of the search is the whole search, as long as no terminal had an open carry: at the start those that it passes over have none.
use mathlib.Core.Path.{◌≡◌}
use mathlib.Core.List.{[]}
use Prim.Native.Nat.{◌-◌}
use Rattle.lists.specs.Lists.{lowest}
use Rattle.move_carry.specs.Opens.{has_open_in, open_terminal_in}
use Rattle.move_carry.specs.Frames.{net_of}
use Rattle.solve_carry.proofs.open_carry.Given as goal

abbrev pub invariant-loop-i : goal.invariant-loop-i
invariant-loop-i l =
    lowest (has_open_in (net_of l.frame [] l.heads l.demands) l.flows l.frame.marks l.places) l.i (l.frame.terminals - l.i) ≡ open_terminal_in (net_of l.frame [] l.heads l.demands) l.flows l.frame.marks l.places
