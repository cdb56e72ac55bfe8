-- What is left of the test is the whole test, as long as no place has failed.
use mathlib.Core.Path.{◌≡◌}
use Prim.Native.Nat.{◌-◌}
use Rattle.lists.specs.Lists.{all}
use Rattle.board.specs.Limits.{max_edges}
use Rattle.move_guard.specs.Guard.{edge_intact_in}
use Rattle.move_guard.proofs.edges_intact.Given as goal

abbrev pub invariant-loop-i : goal.invariant-loop-i
invariant-loop-i l = all (edge_intact_in l.net l.acyclic l.flows) l.i (max_edges - l.i) ≡ all (edge_intact_in l.net l.acyclic l.flows) 0 max_edges

abbrev pub invariant-loop-past : goal.invariant-loop-past
invariant-loop-past l = all (edge_intact_in l.net l.acyclic l.flows) l.past (max_edges - l.past) ≡ all (edge_intact_in l.net l.acyclic l.flows) 0 max_edges
