-- The edges passed that are positive are in the set.
use lib.Dec.{ltb}
use lib.ListN.{get_or}
use Rattle.move_edges.proofs.Passed.{Passed}
use Rattle.move_edges.proofs.positive.Given as goal

abbrev pub invariant-loop-e : goal.invariant-loop-e
invariant-loop-e l = Passed (λ k. ltb 0 (get_or l.flows k 0)) l.e l.m
