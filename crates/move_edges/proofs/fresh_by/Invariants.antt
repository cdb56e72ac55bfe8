-- What is found so far and what is left of the edges to look at have the fresh edges between them.
use Prim.Native.Nat.{◌<◌, ◌^◌}
use Rattle.sets.specs.Sets.{none, collect, set_of}
use Rattle.sets.specs.Inner.{set_width}
use Rattle.move_edges.specs.Marking.{singular_by, is_fresh_by}
use Rattle.move_edges.proofs.Gathering.{FoundOrLeft}
use Rattle.move_edges.proofs.fresh_by.Given as goal

abbrev pub invariant-loop-e : goal.invariant-loop-e
invariant-loop-e l =
    (l.rest < 2 ^ set_width) × FoundOrLeft (singular_by l.heads l.leaving l.positive l.vertices) l.m l.rest (collect (is_fresh_by l.heads l.leaving l.positive l.vertices l.marks) none 0 set_width)

abbrev pub decreases-loop-e : goal.decreases-loop-e
decreases-loop-e l = set_of l.rest
