-- What is stored so far, with the values from the next edge on, is the whole row.
use Rattle.sets.specs.Sets.{set_of}
use Rattle.board.specs.Limits.{max_edges}
use Rattle.boundary_parts.specs.Shown.{marked_in}
use Rattle.boundary_parts.proofs.Loops.{Filling}
use Rattle.boundary_parts.proofs.marked_row.Given as goal

abbrev pub invariant-loop-e : goal.invariant-loop-e
invariant-loop-e l = Filling (marked_in l.edges (set_of l.marks)) max_edges l.row l.e
