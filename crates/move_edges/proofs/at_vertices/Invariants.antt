-- Of the edges passed, each vertex has in its set those that have their end there.
use Rattle.board.specs.Limits.{max_vertices}
use Rattle.move_edges.proofs.Passed.{AllPassed}
use Rattle.move_edges.proofs.at_vertices.Given as goal

abbrev pub invariant-loop-e : goal.invariant-loop-e
invariant-loop-e l = AllPassed l.fn.ends max_vertices l.e l.edges
