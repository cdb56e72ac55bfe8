-- What is stored so far, with the bytes from the next step on, is the whole row.
use Rattle.board.specs.Limits.{max_edges}
use Rattle.boundary_parts.specs.Shown.{byte_at}
use Rattle.boundary_parts.proofs.Loops.{Filling}
use Rattle.boundary_parts.proofs.step_bytes.Given as goal

abbrev pub invariant-loop-i : goal.invariant-loop-i
invariant-loop-i l = Filling (byte_at l.code-items) max_edges l.bytes l.i
