-- The row of marks is what its call ensures; the others are the board's.
use mathlib.Core.Path.{refl}
use Rattle.boundary_parts.proofs.show_board.Goals as goal

pub returns : goal.returns
returns c = record {
  numbers_after = refl;
  edges_after = cc;
  terminals_after = refl;
}
