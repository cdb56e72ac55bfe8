-- The branch says which move it is.
use mathlib.Core.Path.{sym, ap}
use Rattle.board.specs.Whole.{move_of}
use Rattle.boundary_parts.specs.Shown.{move_numbers, move_rows}
use Rattle.boundary_parts.proofs.show_move.Goals as goal

pub returns-in-Carry : goal.returns-in-Carry
returns-in-Carry c =
    let is = ap move_of c.in-Carry.is in record {
      numbers_after = sym (ap move_numbers is);
      rows_after = sym (ap move_rows is);
    }

pub returns-in-Turn : goal.returns-in-Turn
returns-in-Turn c =
    let is = ap move_of c.in-Turn.is in record {
      numbers_after = cc (ap move_numbers is);
      rows_after = cc (ap move_rows is);
    }
