-- The kind of the move decides: a carry is intact, and of a turn the code tests the bound of the definition.
use mathlib.Core.Path.{sym, ap}
use Rattle.board.specs.Whole.{move_of}
use Rattle.move_guard.specs.Guard.{move_intact}
use Rattle.move_guard.proofs.move_intact.Goals as goal

pub returns-in-Turn : goal.returns-in-Turn
returns-in-Turn c = sym (ap move_intact (ap move_of c.in-Turn.is))
