-- A line more is expected, or the board is loaded and its number printed where it is refused.
use Rattle.std.proofs.Common.{arith}
use Rattle.std.proofs.lemmas.Grind.{common_steps}
use Rattle.lists.specs.Choice.{pick}
use Rattle.play_session.specs.Machine.{board_line, board_told}
use Rattle.play_session.proofs.board_line.Goals as goal

pub returns-then-left-ne0 : goal.returns-then-left-ne0
unfolding board_line board_told pick
returns-then-left-ne0 c = grind (arith, common_steps)

pub returns : goal.returns
unfolding board_line board_told pick
returns c = grind (arith, common_steps)
