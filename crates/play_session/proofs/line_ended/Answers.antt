-- By the stage: a line of the board, a line of the play, or nothing.
use Rattle.std.proofs.Common.{arith}
use Rattle.std.proofs.lemmas.Grind.{common_steps}
use Rattle.lists.specs.Choice.{pick}
use Rattle.play_session.specs.Machine.{line_ended, line_told}
use Rattle.play_session.proofs.line_ended.Goals as goal

pub returns-in-Reading : goal.returns-in-Reading
unfolding line_ended line_told pick
returns-in-Reading c = grind (arith, common_steps)

pub returns-in-Playing : goal.returns-in-Playing
unfolding line_ended line_told pick
returns-in-Playing c = grind (arith, common_steps)

pub returns-in-Over : goal.returns-in-Over
unfolding line_ended line_told pick
returns-in-Over c = grind (arith, common_steps)
