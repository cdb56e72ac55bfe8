-- The line of a hint is that of its move; a walk has no more steps than have places.
use Rattle.std.proofs.Common.{arith}
use Rattle.std.proofs.lemmas.Grind.{common_steps}
use Rattle.lists.specs.Choice.{pick}
use Rattle.solve_next.specs.Choosing.{act_of}
use Rattle.play_lines.specs.MoveLines.{hint_line}
use Rattle.play_lines.proofs.put_move.Goals as goal

pub returns-in-0 : goal.returns-in-0
unfolding hint_line act_of pick
returns-in-0 c = grind (arith, common_steps)

pub returns-in-1 : goal.returns-in-1
unfolding hint_line act_of pick
returns-in-1 c = grind (arith, common_steps)

pub returns-in_default : goal.returns-in_default
unfolding hint_line act_of pick
returns-in_default c = grind (arith, common_steps)
