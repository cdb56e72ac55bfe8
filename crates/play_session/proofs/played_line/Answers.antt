-- The line as it was read is answered, a hint by its own function, and the next one begins.
use Rattle.std.proofs.Common.{arith}
use Rattle.std.proofs.lemmas.Grind.{common_steps}
use Rattle.lists.specs.Choice.{pick}
use Rattle.play_session.specs.Machine.{form_replied, form_text}
use Rattle.play_session.proofs.played_line.Goals as goal

pub returns-in-Hint : goal.returns-in-Hint
unfolding form_replied form_text pick
returns-in-Hint c = grind (arith, common_steps)

pub returns-in_default : goal.returns-in_default
unfolding form_text pick
returns-in_default c = grind (arith, common_steps)
