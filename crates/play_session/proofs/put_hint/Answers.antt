-- The number, and the move behind it where the hint was accepted.
use Rattle.std.proofs.Common.{arith}
use Rattle.std.proofs.lemmas.Grind.{common_steps}
use Rattle.lists.specs.Choice.{pick}
use Rattle.text_writer.proofs.Writing.{sets_append}
use Rattle.play_session.specs.Machine.{suggestion_text}
use Rattle.play_session.proofs.put_hint.Goals as goal

pub returns-in-Ok : goal.returns-in-Ok
unfolding suggestion_text pick
returns-in-Ok c = grind (arith, common_steps, sets_append)

pub returns-in-Err : goal.returns-in-Err
unfolding suggestion_text pick
returns-in-Err c = grind (arith, common_steps, sets_append)
