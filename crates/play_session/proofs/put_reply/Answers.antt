-- The number, and the report behind it where a finish was accepted.
use Rattle.std.proofs.Common.{arith}
use Rattle.std.proofs.lemmas.Grind.{common_steps}
use Rattle.lists.specs.Choice.{pick, both}
use Rattle.text_writer.proofs.Writing.{sets_append}
use Rattle.play_session.specs.Machine.{played_text}
use Rattle.play_session.proofs.put_reply.Goals as goal

pub returns-in-Finish-Ok : goal.returns-in-Finish-Ok
unfolding played_text both pick
returns-in-Finish-Ok c = grind (arith, common_steps, sets_append)

pub returns-in_default : goal.returns-in_default
unfolding played_text both pick
returns-in_default c = grind (arith, common_steps, sets_append)

pub returns-in_default-2 : goal.returns-in_default-2
unfolding played_text both pick
returns-in_default-2 c = grind (arith, common_steps, sets_append)
