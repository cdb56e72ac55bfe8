-- No line and no board are the parts of it, and an empty text; a journal of no words is empty.
use mathlib.Core.Path.{◌≡◌, refl}
use Rattle.board.specs.Record.{closed_board}
use Rattle.journal.specs.Words.{unpacked, standing, whole_of, no_words}
use Rattle.board.specs.Record.{closed_table}
use Rattle.lists.specs.Choice.{pick}
use Rattle.play_session.proofs.Session.start.Goals as goal

closed_whole : whole_of closed_table no_words ≡ closed_board
unfolding closed_board closed_table unpacked standing pick
closed_whole = refl

pub returns : goal.returns
returns c = cc closed_whole
