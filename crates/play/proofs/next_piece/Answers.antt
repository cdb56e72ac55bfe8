-- Whatever was read, the session is behind the part of it that it was handed; behind nothing where nothing was read.
use Rattle.descriptors.proofs.PrintedPieces.{behind-none, behind-part}
use Rattle.play.proofs.next_piece.Goals as goal

pub returns-then-got-eq0 : goal.returns-then-got-eq0
returns-then-got-eq0 c = behind-none _

pub returns : goal.returns
returns c = behind-part c.serve.ensures
