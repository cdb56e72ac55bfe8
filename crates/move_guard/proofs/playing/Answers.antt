-- The stage of play is within the stages of a loaded board, so the tests of the stage and of the board are the definition's.
use Rattle.journal.specs.Words.{whole_of}
use Rattle.move_guard.proofs.Parts.{staged}
use Rattle.move_guard.proofs.playing.Goals as goal

pub returns : goal.returns
returns c =
    staged (whole_of c.args.board c.args.journal.now) _ _ c.intact-fits.ensures c.and.ensures
