-- The test of the stage and the test of the board are the definition's.
use mathlib.Core.Path.{◌∙◌}
use Rattle.move_guard.specs.Guard.{loaded}
use Rattle.move_guard.proofs.loaded.Goals as goal

pub returns : goal.returns
unfolding loaded
returns c = c.and.ensures ∙ rw (c.staged.ensures, c.intact-fits.ensures)
