-- The numbers fit, and the terminal is at a vertex: joined as in the definition.
use mathlib.Core.Path.{◌∙◌}
use borrow.Author.Tests.{lt-ltb}
use Rattle.lists.specs.Choice.{pick}
use Rattle.move_guard.proofs.terminal_intact.Goals as goal

pub returns : goal.returns
unfolding pick
returns c =
    let is_terminal = lt-ltb _ _ c.requires.terminal in
    c.and.ensures ∙ rw (is_terminal, c.terminal_numbers_fit-fits.ensures)
