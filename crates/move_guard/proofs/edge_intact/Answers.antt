-- The numbers fit, the acyclic flow is at most the text's, and the flow is small: joined as in the definition.
use mathlib.Core.Path.{◌∙◌}
use borrow.Author.Tests.{lt-ltb}
use Rattle.move_guard.proofs.edge_intact.Goals as goal

pub returns : goal.returns
returns c =
    let is_edge = lt-ltb _ _ c.requires.edge in
    c.and-2.ensures ∙ rw (is_edge, c.and.ensures, c.small_flow-small.ensures, c.edge_numbers_fit-fits.ensures)
