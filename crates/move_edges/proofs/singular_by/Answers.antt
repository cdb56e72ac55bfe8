-- An edge is singular where its head is straight: the head that is read, handed to `straight`.
use Rattle.move_edges.specs.Marking.{singular_by}
use Rattle.move_edges.proofs.singular_by.Goals as goal

pub returns : goal.returns
unfolding singular_by
returns c = rw (← c.at_or-head.ensures) c.straight.ensures
