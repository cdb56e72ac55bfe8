-- The lesser of the lowest number and the count is the definition's pick.
use mathlib.Core.Path.{◌∙◌}
use Rattle.graph.proofs.Onwards.{lesser}
use Rattle.graph.proofs.lowest_edge.Goals as goal

pub returns : goal.returns
returns c = c.min.ensures ∙ rw c.lowest.ensures (lesser _ _)
