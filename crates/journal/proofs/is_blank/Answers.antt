-- The words at the place, or the blank's past the end, are compared with zeros.
use mathlib.Core.Path.{◌∙◌}
use Rattle.journal.specs.Inner.{is_blank_at}
use Rattle.journal.proofs.Laws.{zeros_compared}
use Rattle.journal.proofs.is_blank.Goals as goal

pub returns : goal.returns
unfolding is_blank_at
returns c = c.eq.ensures ∙ rw c.at_or.ensures (zeros_compared 5 _)
