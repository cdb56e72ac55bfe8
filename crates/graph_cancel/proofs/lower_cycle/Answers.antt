-- The amount is the smallest flow on the cycle, and each edge is lowered by it: the definition, in two calls.
use Rattle.graph_cancel.proofs.Folds.{lower_made}
use Rattle.graph_cancel.proofs.lower_cycle.Goals as goal

pub returns : goal.returns
returns c = lower_made _ _ _ _ c.smallest-x.ensures c.lower.ensures
