-- Each call's answer put into the next: the column of v, the cycle that the walk within it closes, and the flows
-- lowered along that cycle.
use mathlib.Core.Path.{◌∙◌}
use Rattle.graph_cancel.proofs.Rounds.{cycle_made}
use Rattle.graph_cancel.proofs.cancel_from.Goals as goal

pub returns : goal.returns
returns c =
    let given = c.requires in
    cycle_made _ _ _ _ _ _ _ _ _ given.seen_len.0 (c.column.ensures ∙ given.v_value) c.follow-cycle.ensures c.lower_cycle.ensures
