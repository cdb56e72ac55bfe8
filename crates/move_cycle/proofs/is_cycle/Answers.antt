-- No steps are no cycle; others are one where they lead from the start of the first back to it, as defined.
use mathlib.Core.Path.{◌∙◌}
use Rattle.move_cycle.proofs.Codes.{cycle_none, cycle_some}
use Rattle.move_cycle.proofs.is_cycle.Goals as goal

pub returns-then-steps-eq0 : goal.returns-then-steps-eq0
returns-then-steps-eq0 c = cycle_none _ _ _ c.if-steps-eq0.true

pub returns : goal.returns
returns c = c.leads_back.ensures ∙ cycle_some _ _ _ _ c.if-steps-eq0.false c.start_of-r.ensures
