-- A terminal at the source halts with 21. Else one flow falls by the demand, so that all flows stay small, and its edge leaves the set of positive edges exactly
-- where no flow is left on it.
use Rattle.solve_finish.proofs.Parting.{stop_made, carry_stopped, carry_made}
use Rattle.solve_finish.proofs.carry_on.Goals as goal

pub returns-then-place-frame : goal.returns-then-place-frame
returns-then-place-frame c =
    carry_stopped _ _ _ _ c.args.frame.positive _ _ _ c.at_or-place.ensures _ c.if-place-frame.true
    (stop_made _ _ c.args.frame.marks _ c.args.frame.positive c.requires.positive_set c.requires.flows_value)

pub returns : goal.returns
returns c =
    carry_made _ _ _ _ _ _ _ _ c.at_or-place.ensures _ _ _ _ _ _ _ c.if-place-frame.false c.at_or-flow.ensures c.at_or-demand.ensures
    c.at_or-tail.ensures c.saturating_sub-rest.ensures c.put.ensures c.put-2.ensures c.positive_after-after.ensures
    c.requires.flows_len c.requires.positive_set c.requires.flows_value
