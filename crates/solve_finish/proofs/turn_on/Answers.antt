-- The turn is the change that its parts give, and shifts no edge but those that are looked at again. A refused one changes nothing.
use Rattle.refusals.proofs.Laws.{refused, passed_on}
use Rattle.move_carry.specs.Frames.{net_of}
use Rattle.solve_finish.proofs.InPlace.{turn_stopped}
use Rattle.solve_finish.proofs.Looking.{turn_right}
use Rattle.solve_finish.proofs.turn_on.Goals as goal

pub returns-in_err-made : goal.returns-in_err-made
returns-in_err-made c =
    let a = c.args in
    rw (passed_on _ _ c.from_residual.ensures.1)
    (turn_stopped (net_of a.frame a.tails.now a.heads.now a.demands.now) _ a.frame.marks _ _ _ a.frame.positive _ c.in_err-made.ensures (refused _)
    c.requires.turnable.chart.is_positive c.requires.flows_value)

pub look_again-seen-requires : goal.look_again-seen-requires
look_again-seen-requires c =
    let pre = c.requires in
    let frame = c.args.frame in
    rw c.shifted_edges-changed.ensures
    (turn_right (net_of frame c.args.tails.now c.args.heads.now c.args.demands.now) _ frame.marks _ frame.positive _
    pre.turnable.chart.is_positive pre.flows_value pre.turnable.chart.all _ c.in_ok-made.ensures)

pub returns : goal.returns
returns c =
    record { changes = c.in_ok-made.ensures; is_positive = c.look_again-seen.ensures.is_positive; smalls = c.look_again-seen.ensures.smalls }
