-- A carry is judged as a carry, and a turn by the steps that its walk holds.
use mathlib.Core.Path.{◌∙◌}
use Rattle.solve_next.proofs.Advised.{number_carry, number_turn}
use Rattle.solve_next.proofs.judge_in.Goals as goal

pub returns-in-Carry : goal.returns-in-Carry
returns-in-Carry c =
    let a = c.args in
    rw c.in-Carry.is (c.judge_in.ensures ∙ number_carry a.frame a.tails.now a.heads.now a.demands.now a.flows.now a.places.now c.in-Carry.carry)

pub returns-in-Turn : goal.returns-in-Turn
returns-in-Turn c =
    let a = c.args in
    rw c.in-Turn.is (c.judge_in-in-Turn.ensures ∙ number_turn a.frame a.tails.now a.heads.now a.demands.now a.flows.now a.places.now c.in-Turn.walk)
