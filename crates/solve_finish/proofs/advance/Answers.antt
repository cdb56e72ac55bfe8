-- The next move is none, a carry or a turn; what is then made is the change of the solver's move.
use mathlib.Core.Path.{◌≡◌, ap}
use Prim.Native.Nat.{◌≤◌}
use native.Mathlib.Omega.{arith}
use Rattle.board.specs.Limits.{max_edges}
use Rattle.move_carry.specs.Frames.{net_of}
use Rattle.move_carry.specs.Carries.{carried_in}
use Rattle.solve_walk.specs.declared.Walk.{Walk}
use Rattle.solve_next.specs.Advices.{Advice}
use Rattle.lists.specs.Choice.{pick}
use Rattle.solve_next.specs.Choosing.{act_of}
use Rattle.solve_next.specs.Views.{Advised, advice_told}
use Rattle.solve_next.specs.declared.Advice.TheVariants.{Carry, Turn}
use Rattle.solve_next.proofs.Advised.{movable_few, advice_short}
use Rattle.solve_finish.specs.Run.{carry_step}
use Rattle.solve_finish.proofs.Parting.{stop_made}
use Rattle.solve_finish.proofs.Ready.{step_none, step_made}
use Rattle.solve_finish.proofs.InPlace.{going_small, going_turns, going_movable}
use Rattle.solve_finish.proofs.advance.Goals as goal

pub next_move-next-requires : goal.next_move-next-requires
next_move-next-requires c = going_movable _ _ _ _ _ _ _ _ c.requires

pub returns-in_default : goal.returns-in_default
returns-in_default c =
    step_none _ _ _ _ _ c.in_default.ensures (stop_made _ _ _ _ _ c.requires.is_positive (going_small _ _ _ _ _ _ _ _ c.requires))

pub carry_on-requires : goal.carry_on-requires
carry_on-requires c =
    let g = c.requires in record {
      positive_set = g.is_positive;
      flows_value = going_small _ _ _ _ _ _ _ _ g;
      flows_len = g.in_play.long;
    }

pub returns-in-Carry : goal.returns-in-Carry
unfolding carry_step carried_in act_of pick
returns-in-Carry c =
    let m = going_movable _ _ _ _ _ _ _ _ c.requires in
    step_made _ _ _ _ _ (movable_few _ _ _ _ _ _ _ _ m) m.bounds.all (Carry c.in-Carry.carry) (rw c.in-Carry.is at c.in-Some.ensures) c.carry_on.ensures

-- the steps of a cycle fit
short : (a : Advised) (w : Walk) (n : Advice) → a ≡ Turn w → advice_told a ≡ n → n.count ≤ max_edges → w.count ≤ max_edges
short a w n is told few = let same : w.count ≡ n.count = ap (λ (x : Advice). x.count) (rw is at told) in omega (arith, same, few)

pub shared_ref_as_front-turn_on : goal.shared_ref_as_front-turn_on
shared_ref_as_front-turn_on c =
    let a = c.args in
    short _ c.in-Turn.walk _ c.in-Turn.is c.in-Some.ensures
    (advice_short (net_of a.frame a.tails.now a.heads.now a.demands.now) a.flows.now a.frame.marks a.places.now (going_movable _ _ _ _ _ _ _ _ c.requires).bounds)

pub turn_on-requires : goal.turn_on-requires
turn_on-requires c =
    record {
      turnable = going_turns _ _ _ _ _ _ _ _ c.requires;
      flows_value = going_small _ _ _ _ _ _ _ _ c.requires;
    }

pub returns-in-Turn : goal.returns-in-Turn
unfolding act_of pick
returns-in-Turn c =
    let m = going_movable _ _ _ _ _ _ _ _ c.requires in
    step_made _ _ _ _ _ (movable_few _ _ _ _ _ _ _ _ m) m.bounds.all (Turn c.in-Turn.walk) (rw c.in-Turn.is at c.in-Some.ensures) c.turn_on.ensures
