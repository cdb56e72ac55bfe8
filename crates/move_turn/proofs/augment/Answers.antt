-- The flows and the demands are small, so the amount is; each part of the change is made as the definition says.
use Rattle.board.specs.Limits.{max_total}
use Rattle.move_cycle.proofs.Raising.{least_small}
use Rattle.move_turn.specs.Lent.{augmented_by}
use Rattle.move_turn.proofs.augment.Goals as goal

pub shift-requires : goal.shift-requires
shift-requires c =
    let pre = c.requires in record {
      x_le_max_total = rw c.least_allowed-amount.ensures (least_small _ _ _ _ _ max_total pre.at_most pre.at_most_2 _);
      at_most = pre.at_most;
    }

pub returns : goal.returns
unfolding augmented_by
returns c =
    rw (c.of-turn.ensures, c.joined-marks.ensures, c.shift.ensures, c.fresh_by-fresh.ensures, c.gather-up.ensures, c.gather-down.ensures, c.least_allowed-amount.ensures)
