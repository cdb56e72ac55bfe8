-- The solver's move is accepted on every board of play with a terminal away. Where a carry is open, the chosen carry keeps the rules; where none is, the
-- cycle does. A board of play is intact and in play, so nothing else refuses the move.
use mathlib.Core.Path.{◌≡◌, ap, ◌∙◌}
use mathlib.Core.Bool.{false}
use Rattle.lists.proofs.Laws.{Known, was_true, was_false, known, pick_yes, pick_no}
use Rattle.board.specs.Whole.{Board}
use Rattle.move_carry.specs.Opens.{open_terminal, some_open}
use Rattle.solve_next.specs.Choosing.{all_home, judge, next_cycle, next_act, next_act_in}
use Rattle.theorem_keep.proofs.Carriable.{carry_accepted}
use Rattle.theorem_keep.proofs.Turnable.{turn_accepted}
use Rattle.theorem_keep.proofs.Standing.{Standing, standing-playing}
use Rattle.theorem_list.proofs.NextCarry.{chosen_carriable}
use Rattle.theorem_list.proofs.NextCycle.{cycle_turnable}
use Rattle.solve_carry.specs.Search.{chosen_edge}

pub next_accepted : (b : Board) → Standing b → all_home b ≡ false → judge b (next_act b) ≡ 0
unfolding next_act_in
next_accepted b st away = go (known (some_open b))
  where
    go : Known (some_open b) → judge b (next_act b) ≡ 0
    go (was_true t) =
        ap (judge b) (pick_yes (some_open b) _ _ t)
        ∙ carry_accepted b (open_terminal b) (chosen_edge b (open_terminal b)) (standing-playing b st) (chosen_carriable b st.inv t)
    go (was_false t) =
        ap (judge b) (pick_no (some_open b) _ _ t) ∙ turn_accepted b (next_cycle b) (standing-playing b st) (cycle_turnable b st.inv t away)
