-- An accepted move of either kind, a carry or a turn: the board stays one of play, taking the move back gives the board of before, the potential falls, the network and the acyclic flow stay, and the journal
-- has one move more. Each fact is the carry's or the turn's own, by the kind of the move.
use mathlib.Core.Path.{◌≡◌, refl}
use Prim.Native.Nat.{◌+◌, ◌<◌}
use Rattle.board.specs.Whole.{Board}
use Rattle.solve_next.specs.Choosing.{Act, relocate, augment, judge, acted}
use Rattle.theorem_keep.proofs.Carriable.{carry_facts}
use Rattle.theorem_keep.proofs.Turnable.{turn_facts}
use Rattle.theorem_cycles.specs.Potential.{potential}
use Rattle.theorem_keep.proofs.CarryFalls.{carried_falls}
use Rattle.theorem_cycles.proofs.Gains.{turned_falls}
use Rattle.theorem_keep.proofs.Standing.{Standing, carry_standing, turn_standing, carry_back, turn_back}
use Rattle.move_carry.specs.Carries.{carried_in}
use Rattle.move_turn.specs.Turns.{turned_in}
use Rattle.move_undo.specs.Undone.{undone}

module _ (b : Board) where
  pub act_standing : (a : Act) → Standing b → judge b a ≡ 0 → Standing (acted b a)
  act_standing (relocate i e) st h = carry_standing b i e st h
  act_standing (augment w) st h = turn_standing b w st h

  pub act_back : (a : Act) → Standing b → judge b a ≡ 0 → undone (acted b a) ≡ b
  act_back (relocate i e) st h = carry_back b i e st h
  act_back (augment w) st h = turn_back b w st h

  pub act_falls : (a : Act) → Standing b → judge b a ≡ 0 → potential (acted b a) < potential b
  act_falls (relocate i e) st h = carried_falls b i e st.inv (carry_facts b i e h).1
  act_falls (augment w) st h = turned_falls b w st.inv (turn_facts b w h).1

  pub act_network : (a : Act) → (acted b a).network ≡ b.network
  unfolding carried_in turned_in
  act_network (relocate i e) = refl
  act_network (augment w) = refl

  pub act_acyclic : (a : Act) → (acted b a).acyclic ≡ b.acyclic
  unfolding carried_in turned_in
  act_acyclic (relocate i e) = refl
  act_acyclic (augment w) = refl

  pub act_moves : (a : Act) → (acted b a).moves ≡ b.moves + 1
  unfolding carried_in turned_in
  act_moves (relocate i e) = refl
  act_moves (augment w) = refl
