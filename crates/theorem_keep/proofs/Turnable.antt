-- What an accepted turn has passed: its tests in turn, each with its meaning.
use mathlib.Core.Path.{◌≡◌, refl, sym, ◌∙◌}
use mathlib.Core.Bool.{true, false}
use mathlib.Core.List.{List}
use borrow.Author.Tests.{ltb-true, lt-ltb}
use Rattle.lists.proofs.Laws.{pick_yes, pick_no, pick_passed, pick_avoided}
use Rattle.board.specs.Whole.{Board}
use Rattle.graph_flows.specs.Trails.{Step, down, up, In}
use Rattle.move_guard.specs.Guard.{playing}
use Rattle.move_cycle.specs.Steps.{is_up}
use Rattle.move_cycle.proofs.Cycled.{every_in, every_of, cycle_closed, closed_cycle}
use Rattle.move_turn.specs.Turns.{OnBoard, Positive, UpSingular}
use Rattle.move_turn.specs.Turns.{meets, turn_refusal, turn_refusal_in}
use Rattle.theorem_cycles.specs.Allowed.{Turnable}

module _ (b : Board) (w : List Step) where
  pub turn_facts : turn_refusal b w ≡ 0 → (playing b ≡ true) × Turnable b w
  unfolding turn_refusal_in
  turn_facts h =
      let play = pick_passed _ _ 19 h in
      let on = pick_passed _ _ 5 play.1 in
      let cyc = pick_passed _ _ 6 on.1 in
      let shut = pick_avoided _ _ 23 cyc.1 in
      let above = pick_passed _ _ 24 shut.1 in
      let ups = pick_passed _ _ 25 above.1 in (
        play.0,
        record {
          cycle = cycle_closed b.network.tails b.network.heads w cyc.0;
          inside = λ s i. ltb-true _ _ (every_in (meets OnBoard b) w s on.0 i);
          none_open = shut.0;
          above = λ s i. ltb-true _ _ (every_in (meets Positive b) w s above.0 i);
          climbs = λ e i. sym (pick_yes (is_up (up e)) _ _ refl) ∙ every_in (meets UpSingular b) w (up e) ups.0 i;
        },
      )

  pub turn_accepted : playing b ≡ true → Turnable b w → turn_refusal b w ≡ 0
  unfolding turn_refusal_in
  turn_accepted play t =
      pick_yes _ _ 20 play ∙ pick_yes _ _ 6 (every_of (meets OnBoard b) w (λ s i. lt-ltb _ _ (t.inside s i)))
      ∙ pick_yes _ _ 7 (closed_cycle b.network.tails b.network.heads w t.cycle) ∙ pick_no _ 24 _ t.none_open
      ∙ pick_yes _ _ 25 (every_of (meets Positive b) w (λ s i. lt-ltb _ _ (t.above s i))) ∙ pick_yes _ _ 26 (every_of (meets UpSingular b) w climb)
    where
      climb : (s : Step) → In s w → meets UpSingular b s ≡ true
      climb (down e) i = pick_no false _ _ refl
      climb (up e) i = pick_yes true _ _ refl ∙ t.climbs e i
