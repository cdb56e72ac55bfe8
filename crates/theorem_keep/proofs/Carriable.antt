-- What an accepted carry has passed: each test of the call, one after the other, read as the fact it tests.
use mathlib.Core.Path.{◌≡◌, ◌∙◌}
use mathlib.Core.Bool.{true}
use Prim.Native.Nat.{ℕ}
use lib.Dec.{eqb}
use borrow.Author.Tests.{eqb-true, eqb-false, eq-eqb, ne_eqb, ltb-true, lt-ltb}
use Rattle.lists.proofs.Laws.{pick_yes, pick_no, pick_passed, pick_avoided, both_left, both_right, both_true}
use Rattle.board.specs.Whole.{Board}
use Rattle.move_guard.specs.Parts.{flow, marked, demand, place}
use Rattle.move_guard.specs.Guard.{playing}
use Rattle.move_carry.specs.Opens.{flow_fits, enters, enters_in, is_home_in}
use Rattle.move_carry.specs.Carries.{on_board, carry_refusal, carry_refusal_in, on_board_in}
use Rattle.theorem_cycles.specs.Allowed.{Carriable}
use Rattle.theorem_cycles.proofs.Openings.{fits_facts, facts_fit}

module _ (b : Board) (i e : ℕ) where
  pub carry_facts : carry_refusal b i e ≡ 0 → (playing b ≡ true) × Carriable b i e
  unfolding carry_refusal_in is_home_in on_board_in enters_in
  carry_facts h =
      let p = pick_passed (playing b) _ 19 h in
      let o = pick_passed (on_board b i e) _ 5 p.1 in
      let s = pick_avoided (eqb (place b i) b.network.source) _ 20 o.1 in
      let n = pick_passed (enters b i e) _ 21 s.1 in
      let f = fits_facts _ _ _ (pick_passed (flow_fits (marked b e) (flow b e) (demand b i)) 0 22 n.1).0 in (
        p.0,
        record {
          terminal = ltb-true _ _ (both_left _ _ o.0);
          edge = ltb-true _ _ (both_right _ _ o.0);
          away = eqb-false _ _ s.0;
          enters = eqb-true _ _ n.0;
          covers = f.0;
          exact = f.1;
        },
      )

  pub carry_accepted : playing b ≡ true → Carriable b i e → carry_refusal b i e ≡ 0
  unfolding carry_refusal_in is_home_in on_board_in enters_in
  carry_accepted p c =
      pick_yes (playing b) _ _ p
      ∙ pick_yes (on_board b i e) _ _ (both_true _ _ (lt-ltb _ _ c.terminal) (lt-ltb _ _ c.edge))
      ∙ pick_no (eqb (place b i) b.network.source) _ _ (ne_eqb _ _ c.away)
      ∙ pick_yes (enters b i e) _ _ (eq-eqb _ _ c.enters)
      ∙ pick_yes (flow_fits (marked b e) (flow b e) (demand b i)) _ _ (facts_fit _ _ _ c.covers c.exact)
