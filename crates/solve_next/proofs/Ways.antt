-- Why each way out of the hint is the definition's: the number is that of the first test that fails, and the record that goes with it is the empty one, or says the
-- solver's next move. That record gives the move back, so what was judged is what is given.
use mathlib.Core.Path.{◌≡◌, refl, sym, ap, ◌∙◌}
use mathlib.Core.Bool.{Bool, true, false}
use lib.Dec.{eqb}
use borrow.Author.Tests.{eq-eqb, ne_eqb}
use Rattle.lists.specs.Choice.{pick, either}
use mathlib.Core.Logic.{◌≢◌}
use Prim.Native.Nat.{ℕ}
use Rattle.lists.proofs.Laws.{Known, was_true, was_false, known, pick_yes, pick_no}
use Rattle.board.specs.Whole.{Board}
use Rattle.move_guard.specs.Guard.{playing}
use Rattle.move_guard.specs.Bounds.{InBounds}
use Rattle.solve_next.specs.Advices.{Advice}
use Rattle.solve_next.specs.Choosing.{all_home, judge_in, judge, next_act, no_advice}
use Rattle.solve_next.proofs.Advised.{advice_none, advice_number}
use Rattle.solve_next.specs.Parts.{advice_number_in}
use Rattle.solve_next.specs.Hints.{hint_refusal, next_advice, hint_call}

-- the number: the board is not in play; every terminal is at the source, or the solver's move is accepted; or it is refused
module _ (b : Board) where
  number_closed : playing b ≡ false → hint_refusal b ≡ 20
  unfolding hint_refusal
  number_closed p = pick_no (playing b) _ 20 p

  module _ (p : playing b ≡ true) where
    number_home : all_home b ≡ true → hint_refusal b ≡ 0
    unfolding hint_refusal either
    number_home h = pick_yes (playing b) _ 20 p ∙ pick_yes _ 0 20 (rw h refl)

    number_judged : (t : Bool) → all_home b ≡ false → eqb (judge b (next_act b)) 0 ≡ t → hint_refusal b ≡ pick t 0 20
    unfolding hint_refusal either
    number_judged t h j = pick_yes (playing b) _ 20 p ∙ rw (h, j)

pub hint_closed : (b : Board) → playing b ≡ false → record { answer = 20; advice = no_advice } ≡ hint_call b
unfolding hint_call pick
hint_closed b p = rw (number_closed b p)

-- the solver's move, by the number that its record is judged with
module _ (b : Board) (play : playing b ≡ true) (bounds : InBounds b.network b.flows b.places) (a : Advice) (next : a ≡ next_advice b) (number : ℕ)
    (en : number ≡ advice_number_in b.network b.flows b.marks b.places a) where
  home_number : all_home b ≡ true → number ≡ 0
  unfolding advice_number_in pick
  home_number h = en ∙ ap (advice_number_in b.network b.flows b.marks b.places) (next ∙ sym (advice_none b.network b.flows b.marks b.places h))

  away_number : all_home b ≡ false → number ≡ judge b (next_act b)
  away_number h =
      en ∙ ap (advice_number_in b.network b.flows b.marks b.places) next ∙ advice_number b.network b.flows b.marks b.places bounds h
      ∙ ap (λ (p : Bool). judge_in p b.network b.flows b.marks b.places (next_act b)) (sym play)

  pub hint_stuck : number ≢ 0 → record { answer = 20; advice = no_advice } ≡ hint_call b
  unfolding hint_call pick
  hint_stuck j = go (known (all_home b))
    where
      go : Known (all_home b) → record { answer = 20; advice = no_advice } ≡ hint_call b
      go (was_true h) = absurd (j (home_number h))
      go (was_false h) = rw (number_judged b play false h (ne_eqb _ 0 (λ q. j (away_number h ∙ q))))

  pub hint_move : number ≡ 0 → record { answer = 0; advice = a } ≡ hint_call b
  unfolding hint_call pick
  hint_move j = go (known (all_home b))
    where
      go : Known (all_home b) → record { answer = 0; advice = a } ≡ hint_call b
      go (was_true h) = rw (number_home b play h, next)
      go (was_false h) = rw (number_judged b play true h (eq-eqb _ 0 (sym (away_number h) ∙ j)), next)

-- no move: every terminal is at the source
pub hint_none : (b : Board) → playing b ≡ true → InBounds b.network b.flows b.places → no_advice ≡ next_advice b → record { answer = 0; advice = no_advice } ≡ hint_call b
unfolding advice_number_in pick
hint_none b play bounds next = hint_move b play bounds no_advice next 0 refl refl
