-- A list of calls without a finish. No finish joins the standing items, so they are moves alone, each of them one move; play goes on after each call, and so no
-- answer is 20.
use mathlib.Core.Path.{◌≡◌, refl, sym, ap, ◌∙◌}
use mathlib.Core.Bool.{Bool, true, false, true≢false, false≢true}
use mathlib.Core.Logic.{◌≢◌}
use mathlib.Core.List.{List, [], ◌∷◌, ◌++◌, map}
use Prim.Native.Nat.{ℕ}
use native.Mathlib.Omega.{arith}
use lib.Dec.{eqb}
use lib.ListN.{length, length-map}
use Rattle.lists.specs.Choice.{pick}
use Rattle.lists.specs.Members.{has}
use Rattle.lists.proofs.Laws.{Known, was_true, was_false, known, pick_yes, pick_no}
use Rattle.lists.proofs.Pigeon.{both_missed}
use Rattle.board.specs.Whole.{Board}
use Rattle.load.specs.Load.{load_text}
use Rattle.move_guard.specs.Guard.{playing}
use Rattle.move_carry.specs.Carries.{carry_refusal_in}
use Rattle.move_carry.specs.Opens.{is_home_in}
use Rattle.move_turn.specs.Turns.{turn_refusal_in}
use Rattle.solve_next.specs.Choosing.{Act, relocate, augment, judge}
use Rattle.theorem_keep.proofs.Standing.{standing-playing}
use Rattle.move_list.specs.Calls.{Call, carry, turn, undo, hint, finish, game_of, played}
use Rattle.theorem_list.specs.Player.{
  Item,
  act,
  ending,
  is_over,
  listed,
  afresh,
  says_to,
  standing_with,
  standing_after,
  standing_moves,
  says,
  expanded_from,
  expanded,
}
use Rattle.theorem_list.specs.Faithful.{no_finish, Unfinished}
use Rattle.theorem_list.proofs.Stands.{without_last, open_more, over_ending, Stands, none, more, Stood, going, over, stands_open, stands_standing}
use Rattle.theorem_list.proofs.EveryList.{same, every_list}

-- moves alone make themselves
only_moves : (b : Board) (ms : List Item) → is_over ms ≡ false → map act (expanded_from b ms) ≡ ms
unfolding is_over expanded_from
only_moves b [] h = refl
only_moves b (act a ∷ ms) h = ap (λ (l : List Item). act a ∷ l) (only_moves (listed b (act a)) ms h)
only_moves b (ending ∷ ms) h = absurd (false≢true (sym h))

-- a choice between numbers that are not 20 is none
not_over : (t : Bool) (x y : ℕ) → x ≢ 20 → y ≢ 20 → pick t x y ≢ 20
not_over t x y p q = go (known t)
  where
    go : Known t → pick t x y ≢ 20
    go (was_true h) = rw (pick_yes t x y h) p
    go (was_false h) = rw (pick_no t x y h) q

first_test : (t : Bool) (x : ℕ) → t ≡ true → x ≢ 20 → pick t x 20 ≢ 20
first_test t x h p = rw (pick_yes t x 20 h) p

last_test : (t : Bool) (x y : ℕ) → t ≡ false → y ≢ 20 → pick t x y ≢ 20
last_test t x y h p = rw (pick_no t x y h) p

never_over : (text : List ℕ) (ms : List Item) → playing (afresh text ms) ≡ true → is_over ms ≡ false → (c : Call) → says_to text ms c ≢ 20
unfolding says_to carry_refusal_in is_home_in turn_refusal_in
never_over text ms play on (carry i e) =
    first_test _ _ play
    (not_over _ _ _ (not_over _ _ _ (λ q. omega (arith, q)) (not_over _ _ _ (not_over _ _ _ (λ q. omega (arith, q)) (λ q. omega (arith, q))) (λ q. omega (arith, q)))) (λ q. omega (arith, q)))
never_over text ms play on (turn w) =
    first_test _ _ play
    (not_over _ _ _ (not_over _ _ _ (not_over _ _ _ (λ q. omega (arith, q)) (not_over _ _ _ (not_over _ _ _ (λ q. omega (arith, q)) (λ q. omega (arith, q))) (λ q. omega (arith, q))))
    (λ q. omega (arith, q))) (λ q. omega (arith, q)))
never_over text ms play on undo = not_over _ _ _ (λ q. omega (arith, q)) (λ q. omega (arith, q))
never_over text ms play on hint = last_test (is_over ms) _ _ on (λ q. omega (arith, q))
never_over text ms play on finish = last_test (is_over ms) _ _ on (λ q. omega (arith, q))

module _ (text : List ℕ) where
  -- a move joins, or the list stays
  with_open : (ms : List Item) (a : Act) → is_over ms ≡ false → is_over (standing_with text ms a) ≡ false
  unfolding standing_with
  with_open ms a h = go (known (eqb (judge (afresh text ms) a) 0))
    where
      go : Known (eqb (judge (afresh text ms) a) 0) → is_over (pick (eqb (judge (afresh text ms) a) 0) (ms ++ (act a ∷ [])) ms) ≡ false
      go (was_true t) = rw (pick_yes (eqb (judge (afresh text ms) a) 0) (ms ++ (act a ∷ [])) ms t) (open_more ms a ∙ h)
      go (was_false t) = rw (pick_no (eqb (judge (afresh text ms) a) 0) (ms ++ (act a ∷ [])) ms t) h

  -- undo takes one away
  back_open : (ms : List Item) → Stands text ms → is_over (standing_after text ms undo) ≡ false
  unfolding standing_after is_over
  back_open ms none = refl
  back_open all (more ms a s h q) = rw (q, without_last ms (act a)) (stands_open text ms s)

  still_open : (ms : List Item) (c : Call) (cs : List Call) → Stands text ms → no_finish (c ∷ cs) ≡ true → is_over (standing_after text ms c) ≡ false
  unfolding standing_after no_finish
  still_open ms (carry i e) cs s h = with_open ms (relocate i e) (stands_open text ms s)
  still_open ms (turn w) cs s h = with_open ms (augment w) (stands_open text ms s)
  still_open ms undo cs s h = back_open ms s
  still_open ms hint cs s h = stands_open text ms s
  still_open ms finish cs s h = absurd (false≢true h)

  rest_unfinished : (c : Call) (cs : List Call) → no_finish (c ∷ cs) ≡ true → no_finish cs ≡ true
  unfolding no_finish
  rest_unfinished (carry i e) cs h = h
  rest_unfinished (turn w) cs h = h
  rest_unfinished undo cs h = h
  rest_unfinished hint cs h = h
  rest_unfinished finish cs h = absurd (false≢true h)

  -- where no finish stands the items are moves
  pub stood_stands : (ms : List Item) → Stood text ms → is_over ms ≡ false → Stands text ms
  stood_stands ms (going s) h = s
  stood_stands all (over ms s q) h = absurd (true≢false (sym (over_ending ms) ∙ sym (ap is_over q) ∙ h))

module _ (text : List ℕ) (loads : (load_text text).answer ≡ 0) where
  next_stands : (ms : List Item) (c : Call) (cs : List Call) → Stands text ms → no_finish (c ∷ cs) ≡ true → Stands text (standing_after text ms c)
  next_stands ms c cs s h = stood_stands text (standing_after text ms c) (same text loads ms c (going s)).stood (still_open text ms c cs s h)

  all_open : (ms : List Item) (cs : List Call) → Stands text ms → no_finish cs ≡ true → is_over (standing_moves text ms cs) ≡ false
  unfolding standing_moves
  all_open ms [] s h = stands_open text ms s
  all_open ms (c ∷ cs) s h = all_open (standing_after text ms c) cs (next_stands ms c cs s h) (rest_unfinished text c cs h)

  none_over : (ms : List Item) (cs : List Call) → Stands text ms → no_finish cs ≡ true → has 20 (says text ms cs) ≡ false
  unfolding says has
  none_over ms [] s h = refl
  none_over ms (c ∷ cs) s h =
      let play = standing-playing (afresh text ms) (stands_standing text loads ms s) in
      both_missed 20 (says_to text ms c) (says text (standing_after text ms c) cs) (λ q. never_over text ms play (stands_open text ms s) c (sym q))
      (none_over (standing_after text ms c) cs (next_stands ms c cs s h) (rest_unfinished text c cs h))

pub unfinished_list : (text : List ℕ) (cs : List Call) → (load_text text).answer ≡ 0 → no_finish cs ≡ true → Unfinished text cs (played (game_of (load_text text).board) cs).board
unfinished_list text cs loads h =
    let f = every_list text cs loads in
    let ms : List Item = standing_moves text [] cs in
    let on : is_over ms ≡ false = all_open text loads [] cs none h in
    let alone = only_moves (load_text text).board ms on in
    record {
      only_moves = alone;
      moves = f.moves ∙ sym (length-map (expanded text ms) act) ∙ ap length alone;
      none_over = ap (has 20) f.same_answers ∙ none_over text loads [] cs none h;
      goes_on = f.goes_on on;
    }
