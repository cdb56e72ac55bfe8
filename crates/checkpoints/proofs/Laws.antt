-- Letters and their refusals. A call that is not refused has a letter from A to D, and then it changes what its definition says.
use mathlib.Core.Path.{◌≡◌, sym, ap, ◌∙◌}
use mathlib.Core.Bool.{true, false, true≢false}
use mathlib.Core.Logic.{◌≢◌}
use Rattle.std.specs.Prelude.{Option, Some, None, is_some, Result, Ok, IfOk}
use Rattle.std.specs.Option.{unwrap_or}
use Rattle.refusals.specs.declared.Refusal.{Refusal}
use Prim.Native.Nat.{ℕ, ◌+◌, ◌-◌, ◌<◌, ◌≤◌}
use native.Mathlib.Omega.{arith}
use lib.Dec.{ltb, leb}
use borrow.Author.Tests.{eq-eqb, ne_eqb, lt-ltb, le-ltb, ltb-true, ltb-false, lt-leb, le-leb}
use Rattle.lists.specs.Choice.{pick, both}
use Rattle.lists.proofs.Laws.{Known, was_true, was_false, known, pick_yes, pick_no, pick_passed, both_true}
use Rattle.board.specs.Whole.{Board}
use Rattle.move_guard.specs.Guard.{loaded}
use Rattle.checkpoints.specs.Letters.{letters, first_letter, letter_of, place_of}
use Rattle.checkpoints.specs.Games.{Game, settled, keep_refusal, back_refusal}

-- ---- The number of a letter.

module _ (letter : ℕ) where
  pub letter_before : letter < first_letter → None ≡ place_of (letter_of letter)
  unfolding letter_of place_of both pick
  letter_before h = rw (lt-leb first_letter letter h)

  pub letter_inside : (k : ℕ) → first_letter ≤ letter → k ≡ letter - first_letter → k < letters → Some k ≡ place_of (letter_of letter)
  unfolding letter_of place_of
  letter_inside k from is to =
      rw (is, pick_yes (both (leb first_letter letter) (ltb letter (first_letter + letters))) (letter - first_letter) letters (both_true _ _ (le-leb _ _ from) (lt-ltb letter (first_letter + letters) (omega arith))))
      (sym (pick_yes _ _ _ (lt-ltb _ _ (omega (arith, is, to)))))

  pub letter-behind : (k : ℕ) → first_letter ≤ letter → k ≡ letter - first_letter → letters ≤ k → None ≡ place_of (letter_of letter)
  unfolding letter_of place_of both pick
  letter-behind k from is to = rw (le-leb first_letter letter from, le-ltb letter (first_letter + letters) (omega arith))

-- a letter from A to D, and another byte
pub placed : (k n : ℕ) → place_of k ≡ Some n → (k < letters) × (n ≡ k)
unfolding place_of
placed k n h = go (known (ltb k letters))
  where
    go : Known (ltb k letters) → (k < letters) × (n ≡ k)
    go (was_true t) = (ltb-true _ _ t, ap (λ (o : Option ℕ). unwrap_or o 0) (sym h ∙ pick_yes _ _ _ t))
    go (was_false t) = absurd (true≢false (ap is_some (sym h ∙ pick_no _ _ _ t)))

pub unplaced : (k : ℕ) → place_of k ≡ None → letters ≤ k
unfolding place_of
unplaced k h = go (known (ltb k letters))
  where
    go : Known (ltb k letters) → letters ≤ k
    go (was_true t) = absurd (true≢false (ap is_some (sym (pick_yes _ _ _ t) ∙ h)))
    go (was_false t) = ltb-false _ _ t

-- the number of a letter that a judge gives
pub given_place : (r : Result ℕ Refusal) (k n : ℕ) → r ≡ Ok k → IfOk r (λ (j : ℕ). j ≡ n) → k ≡ n
given_place r k n e h = rw e at h

-- ---- Refusals.

module _ (b : Board) (letter : ℕ) where
  pub keep_outside : letters ≤ letter_of letter → 30 ≡ keep_refusal b letter
  unfolding keep_refusal
  keep_outside h = sym (pick_no _ _ _ (le-ltb _ _ h))

  pub keep_shut : letter_of letter < letters → loaded b ≡ false → 20 ≡ keep_refusal b letter
  unfolding keep_refusal
  keep_shut h t = sym (pick_yes _ _ _ (lt-ltb _ _ h) ∙ pick_no _ _ _ t)

  pub keep_free : letter_of letter < letters → loaded b ≡ true → 0 ≡ keep_refusal b letter
  unfolding keep_refusal
  keep_free h t = sym (pick_yes _ _ _ (lt-ltb _ _ h) ∙ pick_yes _ _ _ t)

  pub keep_inside : keep_refusal b letter ≡ 0 → letter_of letter < letters
  unfolding keep_refusal
  keep_inside h = ltb-true _ _ (pick_passed (ltb (letter_of letter) letters) _ 29 h).0

  pub keep_loaded : keep_refusal b letter ≡ 0 → loaded b ≡ true
  unfolding keep_refusal
  keep_loaded h = (pick_passed (loaded b) 0 19 (pick_passed (ltb (letter_of letter) letters) _ 29 h).1).0

module _ (b c : Board) (letter : ℕ) where
  pub back_outside : letters ≤ letter_of letter → 30 ≡ back_refusal b c letter
  unfolding back_refusal
  back_outside h = sym (pick_no _ _ _ (le-ltb _ _ h))

  pub back_shut : letter_of letter < letters → loaded b ≡ false → 20 ≡ back_refusal b c letter
  unfolding back_refusal
  back_shut h t = sym (pick_yes _ _ _ (lt-ltb _ _ h) ∙ pick_no _ _ _ t)

  pub back_empty : letter_of letter < letters → loaded b ≡ true → loaded c ≡ false → 31 ≡ back_refusal b c letter
  unfolding back_refusal
  back_empty h t u = sym (pick_yes _ _ _ (lt-ltb _ _ h) ∙ pick_yes _ _ _ t ∙ pick_no _ _ _ u)

  pub back_free : letter_of letter < letters → loaded b ≡ true → loaded c ≡ true → 0 ≡ back_refusal b c letter
  unfolding back_refusal
  back_free h t u = sym (pick_yes _ _ _ (lt-ltb _ _ h) ∙ pick_yes _ _ _ t ∙ pick_yes _ _ _ u)

  pub back_inside : back_refusal b c letter ≡ 0 → letter_of letter < letters
  unfolding back_refusal
  back_inside h = ltb-true _ _ (pick_passed (ltb (letter_of letter) letters) _ 29 h).0

  pub back_loaded : back_refusal b c letter ≡ 0 → (loaded b ≡ true) × (loaded c ≡ true)
  unfolding back_refusal
  back_loaded h =
      let rest = pick_passed (loaded b) _ 19 (pick_passed (ltb (letter_of letter) letters) _ 29 h).1 in
      (rest.0, (pick_passed (loaded c) 0 30 rest.1).0)

-- ---- A call by its number.

module _ (number : ℕ) (g next : Game) where
  pub settled_yes : number ≡ 0 → settled number g next ≡ record { answer = 0; game = next }
  unfolding settled
  settled_yes h = pick_yes _ _ _ (eq-eqb number 0 h)

  pub settled_no : number ≢ 0 → settled number g next ≡ record { answer = number; game = g }
  unfolding settled
  settled_no h = pick_no _ _ _ (ne_eqb number 0 h)
