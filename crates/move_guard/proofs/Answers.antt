-- A call by its number: 0 gives the board after it, any other number the board as it was.
use mathlib.Core.Path.{◌≡◌}
use mathlib.Core.Logic.{◌≢◌}
use Prim.Native.Nat.{ℕ}
use borrow.Author.Tests.{eq-eqb, ne_eqb}
use Rattle.lists.proofs.Laws.{pick_yes, pick_no}
use Rattle.board.specs.Whole.{Board}
use Rattle.move_guard.specs.Moved.{answered}

module _ (n : ℕ) (b next : Board) where
  pub answered_yes : n ≡ 0 → answered n b next ≡ record { answer = 0; board = next }
  unfolding answered
  answered_yes h = pick_yes _ _ _ (eq-eqb n 0 h)

  pub answered_no : n ≢ 0 → answered n b next ≡ record { answer = n; board = b }
  unfolding answered
  answered_no h = pick_no _ _ _ (ne_eqb n 0 h)
