-- The words after a call, by the count of moves: none more or less, one more, one less, more, or fewer.
use mathlib.Core.Path.{◌≡◌, ap, ◌∙◌}
use mathlib.Core.List.{List}
use Prim.Native.Nat.{ℕ, ◌+◌, ◌-◌, ◌≤◌}
use native.Mathlib.Omega.{arith}
use lib.ListN.{get_or, set}
use Rattle.board.specs.Record.{blank}
use Rattle.board.specs.Whole.{Board}
use Rattle.journal.specs.Words.{packed, packed_on, words_after}

module _ (m : ℕ) (b : Board) (w : List (List ℕ)) where
  places : (k at : ℕ) → (b.moves - m) + (m - b.moves) ≡ k → m - (m - b.moves) ≡ at → words_after m b w ≡ packed_on k at b.journal w
  places k at ek ea = ap (λ (p : ℕ × ℕ). packed_on p.0 p.1 b.journal w) (λ i. (ek i, ea i))

  one : (at : ℕ) → packed_on 1 at b.journal w ≡ set w at (packed (get_or b.journal at blank))
  unfolding packed_on
  one at = let z : at + 0 ≡ at = omega arith in ap (λ (i : ℕ). set w i (packed (get_or b.journal i blank))) z

  pub after_none : b.moves ≡ m → words_after m b w ≡ w
  unfolding packed_on
  after_none e = places 0 m (omega (arith, e)) (omega (arith, e))

  pub after_one : b.moves ≡ m + 1 → words_after m b w ≡ set w m (packed (get_or b.journal m blank))
  after_one e = places 1 m (omega (arith, e)) (omega (arith, e)) ∙ one m

  pub after_back_lem : m ≡ b.moves + 1 → words_after m b w ≡ set w b.moves (packed (get_or b.journal b.moves blank))
  after_back_lem e = places 1 b.moves (omega (arith, e)) (omega (arith, e)) ∙ one b.moves

  pub after_many : m ≤ b.moves → words_after m b w ≡ packed_on (b.moves - m) m b.journal w
  after_many h = places (b.moves - m) m (omega (arith, h)) (omega (arith, h))

  pub after_fewer : b.moves ≤ m → words_after m b w ≡ packed_on (m - b.moves) b.moves b.journal w
  after_fewer h = places (m - b.moves) b.moves (omega (arith, h)) (omega (arith, h))
