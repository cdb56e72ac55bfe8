-- For inner contracts only: how the theory of lists counts and bounds.
use Rattle.std.specs.Prelude.{Bool, List, [], ◌∷◌, ℕ, zero, suc, ◌+◌, ◌<◌}
use Rattle.lists.specs.Choice.{pick}

-- how many of i, i + 1, .., i + k - 1 have p
unfoldable pub count : (ℕ → Bool) → ℕ → ℕ → ℕ
count p i zero = 0
count p i (suc k) = pick (p i) 1 0 + count p (suc i) k

-- every element is below n
abbrev pub Below : ℕ → List ℕ → Type 0
Below n [] = Unit {0}
Below n (x ∷ xs) = (x < n) × Below n xs
