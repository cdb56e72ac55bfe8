-- Laws of `count p i k`, all by walking the run i, i + 1, .., i + k - 1: a count is at most k, a miss makes it less, and a test that holds wherever
-- another holds, and once more, counts more.
use mathlib.Core.Path.{◌≡◌, refl}
use mathlib.Core.Bool.{Bool, true, false}
use mathlib.Core.Logic.{◌⊎◌, inl, inr, ◌≢◌}
use Prim.Native.Nat.{ℕ, zero, suc, ◌+◌, ◌≤◌, ◌<◌}
use native.Mathlib.Omega.{arith}
use Rattle.lists.specs.Choice.{pick}
use Rattle.lists.specs.Inner.{count}
use Rattle.lists.proofs.Laws.{eq_or_ne, pick_yes, pick_no}

-- what one index counts: 1 at most; and no more for a test that implies another than for that other
abbrev one : Bool → ℕ
one b = pick b 1 0

one_le : (b : Bool) → one b ≤ 1
unfolding pick
one_le true = omega arith
one_le false = omega arith

one_mono : (a b : Bool) → (a ≡ true → b ≡ true) → one a ≤ one b
unfolding pick
one_mono false b f = omega arith
one_mono true b f = rw (f refl) (omega arith)

one_yes : (b : Bool) → b ≡ true → one b ≡ 1
one_yes b e = pick_yes {A = ℕ} b 1 0 e

one_no : (b : Bool) → b ≡ false → one b ≡ 0
one_no b e = pick_no {A = ℕ} b 1 0 e

pub count_le : (p : ℕ → Bool) (i k : ℕ) → count p i k ≤ k
unfolding count
count_le p i zero = omega arith
count_le p i (suc k) = omega (arith, one_le (p i), count_le p (suc i) k)

pub count_none : (p : ℕ → Bool) (i k : ℕ) → ((j : ℕ) → i ≤ j → j < i + k → p j ≡ false) → count p i k ≡ 0
unfolding count
count_none p i zero f = refl
count_none p i (suc k) f =
    omega (arith, one_no (p i) (f i (omega arith) (omega arith)), count_none p (suc i) k (λ j h g. f j (omega arith) (omega arith)))

pub count_mono : (p q : ℕ → Bool) (i k : ℕ) → ((j : ℕ) → i ≤ j → j < i + k → p j ≡ true → q j ≡ true) → count p i k ≤ count q i k
unfolding count
count_mono p q i zero f = omega arith
count_mono p q i (suc k) f =
    omega (arith, one_mono (p i) (q i) (f i (omega arith) (omega arith)), count_mono p q (suc i) k (λ j h g. f j (omega arith) (omega arith)))

-- q holds wherever p does, and at j where p does not
pub count_less : (p q : ℕ → Bool) (i k j : ℕ) → ((u : ℕ) → i ≤ u → u < i + k → p u ≡ true → q u ≡ true)
    → i ≤ j → j < i + k → p j ≡ false → q j ≡ true → count p i k < count q i k
unfolding count
count_less p q i zero j f h g miss hit = absurd (omega arith)
count_less p q i (suc k) j f h g miss hit = go (eq_or_ne i j) (λ l. count_less p q (suc i) k j rest l (omega arith) miss hit)
  where
    rest : (u : ℕ) → suc i ≤ u → u < suc i + k → p u ≡ true → q u ≡ true
    rest u a b = f u (omega arith) (omega arith)

    go : (i ≡ j) ⊎ (i ≢ j) → (suc i ≤ j → count p (suc i) k < count q (suc i) k) → count p i (suc k) < count q i (suc k)
    go (inl e) ih = omega (arith, one_no (p i) (rw e miss), one_yes (q i) (rw e hit), count_mono p q (suc i) k rest)
    go (inr d) ih = omega (arith, one_mono (p i) (q i) (f i (omega arith) (omega arith)), ih (omega arith))

-- p fails at j
pub count_miss : (p : ℕ → Bool) (i k j : ℕ) → i ≤ j → j < i + k → p j ≡ false → count p i k < k
unfolding count
count_miss p i zero j h g miss = absurd (omega arith)
count_miss p i (suc k) j h g miss = go (eq_or_ne i j) (λ l. count_miss p (suc i) k j l (omega arith) miss)
  where
    go : (i ≡ j) ⊎ (i ≢ j) → (suc i ≤ j → count p (suc i) k < k) → count p i (suc k) < suc k
    go (inl e) ih = omega (arith, one_no (p i) (rw e miss), count_le p (suc i) k)
    go (inr d) ih = omega (arith, one_le (p i), ih (omega arith))
