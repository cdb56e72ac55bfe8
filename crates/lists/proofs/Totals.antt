-- Laws of `total f i k` and `most f i k`, all by walking the run i, i + 1, .., i + k - 1: equal terms give equal sums, smaller terms smaller ones, a sum of
-- one term that is not 0 is that term, a sum above 0 has a term above 0, and the greatest term is at least each and at most what each is at most.
use mathlib.Core.Path.{◌≡◌, refl, ap}
use mathlib.Core.Logic.{◌⊎◌, inl, inr, ◌≢◌}
use Prim.Native.Nat.{ℕ, zero, suc, ◌+◌, ◌*◌, ◌≤◌, ◌<◌}
use native.Mathlib.Omega.{arith}
use lib.Dec.{ltb}
use borrow.Author.Tests.{ltb-true, ltb-false}
use Rattle.lists.specs.Choice.{pick}
use Rattle.lists.specs.Lists.{total, most}
use Rattle.lists.proofs.Laws.{Known, was_true, was_false, known, eq_or_ne, lt_or_ge, pick_yes, pick_no}

pub total_same : (f g : ℕ → ℕ) (i k : ℕ) → ((j : ℕ) → i ≤ j → j < i + k → f j ≡ g j) → total f i k ≡ total g i k
unfolding total
total_same f g i zero e = refl
total_same f g i (suc k) e = omega (arith, e i (omega arith) (omega arith), total_same f g (suc i) k (λ j a b. e j (omega arith) (omega arith)))

pub total-none : (f : ℕ → ℕ) (i k : ℕ) → ((j : ℕ) → i ≤ j → j < i + k → f j ≡ 0) → total f i k ≡ 0
unfolding total
total-none f i zero e = refl
total-none f i (suc k) e = omega (arith, e i (omega arith) (omega arith), total-none f (suc i) k (λ j a b. e j (omega arith) (omega arith)))

pub total_add : (f g : ℕ → ℕ) (i k : ℕ) → total (λ j. f j + g j) i k ≡ total f i k + total g i k
unfolding total
total_add f g i zero = refl
total_add f g i (suc k) = omega (arith, total_add f g (suc i) k)

-- one term alone
pub total_one : (f : ℕ → ℕ) (i k v : ℕ) → i ≤ v → v < i + k → ((j : ℕ) → j ≢ v → f j ≡ 0) → total f i k ≡ f v
unfolding total
total_one f i zero v a b e = absurd (omega arith)
total_one f i (suc k) v a b e = go (eq_or_ne i v) (λ l. total_one f (suc i) k v l (omega arith) e)
  where
    go : (i ≡ v) ⊎ (i ≢ v) → (suc i ≤ v → total f (suc i) k ≡ f v) → total f i (suc k) ≡ f v
    go (inl q) ih =
        let none : total f (suc i) k ≡ 0 = total-none f (suc i) k (λ j h g. e j (λ z. omega (arith, z, h, q))) in
        let first : f i ≡ f v = ap f q in
        omega arith
    go (inr d) ih = omega (arith, e i d, ih (omega arith))

-- terms compared one by one
total_below : (f g : ℕ → ℕ) (i k : ℕ) → ((j : ℕ) → f j ≤ g j) → total f i k ≤ total g i k
unfolding total
total_below f g i zero h = omega arith
total_below f g i (suc k) h = omega (arith, h i, total_below f g (suc i) k h)

pub total_less : (f g : ℕ → ℕ) (i k v : ℕ) → ((j : ℕ) → f j ≤ g j) → i ≤ v → v < i + k → f v < g v → total f i k < total g i k
unfolding total
total_less f g i zero v h a c l = absurd (omega arith)
total_less f g i (suc k) v h a c l = go (eq_or_ne i v) (λ d. total_less f g (suc i) k v h d (omega arith) l)
  where
    go : (i ≡ v) ⊎ (i ≢ v) → (suc i ≤ v → total f (suc i) k < total g (suc i) k) → total f i (suc k) < total g i (suc k)
    go (inl q) ih = let here : f i < g i = rw q l in omega (arith, here, total_below f g (suc i) k h)
    go (inr n) ih = omega (arith, h i, ih (omega arith))

-- each at most m
pub total-most : (f : ℕ → ℕ) (m i k : ℕ) → ((j : ℕ) → i ≤ j → j < i + k → f j ≤ m) → total f i k ≤ k * m
unfolding total
total-most f m i zero h = omega arith
total-most f m i (suc k) h = omega (arith, h i (omega arith) (omega arith), total-most f m (suc i) k (λ j a c. h j (omega arith) (omega arith)))

-- terms that are equal but for one: the sums differ by that one at most
pub total_raised : (f g : ℕ → ℕ) (i k v : ℕ) → ((j : ℕ) → j ≢ v → f j ≡ g j) → total f i k ≤ total g i k + f v
unfolding total
total_raised f g i zero v e = omega arith
total_raised f g i (suc k) v e = go (eq_or_ne i v) (total_raised f g (suc i) k v e)
  where
    go : (i ≡ v) ⊎ (i ≢ v) → total f (suc i) k ≤ total g (suc i) k + f v → total f i (suc k) ≤ total g i (suc k) + f v
    go (inl q) ih =
        let rest : total f (suc i) k ≡ total g (suc i) k = total_same f g (suc i) k (λ j h l. e j (λ z. omega (arith, z, h, q))) in
        let first : f i ≡ f v = ap f q in
        omega arith
    go (inr n) ih = omega (arith, e i n)

-- a sum above 0 has a term above 0
pub total_some : {C : Type 0} (f : ℕ → ℕ) (i k : ℕ) → 0 < total f i k → ((j : ℕ) → i ≤ j → j < i + k → 0 < f j → C) → C
unfolding total
total_some f i zero h found = absurd (omega arith)
total_some {C} f i (suc k) h found = by (lt_or_ge 0 (f i)) (λ l. total_some f (suc i) k l (λ j a b p. found j (omega arith) (omega arith) p))
  where
    by : (0 < f i) ⊎ (f i ≤ 0) → (0 < total f (suc i) k → C) → C
    by (inl p) later = found i (omega arith) (omega arith) p
    by (inr z) later = later (omega arith)

-- the greatest term
pub most_same : (f g : ℕ → ℕ) (i k : ℕ) → ((j : ℕ) → f j ≡ g j) → most f i k ≡ most g i k
unfolding most
most_same f g i zero e = refl
most_same f g i (suc k) e = rw (e i, most_same f g (suc i) k e) refl

greater : (a m : ℕ) → (a ≤ pick (ltb m a) a m) × (m ≤ pick (ltb m a) a m)
greater a m = go (known (ltb m a))
  where
    go : Known (ltb m a) → (a ≤ pick (ltb m a) a m) × (m ≤ pick (ltb m a) a m)
    go (was_true t) = let l = ltb-true m a t in rw (pick_yes (ltb m a) a m t) (omega arith, omega arith)
    go (was_false t) = let l = ltb-false m a t in rw (pick_no (ltb m a) a m t) (omega arith, omega arith)

pub most_at : (f : ℕ → ℕ) (i k v : ℕ) → i ≤ v → v < i + k → f v ≤ most f i k
unfolding most
most_at f i zero v h g = absurd (omega arith)
most_at f i (suc k) v h g = go (eq_or_ne i v) (λ l. most_at f (suc i) k v l (omega arith)) (greater (f i) (most f (suc i) k))
  where
    now : ℕ
    now = pick (ltb (most f (suc i) k) (f i)) (f i) (most f (suc i) k)

    go : (i ≡ v) ⊎ (i ≢ v) → (suc i ≤ v → f v ≤ most f (suc i) k) → (f i ≤ now) × (most f (suc i) k ≤ now) → f v ≤ now
    go (inl q) ih w = let first : f i ≡ f v = ap f q in omega (arith, w.0)
    go (inr n) ih w = omega (arith, ih (omega arith), w.1)

-- the greatest of terms that are at most m
pub most_within : (f : ℕ → ℕ) (m i k : ℕ) → ((j : ℕ) → i ≤ j → j < i + k → f j ≤ m) → most f i k ≤ m
unfolding most
most_within f m i zero h = omega arith
most_within f m i (suc k) h = by (known (ltb (most f (suc i) k) (f i))) (most_within f m (suc i) k (λ j a b. h j (omega arith) (omega arith)))
  where
    by : Known (ltb (most f (suc i) k) (f i)) → most f (suc i) k ≤ m → most f i (suc k) ≤ m
    by (was_true t) ih = rw (pick_yes (ltb (most f (suc i) k) (f i)) (f i) (most f (suc i) k) t) (h i (omega arith) (omega arith))
    by (was_false t) ih = rw (pick_no (ltb (most f (suc i) k) (f i)) (f i) (most f (suc i) k) t) ih
