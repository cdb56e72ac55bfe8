-- What the search for the lowest number with a property finds: it looks at one number after the other, so all before the one found miss.
use mathlib.Core.Path.{◌≡◌, sym, ◌∙◌}
use mathlib.Core.Bool.{Bool, true, false, true≢false}
use mathlib.Core.Logic.{◌⊎◌, inl, inr}
use Prim.Native.Nat.{ℕ, zero, suc, ◌+◌, ◌≤◌, ◌<◌}
use native.Mathlib.Omega.{arith}
use Rattle.lists.specs.Lists.{lowest}
use Rattle.lists.proofs.Laws.{Known, was_true, was_false, known, lt_or_ge}

-- r is the lowest of i, i + 1, .. with p; where none below n has p, r is n
pub record Least (p : ℕ → Bool) (i n r : ℕ) : Type 0 where
  pub low : i ≤ r
  pub high : r ≤ n
  pub hit : r < n → p r ≡ true
  pub miss : (j : ℕ) → i ≤ j → j < r → p j ≡ false

pub lowest_least : (p : ℕ → Bool) (i k : ℕ) → Least p i (i + k) (lowest p i k)
unfolding lowest
lowest_least p i zero = record { low = omega arith; high = omega arith; hit = λ h. absurd (omega arith); miss = λ j a b. absurd (omega arith) }
lowest_least p i (suc k) = go (known (p i)) (lowest_least p (suc i) k)
  where
    go : Known (p i) → Least p (suc i) (suc i + k) (lowest p (suc i) k) → Least p i (i + suc k) (lowest p i (suc k))
    go (was_true t) ih = rw (t, lowest) (record { low = omega arith; high = omega arith; hit = λ h. t; miss = λ j a b. absurd (omega arith) })
    go (was_false t) ih = rw (t, lowest) (record {
      low = omega arith;
      high = omega (arith, ih.high);
      hit = λ h. ih.hit (omega arith);
      miss = λ j a b. at j b (lt_or_ge i j) a;
    })
      where
        at : (j : ℕ) → j < lowest p (suc i) k → (i < j) ⊎ (j ≤ i) → i ≤ j → p j ≡ false
        at j b (inl q) a = ih.miss j q b
        at j b (inr q) a = let s : i ≡ j = omega arith in rw (← s) t

-- a number with p is not below the lowest
module _ (p : ℕ → Bool) (i k j : ℕ) (from : i ≤ j) (holds : p j ≡ true) where
  pub lowest_found : lowest p i k ≤ j
  lowest_found = go (lt_or_ge j (lowest p i k))
    where
      go : (j < lowest p i k) ⊎ (lowest p i k ≤ j) → lowest p i k ≤ j
      go (inl u) = absurd (true≢false (sym holds ∙ (lowest_least p i k).miss j from u))
      go (inr u) = u

  -- and where one below the end has p, the lowest has it
  pub lowest_hit_true : j < i + k → p (lowest p i k) ≡ true
  lowest_hit_true h = (lowest_least p i k).hit (omega (arith, lowest_found))
