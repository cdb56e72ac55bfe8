-- Sums over the entries of a list whose key is v: one entry changed, an entry above 0, an entry within its sum.
use mathlib.Core.Path.{◌≡◌}
use mathlib.Core.Logic.{◌⊎◌, inl, inr, ◌≢◌}
use mathlib.Core.List.{List, [], ◌∷◌}
use Prim.Native.Nat.{ℕ, zero, suc, ◌+◌, ◌≤◌, ◌<◌}
use native.Mathlib.Omega.{arith}
use native.Mathlib.Nat.{not-suc-le-zero, le_of_suc-le-suc}
use lib.Dec.{eqb}
use lib.ListN.{length, get_or, set}
use borrow.Author.Tests.{eqb-true, eqb-false}
use Rattle.lists.specs.Lists.{keyed, sum_at}
use Rattle.lists.proofs.Laws.{Known, was_true, was_false, known}

pub keyed_add : (k v x y : ℕ) → keyed k v (x + y) ≡ keyed k v x + keyed k v y
unfolding keyed
keyed_add k v x y = go (known (eqb k v))
  where
    go : Known (eqb k v) → keyed k v (x + y) ≡ keyed k v x + keyed k v y
    go (was_true e) = rw (e, keyed)
    go (was_false e) = rw (e, keyed)

-- one value changed
pub sum-set : (ks xs : List ℕ) (e x v : ℕ) → e < length ks → e < length xs
    → sum_at ks (set xs e x) v + keyed (get_or ks e 0) v (get_or xs e 0) ≡ sum_at ks xs v + keyed (get_or ks e 0) v x
unfolding sum_at
sum-set [] xs e x v h g = absurd (not-suc-le-zero h)
sum-set (k ∷ ks) [] e x v h g = absurd (not-suc-le-zero g)
sum-set (k ∷ ks) (y ∷ ys) zero x v h g = omega arith
sum-set (k ∷ ks) (y ∷ ys) (suc e) x v h g = omega (arith, sum-set ks ys e x v (le_of_suc-le-suc h) (le_of_suc-le-suc g))

-- one key changed
pub sum_key : (ks xs : List ℕ) (e k v : ℕ) → e < length ks → e < length xs
    → sum_at (set ks e k) xs v + keyed (get_or ks e 0) v (get_or xs e 0) ≡ sum_at ks xs v + keyed k v (get_or xs e 0)
unfolding sum_at
sum_key [] xs e x v h g = absurd (not-suc-le-zero h)
sum_key (k ∷ ks) [] e x v h g = absurd (not-suc-le-zero g)
sum_key (k ∷ ks) (y ∷ ys) zero x v h g = omega arith
sum_key (k ∷ ks) (y ∷ ys) (suc e) x v h g = omega (arith, sum_key ks ys e x v (le_of_suc-le-suc h) (le_of_suc-le-suc g))

-- the two cases of `keyed`, with the equation of each
pub keyed_cases : (k v x : ℕ) → ((k ≡ v) × (keyed k v x ≡ x)) ⊎ ((k ≢ v) × (keyed k v x ≡ 0))
unfolding keyed
keyed_cases k v x = go (known (eqb k v))
  where
    go : Known (eqb k v) → ((k ≡ v) × (keyed k v x ≡ x)) ⊎ ((k ≢ v) × (keyed k v x ≡ 0))
    go (was_true e) = inl (eqb-true k v e, rw (e, keyed))
    go (was_false e) = inr (eqb-false k v e, rw (e, keyed))

-- a sum above 0 has an entry above 0
pub record KeyedEntry (ks xs : List ℕ) (v : ℕ) : Type 0 where
  pub e : ℕ
  pub in_keys : e < length ks
  pub in_values : e < length xs
  pub key : get_or ks e 0 ≡ v
  pub above : 0 < get_or xs e 0

entry_later : {ks xs : List ℕ} {v : ℕ} (k x : ℕ) → KeyedEntry ks xs v → KeyedEntry (k ∷ ks) (x ∷ xs) v
entry_later k x w = record { e = suc w.e; in_keys = omega arith; in_values = omega arith; key = w.key; above = w.above }

pub sum_entry : (ks xs : List ℕ) (v : ℕ) → 0 < sum_at ks xs v → KeyedEntry ks xs v
unfolding sum_at
sum_entry [] xs v h = absurd (not-suc-le-zero h)
sum_entry (k ∷ ks) [] v h = absurd (not-suc-le-zero h)
sum_entry (k ∷ ks) (zero ∷ xs) v h = go (keyed_cases k v 0) (λ g. sum_entry ks xs v g)
  where
    go : ((k ≡ v) × (keyed k v 0 ≡ 0)) ⊎ ((k ≢ v) × (keyed k v 0 ≡ 0)) → (0 < sum_at ks xs v → KeyedEntry ks xs v) → KeyedEntry (k ∷ ks) (0 ∷ xs) v
    go (inl (p, q)) ih = entry_later k 0 (ih (omega arith))
    go (inr (p, q)) ih = entry_later k 0 (ih (omega arith))
sum_entry (k ∷ ks) (suc x ∷ xs) v h = go (keyed_cases k v (suc x)) (λ g. sum_entry ks xs v g)
  where
    go : ((k ≡ v) × (keyed k v (suc x) ≡ suc x)) ⊎ ((k ≢ v) × (keyed k v (suc x) ≡ 0)) → (0 < sum_at ks xs v → KeyedEntry ks xs v) → KeyedEntry (k ∷ ks) (suc x ∷ xs) v
    go (inl (p, q)) ih = record { e = 0; in_keys = omega arith; in_values = omega arith; key = p; above = omega arith }
    go (inr (p, q)) ih = entry_later k (suc x) (ih (omega arith))

-- and the other way
pub entry_within : (ks xs : List ℕ) (v e : ℕ) → e < length ks → e < length xs → get_or ks e 0 ≡ v → get_or xs e 0 ≤ sum_at ks xs v
unfolding sum_at
entry_within [] xs v e h g p = absurd (not-suc-le-zero h)
entry_within (k ∷ ks) [] v e h g p = absurd (not-suc-le-zero g)
entry_within (k ∷ ks) (x ∷ xs) v zero h g p = go (keyed_cases k v x)
  where
    go : ((k ≡ v) × (keyed k v x ≡ x)) ⊎ ((k ≢ v) × (keyed k v x ≡ 0)) → x ≤ keyed k v x + sum_at ks xs v
    go (inl q) = omega arith
    go (inr q) = absurd (q.0 p)
entry_within (k ∷ ks) (x ∷ xs) v (suc e) h g p = omega (arith, entry_within ks xs v e (le_of_suc-le-suc h) (le_of_suc-le-suc g) p)
