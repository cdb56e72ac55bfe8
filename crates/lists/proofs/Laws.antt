-- The laws that loops cite: what is left of a run, before and after one round, each in the code's own shape (`i + 1`,
-- `drop i xs`).
use mathlib.Core.Path.{◌≡◌, refl, sym, ◌∙◌}
use mathlib.Core.Bool.{Bool, true, false, false≢true}
use mathlib.Core.Logic.{◌⊎◌, inl, inr, ◌≢◌}
use mathlib.Core.List.{List, [], ◌∷◌}
use Prim.Native.Nat.{ℕ, zero, suc, ◌+◌, ◌-◌, ◌<◌, ◌≤◌}
use native.Mathlib.Numerals.{add-one}
use native.Mathlib.Nat.{zero-add, add-zero}
use native.Mathlib.Omega.{arith}
use lib.Dec.{ltb, eqb}
use lib.ListN.{length, get_or, take, drop, replicate, length-drop, drop_of_length-le}
use lib.Seq.{drop-cons, take_all}
use borrow.Author.Tests.{ltb-true, ltb-false, eqb-true, eqb-false, eq-eqb, ne_eqb}
use Rattle.lists.specs.Choice.{pick, both, either}
use Rattle.lists.specs.Lists.{index_of, all, lowest}

-- a test with its equation: what a helper by clauses takes
pub data Known (b : Bool) : Type 0 where
  was_true : b ≡ true → Known b
  was_false : b ≡ false → Known b

pub known : (b : Bool) → Known b
known true = was_true refl
known false = was_false refl

pub lt_or_ge : (a b : ℕ) → (a < b) ⊎ (b ≤ a)
lt_or_ge a b = go (known (ltb a b))
  where
    go : Known (ltb a b) → (a < b) ⊎ (b ≤ a)
    go (was_true e) = inl (ltb-true a b e)
    go (was_false e) = inr (ltb-false a b e)

pub eq_or_ne : (a b : ℕ) → (a ≡ b) ⊎ (a ≢ b)
eq_or_ne a b = go (known (eqb a b))
  where
    go : Known (eqb a b) → (a ≡ b) ⊎ (a ≢ b)
    go (was_true e) = inl (eqb-true a b e)
    go (was_false e) = inr (eqb-false a b e)

-- past the end there is 0, so an entry above it is inside
pub above_inside : (xs : List ℕ) (i : ℕ) → 0 < get_or xs i 0 → i < length xs
above_inside [] i h = absurd (omega arith)
above_inside (x ∷ xs) zero h = omega arith
above_inside (x ∷ xs) (suc i) h = omega (arith, above_inside xs i h)

pub pick_yes : {A : Type 0} (t : Bool) (a b : A) → t ≡ true → pick t a b ≡ a
unfolding pick
pick_yes t a b e = rw e

pub pick_no : {A : Type 0} (t : Bool) (a b : A) → t ≡ false → pick t a b ≡ b
unfolding pick
pick_no t a b e = rw e

-- what holds of both holds of the one that is taken
pub pick_keeps : {A : Type 0} (P : A → Type 0) (t : Bool) (a b : A) → P a → P b → P (pick t a b)
unfolding pick
pick_keeps P true a b p q = p
pick_keeps P false a b p q = q

-- a choice of numbers that gives 0 did not give the other one
pub pick_passed : (t : Bool) (x k : ℕ) → pick t x (suc k) ≡ 0 → (t ≡ true) × (x ≡ 0)
unfolding pick
pick_passed true x k h = (refl, h)
pick_passed false x k h = absurd (omega (arith, h))

pub pick_avoided : (t : Bool) (x k : ℕ) → pick t (suc k) x ≡ 0 → (t ≡ false) × (x ≡ 0)
unfolding pick
pick_avoided true x k h = absurd (omega (arith, h))
pick_avoided false x k h = (refl, h)

pub both_left : (a b : Bool) → both a b ≡ true → a ≡ true
unfolding both
both_left true b h = refl
both_left false b h = h

pub both_right : (a b : Bool) → both a b ≡ true → b ≡ true
unfolding both
both_right true b h = h
both_right false b h = absurd (false≢true h)

pub both_true : (a b : Bool) → a ≡ true → b ≡ true → both a b ≡ true
unfolding both
both_true a b p q = rw (p, q)

pub either_left : (a b : Bool) → either a b ≡ false → a ≡ false
unfolding either
either_left true b h = h
either_left false b h = refl

pub either_right : (a b : Bool) → either a b ≡ false → b ≡ false
unfolding either
either_right true b h = absurd (false≢true (sym h))
either_right false b h = h

-- a search for b that has passed i elements
pub index_hit : (xs : List ℕ) (b i total : ℕ) → i + index_of b (drop i xs) ≡ total → i < length xs → get_or xs i 0 ≡ b → i ≡ total
unfolding index_of
index_hit xs b i total inv h e = sym (add-zero i) ∙ rw (drop-cons xs i 0 h, eq-eqb (get_or xs i 0) b e, index_of) at inv

pub index_miss : (xs : List ℕ) (b i total : ℕ) → i + index_of b (drop i xs) ≡ total → i < length xs → (get_or xs i 0 ≡ b → ⊥)
    → i + 1 + index_of b (drop (i + 1) xs) ≡ total
unfolding index_of
index_miss xs b i total inv h n =
    let e : i + suc (index_of b (drop (suc i) xs)) ≡ total = rw (drop-cons xs i 0 h, ne_eqb (get_or xs i 0) b n, index_of) at inv in
    rw add-one (omega arith)

pub index_end : (xs : List ℕ) (b i total : ℕ) → i + index_of b (drop i xs) ≡ total → length xs ≤ i → i ≡ total
unfolding index_of
index_end xs b i total inv h = sym (add-zero i) ∙ rw (drop_of_length-le xs h) at inv

pub index_le : (b : ℕ) (xs : List ℕ) → index_of b xs ≤ length xs
unfolding index_of
index_le b [] = omega arith
index_le b (x ∷ xs) = go (known (eqb x b)) (index_le b xs)
  where
    go : Known (eqb x b) → index_of b xs ≤ length xs → index_of b (x ∷ xs) ≤ length (x ∷ xs)
    go (was_true t) h = rw (t, index_of) (omega arith)
    go (was_false t) h = rw (t, index_of) (omega arith)

-- a run over the indices below n that has passed i
module _ (p : ℕ → Bool) (n i : ℕ) where
  step : i < n → n - i ≡ suc (n - suc i)
  step h = omega arith

  pub all_hit : i < n → p i ≡ true → all p (i + 1) (n - (i + 1)) ≡ all p i (n - i)
  unfolding all
  all_hit h t = rw (add-one i, step h, t, all)

  pub all_miss : i < n → p i ≡ false → false ≡ all p i (n - i)
  unfolding all
  all_miss h t = rw (step h, t, all)

  pub all_end : n ≤ i → true ≡ all p i (n - i)
  unfolding all
  all_end h = let e : n - i ≡ 0 = omega arith in rw e

  pub lowest_hit : i < n → p i ≡ true → lowest p i (n - i) ≡ i
  unfolding lowest
  lowest_hit h t = rw (step h, t, lowest)

  pub lowest_miss : i < n → p i ≡ false → lowest p (i + 1) (n - (i + 1)) ≡ lowest p i (n - i)
  unfolding lowest
  lowest_miss h t = rw (add-one i, step h, t, lowest)

  pub lowest_end : n ≤ i → lowest p i (n - i) ≡ i
  unfolding lowest
  lowest_end h = let e : n - i ≡ 0 = omega arith in rw e

-- what the test says of each index
pub all_at : (p : ℕ → Bool) (i k j : ℕ) → all p i k ≡ true → j < k → p (i + j) ≡ true
unfolding all
all_at p i zero j e h = absurd (omega arith)
all_at p i (suc k) j e h = go (known (p i)) j h (λ d g a. all_at p (suc i) k d a g)
  where
    go : Known (p i) → (j : ℕ) → j < suc k → ((d : ℕ) → d < k → all p (suc i) k ≡ true → p (suc i + d) ≡ true) → p (i + j) ≡ true
    go (was_true t) zero g ih = rw add-zero t
    go (was_true t) (suc d) g ih =
        let s : i + suc d ≡ suc i + d = omega arith in
        rw s (ih d (omega arith) (rw (t, all) at e))
    go (was_false t) d g ih = absurd (false≢true (rw (t, all) at e))

pub all_of : (p : ℕ → Bool) (i k : ℕ) → ((j : ℕ) → j < k → p (i + j) ≡ true) → all p i k ≡ true
unfolding all
all_of p i zero f = refl
all_of p i (suc k) f =
    let t : p i ≡ true = rw add-zero at (f 0 (omega arith)) in
    rw (t, all) (all_of p (suc i) k (λ j h. let s : suc i + j ≡ i + suc j = omega arith in rw s (f (suc j) (omega arith))))

-- tests that agree below the bound
pub all_same : (p q : ℕ → Bool) (i k : ℕ) → ((j : ℕ) → i ≤ j → j < i + k → p j ≡ q j) → all p i k ≡ all q i k
unfolding all
all_same p q i zero e = refl
all_same p q i (suc k) e = go (known (q i)) (e i (omega arith) (omega arith)) (all_same p q (suc i) k (λ j l h. e j (omega arith) (omega arith)))
  where
    go : Known (q i) → p i ≡ q i → all p (suc i) k ≡ all q (suc i) k → all p i (suc k) ≡ all q i (suc k)
    go (was_true t) first rest = rw (first, t, all) rest
    go (was_false t) first rest = rw (first, t, all)

-- what a run from 0 says of each index
pub all_from : (p : ℕ → Bool) (n j : ℕ) → all p 0 n ≡ true → j < n → p j ≡ true
all_from p n j e h = rw zero-add at (all_at p 0 n j e h)

pub all_zero : (p : ℕ → Bool) (n : ℕ) → ((j : ℕ) → j < n → p j ≡ true) → all p 0 n ≡ true
all_zero p n f = all_of p 0 n (λ j h. rw zero-add (f j h))

-- the rest of a slice, as it arrives from `&s[a..]`
pub rest_part : {A : Type 0} (s : List A) (a : ℕ) → take (length s - a) (drop a s) ≡ drop a s
rest_part s a = take_all (length s - a) (drop a s) (omega (arith, length-drop a s))

-- a list of zeros holds 0 everywhere, and past its end
pub zeros_at : (n i : ℕ) → ◌≡◌ {A = ℕ} (get_or (replicate n 0) i 0) 0
zeros_at zero i = refl
zeros_at (suc n) zero = refl
zeros_at (suc n) (suc i) = zeros_at n i
