-- A list of distinct numbers below n has at most n entries: without n - 1 it is one of distinct numbers below n - 1, shorter by one at most.
use mathlib.Core.Path.{◌≡◌, refl, ap, sym, ◌∙◌}
use mathlib.Core.Bool.{true, false, true≢false, false≢true}
use mathlib.Core.Logic.{◌⊎◌, inl, inr, ◌≢◌}
use mathlib.Core.List.{List, [], ◌∷◌}
use Prim.Native.Nat.{ℕ, zero, suc, ◌≤◌, ◌<◌}
use native.Mathlib.Omega.{arith}
use native.Mathlib.Nat.{not-suc-le-zero}
use lib.Dec.{eqb}
use lib.ListN.{length, take}
use borrow.Author.Tests.{eqb-true, eqb-false, eq-eqb, ne_eqb}
use Rattle.lists.specs.Members.{has, Distinct}
use Rattle.lists.specs.Inner.{Below}
use Rattle.lists.proofs.Laws.{Known, was_true, was_false, known}

-- the laws of `has`
module _ (x y : ℕ) (ys : List ℕ) where
  pub has_here : x ≡ y → has x (y ∷ ys) ≡ true
  unfolding has
  has_here e = rw (eq-eqb x y e, has)

  pub has_later : has x ys ≡ true → has x (y ∷ ys) ≡ true
  unfolding has
  has_later h = go (known (eqb x y))
    where
      go : Known (eqb x y) → has x (y ∷ ys) ≡ true
      go (was_true t) = rw (t, has)
      go (was_false t) = rw (t, has) h

  pub has_cases : has x (y ∷ ys) ≡ true → (x ≡ y) ⊎ (has x ys ≡ true)
  unfolding has
  has_cases h = go (known (eqb x y))
    where
      go : Known (eqb x y) → (x ≡ y) ⊎ (has x ys ≡ true)
      go (was_true t) = inl (eqb-true x y t)
      go (was_false t) = inr (rw (t, has) at h)

  pub misses_both : has x (y ∷ ys) ≡ false → (x ≢ y) × (has x ys ≡ false)
  unfolding has
  misses_both h = go (known (eqb x y))
    where
      go : Known (eqb x y) → (x ≢ y) × (has x ys ≡ false)
      go (was_true t) = absurd (true≢false (rw (t, has) at h))
      go (was_false t) = (eqb-false x y t, rw (t, has) at h)

  pub both_missed : x ≢ y → has x ys ≡ false → has x (y ∷ ys) ≡ false
  unfolding has
  both_missed n h = rw (ne_eqb x y n, has) h

pub has_nothing : (x : ℕ) → has x [] ≡ true → ⊥
unfolding has
has_nothing x h = false≢true h

pub below_has : (n x : ℕ) (xs : List ℕ) → Below n xs → has x xs ≡ true → x < n
below_has n x [] b h = absurd (has_nothing x h)
below_has n x (y ∷ ys) b h = go (has_cases x y ys h) (λ g. below_has n x ys b.1 g)
  where
    go : (x ≡ y) ⊎ (has x ys ≡ true) → (has x ys ≡ true → x < n) → x < n
    go (inl e) ih = rw e b.0
    go (inr g) ih = ih g

-- a list's beginning
pub has-take : (k x : ℕ) (xs : List ℕ) → has x (take k xs) ≡ true → has x xs ≡ true
has-take zero x xs h = absurd (has_nothing x h)
has-take (suc k) x [] h = absurd (has_nothing x h)
has-take (suc k) x (y ∷ ys) h = go (has_cases x y (take k ys) h) (λ g. has-take k x ys g)
  where
    go : (x ≡ y) ⊎ (has x (take k ys) ≡ true) → (has x (take k ys) ≡ true → has x ys ≡ true) → has x (y ∷ ys) ≡ true
    go (inl e) ih = has_here x y ys e
    go (inr g) ih = has_later x y ys (ih g)

pub missed_take : (k x : ℕ) (xs : List ℕ) → has x xs ≡ false → has x (take k xs) ≡ false
missed_take k x xs h = go (known (has x (take k xs)))
  where
    go : Known (has x (take k xs)) → has x (take k xs) ≡ false
    go (was_true t) = absurd (true≢false (sym (has-take k x xs t) ∙ h))
    go (was_false t) = t

pub distinct_take : (k : ℕ) (xs : List ℕ) → Distinct xs → Distinct (take k xs)
distinct_take zero xs d = tt
distinct_take (suc k) [] d = tt
distinct_take (suc k) (x ∷ xs) d = (missed_take k x xs d.0, distinct_take k xs d.1)

-- the list without x
unfoldable without : ℕ → List ℕ → List ℕ
without x [] = []
without x (y ∷ ys) = elim (eqb x y) [ true ↦ without x ys | false ↦ y ∷ without x ys ]

without_absent : (x : ℕ) (ys : List ℕ) → has x ys ≡ false → without x ys ≡ ys
unfolding without
without_absent x [] h = refl
without_absent x (y ∷ ys) h = let e = misses_both x y ys h in rw (ne_eqb x y e.0, without) (ap (λ (l : List ℕ). y ∷ l) (without_absent x ys e.1))

has-without : (z x : ℕ) (ys : List ℕ) → has z ys ≡ false → has z (without x ys) ≡ false
unfolding without
has-without z x [] h = h
has-without z x (y ∷ ys) h = let e = misses_both z y ys h in go (known (eqb x y)) e.0 (has-without z x ys e.1)
  where
    go : Known (eqb x y) → z ≢ y → has z (without x ys) ≡ false → has z (without x (y ∷ ys)) ≡ false
    go (was_true t) a b = rw (t, without) b
    go (was_false t) a b = rw (t, without) (both_missed z y (without x ys) a b)

without_distinct : (x : ℕ) (ys : List ℕ) → Distinct ys → Distinct (without x ys)
unfolding without
without_distinct x [] d = tt
without_distinct x (y ∷ ys) d = go (known (eqb x y)) (without_distinct x ys d.1)
  where
    go : Known (eqb x y) → Distinct (without x ys) → Distinct (without x (y ∷ ys))
    go (was_true t) ih = rw (t, without) ih
    go (was_false t) ih = rw (t, without) (has-without y x ys d.0, ih)

without_below : (n : ℕ) (ys : List ℕ) → Below (suc n) ys → Below n (without n ys)
unfolding without
without_below n [] b = tt
without_below n (y ∷ ys) b = go (known (eqb n y)) (without_below n ys b.1)
  where
    go : Known (eqb n y) → Below n (without n ys) → Below n (without n (y ∷ ys))
    go (was_true t) ih = rw (t, without) ih
    go (was_false t) ih = let q = eqb-false n y t in let l : y < suc n = b.0 in rw (t, without) (omega (arith, l, q), ih)

without-length : (x : ℕ) (ys : List ℕ) → Distinct ys → length ys ≤ suc (length (without x ys))
unfolding without
without-length x [] d = omega arith
without-length x (y ∷ ys) d = go (known (eqb x y)) (without-length x ys d.1)
  where
    go : Known (eqb x y) → length ys ≤ suc (length (without x ys)) → suc (length ys) ≤ suc (length (without x (y ∷ ys)))
    go (was_true t) ih =
        let absent : without x ys ≡ ys = ap (λ (z : ℕ). without z ys) (eqb-true x y t) ∙ without_absent y ys d.0 in
        rw (t, without, absent) (omega arith)
    go (was_false t) ih = rw (t, without) (omega arith)

pub pigeon : (n : ℕ) (xs : List ℕ) → Distinct xs → Below n xs → length xs ≤ n
pigeon zero [] d b = omega arith
pigeon zero (x ∷ xs) d b = absurd (not-suc-le-zero b.0)
pigeon (suc n) xs d b = omega (arith, without-length n xs d, pigeon n (without n xs) (without_distinct n xs d) (without_below n xs b))
