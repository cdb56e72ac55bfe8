-- One element more at the end of a list: what is among the elements then, and when they stay distinct and below a bound.
use mathlib.Core.Path.{◌≡◌, refl, sym, ◌∙◌}
use mathlib.Core.Bool.{true, false, true≢false}
use mathlib.Core.Logic.{◌⊎◌, inl, inr, ◌≢◌}
use mathlib.Core.List.{List, [], ◌∷◌, ◌++◌}
use Prim.Native.Nat.{ℕ, ◌<◌}
use Rattle.lists.specs.Members.{has, Distinct}
use Rattle.lists.specs.Inner.{Below}
use Rattle.lists.proofs.Laws.{Known, was_true, was_false, known}
use Rattle.lists.proofs.Pigeon.{has_nothing, has_here, has_later, has_cases, misses_both}

pub has-not : (x : ℕ) (xs : List ℕ) → (has x xs ≡ true → ⊥) → has x xs ≡ false
has-not x xs n = at (known (has x xs))
  where
    at : Known (has x xs) → has x xs ≡ false
    at (was_true t) = absurd (n t)
    at (was_false t) = t

pub has_last : (x : ℕ) (xs : List ℕ) → has x (xs ++ (x ∷ [])) ≡ true
has_last x [] = has_here x x [] refl
has_last x (y ∷ ys) = has_later x y (ys ++ (x ∷ [])) (has_last x ys)

pub has_front : (x z : ℕ) (xs : List ℕ) → has x xs ≡ true → has x (xs ++ (z ∷ [])) ≡ true
has_front x z [] h = absurd (has_nothing x h)
has_front x z (y ∷ ys) h = at (has_cases x y ys h) (λ g. has_front x z ys g)
  where
    at : (x ≡ y) ⊎ (has x ys ≡ true) → (has x ys ≡ true → has x (ys ++ (z ∷ [])) ≡ true) → has x ((y ∷ ys) ++ (z ∷ [])) ≡ true
    at (inl q) ih = has_here x y (ys ++ (z ∷ [])) q
    at (inr g) ih = has_later x y (ys ++ (z ∷ [])) (ih g)

pub has-joined : (x z : ℕ) (xs : List ℕ) → has x (xs ++ (z ∷ [])) ≡ true → (has x xs ≡ true) ⊎ (x ≡ z)
has-joined x z [] h = at (has_cases x z [] h)
  where
    at : (x ≡ z) ⊎ (has x [] ≡ true) → (has x [] ≡ true) ⊎ (x ≡ z)
    at (inl q) = inr q
    at (inr g) = inl g
has-joined x z (y ∷ ys) h = at (has_cases x y (ys ++ (z ∷ [])) h) (λ g. has-joined x z ys g)
  where
    later : (has x ys ≡ true) ⊎ (x ≡ z) → (has x (y ∷ ys) ≡ true) ⊎ (x ≡ z)
    later (inl g) = inl (has_later x y ys g)
    later (inr q) = inr q

    at : (x ≡ y) ⊎ (has x (ys ++ (z ∷ [])) ≡ true) → (has x (ys ++ (z ∷ [])) ≡ true → (has x ys ≡ true) ⊎ (x ≡ z)) → (has x (y ∷ ys) ≡ true) ⊎ (x ≡ z)
    at (inl q) ih = inl (has_here x y ys q)
    at (inr g) ih = later (ih g)

pub distinct_joined : (z : ℕ) (xs : List ℕ) → Distinct xs → has z xs ≡ false → Distinct (xs ++ (z ∷ []))
unfolding has
distinct_joined z [] d n = (refl, tt)
distinct_joined z (x ∷ xs) d n =
    let m = misses_both z x xs n in
    (has-not x (xs ++ (z ∷ [])) (λ h. missed (has-joined x z xs h) m.0), distinct_joined z xs d.1 m.1)
  where
    missed : (has x xs ≡ true) ⊎ (x ≡ z) → z ≢ x → ⊥
    missed (inl h) a = true≢false (sym h ∙ d.0)
    missed (inr q) a = a (sym q)

pub below_joined : (n z : ℕ) (xs : List ℕ) → Below n xs → z < n → Below n (xs ++ (z ∷ []))
below_joined n z [] b h = (h, tt)
below_joined n z (x ∷ xs) b h = (b.0, below_joined n z xs b.1 h)
