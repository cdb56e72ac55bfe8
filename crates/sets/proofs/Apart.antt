-- Laws of sets without others, and of collected sets. The numbers of m that s has not make m with those that both have, and the two share none, so taking the
-- second away leaves the first.
use mathlib.Core.Path.{◌≡◌, refl, sym, ap, ◌∙◌}
use mathlib.Core.Bool.{Bool, true, false, not, true≢false}
use mathlib.Core.Logic.{◌⊎◌, inl, inr}
use Prim.Native.Nat.{ℕ, ◌+◌, ◌-◌, ◌<◌, ◌≤◌, ◌^◌}
use native.Mathlib.Omega.{arith}
use lib.Dec.{ltb}
use borrow.Author.Tests.{lt-ltb, le-ltb, ltb-true}
use Rattle.lists.specs.Choice.{both, either}
use Rattle.lists.proofs.Laws.{lt_or_ge, both_left, both_right, both_true}
use Rattle.sets.specs.Sets.{none, has_bit, joined, common, without, collect}
use Rattle.sets.specs.Inner.{set_width}
use Rattle.sets.proofs.Bits.{has_past, has-none, has-joined, joined_less, collect_new, collect_from}
use Rattle.sets.proofs.Scan.{has-common, bits_ext}

-- two tests that hold together are the same
alike : (a b : Bool) → (a ≡ true → b ≡ true) → (b ≡ true → a ≡ true) → a ≡ b
alike true b f g = sym (f refl)
alike false true f g = g refl
alike false false f g = refl

-- a collected set has the numbers with the property
pub has-collect : (p : ℕ → Bool) (n c : ℕ) → has_bit (collect p none 0 n) c ≡ both (ltb c n) (p c)
has-collect p n c = alike _ _ (λ t. from (collect_from p none 0 n c t)) (λ t. collect_new p none 0 n c (omega arith) (omega (arith, ltb-true c n (both_left _ _ t))) (both_right _ _ t))
  where
    from : (has_bit none c ≡ true) ⊎ ((0 ≤ c) × (c < 0 + n) × (p c ≡ true)) → both (ltb c n) (p c) ≡ true
    from (inl t) = absurd (true≢false (sym t ∙ has-none c))
    from (inr t) = both_true _ _ (lt-ltb c n (omega (arith, t.1))) t.2

-- the numbers of m that s has not: with those that both have they are m, and the two share none
module _ (m s : ℕ) (fits : m < 2 ^ set_width) where
  abbrev only : ℕ → Bool
  only c = both (has_bit m c) (not (has_bit s c))

  abbrev lone : ℕ
  lone = collect only none 0 set_width

  lone_has : (c : ℕ) → has_bit lone c ≡ only c
  unfolding both
  lone_has c = has-collect only set_width c ∙ go (lt_or_ge c set_width)
    where
      go : (c < set_width) ⊎ (set_width ≤ c) → both (ltb c set_width) (only c) ≡ only c
      go (inl l) = rw (lt-ltb c set_width l)
      go (inr l) = rw (le-ltb c set_width l, has_past m set_width c fits l)

  parted : (x y : Bool) → either (both x (not y)) (both x y) ≡ x
  unfolding either both
  parted true true = refl
  parted true false = refl
  parted false y = refl

  apart : (x y : Bool) → both x (not y) ≡ true → both x y ≡ true → ⊥
  unfolding both
  apart true true p q = true≢false (sym p)
  apart true false p q = true≢false (sym q)
  apart false y p q = true≢false (sym p)

  whole : joined lone (common m s) ≡ m
  whole = bits_ext _ _ (λ c. has-joined lone (common m s) c ∙ rw (lone_has c, has-common m s c) (parted (has_bit m c) (has_bit s c)))

  pub has-without : (c : ℕ) → has_bit (without m s) c ≡ both (has_bit m c) (not (has_bit s c))
  has-without c =
      ap (λ (n : ℕ). has_bit (n - common m s) c) (sym whole)
      ∙ ap (λ (n : ℕ). has_bit n c) (joined_less lone (common m s) (λ d p q. apart (has_bit m d) (has_bit s d) (sym (lone_has d) ∙ p) (sym (has-common m s d) ∙ q)))
      ∙ lone_has c

-- two sets that share no number: taking the second away from both leaves the first
pub joined_back : (m s : ℕ) → ((c : ℕ) → has_bit m c ≡ true → has_bit s c ≡ true → ⊥) → without (joined m s) s ≡ m
unfolding both either
joined_back m s d = ap (λ (n : ℕ). joined m s - n) shared ∙ joined_less m s d
  where
    second : (x y : Bool) → both (either x y) y ≡ y
    second true y = refl
    second false true = refl
    second false false = refl

    shared : common (joined m s) s ≡ s
    shared = bits_ext _ _ (λ c. has-common (joined m s) s c ∙ rw (has-joined m s c) (second (has_bit m c) (has_bit s c)))
