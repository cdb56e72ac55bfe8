-- Bytes kept in a room of fixed size: a run of stores that drops what is past the end, so that what is kept of them is their beginning. The room's size is
-- any number here.
use mathlib.Core.Path.{◌≡◌, refl, sym, ap, ◌∙◌}
use mathlib.Core.Logic.{◌⊎◌, inl, inr}
use mathlib.Core.List.{List, [], ◌∷◌, ◌++◌}
use Prim.Native.Nat.{ℕ, suc, min, ◌+◌, ◌≤◌, ◌<◌}
use native.Mathlib.Nat.{add-zero}
use native.Mathlib.Omega.{arith}
use lib.Dec.{leb}
use lib.ListN.{length, take, set, length-take, length-append}
use lib.Seq.{sets, take_all, take-take, take-append-le, take-set-lt, take-set-le, take-suc-set, set_out}
use borrow.Author.Tests.{leb-true, leb-false}
use Rattle.lists.specs.Choice.{pick}
use Rattle.lists.proofs.Laws.{Known, was_true, was_false, known, lt_or_ge, pick_yes, pick_no}
use Rattle.lists.proofs.Stored.{stored_past}

-- stores, and then more of them
sets_join : (t l m : List ℕ) (k : ℕ) → sets t k (l ++ m) ≡ sets (sets t k l) (k + length l) m
sets_join t [] m k = rw (add-zero k)
sets_join t (a ∷ l) m k =
    let e : k + suc (length l) ≡ suc k + length l = omega arith in
    rw e (sets_join (set t k a) l m (suc k))

module _ (n : ℕ) where
  pub capped : (x : ℕ) → pick (leb x n) x n ≡ min x n
  capped x = split (known (leb x n))
    where
      split : Known (leb x n) → pick (leb x n) x n ≡ min x n
      split (was_true t) = let h = leb-true x n t in pick_yes (leb x n) x n t ∙ omega (arith, h)
      split (was_false t) = let h = leb-false x n t in pick_no (leb x n) x n t ∙ omega (arith, h)

  -- the first n of the list after the stores are the stores into the first n
  take-set : (t : List ℕ) (k a : ℕ) → take n (set t k a) ≡ set (take n t) k a
  take-set t k a = split (lt_or_ge k n)
    where
      split : (k < n) ⊎ (n ≤ k) → take n (set t k a) ≡ set (take n t) k a
      split (inl h) = take-set-lt n t k a h
      split (inr h) = take-set-le n t k a h ∙ sym (set_out (take n t) k a (omega (arith, h, length-take n t)))

  take_sets : (t : List ℕ) (k : ℕ) (l : List ℕ) → take n (sets t k l) ≡ sets (take n t) k l
  take_sets t k [] = refl
  take_sets t k (a ∷ l) = take_sets (set t k a) (suc k) l ∙ ap (λ (r : List ℕ). sets r (suc k) l) (take-set t k a)

  -- stores from n on, or from further on, leave the first n as they are
  sets_capped : (t : List ℕ) (k : ℕ) (l : List ℕ) → sets (take n t) (min k n) l ≡ sets (take n t) k l
  sets_capped t k l = split (lt_or_ge k n)
    where
      split : (k < n) ⊎ (n ≤ k) → sets (take n t) (min k n) l ≡ sets (take n t) k l
      split (inl h) = let e : min k n ≡ k = omega arith in rw e
      split (inr h) =
          let e : min k n ≡ n = omega arith in
          rw (e, stored_past (take n t) l n (omega (arith, length-take n t)), stored_past (take n t) l k (omega (arith, h, length-take n t)))

  -- the first k and the first n
  pub take-both : (k : ℕ) (t : List ℕ) → take n (take k t) ≡ take (min k n) (take n t)
  take-both k t = split (lt_or_ge k n)
    where
      split : (k < n) ⊎ (n ≤ k) → take n (take k t) ≡ take (min k n) (take n t)
      split (inl h) =
          let e : min k n ≡ k = omega arith in
          rw e (take_all n (take k t) (omega (arith, h, length-take k t)) ∙ sym (take-take k n t (omega arith)))
      split (inr h) =
          let e : min k n ≡ n = omega arith in
          rw e (take-take n k t h ∙ sym (take-take n n t (omega arith)))

  -- one byte more
  pub kept_more : (t p : List ℕ) (k c : ℕ) → length t ≡ n → k ≡ min (length p) n → take k t ≡ take n p
      → take (min (k + 1) n) (set t k c) ≡ take n (p ++ (c ∷ []))
  kept_more t p k c long used kept = split (lt_or_ge (length p) n)
    where
      split : (length p < n) ⊎ (n ≤ length p) → take (min (k + 1) n) (set t k c) ≡ take n (p ++ (c ∷ []))
      split (inl h) =
          let e : min (k + 1) n ≡ suc k = omega (arith, used) in
          let f : take k t ≡ p = kept ∙ take_all n p (omega arith) in
          let g : length (p ++ (c ∷ [])) ≤ n = omega (arith, h, length-append p (c ∷ [])) in
          rw e (take-suc-set t k c (omega (arith, used, long)) ∙ ap (λ (r : List ℕ). r ++ (c ∷ [])) f ∙ sym (take_all n (p ++ (c ∷ [])) g))
      split (inr h) =
          let e : min (k + 1) n ≡ k = omega (arith, used) in
          rw e (ap (λ (r : List ℕ). take k r) (set_out t k c (omega (arith, used, long))) ∙ kept ∙ sym (take-append-le n p (c ∷ []) h))

  -- the room as far as it reaches, how much of it is used and what it holds: after no bytes, after bytes, and after more of them
  abbrev cap : ℕ → ℕ
  cap x = pick (leb x n) x n

  pub used_nothing : (u : ℕ) → min (cap (u + 0)) n ≡ min u n
  used_nothing u = rw (capped (u + 0)) (omega arith)

  pub used_seen : (u a : ℕ) → min (cap (u + a)) n ≡ min (cap (min u n + a)) n
  used_seen u a = rw (capped (u + a), capped (min u n + a)) (omega arith)

  pub used_join : (u a b c : ℕ) → c ≡ a + b → min (cap (cap (u + a) + b)) n ≡ min (cap (u + c)) n
  used_join u a b c e = rw (capped (u + a), capped (min (u + a) n + b), capped (u + c)) (omega (arith, e))

  pub text_seen : (t : List ℕ) (u : ℕ) (l : List ℕ) → take n (sets t u l) ≡ take n (sets (take n t) (min u n) l)
  text_seen t u l =
      rw (take_sets t u l, take_sets (take n t) (min u n) l, take-take n n t (omega arith)) (sym (sets_capped t u l))

  pub text_join : (t : List ℕ) (u : ℕ) (l m : List ℕ) → take n (sets (sets t u l) (cap (u + length l)) m) ≡ take n (sets t u (l ++ m))
  text_join t u l m =
      rw (take_sets (sets t u l) (cap (u + length l)) m, capped (u + length l), sets_capped (sets t u l) (u + length l) m)
      (sym (take_sets (sets t u l) (u + length l) m) ∙ ap (λ (r : List ℕ). take n r) (sym (sets_join t l m u)))
