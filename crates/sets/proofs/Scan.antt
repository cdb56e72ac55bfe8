-- Laws of going over a set, lowest number first. Halving a number takes its lowest bit away, so what holds of all bits is shown bit by bit; the search finds the
-- lowest bit that is set, and a set without that bit has the same other bits.
use mathlib.Core.Path.{◌≡◌, refl, sym, ap, ◌∙◌}
use mathlib.Core.Bool.{Bool, true, false, not, true≢false}
use mathlib.Core.Logic.{◌⊎◌, inl, inr, ◌≢◌}
use Prim.Native.Nat.{ℕ, zero, suc, ◌+◌, ◌-◌, ◌*◌, ◌<◌, ◌≤◌, ◌^◌, ◌/◌, ◌%◌, min}
use native.Mathlib.Nat.{one-mul, mod-lt, pow-suc, div-one, pow-zero}
use native.Mathlib.Omega.{arith}
use lib.Dec.{ltb, eqb, lit<}
use lib.Arith.{digits_mod}
use lib.Bits.{bit_and, and_shr, and_step}
use lib.Count.{count_trailing_zeros, under}
use lib.Pow.{pow_pos, shl_exact}
use borrow.Author.Tests.{lt-ltb, le-ltb, eq-eqb, ne_eqb, eqb-true, eqb-false}
use Rattle.lists.specs.Choice.{both}
use Rattle.lists.specs.Lists.{lowest}
use Rattle.lists.proofs.Laws.{Known, was_true, was_false, known, lt_or_ge, eq_or_ne, pick_yes, pick_no}
use Rattle.lists.proofs.Lowest.{Least, lowest_least}
use Rattle.sets.specs.Sets.{has_bit}
use Rattle.sets.specs.Sets.{common}
use Rattle.sets.specs.Inner.{is_empty, word_width, set_width, dropped, lowest_in}
use Rattle.sets.proofs.Bits.{bit_at, bit_small, has_past, has-none, has_half, has_odd}

-- the bits of what two sets have in common
odd_and : (a b : ℕ) → bit_and a b % 2 ≡ min (a % 2) (b % 2)
odd_and a b =
    let p : a % 2 < 2 = mod-lt a (lit< tt) in
    let s : min (a % 2) (b % 2) < 2 = omega arith in
    ap (λ (n : ℕ). n % 2) (and_step a b) ∙ digits_mod (bit_and (a / 2) (b / 2)) s

bit_at-bit_and : (a b k : ℕ) → bit_at (bit_and a b) k ≡ min (bit_at a k) (bit_at b k)
bit_at-bit_and a b k = ap (λ (n : ℕ). n % 2) (and_shr a b k) ∙ odd_and (a / 2 ^ k) (b / 2 ^ k)

min_both : (x y : ℕ) → x < 2 → y < 2 → eqb (min x y) 1 ≡ both (eqb x 1) (eqb y 1)
unfolding both
min_both x y p q = go (eq_or_ne x 1) (eq_or_ne y 1)
  where
    go : (x ≡ 1) ⊎ (x ≢ 1) → (y ≡ 1) ⊎ (y ≢ 1) → eqb (min x y) 1 ≡ both (eqb x 1) (eqb y 1)
    go (inl e) (inl f) = rw (eq-eqb (min x y) 1 (omega arith), eq-eqb x 1 e, eq-eqb y 1 f)
    go (inl e) (inr f) = rw (ne_eqb (min x y) 1 (λ z. omega (arith, e, f, z)), eq-eqb x 1 e, ne_eqb y 1 f)
    go (inr e) f = rw (ne_eqb (min x y) 1 (λ z. omega (arith, e, z)), ne_eqb x 1 e)

pub has-common : (a b c : ℕ) → has_bit (common a b) c ≡ both (has_bit a c) (has_bit b c)
unfolding has_bit
has-common a b c = ap (λ (n : ℕ). eqb n 1) (bit_at-bit_and a b c) ∙ min_both (bit_at a c) (bit_at b c) (bit_small a c) (bit_small b c)

-- equal bits, equal sets
low_bit : (m : ℕ) → has_bit m 0 ≡ eqb (m % 2) 1
unfolding has_bit
low_bit m = ap (λ (n : ℕ). eqb (n % 2) 1) (div-one m)

same_odd : (a b : ℕ) → eqb (a % 2) 1 ≡ eqb (b % 2) 1 → a % 2 ≡ b % 2
same_odd a b e = go (eq_or_ne (a % 2) 1) (eq_or_ne (b % 2) 1)
  where
    go : (a % 2 ≡ 1) ⊎ (a % 2 ≢ 1) → (b % 2 ≡ 1) ⊎ (b % 2 ≢ 1) → a % 2 ≡ b % 2
    go (inl p) (inl q) = p ∙ sym q
    go (inl p) (inr q) = absurd (true≢false (sym (eq-eqb _ _ p) ∙ e ∙ ne_eqb _ _ q))
    go (inr p) (inl q) = absurd (true≢false (sym (eq-eqb _ _ q) ∙ sym e ∙ ne_eqb _ _ p))
    go (inr p) (inr q) = omega (arith, p, q)

ext_to : (k a b : ℕ) → a ≤ k → b ≤ k → ((c : ℕ) → has_bit a c ≡ has_bit b c) → a ≡ b
ext_to zero a b l h f = omega arith
ext_to (suc k) a b l h f =
    let odd : a % 2 ≡ b % 2 = same_odd a b (sym (low_bit a) ∙ f 0 ∙ low_bit b) in
    let p : a / 2 ≤ k = omega arith in
    let q : b / 2 ≤ k = omega arith in
    let half : a / 2 ≡ b / 2 = ext_to k (a / 2) (b / 2) p q (λ c. has_half a c ∙ f (suc c) ∙ sym (has_half b c)) in
    omega arith

pub bits_ext : (a b : ℕ) → ((c : ℕ) → has_bit a c ≡ has_bit b c) → a ≡ b
bits_ext a b f = ext_to (a + b) a b (omega arith) (omega arith) f

-- a set that has c is no smaller than 2 ^ c
pub has_least : (m c : ℕ) → has_bit m c ≡ true → 2 ^ c ≤ m
has_least m c h = go (lt_or_ge m (2 ^ c))
  where
    go : (m < 2 ^ c) ⊎ (2 ^ c ≤ m) → 2 ^ c ≤ m
    go (inl l) = absurd (true≢false (sym h ∙ has_past m c c l (omega arith)))
    go (inr l) = l

-- for the code: a set of the code's width has no number past it, and its shift gives 2 ^ c
pub has_inside : (m c : ℕ) → m < 2 ^ set_width → has_bit m c ≡ true → c < set_width
has_inside m c s h = go (lt_or_ge c set_width)
  where
    go : (c < set_width) ⊎ (set_width ≤ c) → c < set_width
    go (inl l) = l
    go (inr l) = absurd (true≢false (sym h ∙ has_past m set_width c s l))

pub shifted_one : (c : ℕ) → c < set_width → 1 * 2 ^ c % 2 ^ word_width ≡ 2 ^ c
shifted_one c h = shl_exact {a = 1} 1 c word_width (lit< tt) (omega arith) ∙ one-mul (2 ^ c)

-- a bit other than c is not touched
apart : (m k c : ℕ) → k ≢ c → has_bit m k ≡ both (has_bit m k) (not (eqb k c))
unfolding both
apart m k c n = go (known (has_bit m k))
  where
    go : Known (has_bit m k) → has_bit m k ≡ both (has_bit m k) (not (eqb k c))
    go (was_true t) = rw (t, ne_eqb k c n)
    go (was_false t) = rw t

-- the bits of a set without c, halved as long as c is not the lowest
one_less : (m c k : ℕ) → has_bit m c ≡ true → has_bit (m - 2 ^ c) k ≡ both (has_bit m k) (not (eqb k c))
unfolding both
one_less m zero zero h =
    let odd : m % 2 ≡ 1 = eqb-true _ _ (sym (low_bit m) ∙ h) in
    let even : (m - 2 ^ 0) % 2 ≡ 0 = rw pow-zero (omega arith) in
    rw (low_bit (m - 2 ^ 0), even, h)
one_less m zero (suc k) h =
    let odd : m % 2 ≡ 1 = eqb-true _ _ (sym (low_bit m) ∙ h) in
    let half : (m - 2 ^ 0) / 2 ≡ m / 2 = rw pow-zero (omega arith) in
    let s : has_bit (m - 2 ^ 0) (suc k) ≡ has_bit m (suc k) = sym (has_half (m - 2 ^ 0) k) ∙ ap (λ (n : ℕ). has_bit n k) half ∙ has_half m k in
    s ∙ apart m (suc k) 0 (λ z. omega (arith, z))
one_less m (suc c) zero h =
    let l = has_least m (suc c) h in
    let even : (m - 2 ^ suc c) % 2 ≡ m % 2 = omega (arith, pow-suc 2 c, l) in
    let s : has_bit (m - 2 ^ suc c) 0 ≡ has_bit m 0 = low_bit (m - 2 ^ suc c) ∙ ap (λ (n : ℕ). eqb n 1) even ∙ sym (low_bit m) in
    s ∙ apart m 0 (suc c) (λ z. omega (arith, z))
one_less m (suc c) (suc k) h =
    let l = has_least m (suc c) h in
    let half : (m - 2 ^ suc c) / 2 ≡ m / 2 - 2 ^ c = omega (arith, pow-suc 2 c, l) in
    sym (has_half (m - 2 ^ suc c) k) ∙ ap (λ (n : ℕ). has_bit n k) half
    ∙ one_less (m / 2) c k (has_half m c ∙ h) ∙ ap (λ (t : Bool). both t (not (eqb k c))) (has_half m k) ∙ ap (λ (t : Bool). both (has_bit m (suc k)) (not t)) (up (eq_or_ne k c))
  where
    up : (k ≡ c) ⊎ (k ≢ c) → eqb k c ≡ eqb (suc k) (suc c)
    up (inl e) = eq-eqb k c e ∙ sym (eq-eqb (suc k) (suc c) (ap suc e))
    up (inr n) = ne_eqb k c n ∙ sym (ne_eqb (suc k) (suc c) (λ z. n (omega arith)))

pub has-dropped : (m c k : ℕ) → has_bit (dropped m c) k ≡ both (has_bit m k) (not (eqb k c))
unfolding dropped both
has-dropped m c k = go (known (has_bit m c)) (eq_or_ne k c) (known (has_bit m k))
  where
    go : Known (has_bit m c) → (k ≡ c) ⊎ (k ≢ c) → Known (has_bit m k) → has_bit (dropped m c) k ≡ both (has_bit m k) (not (eqb k c))
    go (was_true t) e u = rw (pick_yes (has_bit m c) (m - 2 ^ c) m t) (one_less m c k t)
    go (was_false t) (inl e) u = rw (pick_no (has_bit m c) (m - 2 ^ c) m t, e, t)
    go (was_false t) (inr n) (was_true u) = rw (pick_no (has_bit m c) (m - 2 ^ c) m t, u, ne_eqb k c n)
    go (was_false t) (inr n) (was_false u) = rw (pick_no (has_bit m c) (m - 2 ^ c) m t, u)

pub dropped_less : (m c : ℕ) → has_bit m c ≡ true → dropped m c < m
unfolding dropped
dropped_less m c h = rw (pick_yes (has_bit m c) (m - 2 ^ c) m h) (omega (arith, has_least m c h, pow_pos c))

-- the search: a number with p below which none has p is the one found
pub lowest_is : (p : ℕ → Bool) (n r : ℕ) → r ≤ n → (r < n → p r ≡ true) → ((j : ℕ) → j < r → p j ≡ false) → lowest p 0 n ≡ r
lowest_is p n r l hit miss = go (lt_or_ge (lowest p 0 n) r) (lt_or_ge r (lowest p 0 n))
  where
    found : Least p 0 (0 + n) (lowest p 0 n)
    found = lowest_least p 0 n

    go : (lowest p 0 n < r) ⊎ (r ≤ lowest p 0 n) → (r < lowest p 0 n) ⊎ (lowest p 0 n ≤ r) → lowest p 0 n ≡ r
    go (inl a) b = absurd (true≢false (sym (found.hit (omega (arith, a, l))) ∙ miss (lowest p 0 n) a))
    go (inr a) (inl b) = absurd (true≢false (sym (hit (omega (arith, b, found.high))) ∙ found.miss r (omega arith) b))
    go (inr a) (inr b) = omega (arith, a, b)

-- one number further up
lowest_up : (p q : ℕ → Bool) (i k : ℕ) → ((j : ℕ) → p (suc j) ≡ q j) → lowest p (suc i) k ≡ suc (lowest q i k)
unfolding lowest
lowest_up p q i zero f = refl
lowest_up p q i (suc k) f = go (known (q i)) (lowest_up p q (suc i) k f)
  where
    go : Known (q i) → lowest p (suc (suc i)) k ≡ suc (lowest q (suc i) k) → lowest p (suc i) (suc k) ≡ suc (lowest q i (suc k))
    go (was_true t) ih = rw (f i, t, lowest)
    go (was_false t) ih = rw (f i, t, lowest) ih

-- the count of the zeros below the lowest bit is the lowest bit
pub lowest_bit : (k m : ℕ) → count_trailing_zeros k m ≡ lowest (has_bit m) 0 k
unfolding count_trailing_zeros lowest
lowest_bit zero m = refl
lowest_bit (suc k) m = go (m % 2) refl (lowest_bit k (m / 2))
  where
    go : (r : ℕ) → m % 2 ≡ r → count_trailing_zeros k (m / 2) ≡ lowest (has_bit (m / 2)) 0 k → under r (count_trailing_zeros k (m / 2)) ≡ lowest (has_bit m) 0 (suc k)
    go zero e ih =
        let t : has_bit m 0 ≡ false = low_bit m ∙ ne_eqb (m % 2) 1 (λ z. omega (arith, e, z)) in
        rw (t, lowest) (ap suc ih ∙ sym (lowest_up (has_bit m) (has_bit (m / 2)) 0 k (λ j. sym (has_half m j))))
    go (suc r) e ih =
        let t : has_bit m 0 ≡ true = has_odd m (omega (arith, e, mod-lt m {m = 2} (lit< tt))) in
        rw (t, lowest)

-- a set that is not empty has its lowest number
pub lowest_below_lem : (m : ℕ) → m < 2 ^ set_width → 0 < m → lowest (has_bit m) 0 set_width < set_width
lowest_below_lem m s h = go (lt_or_ge (lowest (has_bit m) 0 set_width) set_width)
  where
    found : Least (has_bit m) 0 set_width (lowest (has_bit m) 0 set_width)
    found = lowest_least (has_bit m) 0 set_width

    none : set_width ≤ lowest (has_bit m) 0 set_width → (c : ℕ) → (c < set_width) ⊎ (set_width ≤ c) → has_bit m c ≡ has_bit 0 c
    none l c (inl a) = found.miss c (omega arith) (omega (arith, a, l)) ∙ sym (has-none c)
    none l c (inr a) = has_past m set_width c s a ∙ sym (has-none c)

    go : (lowest (has_bit m) 0 set_width < set_width) ⊎ (set_width ≤ lowest (has_bit m) 0 set_width) → lowest (has_bit m) 0 set_width < set_width
    go (inl a) = a
    go (inr a) = let z : m ≡ 0 = bits_ext m 0 (λ c. none a c (lt_or_ge c set_width)) in absurd (omega arith)

pub lowest-has : (m : ℕ) → m < 2 ^ set_width → 0 < m → has_bit m (lowest (has_bit m) 0 set_width) ≡ true
lowest-has m s h = (lowest_least (has_bit m) 0 set_width).hit (lowest_below_lem m s h)

pub empty_above : (m : ℕ) → is_empty m ≡ not (ltb 0 m)
empty_above m = go (eq_or_ne m 0)
  where
    go : (m ≡ 0) ⊎ (m ≢ 0) → is_empty m ≡ not (ltb 0 m)
    go (inl z) = rw (eq-eqb m 0 z, le-ltb 0 m (omega (arith, z)))
    go (inr n) = rw (ne_eqb m 0 n, lt-ltb 0 m (omega (arith, n)))

pub lowest_in_lem : (m e : ℕ) → e ≡ lowest_in m → m < 2 ^ set_width → is_empty m ≡ false → has_bit m e ≡ true
lowest_in_lem m e is fits some = let above = eqb-false m 0 some in rw is (lowest-has m fits (omega (arith, above)))

-- the search over a set for a number with p: its lowest number has p, or it is dropped, or none is left
module _ (p : ℕ → Bool) where
  abbrev pub in_set : ℕ → ℕ → Bool
  in_set m k = both (has_bit m k) (p k)

  pub scan_hit : (m e : ℕ) → e ≡ lowest (has_bit m) 0 set_width → has_bit m e ≡ true → p e ≡ true → lowest (λ k. both (has_bit m k) (p k)) 0 set_width ≡ e
  unfolding both
  scan_hit m e is h t =
      lowest_is (in_set m) set_width e (omega (arith, is, (lowest_least (has_bit m) 0 set_width).high)) (λ l. rw (h, t)) (λ j l. rw ((lowest_least (has_bit m) 0 set_width).miss j (omega arith) (omega (arith, is, l))))

  pub scan_miss : (m e : ℕ) → e ≡ lowest (has_bit m) 0 set_width → p e ≡ false
      → lowest (λ k. both (has_bit (dropped m e) k) (p k)) 0 set_width ≡ lowest (λ k. both (has_bit m k) (p k)) 0 set_width
  unfolding both
  scan_miss m e is t = lowest_is (in_set (dropped m e)) set_width (lowest (in_set m) 0 set_width) found.high (λ l. same (lowest (in_set m) 0 set_width) ∙ found.hit l) (λ j l. same j ∙ found.miss j (omega arith) l)
    where
      found : Least (in_set m) 0 set_width (lowest (in_set m) 0 set_width)
      found = lowest_least (in_set m) 0 set_width

      same : (k : ℕ) → in_set (dropped m e) k ≡ in_set m k
      same k = go (eq_or_ne k e) (known (has_bit m k))
        where
          go : (k ≡ e) ⊎ (k ≢ e) → Known (has_bit m k) → in_set (dropped m e) k ≡ in_set m k
          go (inl q) (was_true u) = rw (has-dropped m e k, u, eq-eqb k e q, q, t)
          go (inr q) (was_true u) = rw (has-dropped m e k, u, ne_eqb k e q)
          go q (was_false u) = rw (has-dropped m e k, u)

  pub scan_end : lowest (λ k. both (has_bit 0 k) (p k)) 0 set_width ≡ set_width
  unfolding both
  scan_end = lowest_is (in_set 0) set_width set_width (omega arith) (λ l. absurd (omega arith)) (λ j l. rw (has-none j))
