-- Laws of sets of bits. Bit c of a union is the greater of the two bits c, and 2 ^ c has bit c alone; so adding c changes what is said of c and of nothing else.
-- Two sets with no common bit have the sum as their union, so taking one away leaves the other.
use mathlib.Core.Path.{◌≡◌, sym, ap, ◌∙◌, subst}
use mathlib.Core.Bool.{Bool, true, false}
use mathlib.Core.Logic.{◌⊎◌, inl, inr, ◌≢◌}
use Prim.Native.Nat.{ℕ, zero, suc, ◌+◌, ◌-◌, ◌*◌, ◌<◌, ◌≤◌, ◌^◌, ◌/◌, ◌%◌, max, min}
use native.Mathlib.Nat.{one-mul, div-eq_of_lt, mod-lt, max-zero, pow-suc, mul-mod_left}
use native.Mathlib.Numerals.{add-one}
use native.Mathlib.Omega.{arith}
use lib.Dec.{eqb, lit<}
use lib.Arith.{digits_mod}
use lib.Bits.{bit_or, bit_and, or_shr, or_step, and_step, and_zero_l, or_disjoint}
use lib.Pow.{shl_exact, shl-shr, shr-shr, pow-lt, pow-add, pow_mono}
use borrow.Author.Tests.{eq-eqb, ne_eqb}
use Rattle.lists.specs.Choice.{pick, either}
use Rattle.lists.proofs.Laws.{Known, was_true, was_false, known, lt_or_ge, eq_or_ne, pick_yes, pick_no}
use Rattle.sets.specs.Sets.{has_bit, with_bit, collect}
use Rattle.sets.specs.Inner.{word_width}

abbrev pub bit_at : ℕ → ℕ → ℕ
bit_at m c = m / 2 ^ c % 2

pub bit_small : (m c : ℕ) → bit_at m c < 2
bit_small m c = mod-lt (m / 2 ^ c) {m = 2} (lit< tt)

-- past the highest bit
pub has_past : (m n c : ℕ) → m < 2 ^ n → n ≤ c → has_bit m c ≡ false
unfolding has_bit
has_past m n c h l = let p = pow_mono {i = n} {j = c} l in let q : m < 2 ^ c = omega arith in rw (div-eq_of_lt q)

pub has-none : (c : ℕ) → has_bit 0 c ≡ false
has-none c = has_past 0 0 c (lit< tt) (omega arith)

-- the bits of a union
max_small : (x y : ℕ) → x < 2 → y < 2 → max x y < 2
max_small x y p q = omega arith

odd_or : (a b : ℕ) → bit_or a b % 2 ≡ max (a % 2) (b % 2)
odd_or a b =
    ap (λ (n : ℕ). n % 2) (or_step a b)
    ∙ digits_mod (bit_or (a / 2) (b / 2)) (max_small (a % 2) (b % 2) (mod-lt a (lit< tt)) (mod-lt b (lit< tt)))

bit_at-bit_or : (a b k : ℕ) → bit_at (bit_or a b) k ≡ max (bit_at a k) (bit_at b k)
bit_at-bit_or a b k = ap (λ (n : ℕ). n % 2) (or_shr a b k) ∙ odd_or (a / 2 ^ k) (b / 2 ^ k)

max_either : (x y : ℕ) → x < 2 → y < 2 → eqb (max x y) 1 ≡ either (eqb x 1) (eqb y 1)
unfolding either
max_either x y p q = go (eq_or_ne x 1) (eq_or_ne y 1)
  where
    go : (x ≡ 1) ⊎ (x ≢ 1) → (y ≡ 1) ⊎ (y ≢ 1) → eqb (max x y) 1 ≡ either (eqb x 1) (eqb y 1)
    go (inl e) f = rw (eq-eqb (max x y) 1 (omega arith), eq-eqb x 1 e)
    go (inr e) (inl f) = rw (eq-eqb (max x y) 1 (omega arith), ne_eqb x 1 e, eq-eqb y 1 f)
    go (inr e) (inr f) = rw (ne_eqb (max x y) 1 (λ z. omega (arith, e, f, z)), ne_eqb x 1 e, ne_eqb y 1 f)

pub has-joined : (a b c : ℕ) → has_bit (bit_or a b) c ≡ either (has_bit a c) (has_bit b c)
unfolding has_bit
has-joined a b c = ap (λ (n : ℕ). eqb n 1) (bit_at-bit_or a b c) ∙ max_either (bit_at a c) (bit_at b c) (bit_small a c) (bit_small b c)

-- the bits of 2 ^ c
pow_bit_same : (k : ℕ) → bit_at (2 ^ k) k ≡ 1
pow_bit_same k = ap (λ (n : ℕ). n % 2) (ap (λ (n : ℕ). n / 2 ^ k) (sym (one-mul (2 ^ k))) ∙ shl-shr 1 k)

pow_bit_above : (c k : ℕ) → c < k → bit_at (2 ^ c) k ≡ 0
pow_bit_above c k h = ap (λ (n : ℕ). n % 2) (div-eq_of_lt (pow-lt h))

-- 2 ^ (d + 1 + k) has bit k clear
below : (d k : ℕ) → bit_at (2 ^ (suc d + k)) k ≡ 0
below d k =
    ap (λ (n : ℕ). n / 2 ^ k % 2) (pow-add 2 (suc d) k)
    ∙ ap (λ (n : ℕ). n % 2) (shl-shr (2 ^ suc d) k)
    ∙ ap (λ (n : ℕ). n % 2) (pow-suc 2 d) ∙ mul-mod_left (2 ^ d) 2

pow_bit_below : (c k : ℕ) → k < c → bit_at (2 ^ c) k ≡ 0
pow_bit_below c k h = subst (λ (n : ℕ). bit_at (2 ^ n) k ≡ 0) (omega arith) (below (c - suc k) k)

pow_bit_other : (c k : ℕ) → k ≢ c → bit_at (2 ^ c) k ≡ 0
pow_bit_other c k ne = go (lt_or_ge k c)
  where
    go : (k < c) ⊎ (c ≤ k) → bit_at (2 ^ c) k ≡ 0
    go (inl l) = pow_bit_below c k l
    go (inr l) = pow_bit_above c k (omega (arith, ne, l))

-- a set with c
pub has_with_same : (m c : ℕ) → has_bit (with_bit m c) c ≡ true
unfolding has_bit with_bit
has_with_same m c = eq-eqb (bit_at (bit_or m (2 ^ c)) c) 1 (omega (arith, bit_at-bit_or m (2 ^ c) c, pow_bit_same c, bit_small m c))

pub has_with_other : (m c k : ℕ) → k ≢ c → has_bit (with_bit m c) k ≡ has_bit m k
unfolding has_bit with_bit
has_with_other m c k ne =
    ap (λ (n : ℕ). eqb n 1) (bit_at-bit_or m (2 ^ c) k ∙ ap (λ (n : ℕ). max (bit_at m k) n) (pow_bit_other c k ne) ∙ max-zero (bit_at m k))

pub has_with_old : (m c k : ℕ) → has_bit m k ≡ true → has_bit (with_bit m c) k ≡ true
has_with_old m c k h = go (eq_or_ne k c)
  where
    go : (k ≡ c) ⊎ (k ≢ c) → has_bit (with_bit m c) k ≡ true
    go (inl e) = rw e (has_with_same m c)
    go (inr n) = has_with_other m c k n ∙ h

-- what the code's shift gives
pub with_code : (m c : ℕ) → c < word_width → bit_or m (1 * 2 ^ c % 2 ^ word_width) ≡ with_bit m c
unfolding with_bit
with_code m c h = ap (bit_or m) (shl_exact {a = 1} 1 c word_width (lit< tt) (omega arith) ∙ one-mul (2 ^ c))

-- two sets with no common bit: halved, they have none either
pub has_half : (m c : ℕ) → has_bit (m / 2) c ≡ has_bit m (suc c)
unfolding has_bit
has_half m c = ap (λ (n : ℕ). eqb (n % 2) 1) (shr-shr m 1 c ∙ (let e : 1 + c ≡ suc c = omega arith in ap (λ (n : ℕ). m / 2 ^ n) e))

abbrev Apart : ℕ → ℕ → Type 0
Apart m s = (c : ℕ) → has_bit m c ≡ true → has_bit s c ≡ true → ⊥

apart_half : (m s : ℕ) → Apart m s → Apart (m / 2) (s / 2)
apart_half m s d c p q = d (suc c) (sym (has_half m c) ∙ p) (sym (has_half s c) ∙ q)

pub has_odd : (m : ℕ) → m % 2 ≡ 1 → has_bit m 0 ≡ true
unfolding has_bit
has_odd m e = eq-eqb (m / 2 ^ 0 % 2) 1 (omega arith)

apart_odd : (m s : ℕ) → Apart m s → min (m % 2) (s % 2) ≡ 0
apart_odd m s d = go (eq_or_ne (m % 2) 1) (eq_or_ne (s % 2) 1)
  where
    go : (m % 2 ≡ 1) ⊎ (m % 2 ≢ 1) → (s % 2 ≡ 1) ⊎ (s % 2 ≢ 1) → min (m % 2) (s % 2) ≡ 0
    go (inl e) (inl f) = absurd (d 0 (has_odd m e) (has_odd s f))
    go (inl e) (inr f) = omega (arith, f)
    go (inr e) f = omega (arith, e)

apart_and : (k m s : ℕ) → m ≤ k → Apart m s → bit_and m s ≡ 0
apart_and zero m s l d = let e : m ≡ 0 = omega arith in rw e (and_zero_l s)
apart_and (suc k) m s l d =
    let half : m / 2 ≤ k = omega arith in
    let ih : bit_and (m / 2) (s / 2) ≡ 0 = apart_and k (m / 2) (s / 2) half (apart_half m s d) in
    omega (arith, and_step m s, ih, apart_odd m s d)

pub joined_less : (m s : ℕ) → ((c : ℕ) → has_bit m c ≡ true → has_bit s c ≡ true → ⊥) → bit_or m s - s ≡ m
joined_less m s d = omega (arith, or_disjoint m s (apart_and m m s (omega arith) d))

-- collected sets: one number, then the others
module _ (p : ℕ → Bool) where
  -- the set after number i
  abbrev next : ℕ → ℕ → ℕ
  next m i = pick (p i) (with_bit m i) m

  next_old : (m i c : ℕ) → has_bit m c ≡ true → has_bit (next m i) c ≡ true
  next_old m i c h = go (known (p i))
    where
      go : Known (p i) → has_bit (next m i) c ≡ true
      go (was_true t) = rw (pick_yes (p i) (with_bit m i) m t) (has_with_old m i c h)
      go (was_false t) = rw (pick_no (p i) (with_bit m i) m t) h

  next_new : (m i : ℕ) → p i ≡ true → has_bit (next m i) i ≡ true
  next_new m i t = rw (pick_yes (p i) (with_bit m i) m t) (has_with_same m i)

  next_from : (m i c : ℕ) → has_bit (next m i) c ≡ true → (has_bit m c ≡ true) ⊎ ((c ≡ i) × (p i ≡ true))
  next_from m i c h = go (known (p i)) (eq_or_ne c i)
    where
      go : Known (p i) → (c ≡ i) ⊎ (c ≢ i) → (has_bit m c ≡ true) ⊎ ((c ≡ i) × (p i ≡ true))
      go (was_true t) (inl e) = inr (e, t)
      go (was_true t) (inr n) = inl (sym (has_with_other m i c n) ∙ rw (pick_yes (p i) (with_bit m i) m t) at h)
      go (was_false t) e = inl (rw (pick_no (p i) (with_bit m i) m t) at h)

  pub collect_old : (m i k c : ℕ) → has_bit m c ≡ true → has_bit (collect p m i k) c ≡ true
  unfolding collect
  collect_old m i zero c h = h
  collect_old m i (suc k) c h = collect_old (next m i) (suc i) k c (next_old m i c h)

  pub collect_new : (m i k c : ℕ) → i ≤ c → c < i + k → p c ≡ true → has_bit (collect p m i k) c ≡ true
  unfolding collect
  collect_new m i zero c l g t = absurd (omega arith)
  collect_new m i (suc k) c l g t = go (eq_or_ne i c) (λ n. collect_new (next m i) (suc i) k c (omega (arith, n, l)) (omega arith) t)
    where
      go : (i ≡ c) ⊎ (i ≢ c) → (i ≢ c → has_bit (collect p (next m i) (suc i) k) c ≡ true) → has_bit (collect p (next m i) (suc i) k) c ≡ true
      go (inl e) ih = collect_old (next m i) (suc i) k c (rw (← e) (next_new m i (rw e t)))
      go (inr n) ih = ih n

  pub collect_from : (m i k c : ℕ) → has_bit (collect p m i k) c ≡ true → (has_bit m c ≡ true) ⊎ ((i ≤ c) × (c < i + k) × (p c ≡ true))
  unfolding collect
  collect_from m i zero c h = inl h
  collect_from m i (suc k) c h = go (collect_from (next m i) (suc i) k c h)
    where
      first : (has_bit m c ≡ true) ⊎ ((c ≡ i) × (p i ≡ true)) → (has_bit m c ≡ true) ⊎ ((i ≤ c) × (c < i + suc k) × (p c ≡ true))
      first (inl g) = inl g
      first (inr (e, t)) = inr (omega arith, omega arith, rw e t)

      go : (has_bit (next m i) c ≡ true) ⊎ ((suc i ≤ c) × (c < suc i + k) × (p c ≡ true)) → (has_bit m c ≡ true) ⊎ ((i ≤ c) × (c < i + suc k) × (p c ≡ true))
      go (inl g) = first (next_from m i c g)
      go (inr (l, g, t)) = inr (omega arith, omega arith, t)

  -- for the code: one round of a loop over the numbers below n, and its end
  pub collect_turn : (m i n total : ℕ) → i < n → collect p m i (n - i) ≡ total → collect p (pick (p i) (with_bit m i) m) (i + 1) (n - (i + 1)) ≡ total
  unfolding collect
  collect_turn m i n total h inv =
      let s : n - i ≡ suc (n - suc i) = omega arith in
      rw (add-one i) (rw (s, collect) at inv)

  pub collect_end : (m i n total : ℕ) → n ≤ i → collect p m i (n - i) ≡ total → m ≡ total
  unfolding collect
  collect_end m i n total h inv = let s : n - i ≡ 0 = omega arith in rw (s, collect) at inv
