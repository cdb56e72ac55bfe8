-- Numbers as digits. A number of ten or more is written as its tenth part, then its last digit, so what holds of every number of one digit,
-- and of n wherever it holds of n / 10, holds of every number. Digits are read from the left, and acc * 10 + d has d as its last digit and acc
-- as its tenth part, so reading takes back what writing did; a first digit above 0 leaves no second way to write a number.
use mathlib.Core.Path.{◌≡◌, refl, sym, ◌∙◌}
use mathlib.Core.Bool.{Bool, false}
use mathlib.Core.List.{List, [], ◌∷◌, ◌++◌, append-nil}
use Prim.Native.Nat.{ℕ, zero, suc, ◌+◌, ◌-◌, ◌*◌, ◌/◌, ◌%◌, ◌^◌, ◌<◌, ◌≤◌}
use native.Mathlib.Nat.{pow-suc, pow-le-pow_right, add-zero}
use native.Mathlib.Omega.{arith}
use borrow.Author.Tests.{ltb-true, ltb-false, leb-true, eqb-false, lt-ltb, le-ltb, le-leb, lt-leb, eq-eqb, ne_eqb}
use lib.Dec.{leb, ltb, eqb}
use lib.ListN.{length, get_or, length-append}
use lib.Seq.{append_snoc}
use Rattle.lists.specs.Choice.{pick, both}
use Rattle.lists.specs.Lists.{index_of}
use Rattle.lists.proofs.Laws.{Known, was_true, was_false, known, both_left, both_right, both_true}
use Rattle.decimal.specs.Decimal.{decimal, decimal_from, number_of, value_from}
use Rattle.std.specs.Prelude.{Some, None}

-- more fuel than n changes nothing
fuel : (k j n : ℕ) → n < k → n < j → decimal_from k n ≡ decimal_from j n
unfolding decimal_from
fuel zero j n h g = absurd (omega arith)
fuel (suc k) zero n h g = absurd (omega arith)
fuel (suc k) (suc j) n h g = go (known (ltb n 10)) (fuel k j (n / 10))
  where
    go : Known (ltb n 10) → (n / 10 < k → n / 10 < j → decimal_from k (n / 10) ≡ decimal_from j (n / 10))
        → decimal_from (suc k) n ≡ decimal_from (suc j) n
    go (was_true t) ih = rw (t, decimal_from)
    go (was_false t) ih = let l = ltb-false n 10 t in rw (t, decimal_from, ih (omega arith) (omega arith))

pub decimal_small : (n : ℕ) → n < 10 → decimal n ≡ (48 + n) ∷ []
unfolding decimal
decimal_small n h = rw (lt-ltb n 10 h, decimal_from)

pub decimal_large : (n : ℕ) → 10 ≤ n → decimal n ≡ decimal (n / 10) ++ ((48 + n % 10) ∷ [])
unfolding decimal
decimal_large n h = rw (le-ltb n 10 h, decimal_from, fuel n (suc (n / 10)) (n / 10) (omega arith) (omega arith))

-- what holds of one digit, and goes over from n / 10 to n, holds of every number
pub by_digits : (P : ℕ → Type 0) → ((n : ℕ) → n < 10 → P n) → ((n : ℕ) → 10 ≤ n → P (n / 10) → P n) → (n : ℕ) → P n
by_digits P small large n = go (suc n) n (omega arith)
  where
    go : (k m : ℕ) → m < k → P m
    go zero m h = absurd (omega arith)
    go (suc k) m h = cases (known (ltb m 10)) (go k)
      where
        cases : Known (ltb m 10) → ((i : ℕ) → i < k → P i) → P m
        cases (was_true t) ih = small m (ltb-true m 10 t)
        cases (was_false t) ih = let l = ltb-false m 10 t in large m l (ih (m / 10) (omega arith))

-- the digits of n, then rest, where the last digit is taken as the first of the rest
decimal-then : (n : ℕ) (rest : List ℕ) → 10 ≤ n → decimal n ++ rest ≡ decimal (n / 10) ++ ((48 + n % 10) ∷ rest)
decimal-then n rest h = rw (decimal_large n h) (append_snoc (decimal (n / 10)) (48 + n % 10) rest)

pub length_large : (n : ℕ) → 10 ≤ n → length (decimal n) ≡ length (decimal (n / 10)) + 1
length_large n h = rw (decimal_large n h, length-append)

pub decimal_some : (n : ℕ) → 0 < length (decimal n)
decimal_some = by_digits (λ n. 0 < length (decimal n))
    (λ n h. rw (decimal_small n h) (omega arith))
    (λ n h ih. omega (arith, length_large n h))

pub decimal-length : (k n : ℕ) → n < 10 ^ suc k → length (decimal n) ≤ suc k
decimal-length zero n h = rw (decimal_small n (omega arith)) (omega arith)
decimal-length (suc k) n h = go (known (ltb n 10)) (decimal-length k (n / 10))
  where
    go : Known (ltb n 10) → (n / 10 < 10 ^ suc k → length (decimal (n / 10)) ≤ suc k) → length (decimal n) ≤ suc (suc k)
    go (was_true t) ih = rw (decimal_small n (ltb-true n 10 t)) (omega arith)
    go (was_false t) ih =
        let e = pow-suc 10 (suc k) in
        let l = ih (omega arith) in
        omega (arith, length_large n (ltb-false n 10 t))

-- a number from 10 ^ k up to one below 10 ^ (k + 1) has k + 1 digits
pub decimal_exact : (k n : ℕ) → 10 ^ k ≤ n → n < 10 ^ suc k → length (decimal n) ≡ suc k
decimal_exact zero n l h = rw (decimal_small n (omega arith))
decimal_exact (suc k) n l h =
    let e = pow-suc 10 k in
    let f = pow-suc 10 (suc k) in
    let t : 10 ^ 1 ≤ 10 ^ suc k = pow-le-pow_right (omega arith) {i = 1} (omega arith) in
    let tenth = decimal_exact k (n / 10) (omega arith) (omega arith) in
    omega (arith, length_large n (omega arith))

-- one digit is read
pub value_digit : (acc d : ℕ) (rest : List ℕ) → 48 ≤ d → d ≤ 57 → value_from acc (d ∷ rest) ≡ value_from (acc * 10 + (d - 48)) rest
unfolding value_from
value_digit acc d rest l g = rw (both_true _ _ (le-leb 48 d l) (le-leb d 57 g), value_from)

-- what a digit that was read says
record Digit (acc d n : ℕ) (rest : List ℕ) : Type 0 where
  low : 48 ≤ d
  high : d ≤ 57
  next : value_from (acc * 10 + (d - 48)) rest ≡ Some n

digit : (acc d n : ℕ) (rest : List ℕ) → value_from acc (d ∷ rest) ≡ Some n → Digit acc d n rest
unfolding value_from
digit acc d n rest e = go (known (both (leb 48 d) (leb d 57)))
  where
    go : Known (both (leb 48 d) (leb d 57)) → Digit acc d n rest
    go (was_true t) = record {
      low = leb-true 48 d (both_left _ _ t);
      high = leb-true d 57 (both_right _ _ t);
      next = rw (t, value_from) at e;
    }
    go (was_false t) =
        let b : None ≡ Some n = rw (t, value_from) at e in
        let z : ◌≡◌ {A = ℕ} 0 1 = cc in
        absurd (omega arith)

-- the digits of n are read as n
value_decimal : (n : ℕ) (rest : List ℕ) → value_from 0 (decimal n ++ rest) ≡ value_from n rest
value_decimal = by_digits (λ n. (rest : List ℕ) → value_from 0 (decimal n ++ rest) ≡ value_from n rest)
    (λ n h rest.
    let e : 0 * 10 + (48 + n - 48) ≡ n = omega arith in
    rw (decimal_small n h, value_digit 0 (48 + n) rest (omega arith) (omega arith), e))
    (λ n h ih rest.
    let e : n / 10 * 10 + (48 + n % 10 - 48) ≡ n = omega arith in
    rw (decimal-then n rest h, ih ((48 + n % 10) ∷ rest), value_digit (n / 10) (48 + n % 10) rest (omega arith) (omega arith), e))

-- a number above 0 does not begin with the digit 0
head-decimal : (n : ℕ) → 0 < n → (rest : List ℕ) → 48 < get_or (decimal n ++ rest) 0 0
head-decimal = by_digits (λ n. 0 < n → (rest : List ℕ) → 48 < get_or (decimal n ++ rest) 0 0)
    (λ n h p rest. rw (decimal_small n h) (omega arith))
    (λ n h ih p rest. rw (decimal-then n rest h) (ih (omega arith) ((48 + n % 10) ∷ rest)))

-- a field by its length and its first byte
module _ (s : List ℕ) where
  pub number_none : length s ≡ 0 → None ≡ number_of s
  unfolding number_of pick both
  number_none z = rw (le-ltb 0 (length s) (omega arith))

  module _ (some : length s ≡ 0 → ⊥) where
    pub number_long : 7 < length s → None ≡ number_of s
    unfolding number_of pick both
    number_long h = rw (lt-ltb 0 (length s) (omega arith), lt-leb (length s) 7 h)

    module _ (most : length s ≤ 7) where
      pub number_one : length s ≡ 1 → value_from 0 s ≡ number_of s
      unfolding number_of pick both
      number_one o = rw (lt-ltb 0 (length s) (omega arith), le-leb (length s) 7 most, le-ltb 1 (length s) (omega arith))

      module _ (more : length s ≡ 1 → ⊥) where
        pub number_led : get_or s 0 0 ≡ 48 → None ≡ number_of s
        unfolding number_of pick both
        number_led z = rw (lt-ltb 0 (length s) (omega arith), le-leb (length s) 7 most, lt-ltb 1 (length s) (omega arith), eq-eqb (get_or s 0 0) 48 z)

        pub number_many : (get_or s 0 0 ≡ 48 → ⊥) → value_from 0 s ≡ number_of s
        unfolding number_of pick both
        number_many z = rw (lt-ltb 0 (length s) (omega arith), le-leb (length s) 7 most, lt-ltb 1 (length s) (omega arith), ne_eqb (get_or s 0 0) 48 z)

pub number_decimal : (n : ℕ) → n < 10000000 → number_of (decimal n) ≡ Some n
unfolding value_from
number_decimal n h = go (known (ltb n 10)) ∙ rw append-nil at (value_decimal n [])
  where
    go : Known (ltb n 10) → number_of (decimal n) ≡ value_from 0 (decimal n)
    go (was_true t) =
        let o : length (decimal n) ≡ 1 = rw (decimal_small n (ltb-true n 10 t)) in
        sym (number_one (decimal n) (λ z. omega arith) (omega arith) o)
    go (was_false t) =
        let l = ltb-false n 10 t in
        let f : 48 < get_or (decimal n) 0 0 = rw append-nil at (head-decimal n (omega arith) []) in
        let m = length_large n l in
        let p = decimal_some (n / 10) in
        sym (number_many (decimal n) (λ z. omega arith) (decimal-length 6 n h) (λ z. omega arith) (λ z. omega arith))

-- a 0 that leads other digits
abbrev led : List ℕ → Bool
led s = both (ltb 1 (length s)) (eqb (get_or s 0 0) 48)

-- what a field that was read says
record Read (s : List ℕ) (n : ℕ) : Type 0 where
  some : 0 < length s
  most : length s ≤ 7
  alone : led s ≡ false
  value : value_from 0 s ≡ Some n

read : (s : List ℕ) (n : ℕ) → number_of s ≡ Some n → Read s n
unfolding number_of pick
read s n e = sized (known (both (ltb 0 (length s)) (leb (length s) 7)))
  where
    refused : None ≡ Some n → Read s n
    refused b = let z : ◌≡◌ {A = ℕ} 0 1 = cc in absurd (omega arith)

    sized : Known (both (ltb 0 (length s)) (leb (length s) 7)) → Read s n
    sized (was_false t) = refused (rw t at e)
    sized (was_true t) = go (known (led s))
      where
        go : Known (led s) → Read s n
        go (was_true l) = refused (rw (t, l) at e)
        go (was_false l) = record {
          some = ltb-true 0 _ (both_left _ _ t);
          most = leb-true _ 7 (both_right _ _ t);
          alone = l;
          value = rw (t, l) at e;
        }

-- digits behind those of a number above 0 are the digits of what they are read as
value_canonical : (s : List ℕ) (acc n : ℕ) → 0 < acc → value_from acc s ≡ Some n → decimal n ≡ decimal acc ++ s
unfolding value_from
value_canonical [] acc n p e = let q : acc ≡ n = cc in rw (q, append-nil)
value_canonical (d ∷ ds) acc n p e =
    let r : Digit acc d n ds = digit acc d n ds e in
    let m : ℕ = acc * 10 + (d - 48) in
    let tenth : m / 10 ≡ acc = omega arith in
    let last : 48 + m % 10 ≡ d = omega arith in
    value_canonical ds m n (omega arith) r.next ∙ rw (decimal-then m ds (omega arith), tenth, last)

pub number_canonical : (s : List ℕ) (n : ℕ) → number_of s ≡ Some n → s ≡ decimal n
unfolding value_from both
number_canonical s n e = go s (read s n e)
  where
    go : (s : List ℕ) → Read s n → s ≡ decimal n
    go [] r = absurd (omega arith)
    go (d ∷ []) r =
        let g : Digit 0 d n [] = digit 0 d n [] r.value in
        let v : Some (0 * 10 + (d - 48)) ≡ Some n = g.next in
        let q : 0 * 10 + (d - 48) ≡ n = cc in
        let f : 48 + n ≡ d = omega arith in
        rw (decimal_small n (omega arith), f)
    go (d ∷ e ∷ es) r =
        let g : Digit 0 d n (e ∷ es) = digit 0 d n (e ∷ es) r.value in
        let a : ℕ = 0 * 10 + (d - 48) in
        let f : 48 + a ≡ d = omega arith in
        let z : eqb d 48 ≡ false = rw (lt-ltb 1 (suc (suc (length es))) (omega arith), both) at r.alone in
        let p : 0 < a = omega (arith, eqb-false d 48 z) in
        sym (value_canonical (e ∷ es) a n p g.next ∙ rw (decimal_small a (omega arith), f))

-- digits behind a number below 10 ^ k
value_below : (s : List ℕ) (acc k n : ℕ) → acc < 10 ^ k → value_from acc s ≡ Some n → n < 10 ^ (k + length s)
unfolding value_from
value_below [] acc k n h e = let q : acc ≡ n = cc in rw (add-zero, ← q) h
value_below (d ∷ ds) acc k n h e =
    let r : Digit acc d n ds = digit acc d n ds e in
    let t = pow-suc 10 k in
    let q : suc k + length ds ≡ k + suc (length ds) = omega arith in
    rw (← q) (value_below ds (acc * 10 + (d - 48)) (suc k) n (omega arith) r.next)

pub number_below : (s : List ℕ) (n : ℕ) → number_of s ≡ Some n → n < 10000000
number_below s n e =
    let r : Read s n = read s n e in
    let b = value_below s 0 0 n (omega arith) r.value in
    let t : 10 ^ (0 + length s) ≤ 10 ^ 7 = pow-le-pow_right (omega arith) {j = 7} (omega arith) in
    omega arith

-- a byte below the digits is not among them
index_digits : (b : ℕ) → b < 48 → (n : ℕ) (rest : List ℕ) → index_of b (decimal n ++ rest) ≡ length (decimal n) + index_of b rest
unfolding index_of
index_digits b l = by_digits (λ n. (rest : List ℕ) → index_of b (decimal n ++ rest) ≡ length (decimal n) + index_of b rest)
    (λ n h rest. rw (decimal_small n h, past (48 + n) rest (omega arith)) (omega arith))
    (λ n h ih rest. rw (decimal-then n rest h, ih ((48 + n % 10) ∷ rest), past (48 + n % 10) rest (omega arith), length_large n h) (omega arith))
  where
    past : (x : ℕ) (rest : List ℕ) → 48 ≤ x → index_of b (x ∷ rest) ≡ suc (index_of b rest)
    past x rest h = rw (ne_eqb x b (λ e. omega arith), index_of)

pub index_decimal : (b n : ℕ) (rest : List ℕ) → b < 48 → index_of b (decimal n ++ (b ∷ rest)) ≡ length (decimal n)
unfolding index_of
index_decimal b n rest l = index_digits b l n (b ∷ rest) ∙ rw (eq-eqb b b refl, index_of) (add-zero (length (decimal n)))
