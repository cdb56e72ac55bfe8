-- The laws that the loops cite: what is left of a run, before and after one round, each in the code's own shape.
use mathlib.Core.Path.{◌≡◌, sym, ap, ◌∙◌}
use mathlib.Core.List.{List, [], ◌∷◌, ◌++◌}
use Prim.Native.Nat.{ℕ, zero, suc, ◌+◌, ◌-◌, ◌*◌, ◌/◌, ◌%◌, ◌^◌, ◌<◌, ◌≤◌}
use native.Mathlib.Numerals.{add-one}
use native.Mathlib.Nat.{pow-suc, pow-le-pow_right, add-zero}
use native.Mathlib.Omega.{arith}
use borrow.Author.Tests.{ltb-true, ltb-false, le-leb, lt-leb}
use lib.Dec.{ltb}
use lib.ListN.{length, get_or, set, drop, length-append, drop_of_length-le}
use lib.Seq.{drop-cons, sets, set_comm}
use Rattle.lists.specs.Choice.{both}
use Rattle.lists.proofs.Laws.{Known, was_true, was_false, known}
use Rattle.decimal.specs.Decimal.{decimal, decimal_from, value_from}
use Rattle.std.specs.Prelude.{Option, Some, None}
use Rattle.decimal.proofs.Laws.{value_digit, length_large, decimal_small, decimal_large, decimal_some}

-- a scan that has passed i bytes and holds their value, acc
module _ (s : List ℕ) (acc i : ℕ) (total : Option ℕ) (inv : value_from acc (drop i s) ≡ total) where
  pub scan_end : length s ≤ i → Some acc ≡ total
  unfolding value_from
  scan_end h = rw (drop_of_length-le s h) at inv

  module _ (h : i < length s) where
    pub scan_low : get_or s i 0 < 48 → None ≡ total
    unfolding value_from both
    scan_low l = rw (drop-cons s i 0 h, lt-leb 48 (get_or s i 0) l, value_from) at inv

    pub scan_high : 48 ≤ get_or s i 0 → 57 < get_or s i 0 → None ≡ total
    unfolding value_from both
    scan_high l g = rw (drop-cons s i 0 h, le-leb 48 (get_or s i 0) l, lt-leb (get_or s i 0) 57 g, value_from) at inv

    pub scan_digit : 48 ≤ get_or s i 0 → get_or s i 0 ≤ 57 → value_from (acc * 10 + (get_or s i 0 - 48)) (drop (i + 1) s) ≡ total
    scan_digit l g = rw (add-one, ← value_digit acc (get_or s i 0) (drop (suc i) s) l g, ← drop-cons s i 0 h) inv

-- the value of i digits is below 10 ^ i, so that one digit more of at most seven fits
pub ten_more : (acc i d : ℕ) → acc < 10 ^ i → d ≤ 9 → acc * 10 + d < 10 ^ (i + 1)
ten_more acc i d h l = let e = pow-suc 10 i in rw (add-one i) (omega arith)

pub ten_bound : (i : ℕ) → i < 7 → 10 ^ i ≤ 1000000
ten_bound i h = pow-le-pow_right (omega arith) {j = 6} (omega arith)

-- as many digits as n has are all of them
pub decimal_fuel : (k n : ℕ) → length (decimal n) ≤ k → decimal_from k n ≡ decimal n
unfolding decimal_from
decimal_fuel zero n h = absurd (omega (arith, decimal_some n))
decimal_fuel (suc k) n h = go (known (ltb n 10)) (decimal_fuel k (n / 10))
  where
    go : Known (ltb n 10) → (length (decimal (n / 10)) ≤ k → decimal_from k (n / 10) ≡ decimal (n / 10)) → decimal_from (suc k) n ≡ decimal n
    go (was_true t) ih = rw (t, decimal_from) (sym (decimal_small n (ltb-true n 10 t)))
    go (was_false t) ih =
        let l = ltb-false n 10 t in
        rw (t, decimal_from, ih (omega (arith, length_large n l))) (sym (decimal_large n l))

-- of the last k + 1 digits the last is that of the number, and the others are the last k of its tenth part
last_digit : (k n : ℕ) → length (decimal_from (suc k) n) ≡ suc k → decimal_from (suc k) n ≡ decimal_from k (n / 10) ++ ((48 + n % 10) ∷ [])
unfolding decimal_from
last_digit k n h = go (known (ltb n 10)) k h
  where
    go : Known (ltb n 10) → (k : ℕ) → length (decimal_from (suc k) n) ≡ suc k
        → decimal_from (suc k) n ≡ decimal_from k (n / 10) ++ ((48 + n % 10) ∷ [])
    go (was_false t) k h = rw (t, decimal_from)
    go (was_true t) zero h = let l = ltb-true n 10 t in let e : n % 10 ≡ n = omega arith in rw (t, decimal_from, e)
    go (was_true t) (suc k) h = let e : 1 ≡ suc (suc k) = rw (t, decimal_from) at h in absurd (omega arith)

-- a run of stores whose last is made first
pub sets_last : (xs l : List ℕ) (i x : ℕ) → sets (set l (i + length xs) x) i xs ≡ sets l i (xs ++ (x ∷ []))
sets_last [] l i x = rw add-zero
sets_last (y ∷ ys) l i x =
    let e : i + suc (length ys) ≡ suc i + length ys = omega arith in
    rw (e, set_comm l (suc i + length ys) i x y (λ q. omega arith)) (sets_last ys (set l i y) (suc i) x)

-- a writer that has left digits to write, which are those of rest
pub record DigitsLeft (buf total : List ℕ) (at left rest : ℕ) : Type 0 where
  pub many : length (decimal_from left rest) ≡ left
  pub run : sets buf at (decimal_from left rest) ≡ total

pub write_begin : (buf : List ℕ) (at count n : ℕ) → count ≡ length (decimal n) → DigitsLeft buf (sets buf at (decimal n)) at count n
write_begin buf at count n q =
    let e : decimal_from count n ≡ decimal n = decimal_fuel count n (omega arith) in
    record { many = ap length e ∙ sym q; run = rw e }

pub write_end : (buf total : List ℕ) (at left rest : ℕ) → DigitsLeft buf total at left rest → left ≤ 0 → buf ≡ total
unfolding decimal_from
write_end buf total at left rest inv h = let z : left ≡ 0 = omega arith in rw z at inv.run

pub write_turn : (buf next total : List ℕ) (at left rest x : ℕ) → DigitsLeft buf total at left rest → 0 < left
    → next ≡ set buf (at + (left - 1)) x → x ≡ 48 + rest % 10 → DigitsLeft next total at (left - 1) (rest / 10)
write_turn buf next total at zero rest x inv h q d = absurd (omega arith)
write_turn buf next total at (suc k) rest x inv h q d =
    let p : suc k - 1 ≡ k = omega arith in
    let ds : List ℕ = decimal_from k (rest / 10) in
    let e : decimal_from (suc k) rest ≡ ds ++ (x ∷ []) = rw d (last_digit k rest inv.many) in
    let m : length ds ≡ k = omega (arith, ap length e ∙ length-append ds (x ∷ []), inv.many) in
    let r : sets (set buf (at + length ds) x) at ds ≡ total = sets_last ds buf at x ∙ rw (← e) inv.run in
    rw (q, p) record { many = m; run = rw m at r }
