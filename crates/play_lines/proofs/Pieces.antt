-- A field read byte by byte. The record keeps how many bytes there are, up to eight, the first of them and whether all are digits; a field of more than
-- seven bytes is neither a number nor a letter, so no more is needed. The number of k digits is below 10 ^ k, so the bound on the value that a digit is
-- added to is met up to the seventh digit, and the value is that of the digits.
use mathlib.Core.Path.{◌≡◌, refl, ◌∙◌}
use mathlib.Core.Bool.{Bool, true, false, true≢false}
use mathlib.Core.Logic.{◌⊎◌, inl, inr}
use mathlib.Core.List.{List, [], ◌∷◌, ◌++◌}
use Prim.Native.Nat.{ℕ, suc, ◌+◌, ◌-◌, ◌*◌, ◌^◌, ◌<◌, ◌≤◌, min}
use native.Mathlib.Nat.{pow-suc, pow-le-pow_right}
use native.Mathlib.Omega.{arith}
use lib.Dec.{leb, ltb, eqb}
use lib.ListN.{length, get_or, length-append}
use borrow.Author.Tests.{leb-true, leb-false, lt-ltb, eq-eqb, ne_eqb}
use Rattle.lists.specs.Choice.{pick, both}
use Rattle.lists.proofs.Laws.{Known, was_true, was_false, known, lt_or_ge, both_left, both_right, both_true}
use Rattle.std.specs.Prelude.{Option, Some, None}
use Rattle.decimal.proofs.Laws.{number_long}
use Rattle.decimal.specs.Decimal.{max_digits, value_from, number_of}
use Rattle.play_lines.specs.declared.Piece.{Piece}
use Rattle.play_lines.specs.Orders.{is_letter}
use Rattle.play_lines.specs.Scans.{no_piece, is_digit, piece_taken, piece_number, piece_is}

-- digits behind what others were read as
abbrev onward : Option ℕ → List ℕ → Option ℕ
onward (Some n) s = value_from n s
onward None s = None

value_join : (acc : ℕ) (s t : List ℕ) → value_from acc (s ++ t) ≡ onward (value_from acc s) t
unfolding value_from
value_join acc [] t = refl
value_join acc (d ∷ ds) t = split (known (both (leb 48 d) (leb d 57))) (value_join (acc * 10 + (d - 48)) ds t)
  where
    split : Known (both (leb 48 d) (leb d 57))
        → value_from (acc * 10 + (d - 48)) (ds ++ t) ≡ onward (value_from (acc * 10 + (d - 48)) ds) t
        → value_from acc ((d ∷ ds) ++ t) ≡ onward (value_from acc (d ∷ ds)) t
    split (was_true e) ih = rw (e, value_from) ih
    split (was_false e) ih = rw (e, value_from)

-- the record of the bytes f
pub record Reads (f : List ℕ) (p : Piece) : Type 0 where
  pub size : p.size ≡ min (length f) (suc max_digits)
  pub initial : p.initial ≡ get_or f 0 0
  pub below : length f ≤ max_digits → p.digits ≡ true → p.value < 10 ^ length f
  pub value : length f ≤ max_digits → p.digits ≡ true → value_from 0 f ≡ Some p.value
  pub malformed : p.digits ≡ false → value_from 0 f ≡ None

pub reads_none : Reads [] no_piece
unfolding value_from
reads_none = record {
  size = refl;
  initial = refl;
  below = λ h d. omega arith;
  value = λ h d. refl;
  malformed = λ d. absurd (true≢false d);
}

-- one byte more
module _ (f : List ℕ) (p : Piece) (c : ℕ) (r : Reads f p) where
  long : length (f ++ (c ∷ [])) ≡ length f + 1
  long = length-append f (c ∷ [])

  next_size : pick (leb p.size max_digits) (p.size + 1) p.size ≡ min (length (f ++ (c ∷ []))) (suc max_digits)
  unfolding pick
  next_size = split (known (leb p.size max_digits))
    where
      split : Known (leb p.size max_digits) → pick (leb p.size max_digits) (p.size + 1) p.size ≡ min (length (f ++ (c ∷ []))) (suc max_digits)
      split (was_true e) = rw e (omega (arith, leb-true p.size max_digits e, long, r.size))
      split (was_false e) = rw e (omega (arith, leb-false p.size max_digits e, long, r.size))

  next_below : length f + 1 ≤ max_digits → p.digits ≡ true → is_digit c ≡ true → p.value * 10 + (c - 48) < 10 ^ suc (length f)
  next_below h d g =
      let b = r.below (omega arith) d in
      let t = pow-suc 10 (length f) in
      let u = leb-true c 57 (both_right _ _ g) in
      omega arith

  small : length f + 1 ≤ max_digits → p.digits ≡ true → ltb p.value 1000000 ≡ true
  small h d =
      let b = r.below (omega arith) d in
      let t : 10 ^ length f ≤ 10 ^ 6 = pow-le-pow_right (omega arith) {j = 6} (omega arith) in
      lt-ltb p.value 1000000 (omega arith)

  -- the digit is taken, and the value with it is read
  taken : length f + 1 ≤ max_digits → p.digits ≡ true → is_digit c ≡ true → (piece_taken p c).value ≡ p.value * 10 + (c - 48)
  unfolding piece_taken pick
  taken h d g = rw (both_true _ _ g (small h d))

  digits_left : (piece_taken p c).digits ≡ true → p.digits ≡ true
  unfolding piece_taken
  digits_left e = both_left _ _ e

  digits_right : (piece_taken p c).digits ≡ true → is_digit c ≡ true
  unfolding piece_taken
  digits_right e = both_right _ _ e

  next_value : length f + 1 ≤ max_digits → p.digits ≡ true → is_digit c ≡ true → value_from 0 (f ++ (c ∷ [])) ≡ Some (piece_taken p c).value
  unfolding value_from
  next_value h d g = rw (value_join 0 f (c ∷ []), r.value (omega arith) d, g, value_from, taken h d g)

  next_malformed : (piece_taken p c).digits ≡ false → value_from 0 (f ++ (c ∷ [])) ≡ None
  unfolding piece_taken value_from both
  next_malformed e = value_join 0 f (c ∷ []) ∙ split (known p.digits)
    where
      no_digit : (n : Option ℕ) → is_digit c ≡ false → onward n (c ∷ []) ≡ None
      no_digit (Some n) g = rw (g, value_from)
      no_digit None g = refl

      split : Known p.digits → onward (value_from 0 f) (c ∷ []) ≡ None
      split (was_true d) = no_digit (value_from 0 f) (rw d at e)
      split (was_false d) = rw (r.malformed d)

next_initial : (f : List ℕ) (p : Piece) (c : ℕ) → Reads f p → (piece_taken p c).initial ≡ get_or (f ++ (c ∷ [])) 0 0
unfolding piece_taken pick
next_initial [] p c r = rw (eq-eqb p.size 0 r.size)
next_initial (x ∷ f) p c r = rw (ne_eqb p.size 0 (λ e. omega (arith, r.size)), r.initial)

pub reads_next : (f : List ℕ) (p : Piece) (c : ℕ) → Reads f p → Reads (f ++ (c ∷ [])) (piece_taken p c)
unfolding piece_taken
reads_next f p c r =
    let l = length-append f (c ∷ []) in
    record {
      size = next_size f p c r;
      initial = next_initial f p c r;
      below = λ h e.
          let d = digits_left f p c r e in
          let g = digits_right f p c r e in
          let m : length f + 1 ≤ max_digits = omega arith in
          let b = next_below f p c r m d g in
          let t : length (f ++ (c ∷ [])) ≡ suc (length f) = omega arith in
          rw (t, taken f p c r m d g) b;
      value = λ h e. next_value f p c r (omega arith) (digits_left f p c r e) (digits_right f p c r e);
      malformed = next_malformed f p c r;
    }

-- the field is read: as a number, and as a letter
module _ (f : List ℕ) (p : Piece) (r : Reads f p) where
  few_number : length f ≤ max_digits → piece_number p ≡ number_of f
  unfolding piece_number number_of pick both
  few_number h = split (known p.digits)
    where
      same : p.size ≡ length f
      same = omega (arith, r.size)

      refused : (a b : Bool) → ◌≡◌ {A = Option ℕ} None (pick a (pick b None None) None)
      refused true true = refl
      refused true false = refl
      refused false b = refl

      split : Known p.digits → piece_number p ≡ number_of f
      split (was_true d) = rw (d, same, r.initial, r.value h d)
      split (was_false d) = rw (d, r.malformed d) (refused (both (ltb 0 (length f)) (leb (length f) max_digits)) (both (ltb 1 (length f)) (eqb (get_or f 0 0) 48)))

  many_number : max_digits < length f → piece_number p ≡ number_of f
  unfolding piece_number pick both
  many_number h = split (known p.digits) ∙ number_long f (λ e. omega arith) h
    where
      same : p.size ≡ 8
      same = omega (arith, r.size)

      split : Known p.digits → piece_number p ≡ None
      split (was_true d) = rw (d, same)
      split (was_false d) = rw d

  pub is_number : piece_number p ≡ number_of f
  is_number = split (lt_or_ge max_digits (length f))
    where
      split : (max_digits < length f) ⊎ (length f ≤ max_digits) → piece_number p ≡ number_of f
      split (inl h) = many_number h
      split (inr h) = few_number h

  pub is_letter_lem : (x : ℕ) → piece_is x p ≡ is_letter x f
  unfolding is_letter both
  is_letter_lem x = split (lt_or_ge max_digits (length f))
    where
      split : (max_digits < length f) ⊎ (length f ≤ max_digits) → piece_is x p ≡ is_letter x f
      split (inl h) = rw (ne_eqb p.size 1 (λ e. omega (arith, r.size)), ne_eqb (length f) 1 (λ e. omega arith))
      split (inr h) = let s : p.size ≡ length f = omega (arith, r.size) in rw (s, r.initial)
