-- The reader's steps, in the code's shape: what a field, a line and a run of lines give once their next part has been read.
use mathlib.Core.Path.{◌≡◌, refl, sym, ap, ◌∙◌}
use mathlib.Core.Bool.{true, false}
use mathlib.Core.List.{List, [], ◌∷◌, ◌++◌, append_assoc, append-nil}
use Prim.Native.Nat.{ℕ, suc, ◌+◌, ◌-◌, ◌<◌, ◌≤◌}
use native.Mathlib.Numerals.{add-one}
use native.Mathlib.Omega.{arith}
use lib.Dec.{leb, ltb}
use lib.ListN.{length, get_or, take, drop, set, length-drop, drop_of_length-le}
use lib.Seq.{drop-cons, take-suc-set, drop-drop}
use borrow.Author.Tests.{lt-ltb, le-ltb, eq-eqb, ne_eqb}
use Rattle.lists.specs.Choice.{pick, both}
use Rattle.lists.specs.Lists.{index_of}
use Rattle.text.proofs.Ends.{end_after}
use Rattle.lists.proofs.Laws.{pick_yes, pick_no, rest_part}
use Rattle.std.specs.Prelude.{Option, Some, None}
use Rattle.decimal.specs.Decimal.{number_of}
use Rattle.text.specs.declared.Range.{Range}
use Rattle.std.specs.Prelude.{Result, Ok, Err}
use Rattle.std.specs.Option.{ok_or}
use Rattle.refusals.specs.declared.Refusal.{Refusal}
use Rattle.refusals.specs.declared.Refusal.TheVariants.{Malformed}
use Rattle.refusals.specs.Refusals.{number}
use Rattle.text.specs.declared.Taken.{Taken}
use Rattle.text.specs.Views.{as_read}
use Rattle.text.specs.Text.{Read, refused, got, then, letter, ranged, field, end_byte, between, numbers, line, lines}

-- a field whose first end stands behind n bytes, or nowhere
module _ (r : Range) (e n : ℕ) (s : List ℕ) (p : n ≡ index_of e s) where
  pub field-none : length s ≤ n → refused 1 ≡ field r e s
  unfolding field pick
  field-none h = rw (← p, le-ltb n (length s) h)

  module _ (h : n < length s) where
    found : (x : Option ℕ) → number_of (take n s) ≡ x → ranged r x (drop (n + 1) s) ≡ field r e s
    unfolding field pick
    found x q = rw (← p, lt-ltb n (length s) h, add-one, q)

    pub field_malformed : number_of (take n s) ≡ None → refused 1 ≡ field r e s
    unfolding ranged
    field_malformed q = found None q

    pub field_in : (v : ℕ) → number_of (take n s) ≡ Some v → both (leb r.low v) (leb v r.high) ≡ true → got v (drop (n + 1) s) ≡ field r e s
    unfolding ranged
    field_in v q b = sym (pick_yes _ _ _ b) ∙ found (Some v) q

    pub field_out : (v : ℕ) → number_of (take n s) ≡ Some v → both (leb r.low v) (leb v r.high) ≡ false → refused 2 ≡ field r e s
    unfolding ranged
    field_out v q b = sym (pick_no _ _ _ b) ∙ found (Some v) q

-- where no number was read, the field is malformed
pub no_number : (o : Option ℕ) {x : Result ℕ Refusal} {r : Refusal} → x ≡ ok_or o Malformed → x ≡ Err r → (o ≡ None) × (number r ≡ 1)
no_number None {x} {r} e f = let z : Malformed ≡ r = cc in (refl, rw (← z) refl)
no_number (Some n) e f = (cc, cc)

-- reading on from what was read
pub then_got : {A : Type 0} (x : Read A) → then x (λ a s. got a s) ≡ x
unfolding then
then_got (refused n) = refl
then_got (got a s) = refl

pub then-then : {A B C : Type 0} (x : Read A) (f : A → List ℕ → Read B) (g : B → List ℕ → Read C) → then (then x f) g ≡ then x (λ a s. then (f a s) g)
unfolding then
then-then (refused n) f g = refl
then-then (got a s) f g = refl

module _ {A : Type 0} (r : Range) (rs : List Range) (s : List ℕ) (f : List ℕ → List ℕ → Read A) where
  pub numbers_turn : (v : ℕ) (s1 : List ℕ) → field r (end_byte rs) s ≡ got v s1 → then (numbers (r ∷ rs) s) f ≡ then (numbers rs s1) (λ ns s2. f (v ∷ ns) s2)
  unfolding numbers then
  numbers_turn v s1 e = rw (e, then) (then-then (numbers rs s1) (λ ns s2. got (v ∷ ns) s2) f)

  pub numbers_stop : (n : ℕ) → field r (end_byte rs) s ≡ refused n → then (numbers (r ∷ rs) s) f ≡ refused n
  unfolding numbers then
  numbers_stop n e = rw (e, then)

module _ {A : Type 0} (x : ℕ) (rs : List Range) (k : ℕ) (s : List ℕ) (f : List (List ℕ) → List ℕ → Read A) where
  pub lines_turn : (ns s1 : List ℕ) → line x rs s ≡ got ns s1 → then (lines x rs (suc k) s) f ≡ then (lines x rs k s1) (λ rows s2. f (ns ∷ rows) s2)
  unfolding lines then
  lines_turn ns s1 e = rw (e, then) (then-then (lines x rs k s1) (λ rows s2. got (ns ∷ rows) s2) f)

  pub lines_stop : (n : ℕ) → line x rs s ≡ refused n → then (lines x rs (suc k) s) f ≡ refused n
  unfolding lines then
  lines_stop n e = rw (e, then)

-- a line of which i numbers are read: what is left, and what it comes to
module _ (rs : List Range) (s values : List ℕ) (at i : ℕ) where
  abbrev pub line_rest : Read (List ℕ)
  line_rest = then (numbers (drop i rs) (drop at s)) (λ ns s1. got (take i values ++ ns) s1)

  module _ (total : Read (List ℕ)) (inv : line_rest ≡ total) where
    pub line_end : length rs ≤ i → got (take i values) (drop at s) ≡ total
    unfolding numbers then
    line_end h = sym (ap (λ (v : List ℕ). got v (drop at s)) (append-nil (take i values))) ∙ rw (drop_of_length-le rs h) at inv

    module _ (r : Range) (cut : drop i rs ≡ r ∷ drop (suc i) rs) where
      pub line_stop : (n : ℕ) → refused n ≡ field r (end_byte (drop (suc i) rs)) (drop at s) → refused n ≡ total
      line_stop n e = sym (numbers_stop r (drop (suc i) rs) (drop at s) _ n (sym e)) ∙ rw cut at inv

      pub line_turn : (v used : ℕ) → i < length values → got v (drop used (drop at s)) ≡ field r (end_byte (drop (suc i) rs)) (drop at s)
          → then (numbers (drop (i + 1) rs) (drop (at + used) s)) (λ ns s1. got (take (i + 1) (set values i v) ++ ns) s1) ≡ total
      line_turn v used h e =
          simp (add-one i, take-suc-set values i v h, append_assoc, ← drop-drop used at s)
          (sym (numbers_turn r (drop (suc i) rs) (drop at s) _ v (drop used (drop at s)) (sym e)) ∙ rw cut at inv)

-- what a call gives, where it is known
module _ {A : Type 0} {x : Result (Taken A) Refusal} (s : List ℕ) where
  pub read_ok : {t : Taken A} → x ≡ Ok t → as_read x s ≡ got t.value (drop t.used s)
  read_ok e = rw e

  pub read_err : {r : Refusal} → x ≡ Err r → as_read x s ≡ refused (number r)
  read_err e = rw e

-- the letter of a line and its comma
module _ (x : ℕ) (rs : List Range) (s : List ℕ) where
  pub line-letter : (get_or s 0 0 ≡ x → ⊥) → line x rs s ≡ refused 1
  unfolding line letter then pick both
  line-letter h = rw (ne_eqb (get_or s 0 0) x h)

  pub line_comma : get_or s 0 0 ≡ x → (get_or s 1 0 ≡ 44 → ⊥) → line x rs s ≡ refused 1
  unfolding line letter then pick both
  line_comma e h = rw (eq-eqb (get_or s 0 0) x e, ne_eqb (get_or s 1 0) 44 h)

  pub line-opened : get_or s 0 0 ≡ x → get_or s 1 0 ≡ 44 → line x rs s ≡ numbers rs (drop 2 s)
  unfolding line letter then pick both
  line-opened e h = rw (eq-eqb (get_or s 0 0) x e, eq-eqb (get_or s 1 0) 44 h)

pub two_bytes : (s : List ℕ) → get_or s 1 0 ≡ 44 → 2 ≤ length s
two_bytes [] h = absurd (omega arith)
two_bytes (a ∷ []) h = absurd (omega arith)
two_bytes (a ∷ b ∷ s) h = omega arith

pub rest_used : (s : List ℕ) (at used : ℕ) → at ≤ length s → used ≤ length (take (length s - at) (drop at s)) → at + used ≤ length s
rest_used s at used h u = let e = ap length (rest_part s at) in let d = length-drop at s in omega arith

-- one round of the line's loop, from what the code knows
module _ (ranges : List Range) (s values : List ℕ) (at i : ℕ) (total : Read (List ℕ)) (inv : line_rest ranges s values at i ≡ total) (hi : i < length ranges)
    (f : Result (Taken ℕ) Refusal) (e : ℕ) (end : e ≡ pick (ltb 0 (length ranges - i - 1)) 44 10)
    (was_read : as_read f (take (length s - at) (drop at s)) ≡ field (get_or ranges i (between 0 0)) e (take (length s - at) (drop at s))) where
  cut : drop i ranges ≡ get_or ranges i (between 0 0) ∷ drop (suc i) ranges
  cut = drop-cons ranges i (between 0 0) hi

  next : as_read f (drop at s) ≡ field (get_or ranges i (between 0 0)) (end_byte (drop (suc i) ranges)) (drop at s)
  next = rw (rest_part s at, end ∙ end_after ranges (length ranges) i refl hi) at was_read

  pub line_step_stop : {r : Refusal} → f ≡ Err r → refused (number r) ≡ total
  line_step_stop {r} z = line_stop ranges s values at i total inv _ cut (number r) (sym (read_err _ z) ∙ next)

  pub line_step : {t : Taken ℕ} → f ≡ Ok t → i < length values → line_rest ranges s (set values i t.value) (at + t.used) (i + 1) ≡ total
  line_step {t} z h = line_turn ranges s values at i total inv _ cut t.value t.used h (sym (read_ok _ z) ∙ next)
