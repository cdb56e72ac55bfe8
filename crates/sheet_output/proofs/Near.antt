-- How far a reader looks. A reader that looks at no more than k bytes gives the same on a text and on any prefix of at least k bytes: the
-- same refusal, or the same value with the prefix of the same rest. Readers one after another look at no more than their sum, and this sum
-- is known for each part of a board text, as a letter takes 2 bytes and a field of one to seven digits and its end at most 8: a field that
-- has not ended by then is malformed, however it goes on.
use mathlib.Core.Path.{◌≡◌, refl, sym, ap, ◌∙◌}
use mathlib.Core.Bool.{Bool, true, false}
use mathlib.Core.Logic.{◌⊎◌, inl, inr}
use mathlib.Core.List.{List, [], ◌∷◌}
use Prim.Native.Nat.{ℕ, zero, suc, ◌+◌, ◌-◌, ◌*◌, ◌<◌, ◌≤◌}
use native.Mathlib.Nat.{sub-zero, zero-sub, suc-sub-suc, suc-mul}
use native.Mathlib.Omega.{arith}
use lib.Dec.{leb, ltb, eqb}
use lib.ListN.{length, get_or, take, drop, length-take}
use lib.Seq.{take-nil, take-take, drop-drop, get_or-take, length-take-le}
use borrow.Author.Tests.{ltb-true, ltb-false, lt-ltb, le-ltb}
use Rattle.lists.specs.Choice.{pick, both}
use Rattle.lists.specs.Lists.{index_of}
use Rattle.lists.proofs.Laws.{Known, was_true, was_false, known, lt_or_ge, pick_yes, pick_no}
use Rattle.std.specs.Prelude.{Option, Some, None}
use Rattle.decimal.specs.Decimal.{number_of}
use Rattle.decimal.proofs.Laws.{number_long}
use Rattle.text.specs.declared.Range.{Range}
use Rattle.text.specs.Text.{Read, refused, got, then, letter, ranged, field, end_byte, numbers, line, lines}

-- ---- readers in general

-- what a reader gives on the first m bytes of s, and on s, of which it used at most k
pub data Alike {A : Type 0} (k m : ℕ) (s : List ℕ) (p o : Read A) : Type 0 where
  both_refused : (n : ℕ) → p ≡ refused n → o ≡ refused n → Alike k m s p o
  both_got : (a : A) (u : ℕ) → u ≤ k → p ≡ got a (take (m - u) (drop u s)) → o ≡ got a (drop u s) → Alike k m s p o

pub record Near {A : Type 0} (k : ℕ) (f : List ℕ → Read A) : Type 0 where
  pub near : (s : List ℕ) (m : ℕ) → k ≤ m → Alike k m s (f (take m s)) (f s)

pub near_got : {A : Type 0} (a : A) → Near 0 (λ s. got a s)
near_got a = record { near = λ s m h. both_got a 0 (omega arith) (rw sub-zero) refl }

pub near_more : {A : Type 0} {k : ℕ} {f : List ℕ → Read A} (l : ℕ) → Near k f → k ≤ l → Near l f
near_more {A} {k} {f} l r h = record { near = λ s m g. go s m (r.near s m (omega arith)) }
  where
    go : (s : List ℕ) (m : ℕ) → Alike k m s (f (take m s)) (f s) → Alike l m s (f (take m s)) (f s)
    go s m (both_refused n p o) = both_refused n p o
    go s m (both_got a u le p o) = both_got a u (omega arith) p o

pub near_when : {A : Type 0} {k : ℕ} {f : List ℕ → Read A} (t : Bool) (n : ℕ) → Near k f → Near k (λ s. pick t (f s) (refused n))
unfolding pick
near_when {A} {k} {f} t n r = go (known t)
  where
    go : Known t → Near k (λ s. pick t (f s) (refused n))
    go (was_true e) = rw e (record { near = λ s m h. r.near s m h })
    go (was_false e) = rw e (record { near = λ s m h. both_refused n refl refl })

-- one reader, then another that may look at l bytes for each value that the first one gives
pub near_then : {A B : Type 0} {k l : ℕ} {f : List ℕ → Read A} {g : A → List ℕ → Read B} → Near k f
    → ((a : A) (s rest : List ℕ) → f s ≡ got a rest → Near l (g a)) → Near (k + l) (λ s. then (f s) g)
unfolding then
near_then {A} {B} {k} {l} {f} {g} r q = record { near = λ s m h. go s m h (r.near s m (omega arith)) }
  where
    rest : (s : List ℕ) (m u : ℕ) (a : A) → k + l ≤ m → u ≤ k
        → Alike l (m - u) (drop u s) (g a (take (m - u) (drop u s))) (g a (drop u s))
        → Alike (k + l) m s (g a (take (m - u) (drop u s))) (g a (drop u s))
    rest s m u a h le (both_refused n p o) = both_refused n p o
    rest s m u a h le (both_got b v less p o) =
        let e : m - u - v ≡ m - (u + v) = omega arith in
        both_got b (u + v) (omega arith) (rw (e, drop-drop) at p) (rw drop-drop at o)

    go : (s : List ℕ) (m : ℕ) → k + l ≤ m → Alike k m s (f (take m s)) (f s) → Alike (k + l) m s (then (f (take m s)) g) (then (f s) g)
    go s m h (both_refused n p o) = both_refused n (rw p) (rw o)
    go s m h (both_got a u le p o) = rw (p, o) (rest s m u a h le ((q a s (drop u s) o).near (drop u s) (m - u) (omega arith)))

-- ---- letters and fields

drop-take : (u m : ℕ) (s : List ℕ) → drop u (take m s) ≡ take (m - u) (drop u s)
drop-take zero m s = rw sub-zero
drop-take (suc u) zero s = rw zero-sub
drop-take (suc u) (suc m) [] = sym (take-nil (suc m - suc u))
drop-take (suc u) (suc m) (x ∷ s) = rw suc-sub-suc (drop-take u m s)

pub near_letter : (x : ℕ) → Near 2 (letter x)
unfolding letter
near_letter x = record { near = λ s m h. go s m h (known (both (eqb (get_or s 0 0) x) (eqb (get_or s 1 0) 44))) }
  where
    go : (s : List ℕ) (m : ℕ) → 2 ≤ m → Known (both (eqb (get_or s 0 0) x) (eqb (get_or s 1 0) 44))
        → Alike 2 m s (letter x (take m s)) (letter x s)
    go s m h (was_true t) =
        both_got x 2 (omega arith)
        (rw (get_or-take m s 0 0 (omega arith), get_or-take m s 1 0 (omega arith), drop-take) (pick_yes _ _ _ t)) (pick_yes _ _ _ t)
    go s m h (was_false t) =
        both_refused 1
        (rw (get_or-take m s 0 0 (omega arith), get_or-take m s 1 0 (omega arith)) (pick_no _ _ _ t)) (pick_no _ _ _ t)

-- an end within the first m bytes is found among them; else all of them stand before it
index_near : (b : ℕ) (s : List ℕ) (m : ℕ) → index_of b s < m → index_of b (take m s) ≡ index_of b s
unfolding index_of
index_near b s zero h = absurd (omega arith)
index_near b [] (suc m) h = refl
index_near b (x ∷ s) (suc m) h = go (known (eqb x b)) (index_near b s m)
  where
    go : Known (eqb x b) → (index_of b s < m → index_of b (take m s) ≡ index_of b s)
        → index_of b (take (suc m) (x ∷ s)) ≡ index_of b (x ∷ s)
    go (was_true t) ih = rw (t, index_of)
    go (was_false t) ih =
        let less : suc (index_of b s) < suc m = rw (t, index_of) at h in
        rw (t, index_of) (ap suc (ih (omega arith)))

index_far : (b : ℕ) (s : List ℕ) (m : ℕ) → m ≤ index_of b s → index_of b (take m s) ≡ m
unfolding index_of
index_far b s zero h = refl
index_far b [] (suc m) h = absurd (omega arith)
index_far b (x ∷ s) (suc m) h = go (known (eqb x b)) (index_far b s m)
  where
    go : Known (eqb x b) → (m ≤ index_of b s → index_of b (take m s) ≡ m) → index_of b (take (suc m) (x ∷ s)) ≡ suc m
    go (was_true t) ih = let none : suc m ≤ 0 = rw (t, index_of) at h in absurd (omega arith)
    go (was_false t) ih =
        let less : suc m ≤ suc (index_of b s) = rw (t, index_of) at h in
        rw (t, index_of) (ap suc (ih (omega arith)))

-- a field that has not ended by the eighth byte
field_long : (r : Range) (e : ℕ) (s : List ℕ) → 8 ≤ index_of e s → field r e s ≡ refused 1
unfolding field
field_long r e s h = go (known (ltb (index_of e s) (length s)))
  where
    go : Known (ltb (index_of e s) (length s)) → field r e s ≡ refused 1
    go (was_true t) =
        let less : index_of e s < length s = ltb-true _ _ t in
        let size : length (take (index_of e s) s) ≡ index_of e s = length-take-le (index_of e s) s (omega arith) in
        let none : None ≡ number_of (take (index_of e s) s) = number_long (take (index_of e s) s) (λ z. omega arith) (omega arith) in
        pick_yes _ _ _ t ∙ rw (← none)
    go (was_false t) = pick_no _ _ _ t

pub near_field : (r : Range) (e : ℕ) → Near 8 (field r e)
unfolding field pick
near_field r e = record { near = λ s m h. go s m h (lt_or_ge (index_of e s) 8) }
  where
    value : (s : List ℕ) (m i : ℕ) → 8 ≤ m → i < 8 → (n : Option ℕ)
        → Alike 8 m s (ranged r n (take (m - suc i) (drop (suc i) s))) (ranged r n (drop (suc i) s))
    value s m i h less None = both_refused 1 refl refl
    value s m i h less (Some n) = cases (known (both (leb r.low n) (leb n r.high)))
      where
        cases : Known (both (leb r.low n) (leb n r.high))
            → Alike 8 m s (ranged r (Some n) (take (m - suc i) (drop (suc i) s))) (ranged r (Some n) (drop (suc i) s))
        cases (was_true t) = both_got n (suc i) (omega arith) (pick_yes _ _ _ t) (pick_yes _ _ _ t)
        cases (was_false t) = both_refused 2 (pick_no _ _ _ t) (pick_no _ _ _ t)

    short : (s : List ℕ) (m : ℕ) → 8 ≤ m → index_of e s < 8 → Known (ltb (index_of e s) (length s))
        → Alike 8 m s (field r e (take m s)) (field r e s)
    short s m h less (was_true t) =
        let inside : index_of e s < length s = ltb-true _ _ t in
        let there : ltb (index_of e s) (length (take m s)) ≡ true = lt-ltb (index_of e s) (length (take m s)) (rw length-take (omega arith)) in
        rw (index_near e s m (omega arith), there, t, take-take (index_of e s) m s (omega arith), drop-take)
        (value s m (index_of e s) h less (number_of (take (index_of e s) s)))
    short s m h less (was_false t) =
        let none : length s ≤ index_of e s = ltb-false _ _ t in
        let there : ltb (index_of e s) (length (take m s)) ≡ false = le-ltb (index_of e s) (length (take m s)) (rw length-take (omega arith)) in
        both_refused 1 (rw (index_near e s m (omega arith)) (pick_no _ _ _ there)) (pick_no _ _ _ t)

    go : (s : List ℕ) (m : ℕ) → 8 ≤ m → (index_of e s < 8) ⊎ (8 ≤ index_of e s) → Alike 8 m s (field r e (take m s)) (field r e s)
    go s m h (inl less) = short s m h less (known (ltb (index_of e s) (length s)))
    go s m h (inr far) = both_refused 1 (field_long r e (take m s) (later (lt_or_ge (index_of e s) m))) (field_long r e s far)
      where
        later : (index_of e s < m) ⊎ (m ≤ index_of e s) → 8 ≤ index_of e (take m s)
        later (inl less) = rw (index_near e s m less) far
        later (inr more) = rw (index_far e s m more) h

-- ---- the parts of a line, a line, and lines

pub near_numbers : (rs : List Range) → Near (8 * length rs) (numbers rs)
unfolding numbers
near_numbers [] = near_got []
near_numbers (r ∷ rs) =
    near_more _ (near_then (near_field r (end_byte rs)) λ n s rest e. near_then (near_numbers rs) λ ns s1 rest1 e1. near_got (n ∷ ns)) (omega arith)

pub near_line : (x : ℕ) (rs : List Range) → Near (2 + 8 * length rs) (line x rs)
unfolding line
near_line x rs = near_then (near_letter x) λ c s rest e. near_numbers rs

pub near_lines : (x : ℕ) (rs : List Range) (k : ℕ) → Near (k * (2 + 8 * length rs)) (lines x rs k)
unfolding lines
near_lines x rs zero = near_more _ (near_got []) (omega arith)
near_lines x rs (suc k) =
    near_more _ (near_then (near_line x rs) λ ns s rest e. near_then (near_lines x rs k) λ rows s1 rest1 e1. near_got (ns ∷ rows))
    (omega (arith, suc-mul k (2 + 8 * length rs)))
