-- Places of the journal that are packed anew, one behind the other: what each place holds then; that blanking them again gives back the words of before where
-- they were blank; that they hold what was packed last; and that the words stay those of the journal, place by place, where the rest of it is as it was.
use mathlib.Core.Path.{◌≡◌, refl, sym, ap, ◌∙◌}
use mathlib.Core.Bool.{true, false≢true}
use mathlib.Core.List.{List, [], ◌∷◌}
use mathlib.Core.Logic.{◌⊎◌, inl, inr, ◌≢◌}
use Prim.Native.Nat.{ℕ, zero, suc, ◌+◌, ◌<◌, ◌≤◌}
use native.Mathlib.Omega.{arith}
use lib.Dec.{eqb}
use lib.ListN.{length, get_or, set, replicate, length-set, length-map}
use lib.Seq.{get_or-set_same, get_or-set_other, ext_get_or}
use borrow.Author.Tests.{eqb-true}
use Rattle.lists.specs.Choice.{both}
use Rattle.lists.proofs.Laws.{lt_or_ge, both_left, both_right}
use Rattle.board.specs.Record.{blank}
use Rattle.board.specs.Whole.{Entry}
use Rattle.journal.specs.Words.{packed, blank_words, packed_on, packed_all}
use Rattle.journal.specs.Inner.{place_words, is_zeros, is_blank_at}
use Rattle.journal.proofs.Laws.{blank_past}

-- lists of words
abbrev Words : Type 0
Words = List (List ℕ)

-- two stores at one place, and at two; a store of what is there
set_twice : (w : Words) (i : ℕ) (x y : List ℕ) → set (set w i x) i y ≡ set w i y
set_twice [] i x y = refl
set_twice (a ∷ w) zero x y = refl
set_twice (a ∷ w) (suc i) x y = ap (λ (t : Words). a ∷ t) (set_twice w i x y)

set_apart : (w : Words) (i j : ℕ) (x y : List ℕ) → i ≢ j → set (set w i x) j y ≡ set (set w j y) i x
set_apart [] i j x y h = refl
set_apart (a ∷ w) zero zero x y h = absurd (h refl)
set_apart (a ∷ w) zero (suc j) x y h = refl
set_apart (a ∷ w) (suc i) zero x y h = refl
set_apart (a ∷ w) (suc i) (suc j) x y h = ap (λ (t : Words). a ∷ t) (set_apart w i j x y (λ e. h (ap suc e)))

set_there : (w : Words) (i : ℕ) (x : List ℕ) → get_or w i x ≡ x → set w i x ≡ w
set_there [] i x h = refl
set_there (a ∷ w) zero x h = ap (λ (b : List ℕ). b ∷ w) (sym h)
set_there (a ∷ w) (suc i) x h = ap (λ (t : Words). a ∷ t) (set_there w i x h)

-- zeros are the blank's words
zeros_blank : (n : ℕ) (w : List ℕ) → is_zeros n w ≡ true → w ≡ replicate n 0
unfolding is_zeros
zeros_blank zero [] h = refl
zeros_blank zero (x ∷ w) h = absurd (false≢true h)
zeros_blank (suc n) [] h = absurd (false≢true h)
zeros_blank (suc n) (x ∷ w) h = λ i. eqb-true x 0 (both_left _ _ h) i ∷ zeros_blank n w (both_right (eqb x 0) _ h) i

-- a place of packed entries
pub packed_at : (es : List Entry) (i : ℕ) → get_or (packed_all es) i blank_words ≡ packed (get_or es i blank)
packed_at [] i = refl
packed_at (e ∷ es) zero = refl
packed_at (e ∷ es) (suc i) = packed_at es i

module _ (at : ℕ) where
  pub packed_on-length : (k : ℕ) (es : List Entry) (w : Words) → length (packed_on k at es w) ≡ length w
  unfolding packed_on
  packed_on-length zero es w = refl
  packed_on-length (suc k) es w = length-set (packed_on k at es w) (at + k) (packed (get_or es (at + k) blank)) ∙ packed_on-length k es w

  -- a store behind the places that are packed
  packed_on-behind : (k : ℕ) (es : List Entry) (w : Words) (j : ℕ) (x : List ℕ) → at + k ≤ j
      → packed_on k at es (set w j x) ≡ set (packed_on k at es w) j x
  unfolding packed_on
  packed_on-behind zero es w j x h = refl
  packed_on-behind (suc k) es w j x h =
      ap (λ (t : Words). set t (at + k) (packed (get_or es (at + k) blank))) (packed_on-behind k es w j x (omega arith))
      ∙ set_apart (packed_on k at es w) j (at + k) x (packed (get_or es (at + k) blank)) (λ e. omega (arith, e, h))

  -- the entries of two journals that agree so far
  pub packed_on_same : (k : ℕ) (es fs : List Entry) (w : Words) → ((i : ℕ) → i < at + k → get_or es i blank ≡ get_or fs i blank)
      → packed_on k at es w ≡ packed_on k at fs w
  unfolding packed_on
  packed_on_same zero es fs w h = refl
  packed_on_same (suc k) es fs w h =
      ap (λ (t : Words). set t (at + k) (packed (get_or es (at + k) blank))) (packed_on_same k es fs w (λ i l. h i (omega arith)))
      ∙ ap (λ (e : Entry). set (packed_on k at fs w) (at + k) (packed e)) (h (at + k) (omega arith))

  -- what a place holds
  pub packed_on_other : (k : ℕ) (es : List Entry) (w : Words) (i : ℕ) (d : List ℕ) → (i < at) ⊎ (at + k ≤ i)
      → get_or (packed_on k at es w) i d ≡ get_or w i d
  unfolding packed_on
  packed_on_other zero es w i d h = refl
  packed_on_other (suc k) es w i d h =
      get_or-set_other (packed_on k at es w) (at + k) i (packed (get_or es (at + k) blank)) d (apart h) ∙ packed_on_other k es w i d (less h)
    where
      apart : (i < at) ⊎ (at + suc k ≤ i) → i ≢ at + k
      apart (inl l) e = omega (arith, e)
      apart (inr l) e = omega (arith, e)

      less : (i < at) ⊎ (at + suc k ≤ i) → (i < at) ⊎ (at + k ≤ i)
      less (inl l) = inl l
      less (inr l) = inr (omega arith)

  pub packed_on_at : (k : ℕ) (es : List Entry) (w : Words) (i : ℕ) (d : List ℕ) → at ≤ i → i < at + k → i < length w
      → get_or (packed_on k at es w) i d ≡ packed (get_or es i blank)
  unfolding packed_on
  packed_on_at zero es w i d low high inside = absurd (omega arith)
  packed_on_at (suc k) es w i d low high inside = go (lt_or_ge i (at + k)) (λ h. packed_on_at k es w i d low h inside)
    where
      go : (i < at + k) ⊎ (at + k ≤ i) → (i < at + k → get_or (packed_on k at es w) i d ≡ packed (get_or es i blank))
          → get_or (set (packed_on k at es w) (at + k) (packed (get_or es (at + k) blank))) i d ≡ packed (get_or es i blank)
      go (inl h) ih = get_or-set_other (packed_on k at es w) (at + k) i (packed (get_or es (at + k) blank)) d (λ e. omega (arith, e, h)) ∙ ih h
      go (inr h) ih =
          let e : i ≡ at + k = omega arith in
          rw e (get_or-set_same (packed_on k at es w) (at + k) (packed (get_or es (at + k) blank)) d (omega (arith, packed_on-length k es w)))

  -- blank places that were packed, and are blanked again
  pub wiped_back : (k : ℕ) (es : List Entry) (w : Words) → ((i : ℕ) → at ≤ i → i < at + k → is_blank_at w i ≡ true)
      → packed_on k at [] (packed_on k at es w) ≡ w
  unfolding packed_on is_blank_at
  wiped_back zero es w h = refl
  wiped_back (suc k) es w h =
      ap (λ (t : Words). set t (at + k) blank_words) (packed_on-behind k [] (packed_on k at es w) (at + k) (packed (get_or es (at + k) blank)) (omega arith))
      ∙ set_twice (packed_on k at [] (packed_on k at es w)) (at + k) (packed (get_or es (at + k) blank)) blank_words
      ∙ ap (λ (t : Words). set t (at + k) blank_words) (wiped_back k es w (λ i low high. h i low (omega arith)))
      ∙ set_there w (at + k) blank_words (zeros_blank 5 (get_or w (at + k) blank_words) (h (at + k) (omega arith) (omega arith)))

  -- places that were blanked
  pub wiped_blank : (k : ℕ) (w : Words) (i : ℕ) → at ≤ i → i < at + k → is_blank_at (packed_on k at [] w) i ≡ true
  unfolding is_blank_at is_zeros both
  wiped_blank k w i low high = go (lt_or_ge i (length w))
    where
      go : (i < length w) ⊎ (length w ≤ i) → is_blank_at (packed_on k at [] w) i ≡ true
      go (inl h) = ap (is_zeros place_words) (packed_on_at k [] w i blank_words low high h)
      go (inr h) = sym (blank_past (packed_on k at [] w) i (omega (arith, h, packed_on-length k [] w)))

  -- places that were packed twice
  pub packed_on_over : (k n : ℕ) (es fs : List Entry) (w : Words) → k ≤ n → packed_on n at fs (packed_on k at es w) ≡ packed_on n at fs w
  packed_on_over k n es fs w less =
      ext_get_or blank_words (packed_on n at fs (packed_on k at es w)) (packed_on n at fs w)
      (packed_on-length n fs (packed_on k at es w) ∙ packed_on-length k es w ∙ sym (packed_on-length n fs w))
      (λ i h. each i (omega (arith, h, packed_on-length n fs (packed_on k at es w), packed_on-length k es w)))
    where
      outside : (i : ℕ) → (i < at) ⊎ (at + n ≤ i) → (i < at) ⊎ (at + k ≤ i)
      outside i (inl l) = inl l
      outside i (inr l) = inr (omega arith)

      other : (i : ℕ) → (i < at) ⊎ (at + n ≤ i) → get_or (packed_on n at fs (packed_on k at es w)) i blank_words ≡ get_or (packed_on n at fs w) i blank_words
      other i h =
          packed_on_other n fs (packed_on k at es w) i blank_words h ∙ packed_on_other k es w i blank_words (outside i h)
          ∙ sym (packed_on_other n fs w i blank_words h)

      each : (i : ℕ) → i < length w → get_or (packed_on n at fs (packed_on k at es w)) i blank_words ≡ get_or (packed_on n at fs w) i blank_words
      each i inside = low (lt_or_ge i at)
        where
          high : at ≤ i → (i < at + n) ⊎ (at + n ≤ i) → get_or (packed_on n at fs (packed_on k at es w)) i blank_words ≡ get_or (packed_on n at fs w) i blank_words
          high l (inl h) =
              packed_on_at n fs (packed_on k at es w) i blank_words l h (omega (arith, inside, packed_on-length k es w))
              ∙ sym (packed_on_at n fs w i blank_words l h inside)
          high l (inr h) = other i (inr h)

          low : (i < at) ⊎ (at ≤ i) → get_or (packed_on n at fs (packed_on k at es w)) i blank_words ≡ get_or (packed_on n at fs w) i blank_words
          low (inl l) = other i (inl l)
          low (inr l) = high l (lt_or_ge i (at + n))

  -- the words stay those of the journal where the other places are as they were
  pub packed_on-all : (k : ℕ) (es fs : List Entry) → length es ≡ length fs → ((i : ℕ) → (i < at) ⊎ (at + k ≤ i) → get_or es i blank ≡ get_or fs i blank)
      → packed_on k at fs (packed_all es) ≡ packed_all fs
  packed_on-all k es fs long same =
      ext_get_or blank_words (packed_on k at fs (packed_all es)) (packed_all fs)
      (packed_on-length k fs (packed_all es) ∙ length-map es packed ∙ long ∙ sym (length-map fs packed))
      (λ i h. each i (omega (arith, h, packed_on-length k fs (packed_all es), length-map es packed)))
    where
      outside : (i : ℕ) → (i < at) ⊎ (at + k ≤ i) → get_or (packed_on k at fs (packed_all es)) i blank_words ≡ get_or (packed_all fs) i blank_words
      outside i h = packed_on_other k fs (packed_all es) i blank_words h ∙ packed_at es i ∙ ap packed (same i h) ∙ sym (packed_at fs i)

      each : (i : ℕ) → i < length es → get_or (packed_on k at fs (packed_all es)) i blank_words ≡ get_or (packed_all fs) i blank_words
      each i inside = low (lt_or_ge i at)
        where
          high : at ≤ i → (i < at + k) ⊎ (at + k ≤ i) → get_or (packed_on k at fs (packed_all es)) i blank_words ≡ get_or (packed_all fs) i blank_words
          high l (inl h) = packed_on_at k fs (packed_all es) i blank_words l h (omega (arith, inside, length-map es packed)) ∙ sym (packed_at fs i)
          high l (inr h) = outside i (inr h)

          low : (i < at) ⊎ (at ≤ i) → get_or (packed_on k at fs (packed_all es)) i blank_words ≡ get_or (packed_all fs) i blank_words
          low (inl l) = outside i (inl l)
          low (inr l) = high l (lt_or_ge i (at + k))

-- an empty journal
pub packed_none : (n : ℕ) → packed_all (replicate n blank) ≡ replicate n blank_words
packed_none zero = refl
packed_none (suc n) = ap (λ (t : Words). blank_words ∷ t) (packed_none n)
