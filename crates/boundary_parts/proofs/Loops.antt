-- One round of each loop that fills a row. What is still to be stored stands behind what is stored, so that a round leaves the whole as it was.
use mathlib.Core.Path.{◌≡◌, refl, sym, ap, ◌∙◌}
use mathlib.Core.Bool.{Bool, true, false}
use Rattle.std.specs.Int.{from_bool}
use mathlib.Core.List.{List, [], ◌∷◌, ◌++◌, map, append-nil}
use Prim.Native.Nat.{ℕ, suc, ◌+◌, ◌-◌, ◌<◌, ◌≤◌}
use native.Mathlib.Nat.{zero-add, add-zero, add-suc, suc-add, sub-zero}
use native.Mathlib.Numerals.{add-one}
use native.Mathlib.Omega.{arith}
use lib.ListN.{length, set, drop, replicate, length-replicate, drop_of_length-le}
use lib.Seq.{sets, sets-eq}
use Rattle.lists.specs.Choice.{pick}
use Rattle.lists.specs.Lists.{tabulated}
use Rattle.lists.proofs.Laws.{pick_yes, pick_no}
use Rattle.lists.proofs.Tabulated.{length-tabulated}
use Rattle.sets.specs.Sets.{has_bit}
use Rattle.board.specs.Limits.{max_edges}
use Rattle.boundary_parts.specs.Shown.{as_number, no_row, way_in, elements_from, elements, in_row}

-- what is left from i on, before and after one more
next_left : (n i : ℕ) → i < n → n - i ≡ suc (n - suc i)
next_left n i h = omega arith

none_left : (n i : ℕ) → n ≤ i → n - i ≡ 0
none_left n i h = omega arith

-- ---- A row of the values of a function.

module _ (f : ℕ → ℕ) (n : ℕ) where
  -- the row at i: with the values from i on it is the whole
  abbrev pub Filling : List ℕ → ℕ → Type 0
  Filling row i = sets row i (tabulated f i (n - i)) ≡ tabulated f 0 n

  pub filling_first : Filling (replicate n 0) 0
  filling_first = rw (sub-zero n) whole
    where
      whole : sets (replicate n 0) 0 (tabulated f 0 n) ≡ tabulated f 0 n
      whole =
          let long : length (tabulated f 0 n) ≡ n = length-tabulated f 0 n in
          let wide : length (replicate {A = ℕ} n 0) ≡ n = length-replicate n 0 in
          let rest : drop {A = ℕ} (0 + length (tabulated f 0 n)) (replicate n 0) ≡ [] =
          drop_of_length-le (replicate n 0) {i = 0 + length (tabulated f 0 n)} (omega (arith, long, wide)) in
          sets-eq (tabulated f 0 n) (replicate n 0) 0 (omega (arith, long, wide))
          ∙ ap (λ (r : List ℕ). tabulated f 0 n ++ r) rest
          ∙ append-nil (tabulated f 0 n)

  pub filling_more : (row : List ℕ) (i x : ℕ) → i < n → x ≡ f i → Filling row i → Filling (set row i x) (i + 1)
  unfolding tabulated
  filling_more row i x h e g =
      let again : sets (set row i (f i)) (suc i) (tabulated f (suc i) (n - suc i)) ≡ tabulated f 0 n = rw (next_left n i h) at g in
      rw (e, add-one i) again

  pub filling_end : (row : List ℕ) (i : ℕ) → n ≤ i → Filling row i → row ≡ tabulated f 0 n
  unfolding tabulated
  filling_end row i h g = rw (none_left n i h) at g

-- ---- The elements of a set.

-- the two rows and the count before element e: with the elements from e on they are the whole
pub record Listing (m ups : ℕ) (edges ways : List ℕ) (count e : ℕ) : Type 0 where
  pub counted : count + length (elements_from m e (max_edges - e)) ≡ length (elements m)
  pub listed_edges : sets edges count (elements_from m e (max_edges - e)) ≡ in_row (elements m)
  pub listed_ways : sets ways count (map (way_in ups) (elements_from m e (max_edges - e))) ≡ in_row (map (way_in ups) (elements m))

-- one number more, and none
element_there : (m e k : ℕ) → has_bit m e ≡ true → elements_from m e (suc k) ≡ e ∷ elements_from m (suc e) k
unfolding elements_from
element_there m e k t = pick_yes (has_bit m e) (e ∷ elements_from m (suc e) k) (elements_from m (suc e) k) t

element_not : (m e k : ℕ) → has_bit m e ≡ false → elements_from m e (suc k) ≡ elements_from m (suc e) k
unfolding elements_from
element_not m e k t = pick_no (has_bit m e) (e ∷ elements_from m (suc e) k) (elements_from m (suc e) k) t

no_element : (m e : ℕ) → elements_from m e 0 ≡ []
unfolding elements_from
no_element m e = refl

module _ (m ups : ℕ) where
  pub listing_first : Listing m ups no_row no_row 0 0
  listing_first = record { counted = zero-add (length (elements m)); listed_edges = refl; listed_ways = refl }

  module _ (edges ways : List ℕ) (count e : ℕ) where
    from_there : has_bit m e ≡ true → e < max_edges → elements_from m e (max_edges - e) ≡ e ∷ elements_from m (suc e) (max_edges - suc e)
    from_there t h = ap (elements_from m e) (next_left max_edges e h) ∙ element_there m e (max_edges - suc e) t

    from_left : has_bit m e ≡ false → e < max_edges → elements_from m e (max_edges - e) ≡ elements_from m (suc e) (max_edges - suc e)
    from_left t h = ap (elements_from m e) (next_left max_edges e h) ∙ element_not m e (max_edges - suc e) t

    pub listing_more : (x y : ℕ) → has_bit m e ≡ true → e < max_edges → x ≡ e → y ≡ way_in ups e → Listing m ups edges ways count e
        → Listing m ups (set edges count x) (set ways count y) (count + 1) (e + 1)
    listing_more x y t h ex ey l =
        let rest = elements_from m (suc e) (max_edges - suc e) in
        let from = from_there t h in
        let number : count + suc (length rest) ≡ length (elements m) = rw from at l.counted in
        let there : sets (set edges count e) (suc count) rest ≡ in_row (elements m) = rw from at l.listed_edges in
        let going : sets (set ways count (way_in ups e)) (suc count) (map (way_in ups) rest) ≡ in_row (map (way_in ups) (elements m)) =
        rw from at l.listed_ways in
        record {
          counted = rw (add-one e, add-one count) (suc-add count (length rest) ∙ sym (add-suc count (length rest)) ∙ number);
          listed_edges = rw (ex, add-one e, add-one count) there;
          listed_ways = rw (ey, add-one e, add-one count) going;
        }

    pub listing_on : has_bit m e ≡ false → e < max_edges → Listing m ups edges ways count e → Listing m ups edges ways count (e + 1)
    listing_on t h l =
        let from = from_left t h in
        record {
          counted = rw (add-one e) (rw from at l.counted);
          listed_edges = rw (add-one e) (rw from at l.listed_edges);
          listed_ways = rw (add-one e) (rw from at l.listed_ways);
        }

    pub listing_end : max_edges ≤ e → Listing m ups edges ways count e
        → (count ≡ length (elements m)) × ((edges ≡ in_row (elements m)) × (ways ≡ in_row (map (way_in ups) (elements m))))
    listing_end h l =
        let none = ap (elements_from m e) (none_left max_edges e h) ∙ no_element m e in
        let number : count + 0 ≡ length (elements m) = rw none at l.counted in
        (sym (add-zero count) ∙ number, (rw none at l.listed_edges, rw none at l.listed_ways))

-- ---- A test as a number.

pub from_test : (t : Bool) → from_bool t ≡ as_number t
unfolding pick
from_test true = refl
from_test false = refl
