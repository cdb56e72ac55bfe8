-- One vertex of the way on, case by case in the code's shape: none left to look at, no edge leaves it, two leave it, or one does.
use mathlib.Core.Path.{◌≡◌, refl, ap, ◌∙◌}
use mathlib.Core.Bool.{true, false}
use mathlib.Core.Logic.{◌≢◌}
use mathlib.Core.List.{List}
use Prim.Native.Nat.{ℕ, zero, suc, ◌-◌}
use native.Mathlib.Omega.{arith}
use lib.ListN.{get_or}
use Rattle.sets.specs.Inner.{is_empty, dropped, lowest_in}
use Rattle.move_edges.specs.Incidence.{touching_by}
use Rattle.move_edges.specs.Marking.{straight_by}

module _ (heads sets : List ℕ) (positive k v : ℕ) where
  pub by_none : k ≡ 0 → true ≡ straight_by heads sets positive k v
  unfolding straight_by
  by_none z = rw z refl

module _ (heads sets : List ℕ) (positive v out : ℕ) (at : out ≡ touching_by sets positive v) where
  pub by_end : (k : ℕ) → k ≢ 0 → is_empty out ≡ true → true ≡ straight_by heads sets positive k v
  unfolding straight_by
  by_end zero some z = absurd (some refl)
  by_end (suc k) some z = let past : is_empty (touching_by sets positive v) ≡ true = rw at at z in rw (past, straight_by) refl

  module _ (e rest : ℕ) (some : is_empty out ≡ false) (first : e ≡ lowest_in out) (left : rest ≡ dropped out e) where
    one : is_empty (touching_by sets positive v) ≡ false
    one = rw at at some

    more : is_empty (dropped (touching_by sets positive v) (lowest_in (touching_by sets positive v))) ≡ is_empty rest
    more = rw (left, first, at) refl

    pub by_parts : (k : ℕ) → k ≢ 0 → is_empty rest ≡ false → false ≡ straight_by heads sets positive k v
    unfolding straight_by
    by_parts zero n h = absurd (n refl)
    by_parts (suc k) n h = let two = more ∙ h in rw (one, two, straight_by) refl

    pub by_on : (k : ℕ) → k ≢ 0 → is_empty rest ≡ true → straight_by heads sets positive (k - 1) (get_or heads e 0) ≡ straight_by heads sets positive k v
    unfolding straight_by
    by_on zero n h = absurd (n refl)
    by_on (suc k) n h =
        let two = more ∙ h in
        let less : suc k - 1 ≡ k = omega arith in
        let same : e ≡ lowest_in (touching_by sets positive v) = rw at at first in
        ap (λ (n : ℕ). straight_by heads sets positive n (get_or heads e 0)) less
        ∙ rw (one, two, straight_by) (ap (λ (u : ℕ). straight_by heads sets positive k (get_or heads u 0)) same)
