-- The way on by sets is the way on by lists: at each vertex the set has the edges that leave it, so the search over all edges finds the lowest of the set, and a
-- second one where the set has another. And an edge is fresh by the sets where it is by the lists.
use mathlib.Core.Path.{◌≡◌, refl, sym, ap, ◌∙◌}
use mathlib.Core.Bool.{Bool, true, false, not}
use mathlib.Core.List.{List}
use mathlib.Core.Logic.{◌⊎◌, inl, inr}
use Prim.Native.Nat.{ℕ, zero, suc, ◌<◌, ◌≤◌, ◌^◌}
use lib.Dec.{ltb}
use lib.ListN.{length, get_or}
use borrow.Author.Tests.{le-ltb}
use Rattle.lists.specs.Choice.{both}
use Rattle.lists.proofs.Laws.{lt_or_ge}
use Rattle.sets.specs.Sets.{none, collect}
use Rattle.sets.specs.Inner.{is_empty, set_width, dropped, lowest_in}
use Rattle.sets.proofs.Scan.{bits_ext, empty_above}
use Rattle.sets.proofs.Apart.{has-collect}
use Rattle.board.specs.Limits.{max_vertices}
use Rattle.move_edges.specs.Incidence.{touching_by}
use Rattle.move_edges.specs.Singular.{leaving, straight}
use Rattle.move_edges.proofs.Leaving.{first_in, some_in, more_in}
use Rattle.move_edges.specs.Marking.{singular_in, is_fresh_in, fresh_in, straight_by, singular_by, is_fresh_by}
use Rattle.move_edges.specs.Inner.{ChartedOut}

-- one vertex: whether an edge leaves it, whether a second does, and the way on
abbrev through : Bool → Bool → Bool → Bool
through one two on = elim one [ true ↦ elim two [ true ↦ false | false ↦ on ] | false ↦ true ]

-- the same by what is not there: no edge leaves it, no second one does
abbrev onward : Bool → Bool → Bool → Bool
onward none alone on = elim none [ true ↦ true | false ↦ elim alone [ true ↦ on | false ↦ false ] ]

same_way : (one two on : Bool) → onward (not one) (not two) on ≡ through one two on
same_way true true on = refl
same_way true false on = refl
same_way false two on = refl

module _ (tails heads flows sets : List ℕ) (positive : ℕ) (chart : ChartedOut tails heads flows sets positive) (fits : positive < 2 ^ set_width) where
  pub straight_same : (k v : ℕ) → v < max_vertices → straight_by heads sets positive k v ≡ straight tails heads flows k v
  unfolding straight_by straight
  straight_same zero v small = refl
  straight_same (suc k) v small =
      let first = first_in tails flows sets positive v chart.leave chart.is_positive small fits chart.all in
      let out = touching_by sets positive v in
      let one : is_empty out ≡ not (ltb (leaving tails flows v 0) (length flows)) =
      empty_above out ∙ ap not (some_in tails flows sets positive v chart.leave chart.is_positive small fits chart.all) in
      let two : is_empty (dropped out (lowest_in out)) ≡ not (ltb (leaving tails flows v (suc (leaving tails flows v 0))) (length flows)) =
      empty_above (dropped out (lowest_in out)) ∙ ap not (more_in tails flows sets positive v chart.leave chart.is_positive small fits chart.all) in
      let on = ap (λ (e : ℕ). straight_by heads sets positive k (get_or heads e 0)) first ∙ straight_same k (get_or heads (leaving tails flows v 0) 0) (chart.headed _) in
      (λ i. onward (one i) (two i) (on i)) ∙ same_way (ltb (leaving tails flows v 0) (length flows)) (ltb (leaving tails flows v (suc (leaving tails flows v 0))) (length flows))
      (straight tails heads flows k (get_or heads (leaving tails flows v 0) 0))

  pub singular_same : (vertices e : ℕ) → singular_by heads sets positive vertices e ≡ singular_in tails heads flows vertices e
  unfolding singular_by singular_in
  singular_same vertices e = straight_same vertices (get_or heads e 0) (chart.headed e)

  pub fresh_same : (vertices marks : ℕ) → collect (is_fresh_by heads sets positive vertices marks) none 0 set_width ≡ fresh_in tails heads flows vertices marks
  unfolding both fresh_in
  fresh_same vertices marks = bits_ext _ _ (λ c. has-collect _ set_width c ∙ go c (lt_or_ge c set_width) ∙ sym (has-collect _ (length flows) c))
    where
      go : (c : ℕ) → (c < set_width) ⊎ (set_width ≤ c)
          → both (ltb c set_width) (is_fresh_by heads sets positive vertices marks c) ≡ both (ltb c (length flows)) (is_fresh_in tails heads flows vertices marks c)
      go c (inl l) = rw (chart.all, chart.is_positive c l, singular_same vertices c) refl
      go c (inr l) = rw (chart.all, le-ltb c set_width l) refl
