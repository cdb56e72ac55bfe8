-- The lowest edge of the set that the code looks at is the one that the search over all edges finds. Where the set is empty the search finds none; and where
-- the set without its lowest edge is empty, the search from the next edge on finds none: any edge of the set but the lowest is above it.
use mathlib.Core.Path.{◌≡◌, sym, ap, ◌∙◌}
use mathlib.Core.Bool.{Bool, true, not, true≢false}
use mathlib.Core.List.{List}
use mathlib.Core.Logic.{◌⊎◌, inl, inr, ◌≢◌}
use Prim.Native.Nat.{ℕ, suc, ◌+◌, ◌-◌, ◌<◌, ◌≤◌, ◌^◌}
use native.Mathlib.Nat.{sub-zero}
use native.Mathlib.Omega.{arith}
use lib.Bits.{and_le_r}
use lib.Dec.{ltb, eqb}
use lib.ListN.{length, get_or}
use borrow.Author.Tests.{lt-ltb, le-ltb, eq-eqb, ne_eqb}
use Rattle.lists.specs.Choice.{pick, both}
use Rattle.lists.specs.Lists.{lowest}
use Rattle.lists.proofs.Laws.{Known, was_true, was_false, known, lt_or_ge, eq_or_ne, pick_yes, pick_no, both_left, both_right, both_true}
use Rattle.lists.proofs.Lowest.{Least, lowest_least, lowest_found}
use Rattle.sets.specs.Sets.{has_bit}
use Rattle.sets.specs.Inner.{set_width, dropped}
use Rattle.sets.proofs.Bits.{has-none}
use Rattle.sets.proofs.Scan.{has-dropped, lowest_below_lem, lowest-has}
use Rattle.board.specs.Limits.{max_vertices, max_edges}
use Rattle.move_edges.specs.Singular.{leaves, leaving}
use Rattle.move_edges.specs.Incidence.{Incident, PositiveSet, touching_by}
use Rattle.move_edges.proofs.Meeting.{touching_is}

dropped-most : (m c : ℕ) → dropped m c ≤ m
unfolding dropped
dropped-most m c = go (known (has_bit m c))
  where
    go : Known (has_bit m c) → pick (has_bit m c) (m - 2 ^ c) m ≤ m
    go (was_true t) = rw (pick_yes (has_bit m c) (m - 2 ^ c) m t) (omega arith)
    go (was_false t) = rw (pick_no (has_bit m c) (m - 2 ^ c) m t) (omega arith)

module _ (ends flows edges : List ℕ) (positive v : ℕ) (at : Incident ends edges) (is_positive : PositiveSet flows positive) (small : v < max_vertices)
    (fits : positive < 2 ^ set_width) (long : length flows ≡ max_edges) where
  abbrev here : ℕ
  here = touching_by edges positive v

  bits : (e : ℕ) → has_bit here e ≡ leaves ends flows v e
  bits = touching_is ends flows edges positive v at is_positive small fits long

  here_fits : here < 2 ^ set_width
  here_fits = omega (arith, fits, and_le_r (get_or edges v 0) positive)

  -- the set without x has the other edges that the search would find
  pub without_at : (x e : ℕ) → has_bit (dropped here x) e ≡ both (leaves ends flows v e) (not (eqb e x))
  without_at x e = has-dropped here x e ∙ ap (λ (b : Bool). both b (not (eqb e x))) (bits e)

  -- the first edge, what is left without it, and the edge after it
  abbrev first : ℕ
  first = lowest (leaves ends flows v) 0 max_edges

  abbrev rest : ℕ
  rest = dropped here first

  abbrev second : ℕ
  second = lowest (leaves ends flows v) (suc first) (max_edges - suc first)

  lowest_is : lowest (has_bit here) 0 set_width ≡ first
  lowest_is = ap (λ (p : ℕ → Bool). lowest p 0 set_width) (λ i e. bits e i)

  none : here ≡ 0 → max_edges ≤ first
  none z = go (lt_or_ge first max_edges)
    where
      go : (first < max_edges) ⊎ (max_edges ≤ first) → max_edges ≤ first
      go (inr l) = l
      go (inl l) =
          let goes : leaves ends flows v first ≡ true = (lowest_least (leaves ends flows v) 0 max_edges).hit l in
          absurd (true≢false (sym goes ∙ sym (bits first) ∙ ap (λ (m : ℕ). has_bit m first) z ∙ has-none first))

  two : 0 < rest → second < max_edges
  two h =
      let fit : rest < 2 ^ set_width = omega (arith, here_fits, dropped-most here first) in
      let e = lowest (has_bit rest) 0 set_width in
      let has : both (leaves ends flows v e) (not (eqb e first)) ≡ true = sym (without_at first e) ∙ lowest-has rest fit h in
      let goes : leaves ends flows v e ≡ true = both_left _ _ has in
      let low : first ≤ e = lowest_found (leaves ends flows v) 0 max_edges e (omega arith) goes in
      let other : e ≡ first → ⊥ = λ q. true≢false (sym (both_right _ _ has) ∙ ap not (eq-eqb e first q)) in
      let above : suc first ≤ e = omega (arith, low, other) in
      let found : second ≤ e = lowest_found (leaves ends flows v) (suc first) (max_edges - suc first) e above goes in
      omega (arith, found, lowest_below_lem rest fit h)

  one : rest ≡ 0 → max_edges ≤ second
  one z = go (lt_or_ge second max_edges)
    where
      least : Least (leaves ends flows v) (suc first) (suc first + (max_edges - suc first)) second
      least = lowest_least (leaves ends flows v) (suc first) (max_edges - suc first)

      go : (second < max_edges) ⊎ (max_edges ≤ second) → max_edges ≤ second
      go (inr l) = l
      go (inl l) =
          let low : suc first ≤ second = least.low in
          let goes : leaves ends flows v second ≡ true = least.hit (omega (arith, low, l)) in
          let other : not (eqb second first) ≡ true = ap not (ne_eqb second first (λ q. omega (arith, q, low))) in
          absurd (true≢false (sym (both_true _ _ goes other) ∙ sym (without_at first second) ∙ ap (λ (m : ℕ). has_bit m second) z ∙ has-none second))

  -- the same as tests
  some_same : ltb 0 here ≡ ltb first max_edges
  some_same = go (eq_or_ne here 0)
    where
      go : (here ≡ 0) ⊎ (here ≢ 0) → ltb 0 here ≡ ltb first max_edges
      go (inl z) = rw (le-ltb 0 here (omega (arith, z)), le-ltb first max_edges (none z))
      go (inr n) =
          let h : 0 < here = omega (arith, n) in
          let inside : first < max_edges = omega (arith, lowest_is, lowest_below_lem here here_fits h) in
          rw (lt-ltb 0 here h, lt-ltb first max_edges inside)

  more_same : ltb 0 rest ≡ ltb second max_edges
  more_same = go (eq_or_ne rest 0)
    where
      go : (rest ≡ 0) ⊎ (rest ≢ 0) → ltb 0 rest ≡ ltb second max_edges
      go (inl z) = rw (le-ltb 0 rest (omega (arith, z)), le-ltb second max_edges (one z))
      go (inr n) = let h : 0 < rest = omega (arith, n) in rw (lt-ltb 0 rest h, lt-ltb second max_edges (two h))

  -- the edge that the search finds, whether it finds one, and whether it finds a second
  pub first_in : lowest (has_bit here) 0 set_width ≡ leaving ends flows v 0
  unfolding leaving
  first_in = lowest_is ∙ ap (λ (n : ℕ). lowest (leaves ends flows v) 0 n) (sym long) ∙ rw sub-zero

  pub some_in : ltb 0 here ≡ ltb (leaving ends flows v 0) (length flows)
  unfolding leaving
  some_in = some_same ∙ ap (λ (n : ℕ). ltb (lowest (leaves ends flows v) 0 n) n) (sym long) ∙ rw sub-zero

  pub more_in : ltb 0 (dropped here (lowest (has_bit here) 0 set_width)) ≡ ltb (leaving ends flows v (suc (leaving ends flows v 0))) (length flows)
  unfolding leaving
  more_in =
      ap (λ (e : ℕ). ltb 0 (dropped here e)) lowest_is ∙ more_same
      ∙ ap (λ (n : ℕ). ltb (lowest (leaves ends flows v) (suc (lowest (leaves ends flows v) 0 n)) (n - suc (lowest (leaves ends flows v) 0 n))) n) (sym long)
      ∙ rw sub-zero
