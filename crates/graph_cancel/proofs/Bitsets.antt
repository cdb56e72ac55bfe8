-- The vertices on a cycle as one set. Edge e gives its tail t to the set where it is positive and t is in the bitset of
-- its head. For a vertex v that is what `leads` asks of e in column v: e leaves v, so t is v. So v is in the set where
-- some edge leads, and that is where the lowest such edge is one.
use mathlib.Core.Path.{◌≡◌, refl, sym, ap, ◌∙◌}
use mathlib.Core.Bool.{Bool, true, false, true≢false}
use mathlib.Core.List.{List}
use mathlib.Core.Logic.{◌⊎◌, inl, inr, ◌≢◌}
use Prim.Native.Nat.{ℕ, ◌+◌, ◌-◌, ◌<◌, ◌≤◌, min}
use native.Mathlib.Nat.{sub-zero}
use native.Mathlib.Omega.{arith}
use lib.Dec.{ltb}
use lib.ListN.{length, get_or}
use borrow.Author.Tests.{eq-eqb, ne_eqb, lt-ltb, le-ltb}
use Rattle.lists.specs.Choice.{pick, both, either}
use Rattle.lists.specs.Lists.{lowest}
use Rattle.lists.proofs.Laws.{Known, was_true, was_false, known, eq_or_ne, lt_or_ge, pick_yes, pick_no, lowest_hit, lowest_miss, lowest_end}
use Rattle.sets.specs.Sets.{has_bit, with_bit}
use Rattle.sets.specs.Inner.{word_width}
use Rattle.sets.proofs.Bits.{has-none, has_with_same, has_with_other}
use Rattle.graph.specs.Graph.{reached, leads, onward}
use Rattle.graph.specs.Bitsets.{column}
use Rattle.graph.proofs.Columns.{column_at, either_true, either_false}
use Rattle.graph.proofs.Onwards.{cut_found, cut_none}
use Rattle.graph_cancel.specs.Cycles.{on_cycle, cycle_vertex}

-- two tests of which one does not hold
pub first_false : (a b : Bool) → a ≡ false → both a b ≡ false
unfolding both
first_false a b e = rw e

pub second_false : (a b : Bool) → b ≡ false → both a b ≡ false
unfolding both
second_false true b e = e
second_false false b e = refl

module _ (tails heads flows bitsets : List ℕ) where
  -- edge e is positive, and its tail is in the bitset of its head
  abbrev pub closes : ℕ → Bool
  closes e = both (ltb 0 (get_or flows e 0)) (has_bit (get_or bitsets (get_or heads e 0) 0) (get_or tails e 0))

  -- v leads over an edge into its own column
  abbrev pub leads_of : ℕ → ℕ → Bool
  leads_of v = leads tails heads flows (column bitsets v) v

  leads_tail : (e v : ℕ) → get_or tails e 0 ≡ v → leads_of v e ≡ closes e
  unfolding leads both
  leads_tail e v h =
      rw (← h, eq-eqb (get_or tails e 0) (get_or tails e 0) refl)
      (ap (both (ltb 0 (get_or flows e 0))) (column_at bitsets (get_or tails e 0) (get_or heads e 0)))

  leads_other : (e v : ℕ) → get_or tails e 0 ≢ v → leads_of v e ≡ false
  unfolding leads both
  leads_other e v h = rw (ne_eqb (get_or tails e 0) v h) (go (ltb 0 (get_or flows e 0)))
    where
      go : (b : Bool) → both b false ≡ false
      go true = refl
      go false = refl

  -- the set m, of the edges before e, and the edges from e on
  abbrev pub found : ℕ → ℕ → ℕ → Bool
  found m e v = either (has_bit m v) (ltb (lowest (leads_of v) e (length flows - e)) (length flows))

  pub found_none : (v : ℕ) → found 0 0 v ≡ ltb (onward tails heads flows (column bitsets v) v) (length flows)
  unfolding onward either
  found_none v = rw (has-none v, sub-zero)

  pub found_end : (m e v : ℕ) → length flows ≤ e → found m e v ≡ has_bit m v
  found_end m e v h = rw (lowest_end (leads_of v) (length flows) e h, le-ltb e (length flows) h) (either_false (has_bit m v))

  module _ (m r e : ℕ) (h : e < length flows) (q : r ≡ pick (closes e) (with_bit m (get_or tails e 0)) m) where
    -- where edge e leads for v, v joins the set; else what is known of v stays
    joins : (v : ℕ) → leads_of v e ≡ true → has_bit r v ≡ true
    joins v t = go (eq_or_ne (get_or tails e 0) v)
      where
        go : (get_or tails e 0 ≡ v) ⊎ (get_or tails e 0 ≢ v) → has_bit r v ≡ true
        go (inl s) = rw (q ∙ pick_yes _ _ _ (sym (leads_tail e v s) ∙ t), s) (has_with_same m v)
        go (inr n) = absurd (true≢false (sym t ∙ leads_other e v n))

    stays : (v : ℕ) → leads_of v e ≡ false → has_bit r v ≡ has_bit m v
    stays v t = go (eq_or_ne (get_or tails e 0) v) (known (closes e))
      where
        go : (get_or tails e 0 ≡ v) ⊎ (get_or tails e 0 ≢ v) → Known (closes e) → has_bit r v ≡ has_bit m v
        go s (was_false n) = ap (λ (x : ℕ). has_bit x v) (q ∙ pick_no _ _ _ n)
        go (inl s) (was_true y) = ap (λ (x : ℕ). has_bit x v) (q ∙ pick_no _ _ _ (sym (leads_tail e v s) ∙ t))
        go (inr n) (was_true y) = ap (λ (x : ℕ). has_bit x v) (q ∙ pick_yes _ _ _ y) ∙ has_with_other m (get_or tails e 0) v (λ s. n (sym s))

    pub found_turn : (v : ℕ) → found r (e + 1) v ≡ found m e v
    unfolding either
    found_turn v = go (known (leads_of v e))
      where
        go : Known (leads_of v e) → found r (e + 1) v ≡ found m e v
        go (was_true t) = rw (joins v t, lowest_hit (leads_of v) (length flows) e h t, lt-ltb e (length flows) h) (sym (either_true (has_bit m v)))
        go (was_false t) = rw (stays v t, lowest_miss (leads_of v) (length flows) e h t)

-- the lowest vertex on a cycle is the lowest of the set, where that is one of the n
module _ (tails heads flows bitsets : List ℕ) (n m v : ℕ) (fits : n ≤ word_width)
    (rest : (u : ℕ) → column bitsets u ≡ reached heads tails flows n u)
    (on : (u : ℕ) → has_bit m u ≡ ltb (onward tails heads flows (column bitsets u) u) (length flows)) (low : v ≡ lowest (has_bit m) 0 word_width) where
  same : (u : ℕ) → u < n → has_bit m u ≡ on_cycle tails heads n flows u
  unfolding on_cycle
  same u h = on u ∙ rw (rest u)

  pub vertex_found : min v n ≡ cycle_vertex tails heads n flows
  unfolding cycle_vertex
  vertex_found = go (lt_or_ge v n)
    where
      go : (v < n) ⊎ (n ≤ v) → min v n ≡ lowest (on_cycle tails heads n flows) 0 n
      go (inl h) = let e : min v n ≡ v = omega arith in e ∙ cut_found (on_cycle tails heads n flows) (has_bit m) n word_width v fits same low h
      go (inr h) = let e : min v n ≡ n = omega arith in e ∙ cut_none (on_cycle tails heads n flows) (has_bit m) n word_width v fits same low h

-- the bitsets of as many vertices as there are bitsets
pub counted : (from to flows bitsets : List ℕ) (n k : ℕ) → n ≡ k → ((v : ℕ) → column bitsets v ≡ reached from to flows k v) → (v : ℕ)
    → column bitsets v ≡ reached from to flows n v
counted from to flows bitsets n k e f = rw e f
