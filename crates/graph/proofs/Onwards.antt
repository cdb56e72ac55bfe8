-- The edges that lead on, as a set for each vertex: edge e joins the bitset of the vertex that it leaves, and no other.
-- So the bitset of v collects the edges that lead on from v, and its lowest number is the lowest such edge.
use mathlib.Core.Path.{◌≡◌, refl, sym, ap, ◌∙◌}
use mathlib.Core.Bool.{Bool, true, false, true≢false}
use mathlib.Core.List.{List}
use mathlib.Core.Logic.{◌⊎◌, inl, inr, ◌≢◌}
use Prim.Native.Nat.{ℕ, ◌+◌, ◌-◌, ◌<◌, ◌≤◌, min}
use native.Mathlib.Nat.{zero-add}
use native.Mathlib.Omega.{arith}
use lib.Dec.{ltb, eqb}
use lib.ListN.{length, get_or, set, get_or-eq_default}
use lib.Seq.{get_or-set_same, get_or-set_other}
use borrow.Author.Tests.{eq-eqb, ne_eqb, lt-ltb, le-ltb}
use Rattle.lists.specs.Choice.{pick, both}
use Rattle.lists.specs.Lists.{lowest}
use Rattle.lists.proofs.Laws.{Known, was_true, was_false, known, eq_or_ne, lt_or_ge, pick_yes, pick_no, both_right}
use Rattle.lists.proofs.Lowest.{Least, lowest_least}
use Rattle.sets.specs.Sets.{has_bit, with_bit, collect}
use Rattle.sets.specs.Inner.{set_width}
use Rattle.sets.proofs.Bits.{has-none, collect_new, collect_from, collect_turn}
use Rattle.sets.proofs.Scan.{lowest_is}
use Rattle.graph.specs.Graph.{leads, onward}

both_false : (a : Bool) → both a false ≡ false
unfolding both
both_false true = refl
both_false false = refl

module _ (from to flows : List ℕ) (s : List Bool) (e : ℕ) where
  leads_zero : (v : ℕ) → get_or flows e 0 ≡ 0 → leads from to flows s v e ≡ false
  unfolding leads both
  leads_zero v h = rw h

  leads_outside : (v : ℕ) → get_or s (get_or to e 0) false ≡ false → leads from to flows s v e ≡ false
  unfolding leads
  leads_outside v h = rw (h, both_false (eqb (get_or from e 0) v), both_false (ltb 0 (get_or flows e 0)))

  leads_other : (v : ℕ) → get_or from e 0 ≢ v → leads from to flows s v e ≡ false
  unfolding leads both
  leads_other v h = rw (ne_eqb (get_or from e 0) v h) (both_false (ltb 0 (get_or flows e 0)))

  leads_here : (v : ℕ) → (get_or flows e 0 ≡ 0 → ⊥) → get_or s (get_or to e 0) false ≡ true → get_or from e 0 ≡ v → leads from to flows s v e ≡ true
  unfolding leads both
  leads_here v some inside h = let above : 0 < get_or flows e 0 = omega (arith, some) in rw (lt-ltb 0 (get_or flows e 0) above, eq-eqb (get_or from e 0) v h, inside)

  module _ (bitsets : List ℕ) where
    -- edge e does not lead on, from any vertex
    stayed : (v : ℕ) → leads from to flows s v e ≡ false → get_or bitsets v 0 ≡ pick (leads from to flows s v e) (with_bit (get_or bitsets v 0) e) (get_or bitsets v 0)
    stayed v h = sym (pick_no _ _ _ h)

    pub left_zero : get_or flows e 0 ≡ 0 → (v : ℕ) → get_or bitsets v 0 ≡ pick (leads from to flows s v e) (with_bit (get_or bitsets v 0) e) (get_or bitsets v 0)
    left_zero h v = stayed v (leads_zero v h)

    pub left_outside : get_or s (get_or to e 0) false ≡ false → (v : ℕ)
        → get_or bitsets v 0 ≡ pick (leads from to flows s v e) (with_bit (get_or bitsets v 0) e) (get_or bitsets v 0)
    left_outside h v = stayed v (leads_outside v h)

    pub left : (r : List ℕ) → (get_or flows e 0 ≡ 0 → ⊥) → get_or s (get_or to e 0) false ≡ true
        → r ≡ set bitsets (get_or from e 0) (with_bit (get_or bitsets (get_or from e 0) 0) e) → (v : ℕ) → v < length bitsets
        → get_or r v 0 ≡ pick (leads from to flows s v e) (with_bit (get_or bitsets v 0) e) (get_or bitsets v 0)
    left r some inside q v h = ap (λ (l : List ℕ). get_or l v 0) q ∙ go (eq_or_ne (get_or from e 0) v)
      where
        go : (get_or from e 0 ≡ v) ⊎ (get_or from e 0 ≢ v) → get_or (set bitsets (get_or from e 0) (with_bit (get_or bitsets (get_or from e 0) 0) e)) v 0
            ≡ pick (leads from to flows s v e) (with_bit (get_or bitsets v 0) e) (get_or bitsets v 0)
        go (inl t) = sym (pick_yes _ _ _ (leads_here v some inside t) ∙ sym (rw t (get_or-set_same bitsets v (with_bit (get_or bitsets v 0) e) 0 h)))
        go (inr n) = get_or-set_other bitsets (get_or from e 0) v _ 0 (λ t. n (sym t)) ∙ stayed v (leads_other v n)

-- collecting one edge into a bitset
pub collect_left : (p : ℕ → Bool) (m r i n total : ℕ) → i < n → r ≡ pick (p i) (with_bit m i) m → collect p m i (n - i) ≡ total
    → collect p r (i + 1) (n - (i + 1)) ≡ total
collect_left p m r i n total h q inv = rw q (collect_turn p m i n total h inv)

-- the numbers below n of a set are those that it has collected
collected : (p : ℕ → Bool) (n u : ℕ) → u < n → has_bit (collect p 0 0 n) u ≡ p u
collected p n u h = go (known (p u)) (known (has_bit (collect p 0 0 n) u))
  where
    none : (has_bit 0 u ≡ true) ⊎ ((0 ≤ u) × (u < 0 + n) × (p u ≡ true)) → p u ≡ false → true ≡ false
    none (inl t) f = sym t ∙ has-none u
    none (inr t) f = sym t.2 ∙ f

    go : Known (p u) → Known (has_bit (collect p 0 0 n) u) → has_bit (collect p 0 0 n) u ≡ p u
    go (was_true t) k = collect_new p 0 0 n u (omega arith) (omega arith) t ∙ sym t
    go (was_false f) (was_false k) = k ∙ sym f
    go (was_false f) (was_true k) = absurd (true≢false (none (collect_from p 0 0 n u k) f))

-- the lowest with q is the lowest with p, where it is one of the n at which they agree
module _ (p q : ℕ → Bool) (n k r : ℕ) (fits : n ≤ k) (same : (u : ℕ) → u < n → q u ≡ p u) (low : r ≡ lowest q 0 k) where
  least : Least q 0 k r
  least = rw low (rw zero-add at (lowest_least q 0 k))

  pub cut_found : r < n → r ≡ lowest p 0 n
  cut_found h =
      sym (lowest_is p n r (omega arith) (λ l. sym (same r l) ∙ least.hit (omega arith)) (λ u l. sym (same u (omega arith)) ∙ least.miss u (omega arith) l))

  pub cut_none : n ≤ r → n ≡ lowest p 0 n
  cut_none h = sym (lowest_is p n n (omega arith) (λ l. absurd (omega arith)) (λ u l. sym (same u l) ∙ least.miss u (omega arith) (omega arith)))

module _ (from to flows : List ℕ) (s : List Bool) (v : ℕ) where
  -- the lowest edge of the bitset of v
  pub onward_made : (bitset e : ℕ) → length flows ≤ set_width → bitset ≡ collect (leads from to flows s v) 0 0 (length flows)
      → e ≡ pick (ltb (lowest (has_bit bitset) 0 set_width) (length flows)) (lowest (has_bit bitset) 0 set_width) (length flows) → e ≡ onward from to flows s v
  unfolding onward
  onward_made bitset e fits p q = q ∙ go (lt_or_ge (lowest (has_bit bitset) 0 set_width) (length flows))
    where
      same : (u : ℕ) → u < length flows → has_bit bitset u ≡ leads from to flows s v u
      same u h = rw p (collected (leads from to flows s v) (length flows) u h)

      go : (lowest (has_bit bitset) 0 set_width < length flows) ⊎ (length flows ≤ lowest (has_bit bitset) 0 set_width)
          → pick (ltb (lowest (has_bit bitset) 0 set_width) (length flows)) (lowest (has_bit bitset) 0 set_width) (length flows) ≡ onward from to flows s v
      go (inl h) = pick_yes _ _ _ (lt-ltb _ _ h) ∙ cut_found (leads from to flows s v) (has_bit bitset) (length flows) set_width _ fits same refl h
      go (inr h) = pick_no _ _ _ (le-ltb _ _ h) ∙ cut_none (leads from to flows s v) (has_bit bitset) (length flows) set_width _ fits same refl h

  -- the edge that leads on ends in the set; past the edges the end is 0
  pub onward_inside : length to ≤ length flows → 0 < length s → get_or to (onward from to flows s v) 0 < length s
  unfolding onward leads
  onward_inside size some = go (lt_or_ge (onward from to flows s v) (length flows))
    where
      inside : (u : ℕ) → get_or s u false ≡ true → (u < length s) ⊎ (length s ≤ u) → u < length s
      inside u t (inl h) = h
      inside u t (inr h) = absurd (true≢false (sym t ∙ get_or-eq_default s false h))

      go : (onward from to flows s v < length flows) ⊎ (length flows ≤ onward from to flows s v) → get_or to (onward from to flows s v) 0 < length s
      go (inl h) =
          let t = (lowest_least (leads from to flows s v) 0 (length flows)).hit (rw zero-add h) in
          inside (get_or to (onward from to flows s v) 0) (both_right _ _ (both_right _ _ t)) (lt_or_ge _ _)
      go (inr h) = let long : length to ≤ onward from to flows s v = omega arith in rw (get_or-eq_default to 0 long) some

-- the lesser of two numbers
pub lesser : (a b : ℕ) → min a b ≡ pick (ltb a b) a b
lesser a b = go (lt_or_ge a b)
  where
    go : (a < b) ⊎ (b ≤ a) → min a b ≡ pick (ltb a b) a b
    go (inl h) = rw (pick_yes _ a b (lt-ltb _ _ h)) (omega arith)
    go (inr h) = rw (pick_no _ a b (le-ltb _ _ h)) (omega arith)
