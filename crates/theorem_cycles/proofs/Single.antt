-- What `straight` means. It looks at v and at the heads of the only positive edges onward, one after the other, and at each for a second edge. The vertices
-- that it has left are distinct until it comes to one again or to one that nothing leaves, so n of them are enough. Then they are all that v reaches: every
-- positive edge that leaves one of them leads to one of them.
use mathlib.Core.Path.{◌≡◌, refl, sym, ◌∙◌}
use mathlib.Core.Bool.{true, false, false≢true}
use mathlib.Core.Logic.{◌⊎◌, inl, inr}
use mathlib.Core.List.{List, [], ◌∷◌}
use Prim.Native.Nat.{ℕ, zero, suc, ◌+◌, ◌-◌, ◌≤◌, ◌<◌}
use native.Mathlib.Omega.{arith}
use native.Mathlib.Nat.{add-zero}
use lib.Dec.{ltb}
use lib.ListN.{length, get_or}
use borrow.Author.Tests.{eqb-true, eq-eqb, ltb-true, ltb-false, lt-ltb}
use Rattle.lists.specs.Members.{has, Distinct}
use Rattle.lists.specs.Inner.{Below}
use Rattle.lists.proofs.Laws.{above_inside, Known, was_true, was_false, known, lt_or_ge, both_left, both_right, both_true}
use Rattle.lists.proofs.Lowest.{lowest_least, lowest_found}
use Rattle.lists.proofs.Pigeon.{has_nothing, has_here, has_later, has_cases, pigeon}
use Rattle.move_edges.specs.Singular.{leaves, leaving, straight}
use Rattle.graph_flows.specs.Paths.{PositiveEdge, Path, here, on, OneLeaves, Unparted, EndsBelow}
use Rattle.graph_flows.proofs.Reach.{path_first}
use Rattle.theorem_cycles.specs.Walked.{Leaves}

-- ---- the edges that leave one vertex

module _ (tails flows : List ℕ) (v : ℕ) where
  pub leaves_so : (g : ℕ) → leaves tails flows v g ≡ true → Leaves tails flows v g
  unfolding leaves
  leaves_so g t = record {
    start = eqb-true (get_or tails g 0) v (both_right (ltb 0 (get_or flows g 0)) _ t);
    above = ltb-true 0 (get_or flows g 0) (both_left _ _ t);
  }

  pub so_leaves : (g : ℕ) → Leaves tails flows v g → leaves tails flows v g ≡ true
  unfolding leaves
  so_leaves g l = both_true _ _ (lt-ltb 0 (get_or flows g 0) l.above) (eq-eqb (get_or tails g 0) v l.start)

  -- it is an edge
  pub leaves_inside : (g : ℕ) → Leaves tails flows v g → g < length flows
  leaves_inside g l = above_inside flows g l.above

  -- the lowest from i on
  pub leaving_from : (i : ℕ) → i ≤ leaving tails flows v i
  unfolding leaving
  leaving_from i = (lowest_least (leaves tails flows v) i (length flows - i)).low

  pub leaving-leaves : (i : ℕ) → leaving tails flows v i < length flows → Leaves tails flows v (leaving tails flows v i)
  unfolding leaving
  leaving-leaves i h =
      let least = lowest_least (leaves tails flows v) i (length flows - i) in
      leaves_so (leaving tails flows v i) (least.hit (omega (arith, h, least.low)))

  pub leaving_found : (i g : ℕ) → i ≤ g → Leaves tails flows v g → leaving tails flows v i ≤ g
  unfolding leaving
  leaving_found i g h l = lowest_found (leaves tails flows v) i (length flows - i) g h (so_leaves g l)

  -- no second edge: each is the lowest
  pub leaving-alone : (g : ℕ) → length flows ≤ leaving tails flows v (suc (leaving tails flows v 0)) → Leaves tails flows v g → g ≡ leaving tails flows v 0
  leaving-alone g none l = at (lt_or_ge (leaving tails flows v 0) g)
    where
      at : (leaving tails flows v 0 < g) ⊎ (g ≤ leaving tails flows v 0) → g ≡ leaving tails flows v 0
      at (inl h) = absurd (omega (arith, none, leaving_found (suc (leaving tails flows v 0)) g h l, leaves_inside g l))
      at (inr h) = omega (arith, h, leaving_found 0 g (omega arith) l)

-- in front of a list that has it already, u adds nothing
has_again : (x u : ℕ) (xs : List ℕ) → has u xs ≡ true → has x (u ∷ xs) ≡ true → has x xs ≡ true
has_again x u xs h i = at (has_cases x u xs i)
  where
    at : (x ≡ u) ⊎ (has x xs ≡ true) → has x xs ≡ true
    at (inl q) = rw q h
    at (inr j) = j

-- ---- one vertex of the test

module _ (tails heads flows : List ℕ) where
  -- what the test says of v: nothing leaves it, or one edge, and the test goes on from its head
  data Onward (k v : ℕ) : Type 0 where
    ends : ((g : ℕ) → Leaves tails flows v g → ⊥) → Onward k v
    goes : (e : ℕ) → Leaves tails flows v e → ((g : ℕ) → Leaves tails flows v g → g ≡ e) → straight tails heads flows k (get_or heads e 0) ≡ true → Onward k v

  straight_onward : (k v : ℕ) → straight tails heads flows (suc k) v ≡ true → Onward k v
  unfolding straight
  straight_onward k v t =
      at (known (ltb (leaving tails flows v 0) (length flows))) (known (ltb (leaving tails flows v (suc (leaving tails flows v 0))) (length flows)))
    where
      at : Known (ltb (leaving tails flows v 0) (length flows)) → Known (ltb (leaving tails flows v (suc (leaving tails flows v 0))) (length flows)) → Onward k v
      at (was_false p) q =
          let none : length flows ≤ leaving tails flows v 0 = ltb-false _ _ p in
          ends (λ g l. omega (arith, none, leaving_found tails flows v 0 g (omega arith) l, leaves_inside tails flows v g l))
      at (was_true p) (was_true q) = absurd (false≢true (rw (p, q, straight) at t))
      at (was_true p) (was_false q) =
          goes (leaving tails flows v 0) (leaving-leaves tails flows v 0 (ltb-true _ _ p)) (λ g l. leaving-alone tails flows v g (ltb-false _ _ q) l)
          (rw (p, q, straight) at t)

  -- ---- the vertices that the test leaves

  module _ (n v : ℕ) (inside : EndsBelow tails heads flows n) where
    -- a set with v that no positive edge leads out of
    record Shut : Type 0 where
      set : List ℕ
      begin : has v set ≡ true
      one : (x : ℕ) → has x set ≡ true → OneLeaves tails heads flows x
      stays : (x g : ℕ) → has x set ≡ true → Leaves tails flows x g → has (get_or heads g 0) set ≡ true

    -- the test is at u, after the vertices xs, with k left
    record Going (k : ℕ) (xs : List ℕ) (u : ℕ) : Type 0 where
      distinct : Distinct xs
      low : Below n xs
      there : u < n
      fuel : k + length xs ≡ n
      so : straight tails heads flows k u ≡ true
      begin : has v (u ∷ xs) ≡ true
      one : (x : ℕ) → has x xs ≡ true → OneLeaves tails heads flows x
      stays : (x g : ℕ) → has x xs ≡ true → Leaves tails flows x g → has (get_or heads g 0) (u ∷ xs) ≡ true

    closes : (k : ℕ) (xs : List ℕ) (u : ℕ) → Going k xs u → has u xs ≡ true → Shut
    closes k xs u g h = record {
      set = xs;
      begin = has_again v u xs h g.begin;
      one = g.one;
      stays = λ x d i l. has_again (get_or heads d 0) u xs h (g.stays x d i l);
    }

    -- with u the set has one vertex more
    one_more : (k : ℕ) (xs : List ℕ) (u : ℕ) → Going k xs u → OneLeaves tails heads flows u → (x : ℕ) → has x (u ∷ xs) ≡ true → OneLeaves tails heads flows x
    one_more k xs u g o x i = at (has_cases x u xs i)
      where
        at : (x ≡ u) ⊎ (has x xs ≡ true) → OneLeaves tails heads flows x
        at (inl q) = rw q o
        at (inr j) = g.one x j

    stops : (k : ℕ) (xs : List ℕ) (u : ℕ) → Going k xs u → ((d : ℕ) → Leaves tails flows u d → ⊥) → Shut
    stops k xs u g none = record {
      set = u ∷ xs;
      begin = g.begin;
      one = one_more k xs u g (λ d d' s a s' a'. absurd (none d (record { start = s; above = a })));
      stays = λ x d i l. at x d (has_cases x u xs i) l;
    }
      where
        at : (x d : ℕ) → (x ≡ u) ⊎ (has x xs ≡ true) → Leaves tails flows x d → has (get_or heads d 0) (u ∷ xs) ≡ true
        at x d (inl q) l = absurd (none d (record { start = l.start ∙ q; above = l.above }))
        at x d (inr j) l = g.stays x d j l

    moves : (k : ℕ) (xs : List ℕ) (u : ℕ) → Going (suc k) xs u → has u xs ≡ false → (e : ℕ) → Leaves tails flows u e
        → ((d : ℕ) → Leaves tails flows u d → d ≡ e) → straight tails heads flows k (get_or heads e 0) ≡ true → Going k (u ∷ xs) (get_or heads e 0)
    moves k xs u g new e l only t = record {
      distinct = (new, g.distinct);
      low = (g.there, g.low);
      there = inside.end e (leaves_inside tails flows u e l);
      fuel = omega (arith, g.fuel);
      so = t;
      begin = has_later v (get_or heads e 0) (u ∷ xs) g.begin;
      one = one_more (suc k) xs u g (λ d d' s a s' a'. only d (record { start = s; above = a }) ∙ sym (only d' (record { start = s'; above = a' })));
      stays = λ x d i m. at x d (has_cases x u xs i) m;
    }
      where
        at : (x d : ℕ) → (x ≡ u) ⊎ (has x xs ≡ true) → Leaves tails flows x d → has (get_or heads d 0) (get_or heads e 0 ∷ u ∷ xs) ≡ true
        at x d (inl q) m =
            has_here (get_or heads d 0) (get_or heads e 0) (u ∷ xs) (rw (only d (record { start = m.start ∙ q; above = m.above })))
        at x d (inr j) m = has_later (get_or heads d 0) (get_or heads e 0) (u ∷ xs) (g.stays x d j m)

    walk : (k : ℕ) (xs : List ℕ) (u : ℕ) → Going k xs u → Shut
    walk zero xs u g = at (known (has u xs))
      where
        at : Known (has u xs) → Shut
        at (was_true h) = closes zero xs u g h
        at (was_false h) = absurd (omega (arith, pigeon n (u ∷ xs) (h, g.distinct) (g.there, g.low), g.fuel))
    walk (suc k) xs u g = at (known (has u xs)) (straight_onward k u g.so) (λ w h. walk k (u ∷ xs) w h)
      where
        at : Known (has u xs) → Onward k u → ((w : ℕ) → Going k (u ∷ xs) w → Shut) → Shut
        at (was_true h) o later = closes (suc k) xs u g h
        at (was_false h) (ends none) later = stops (suc k) xs u g none
        at (was_false h) (goes e l only t) later = later (get_or heads e 0) (moves k xs u g h e l only t)

    shut : v < n → straight tails heads flows n v ≡ true → Shut
    shut h t = walk n [] v (record {
      distinct = tt;
      low = tt;
      there = h;
      fuel = add-zero n;
      so = t;
      begin = has_here v v [] refl;
      one = λ x i. absurd (has_nothing x i);
      stays = λ x g i l. absurd (has_nothing x i);
    })

    -- a path from v stays in it
    stays_in : (s : Shut) {u : ℕ} → Path tails heads flows v u → has u s.set ≡ true
    stays_in s here = s.begin
    stays_in s (on {b = b} p d) = rw (← d.end) (s.stays b d.edge (stays_in s p) (record { start = d.start; above = d.above }))

  pub straight_unparted : (n v : ℕ) → EndsBelow tails heads flows n → v < n → straight tails heads flows n v ≡ true → Unparted tails heads flows v
  straight_unparted n v inside h t u p = let s = shut n v inside h t in s.one u (stays_in n v inside s p)

  -- ---- and back

  pub unparted_straight : (k v : ℕ) → Unparted tails heads flows v → straight tails heads flows k v ≡ true
  unfolding straight
  unparted_straight zero v f = refl
  unparted_straight (suc k) v f =
      at (known (ltb (leaving tails flows v 0) (length flows))) (known (ltb (leaving tails flows v (suc (leaving tails flows v 0))) (length flows)))
      (λ w g. unparted_straight k w g)
    where
      at : Known (ltb (leaving tails flows v 0) (length flows)) → Known (ltb (leaving tails flows v (suc (leaving tails flows v 0))) (length flows))
          → ((w : ℕ) → Unparted tails heads flows w → straight tails heads flows k w ≡ true) → straight tails heads flows (suc k) v ≡ true
      at (was_false p) q ih = rw (p, straight)
      at (was_true p) (was_true q) ih =
          let e = leaving tails flows v 0 in
          let l = leaving-leaves tails flows v 0 (ltb-true _ _ p) in
          let m = leaving-leaves tails flows v (suc e) (ltb-true _ _ q) in
          let same : e ≡ leaving tails flows v (suc e) = f v here e (leaving tails flows v (suc e)) l.start l.above m.start m.above in
          absurd (omega (arith, same, leaving_from tails flows v (suc e)))
      at (was_true p) (was_false q) ih =
          let e = leaving tails flows v 0 in
          let l = leaving-leaves tails flows v 0 (ltb-true _ _ p) in
          let d : PositiveEdge tails heads flows v (get_or heads e 0) =
          record { edge = e; inside = ltb-true _ _ p; start = l.start; end = refl; above = l.above } in
          rw (p, q, straight) (ih (get_or heads e 0) (λ u path. f u (path_first d path)))
