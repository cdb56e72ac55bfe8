-- The rank of a vertex, which counts the other vertices that reach it, rises along each positive edge a → b of an acyclic flow: whoever reaches a
-- reaches b, and is not b, which would close a cycle; and a itself is one more. A vertex is not counted for itself, so its rank is below n.
use mathlib.Core.Path.{◌≡◌, refl, ap}
use mathlib.Core.Bool.{Bool, true, false, not}
use mathlib.Core.Logic.{◌≢◌}
use mathlib.Core.List.{List}
use Prim.Native.Nat.{ℕ, ◌+◌, ◌≤◌, ◌<◌}
use native.Mathlib.Omega.{arith}
use lib.Dec.{eqb}
use lib.ListN.{get_or}
use borrow.Author.Tests.{eqb-false, eq-eqb, ne_eqb, not-true}
use Rattle.lists.specs.Choice.{both}
use Rattle.lists.proofs.Laws.{Known, was_true, was_false, known, both_left, both_right, both_true}
use Rattle.lists.proofs.Counts.{count_none, count_less, count_miss}
use Rattle.graph.specs.Graph.{reached}
use Rattle.graph_flows.specs.Paths.{PositiveEdge, Path, here, on, Acyclic, EndsBelow}
use Rattle.graph_flows.specs.Inner.{rank}
use Rattle.graph_flows.proofs.Reach.{reaching_sound, reaching_complete}

module _ (tails heads flows : List ℕ) (n : ℕ) where
  -- u is counted for v
  abbrev counted : ℕ → ℕ → Bool
  counted v u = both (not (eqb u v)) (get_or (reached heads tails flows n v) u false)

  counted_other : (v u : ℕ) → counted v u ≡ true → u ≢ v
  counted_other v u t = eqb-false u v (not-true (eqb u v) (both_left (not (eqb u v)) (get_or (reached heads tails flows n v) u false) t))

  counted_path : (v u : ℕ) → counted v u ≡ true → Path tails heads flows u v
  counted_path v u t = reaching_sound tails heads flows n v u (both_right (not (eqb u v)) (get_or (reached heads tails flows n v) u false) t)

  counted_true : (v u : ℕ) → EndsBelow tails heads flows n → v < n → u ≢ v → Path tails heads flows u v → counted v u ≡ true
  counted_true v u w h d p =
      both_true (not (eqb u v)) (get_or (reached heads tails flows n v) u false) (ap not (ne_eqb u v d))
      (reaching_complete tails heads flows n v u w h p)

  counted_self : (v : ℕ) → counted v v ≡ false
  unfolding both
  counted_self v = rw (eq-eqb v v refl)

  pub rank_rises : (a b : ℕ) → EndsBelow tails heads flows n → Acyclic tails heads flows → PositiveEdge tails heads flows a b
      → rank tails heads flows n a < rank tails heads flows n b
  unfolding rank
  rank_rises a b w acyclic d =
      count_less (counted a) (counted b) 0 n a more (omega arith) (omega (arith, below_a)) (counted_self a)
      (counted_true b a w below_b apart (on here d))
    where
      below_a : a < n
      below_a = rw d.start at (w.start d.edge d.inside)

      below_b : b < n
      below_b = rw d.end at (w.end d.edge d.inside)

      cycle : Path tails heads flows b a → ⊥
      cycle = acyclic a b d

      apart : a ≢ b
      apart e = cycle (rw e here)

      more : (u : ℕ) → 0 ≤ u → u < 0 + n → counted a u ≡ true → counted b u ≡ true
      more u h g t =
          let p : Path tails heads flows u a = counted_path a u t in
          counted_true b u w below_b (λ e. cycle (rw e at p)) (on p d)

  pub rank_below : (v : ℕ) → v < n → rank tails heads flows n v < n
  unfolding rank
  rank_below v h = count_miss (counted v) 0 n v (omega arith) (omega arith) (counted_self v)

  -- a vertex that no other reaches has rank 0
  pub rank-none : (v : ℕ) → ((u : ℕ) → u ≢ v → Path tails heads flows u v → ⊥) → rank tails heads flows n v ≡ 0
  unfolding rank
  rank-none v f = count_none (counted v) 0 n (λ u h g. missed u)
    where
      missed : (u : ℕ) → counted v u ≡ false
      missed u = go (known (counted v u))
        where
          go : Known (counted v u) → counted v u ≡ false
          go (was_true t) = absurd (f u (counted_other v u t) (counted_path v u t))
          go (was_false t) = t
