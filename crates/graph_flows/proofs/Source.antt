-- In an acyclic flow whose every vertex but the source takes in at least what it sends on, what flows in comes from the source: a positive edge
-- leads into a vertex with inflow, from the source or from a vertex of lower rank with outflow, so with inflow too. So no positive edge enters the
-- source, for a path leads from the source to that edge's tail, and the edge would close a cycle.
use mathlib.Core.Path.{◌≡◌, refl}
use mathlib.Core.Bool.{true, false}
use mathlib.Core.Logic.{◌⊎◌, inl, inr, ◌≢◌}
use mathlib.Core.List.{List}
use Prim.Native.Nat.{ℕ, zero, suc, ◌+◌, ◌<◌}
use native.Mathlib.Omega.{arith}
use lib.ListN.{length, get_or}
use Rattle.lists.specs.Lists.{sum_at}
use Rattle.lists.proofs.Laws.{eq_or_ne}
use Rattle.graph.specs.Graph.{reached}
use Rattle.graph_flows.specs.Paths.{PositiveEdge, Path, here, on, Acyclic, EndsBelow}
use Rattle.graph_flows.specs.Inner.{rank}
use Rattle.graph_flows.proofs.Sums.{KeyedEntry, sum_entry, entry_within}
use Rattle.graph_flows.proofs.Reach.{reached_complete}
use Rattle.graph_flows.proofs.Rank.{rank_rises, rank-none}

-- a vertex with inflow has a positive edge into it, and the tail of a positive edge has outflow
pub edge_into : (tails heads flows : List ℕ) (v : ℕ) (i : KeyedEntry heads flows v) → PositiveEdge tails heads flows (get_or tails i.e 0) v
edge_into tails heads flows v i = record { edge = i.e; inside = i.in_values; start = refl; end = i.key; above = i.above }

pub tail-outflow : (tails heads flows : List ℕ) (a b : ℕ) → length tails ≡ length flows → PositiveEdge tails heads flows a b → 0 < sum_at tails flows a
tail-outflow tails heads flows a b long d =
    omega (arith, d.above, d.inside, entry_within tails flows a d.edge (omega (arith, d.inside)) d.inside d.start)

module _ (tails heads flows : List ℕ) (n source : ℕ) (need : ℕ → ℕ)
    (long : length tails ≡ length flows) (within : EndsBelow tails heads flows n) (acyclic : Acyclic tails heads flows)
    (balance : (v : ℕ) → v < n → (v ≡ source → ⊥) → sum_at heads flows v ≡ sum_at tails flows v + need v) where
  tail_below : (a b : ℕ) → PositiveEdge tails heads flows a b → a < n
  tail_below a b d = rw d.start at (within.start d.edge d.inside)

  -- by induction over a bound k of the rank
  fed_by : (k v : ℕ) → rank tails heads flows n v < k → v < n → 0 < sum_at heads flows v → Path tails heads flows source v
  fed_by zero v r h g = absurd (omega arith)
  fed_by (suc k) v r h g = go (eq_or_ne u source) (λ q l f. fed_by k u q l f)
    where
      i : KeyedEntry heads flows v
      i = sum_entry heads flows v g

      u : ℕ
      u = get_or tails i.e 0

      d : PositiveEdge tails heads flows u v
      d = edge_into tails heads flows v i

      go : (u ≡ source) ⊎ (u ≢ source)
          → (rank tails heads flows n u < k → u < n → 0 < sum_at heads flows u → Path tails heads flows source u)
          → Path tails heads flows source v
      go (inl e) ih = on here (rw e at d)
      go (inr c) ih =
          let lower : rank tails heads flows n u < rank tails heads flows n v = rank_rises tails heads flows n u v within acyclic d in
          let below : u < n = tail_below u v d in
          on (ih (omega arith) below (omega (arith, balance u below c, tail-outflow tails heads flows u v long d))) d

  pub fed : (v : ℕ) → v < n → 0 < sum_at heads flows v → Path tails heads flows source v
  fed v h g = fed_by (suc (rank tails heads flows n v)) v (omega arith) h g

  pub none-enters : (a : ℕ) → PositiveEdge tails heads flows a source → ⊥
  none-enters a d = go (eq_or_ne a source)
    where
      below : a < n
      below = tail_below a source d

      go : (a ≡ source) ⊎ (a ≢ source) → ⊥
      go (inl e) = acyclic a source d (rw e here)
      go (inr c) =
          acyclic a source d (fed a below (omega (arith, balance a below c, tail-outflow tails heads flows a source long d)))

  -- so only the empty path ends at the source
  none_reaches : (u v : ℕ) → v ≡ source → u ≢ v → Path tails heads flows u v → ⊥
  none_reaches u v e c here = c refl
  none_reaches u v e c (on {b = b} p d) = none-enters b (rw e at d)

  pub rank_source : rank tails heads flows n source ≡ 0
  rank_source = rank-none tails heads flows n source (λ u c p. none_reaches u source refl c p)

  pub reached_when_fed : (v : ℕ) → source < n → v < n → 0 < sum_at heads flows v → get_or (reached tails heads flows n source) v false ≡ true
  reached_when_fed v b h g = reached_complete tails heads flows n source v within b (fed v h g)
