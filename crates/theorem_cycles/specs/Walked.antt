-- For inner contracts only: what the walk for a cycle lives on, by whatever edges it goes, and what it finds. The edges of a network are three lists: tails,
-- heads and flows.
use Rattle.std.specs.Prelude.{◌≡◌, ◌≢◌, List, ℕ, ◌<◌, length, get_or}
use Rattle.graph_flows.specs.Paths.{Unparted}
use Rattle.graph_flows.specs.Trails.{Step, up, edge_of, Closed, In}

module _ (tails flows : List ℕ) (v : ℕ) where
  -- edge g is positive and leaves v; by the heads, it enters v
  pub record Leaves (g : ℕ) : Type 0 where
    pub start : get_or tails g 0 ≡ v
    pub above : 0 < get_or flows g 0

module _ (tails heads flows : List ℕ) where
  -- a cycle of positive edges, that climbs only where nothing parts
  pub record FoundCycle (w : List Step) : Type 0 where
    pub closed : Closed tails heads w
    pub above : (s : Step) → In s w → 0 < get_or flows (edge_of s) 0
    pub climbs : (e : ℕ) → In (up e) w → Unparted tails heads flows (get_or heads e 0)

  module _ (falls rises : ℕ → ℕ → ℕ) where
    -- the choices of a walk, from a vertex and the edge x just used: an edge other than x, where there is one
    pub record Choices : Type 0 where
      pub falls_leaves : (v x : ℕ) → falls v x < length flows → Leaves tails flows v (falls v x) × (falls v x ≢ x)
      pub falls_found : (v x e : ℕ) → Leaves tails flows v e → e ≢ x → falls v x < length flows
      pub climbs_found : (v x e : ℕ) → Leaves heads flows v e → e ≢ x → Leaves heads flows v (rises v x) × (rises v x ≢ x)

    -- what the walk lives on, among n vertices
    pub record Rich (n source : ℕ) : Type 0 where
      pub tail_below : (e : ℕ) → get_or tails e 0 < n
      pub head_below : (e : ℕ) → get_or heads e 0 < n
      pub source_below : source < n
      -- no positive edge leads from a vertex to itself
      pub joins : (e : ℕ) → 0 < get_or flows e 0 → get_or tails e 0 ≢ get_or heads e 0
      pub choices : Choices
      -- an edge leaves the source; elsewhere one enters where one leaves, and a second one where none leaves
      pub start : ℕ
      pub starts : Leaves tails flows source start
      pub fed : (v e : ℕ) → v < n → v ≢ source → Leaves tails flows v e → (d : ℕ) × Leaves heads flows v d
      pub second : (v x : ℕ) → v < n → v ≢ source → ((g : ℕ) → Leaves tails flows v g → ⊥) → Leaves heads flows v x
          → (d : ℕ) × Leaves heads flows v d × (d ≢ x)
