-- Cycles of positive edges: document 01, "Draining". The edges of a network are three lists: tails, heads and flows.
use Rattle.std.specs.Prelude.{Bool, true, false, List, [], ◌∷◌, ℕ, zero, suc, ltb, eqb, length, get_or, take}
use Rattle.lists.specs.Lists.{lowest}
use Rattle.graph.specs.Graph.{reached, onward}

-- how many edges of a walk, the latest first, come before the one that left v; all of them where none did
unfoldable pub since : List ℕ → ℕ → List ℕ → ℕ
since tails v [] = 0
since tails v (e ∷ es) = elim (eqb (get_or tails e 0) v) [ true ↦ 0 | false ↦ suc (since tails v es) ]

-- "Follow, each time, the lowest wet channel from whose head that pool can still be reached, until some pool comes a second time": s are the
-- vertices that reach that vertex, es the edges walked so far, the latest first, v the vertex now, k how many edges more at most. It gives the
-- edges "walked since its first visit".
unfoldable pub follow : List ℕ → List ℕ → List ℕ → List Bool → ℕ → List ℕ → ℕ → List ℕ
follow tails heads flows s zero es v = []
follow tails heads flows s (suc k) es v =
    let e = onward tails heads flows s v in
    let back = since tails (get_or heads e 0) (e ∷ es) in
    elim (ltb back (suc (length es))) [ true ↦ take (suc back) (e ∷ es) | false ↦ follow tails heads flows s k (e ∷ es) (get_or heads e 0) ]

module _ (tails heads : List ℕ) (n : ℕ) where
  -- the pools, of n, from which v can be reached
  abbrev pub reaching : List ℕ → ℕ → List Bool
  reaching flows v = reached heads tails flows n v

  -- v is on a ring of wet channels: one leaves it from whose head it can be reached
  unfoldable pub on_cycle : List ℕ → ℕ → Bool
  on_cycle flows v = ltb (onward tails heads flows (reaching flows v) v) (length flows)

  -- "Take the lowest pool on a ring of wet channels": n where there is none
  unfoldable pub cycle_vertex : List ℕ → ℕ
  cycle_vertex flows = lowest (on_cycle flows) 0 n

  -- the cycle that the walk from v finds
  unfoldable pub cycle_from : List ℕ → ℕ → List ℕ
  cycle_from flows v = follow tails heads flows (reaching flows v) n [] v
