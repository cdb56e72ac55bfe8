-- For inner contracts only: the rank of a vertex, how many flows are positive, and flows changed along a trail.
use Rattle.std.specs.Prelude.{◌≡◌, false, not, List, [], ◌∷◌, ℕ, zero, suc, ◌<◌, ◌+◌, ◌-◌, ◌≤◌, eqb, length, get_or, set}
use Rattle.lists.specs.Choice.{both}
use Rattle.lists.specs.Inner.{count}
use Rattle.graph.specs.Graph.{reached}
use Rattle.lists.specs.Members.{has}
use Rattle.graph_flows.specs.Trails.{Step, edge_of, edges_of, down, up}

-- how many other vertices, of n, reach v over positive edges
unfoldable pub rank : List ℕ → List ℕ → List ℕ → ℕ → ℕ → ℕ
rank tails heads flows n v = count (λ u. both (not (eqb u v)) (get_or (reached heads tails flows n v) u false)) 0 n

-- how many flows are positive
unfoldable pub positives : List ℕ → ℕ
positives [] = 0
positives (zero ∷ fs) = positives fs
positives (suc x ∷ fs) = suc (positives fs)

-- the flows, lowered by x on each down-step and raised by x on each up-step
unfoldable pub changed_along : List ℕ → ℕ → List Step → List ℕ
changed_along flows x [] = flows
changed_along flows x (down e ∷ w) = changed_along (set flows e (get_or flows e 0 - x)) x w
changed_along flows x (up e ∷ w) = changed_along (set flows e (get_or flows e 0 + x)) x w

-- a down-step's edge has flow x or more
abbrev pub Room : List ℕ → ℕ → Step → Type 0
Room flows x (down e) = x ≤ get_or flows e 0
Room flows x (up e) = Unit {0}

-- the edges are distinct edges of the network, with room for x
abbrev pub Fits : List ℕ → ℕ → List Step → Type 0
Fits flows x [] = Unit {0}
Fits flows x (s ∷ w) = (edge_of s < length flows) × Room flows x s × (has (edge_of s) (edges_of w) ≡ false) × Fits flows x w
