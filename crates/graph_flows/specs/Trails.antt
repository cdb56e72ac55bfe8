-- A change of the flows along a trail.
use Rattle.std.specs.Prelude.{◌≡◌, ◌⊎◌, List, [], ◌∷◌, ℕ, ◌<◌, length, get_or}
use Rattle.lists.specs.Members.{Distinct}

-- a step over an edge: down, from its tail to its head; or up, from its head to its tail
pub data Step : Type 0 where
  down : ℕ → Step
  up : ℕ → Step

-- the edges, each walked down
abbrev pub downs : List ℕ → List Step
downs [] = []
downs (e ∷ es) = down e ∷ downs es

-- the edge of a step, and the edges of a list of steps
abbrev pub edge_of : Step → ℕ
edge_of (down e) = e
edge_of (up e) = e

abbrev pub edges_of : List Step → List ℕ
edges_of [] = []
edges_of (s ∷ w) = edge_of s ∷ edges_of w

-- step s is one of the steps
abbrev pub In : Step → List Step → Type 0
In s [] = ⊥
In s (t ∷ w) = (s ≡ t) ⊎ In s w

-- where a step starts, and where it ends
abbrev pub start_of : List ℕ → List ℕ → Step → ℕ
start_of tails heads (down e) = get_or tails e 0
start_of tails heads (up e) = get_or heads e 0

abbrev pub end_of : List ℕ → List ℕ → Step → ℕ
end_of tails heads (down e) = get_or heads e 0
end_of tails heads (up e) = get_or tails e 0

-- each step starts where the last one ended; the steps lead from a to b
pub data Trail (tails heads : List ℕ) : ℕ → List Step → ℕ → Type 0 where
  stay : {a : ℕ} → Trail tails heads a [] a
  go : {a b : ℕ} {w : List Step} (s : Step) → start_of tails heads s ≡ a → Trail tails heads (end_of tails heads s) w b → Trail tails heads a (s ∷ w) b

-- a cycle: a trail of steps, not none, that ends where it begins and goes over no edge twice; it may pass a vertex more than once
pub record Closed (tails heads : List ℕ) (w : List Step) : Type 0 where
  pub vertex : ℕ
  pub trail : Trail tails heads vertex w vertex
  pub distinct : Distinct (edges_of w)
  pub some : 0 < length w
