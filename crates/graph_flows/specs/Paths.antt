-- What reachability, the lack of cycles and the rank mean.
use Rattle.std.specs.Prelude.{◌≡◌, List, ℕ, ◌<◌, length, get_or}

module _ (from to flows : List ℕ) where
  -- a positive edge from a to b
  pub record PositiveEdge (a b : ℕ) : Type 0 where
    pub edge : ℕ
    pub inside : edge < length flows
    pub start : get_or from edge 0 ≡ a
    pub end : get_or to edge 0 ≡ b
    pub above : 0 < get_or flows edge 0

  -- a path over positive edges
  pub data Path : ℕ → ℕ → Type 0 where
    here : {a : ℕ} → Path a a
    on : {a b c : ℕ} → Path a b → PositiveEdge b c → Path a c

  -- a path with an edge, which it starts with; from a vertex to itself: the vertex is on a cycle
  pub record First (a c : ℕ) : Type 0 where
    pub next : ℕ
    pub edge : PositiveEdge a next
    pub rest : Path next c

  -- no positive edge is on a cycle
  abbrev pub Acyclic : Type 0
  Acyclic = (a b : ℕ) → PositiveEdge a b → Path b a → ⊥

  -- at most one positive edge leaves v
  abbrev pub OneLeaves : ℕ → Type 0
  OneLeaves v = (g g' : ℕ) → get_or from g 0 ≡ v → 0 < get_or flows g 0 → get_or from g' 0 ≡ v → 0 < get_or flows g' 0 → g ≡ g'

  -- and so it is at v and at every vertex that can be reached from it
  abbrev pub Unparted : ℕ → Type 0
  Unparted v = (u : ℕ) → Path v u → OneLeaves u

  -- every edge joins vertices below n
  pub record EndsBelow (n : ℕ) : Type 0 where
    pub start : (e : ℕ) → e < length flows → get_or from e 0 < n
    pub end : (e : ℕ) → e < length flows → get_or to e 0 < n
