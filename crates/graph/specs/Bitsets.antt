-- For inner contracts only: a bitset for each vertex, a set of vertices with a bit for each.
use Rattle.std.specs.Prelude.{Bool, List, [], ◌∷◌, ℕ}
use Rattle.sets.specs.Sets.{has_bit}

-- the set of the vertices whose bitset has v
unfoldable pub column : List ℕ → ℕ → List Bool
unfolding has_bit
column [] v = []
column (r ∷ bitsets) v = has_bit r v ∷ column bitsets v
