-- Singular edges. The edges of a network are three lists: tails, heads and flows.
use Rattle.std.specs.Prelude.{Bool, true, false, List, ℕ, zero, suc, ◌-◌, ltb, eqb, length, get_or}
use Rattle.lists.specs.Choice.{both}
use Rattle.lists.specs.Lists.{lowest}

-- edge e is wet and leaves v
unfoldable pub leaves : List ℕ → List ℕ → ℕ → ℕ → Bool
leaves tails flows v e = both (ltb 0 (get_or flows e 0)) (eqb (get_or tails e 0) v)

-- the lowest such edge from i on; where there is none, no edge's number
unfoldable pub leaving : List ℕ → List ℕ → ℕ → ℕ → ℕ
leaving tails flows v i = lowest (leaves tails flows v) i (length flows - i)

-- v has at most one wet channel leaving, and so has the pool that it leads to, and so on, for k pools
unfoldable pub straight : List ℕ → List ℕ → List ℕ → ℕ → ℕ → Bool
straight tails heads flows zero v = true
straight tails heads flows (suc k) v =
    let e = leaving tails flows v 0 in
    elim (ltb e (length flows)) [
      | true ↦ elim (ltb (leaving tails flows v (suc e)) (length flows)) [ true ↦ false | false ↦ straight tails heads flows k (get_or heads e 0) ]
      | false ↦ true
    ]
