-- Reachability over positive edges. The edges of a network are three lists: tails, heads and flows.
use Rattle.std.specs.Prelude.{Bool, true, false, List, ℕ, zero, suc, ltb, eqb, length, get_or, set, replicate}
use Rattle.lists.specs.Choice.{pick, both}
use Rattle.lists.specs.Lists.{lowest}

-- "A channel is wet while its flow is above 0": edge e is positive, and the end that it starts from is in the set
unfoldable pub opens : List ℕ → List ℕ → List Bool → ℕ → Bool
opens from flows s e = both (ltb 0 (get_or flows e 0)) (get_or s (get_or from e 0) false)

-- Edges are walked from one list of ends to the other: from tails to heads, or, against their direction, from heads to tails.
module _ (from to flows : List ℕ) where
  -- one pass over the edges e, e + 1, .., e + k - 1: where an edge opens, the end that it leads to joins the set
  unfoldable pub pass : ℕ → ℕ → List Bool → List Bool
  pass e zero s = s
  pass e (suc k) s = pass (suc e) k (pick (opens from flows s e) (set s (get_or to e 0) true) s)

  -- k passes over all edges
  unfoldable pub passes : ℕ → List Bool → List Bool
  passes zero s = s
  passes (suc k) s = passes k (pass 0 (length flows) s)

  -- the pools, of n, that can be reached from v over wet channels, v among them
  unfoldable pub reached : ℕ → ℕ → List Bool
  reached n v = passes n (set (replicate n false) v true)

  -- edge e is positive, starts from v, and leads into the set
  unfoldable pub leads : List Bool → ℕ → ℕ → Bool
  leads s v e = both (ltb 0 (get_or flows e 0)) (both (eqb (get_or from e 0) v) (get_or s (get_or to e 0) false))

  -- the lowest such edge; the count of edges where there is none
  unfoldable pub onward : List Bool → ℕ → ℕ
  onward s v = lowest (leads s v) 0 (length flows)
