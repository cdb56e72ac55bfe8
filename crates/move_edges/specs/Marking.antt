-- Marks: document 01, "Moves". A name that ends in In is said of the parts of a board, the name without it of the board, and one that
-- ends in By of sets of edges, as the code computes it.
use Rattle.std.specs.Prelude.{Bool, true, false, not, List, ℕ, zero, suc, ltb, length, get_or}
use Rattle.lists.specs.Choice.{both}
use Rattle.sets.specs.Sets.{none, has_bit, collect}
use Rattle.sets.specs.Inner.{is_empty, dropped, lowest_in}
use Rattle.move_edges.specs.Singular.{straight}
use Rattle.board.specs.Whole.{Board}
use Rattle.move_edges.specs.Incidence.{touching_by}

-- "A channel is single when its head, and every pool that can be reached from the head over wet channels, has at most one wet channel leaving"
unfoldable pub singular_in : List ℕ → List ℕ → List ℕ → ℕ → ℕ → Bool
singular_in tails heads flows vertices e = straight tails heads flows vertices (get_or heads e 0)

abbrev pub singular : Board → ℕ → Bool
singular b = singular_in b.network.tails b.network.heads b.flows b.network.vertices

-- an edge that is not marked, wet and single
abbrev pub is_fresh_in : List ℕ → List ℕ → List ℕ → ℕ → ℕ → ℕ → Bool
is_fresh_in tails heads flows vertices marks e = both (not (has_bit marks e)) (both (ltb 0 (get_or flows e 0)) (singular_in tails heads flows vertices e))

abbrev pub is_fresh : Board → ℕ → Bool
is_fresh b = is_fresh_in b.network.tails b.network.heads b.flows b.network.vertices b.marks

-- "An accepted turn first marks every channel that is wet and single at that moment": those that it marks newly
unfoldable pub fresh_in : List ℕ → List ℕ → List ℕ → ℕ → ℕ → ℕ
fresh_in tails heads flows vertices marks = collect (is_fresh_in tails heads flows vertices marks) none 0 (length flows)

abbrev pub fresh : Board → ℕ
fresh b = fresh_in b.network.tails b.network.heads b.flows b.network.vertices b.marks

-- `straight` by the set of the edges that leave each vertex and the set of the wet channels: what leaves v is what the two have in common
unfoldable pub straight_by : List ℕ → List ℕ → ℕ → ℕ → ℕ → Bool
straight_by heads leaving positive zero v = true
straight_by heads leaving positive (suc k) v =
    let out = touching_by leaving positive v in
    let e = lowest_in out in
    elim (is_empty out) [
      | true ↦ true
      | false ↦ elim (is_empty (dropped out e)) [ true ↦ straight_by heads leaving positive k (get_or heads e 0) | false ↦ false ]
    ]

-- `singular_in` and `is_fresh_in` by the sets
unfoldable pub singular_by : List ℕ → List ℕ → ℕ → ℕ → ℕ → Bool
unfolding straight_by
singular_by heads leaving positive vertices e = straight_by heads leaving positive vertices (get_or heads e 0)

abbrev pub is_fresh_by : List ℕ → List ℕ → ℕ → ℕ → ℕ → ℕ → Bool
is_fresh_by heads leaving positive vertices marks e = both (not (has_bit marks e)) (both (has_bit positive e) (singular_by heads leaving positive vertices e))
