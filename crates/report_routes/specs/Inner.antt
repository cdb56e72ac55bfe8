-- For inner contracts only: the routes as a table, and as sets.
use Rattle.std.specs.Prelude.{◌≡◌, List, [], ℕ, ◌≤◌, ◌<◌, length, get_or, take, replicate}
use Rattle.std.proofs.lemmas.List.Edits.{sets}
use Rattle.lists.specs.Lists.{tabulated, total}
use Rattle.lists.specs.Members.{has}
use Rattle.sets.specs.Sets.{none, has_bit}
use Rattle.board.specs.Limits.{max_vertices, max_edges, max_terminals, max_flow}
use Rattle.board.specs.Whole.{Entry}
use Rattle.report_routes.specs.Routes.{route_in, share_in}

-- a row has room for the edges of a simple route; it holds as many as there is room for, and 0 behind them
unfoldable pub row_of : List ℕ → List ℕ
row_of es = sets (replicate max_vertices 0) 0 es

-- the routes by these moves: how many edges each has, and its row
unfoldable pub counts_of : List Entry → List ℕ
counts_of ms = tabulated (λ i. length (route_in i ms)) 0 max_terminals

unfoldable pub rows_of : List Entry → List (List ℕ)
rows_of ms = tabulated (λ i. row_of (route_in i ms)) 0 max_terminals

-- the route of terminal i by the counts and the rows
abbrev pub row_at : List ℕ → List (List ℕ) → ℕ → List ℕ
row_at counts rows i = take (get_or counts i 0) (get_or rows i [])

-- "the sum of needs routed over it", over the rows
unfoldable pub table_load : List ℕ → List (List ℕ) → List ℕ → ℕ → ℕ → ℕ
table_load counts rows demands e terminals = total (share_in (λ i. has e (row_at counts rows i)) demands) 0 terminals

-- no demand is above the greatest, so that no sum of them wraps
abbrev pub Moderate : List ℕ → Type 0
Moderate demands = (i : ℕ) → get_or demands i 0 ≤ max_flow

-- the set has the edges of the list; no other number matters
abbrev pub IsSetOf : ℕ → List ℕ → Type 0
IsSetOf set es = (e : ℕ) → e < max_edges → has_bit set e ≡ has e es

-- a set for each terminal has the edges of its route
abbrev pub AreRouteSets : List ℕ → List ℕ → List (List ℕ) → ℕ → Type 0
AreRouteSets routes counts rows terminals = (i : ℕ) → i < terminals → IsSetOf (get_or routes i none) (row_at counts rows i)

-- "the sum of needs routed over it", over the sets
unfoldable pub set_load : List ℕ → List ℕ → ℕ → ℕ → ℕ
set_load routes demands e terminals = total (share_in (λ i. has_bit (get_or routes i none) e) demands) 0 terminals

-- the same, and the empty set in the places past the terminals
pub record RouteSets (routes counts : List ℕ) (rows : List (List ℕ)) (terminals : ℕ) : Type 0 where
  pub are : AreRouteSets routes counts rows terminals
  pub past : (i : ℕ) → terminals ≤ i → get_or routes i none ≡ none
