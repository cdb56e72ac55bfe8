-- The lines of the report. The rows over the counts and the rows of a board's moves
-- are those of its routes and loads, since each route has room in its row.
use mathlib.Core.Path.{◌≡◌, refl, ap}
use mathlib.Core.Bool.{true}
use mathlib.Core.List.{List, [], ◌∷◌}
use Prim.Native.Nat.{ℕ, zero, suc, ◌+◌, ◌<◌, ◌≤◌}
use native.Mathlib.Omega.{arith}
use lib.ListN.{get_or, take}
use Rattle.board.specs.Limits.{max_vertices, max_edges, max_terminals}
use Rattle.board.specs.Whole.{Board}
use Rattle.board.specs.declared.Network.{Network}
use Rattle.text.specs.Text.{lines_text}
use Rattle.report_routes.specs.Tables.{routes_fit}
use Rattle.report_routes.specs.Inner.{counts_of, rows_of, AreRouteSets}
use Rattle.report_routes.proofs.Read.{counts_route, fits_at, row_route, table-load, set-load}
use Rattle.report.specs.Reports.{route_row, load_row}
use Rattle.report.specs.Rows.{table_route_row, table_load_row, set_load_row}

-- lines of rows that are the same
lines_same : (x : ℕ) (f g : ℕ → List ℕ) (i k : ℕ) → ((j : ℕ) → j < i + k → f j ≡ g j) → lines_text x f i k ≡ lines_text x g i k
unfolding lines_text
lines_same x f g i zero same = refl
lines_same x f g i (suc k) same = rw (same i (omega arith), lines_same x f g (suc i) k (λ j h. same j (omega arith)))

-- the lines by the sets of the routes are the ones by the rows
pub set_lines : (net : Network) (acyclic counts : List ℕ) (rows : List (List ℕ)) (routes : List ℕ) → net.edges ≤ max_edges → AreRouteSets routes counts rows net.terminals
    → lines_text 76 (set_load_row acyclic net.demands routes net.terminals) 0 net.edges ≡ lines_text 76 (table_load_row net acyclic counts rows) 0 net.edges
set_lines net acyclic counts rows routes few are =
    lines_same 76 (set_load_row acyclic net.demands routes net.terminals) (table_load_row net acyclic counts rows) 0 net.edges
    (λ j h. ap (λ (n : ℕ). j ∷ get_or acyclic j 0 ∷ n ∷ []) (set-load routes counts rows net.demands j net.terminals are (omega arith)))

-- the counts and the rows of a board's moves
abbrev pub counts_by : Board → List ℕ
counts_by b = counts_of (take b.moves b.journal)

abbrev pub rows_by : Board → List (List ℕ)
rows_by b = rows_of (take b.moves b.journal)

module _ (b : Board) (few : b.network.terminals ≤ max_terminals) (fit : routes_fit b ≡ true) where
  pub counts_small : (i : ℕ) → i < b.network.terminals → get_or (counts_by b) i 0 ≤ max_vertices
  counts_small i h = omega (arith, counts_route b i (omega arith), fits_at b i fit h)

  pub route-lines : lines_text 77 (table_route_row (counts_by b) (rows_by b)) 0 b.network.terminals ≡ lines_text 77 (route_row b) 0 b.network.terminals
  route-lines = lines_same 77 (table_route_row (counts_by b) (rows_by b)) (route_row b) 0 b.network.terminals
      (λ j h. let less : j < b.network.terminals = omega arith in
      rw (row_route b j (omega arith) (fits_at b j fit less), counts_route b j (omega arith)))

  pub load-lines : lines_text 76 (table_load_row b.network b.acyclic (counts_by b) (rows_by b)) 0 b.network.edges ≡ lines_text 76 (load_row b) 0 b.network.edges
  load-lines = lines_same 76 (table_load_row b.network b.acyclic (counts_by b) (rows_by b)) (load_row b) 0 b.network.edges (λ j h. rw (table-load b j few fit))
