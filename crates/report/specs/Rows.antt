-- For inner contracts only: the rows of the report, over the counts and the rows of the routes.
use Rattle.std.specs.Prelude.{List, ℕ, ◌≤◌, ◌<◌, get_or}
use Rattle.board.specs.Limits.{max_vertices, max_edges, max_terminals}
use Rattle.board.specs.declared.Network.{Network}
use Rattle.report_routes.specs.Inner.{row_at, table_load, set_load, Moderate}
use Rattle.report.specs.Reports.{route_row_in, load_row_in, report_text_in}

-- terminal i, how many edges its route has, and its edges from the source on
abbrev pub table_route_row : List ℕ → List (List ℕ) → ℕ → List ℕ
table_route_row counts rows = route_row_in (λ i. get_or counts i 0) (row_at counts rows)

-- edge e, its acyclic flow, and its load
abbrev pub table_load_row : Network → List ℕ → List ℕ → List (List ℕ) → ℕ → List ℕ
table_load_row net acyclic counts rows = load_row_in (λ e. get_or acyclic e 0) (λ e. table_load counts rows net.demands e net.terminals)

-- the same by the sets of the routes
abbrev pub set_load_row : List ℕ → List ℕ → List ℕ → ℕ → ℕ → List ℕ
set_load_row acyclic demands routes terminals = load_row_in (λ e. get_or acyclic e 0) (λ e. set_load routes demands e terminals)

-- the text of the report
unfoldable pub table_text : Network → List ℕ → List ℕ → List (List ℕ) → List ℕ
table_text net acyclic counts rows = report_text_in net.terminals net.edges (table_route_row counts rows) (table_load_row net acyclic counts rows)

-- what the writing asks for: counts within the limits, demands whose sums do not wrap, and routes that have room in their rows
pub record Printable (net : Network) (counts : List ℕ) : Type 0 where
  pub edges : net.edges ≤ max_edges
  pub terminals : net.terminals ≤ max_terminals
  pub demands : Moderate net.demands
  pub steps : (i : ℕ) → i < net.terminals → get_or counts i 0 ≤ max_vertices
