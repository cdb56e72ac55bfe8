-- What the counts and the rows of a board's journal say: how long each route is, the route itself where it has room in its row, and so the load of every edge.
use mathlib.Core.Path.{◌≡◌, ap}
use mathlib.Core.Bool.{Bool, true}
use mathlib.Core.List.{List, []}
use Prim.Native.Nat.{ℕ, ◌+◌, ◌<◌, ◌≤◌}
use native.Mathlib.Omega.{arith}
use lib.Dec.{leb}
use lib.ListN.{length, get_or, take, drop, replicate, length-replicate}
use lib.Seq.{sets-eq, take-append_seam}
use borrow.Author.Tests.{leb-true}
use Rattle.lists.specs.Choice.{pick}
use Rattle.lists.specs.Lists.{all}
use Rattle.lists.specs.Members.{has}
use Rattle.lists.proofs.Laws.{all_same, all_from}
use Rattle.lists.proofs.Totals.{total_same}
use Rattle.sets.specs.Sets.{has_bit}
use Rattle.board.specs.Limits.{max_vertices, max_edges, max_terminals}
use Rattle.board.specs.Whole.{Board}
use Rattle.report_routes.specs.Routes.{route, share, load}
use Rattle.report_routes.specs.Tables.{routes_fit}
use Rattle.report_routes.specs.Inner.{row_of, counts_of, rows_of, row_at, table_load, AreRouteSets, set_load}
use Rattle.report_routes.proofs.Filling.{counts_at, rows_at}

-- a row that has room for the edges begins with them
row_begins : (es : List ℕ) → length es ≤ max_vertices → take (length es) (row_of es) ≡ es
unfolding row_of
row_begins es h =
    let zeros : List ℕ = replicate max_vertices 0 in
    let long : length zeros ≡ max_vertices = length-replicate {A = ℕ} max_vertices 0 in
    rw (sets-eq es zeros 0 (omega (arith, long))) (take-append_seam es (drop (0 + length es) zeros))

pub counts_route : (b : Board) (i : ℕ) → i < max_terminals → get_or (counts_of (take b.moves b.journal)) i 0 ≡ length (route b i)
unfolding route
counts_route b i h = counts_at (take b.moves b.journal) i h

pub fits_route : (b : Board) → b.network.terminals ≤ max_terminals
    → all (λ i. leb (get_or (counts_of (take b.moves b.journal)) i 0) max_vertices) 0 b.network.terminals ≡ routes_fit b
unfolding routes_fit
fits_route b h = all_same _ _ 0 b.network.terminals (λ j a l. ap (λ (n : ℕ). leb n max_vertices) (counts_route b j (omega arith)))

pub fits_at : (b : Board) (i : ℕ) → routes_fit b ≡ true → i < b.network.terminals → length (route b i) ≤ max_vertices
unfolding routes_fit
fits_at b i h l = leb-true _ _ (all_from (λ j. leb (length (route b j)) max_vertices) b.network.terminals i h l)

pub row_route : (b : Board) (i : ℕ) → i < max_terminals → length (route b i) ≤ max_vertices → row_at (counts_of (take b.moves b.journal)) (rows_of (take b.moves b.journal)) i ≡ route b i
unfolding route
row_route b i h l = rw (counts_route b i h, rows_at (take b.moves b.journal) i [] h) (row_begins (route b i) l)

pub table-load : (b : Board) (e : ℕ) → b.network.terminals ≤ max_terminals → routes_fit b ≡ true
    → table_load (counts_of (take b.moves b.journal)) (rows_of (take b.moves b.journal)) b.network.demands e b.network.terminals ≡ load b e
unfolding table_load load
table-load b e h fit =
    total_same
    (λ i. pick (has e (row_at (counts_of (take b.moves b.journal)) (rows_of (take b.moves b.journal)) i)) (get_or b.network.demands i 0) 0)
    (share b e)
    0
    b.network.terminals
    (λ j a l.
    let inside : j < b.network.terminals = omega arith in
    let same = row_route b j (omega arith) (fits_at b j fit inside) in
    ap (λ (es : List ℕ). pick (has e es) (get_or b.network.demands j 0) 0) same)

-- the sets of the routes give the same loads as the rows
pub set-load : (routes counts : List ℕ) (rows : List (List ℕ)) (demands : List ℕ) (e n : ℕ) → AreRouteSets routes counts rows n → e < max_edges
    → set_load routes demands e n ≡ table_load counts rows demands e n
unfolding set_load table_load
set-load routes counts rows demands e n are h =
    total_same
    (λ i. pick (has_bit (get_or routes i 0) e) (get_or demands i 0) 0)
    (λ i. pick (has e (row_at counts rows i)) (get_or demands i 0) 0)
    0
    n
    (λ j a l. ap (λ (t : Bool). pick t (get_or demands j 0) 0) (are j (omega arith) e h))
