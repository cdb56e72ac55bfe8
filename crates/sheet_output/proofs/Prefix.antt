-- A long input is decided by its first bytes, so many as no board text passes. The first line has four fields, an edge line three, a
-- terminal line two, and that nothing follows shows in one byte more. The first line's counts are within their ranges, so reading a whole
-- text looks at `text_space` bytes at most, and what is behind them changes nothing.
use mathlib.Core.Path.{◌≡◌, refl, ap}
use mathlib.Core.List.{List, [], ◌∷◌}
use Prim.Native.Nat.{ℕ, zero, suc, ◌*◌, ◌≤◌}
use native.Mathlib.Nat.{sub-zero}
use native.Mathlib.Omega.{arith}
use lib.ListN.{get_or, take}
use Rattle.board.specs.Limits.{max_edges, max_terminals}
use Rattle.board.specs.declared.Network.{Network}
use Rattle.text.specs.Text.{got, header, headed, head_ranges, edge_ranges, terminal_ranges, lines, with_edges, edge_lines, terminal_lines}
use Rattle.text.specs.Text.{nothing_follows, layout}
use Rattle.text.specs.Results.{reading_of, read_text}
use Rattle.text.proofs.Fields.{parts, header_only}
use Rattle.text.proofs.FieldColumns.{spelled_within}
use Rattle.load.specs.Load.{load_text}
use Rattle.sheet_output.specs.Inputs.{fields_bytes, text_space, lines_of, lines_wanted}
use Rattle.sheet_output.specs.Outputs.{sheet_output}
use Rattle.sheet_output.proofs.Near.{Alike, both_refused, both_got, Near, near_got, near_more, near_when, near_then, near_line, near_lines}

-- ---- the parts of a board text

pub near_header : Near (fields_bytes 4) header
unfolding header
near_header = near_then (near_line 66 head_ranges) λ ns s rest e. near_when _ 2 (near_got ns)

near_edges : (net : Network) (i k : ℕ) → k ≤ max_edges → Near (max_edges * fields_bytes 3) (edge_lines net i k)
unfolding edge_lines
near_edges net i k h =
    near_more _ (near_then (near_lines 67 (edge_ranges net.vertices) k) λ rows s rest e. near_got _) (omega arith)

near_terminals : (net : Network) (i k : ℕ) → k ≤ max_terminals → Near (max_terminals * fields_bytes 2) (terminal_lines net i k)
unfolding terminal_lines
near_terminals net i k h =
    near_more _ (near_then (near_lines 87 (terminal_ranges net.vertices) k) λ rows s rest e. near_got _) (omega arith)

near_nothing_follows : (net : Network) → Near 1 (nothing_follows net)
unfolding nothing_follows
near_nothing_follows net = record { near = go }
  where
    go : (s : List ℕ) (m : ℕ) → 1 ≤ m → Alike 1 m s (nothing_follows net (take m s)) (nothing_follows net s)
    go s zero h = absurd (omega arith)
    go [] (suc m) h = both_got net 0 (omega arith) (rw sub-zero) refl
    go (c ∷ s) (suc m) h = both_refused 1 refl refl

-- edge lines leave the count of terminals
edges_kept : (net whole : Network) (i k : ℕ) (s rest : List ℕ) → edge_lines net i k s ≡ got whole rest → whole.terminals ≡ net.terminals
unfolding edge_lines
edges_kept net whole i k s rest h =
    parts (lines 67 (edge_ranges net.vertices) k s) _ h λ rows s1 e1 h1.
    let same : whole ≡ with_edges net i rows = cc in
    ap (λ (n : Network). n.terminals) same

pub near_layout : Near text_space layout
unfolding layout
near_layout =
    near_more text_space (near_then near_header λ ns s rest e.
    let counts = spelled_within head_ranges ns (header_only ns s rest e).facts.within in
    near_then (near_edges (headed ns) 0 (get_or ns 1 0) (omega arith)) λ net s1 rest1 e1.
    near_then (near_terminals net 0 net.terminals (omega (arith, edges_kept (headed ns) net 0 (get_or ns 1 0) s1 rest1 e1))) λ whole s2 rest2 e2.
    near_nothing_follows whole) (omega arith)

-- ---- the theorem about long texts

pub read_prefix : (s : List ℕ) → read_text (take text_space s) ≡ read_text s
unfolding read_text
read_prefix s = go (near_layout.near s text_space (omega arith))
  where
    go : Alike text_space text_space s (layout (take text_space s)) (layout s) → reading_of (layout (take text_space s)) ≡ reading_of (layout s)
    go (both_refused n p o) = rw (p, o)
    go (both_got a u le p o) = rw (p, o)

pub load_prefix : (s : List ℕ) → load_text (take text_space s) ≡ load_text s
unfolding load_text
load_prefix s = rw (read_prefix s)

pub sheet_prefix : (s : List ℕ) → sheet_output (take text_space s) ≡ sheet_output s
unfolding sheet_output
sheet_prefix s = rw (load_prefix s)

pub wanted_prefix : (s : List ℕ) → lines_wanted (take text_space s) ≡ lines_wanted s
unfolding lines_wanted
wanted_prefix s = go (near_header.near s text_space (omega arith))
  where
    go : Alike (fields_bytes 4) text_space s (header (take text_space s)) (header s) → lines_of (header (take text_space s)) ≡ lines_of (header s)
    go (both_refused n p o) = rw (p, o)
    go (both_got ns u le p o) = rw (p, o)
