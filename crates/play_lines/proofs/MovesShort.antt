-- How long the line of a move is. No edge has more digits than the greatest, so a step has these and two commas and a letter at most. A turn is its letter, its
-- steps and a line feed; a carry is `K`, two commas, two numbers and a line feed.
use mathlib.Core.List.{List, [], ◌∷◌, ◌++◌}
use Prim.Native.Nat.{ℕ, ◌+◌, ◌-◌, ◌*◌, ◌<◌, ◌≤◌}
use native.Mathlib.Omega.{arith}
use lib.ListN.{length, length-append}
use Rattle.lists.specs.Inner.{Below}
use Rattle.decimal.specs.Decimal.{decimal}
use Rattle.decimal.proofs.Laws.{decimal-length}
use Rattle.board.specs.Limits.{max_vertices, max_edges}
use Rattle.text.specs.Sizes.{edge_digits}
use Rattle.graph_flows.specs.Trails.{Step, edge_of, edges_of}
use Rattle.solve_next.specs.Choosing.{Act, relocate, augment}
use Rattle.play_lines.specs.MoveLines.{way_letter, step_text, steps_text, move_line, longest_hint}

-- a move of the solver: its numbers are below the limit of edges, and it has no more steps than there may be vertices
abbrev pub SmallMove : Act → Type 0
SmallMove (relocate i e) = (i < max_edges) × (e < max_edges)
SmallMove (augment w) = (length w ≤ max_vertices) × Below max_edges (edges_of w)

number_short : (n : ℕ) → n < max_edges → length (decimal n) ≤ edge_digits
number_short n h = decimal-length (edge_digits - 1) n (omega (arith, h))

step_short : (s : Step) → edge_of s < max_edges → length (step_text s) ≤ 3 + edge_digits
step_short s h = omega (arith, length-append (decimal (edge_of s)) (44 ∷ way_letter s ∷ []), number_short (edge_of s) h)

steps_short : (w : List Step) → Below max_edges (edges_of w) → length (steps_text w) ≤ (3 + edge_digits) * length w
unfolding steps_text
steps_short [] b = omega arith
steps_short (s ∷ w) b = omega (arith, length-append (step_text s) (steps_text w), step_short s b.0, steps_short w b.1)

pub move_line_short : (a : Act) → SmallMove a → length (move_line a) ≤ longest_hint
unfolding move_line
move_line_short (relocate i e) h =
    omega (
      arith,
      length-append (decimal i ++ (44 ∷ decimal e)) (10 ∷ []),
      length-append (decimal i) (44 ∷ decimal e),
      number_short i h.0,
      number_short e h.1,
    )
move_line_short (augment w) h = omega (arith, length-append (steps_text w) (10 ∷ []), steps_short w h.1)
