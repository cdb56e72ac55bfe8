-- A move as a line of a play: document 02, E3.
use Rattle.std.specs.Prelude.{List, [], ◌∷◌, ◌++◌, ℕ, ◌+◌, ◌*◌, eqb}
use Rattle.lists.specs.Choice.{pick}
use Rattle.decimal.specs.Decimal.{decimal}
use Rattle.board.specs.Limits.{max_vertices}
use Rattle.text.specs.Sizes.{edge_digits}
use Rattle.graph_flows.specs.Trails.{Step, down, up, edge_of}
use Rattle.solve_next.specs.Advices.{Advice}
use Rattle.solve_next.specs.Choosing.{Act, relocate, augment, no_kind, act_of}

-- "a pair of channel and way (D or U)", behind its comma
abbrev pub way_letter : Step → ℕ
way_letter (down e) = 68
way_letter (up e) = 85

abbrev pub step_text : Step → List ℕ
step_text s = 44 ∷ (decimal (edge_of s) ++ (44 ∷ way_letter s ∷ []))

unfoldable pub steps_text : List Step → List ℕ
steps_text [] = []
steps_text (s ∷ w) = step_text s ++ steps_text w

-- `K,mill,channel`, or `T` with the steps in their order: "a line it would read", without its line feed
abbrev pub move_text : Act → List ℕ
move_text (relocate i e) = 75 ∷ 44 ∷ (decimal i ++ (44 ∷ decimal e))
move_text (augment w) = 84 ∷ steps_text w

unfoldable pub move_line : Act → List ℕ
move_line a = move_text a ++ (10 ∷ [])

-- the move of a hint, "or `N` where no move is left"
unfoldable pub hint_line : Advice → List ℕ
hint_line a = pick (eqb a.kind no_kind) (78 ∷ 10 ∷ []) (move_line (act_of a))

-- no hint of a board of play has a longer line: `T`, a comma, an edge, a comma and a letter for each vertex that the walk passes, and a line feed
abbrev pub longest_hint : ℕ
longest_hint = 2 + (3 + edge_digits) * max_vertices
