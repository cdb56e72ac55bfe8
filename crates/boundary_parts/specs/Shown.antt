-- What the calls that change nothing give, as numbers and rows: a hint's move, the view of a board, a standing move.
use Rattle.std.specs.Prelude.{Bool, List, [], ◌∷◌, map, ℕ, zero, suc, ltb, eqb, length, get_or, replicate}
use Rattle.std.proofs.lemmas.List.Edits.{sets}
use Rattle.lists.specs.Choice.{pick, both, unless}
use Rattle.lists.specs.Lists.{tabulated}
use Rattle.sets.specs.Sets.{has_bit, joined}
use Rattle.board.specs.Limits.{max_vertices, max_edges, max_terminals, max_moves}
use Rattle.board.specs.Record.{blank, closed_stage, play_stage, finished_stage}
use Rattle.board.specs.Whole.{Move, Carry, Turn, Board}
use Rattle.text.specs.Sizes.{longest_text, longest_report}
use Rattle.move_guard.specs.Guard.{loaded}
use Rattle.move_cycle.specs.Steps.{code_step, step_byte, up_from}
use Rattle.solve_next.specs.Choosing.{no_kind, carry_kind, turn_kind}
use Rattle.solve_next.specs.Advices.{Advice}
use Rattle.boundary_parts.specs.Memory.{version}

-- ---- The numbers that the header has as macros and in enums: the version; the limits; the most steps; the places of the journal; the
-- bytes of the longest text and of the longest report; the stages; the kinds; what an up-step adds.

abbrev pub engine_limits : List ℕ
engine_limits =
    version
    ∷ max_vertices
    ∷ max_edges
    ∷ max_terminals
    ∷ max_edges
    ∷ max_moves
    ∷ longest_text
    ∷ longest_report
    ∷ closed_stage
    ∷ play_stage
    ∷ finished_stage
    ∷ no_kind
    ∷ carry_kind
    ∷ turn_kind
    ∷ up_from
    ∷ []

-- ---- A hint's move: kind, terminal, edge, how many steps; and the steps, a byte each.

abbrev pub advice_numbers : Advice → List ℕ
advice_numbers a = a.kind ∷ a.terminal ∷ a.edge ∷ a.count ∷ []

abbrev pub byte_at : List ℕ → ℕ → ℕ
byte_at steps i = step_byte (code_step (get_or steps i 0))

abbrev pub advice_bytes : Advice → List ℕ
advice_bytes a = tabulated (byte_at a.steps) 0 max_edges

-- ---- The view of a board.

-- "what a screen draws" is there for a board that a load gave
unfoldable pub look_refusal : Board → ℕ
look_refusal b = unless (loaded b) 29 0

-- the value, or zeros after a refusal
abbrev pub unless_refused : {A : Type 0} → ℕ → A → A → A
unless_refused number zeros value = pick (eqb number 0) value zeros

-- 1 where a test holds
abbrev pub as_number : Bool → ℕ
as_number t = pick t 1 0

-- an edge of the board that is marked
abbrev pub marked_in : ℕ → ℕ → ℕ → ℕ
marked_in edges marks e = as_number (both (ltb e edges) (has_bit marks e))

abbrev pub no_row : List ℕ
no_row = replicate max_edges 0

-- stage, counts, source, how many moves stand
abbrev pub board_numbers : Board → List ℕ
board_numbers b =
    b.stage ∷ b.network.vertices ∷ b.network.edges ∷ b.network.terminals ∷ b.network.source ∷ b.moves ∷ []

-- of each edge: tail, head, acyclic flow, flow, whether it is marked
abbrev pub board_edges : Board → List (List ℕ)
board_edges b =
    b.network.tails ∷ b.network.heads ∷ b.acyclic ∷ b.flows ∷ tabulated (marked_in b.network.edges b.marks) 0 max_edges ∷ []

-- of each terminal: home, place, demand
abbrev pub board_terminals : Board → List (List ℕ)
board_terminals b = b.network.homes ∷ b.places ∷ b.network.demands ∷ []

unfoldable pub view_numbers : Board → List ℕ
view_numbers b = unless_refused (look_refusal b) (replicate 6 0) (board_numbers b)

unfoldable pub view_edges : Board → List (List ℕ)
view_edges b = unless_refused (look_refusal b) (replicate 5 no_row) (board_edges b)

unfoldable pub view_terminals : Board → List (List ℕ)
view_terminals b = unless_refused (look_refusal b) (replicate 3 (replicate max_terminals 0)) (board_terminals b)

-- ---- A standing move.

-- the numbers of e, e + 1, .., e + k - 1 that are in a set
unfoldable pub elements_from : ℕ → ℕ → ℕ → List ℕ
elements_from m e zero = []
elements_from m e (suc k) = pick (has_bit m e) (e ∷ elements_from m (suc e) k) (elements_from m (suc e) k)

abbrev pub elements : ℕ → List ℕ
elements m = elements_from m 0 max_edges

-- a list in a row, zeros behind it
abbrev pub in_row : List ℕ → List ℕ
in_row xs = sets no_row 0 xs

-- the way over an edge: 1 up, 0 down
abbrev pub way_in : ℕ → ℕ → ℕ
way_in ups e = as_number (has_bit ups e)

-- kind, terminal, edge, amount, how many edges the cycle has, how many it newly marked
abbrev pub move_numbers : Move → List ℕ
move_numbers (Carry r) = carry_kind ∷ r.terminal ∷ r.edge ∷ 0 ∷ 0 ∷ 0 ∷ []
move_numbers (Turn a) = turn_kind ∷ 0 ∷ 0 ∷ a.amount ∷ length (elements (joined a.down a.up)) ∷ length (elements a.marked) ∷ []

-- the edges of the cycle by ascending number, the way over each, the edges newly marked
abbrev pub move_rows : Move → List (List ℕ)
move_rows (Carry r) = no_row ∷ no_row ∷ no_row ∷ []
move_rows (Turn a) =
    in_row (elements (joined a.down a.up))
    ∷ in_row (map (way_in a.up) (elements (joined a.down a.up)))
    ∷ in_row (elements a.marked)
    ∷ []

-- 29 where no board was loaded, then 2 where no move stands at the place
unfoldable pub entry_refusal : Board → ℕ → ℕ
entry_refusal b i = unless (loaded b) 29 (unless (ltb i b.moves) 2 0)

unfoldable pub entry_numbers : Board → ℕ → List ℕ
entry_numbers b i = unless_refused (entry_refusal b i) (replicate 6 0) (move_numbers (get_or b.journal i blank).step)

unfoldable pub entry_rows : Board → ℕ → List (List ℕ)
entry_rows b i = unless_refused (entry_refusal b i) (replicate 3 no_row) (move_rows (get_or b.journal i blank).step)
