-- The route report: document 01, "Route sheet".
use Rattle.std.specs.Prelude.{Bool, List, [], ◌∷◌, ◌++◌, ℕ, leb, eqb, length, drop}
use Rattle.std.proofs.lemmas.List.Edits.{sets}
use Rattle.lists.specs.Choice.{pick, both, unless}
use Rattle.board.specs.Record.{finished_stage}
use Rattle.board.specs.Whole.{Board}
use Rattle.text.specs.Text.{line_text, lines_text}
use Rattle.text.specs.Results.{Written}
use Rattle.move_guard.specs.Parts.{acyclic_flow}
use Rattle.move_guard.specs.Guard.{loaded}
use Rattle.report_routes.specs.Routes.{route, load}
use Rattle.report_routes.specs.Tables.{routes_fit}

-- `M,mill,steps,` "and its channels from the spring on": by the steps and the channels of each route, and of a board
abbrev pub route_row_in : (ℕ → ℕ) → (ℕ → List ℕ) → ℕ → List ℕ
route_row_in steps edges i = i ∷ steps i ∷ edges i

abbrev pub route_row : Board → ℕ → List ℕ
route_row b = route_row_in (λ i. length (route b i)) (route b)

-- `L,channel,first flow,load`: first flow is "the drained first flow" (document 02, E4), "and load is the sum of needs routed over it". By the flows and the loads,
-- and of a board
abbrev pub load_row_in : (ℕ → ℕ) → (ℕ → ℕ) → ℕ → List ℕ
load_row_in flows loads e = e ∷ flows e ∷ loads e ∷ []

abbrev pub load_row : Board → ℕ → List ℕ
load_row b = load_row_in (acyclic_flow b) (load b)

-- `R,mills,channels`, then a line for each terminal and one for each edge: by the two counts and the rows, and of a board
abbrev pub report_text_in : ℕ → ℕ → (ℕ → List ℕ) → (ℕ → List ℕ) → List ℕ
report_text_in terminals edges route_rows load_rows =
    line_text 82 (terminals ∷ edges ∷ []) ++ (lines_text 77 route_rows 0 terminals ++ lines_text 76 load_rows 0 edges)

unfoldable pub report_text : Board → List ℕ
report_text b = report_text_in b.network.terminals b.network.edges (route_row b) (load_row b)

-- a board that a load gave. Its routes are simple, so they have room in their rows: see the theorem about every finish
unfoldable pub started : Board → Bool
started b = both (loaded b) (routes_fit b)

-- "29 nothing was loaded. 28 not finished"; 0 where there is a report: by the stage, and whether a load gave the board
abbrev pub unreported_in : ℕ → Bool → ℕ
unreported_in stage given = unless given 29 (unless (eqb stage finished_stage) 28 0)

unfoldable pub unreported : Board → ℕ
unreported b = unreported_in b.stage (started b)

-- "Sheet: 29, 28, 8", for a buffer of n bytes
unfoldable pub sheet_refusal : Board → ℕ → ℕ
sheet_refusal b n = unless (eqb (unreported b) 0) (unreported b) (unless (leb (length (report_text b)) n) 8 0)

-- the call: 0 and the length of the text, or the number
unfoldable pub sheet_call : Board → ℕ → Written
sheet_call b n =
    pick (eqb (sheet_refusal b n) 0) (record { answer = 0; used = length (report_text b) }) (record { answer = sheet_refusal b n; used = 0 })

-- the buffer then: the text with the bytes past it kept, or as it was
unfoldable pub sheeted : Board → List ℕ → List ℕ
sheeted b buf = pick (eqb (sheet_refusal b (length buf)) 0) (report_text b ++ drop (length (report_text b)) buf) buf

-- the same with the text at a place of the buffer, by stores that drop what is past its end; only a text that is to be whole needs room
abbrev pub put_refusal : Board → Bool → ℕ → ℕ
put_refusal b whole n = pick whole (sheet_refusal b n) (unreported b)

abbrev pub put_call : Board → Bool → ℕ → Written
put_call b whole n = record { answer = put_refusal b whole n; used = pick (eqb (put_refusal b whole n) 0) (length (report_text b)) 0 }

abbrev pub put_in : Board → Bool → List ℕ → ℕ → List ℕ
put_in b whole buf at = pick (eqb (put_refusal b whole (length buf)) 0) (sets buf at (report_text b)) buf
