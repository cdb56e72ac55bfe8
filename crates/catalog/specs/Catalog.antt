-- The catalog: what the call writes, over the table.
use Rattle.std.specs.Prelude.{Bool, List, ◌++◌, ℕ, zero, suc, ◌+◌, ◌*◌, leb, eqb, length, get_or, take, drop}
use Rattle.lists.specs.Choice.{pick, both, unless, when}
use Rattle.text.specs.Text.{line_text, lines_text}
use Rattle.text.specs.Results.{read_text}
use Rattle.text.specs.Results.{Written}
use Rattle.catalog.specs.Table.{table}

-- "Forty boards", numbered from 0
abbrev pub boards : ℕ
boards = 40

-- how many numbers the first board of a list has: four in its first line, three for each edge, two for each terminal
abbrev pub span : List ℕ → ℕ
span t = 4 + (3 * get_or t 1 0 + 2 * get_or t 2 0)

-- a table from board k on
unfoldable pub boards_from : ℕ → List ℕ → List ℕ
boards_from zero t = t
boards_from (suc k) t = boards_from k (drop (span t) t)

-- row i of a list in rows of w numbers
abbrev pub table_row : ℕ → List ℕ → ℕ → List ℕ
table_row w t i = take w (drop (w * i) t)

-- "fields as in the board text": the text of the first board of a list
unfoldable pub board_text : List ℕ → List ℕ
board_text t =
    line_text 66 (take 4 t)
    ++ (lines_text 67 (table_row 3 (drop 4 t)) 0 (get_or t 1 0)
    ++ lines_text 87 (table_row 2 (drop (4 + 3 * get_or t 1 0) t)) 0 (get_or t 2 0))

-- the text of board k
unfoldable pub catalog_text : ℕ → List ℕ
unfolding boards_from board_text
catalog_text k = board_text (boards_from k table)

-- writing board k into a buffer of n bytes: 2 for a number above 39, then 8, else 0 and the length of the text
unfoldable pub catalog_call : ℕ → ℕ → Written
catalog_call k n =
    when (leb boards k) (record { answer = 2; used = 0 })
    (unless (leb (length (catalog_text k)) n) (record { answer = 8; used = 0 }) (record { answer = 0; used = length (catalog_text k) }))

-- the buffer then: the text with the bytes past it kept, or as it was
unfoldable pub catalogued : ℕ → List ℕ → List ℕ
catalogued k buf =
    pick (eqb (catalog_call k (length buf)).answer 0) (catalog_text k ++ drop (length (catalog_text k)) buf) buf

-- "every entry, written as text, is an accepted board": the first board of a list is there whole, and its text is accepted
unfoldable pub entry_accepted : List ℕ → Bool
unfolding board_text read_text both pick line_text lines_text
entry_accepted t = both (leb (span t) (length t)) (eqb (read_text (board_text t)).answer 0)

-- so many boards, one after the other, are accepted, and nothing is behind them
unfoldable pub all_accepted : ℕ → List ℕ → Bool
unfolding entry_accepted
all_accepted zero t = eqb (length t) 0
all_accepted (suc k) t = both (entry_accepted t) (all_accepted k (drop (span t) t))
