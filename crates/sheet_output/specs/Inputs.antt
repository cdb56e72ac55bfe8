-- What the programs read as the board: document 01, "Route sheet".
use Rattle.std.specs.Prelude.{List, [], ◌++◌, ℕ, zero, suc, ◌+◌, ◌*◌, length, get_or, take, drop}
use Rattle.lists.specs.Lists.{index_of}
use Rattle.decimal.specs.Decimal.{max_digits}
use Rattle.board.specs.Limits.{max_edges, max_terminals}
use Rattle.text.specs.Text.{Read, refused, got, header}

-- a line of n fields, a letter and numbers, as far as reading it looks: seven digits and the byte behind them for each number
abbrev pub fields_bytes : ℕ → ℕ
fields_bytes n = 2 + (max_digits + 1) * n

-- the first line, the lines of the edges and of the terminals, and one byte more: no board text is longer, so that a text's first bytes, so many, decide what loading it gives: see the theorem about long texts
abbrev pub text_space : ℕ
text_space = fields_bytes 4 + (fields_bytes 3 * max_edges + (fields_bytes 2 * max_terminals + 1))

-- the first k lines, with their line feeds; all there is, where there are fewer
unfoldable pub first_lines : ℕ → List ℕ → List ℕ
first_lines zero s = []
first_lines (suc k) s = take (suc (index_of 10 s)) s ++ first_lines k (drop (suc (index_of 10 s)) s)

-- "as many lines as its first line's counts say": the first, one for each edge and one for each terminal. A first line that is refused is all
unfoldable pub lines_of : Read (List ℕ) → ℕ
lines_of (refused n) = 1
lines_of (got ns s) = 1 + get_or ns 1 0 + get_or ns 2 0

unfoldable pub lines_wanted : List ℕ → ℕ
unfolding header lines_of
lines_wanted s = lines_of (header s)

-- the part of an input that is the board, and the part behind it
unfoldable pub board_part : List ℕ → List ℕ
board_part s = first_lines (lines_wanted (first_lines 1 s)) s

unfoldable pub moves_part : List ℕ → List ℕ
moves_part s = drop (length (board_part s)) s
