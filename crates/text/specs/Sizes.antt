-- How long texts are at most, computed from the limits.
use Rattle.std.specs.Prelude.{List, [], ◌∷◌, ℕ, ◌+◌, ◌-◌, ◌*◌, ◌^◌, ◌/◌}
use Rattle.decimal.specs.Decimal.{max_digits}
use Rattle.board.specs.Limits.{max_vertices, max_edges, max_terminals}

-- the digits of the counts, and of the numbers below them: no limit is above 10 to the power of its digits
abbrev pub vertex_digits : ℕ
vertex_digits = 2

abbrev pub edge_digits : ℕ
edge_digits = 2

abbrev pub terminal_digits : ℕ
terminal_digits = 2

-- a line's letter and comma, and its digits with one byte behind those of each number
abbrev pub line_width : List ℕ → ℕ
line_width [] = 2
line_width (d ∷ ds) = d + 1 + line_width ds

-- the longest lines of a board text, `B,32,64,16,31`, `C,31,31,1000000` and `W,31,1000000`, and the longest text
abbrev pub head_width : ℕ
head_width = line_width (vertex_digits ∷ edge_digits ∷ terminal_digits ∷ vertex_digits ∷ [])

abbrev pub edge_width : ℕ
edge_width = line_width (vertex_digits ∷ vertex_digits ∷ max_digits ∷ [])

abbrev pub terminal_width : ℕ
terminal_width = line_width (vertex_digits ∷ max_digits ∷ [])

abbrev pub longest_text : ℕ
longest_text = head_width + (max_edges * edge_width + max_terminals * terminal_width)

-- the lines of a route report: a route has fewer edges than there are vertices, and no load has more digits than a flow
abbrev pub sizes_width : ℕ
sizes_width = line_width (terminal_digits ∷ edge_digits ∷ [])

abbrev pub route_width : ℕ
route_width = line_width (terminal_digits ∷ vertex_digits ∷ []) + (max_vertices - 1) * (edge_digits + 1)

abbrev pub load_width : ℕ
load_width = line_width (edge_digits ∷ max_digits ∷ max_digits ∷ [])

-- what the numbers with fewer than d digits, each once, take less than d digits: 10 numbers of one digit, 90 of two, and so on
abbrev pub spared : ℕ → ℕ
spared d = (10 ^ d - 10) / 9

abbrev pub longest_report : ℕ
longest_report = sizes_width + ((max_terminals * route_width - spared terminal_digits) + (max_edges * load_width - spared edge_digits))

-- ---- bounds that need no board of play

-- a number with the byte behind it: ten digits at most
abbrev pub number_bytes : ℕ
number_bytes = 11

-- a line of n numbers: its letter, a comma, and the numbers
abbrev pub line_bytes : ℕ → ℕ
line_bytes n = 2 + number_bytes * n

-- the numbers of a line at most: a terminal, how many edges its route has, and these
abbrev pub line_numbers : ℕ
line_numbers = 2 + max_vertices

-- the lines of the routes, the lines of the loads, and a route report
abbrev pub routes_bytes : ℕ
routes_bytes = line_bytes line_numbers * max_terminals

abbrev pub loads_bytes : ℕ
loads_bytes = line_bytes 3 * max_edges

abbrev pub report_bytes : ℕ
report_bytes = line_bytes 2 + (routes_bytes + loads_bytes)
