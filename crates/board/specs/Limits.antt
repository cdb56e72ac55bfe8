-- The limits of document 01. The code has them as associated constants of `Board`, since a definition cannot name a constant of the code. Sizes that follow
-- from them are computed from them.
use Rattle.std.specs.Prelude.{ℕ, ◌+◌, ◌-◌, ◌*◌}

-- pools, channels and mills at most
abbrev pub max_vertices : ℕ
max_vertices = 32

abbrev pub max_edges : ℕ
max_edges = 64

abbrev pub max_terminals : ℕ
max_terminals = 16

-- the greatest flow of a channel and need of a mill
abbrev pub max_flow : ℕ
max_flow = 1000000

-- the places of the journal: "channels + 2 × mills × (pools − 1), at most 1,056"
abbrev pub max_moves : ℕ
max_moves = max_edges + 2 * max_terminals * (max_vertices - 1)

-- what the terminals need together at most: no flow in play passes it
abbrev pub max_total : ℕ
max_total = max_terminals * max_flow
