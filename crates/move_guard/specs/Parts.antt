-- The parts of a board by name.
use Rattle.std.specs.Prelude.{Bool, ℕ, get_or}
use Rattle.sets.specs.Sets.{has_bit}
use Rattle.board.specs.Whole.{Board}

-- an edge's flow now and without cycles, its ends, and whether it is marked
abbrev pub flow : Board → ℕ → ℕ
flow b e = get_or b.flows e 0

abbrev pub acyclic_flow : Board → ℕ → ℕ
acyclic_flow b e = get_or b.acyclic e 0

abbrev pub tail : Board → ℕ → ℕ
tail b e = get_or b.network.tails e 0

abbrev pub head : Board → ℕ → ℕ
head b e = get_or b.network.heads e 0

abbrev pub marked : Board → ℕ → Bool
marked b e = has_bit b.marks e

-- a terminal's demand and place
abbrev pub demand : Board → ℕ → ℕ
demand b i = get_or b.network.demands i 0

abbrev pub place : Board → ℕ → ℕ
place b i = get_or b.places i 0
