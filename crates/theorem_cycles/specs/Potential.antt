-- For inner contracts only: a number that every accepted move lowers.
use Rattle.std.specs.Prelude.{ℕ, ◌+◌, ◌-◌, ◌*◌}
use Rattle.lists.specs.Choice.{pick}
use Rattle.lists.specs.Lists.{total}
use Rattle.board.specs.Whole.{Board}
use Rattle.graph_flows.specs.Inner.{rank, positives}
use Rattle.move_guard.specs.Parts.{place}
use Rattle.move_carry.specs.Opens.{some_open}

-- the rank of a vertex in the acyclic flow
abbrev pub level : Board → ℕ → ℕ
level b v = rank b.network.tails b.network.heads b.acyclic b.network.vertices v

-- the ranks of the terminals' places together
abbrev pub levels : Board → ℕ
levels b = total (λ i. level b (place b i)) 0 b.network.terminals

-- the positive edges, twice the ranks of the terminals' places, and one less while a carry is open
unfoldable pub potential : Board → ℕ
potential b = positives b.flows + 2 * levels b - pick (some_open b) 1 0
