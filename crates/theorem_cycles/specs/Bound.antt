-- How many moves a board takes at most: document 01.
use Rattle.std.specs.Prelude.{ℕ, ◌+◌, ◌-◌, ◌*◌}
use Rattle.board.specs.declared.Network.{Network}

-- "channels + 2 × mills × (pools − 1)": the moves of a board at most
unfoldable pub moves_bound : Network → ℕ
moves_bound net = net.edges + 2 * net.terminals * (net.vertices - 1)
