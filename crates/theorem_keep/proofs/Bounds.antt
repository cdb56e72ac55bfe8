-- The journal has a place for every move that a network within the limits takes.
use mathlib.Core.Path.{◌≡◌, refl}
use Prim.Native.Nat.{◌+◌, ◌-◌, ◌*◌, ◌≤◌}
use native.Mathlib.Nat.{mul-le-mul}
use native.Mathlib.Omega.{arith}
use Rattle.board.specs.Limits.{max_vertices, max_edges, max_terminals, max_moves}
use Rattle.board.specs.declared.Network.{Network}
use Rattle.text_rules.specs.Rules.{Within}
use Rattle.theorem_cycles.specs.Bound.{moves_bound}

-- the bound at the limits
most_moves : max_moves ≡ max_edges + 2 * max_terminals * (max_vertices - 1)
most_moves = refl

pub bound_fits : (net : Network) → Within net → moves_bound net ≤ max_moves
unfolding moves_bound
bound_fits net within =
    let twice : 2 * net.terminals ≤ 2 * max_terminals = omega (arith, within.terminals.1) in
    let rest : net.vertices - 1 ≤ max_vertices - 1 = omega (arith, within.vertices.1) in
    let most : 2 * net.terminals * (net.vertices - 1) ≤ 2 * max_terminals * (max_vertices - 1) = mul-le-mul twice rest in
    omega (arith, within.edges.1, most, most_moves)
