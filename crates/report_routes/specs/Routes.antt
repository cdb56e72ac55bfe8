-- Routes and loads of a board.
use Rattle.std.specs.Prelude.{Bool, List, [], ◌∷◌, ◌++◌, ℕ, eqb, get_or, take}
use Rattle.lists.specs.Choice.{pick}
use Rattle.lists.specs.Lists.{total, most}
use Rattle.lists.specs.Members.{has}
use Rattle.board.specs.Whole.{Move, Carry, Turn, Entry, Board}

-- the edge that a move carried terminal i over
abbrev pub carried_over : ℕ → Move → List ℕ
carried_over i (Carry r) = pick (eqb r.terminal i) (r.edge ∷ []) []
carried_over i (Turn a) = []

-- "the channels it was carried over, last one first"
unfoldable pub route_in : ℕ → List Entry → List ℕ
route_in i [] = []
route_in i (m ∷ ms) = route_in i ms ++ carried_over i m.step

-- by the standing moves
unfoldable pub route : Board → ℕ → List ℕ
route b i = route_in i (take b.moves b.journal)

-- what terminal i adds to the load of an edge: its demand, if its route holds the edge. By which routes hold it and the demands, and for edge e of a board
abbrev pub share_in : (ℕ → Bool) → List ℕ → ℕ → ℕ
share_in holds demands i = pick (holds i) (get_or demands i 0) 0

abbrev pub share : Board → ℕ → ℕ → ℕ
share b e = share_in (λ i. has e (route b i)) b.network.demands

-- the sum of the needs of the mills whose routes hold the channel, and the greatest of them
unfoldable pub load : Board → ℕ → ℕ
load b e = total (share b e) 0 b.network.terminals

unfoldable pub largest : Board → ℕ → ℕ
largest b e = most (share b e) 0 b.network.terminals
