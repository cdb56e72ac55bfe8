-- The amount of a turn: document 01, "Moves". A name that ends in In is said of the parts of a board, as the code computes it; the name without it of the board.
use Rattle.std.specs.Prelude.{Bool, List, [], ◌∷◌, ℕ, zero, suc, ◌-◌, ltb, eqb, get_or}
use Rattle.lists.specs.Choice.{pick, both}
use Rattle.board.specs.Whole.{Board}
use Rattle.graph_flows.specs.Trails.{Step, down, up}
use Rattle.move_guard.specs.Parts.{flow, head, demand, place}

-- the smaller of two amounts, where a first one of 0 stands for none
unfoldable pub smaller : ℕ → ℕ → ℕ
smaller a x = pick (eqb a 0) x (pick (ltb x a) x a)

-- a terminal is at the head of an edge and its need exceeds the flow: by its place and demand, and on a board
abbrev pub is_short_in : ℕ → ℕ → ℕ → ℕ → Bool
is_short_in head flow place demand = both (eqb place head) (ltb flow demand)

abbrev pub is_short : Board → ℕ → ℕ → Bool
is_short b e i = is_short_in (head b e) (flow b e) (place b i) (demand b i)

-- the smaller of a and "need minus flow", where the terminal is short
unfoldable pub lessened : ℕ → ℕ → ℕ → ℕ → ℕ → ℕ
lessened head flow place demand a = pick (is_short_in head flow place demand) (smaller a (demand - flow)) a

-- the smallest of a and "need minus flow" over the terminals i, i + 1, .., i + k - 1 that are short at e
unfoldable pub raise_in : List ℕ → List ℕ → ℕ → ℕ → ℕ → ℕ → ℕ → ℕ
unfolding lessened
raise_in places demands head flow a i zero = a
raise_in places demands head flow a i (suc k) = raise_in places demands head flow (lessened head flow (get_or places i 0) (get_or demands i 0) a) (suc i) k

abbrev pub raise : Board → ℕ → ℕ → ℕ → ℕ → ℕ
raise b e = raise_in b.places b.network.demands (head b e) (flow b e)

-- the smallest of a and what a step allows: "the least flow on a down-step", "the least (need minus flow) over up-step channels and mills at their heads"
unfoldable pub allowed_in : List ℕ → List ℕ → List ℕ → List ℕ → ℕ → ℕ → Step → ℕ
allowed_in heads flows places demands terminals a s =
    elim s [ down e ↦ smaller a (get_or flows e 0) | up e ↦ raise_in places demands (get_or heads e 0) (get_or flows e 0) a 0 terminals ]

abbrev pub allowed : Board → ℕ → Step → ℕ
allowed b = allowed_in b.network.heads b.flows b.places b.network.demands b.network.terminals

-- "The amount is the smaller of" these, over all steps
unfoldable pub amount_in : List ℕ → List ℕ → List ℕ → List ℕ → ℕ → ℕ → List Step → ℕ
unfolding allowed_in
amount_in heads flows places demands terminals a [] = a
amount_in heads flows places demands terminals a (s ∷ w) = amount_in heads flows places demands terminals (allowed_in heads flows places demands terminals a s) w

abbrev pub amount_from : Board → ℕ → List Step → ℕ
amount_from b = amount_in b.network.heads b.flows b.places b.network.demands b.network.terminals

-- from none on
abbrev pub amount : Board → List Step → ℕ
amount b = amount_from b 0
