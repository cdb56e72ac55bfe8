-- What holds on every board reached by play, for inner contracts only: why the promises are kept. Edges range over e, e' and g, terminals over i and j, vertices over v.
use Rattle.std.specs.Prelude.{◌≡◌, true, false, ◌⊎◌, ℕ, ◌+◌, ◌*◌, ◌<◌, ◌≤◌, length, get_or}
use Rattle.lists.specs.Lists.{sum_at}
use Rattle.lists.specs.Members.{has}
use Rattle.board.specs.Record.{blank}
use Rattle.board.specs.Whole.{Move, Carry, Turn, Board}
use Rattle.text_rules.specs.Sound.{Sound, Balanced}
use Rattle.graph_cancel.specs.Cancelling.{acyclic_flows}
use Rattle.graph_flows.specs.Trails.{Trail, downs}
use Rattle.move_guard.specs.Parts.{flow, acyclic_flow, tail, head, marked, demand, place}
use Rattle.report_routes.specs.Routes.{route, load, largest}
use Rattle.theorem_cycles.specs.Bound.{moves_bound}

-- the amount of a turn; a carry has none
abbrev pub amount_of : Move → ℕ
amount_of (Carry r) = 0
amount_of (Turn a) = a.amount

module _ (b : Board) where
  -- e is positive and marked
  pub record Marked (e : ℕ) : Type 0 where
    pub mark : marked b e ≡ true
    pub above : 0 < flow b e

  -- terminal i is at v
  pub record At (i v : ℕ) : Type 0 where
    pub terminal : i < b.network.terminals
    pub here : place b i ≡ v

  pub record Invariant : Type 0 where
    -- what play never changes, and places within their counts
    pub sound : Sound b.network
    pub balanced : Balanced b.network
    pub acyclic : b.acyclic ≡ acyclic_flows b.network.tails b.network.heads b.network.vertices b.network.flows
    pub flows_size : length b.flows ≡ length b.network.flows
    pub places_size : length b.places ≡ length b.network.homes
    pub placed : (i : ℕ) → i < b.network.terminals → place b i < b.network.vertices
    pub unplaced : (i : ℕ) → b.network.terminals ≤ i → place b i ≡ 0
    -- the journal has room for the moves of such a network, and its places past the standing moves are blank
    pub room : moves_bound b.network ≤ length b.journal
    pub blanks : (i : ℕ) → b.moves ≤ i → get_or b.journal i blank ≡ blank
    -- the flow that enters a vertex is the flow that leaves it and the demands of the terminals at it
    pub balance : (v : ℕ) → v < b.network.vertices → (v ≡ b.network.source → ⊥)
        → sum_at b.network.heads b.flows v ≡ sum_at b.network.tails b.flows v + sum_at b.places b.network.demands v
    pub support : (e : ℕ) → 0 < flow b e → 0 < acyclic_flow b e
    -- at the head of a positive marked edge: one positive edge leaves at most, it is marked, and so is every positive edge that enters
    pub one_out : (e g g' : ℕ) → Marked e → tail b g ≡ head b e → 0 < flow b g → tail b g' ≡ head b e → 0 < flow b g' → g ≡ g'
    pub down_closed : (e g : ℕ) → Marked e → tail b g ≡ head b e → 0 < flow b g → marked b g ≡ true
    pub across_closed : (e e' : ℕ) → Marked e → head b e' ≡ head b e → 0 < flow b e' → marked b e' ≡ true
    -- where a positive edge leaves, no terminal there needs less than the marked edge has; where none leaves, one terminal may
    pub all_fit : (e g i : ℕ) → Marked e → tail b g ≡ head b e → 0 < flow b g → At i (head b e) → flow b e ≤ demand b i
    pub one_misfit : (e e' i j : ℕ) → Marked e → Marked e' → head b e' ≡ head b e → At i (head b e) → At j (head b e) → (i ≡ j → ⊥)
        → (flow b e ≤ demand b i) ⊎ (flow b e' ≤ demand b j)
    -- the load of an edge and the flow left on it
    pub load_unmarked : (e : ℕ) → marked b e ≡ false → flow b e + load b e ≤ acyclic_flow b e
    pub load_positive : (e : ℕ) → Marked e → load b e < acyclic_flow b e
    pub load_zero : (e : ℕ) → marked b e ≡ true → flow b e ≡ 0 → load b e < acyclic_flow b e + largest b e
    -- a terminal's route leads from where it is to its vertex in the text, over edges positive in the acyclic flow
    pub routes : (i : ℕ) → i < b.network.terminals → Trail b.network.tails b.network.heads (place b i) (downs (route b i)) (get_or b.network.homes i 0)
    pub on_routes : (i e : ℕ) → i < b.network.terminals → has e (route b i) ≡ true → 0 < acyclic_flow b e

  -- no demand is above m, and no amount of the journal above what so many terminals need together: it can be taken back
  pub record SmallAmounts (m : ℕ) : Type 0 where
    pub demands : (i : ℕ) → demand b i ≤ m
    pub amounts : (i : ℕ) → amount_of (get_or b.journal i blank).step ≤ length b.network.demands * m
