-- For inner contracts only: the facts about every lawful cycle, on boards of any size. No limit is in scope here or in what these statements name, and the gate
-- holds it (tools/limits).
use Rattle.std.specs.Prelude.{◌≡◌, true, false, ◌≢◌, List, [], ℕ, ◌<◌, ◌≤◌, length}
use Rattle.board.specs.Whole.{Board}
use Rattle.graph_flows.specs.Trails.{Step, down, up, In}
use Rattle.move_guard.specs.Parts.{flow, head, marked, demand, place}
use Rattle.move_carry.specs.Opens.{some_open}
use Rattle.move_cycle.specs.Amounts.{amount}
use Rattle.move_turn.specs.Turns.{turned}
use Rattle.move_undo.specs.Undone.{undone}
use Rattle.solve_walk.specs.Walk.{down_walk}
use Rattle.theorem_cycles.specs.Bound.{moves_bound}
use Rattle.theorem_cycles.specs.Invariant.{Invariant, SmallAmounts}
use Rattle.theorem_cycles.specs.Allowed.{Turnable, Attained}
use Rattle.theorem_cycles.specs.Potential.{potential}
use Rattle.theorem_cycles.specs.Walked.{FoundCycle, Choices, Rich}

-- an edge falls to 0, or a terminal gets exactly its demand
pub data Gain (b : Board) (w : List Step) : Type 0 where
  zeroes : (e : ℕ) → In (down e) w → flow (turned b w) e ≡ 0 → Gain b w
  meets : (e i : ℕ) → In (up e) w → i < b.network.terminals → place b i ≡ head b e → marked (turned b w) e ≡ true → flow (turned b w) e ≡ demand b i → Gain b w

-- the walk from the source, by these choices, with every vertex of n not yet met and no edge used
abbrev pub walked : List ℕ → List ℕ → List ℕ → (ℕ → ℕ → ℕ) → (ℕ → ℕ → ℕ) → ℕ → ℕ → List Step
walked tails heads flows falls rises n source = down_walk tails heads flows falls rises n [] (length flows) source

pub record AboutCycles : Type 0 where
  -- the amount of a turn is above 0, and it is the flow of a down-step or what a terminal lacks at an up-step
  pub turn_amount : (b : Board) (w : List Step) → Invariant b → Turnable b w → 0 < amount b w
  pub turn_attained : (b : Board) (w : List Step) → Invariant b → Turnable b w → Attained b w
  -- after the turn every vertex balances, and the support, the marks, the loads and the routes are as the invariant has them
  pub turned_invariant : (b : Board) (w : List Step) → Invariant b → Turnable b w → Invariant (turned b w)
  -- the amount stays within what the terminals need together
  pub turned_small : (b : Board) (w : List Step) → Invariant b → Turnable b w → (m : ℕ) → b.moves < length b.journal → SmallAmounts b m
      → SmallAmounts (turned b w) m
  -- an edge falls to 0, or a terminal gets exactly its demand; so the potential falls, which is within the bound of moves
  pub turn_gains : (b : Board) (w : List Step) → Invariant b → Turnable b w → Gain b w
  pub turned_falls : (b : Board) (w : List Step) → Invariant b → Turnable b w → potential (turned b w) < potential b
  pub potential_first : (b : Board) → Invariant b → potential b ≤ moves_bound b.network
  -- undo gives the very board of before, where the journal has a place for the turn
  pub turned_back : (b : Board) (w : List Step) → Invariant b → Turnable b w → b.moves < length b.journal → undone (turned b w) ≡ b
  -- by any two choices, the walk over edges that it can live on finds a cycle
  pub found : (tails heads flows : List ℕ) (falls rises : ℕ → ℕ → ℕ) (n source : ℕ) → Rich tails heads flows falls rises n source
      → FoundCycle tails heads flows (walked tails heads flows falls rises n source)
  -- and on a board with no open carry and a terminal away from the source it is one that may be turned
  pub walk_turnable : (b : Board) (falls rises : ℕ → ℕ → ℕ) → Invariant b → some_open b ≡ false
      → (i : ℕ) → i < b.network.terminals → place b i ≢ b.network.source
      → Choices b.network.tails b.network.heads b.flows falls rises
      → Turnable b (walked b.network.tails b.network.heads b.flows falls rises b.network.vertices b.network.source)
