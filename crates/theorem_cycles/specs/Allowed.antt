-- Which carries and turns document 01 allows, rule by rule, and what the amount of a turn attains.
use Rattle.std.specs.Prelude.{◌≡◌, true, false, ◌≢◌, List, ℕ, ◌+◌, ◌<◌, ◌≤◌}
use Rattle.board.specs.Whole.{Board}
use Rattle.graph_flows.specs.Trails.{Step, down, up, edge_of, In, Closed}
use Rattle.move_guard.specs.Parts.{flow, head, marked, demand, place}
use Rattle.move_carry.specs.Opens.{some_open}
use Rattle.move_cycle.specs.Amounts.{amount}
use Rattle.move_edges.specs.Marking.{singular}

-- "A mill at a pool moves over a channel entering that pool": the channel "is unmarked with flow at or above the need, or marked with flow equal to the need"
pub record Carriable (b : Board) (i e : ℕ) : Type 0 where
  pub terminal : i < b.network.terminals
  pub edge : e < b.network.edges
  pub away : place b i ≢ b.network.source
  pub enters : head b e ≡ place b i
  pub covers : demand b i ≤ flow b e
  pub exact : marked b e ≡ true → flow b e ≡ demand b i

-- "Allowed only when no carry is open. .. Each step starts where the last one ended, the last ends where the first began, no channel occurs twice. All channels are
-- wet and up-steps use single channels"
pub record Turnable (b : Board) (w : List Step) : Type 0 where
  pub cycle : Closed b.network.tails b.network.heads w
  pub inside : (s : Step) → In s w → edge_of s < b.network.edges
  pub none_open : some_open b ≡ false
  pub above : (s : Step) → In s w → 0 < flow b (edge_of s)
  pub climbs : (e : ℕ) → In (up e) w → singular b e ≡ true

-- "the smaller of the least flow on a down-step and the least (need minus flow) over up-step channels and mills at their heads whose need exceeds the flow": the
-- amount makes a down-step's edge zero, or an up-step's edge the demand of a terminal at its head
pub data Attained (b : Board) (w : List Step) : Type 0 where
  zeroed : (e : ℕ) → In (down e) w → amount b w ≡ flow b e → Attained b w
  met : (e i : ℕ) → In (up e) w → i < b.network.terminals → place b i ≡ head b e → flow b e + amount b w ≡ demand b i → Attained b w
