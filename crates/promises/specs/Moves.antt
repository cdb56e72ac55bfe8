-- Document 01, "Moves"; document 02, E1. What a carry, a turn and an undo store is `carried`, `turned` and `undone`; which move the solver makes is `next_act`.
use Rattle.std.specs.Prelude.{◌≡◌, true, false, ◌⊎◌, ◌↔◌, List, ℕ, ◌+◌, ◌<◌, ◌≤◌}
use Rattle.sets.specs.Sets.{has_bit}
use Rattle.board.specs.Whole.{Board}
use Rattle.graph_flows.specs.Paths.{Unparted}
use Rattle.graph_flows.specs.Trails.{Step, down, up, In}
use Rattle.load.specs.Load.{load_text}
use Rattle.move_guard.specs.Parts.{flow, tail, head, marked, demand, place}
use Rattle.move_guard.specs.Guard.{playing}
use Rattle.move_edges.specs.Marking.{singular, fresh}
use Rattle.move_carry.specs.Carries.{carry_refusal, carried}
use Rattle.move_cycle.specs.Amounts.{amount}
use Rattle.move_turn.specs.Turns.{turn_refusal, turned}
use Rattle.move_undo.specs.Undone.{undo_call}
use Rattle.solve_next.specs.Choosing.{all_home, judge, next_act}
use Rattle.solve_finish.specs.Finishes.{finish_call}
use Rattle.theorem_cycles.specs.Allowed.{Carriable, Turnable, Attained}
use Rattle.promises.specs.Plays.{OfPlay}

pub record AboutMoves : Type 0 where
  -- "A channel is single when its head, and every pool that can be reached from the head over wet channels, has at most one wet channel leaving"
  pub singular_iff : (text : List ℕ) (b : Board) (e : ℕ) → OfPlay text b → e < b.network.edges
      → (singular b e ≡ true) ↔ Unparted b.network.tails b.network.heads b.flows (head b e)
  -- "a loaded board has none"
  pub none-marked : (text : List ℕ) → (load_text text).answer ≡ 0 → (load_text text).board.marks ≡ 0
  -- "An accepted turn first marks every channel that is wet and single at that moment. Marks stay until undone"
  pub turn_marks : (b : Board) (w : List Step) (e : ℕ) → (marked (turned b w) e ≡ true) ↔ ((marked b e ≡ true) ⊎ ((0 < flow b e) × (singular b e ≡ true)))
  pub carry_marks : (b : Board) (i e : ℕ) → (carried b i e).marks ≡ b.marks
  -- those that it marks newly, which its entry keeps: positive and singular, and not marked before
  pub newly_marked : (b : Board) (e : ℕ) → (has_bit (fresh b) e ≡ true) ↔ ((marked b e ≡ false) × (0 < flow b e) × (singular b e ≡ true))
  -- so a positive marked edge is singular
  pub marked-singular : (text : List ℕ) (b : Board) (e : ℕ) → OfPlay text b → marked b e ≡ true → 0 < flow b e → singular b e ≡ true
  -- "It is open when the channel is unmarked with flow at or above the need, or marked with flow equal to the need"
  pub carry_iff : (b : Board) (i e : ℕ) → (carry_refusal b i e ≡ 0) ↔ ((playing b ≡ true) × Carriable b i e)
  -- "Allowed only when no carry is open. .. All channels are wet and up-steps use single channels"
  pub turn_iff : (b : Board) (w : List Step) → (turn_refusal b w ≡ 0) ↔ ((playing b ≡ true) × Turnable b w)
  -- "The amount is the smaller of the least flow on a down-step and the least (need minus flow) over up-step channels and mills at their heads whose need exceeds
  -- the flow": at most each of them, above 0, and one of them
  pub amount_down : (text : List ℕ) (b : Board) (w : List Step) (e : ℕ) → OfPlay text b → turn_refusal b w ≡ 0 → In (down e) w → amount b w ≤ flow b e
  pub amount_up : (text : List ℕ) (b : Board) (w : List Step) (e i : ℕ) → OfPlay text b → turn_refusal b w ≡ 0 → In (up e) w
      → i < b.network.terminals → place b i ≡ head b e → flow b e < demand b i → flow b e + amount b w ≤ demand b i
  pub amount_one : (text : List ℕ) (b : Board) (w : List Step) → OfPlay text b → turn_refusal b w ≡ 0 → (0 < amount b w) × Attained b w
  -- "Undo takes back the last standing move: flows, marks, place and route": the very board of before, its journal included
  pub carry_undone : (text : List ℕ) (b : Board) (i e : ℕ) → OfPlay text b → carry_refusal b i e ≡ 0 → undo_call (carried b i e) ≡ record { answer = 0; board = b }
  pub turn_undone : (text : List ℕ) (b : Board) (w : List Step) → OfPlay text b → turn_refusal b w ≡ 0 → undo_call (turned b w) ≡ record { answer = 0; board = b }
  -- "Undo after an accepted finish shall bring back the board just before it": the very board, so that "a finish taken back leaves no trace"
  pub finish_undone_lem : (text : List ℕ) (b : Board) → OfPlay text b → undo_call (finish_call b).board ≡ record { answer = 0; board = b }
  -- "While a carry is open: lowest mill that has one; .. Otherwise the ring found below is turned": the move is accepted while some terminal is away
  pub next_accepted : (text : List ℕ) (b : Board) → OfPlay text b → all_home b ≡ false → judge b (next_act b) ≡ 0
  -- source document 000 stops "when the source s is isolated": that is where every terminal is at the source, and then no edge has a flow
  pub stop_iff : (text : List ℕ) (b : Board) → OfPlay text b → (all_home b ≡ true) ↔ ((e : ℕ) → 0 < flow b e → tail b e ≡ b.network.source → ⊥)
  pub stop_zero : (text : List ℕ) (b : Board) → OfPlay text b → all_home b ≡ true → (e : ℕ) → flow b e ≡ 0
