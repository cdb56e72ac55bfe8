-- "Finish completes a board when it is accepted and brings every mill to the spring", with simple routes, below the bound and within the moves.
use Rattle.std.specs.Prelude.{◌≡◌, true, false, List, [], ◌∷◌, ℕ, zero, suc, ◌+◌, ◌<◌, ◌≤◌, length, get_or, take}
use Rattle.lists.specs.Members.{has, Distinct}
use Rattle.board.specs.Limits.{max_moves}
use Rattle.board.specs.Record.{blank}
use Rattle.board.specs.Whole.{Board}
use Rattle.move_guard.specs.Parts.{flow, acyclic_flow, place}
use Rattle.graph_flows.specs.Trails.{Trail, downs}
use Rattle.solve_next.specs.Choosing.{all_home, judge, acted, next_act}
use Rattle.solve_finish.specs.Finishes.{Finished}
use Rattle.solve_finish.specs.Finishes.{ended, finish_call}
use Rattle.report_routes.specs.Routes.{route, load, largest}
use Rattle.theorem_cycles.specs.Bound.{moves_bound}

-- the vertices that edges lead over, from v on
abbrev pub vertices_along : List ℕ → ℕ → List ℕ → List ℕ
vertices_along heads v [] = v ∷ []
vertices_along heads v (e ∷ es) = v ∷ vertices_along heads (get_or heads e 0) es

-- "it starts at the spring, each next channel starts where the one before ended, it ends at the mill's pool in the text, and no pool comes twice"
pub record Simple (b : Board) (i : ℕ) : Type 0 where
  pub trail : Trail b.network.tails b.network.heads b.network.source (downs (route b i)) (get_or b.network.homes i 0)
  pub once : Distinct (vertices_along b.network.heads b.network.source (route b i))

-- "A channel is in use when some route holds it"
pub record InUse (b : Board) (e : ℕ) : Type 0 where
  pub terminal : ℕ
  pub on_board_lem : terminal < b.network.terminals
  pub holds : has e (route b terminal) ≡ true

-- k moves by the solver's rule, each accepted, lead from b to c, where every terminal is at the source and before which some was away
abbrev pub SolvedBy : ℕ → Board → Board → Type 0
SolvedBy zero b c = (all_home b ≡ true) × (b ≡ c)
SolvedBy (suc k) b c = (all_home b ≡ false) × (judge b (next_act b) ≡ 0) × SolvedBy k (acted b (next_act b)) c

-- a board that is complete
pub record Completed (b : Board) : Type 0 where
  -- every terminal is at the source, by a simple route
  pub home : (i : ℕ) → i < b.network.terminals → place b i ≡ b.network.source
  pub simple : (i : ℕ) → i < b.network.terminals → Simple b i
  -- the load of an edge in use, less its largest demand, is strictly below its flow in the acyclic flow
  pub below : (e : ℕ) → InUse b e → load b e < acyclic_flow b e + largest b e
  -- so the procedure has stopped: no edge has a flow
  pub stopped : (e : ℕ) → flow b e ≡ 0
  -- its moves are in the journal, within the bound, which the journal has room for, and the places past them are blank
  pub few : b.moves ≤ moves_bound b.network
  pub room : moves_bound b.network ≤ max_moves
  pub places : length b.journal ≡ max_moves
  pub blanks : (i : ℕ) → b.moves ≤ i → get_or b.journal i blank ≡ blank

-- what finish gave on board b
pub record Complete (b : Board) (f : Finished) : Type 0 where
  pub accepted : f.answer ≡ 0
  pub network : f.board.network ≡ b.network
  pub acyclic : f.board.acyclic ≡ b.acyclic
  pub completed : Completed f.board
  -- "plays to the end and answers how many moves it made": so many accepted moves by the solver's rule, and then play is over
  pub last : Board
  pub solved : SolvedBy f.count b last
  pub over : f.board ≡ ended b.moves last
  -- the entries that stood are kept, and the moves of finish are behind them
  pub kept : take b.moves f.board.journal ≡ take b.moves b.journal
  pub moves : f.board.moves ≡ b.moves + f.count

-- board c is on the way of the finish of b, one move further: both are finished to one board, but for where the finish began, and from c it takes one move less
pub record OneFurther (b c : Board) : Type 0 where
  pub accepted : (finish_call b).answer ≡ 0
  pub accepted_further : (finish_call c).answer ≡ 0
  pub board : (finish_call b).board ≡ ended b.moves (finish_call c).board
  pub count : (finish_call b).count ≡ (finish_call c).count + 1
