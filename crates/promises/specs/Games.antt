-- Games as C keeps them (include/vulprow.h).
use Rattle.std.specs.Prelude.{◌≡◌, true, false, ◌↔◌, ◌≢◌, List, [], ℕ, ◌<◌, ◌≤◌, get_or, take, replicate}
use Rattle.board.specs.Limits.{max_edges, max_terminals}
use Rattle.board.specs.Record.{closed_board}
use Rattle.board.specs.Whole.{Board}
use Rattle.load.specs.Load.{load_text}
use Rattle.move_guard.specs.Guard.{loaded}
use Rattle.move_cycle.specs.Steps.{steps_of, code_steps}
use Rattle.solve_next.specs.Hints.{hint_call}
use Rattle.move_list.specs.Calls.{Call, game_of, played, answers}
use Rattle.boundary_parts.specs.Memory.{Memory, board_of, memory_loaded}
use Rattle.boundary_parts.specs.Shown.{
  advice_numbers,
  advice_bytes,
  no_row,
  look_refusal,
  view_numbers,
  view_edges,
  view_terminals,
  entry_refusal,
  entry_numbers,
  entry_rows,
}
use Rattle.boundary_parts.specs.Games.{zero_memory, game_memory, memory_answer, memory_made, memory_played, memory_answers}
use Rattle.promises.specs.Plays.{OfPlay}

-- the board after a load and a list of calls, and the memory of the game that made them
abbrev pub board_after : List ℕ → List Call → Board
board_after text cs = (played (game_of (load_text text).board) cs).board

abbrev pub game_after : List ℕ → List Call → Memory
game_after text cs = memory_played (memory_loaded (load_text text).board) cs

pub record AboutGames : Type 0 where
  -- "A game of zeros is the closed board"; "A refused text leaves the closed board, all zeros"
  pub zeroed : board_of zero_memory ≡ closed_board
  pub refused_load : (text : List ℕ) → (load_text text).answer ≢ 0 → memory_loaded (load_text text).board ≡ zero_memory
  -- demand 3 for a game: its memory is that of the board that the calls give, and so are the answers
  pub game_memory_lem : (text : List ℕ) (cs : List Call) → game_after text cs ≡ game_memory (board_after text cs)
  pub game_answers : (text : List ℕ) (cs : List Call)
      → memory_answers (memory_loaded (load_text text).board) cs ≡ answers (game_of (load_text text).board) cs
  -- "Games that calls have made are equal exactly where memcmp finds them equal"
  pub game_board : (text : List ℕ) (cs : List Call) → board_of (game_after text cs) ≡ board_after text cs
  pub game_equal : (text text' : List ℕ) (cs cs' : List Call)
      → (game_after text cs ≡ game_after text' cs') ↔ (board_after text cs ≡ board_after text' cs')
  -- "a call that cannot be made on it is refused as on the closed board, and a refused call writes nothing in the game": of any bytes
  pub not-loaded : (m : Memory) (c : Call) → loaded (board_of m) ≡ false → (memory_answer m c ≡ 20) × (memory_made m c ≡ m)
  -- "just as vulprow_carry and vulprow_turn take them": a hint's steps
  pub hint_steps : (text : List ℕ) (b : Board) → OfPlay text b → let a = (hint_call b).advice in
      steps_of (take a.count (advice_bytes a)) ≡ code_steps (take a.count a.steps)
  -- "After a refusal `*move` is all zeros", and so are `*view` and `*entry`
  pub refused_hint : (b : Board) → (hint_call b).answer ≢ 0
      → (advice_numbers (hint_call b).advice ≡ replicate 4 0) × (advice_bytes (hint_call b).advice ≡ replicate max_edges 0)
  pub refused_look : (b : Board) → look_refusal b ≢ 0
      → (view_numbers b ≡ replicate 6 0) × (view_edges b ≡ replicate 5 no_row) × (view_terminals b ≡ replicate 3 (replicate max_terminals 0))
  pub refused_entry : (b : Board) (i : ℕ) → entry_refusal b i ≢ 0 → (entry_numbers b i ≡ replicate 6 0) × (entry_rows b i ≡ replicate 3 no_row)
  -- "Places past the counts hold 0": row k of what a screen draws
  pub edges_past : (b : Board) (k e : ℕ) → loaded b ≡ true → b.network.edges ≤ e → e < max_edges → get_or (get_or (view_edges b) k []) e 0 ≡ 0
  pub terminals_past : (b : Board) (k j : ℕ) → loaded b ≡ true → b.network.terminals ≤ j → j < max_terminals
      → get_or (get_or (view_terminals b) k []) j 0 ≡ 0
