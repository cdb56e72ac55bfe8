-- A game's memory through a list of calls.
use Rattle.std.specs.Prelude.{List, [], ◌∷◌, ℕ, replicate}
use Rattle.sets.specs.Sets.{none}
use Rattle.board.specs.Limits.{max_edges, max_terminals}
use Rattle.board.specs.Whole.{Board}
use Rattle.journal.specs.Words.{no_words, packed_all}
use Rattle.move_list.specs.Calls.{Call, carry, turn, undo, hint, finish, game_of, made}
use Rattle.boundary_parts.specs.Memory.{Memory, board_of, memory_of, memory_after}

-- a game of zeros
abbrev pub zero_memory : Memory
zero_memory = record {
  numbers = replicate 8 0;
  edges = replicate 5 (replicate max_edges 0);
  terminals = replicate 3 (replicate max_terminals 0);
  marks = none;
  words = no_words;
}

-- the memory of a board whose journal is in the words place by place, zeros behind the standing moves
abbrev pub game_memory : Board → Memory
game_memory b = memory_of b (packed_all b.journal)

-- what a call answers on a memory, and the memory after it; a hint only reads it
abbrev pub memory_answer : Memory → Call → ℕ
memory_answer m c = (made (game_of (board_of m)) c).answer

abbrev pub memory_made : Memory → Call → Memory
memory_made m (carry i e) = memory_after m (memory_answer m (carry i e)) (made (game_of (board_of m)) (carry i e)).game.board
memory_made m (turn w) = memory_after m (memory_answer m (turn w)) (made (game_of (board_of m)) (turn w)).game.board
memory_made m undo = memory_after m (memory_answer m undo) (made (game_of (board_of m)) undo).game.board
memory_made m hint = m
memory_made m finish = memory_after m (memory_answer m finish) (made (game_of (board_of m)) finish).game.board

-- each call gets the memory as the call before it left it
unfoldable pub memory_played : Memory → List Call → Memory
memory_played m [] = m
memory_played m (c ∷ cs) = memory_played (memory_made m c) cs

unfoldable pub memory_answers : Memory → List Call → List ℕ
memory_answers m [] = []
memory_answers m (c ∷ cs) = memory_answer m c ∷ memory_answers (memory_made m c) cs
