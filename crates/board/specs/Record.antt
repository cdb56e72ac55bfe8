-- The fixed values of the record: the blank of the journal, the empty network and the closed board.
use Rattle.std.specs.Prelude.{Bool, ℕ, leb, replicate}
use Rattle.lists.specs.Choice.{both}
use Rattle.sets.specs.Sets.{none, no_word}
use Rattle.board.specs.Limits.{max_edges, max_terminals, max_moves}
use Rattle.board.specs.Whole.{Carry, Entry, Board, Table}
use Rattle.board.specs.declared.Network.{Network}

-- the stages of a board: no board was loaded, play goes on, a finish was accepted
abbrev pub closed_stage : ℕ
closed_stage = 0

abbrev pub play_stage : ℕ
play_stage = 1

abbrev pub finished_stage : ℕ
finished_stage = 2

-- the stage of a board that a load gave: in play or finished
abbrev pub staged : ℕ → Bool
staged stage = both (leb play_stage stage) (leb stage finished_stage)

-- what the places of the journal past the standing moves hold
abbrev pub blank : Entry
blank = record { step = Carry (record { terminal = 0; edge = 0 }) }

-- no pools, no channels, no mills
abbrev pub empty_network : Network
empty_network = record {
  vertices = 0;
  edges = 0;
  terminals = 0;
  source = 0;
  tails = replicate max_edges 0;
  heads = replicate max_edges 0;
  flows = replicate max_edges 0;
  homes = replicate max_terminals 0;
  demands = replicate max_terminals 0;
}

-- the closed board, which a refused load gives
unfoldable pub closed_board : Board
closed_board = record {
  stage = closed_stage;
  network = empty_network;
  acyclic = replicate max_edges 0;
  flows = replicate max_edges 0;
  marks = none;
  places = replicate max_terminals 0;
  journal = replicate max_moves blank;
  moves = 0;
  finish_from = 0;
}

-- the same without its journal, as the code has it
unfoldable pub closed_table : Table
closed_table = record {
  stage = closed_stage;
  network = empty_network;
  acyclic = replicate max_edges 0;
  flows = replicate max_edges 0;
  marks = no_word;
  places = replicate max_terminals 0;
  moves = 0;
  finish_from = 0;
}
