-- A game's memory, as C lends it to the engine, and the board that it stands for.
use Rattle.std.specs.Prelude.{List, [], ◌∷◌, ℕ, eqb, get_or}
use Rattle.lists.specs.Choice.{pick}
use Rattle.sets.specs.Sets.{EdgeWord, set_of}
use Rattle.board.specs.Record.{closed_stage}
use Rattle.board.specs.Whole.{Board}
use Rattle.board.specs.declared.Network.{Network}
use Rattle.journal.specs.Words.{journal_of, no_words, words_after}

-- what the memory of a loaded game begins with: a game that was stored before the memory's form changed begins with another number
abbrev pub version : ℕ
version = 1

-- the memory in its five parts: numbers; rows over the edges; rows over the terminals; the set of the marked edges; the journal's words
pub record Memory : Type 0 where
  pub numbers : List ℕ
  pub edges : List (List ℕ)
  pub terminals : List (List ℕ)
  pub marks : ℕ
  pub words : List (List ℕ)

-- the parts as they are lent
abbrev pub memory : List ℕ → List (List ℕ) → List (List ℕ) → EdgeWord → List (List ℕ) → Memory
memory numbers edges terminals marks words = record { numbers = numbers; edges = edges; terminals = terminals; marks = set_of marks; words = words }

-- the stage: that of the closed board where the memory does not begin with the version
unfoldable pub stage_read : ℕ → ℕ → ℕ
stage_read first stage = pick (eqb first version) stage closed_stage

-- the network: the counts and the source behind the stage; the first three rows over the edges, the first two over the terminals
abbrev pub network_in : List ℕ → List (List ℕ) → List (List ℕ) → Network
network_in numbers edges terminals = record {
  vertices = get_or numbers 2 0;
  edges = get_or numbers 3 0;
  terminals = get_or numbers 4 0;
  source = get_or numbers 5 0;
  tails = get_or edges 0 [];
  heads = get_or edges 1 [];
  flows = get_or edges 2 [];
  homes = get_or terminals 0 [];
  demands = get_or terminals 1 [];
}

-- the board that the memory stands for: of any bytes
abbrev pub board_of : Memory → Board
board_of m = record {
  stage = stage_read (get_or m.numbers 0 0) (get_or m.numbers 1 0);
  network = network_in m.numbers m.edges m.terminals;
  acyclic = get_or m.edges 3 [];
  flows = get_or m.edges 4 [];
  marks = m.marks;
  places = get_or m.terminals 2 [];
  journal = journal_of (get_or m.numbers 6 0) m.words;
  moves = get_or m.numbers 6 0;
  finish_from = get_or m.numbers 7 0;
}

-- the version for a board that was loaded; the closed board is all zeros
unfoldable pub version_of : ℕ → ℕ
version_of stage = pick (eqb stage closed_stage) 0 version

-- the parts of a board's memory
abbrev pub numbers_of : Board → List ℕ
numbers_of b =
    version_of b.stage
    ∷ b.stage
    ∷ b.network.vertices
    ∷ b.network.edges
    ∷ b.network.terminals
    ∷ b.network.source
    ∷ b.moves
    ∷ b.finish_from
    ∷ []

abbrev pub edge_rows : Board → List (List ℕ)
edge_rows b = b.network.tails ∷ b.network.heads ∷ b.network.flows ∷ b.acyclic ∷ b.flows ∷ []

abbrev pub terminal_rows : Board → List (List ℕ)
terminal_rows b = b.network.homes ∷ b.network.demands ∷ b.places ∷ []

-- the memory of a board with these words for its journal
abbrev pub memory_of : Board → List (List ℕ) → Memory
memory_of b words = record { numbers = numbers_of b; edges = edge_rows b; terminals = terminal_rows b; marks = b.marks; words = words }

-- the memory after a load, accepted or refused
abbrev pub memory_loaded : Board → Memory
memory_loaded b = memory_of b no_words

-- the memory after another call: where it is refused, the very memory; else that of the board that it gave, with the words that the call left
unfoldable pub memory_after : Memory → ℕ → Board → Memory
memory_after m answer b = pick (eqb answer 0) (memory_of b (words_after (board_of m).moves b m.words)) m
