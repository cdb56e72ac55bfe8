-- For inner contracts only: the board of a network before the first move, without its journal.
use Rattle.std.specs.Prelude.{List, ℕ}
use Rattle.sets.specs.Sets.{no_word}
use Rattle.board.specs.Record.{play_stage}
use Rattle.board.specs.declared.Network.{Network}
use Rattle.board.specs.Whole.{Table}

abbrev pub opened_table : Network → List ℕ → Table
opened_table net flows = record {
  stage = play_stage;
  network = net;
  acyclic = flows;
  flows = flows;
  marks = no_word;
  places = net.homes;
  moves = 0;
  finish_from = 0;
}
