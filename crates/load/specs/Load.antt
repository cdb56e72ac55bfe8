-- The call `load`.
use Rattle.std.specs.Prelude.{List, ℕ, eqb, replicate}
use Rattle.lists.specs.Choice.{pick}
use Rattle.sets.specs.Sets.{none}
use Rattle.board.specs.Limits.{max_moves}
use Rattle.board.specs.Record.{play_stage, blank, closed_board}
use Rattle.board.specs.declared.Network.{Network}
use Rattle.board.specs.Whole.{Board}
use Rattle.graph_cancel.specs.Cancelling.{acyclic_flows}
use Rattle.text.specs.Results.{read_text}

-- what a load gives: 0 and the board, ready to be played; or the number that the text is refused with, and the closed board
pub record Loaded : Type 0 where
  pub answer : ℕ
  pub board : Board

-- the flows of the text with its cycles cancelled
abbrev pub acyclic_of : Network → List ℕ
acyclic_of net = acyclic_flows net.tails net.heads net.vertices net.flows

-- "drained first flows, no marks, each mill at its pool in the text, empty routes"
abbrev pub opened : Network → List ℕ → Board
opened net flows = record {
  stage = play_stage;
  network = net;
  acyclic = flows;
  flows = flows;
  marks = none;
  places = net.homes;
  journal = replicate max_moves blank;
  moves = 0;
  finish_from = 0;
}

-- the reader's answer, with the board in play after a 0; "a refused load gives the closed board"
unfoldable pub load_text : List ℕ → Loaded
load_text s =
    pick (eqb (read_text s).answer 0)
    (record { answer = 0; board = opened (read_text s).network (acyclic_of (read_text s).network) })
    (record { answer = (read_text s).answer; board = closed_board })
