-- The book, whole.
use Rattle.graph_flows.proofs.Walk.{on_cycle_first, first_on_cycle}
use Rattle.theorem_cycles.proofs.Network.{acyclic_of_below, acyclic_of_acyclic, acyclic_of_balance}
use Rattle.theorem_list.proofs.EveryList.{every_list}
use Rattle.theorem_list.proofs.Unfinished.{unfinished_list}
use Rattle.promises.specs.Cancelling.{AboutCancelling}
use Rattle.promises.specs.Book.{Book}
use Rattle.promises.proofs.Plays.{every_board}
use Rattle.promises.proofs.Texts.{about_texts}
use Rattle.promises.proofs.Moves.{about_moves}
use Rattle.promises.proofs.Hints.{about_hints}
use Rattle.promises.proofs.Sheets.{about_sheets}
use Rattle.promises.proofs.Games.{about_games}
use Rattle.promises.proofs.Refusals.{about_refusals}

about_cancelling : AboutCancelling
about_cancelling = record {
  on_cycle_lem = λ tails heads flows n v w h. (on_cycle_first tails heads flows n v, first_on_cycle tails heads flows n v w h);
  none_left = λ net law. acyclic_of_acyclic net law.sound;
  none_raised = λ net law. acyclic_of_below net law.sound;
  still_balanced = λ net law. acyclic_of_balance net law.sound law.balanced;
}

pub book : Book
book = record {
  texts = about_texts;
  cancelling = about_cancelling;
  moves = about_moves;
  hints = about_hints;
  every_list = every_list;
  unfinished_list = unfinished_list;
  every_board = every_board;
  sheets = about_sheets;
  games = about_games;
  refusals = about_refusals;
}
