-- The words of a lent journal after a load and any list of calls: packed of each entry of the board's journal, so that they are blank behind the standing moves.
use mathlib.Core.Path.{◌≡◌, ap, ◌∙◌}
use mathlib.Core.List.{List}
use Prim.Native.Nat.{ℕ, ◌≤◌}
use lib.ListN.{get_or}
use Rattle.board.specs.Record.{blank}
use Rattle.board.specs.Whole.{Board}
use Rattle.journal.specs.Words.{packed, blank_words, no_words}
use Rattle.journal.proofs.Places.{packed_at}
use Rattle.load.specs.Load.{load_text}
use Rattle.load.proofs.Lent.{loaded_words}
use Rattle.move_list.specs.Calls.{Call, game_of, played}
use Rattle.move_list.specs.Words.{words_played}
use Rattle.move_list.proofs.Worded.{Kept, played_kept}

pub calls_kept : (text : List ℕ) (cs : List Call) → Kept (played (game_of (load_text text).board) cs).board (words_played (game_of (load_text text).board) cs no_words)
calls_kept text cs = played_kept (game_of (load_text text).board) cs no_words (loaded_words text)

-- where the journal is blank the words are
pub blank_words_lem : (b : Board) (w : List (List ℕ)) → Kept b w → ((i : ℕ) → b.moves ≤ i → get_or b.journal i blank ≡ blank)
    → (i : ℕ) → b.moves ≤ i → get_or w i blank_words ≡ blank_words
blank_words_lem b w kept blanks i h = ap (λ (l : List (List ℕ)). get_or l i blank_words) kept ∙ packed_at b.journal i ∙ ap packed (blanks i h)
