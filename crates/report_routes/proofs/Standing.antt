-- The routes over the words of a lent journal: the moves that stand are the same in the words and in the journal that they stand for.
use mathlib.Core.Path.{◌≡◌, ◌∙◌}
use mathlib.Core.List.{List}
use Prim.Native.Nat.{ℕ}
use lib.ListN.{length, take, length-map}
use Rattle.journal.specs.Words.{unpacked, entries_of, journal_of}
use Rattle.journal.proofs.Behind.{take-standing}
use Rattle.report_routes.specs.Inner.{rows_of, counts_of}

pub words_long : (words : List (List ℕ)) (n : ℕ) → length words ≡ n → length (entries_of words) ≡ n
words_long words n h = length-map words unpacked ∙ h

-- what a walk over all the standing places filled
pub filled_standing : (moves : ℕ) (words rows : List (List ℕ)) (counts : List ℕ)
    → (rows ≡ rows_of (take moves (entries_of words))) × (counts ≡ counts_of (take moves (entries_of words)))
    → (rows ≡ rows_of (take moves (journal_of moves words))) × (counts ≡ counts_of (take moves (journal_of moves words)))
filled_standing moves words rows counts h = rw (take-standing moves (entries_of words)) h
