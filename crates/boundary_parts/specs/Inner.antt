-- For inner contracts only: the code's board and the memory.
use Rattle.std.specs.Prelude.{◌≡◌, List, ℕ}
use Rattle.sets.specs.Sets.{EdgeWord}
use Rattle.board.specs.Whole.{Table}
use Rattle.journal.specs.Words.{whole_of}
use Rattle.boundary_parts.specs.Memory.{memory, board_of}

-- with any words, the code's board is the one that the memory stands for
abbrev pub IsBoardOf : Table → List ℕ → List (List ℕ) → List (List ℕ) → EdgeWord → Type 0
IsBoardOf t numbers edges terminals marks = (words : List (List ℕ)) → whole_of t words ≡ board_of (memory numbers edges terminals marks words)
