-- Games with their journals lent: one for the board, and one for the checkpoint of each letter.
use Rattle.std.specs.Prelude.{◌≡◌, List, [], ◌∷◌, ℕ, Result, Ok, Err, ◌<◌, eqb, length, get_or, set}
use Rattle.refusals.specs.declared.Refusal.{Refusal}
use Rattle.refusals.specs.Refusals.{number}
use Rattle.lists.specs.Choice.{pick}
use Rattle.board.specs.Record.{closed_table}
use Rattle.board.specs.Whole.{Board, Table}
use Rattle.journal.specs.Words.{whole_of}
use Rattle.board.specs.Limits.{max_moves}
use Rattle.checkpoints.specs.Letters.{letters, letter_of}
use Rattle.checkpoints.specs.Games.{Game, Reply, checkpoint_at, keep_refusal, back_refusal}

-- the words that are lent to a game
pub record Lent : Type 0 where
  pub journal : List (List ℕ)
  pub checkpoints : List (List (List ℕ))

abbrev pub lent_of : List (List ℕ) → List (List (List ℕ)) → Lent
lent_of journal checkpoints = record { journal = journal; checkpoints = checkpoints }

-- a journal for each letter, with a place for each move
pub record FourJournals (journals : List (List (List ℕ))) : Type 0 where
  pub each : length journals ≡ letters
  pub long : (k : ℕ) → k < letters → length (get_or journals k []) ≡ max_moves

-- the boards that tables stand for, each with its words
unfoldable pub wholes_of : List Table → List (List (List ℕ)) → List Board
wholes_of [] ws = []
wholes_of (t ∷ ts) [] = []
wholes_of (t ∷ ts) (w ∷ ws) = whole_of t w ∷ wholes_of ts ws

-- the game that a table and those kept stand for
abbrev pub game_in : Table → List Table → Lent → Game
game_in t kept v = record { board = whole_of t v.journal; checkpoints = wholes_of kept v.checkpoints }

-- the words after `keep`: the journal is copied to the letter; and after `back`: it is copied from there
unfoldable pub lent_kept : Game → ℕ → Lent → Lent
lent_kept g letter v =
    pick (eqb (keep_refusal g.board letter) 0) (lent_of v.journal (set v.checkpoints (letter_of letter) v.journal)) v

unfoldable pub lent_back : Game → ℕ → Lent → Lent
lent_back g letter v =
    pick (eqb (back_refusal g.board (checkpoint_at g (letter_of letter)) letter) 0)
    (lent_of (get_or v.checkpoints (letter_of letter) []) v.checkpoints) v

-- what the code gives of `keep`: the tables that are kept then, or a refusal, where they are as they were
abbrev pub kept_of : Table → List Table → Result (List Table) Refusal → Lent → Reply
kept_of t kept (Ok next) v = record { answer = 0; game = game_in t next v }
kept_of t kept (Err r) v = record { answer = number r; game = game_in t kept v }

-- of `back`: the table then, or a refusal, where it is as it was
abbrev pub back_of : Table → List Table → Result Table Refusal → Lent → Reply
back_of t kept (Ok next) v = record { answer = 0; game = game_in next kept v }
back_of t kept (Err r) v = record { answer = number r; game = game_in t kept v }

-- and of `restart`: what the load gave, a refused one the closed table
abbrev pub begun_of : Result Table Refusal → List Table → Lent → Reply
begun_of (Ok t) kept v = record { answer = 0; game = game_in t kept v }
begun_of (Err r) kept v = record { answer = number r; game = game_in closed_table kept v }
