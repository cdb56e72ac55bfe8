-- A game, and the calls `keep`, `back` and `restart`: document 02, E2.
use Rattle.std.specs.Prelude.{List, ℕ, ltb, eqb, get_or, set, replicate}
use Rattle.lists.specs.Choice.{pick, unless}
use Rattle.board.specs.Record.{closed_board}
use Rattle.board.specs.Whole.{Board}
use Rattle.load.specs.Load.{load_text}
use Rattle.move_guard.specs.Guard.{loaded}
use Rattle.checkpoints.specs.Letters.{letters, letter_of}

-- what calls are made on, and what a list of calls hands on from one to the next: a board, and a checkpoint for each letter, the closed board where nothing is kept
pub record Game : Type 0 where
  pub board : Board
  pub checkpoints : List Board

-- a game in which nothing is kept
abbrev pub game_of : Board → Game
game_of b = record { board = b; checkpoints = replicate letters closed_board }

-- what one call gives: its number, and the game after it
pub record Reply : Type 0 where
  pub answer : ℕ
  pub game : Game

-- a call that is refused where its number is not 0, and then changes nothing
unfoldable pub settled : ℕ → Game → Game → Reply
settled number g next = pick (eqb number 0) (record { answer = 0; game = next }) (record { answer = number; game = g })

-- what is kept under the letter of a number
abbrev pub checkpoint_at : Game → ℕ → Board
checkpoint_at g k = get_or g.checkpoints k closed_board

-- "30 for a letter outside A to D, before all else; 20 only where no board was loaded"
unfoldable pub keep_refusal : Board → ℕ → ℕ
keep_refusal b letter =
    unless (ltb (letter_of letter) letters) 30
    (unless (loaded b) 20 0)

-- "Letters A to D each keep one whole board of the present play, journal included. Keeping under a used letter replaces it"
abbrev pub with_checkpoint : Game → ℕ → Game
with_checkpoint g k = record { board = g.board; checkpoints = set g.checkpoints k g.board }

unfoldable pub keep_call : Game → ℕ → Reply
keep_call g letter = settled (keep_refusal g.board letter) g (with_checkpoint g (letter_of letter))

-- "31 for going back to an empty letter, after 20": b is the board, c what is kept under the letter. A checkpoint that no load gave is none
unfoldable pub back_refusal : Board → Board → ℕ → ℕ
back_refusal b c letter =
    unless (ltb (letter_of letter) letters) 30
    (unless (loaded b) 20
    (unless (loaded c) 31 0))

-- "Going back makes the board and its standing moves those kept; the other letters keep theirs", and so does this one
abbrev pub back_at : Game → ℕ → Game
back_at g k = record { board = checkpoint_at g k; checkpoints = g.checkpoints }

unfoldable pub back_call : Game → ℕ → Reply
back_call g letter = settled (back_refusal g.board (checkpoint_at g (letter_of letter)) letter) g (back_at g (letter_of letter))

-- "A load, accepted or refused, empties all letters"
abbrev pub restart_call : List ℕ → Reply
restart_call text = record { answer = (load_text text).answer; game = game_of (load_text text).board }
