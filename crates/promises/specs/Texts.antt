-- Document 01, "Board text".
use Rattle.std.specs.Prelude.{◌≡◌, ◌↔◌, List, ◌++◌, ℕ, ◌<◌, ◌≤◌, length, drop}
use Rattle.text.specs.Sizes.{longest_text}
use Rattle.decimal.specs.Decimal.{number_of, decimal}
use Rattle.std.specs.Prelude.{Some}
use Rattle.board.specs.Whole.{Board}
use Rattle.board.specs.declared.Network.{Network}
use Rattle.text_rules.specs.Rules.{Lawful}
use Rattle.text.specs.Text.{text_of}
use Rattle.text.specs.Results.{write_text, written}
use Rattle.load.specs.Load.{acyclic_of, opened, load_text}
use Rattle.promises.specs.Plays.{OfPlay, OfFinish}

-- a board text: lines and fields as `text_of` prints them, numbers, balance and the other rules as `Lawful` has them
pub record IsBoardText (text : List ℕ) : Type 0 where
  pub network : Network
  pub lines : text ≡ text_of network
  pub lawful : Lawful network

-- the writer on board b: the text, with the bytes past it kept; "8 the buffer is too short for the text", and nothing is written
pub record WritesText (text : List ℕ) (b : Board) (buf : List ℕ) : Type 0 where
  pub answers : length text ≤ length buf → write_text b (length buf) ≡ record { answer = 0; used = length text }
  pub writes : length text ≤ length buf → written b buf ≡ text ++ drop (length text) buf
  pub refuses : length buf < length text → write_text b (length buf) ≡ record { answer = 8; used = 0 }
  pub keeps : length buf < length text → written b buf ≡ buf

pub record AboutTexts : Type 0 where
  -- "Numbers are decimal, one to seven digits, no sign, no leading zero ("0" itself is good)"
  pub numbers : (s : List ℕ) (n : ℕ) → (number_of s ≡ Some n) ↔ ((s ≡ decimal n) × (n < 10000000))
  -- demand 2: "A board is accepted if and only if it keeps document 01's rules and balances"
  pub load_iff : (text : List ℕ) → ((load_text text).answer ≡ 0) ↔ IsBoardText text
  -- "drained first flows, no marks, each mill at its pool in the text, empty routes"
  pub load_board : (net : Network) → Lawful net → load_text (text_of net) ≡ record { answer = 0; board = opened net (acyclic_of net) }
  -- "The board writer gives the loaded text at every stage of play": demand 2, "it is written back byte for byte"
  pub written_in_play : (text : List ℕ) (b : Board) (buf : List ℕ) → OfPlay text b → WritesText text b buf
  pub written_finished : (text : List ℕ) (f : Board) (buf : List ℕ) → OfFinish text f → WritesText text f buf
  -- the room that a text needs
  pub text_room : (text : List ℕ) → (load_text text).answer ≡ 0 → length text ≤ longest_text
