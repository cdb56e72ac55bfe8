-- The call `carry`: document 01, "Moves". A name that ends in In is said of the parts of a board, the name without it of the board.
use Rattle.std.specs.Prelude.{Bool, List, ℕ, ◌-◌, ltb, get_or, set}
use Rattle.lists.specs.Choice.{both, unless, when}
use Rattle.board.specs.Whole.{Carry, Entry, Board, Played}
use Rattle.board.specs.declared.Network.{Network}
use Rattle.move_guard.specs.Guard.{playing}
use Rattle.move_carry.specs.Opens.{is_home_in, enters_in, fits_in}
use Rattle.move_guard.specs.Moved.{Change}
use Rattle.move_guard.specs.Moved.{after_change, answered}

-- a mill and a channel that the board has
unfoldable pub on_board_in : Network → ℕ → ℕ → Bool
on_board_in net i e = both (ltb i net.terminals) (ltb e net.edges)

-- "Carry: 20, 6, 21, 22, 23"
unfoldable pub carry_refusal_in : Bool → Network → List ℕ → ℕ → List ℕ → ℕ → ℕ → ℕ
carry_refusal_in in_play net flows marks places i e =
    unless in_play 20
    (unless (on_board_in net i e) 6
    (when (is_home_in net.source places i) 21
    (unless (enters_in net places i e) 22
    (unless (fits_in net flows marks places i e) 23 0))))

-- the entry of a carry
abbrev pub carry_entry : ℕ → ℕ → Entry
carry_entry i e = record { step = Carry (record { terminal = i; edge = e }) }

-- "The flow falls by the need and the channel joins the mill's route": the terminal is at the tail now
unfoldable pub carried_in : Network → List ℕ → ℕ → List ℕ → ℕ → ℕ → Change
carried_in net flows marks places i e = record {
  answer = 0;
  flows = set flows e (get_or flows e 0 - get_or net.demands i 0);
  marks = marks;
  places = set places i (get_or net.tails e 0);
  entry = carry_entry i e;
}

-- on a board
module _ (b : Board) where
  abbrev pub on_board : ℕ → ℕ → Bool
  on_board = on_board_in b.network

  abbrev pub carry_refusal : ℕ → ℕ → ℕ
  carry_refusal = carry_refusal_in (playing b) b.network b.flows b.marks b.places

  abbrev pub carried : ℕ → ℕ → Board
  carried i e = after_change b (carried_in b.network b.flows b.marks b.places i e)

  -- the call
  unfoldable pub carry_call : ℕ → ℕ → Played
  carry_call i e = answered (carry_refusal i e) b (carried i e)
