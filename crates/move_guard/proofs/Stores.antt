-- A call by the parts of its board: what the code stores is the board that the change names. A store past the end of the journal changes nothing.
use mathlib.Core.Path.{◌≡◌, refl, sym}
use mathlib.Core.List.{List}
use mathlib.Core.Logic.{◌≢◌}
use Prim.Native.Nat.{ℕ, ◌+◌}
use Rattle.board.specs.Whole.{Entry, Board, Played}
use Rattle.move_guard.specs.Moved.{Change}
use Rattle.move_guard.specs.Moved.{moved, changed}
use Rattle.move_guard.proofs.Answers.{answered_yes, answered_no}

-- a board with other flows, marks and places, another journal and another count of moves
abbrev pub with_parts : Board → List ℕ → ℕ → List ℕ → List Entry → ℕ → Board
with_parts b flows marks places journal moves = record {
  stage = b.stage;
  network = b.network;
  acyclic = b.acyclic;
  flows = flows;
  marks = marks;
  places = places;
  journal = journal;
  moves = moves;
  finish_from = b.finish_from;
}

-- what the code stores where the number is 0: the changed parts, a journal and a count of moves
abbrev pub stored : Board → Change → List Entry → ℕ → Board
stored b c journal moves = with_parts b c.flows c.marks c.places journal moves

-- a board with the number of the change
abbrev pub numbered : Change → Board → Played
numbered c next = record { answer = c.answer; board = next }

module _ (b : Board) (c : Change) where
  -- one more move
  pub change_stored : c.answer ≡ 0 → numbered c (stored b c (moved b c.flows c.marks c.places c.entry).journal (b.moves + 1)) ≡ changed b c
  change_stored h = rw h (sym (answered_yes 0 b _ refl))

  pub change_refused : c.answer ≢ 0 → numbered c b ≡ changed b c
  change_refused h = sym (answered_no c.answer b _ h)
