-- The call `undo`: document 01, "Moves"; document 02, E1. A name that ends in In is said of the parts of a board, the name without it of the board.
use Rattle.std.specs.Prelude.{◌≡◌, Bool, true, false, List, ℕ, Result, Ok, Err, zero, suc, ◌+◌, ◌-◌, leb, eqb, get_or, set}
use Rattle.refusals.specs.declared.Refusal.{Refusal}
use Rattle.refusals.specs.Refusals.{number}
use Rattle.lists.specs.Choice.{pick, unless, when}
use Rattle.sets.specs.Sets.{without}
use Rattle.board.specs.Record.{play_stage, finished_stage, blank}
use Rattle.board.specs.Whole.{Move, Carry, Turn, Board, Played, Table}
use Rattle.journal.specs.Words.{whole_of}
use Rattle.board.specs.declared.Network.{Network}
use Rattle.move_guard.specs.Guard.{intact, loaded}
use Rattle.move_guard.specs.Moved.{Change}
use Rattle.move_guard.specs.Moved.{last_entry, after_back, answered}
use Rattle.move_cycle.specs.Shifts.{shifted}

-- "takes back the last standing move: flows, marks, place and route"; what fell rises and what rose falls
abbrev pub undone_in : Network → List ℕ → ℕ → List ℕ → Move → Change
undone_in net flows marks places (Carry r) = record {
  answer = 0;
  flows = set flows r.edge (get_or flows r.edge 0 + get_or net.demands r.terminal 0);
  marks = marks;
  places = set places r.terminal (get_or net.heads r.edge 0);
  entry = blank;
}
undone_in net flows marks places (Turn a) = record {
  answer = 0;
  flows = shifted a.amount a.up a.down flows;
  marks = without marks a.marked;
  places = places;
  entry = blank;
}

-- on a board: a move taken back, and the last standing one
abbrev pub undone_move : Board → Move → Board
undone_move b m = after_back b (undone_in b.network b.flows b.marks b.places m)

abbrev pub undone : Board → Board
undone b = undone_move b (last_entry b).step

-- so many moves, one by one, each on an intact board; 20 where one is not
unfoldable pub taken_back : ℕ → Board → Played
taken_back zero b = record { answer = 0; board = b }
taken_back (suc k) b = elim (intact b) [ true ↦ taken_back k (undone b) | false ↦ record { answer = 20; board = b } ]

-- what the code gives of that: the board then, or the number alone
abbrev pub Taken : Result Table Refusal → List (List ℕ) → Played → Type 0
Taken (Ok b) words way = record { answer = 0; board = whole_of b words } ≡ way
Taken (Err r) words way = way.answer ≡ number r

-- play goes on, and no finish stands
abbrev pub reopened : Board → Board
reopened b = record {
  stage = play_stage;
  network = b.network;
  acyclic = b.acyclic;
  flows = b.flows;
  marks = b.marks;
  places = b.places;
  journal = b.journal;
  moves = b.moves;
  finish_from = 0;
}

module _ (b : Board) where
  -- a finish stands; the stage tells, since a finish may have made no move
  abbrev pub is_finished : Bool
  is_finished = eqb b.stage finished_stage

  -- "Undo after an accepted finish shall bring back the board just before it": all the moves of the finish are taken back
  abbrev pub way_back : Played
  way_back = taken_back (b.moves - b.finish_from) b

  abbrev pub finish_undone : Board
  finish_undone = reopened way_back.board

  -- "Undo: 20, 27"; 20 also where a finished board has no way back, for then no load gave it: see the theorem about every list of calls
  unfoldable pub undo_refusal : ℕ
  undo_refusal = unless (loaded b) 20 (pick is_finished (unless (leb b.finish_from b.moves) 20 way_back.answer) (when (eqb b.moves 0) 27 0))

  -- the call: a finish that stands is taken back whole, else the last move
  unfoldable pub undo_call : Played
  undo_call = answered undo_refusal b (pick is_finished finish_undone (undone b))
