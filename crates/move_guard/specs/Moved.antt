-- The journal of standing moves, and the board after one more of them and after one less.
use Rattle.std.specs.Prelude.{List, ℕ, ◌+◌, ◌-◌, eqb, get_or, set}
use Rattle.lists.specs.Choice.{pick}
use Rattle.board.specs.Record.{blank}
use Rattle.board.specs.Whole.{Entry, Board, Played}

-- what a call would change: its number, and where that is 0 the new flows, marks and places, and the entry of its move
pub record Change : Type 0 where
  pub answer : ℕ
  pub flows : List ℕ
  pub marks : ℕ
  pub places : List ℕ
  pub entry : Entry

-- the last standing move
abbrev pub last_entry : Board → Entry
last_entry b = get_or b.journal (b.moves - 1) blank

-- new flows, marks and places; the move joins the journal
abbrev pub moved : Board → List ℕ → ℕ → List ℕ → Entry → Board
moved b flows marks places entry = record {
  stage = b.stage;
  network = b.network;
  acyclic = b.acyclic;
  flows = flows;
  marks = marks;
  places = places;
  journal = set b.journal b.moves entry;
  moves = b.moves + 1;
  finish_from = b.finish_from;
}

-- the flows, marks and places of before; the last move's place in the journal is blank again
abbrev pub moved_back : Board → List ℕ → ℕ → List ℕ → Board
moved_back b flows marks places = record {
  stage = b.stage;
  network = b.network;
  acyclic = b.acyclic;
  flows = flows;
  marks = marks;
  places = places;
  journal = set b.journal (b.moves - 1) blank;
  moves = b.moves - 1;
  finish_from = b.finish_from;
}

-- a call that is refused where its number is not 0: "any other refusal gives the number alone"
unfoldable pub answered : ℕ → Board → Board → Played
answered number b next = pick (eqb number 0) (record { answer = 0; board = next }) (record { answer = number; board = b })

-- what a refused call would change: nothing
abbrev pub unchanged : ℕ → List ℕ → ℕ → List ℕ → Change
unchanged number flows marks places = record { answer = number; flows = flows; marks = marks; places = places; entry = blank }

-- the board after a change, by one more move or by one less
abbrev pub after_change : Board → Change → Board
after_change b c = moved b c.flows c.marks c.places c.entry

abbrev pub after_back : Board → Change → Board
after_back b c = moved_back b c.flows c.marks c.places

-- a call on a board by what it changes: one more move
abbrev pub changed : Board → Change → Played
changed b c = answered c.answer b (after_change b c)
