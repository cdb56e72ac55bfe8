-- The journal as words, and the board that a table and its words stand for.
use Rattle.std.specs.Prelude.{List, [], ◌∷◌, map, Result, Ok, Err, ℕ, zero, suc, ◌+◌, ◌-◌, ◌%◌, eqb, get_or, set, replicate}
use Rattle.lists.specs.Choice.{pick}
use Rattle.refusals.specs.declared.Refusal.{Refusal}
use Rattle.refusals.specs.Refusals.{number}
use Rattle.sets.specs.Sets.{set_of}
use Rattle.board.specs.Limits.{max_moves}
use Rattle.board.specs.Record.{blank}
use Rattle.board.specs.Whole.{Move, Carry, Turn, Entry, Board, Played, Table}

-- a move in words: 0, the terminal, the edge, 0, 0; or 1, the amount, and the sets of edges that fell, rose and were marked
abbrev pub move_words : Move → List ℕ
move_words (Carry r) = 0 ∷ r.terminal ∷ r.edge ∷ 0 ∷ 0 ∷ []
move_words (Turn a) = 1 ∷ a.amount ∷ a.down ∷ a.up ∷ a.marked ∷ []

abbrev pub packed : Entry → List ℕ
packed entry = move_words entry.step

-- a place that holds the blank: zeros
abbrev pub blank_words : List ℕ
blank_words = 0 ∷ 0 ∷ 0 ∷ 0 ∷ 0 ∷ []

-- the entry that the words of a place stand for
abbrev pub unpacked_carry : List ℕ → Entry
unpacked_carry w = record { step = Carry (record { terminal = get_or w 1 0 % 4294967296; edge = get_or w 2 0 % 4294967296 }) }

abbrev pub unpacked_turn : List ℕ → Entry
unpacked_turn w = record { step = Turn (record { amount = get_or w 1 0 % 4294967296; down = get_or w 2 0; up = get_or w 3 0; marked = get_or w 4 0 }) }

unfoldable pub unpacked : List ℕ → Entry
unpacked w = pick (eqb (get_or w 0 0) 0) (unpacked_carry w) (unpacked_turn w)

-- the entries that words stand for, and the one at a place, or the blank
abbrev pub entries_of : List (List ℕ) → List Entry
entries_of words = map unpacked words

abbrev pub entry_in : List (List ℕ) → ℕ → Entry
entry_in words i = get_or (entries_of words) i blank

-- the first so many entries, and blanks behind them: "places beyond the standing moves all hold the same fixed blank"
unfoldable pub standing : ℕ → List Entry → List Entry
standing m [] = []
standing zero (e ∷ es) = blank ∷ standing zero es
standing (suc m) (e ∷ es) = e ∷ standing m es

-- the journal of so many standing moves
abbrev pub journal_of : ℕ → List (List ℕ) → List Entry
journal_of moves words = standing moves (entries_of words)

-- the board that a table and its words stand for
abbrev pub whole_of : Table → List (List ℕ) → Board
whole_of t words = record {
  stage = t.stage;
  network = t.network;
  acyclic = t.acyclic;
  flows = t.flows;
  marks = set_of t.marks;
  places = t.places;
  journal = journal_of t.moves words;
  moves = t.moves;
  finish_from = t.finish_from;
}

-- what a call on a board gave, as a number and a board: the table after it, or a refusal, where the table is as it was
abbrev pub given_of : Table → Result Table Refusal → List (List ℕ) → Played
given_of old (Ok b) words = record { answer = 0; board = whole_of b words }
given_of old (Err r) words = record { answer = number r; board = whole_of old words }

-- the words of an empty journal
abbrev pub no_words : List (List ℕ)
no_words = replicate max_moves blank_words

-- the words where so many places from one on hold the entries of a journal
unfoldable pub packed_on : ℕ → ℕ → List Entry → List (List ℕ) → List (List ℕ)
packed_on zero at es words = words
packed_on (suc k) at es words = set (packed_on k at es words) (at + k) (packed (get_or es (at + k) blank))

-- the words after a call that found m moves standing and gave a board: the places between the two counts of moves hold that board's
-- entries, and every other place what it held
abbrev pub words_after : ℕ → Board → List (List ℕ) → List (List ℕ)
words_after m b words = packed_on ((b.moves - m) + (m - b.moves)) (m - (m - b.moves)) b.journal words

-- the words are those of a board's journal, place by place
abbrev pub packed_all : List Entry → List (List ℕ)
packed_all es = map packed es
