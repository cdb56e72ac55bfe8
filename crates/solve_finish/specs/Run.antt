-- For inner contracts only: the moves of a finish over the parts of a board in play, as the code makes them: the network, the flows, the marks and the places. They come to the same board as
-- the moves of the definition `played_out`, which tests the whole board at each move; here only the numbers are tested that a move can put past their limits.
use Rattle.std.specs.Prelude.{◌≡◌, Bool, true, false, Result, Ok, Err, List, ℕ, ◌+◌, ◌-◌, ◌≤◌, ◌<◌, leb, ltb, eqb, length, get_or, set}
use Rattle.lists.specs.Choice.{pick, both}
use Rattle.refusals.specs.declared.Refusal.{Refusal}
use Rattle.refusals.specs.Refusals.{number}
use Rattle.lists.specs.Lists.{all}
use Rattle.sets.specs.Sets.{none, set_of, has_bit, joined}
use Rattle.sets.specs.Inner.{dropped}
use Rattle.move_edges.specs.Incidence.{PositiveSet}
use Rattle.board.specs.Limits.{max_edges, max_terminals, max_moves, max_total}
use Rattle.board.specs.Whole.{Move, Carry, Turn, Entry, Board, entry_of, Table}
use Rattle.board.specs.declared.Network.{Network}
use Rattle.move_guard.specs.Guard.{playing}
use Rattle.move_guard.specs.Moved.{unchanged}
use Rattle.move_guard.specs.Moved.{Change}
use Rattle.move_carry.specs.Carries.{carried_in}
use Rattle.move_turn.specs.Turns.{turn_change}
use Rattle.solve_carry.specs.Inner.{Resumes}
use Rattle.solve_next.specs.Choosing.{Act, relocate, augment, all_home, all_home_in, next_act_in}
use Rattle.move_edges.specs.Incidence.{Incident}
use Rattle.move_carry.specs.declared.Frame.{Frame}
use Rattle.move_carry.specs.Frames.{net_of, bare_of}
use Rattle.journal.specs.Words.{packed, entries_of, whole_of, journal_of, packed_on}
use Rattle.journal.specs.Inner.{is_blank_at}
use Rattle.solve_finish.specs.Finishes.{played_out}
use Rattle.solve_finish.specs.declared.Ran.{Ran}
use Rattle.solve_finish.specs.declared.Progress.{Progress}
use Rattle.solve_finish.specs.declared.Seen.{Seen}

-- a move of the solver: what it changes, the positive edges after it, and whether the flows are small then
pub record Made : Type 0 where
  pub change : Change
  pub positive : ℕ
  pub small : Bool

-- no flow is above what the terminals need together at most
unfoldable pub all_small : List ℕ → Bool
all_small flows = all (λ e. leb (get_or flows e 0) max_total) 0 max_edges

-- the wet channels where channel e has the rest of its flow
unfoldable pub positive_after : ℕ → ℕ → ℕ → ℕ
positive_after positive rest e = pick (eqb rest 0) (dropped positive e) positive

-- what the solver's carry of terminal i over edge e, which is open, changes: nothing where the terminal is at the source
unfoldable pub carry_step : Network → List ℕ → ℕ → List ℕ → ℕ → ℕ → Change
carry_step net flows marks places i e =
    pick (eqb (get_or places i 0) net.source) (unchanged 21 flows marks places) (carried_in net flows marks places i e)

-- what a move of the solver changes: such a carry, or a turn where no carry is open
abbrev pub step_for : Network → List ℕ → ℕ → List ℕ → Act → Change
step_for net flows marks places (relocate i e) = carry_step net flows marks places i e
step_for net flows marks places (augment w) = turn_change true false net flows marks places w

-- what the solver's next move changes on a board in play of these parts; a number other than 0 where it makes none
unfoldable pub step_change : Network → List ℕ → ℕ → List ℕ → Change
step_change net flows marks places =
    pick (all_home_in net.terminals net.source places) (unchanged 28 flows marks places) (step_for net flows marks places (next_act_in net flows marks places))

-- the lists of a network have the lengths that the code gives them
pub record PartsSized (net : Network) : Type 0 where
  pub tails : length net.tails ≡ max_edges
  pub heads : length net.heads ≡ max_edges
  pub demands : length net.demands ≡ max_terminals

-- the parts of a board in play
pub record InPlay (net : Network) (flows : List ℕ) (marks : ℕ) (places : List ℕ) : Type 0 where
  pub board : Board
  pub play : playing board ≡ true
  pub its_network : board.network ≡ net
  pub its_flows : board.flows ≡ flows
  pub its_marks : board.marks ≡ marks
  pub its_places : board.places ≡ places
  pub long : length flows ≡ max_edges
  pub sized : PartsSized net

-- a move of the solver is this change, with the wet channels after it, and whether the flows are small then
pub record Makes (change : Change) (made : Made) : Type 0 where
  pub changes : made.change ≡ change
  pub is_positive : PositiveSet made.change.flows made.positive
  pub smalls : made.small ≡ all_small made.change.flows

-- the edges whose flows a move shifts: those of a turn
unfoldable pub shifted_edges : Move → ℕ
shifted_edges (Carry c) = none
shifted_edges (Turn t) = joined t.down t.up

-- the terminal at which the search for an open carry goes on after a move: that of a carry, the first after a turn
unfoldable pub resumption : Move → ℕ
resumption (Carry c) = c.terminal
resumption (Turn t) = 0

-- outside `rest` the set has the positive edges, and no flow is large
pub record RightBut (flows : List ℕ) (positive rest : ℕ) : Type 0 where
  pub positives : (e : ℕ) → e < max_edges → has_bit rest e ≡ false → has_bit positive e ≡ ltb 0 (get_or flows e 0)
  pub smalls : (e : ℕ) → e < max_edges → has_bit rest e ≡ false → leb (get_or flows e 0) max_total ≡ true

-- the positive edges of the flows, and whether these are small
pub record Sees (flows : List ℕ) (seen : Seen) : Type 0 where
  pub is_positive : PositiveSet flows (set_of seen.positive)
  pub smalls : seen.small ≡ all_small flows

-- the moves that are left of a run where the board is in play after one of them, else none
unfoldable pub left_after : ℕ → ℕ → Bool → ℕ
left_after left moves small = pick (both (leb moves max_moves) small) (left - 1) 0

-- a move on lists that are lent, with the flows and places after it; where it is not made, the marks and the positive edges are those before it
abbrev pub made_of : Frame → Result Progress Refusal → List ℕ → List ℕ → Made
made_of frame (Ok r) flows places = record {
  change = record { answer = 0; flows = flows; marks = set_of r.marks; places = places; entry = entry_of r.entry };
  positive = set_of r.positive;
  small = r.small;
}
made_of frame (Err r) flows places = record {
  change = unchanged (number r) flows (set_of frame.marks) places;
  positive = set_of frame.positive;
  small = true;
}

-- the lists are those of a board in play, the sets those of its network, and the search for an open carry goes on where it may
pub record Going (frame : Frame) (tails heads demands leaving entering flows places : List ℕ) : Type 0 where
  pub net : Network
  pub bare : bare_of net ≡ net_of frame tails heads demands
  pub in_play : InPlay net flows (set_of frame.marks) places
  pub leave : Incident net.tails leaving
  pub enter : Incident net.heads entering
  pub is_positive : PositiveSet flows (set_of frame.positive)
  pub resumes : Resumes net flows (set_of frame.marks) places frame.resume

-- the words hold the moves of a finish that began at `from`, up to so many; their places were blank
pub record Filled (from filled : ℕ) (old words : List (List ℕ)) : Type 0 where
  pub behind : from ≤ filled
  pub blanks : (i : ℕ) → from ≤ i → i < filled → is_blank_at old i ≡ true
  pub packs : words ≡ packed_on (filled - from) from (journal_of filled words) old

-- the entry of one more move was stored, at a blank place behind moves that the words hold all; or it was not, and the words stayed
pub data Stores (filled moves : ℕ) (entry : Entry) (old words : List (List ℕ)) (after : ℕ) : Type 0 where
  stored : filled ≡ moves → is_blank_at old filled ≡ true → words ≡ set old filled (packed entry) → entries_of words ≡ set (entries_of old) filled entry
      → after ≡ filled + 1 → Stores filled moves entry old words after
  passed : (filled ≡ moves → is_blank_at old filled ≡ false) → words ≡ old → after ≡ filled → Stores filled moves entry old words after

-- the board of a table that a run has come to
abbrev pub ran_to : Table → List (List ℕ) → List ℕ → ℕ → List ℕ → ℕ → Board
ran_to t words flows marks places moves = record {
  stage = t.stage;
  network = t.network;
  acyclic = t.acyclic;
  flows = flows;
  marks = marks;
  places = places;
  journal = journal_of moves words;
  moves = moves;
  finish_from = t.finish_from;
}

-- a run to the end of the board: its words hold all the moves, or those before a place that was not blank
pub record RanOut (t : Table) (old words : List (List ℕ)) (flows places : List ℕ) (r : Ran) : Type 0 where
  pub fills : Filled t.moves r.filled old words
  pub within : r.filled ≤ r.moves
  pub few : r.moves - t.moves ≤ max_moves
  pub short : length places ≡ max_terminals
  pub counts : r.moves ≡ (played_out (whole_of t old)).moves
  pub homes : all_home_in t.network.terminals t.network.source places ≡ all_home (played_out (whole_of t old))
  pub over : r.filled ≡ r.moves → ran_to t words flows (set_of r.marks) places r.moves ≡ played_out (whole_of t old)
  pub blocked : r.filled < r.moves → is_blank_at old r.filled ≡ false

-- a run to the end of the board whose words hold all the moves
pub record RanFull (t : Table) (old words : List (List ℕ)) (flows places : List ℕ) (r : Ran) : Type 0 where
  pub behind : t.moves ≤ r.moves
  pub packs : words ≡ packed_on (r.moves - t.moves) t.moves (journal_of r.moves words) old
  pub over : ran_to t words flows (set_of r.marks) places r.moves ≡ played_out (whole_of t old)
