-- For inner contracts only: a turn on lists that are lent, by the numbers beside them.
use Rattle.std.specs.Prelude.{true, false, List, ℕ, Result, Ok, Err, ◌≤◌}
use Rattle.refusals.specs.declared.Refusal.{Refusal}
use Rattle.refusals.specs.Refusals.{number}
use Rattle.sets.specs.Sets.{EdgeWord, none, joined, collect, set_of}
use Rattle.sets.specs.Inner.{set_width}
use Rattle.board.specs.Limits.{max_edges, max_total}
use Rattle.board.specs.Whole.{Turn, entry_of}
use Rattle.graph_flows.specs.Trails.{Step}
use Rattle.move_guard.specs.Moved.{Change, unchanged}
use Rattle.move_edges.specs.Inner.{ChartedOut}
use Rattle.move_edges.specs.Marking.{is_fresh_by}
use Rattle.move_cycle.specs.Steps.{gather}
use Rattle.move_cycle.specs.Amounts.{amount_in}
use Rattle.move_cycle.specs.Shifts.{shifted}
use Rattle.move_cycle.specs.Inner.{AtMost}
use Rattle.move_carry.specs.declared.Frame.{Frame}
use Rattle.move_turn.specs.declared.Augmented.{Augmented}

-- what an accepted turn gave, with the flows and places after it, as a change
abbrev pub change_of : Augmented → List ℕ → List ℕ → Change
change_of r flows places = record { answer = 0; flows = flows; marks = set_of r.marks; places = places; entry = entry_of r.entry }

-- what a turn gave, accepted or refused, by the marks before it
abbrev pub made_of : EdgeWord → Result Augmented Refusal → List ℕ → List ℕ → Change
made_of marks (Ok r) flows places = change_of r flows places
made_of marks (Err r) flows places = unchanged (number r) flows (set_of marks) places

-- an accepted turn, with the new marks by the sets of edges
abbrev pub fresh_of : Frame → List ℕ → List ℕ → ℕ
fresh_of frame heads leaving = collect (is_fresh_by heads leaving (set_of frame.positive) frame.vertices (set_of frame.marks)) none 0 set_width

unfoldable pub augmented_by : Frame → List ℕ → List ℕ → List ℕ → List ℕ → List ℕ → List Step → Change
augmented_by frame heads demands leaving flows places w =
    let amount = amount_in heads flows places demands frame.terminals 0 w in
    let fresh = fresh_of frame heads leaving in
    record {
      answer = 0;
      flows = shifted amount (gather false none w) (gather true none w) flows;
      marks = joined (set_of frame.marks) fresh;
      places = places;
      entry = record { step = Turn (record { amount = amount; down = gather false none w; up = gather true none w; marked = fresh }) };
    }

-- what a turn needs: the sets have room for the edges and are those of the lists, and no flow and no demand is large
pub record Turnable (frame : Frame) (tails heads demands leaving flows : List ℕ) : Type 0 where
  pub room : frame.edges ≤ max_edges
  pub chart : ChartedOut tails heads flows leaving (set_of frame.positive)
  pub small : AtMost max_total flows
  pub asked : AtMost max_total demands
