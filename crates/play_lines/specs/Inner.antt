-- For inner contracts only: the numbers of kinds, which kinds there are, and which orders the record that a line is read
-- into stands for.
use Rattle.std.specs.Prelude.{◌≡◌, List, ℕ, ◌+◌, ◌*◌, ◌<◌, ◌≤◌, length, take}
use Rattle.board.specs.Limits.{max_edges}
use Rattle.text.specs.Sizes.{number_bytes}
use Rattle.graph_flows.specs.Trails.{Step}
use Rattle.move_cycle.specs.Steps.{code_up, code_steps}
use Rattle.move_cycle.specs.Inner.{greatest_edge}
use Rattle.move_list.specs.Calls.{carry, turn, undo, hint, finish}
use Rattle.play_lines.specs.declared.Kind.{Kind}
use Rattle.play_lines.specs.declared.Kind.TheVariants.{Nothing, Other, Hint, Undo, Finish, Carry, CarryFrom, CarryWhole, Turn, TurnEdge, Unknown}
use Rattle.play_lines.specs.declared.Form.{Form}
use Rattle.play_lines.specs.Orders.{Order, call, other}

-- ---- how long the line of a turn is at most, whatever its numbers

-- a step: a comma, its edge with a comma behind it, and a letter; a turn of n steps: a letter, these, and a line feed
abbrev pub step_bytes : ℕ
step_bytes = number_bytes + 2

abbrev pub turn_bytes : ℕ → ℕ
turn_bytes n = 2 + step_bytes * n

-- ---- kinds as numbers

-- the number of a kind
abbrev pub kind_number : Kind → ℕ
kind_number Nothing = 0
kind_number Other = 1
kind_number Hint = 2
kind_number Undo = 3
kind_number Finish = 4
kind_number Carry = 5
kind_number CarryFrom = 6
kind_number CarryWhole = 7
kind_number Turn = 8
kind_number TurnEdge = 9
kind_number (Unknown n) = 10 + n

-- what the conversion from a number gives: every number has its kind
abbrev pub OfNumber : ℕ → Kind → Type 0
OfNumber n k = kind_number k ≡ n

-- a kind that there is, one of the ten
abbrev pub IsKind : Kind → Type 0
IsKind (Unknown n) = ⊥
IsKind _ = Unit {0}

-- ---- what a form stands for

-- the steps of a turn: all of them, where they are few and their edges small
pub record KeepsSteps (w : List Step) (f : Form) : Type 0 where
  pub kind : f.kind ≡ Turn
  pub greatest : f.greatest ≡ greatest_edge w
  pub few : length w ≤ max_edges → f.count ≡ length w
  pub many : max_edges < length w → max_edges < f.count
  pub steps : length w ≤ max_edges → greatest_edge w < code_up → code_steps (take f.count f.steps) ≡ w

-- a kind of none of the whole lines
abbrev pub NoLine : Kind → Type 0
NoLine Hint = ⊥
NoLine Undo = ⊥
NoLine Finish = ⊥
NoLine CarryWhole = ⊥
NoLine Turn = ⊥
NoLine _ = Unit {0}

abbrev pub StandsFor : Order → Form → Type 0
StandsFor (call (carry i e)) f = (f.kind ≡ CarryWhole) × (f.first ≡ i) × (f.second ≡ e)
StandsFor (call (turn w)) f = KeepsSteps w f
StandsFor (call undo) f = f.kind ≡ Undo
StandsFor (call hint) f = f.kind ≡ Hint
StandsFor (call finish) f = f.kind ≡ Finish
StandsFor other f = NoLine f.kind
