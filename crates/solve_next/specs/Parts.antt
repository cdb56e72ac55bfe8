-- For inner contracts only: what the solver leans on, of lists that are lent, and the number of a move in a record.
use Rattle.std.specs.Prelude.{true, false, List, ℕ, eqb, take}
use Rattle.sets.specs.Sets.{set_of}
use Rattle.lists.specs.Choice.{pick}
use Rattle.board.specs.declared.Network.{Network}
use Rattle.move_guard.specs.Bounds.{InBounds}
use Rattle.move_edges.specs.Incidence.{Incident, PositiveSet}
use Rattle.move_carry.specs.Carries.{carry_refusal_in}
use Rattle.move_carry.specs.Frames.{net_of}
use Rattle.move_carry.specs.declared.Frame.{Frame}
use Rattle.move_cycle.specs.Steps.{code_steps}
use Rattle.move_turn.specs.Turns.{turn_refusal_in}
use Rattle.solve_carry.specs.Inner.{Resumes}
use Rattle.solve_next.specs.Advices.{Advice}
use Rattle.solve_next.specs.Choosing.{no_kind, carry_kind}

-- the lists are those of a board in play, the sets are those of the lists, and the search for an open carry goes on where it may
pub record Movable (frame : Frame) (tails heads demands leaving entering flows places : List ℕ) : Type 0 where
  pub bounds : InBounds (net_of frame tails heads demands) flows places
  pub leave : Incident tails leaving
  pub enter : Incident heads entering
  pub is_positive : PositiveSet flows (set_of frame.positive)
  pub resumes : Resumes (net_of frame tails heads demands) flows (set_of frame.marks) places frame.resume

-- the number that a move in a record is refused with on a board in play, where no carry is open for a turn; 0 for no move
unfoldable pub advice_number_in : Network → List ℕ → ℕ → List ℕ → Advice → ℕ
advice_number_in net flows marks places a =
    pick (eqb a.kind no_kind) 0
    (pick (eqb a.kind carry_kind)
    (carry_refusal_in true net flows marks places a.terminal a.edge)
    (turn_refusal_in true false net flows (code_steps (take a.count a.steps))))
