-- The walk on a board, by any two choices that find an edge where there is one, gives a cycle that may be turned. With no open carry and a terminal away from the
-- source there is an edge wherever the walk needs one.
use mathlib.Core.Path.{◌≡◌}
use mathlib.Core.Bool.{false}
use mathlib.Core.Logic.{◌⊎◌, inl, inr, ◌≢◌}
use Prim.Native.Nat.{ℕ, ◌<◌, ◌≤◌}
use native.Mathlib.Omega.{arith}
use Rattle.lists.proofs.Laws.{lt_or_ge}
use Rattle.board.specs.Whole.{Board}
use Rattle.move_guard.specs.Parts.{tail, head, place}
use Rattle.move_carry.specs.Opens.{some_open}
use Rattle.theorem_cycles.specs.Invariant.{Invariant}
use Rattle.theorem_cycles.specs.Allowed.{Turnable}
use Rattle.theorem_cycles.specs.Walked.{Choices, Rich}
use Rattle.theorem_cycles.specs.Cycles.{walked}
use Rattle.theorem_cycles.proofs.TurnedMarks.{positive_inside, unparted_single}
use Rattle.theorem_cycles.proofs.Degrees.{fed_vertex, second, starts}
use Rattle.theorem_cycles.proofs.Walks.{found}

module _ (b : Board) (inv : Invariant b) where
  -- a place past the edges holds 0, which is a vertex
  tail_low : (e : ℕ) → tail b e < b.network.vertices
  tail_low e = at (lt_or_ge e b.network.edges)
    where
      at : (e < b.network.edges) ⊎ (b.network.edges ≤ e) → tail b e < b.network.vertices
      at (inl h) = inv.sound.tail e h
      at (inr h) = omega (arith, (inv.sound.no_edge e h).0, inv.sound.source)

  head_low : (e : ℕ) → head b e < b.network.vertices
  head_low e = at (lt_or_ge e b.network.edges)
    where
      at : (e < b.network.edges) ⊎ (b.network.edges ≤ e) → head b e < b.network.vertices
      at (inl h) = inv.sound.head e h
      at (inr h) = omega (arith, (inv.sound.no_edge e h).1, inv.sound.source)

  module _ (falls rises : ℕ → ℕ → ℕ) (shut : some_open b ≡ false) (i : ℕ) (on : i < b.network.terminals) (away : place b i ≢ b.network.source)
      (choices : Choices b.network.tails b.network.heads b.flows falls rises) where
    rich : Rich b.network.tails b.network.heads b.flows falls rises b.network.vertices b.network.source
    rich = record {
      tail_below = tail_low;
      head_below = head_low;
      source_below = inv.sound.source;
      joins = λ e h. inv.sound.no_loop e (positive_inside b inv e h);
      choices = choices;
      start = (starts b inv i on away).edge;
      starts = (starts b inv i on away).leaves;
      fed = λ v e h off l. let d = fed_vertex b inv v e h off l in (d.edge, d.enters);
      second = λ v x h off none l. let d = second b inv shut v x h off none l in (d.edge, d.enters, d.differs);
    }

    pub walk_turnable : Turnable b (walked b.network.tails b.network.heads b.flows falls rises b.network.vertices b.network.source)
    walk_turnable =
        let f = found b.network.tails b.network.heads b.flows falls rises b.network.vertices b.network.source rich in
        record {
          cycle = f.closed;
          inside = λ s i. positive_inside b inv _ (f.above s i);
          none_open = shut;
          above = f.above;
          climbs = λ e i. unparted_single b inv e (f.climbs e i);
        }
