-- Moves. What a board of play keeps, the invariant, gives what a mark means, the amount of a turn and the board that an undo gives back; the rules of a carry and of
-- a turn hold on any board.
use mathlib.Core.Path.{◌≡◌, refl, ap}
use mathlib.Core.Bool.{true, false}
use mathlib.Core.Logic.{◌↔◌}
use mathlib.Core.List.{List}
use Prim.Native.Nat.{ℕ, ◌<◌}
use native.Mathlib.Omega.{arith}
use Rattle.lists.proofs.Laws.{Known, was_true, was_false, known}
use Rattle.sets.specs.Sets.{has_bit}
use Rattle.board.specs.Whole.{Board}
use Rattle.graph_flows.specs.Paths.{Unparted}
use Rattle.graph_flows.specs.Trails.{Step}
use Rattle.load.specs.Load.{load_text}
use Rattle.load.proofs.Loads.{load_accepted}
use Rattle.move_guard.specs.Parts.{flow, tail, head, marked}
use Rattle.move_edges.specs.Marking.{singular, fresh, singular_in}
use Rattle.move_carry.specs.Carries.{carried, carried_in}
use Rattle.move_cycle.specs.Amounts.{amount}
use Rattle.move_turn.specs.Turns.{turn_refusal}
use Rattle.solve_next.specs.Choosing.{all_home}
use Rattle.theorem_cycles.specs.Allowed.{Attained}
use Rattle.theorem_cycles.specs.Invariant.{Invariant}
use Rattle.theorem_cycles.proofs.Flowing.{joined}
use Rattle.theorem_cycles.proofs.Single.{straight_unparted}
use Rattle.theorem_keep.proofs.Carriable.{carry_facts, carry_accepted}
use Rattle.theorem_keep.proofs.Turnable.{turn_facts, turn_accepted}
use Rattle.theorem_cycles.proofs.TurnedMarks.{fresh_facts, fresh_of_lem, unparted_single}
use Rattle.theorem_cycles.proofs.MarkedEdges.{turn_marks, marked-singular}
use Rattle.theorem_cycles.proofs.Amounted.{amount_down, amount_up}
use Rattle.theorem_cycles.proofs.Gains.{turn_amount, turn_attained}
use Rattle.theorem_keep.proofs.Standing.{Standing, carry_undone, turn_undone}
use Rattle.theorem_cycles.proofs.Degrees.{starts}
use Rattle.theorem_list.proofs.NextCycle.{some_away}
use Rattle.theorem_list.proofs.Stops.{none_positive}
use Rattle.theorem_list.proofs.Next.{next_accepted}
use Rattle.theorem_list.proofs.FinishBack.{finish_undone_lem}
use Rattle.promises.specs.Moves.{AboutMoves}
use Rattle.promises.proofs.Plays.{play_standing}

singular_means : (b : Board) (e : ℕ) → Invariant b → e < b.network.edges
    → (singular b e ≡ true) ↔ Unparted b.network.tails b.network.heads b.flows (head b e)
unfolding singular_in
singular_means b e inv h = (
  λ s. straight_unparted b.network.tails b.network.heads b.flows b.network.vertices (head b e) (joined b inv) (inv.sound.head e h) s,
  λ u. unparted_single b inv e u,
)

unmarked : (text : List ℕ) → (load_text text).answer ≡ 0 → (load_text text).board.marks ≡ 0
unmarked text h = ap (λ (b : Board). b.marks) (load_accepted text h)

newly : (b : Board) (e : ℕ) → (has_bit (fresh b) e ≡ true) ↔ ((marked b e ≡ false) × (0 < flow b e) × (singular b e ≡ true))
newly b e =
    (λ h. let f = fresh_facts b e h in (f.unmarked, f.above, f.single), λ f. fresh_of_lem b e (record { unmarked = f.0; above = f.1; single = f.2 }))

carry_kept : (b : Board) (i e : ℕ) → (carried b i e).marks ≡ b.marks
unfolding carried_in
carry_kept b i e = refl

-- the amount of an accepted turn is one of those that document 01 names
one : (b : Board) (w : List Step) → Standing b → turn_refusal b w ≡ 0 → (0 < amount b w) × Attained b w
one b w st h = let t = (turn_facts b w h).1 in (turn_amount b w st.inv t, turn_attained b w st.inv t)

-- no positive edge leaves the source exactly where every terminal is there
stops : (b : Board) → Invariant b → (all_home b ≡ true) ↔ ((e : ℕ) → 0 < flow b e → tail b e ≡ b.network.source → ⊥)
stops b inv = (λ all e h q. omega (arith, h, none_positive b inv all e), λ none. by none (known (all_home b)))
  where
    by : ((e : ℕ) → 0 < flow b e → tail b e ≡ b.network.source → ⊥) → Known (all_home b) → all_home b ≡ true
    by none (was_true t) = t
    by none (was_false t) =
        let away = some_away b t in
        let s = starts b inv away.terminal away.on_board_lem away.elsewhere in
        absurd (none s.edge s.leaves.above s.leaves.start)

pub about_moves : AboutMoves
about_moves = record {
  singular_iff = λ text b e p. singular_means b e (play_standing text b p).inv;
  none-marked = unmarked;
  turn_marks = turn_marks;
  carry_marks = carry_kept;
  newly_marked = newly;
  marked-singular = λ text b e p m h. marked-singular b (play_standing text b p).inv e (record { mark = m; above = h });
  carry_iff = λ b i e. (carry_facts b i e, λ h. carry_accepted b i e h.0 h.1);
  turn_iff = λ b w. (turn_facts b w, λ h. turn_accepted b w h.0 h.1);
  amount_down = λ text b w e p h i. amount_down b w e (turn_facts b w h).1.above i;
  amount_up = λ text b w e i p h. amount_up b w e i (turn_facts b w h).1.above;
  amount_one = λ text b w p h. one b w (play_standing text b p) h;
  carry_undone = λ text b i e p h. carry_undone b i e (play_standing text b p) h;
  turn_undone = λ text b w p h. turn_undone b w (play_standing text b p) h;
  finish_undone_lem = λ text b p. finish_undone_lem b (play_standing text b p);
  stop_iff = λ text b p. stops b (play_standing text b p).inv;
  stop_zero = λ text b p all. none_positive b (play_standing text b p).inv all;
  next_accepted = λ text b p away. next_accepted b (play_standing text b p) away;
}
