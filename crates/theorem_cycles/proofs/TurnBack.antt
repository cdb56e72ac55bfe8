-- A turn taken back gives the very same board: what fell rises again and what rose falls, each edge once; the marks that go are those that came, since a newly
-- marked edge was not marked; and the place of the journal was blank.
use mathlib.Core.Path.{◌≡◌, sym, ap, ◌∙◌}
use mathlib.Core.Bool.{true, false, true≢false}
use mathlib.Core.Logic.{inl, inr}
use mathlib.Core.List.{List, [], ◌∷◌}
use Prim.Native.Nat.{ℕ, ◌+◌, ◌-◌, ◌<◌}
use native.Mathlib.Omega.{arith}
use lib.ListN.{length, set}
use lib.Seq.{get_or-set_same, set-set, set-get_or}
use Rattle.lists.specs.Members.{Distinct}
use Rattle.lists.specs.Choice.{pick}
use Rattle.sets.specs.Sets.{has_bit}
use Rattle.sets.specs.Sets.{joined, without}
use Rattle.sets.proofs.Apart.{joined_back}
use Rattle.board.specs.Record.{blank}
use Rattle.board.specs.Whole.{Turn, Entry, Board}
use Rattle.graph_flows.specs.Trails.{Step, down, up, edge_of, edges_of, In}
use Rattle.graph_flows.proofs.Change.{in_edges}
use Rattle.move_guard.specs.Moved.{last_entry}
use Rattle.move_cycle.specs.Steps.{is_up, goes, gather}
use Rattle.move_cycle.proofs.Cycled.{gather_from}
use Rattle.move_edges.specs.Marking.{fresh}
use Rattle.move_cycle.specs.Amounts.{amount}
use Rattle.move_cycle.specs.Shifts.{shifted}
use Rattle.move_turn.specs.Turns.{turned, turned_in}
use Rattle.move_cycle.proofs.Shifting.{shifted_back}
use Rattle.move_undo.specs.Undone.{undone_move, undone}
use Rattle.theorem_cycles.specs.Invariant.{Invariant}
use Rattle.theorem_cycles.proofs.Amounted.{amount_down}
use Rattle.theorem_cycles.specs.Allowed.{Turnable}
use Rattle.theorem_cycles.proofs.TurnedMarks.{fresh_facts}

-- a cycle goes over an edge one way
one_way : (e : ℕ) (w : List Step) → Distinct (edges_of w) → In (down e) w → In (up e) w → ⊥
one_way e [] d i j = i
one_way e (s ∷ w) d (inl p) (inl q) = true≢false (ap is_up (q ∙ sym p))
one_way e (s ∷ w) d (inl p) (inr j) = true≢false (sym (in_edges (up e) w j) ∙ rw (ap edge_of p) d.0)
one_way e (s ∷ w) d (inr i) (inl q) = true≢false (sym (in_edges (down e) w i) ∙ rw (ap edge_of q) d.0)
one_way e (s ∷ w) d (inr i) (inr j) = one_way e w d.1 i j

gathered_down : (w : List Step) (e : ℕ) → has_bit (gather false 0 w) e ≡ true → In (down e) w
unfolding pick
gathered_down w e h = let g = gather_from false w e h in go g.step g.way g.edge g.among
  where
    go : (s : Step) → goes false s ≡ true → edge_of s ≡ e → In s w → In (down e) w
    go (down d) way q i = rw (← q) i
    go (up d) way q i = absurd (true≢false (sym way))

gathered_up : (w : List Step) (e : ℕ) → has_bit (gather true 0 w) e ≡ true → In (up e) w
unfolding pick
gathered_up w e h = let g = gather_from true w e h in go g.step g.way g.edge g.among
  where
    go : (s : Step) → goes true s ≡ true → edge_of s ≡ e → In s w → In (up e) w
    go (down d) way q i = absurd (true≢false (sym way))
    go (up d) way q i = rw (← q) i

module _ (b : Board) (w : List Step) (inv : Invariant b) (t : Turnable b w) (room : b.moves < length b.journal) where
  abbrev entry : Entry
  entry = record { step = Turn (record { amount = amount b w; down = gather false 0 w; up = gather true 0 w; marked = fresh b }) }

  flows_back : shifted (amount b w) (gather true 0 w) (gather false 0 w) (shifted (amount b w) (gather false 0 w) (gather true 0 w) b.flows) ≡ b.flows
  flows_back =
      shifted_back (amount b w) (gather false 0 w) (gather true 0 w) b.flows
      (λ e p q. one_way e w t.cycle.distinct (gathered_down w e p) (gathered_up w e q))
      (λ e p h. amount_down b w e t.above (gathered_down w e p))

  marks_back : without (joined b.marks (fresh b)) (fresh b) ≡ b.marks
  marks_back = joined_back b.marks (fresh b) (λ e p q. true≢false (sym p ∙ (fresh_facts b e q).unmarked))

  moves_back : b.moves + 1 - 1 ≡ b.moves
  moves_back = omega arith

  journal_back : set (set b.journal b.moves entry) (b.moves + 1 - 1) blank ≡ b.journal
  journal_back =
      rw (moves_back, set-set b.journal b.moves entry blank)
      (ap (set b.journal b.moves) (sym (inv.blanks b.moves (omega arith))) ∙ set-get_or b.journal b.moves blank)

  last_entry_lem : last_entry (turned b w) ≡ entry
  unfolding turned_in
  last_entry_lem = rw moves_back (get_or-set_same b.journal b.moves entry blank room)

  pub turned_back : undone (turned b w) ≡ b
  unfolding turned_in
  turned_back = ap (λ (m : Entry). undone_move (turned b w) m.step) last_entry_lem ∙ same
    where
      same : undone_move (turned b w) entry.step ≡ b
      same = λ j. record {
        stage = b.stage;
        network = b.network;
        acyclic = b.acyclic;
        flows = flows_back j;
        marks = marks_back j;
        places = b.places;
        journal = journal_back j;
        moves = moves_back j;
        finish_from = b.finish_from;
      }
