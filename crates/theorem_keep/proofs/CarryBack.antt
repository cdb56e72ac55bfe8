-- Undo after a carry gives back the very same record: the flow that fell by the demand rises by it, the terminal goes back to the head of the edge, where
-- it was, and the place in the journal is blank, as it was.
use mathlib.Core.Path.{◌≡◌, ap, sym, ◌∙◌}
use Prim.Native.Nat.{ℕ, ◌+◌, ◌-◌, ◌<◌}
use native.Mathlib.Omega.{arith}
use lib.ListN.{length, set}
use lib.Seq.{get_or-set_same, set-set, set-get_or}
use Rattle.board.specs.Record.{blank}
use Rattle.board.specs.Whole.{Carry, Entry, Board}
use Rattle.move_guard.specs.Parts.{flow, tail, head, demand}
use Rattle.move_guard.specs.Moved.{last_entry}
use Rattle.move_carry.specs.Carries.{carried, carried_in}
use Rattle.move_undo.specs.Undone.{undone_move, undone}
use Rattle.theorem_cycles.specs.Invariant.{Invariant}
use Rattle.theorem_cycles.specs.Allowed.{Carriable}
use Rattle.theorem_keep.proofs.Carried.{in_flows}

module _ (b : Board) (i e : ℕ) (inv : Invariant b) (c : Carriable b i e) (room : b.moves < length b.journal) where
  abbrev entry : Entry
  entry = record { step = Carry (record { terminal = i; edge = e }) }

  one_less : b.moves + 1 - 1 ≡ b.moves
  one_less = omega arith

  last : last_entry (carried b i e) ≡ entry
  unfolding carried_in
  last = rw one_less (get_or-set_same b.journal b.moves entry blank room)

  flows_back : set (carried b i e).flows e (flow (carried b i e) e + demand b i) ≡ b.flows
  unfolding carried_in
  flows_back =
      let same = get_or-set_same b.flows e (flow b e - demand b i) 0 (in_flows b i e inv c) in
      let sum : flow b e - demand b i + demand b i ≡ flow b e = omega (arith, c.covers) in
      rw (same, sum, set-set b.flows e (flow b e - demand b i) (flow b e)) (set-get_or b.flows e 0)

  places_back : set (carried b i e).places i (head b e) ≡ b.places
  unfolding carried_in
  places_back = set-set b.places i (tail b e) (head b e) ∙ rw c.enters (set-get_or b.places i 0)

  journal_back : set (carried b i e).journal (b.moves + 1 - 1) blank ≡ b.journal
  unfolding carried_in
  journal_back =
      rw one_less (set-set b.journal b.moves entry blank
      ∙ ap (λ (m : Entry). set b.journal b.moves m) (sym (inv.blanks b.moves (omega arith))) ∙ set-get_or b.journal b.moves blank)

  pub carried_back : undone (carried b i e) ≡ b
  unfolding carried_in
  carried_back = ap (λ (m : Entry). undone_move (carried b i e) m.step) last ∙ (λ j. record {
    stage = b.stage;
    network = b.network;
    acyclic = b.acyclic;
    flows = flows_back j;
    marks = b.marks;
    places = places_back j;
    journal = journal_back j;
    moves = one_less j;
    finish_from = b.finish_from;
  })
