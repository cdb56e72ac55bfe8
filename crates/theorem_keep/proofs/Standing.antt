-- Boards of play: in play, with no finish that stands, with the invariant, within the limits, and with moves and potential within the bound. A loaded board is one. An accepted move adds one move and lowers the
-- potential by one or more, so its potential was above 0 and the moves were below the bound, which the journal has room for; then the board after it is one
-- too, and undo is accepted there and gives the board of before.
use mathlib.Core.Path.{◌≡◌, refl, ap, ◌∙◌}
use mathlib.Core.Bool.{true, false}
use mathlib.Core.List.{List}
use Prim.Native.Nat.{ℕ, ◌+◌, ◌<◌, ◌≤◌}
use native.Mathlib.Omega.{arith}
use lib.Dec.{eqb}
use lib.ListN.{length, length-set}
use borrow.Author.Tests.{eq-eqb, ne_eqb}
use Rattle.lists.proofs.Laws.{pick_yes, pick_no, both_right, both_true}
use Rattle.board.specs.Limits.{max_moves, max_flow}
use Rattle.board.specs.Record.{play_stage, finished_stage}
use Rattle.board.specs.Whole.{Carry, Board}
use Rattle.text_rules.specs.Rules.{Within, Lawful}
use Rattle.text.specs.Results.{read_text}
use Rattle.load.specs.Load.{acyclic_of, opened, load_text}
use Rattle.load.proofs.Loads.{load_accepted, loaded-lawful}
use Rattle.graph_flows.specs.Trails.{Step}
use Rattle.move_guard.specs.Guard.{loaded, playing}
use Rattle.move_guard.proofs.Facts.{playing-staged}
use Rattle.move_guard.proofs.Answers.{answered_yes}
use Rattle.move_carry.specs.Carries.{carry_refusal, carried, carried_in}
use Rattle.move_turn.specs.Turns.{turn_refusal, turned, turned_in}
use Rattle.move_undo.specs.Undone.{undone, is_finished, finish_undone, undo_refusal, undo_call}
use Rattle.theorem_cycles.specs.Bound.{moves_bound}
use Rattle.theorem_cycles.specs.Invariant.{Invariant, SmallAmounts}
use Rattle.theorem_keep.proofs.Opened.{opened_places, opened_small, opened_invariant}
use Rattle.theorem_keep.proofs.Kept.{kept_lawful, kept_intact}
use Rattle.theorem_cycles.specs.Allowed.{Carriable, Turnable}
use Rattle.theorem_keep.proofs.Carriable.{carry_facts}
use Rattle.theorem_keep.proofs.Carried.{carried_small, carried_invariant}
use Rattle.theorem_keep.proofs.CarryBack.{carried_back}
use Rattle.theorem_keep.proofs.Turnable.{turn_facts}
use Rattle.theorem_cycles.proofs.Turned.{turned_small, turned_invariant}
use Rattle.theorem_cycles.proofs.TurnBack.{turned_back}
use Rattle.theorem_cycles.specs.Potential.{potential}
use Rattle.theorem_cycles.proofs.Potential.{potential_first}
use Rattle.theorem_keep.proofs.CarryFalls.{carried_falls}
use Rattle.theorem_cycles.proofs.Gains.{turned_falls}

pub record Standing (b : Board) : Type 0 where
  pub stage : b.stage ≡ play_stage
  pub unfinished : b.finish_from ≡ 0
  pub inv : Invariant b
  pub within : Within b.network
  pub journal_size : length b.journal ≡ max_moves
  pub small : SmallAmounts b max_flow
  pub room : b.moves + potential b ≤ moves_bound b.network

-- a loaded board
pub loaded-standing : (s : List ℕ) → (load_text s).answer ≡ 0 → Standing (load_text s).board
loaded-standing s h = rw (load_accepted s h) start_standing
  where
    start : Board
    start = opened (read_text s).network (acyclic_of (read_text s).network)

    law : Lawful (read_text s).network
    law = loaded-lawful s h

    start_inv : Invariant start
    start_inv = opened_invariant (read_text s).network law

    start_standing : Standing start
    start_standing = record {
      stage = refl;
      unfinished = refl;
      inv = start_inv;
      within = law.within;
      journal_size = opened_places (read_text s).network law;
      small = opened_small (read_text s).network law;
      room = omega (arith, potential_first start start_inv);
    }

module _ (b : Board) (st : Standing b) where
  pub never_full : b.moves ≤ moves_bound b.network
  never_full = omega (arith, st.room)

  pub standing-lawful : Lawful b.network
  standing-lawful = kept_lawful b st.inv st.within st.small

  pub standing-playing : playing b ≡ true
  standing-playing = playing-staged b ∙ both_true _ _ (eq-eqb _ _ st.stage)
      (kept_intact b st.inv st.within st.small (omega (arith, never_full, st.inv.room, st.journal_size)))

  pub standing-loaded : loaded b ≡ true
  unfolding playing
  standing-loaded = both_right _ _ standing-playing

  -- no finish stands
  pub standing_open : is_finished b ≡ false
  standing_open = ne_eqb b.stage finished_stage (λ q. omega (arith, q, st.stage))

-- undo after a move
undo_taken : (b : Board) → Standing b → 0 < b.moves → undo_refusal b ≡ 0
unfolding undo_refusal
undo_taken b st some =
    pick_yes (loaded b) _ 20 (standing-loaded b st)
    ∙ pick_no (is_finished b) _ _ (standing_open b st)
    ∙ pick_no (eqb b.moves 0) 27 0 (ne_eqb b.moves 0 (λ z. omega (arith, z, some)))

undo_accepted : (b next : Board) → Standing next → next.moves ≡ b.moves + 1 → undone next ≡ b → undo_call next ≡ record { answer = 0; board = b }
unfolding undo_call
undo_accepted b next st more back =
    answered_yes (undo_refusal next) next _ (undo_taken next st (omega (arith, more)))
    ∙ ap (λ (c : Board). record { answer = 0; board = c }) (pick_no (is_finished next) (finish_undone next) (undone next) (standing_open next st) ∙ back)

module _ (b : Board) (i e : ℕ) (st : Standing b) (h : carry_refusal b i e ≡ 0) where
  carries : Carriable b i e
  carries = (carry_facts b i e h).1

  pub carry_room : b.moves < length b.journal
  carry_room = omega (arith, st.room, st.inv.room, carried_falls b i e st.inv carries)

  pub carry_standing : Standing (carried b i e)
  unfolding carried_in
  carry_standing = record {
    stage = st.stage;
    unfinished = st.unfinished;
    inv = carried_invariant b i e st.inv carries carry_room;
    within = st.within;
    journal_size = length-set b.journal b.moves (record { step = Carry (record { terminal = i; edge = e }) }) ∙ st.journal_size;
    small = carried_small b i e st.inv carries carry_room max_flow st.small;
    room = omega (arith, st.room, carried_falls b i e st.inv carries);
  }

  pub carry_back : undone (carried b i e) ≡ b
  carry_back = carried_back b i e st.inv carries carry_room

  pub carry_undone : undo_call (carried b i e) ≡ record { answer = 0; board = b }
  unfolding carried_in
  carry_undone = undo_accepted b (carried b i e) carry_standing refl carry_back

module _ (b : Board) (w : List Step) (st : Standing b) (h : turn_refusal b w ≡ 0) where
  turns : Turnable b w
  turns = (turn_facts b w h).1

  turn_room : b.moves < length b.journal
  turn_room = omega (arith, st.room, st.inv.room, turned_falls b w st.inv turns)

  pub turn_standing : Standing (turned b w)
  unfolding turned_in
  turn_standing = record {
    stage = st.stage;
    unfinished = st.unfinished;
    inv = turned_invariant b w st.inv turns;
    within = st.within;
    journal_size = length-set b.journal b.moves _ ∙ st.journal_size;
    small = turned_small b w st.inv turns max_flow turn_room st.small;
    room = omega (arith, st.room, turned_falls b w st.inv turns);
  }

  pub turn_back : undone (turned b w) ≡ b
  turn_back = turned_back b w st.inv turns turn_room

  pub turn_undone : undo_call (turned b w) ≡ record { answer = 0; board = b }
  unfolding turned_in
  turn_undone = undo_accepted b (turned b w) turn_standing refl turn_back
