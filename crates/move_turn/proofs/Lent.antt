-- A turn on lists that are lent is the turn by the parts of a board, since no turn looks at the text's flows and homes; and what the call leaves of a table and
-- its words.
use mathlib.Core.Path.{◌≡◌, refl, sym, ap, ◌∙◌}
use mathlib.Core.Bool.{Bool, true, false}
use mathlib.Core.List.{List, []}
use mathlib.Core.Logic.{◌≢◌}
use Prim.Native.Nat.{ℕ, ◌+◌, ◌<◌, ◌^◌}
use native.Mathlib.Omega.{arith}
use lib.ListN.{length, set}
use Rattle.lists.proofs.Laws.{pick_no, pick_passed}
use Rattle.std.specs.Prelude.{Result}
use Rattle.refusals.specs.declared.Refusal.{Refusal}
use Rattle.refusals.specs.Refusals.{number}
use Rattle.refusals.proofs.Laws.{refused}
use Rattle.sets.specs.Sets.{joined, set_of}
use Rattle.sets.specs.Inner.{set_width}
use Rattle.board.specs.Whole.{Turn, Entry, Board, Played}
use Rattle.board.specs.declared.Network.{Network}
use Rattle.graph_flows.specs.Trails.{Step}
use Rattle.journal.specs.Words.{packed, words_after}
use Rattle.move_guard.specs.Guard.{playing}
use Rattle.move_guard.specs.Moved.{unchanged, changed}
use Rattle.move_guard.specs.Moved.{Change}
use Rattle.move_guard.proofs.Stores.{with_parts, numbered}
use Rattle.move_guard.proofs.Lent.{words_stored, words_kept}
use Rattle.move_edges.specs.Incidence.{Incident, PositiveSet}
use Rattle.move_edges.proofs.Following.{fresh_same}
use Rattle.move_carry.specs.Opens.{some_open, some_open_in}
use Rattle.move_cycle.specs.Steps.{code_steps, gather, every}
use Rattle.move_cycle.specs.Amounts.{amount_in}
use Rattle.move_cycle.specs.Shifts.{shifted}
use Rattle.move_cycle.specs.Inner.{InSets}
use Rattle.move_carry.specs.declared.Frame.{Frame}
use Rattle.move_carry.specs.Frames.{frame_of, net_of, bare_of}
use Rattle.move_turn.specs.Turns.{OnBoard}
use Rattle.move_turn.specs.Turns.{meets_in, turn_refusal_in, turned_in, turn_change, turn_call}
use Rattle.move_guard.specs.Bounds.{InBounds}
use Rattle.move_edges.specs.Marking.{singular_in}
use Rattle.move_turn.specs.declared.Augmented.{Augmented}
use Rattle.move_turn.specs.Lent.{made_of, augmented_by, Turnable}
use Rattle.move_turn.proofs.Passing.{in_sets}
use Rattle.move_turn.proofs.Changes.{change_accepted, change_refused, turn_made, turn_changes, turn_refused, turn_stored}

-- what a turn needs holds of the parts of a board in play
pub bounds_turnable : (net : Network) (flows places leaving : List ℕ) (marks positive resume : ℕ) → InBounds net flows places → Incident net.tails leaving → PositiveSet flows positive
    → Turnable (frame_of net marks positive resume) net.tails net.heads net.demands leaving flows
bounds_turnable net flows places leaving marks positive resume bounds leave is_positive = record {
  room = bounds.edges;
  chart = record { leave = leave; is_positive = is_positive; all = bounds.all; headed = bounds.headed };
  small = bounds.small;
  asked = bounds.asked;
}

module _ (frame : Frame) (tails heads demands leaving flows : List ℕ) (can : Turnable frame tails heads demands leaving flows) where
  -- no test of the steps looks at the demands
  turn_tests : (any_open : Bool) (w : List Step)
      → turn_refusal_in true any_open (net_of frame tails heads []) flows w ≡ turn_refusal_in true any_open (net_of frame tails heads demands) flows w
  unfolding turn_refusal_in
  turn_tests any_open w = refl

  pub turn_sets : (any_open : Bool) (s : List ℕ) → turn_refusal_in true any_open (net_of frame tails heads []) flows (code_steps s) ≡ 0 → InSets s
  unfolding turn_refusal_in
  turn_sets any_open s h =
      in_sets frame.edges flows (singular_in tails heads flows frame.vertices) can.room s
      (pick_passed (every (meets_in OnBoard frame.edges flows (singular_in tails heads flows frame.vertices)) (code_steps s)) _ 5 (pick_passed true _ 19 h).1).0

  -- an accepted turn by the sets
  augmented : frame.positive < 2 ^ set_width → (places : List ℕ) (w : List Step)
      → augmented_by frame heads demands leaving flows places w ≡ turned_in (net_of frame tails heads demands) flows frame.marks places w
  unfolding augmented_by turned_in
  augmented fits places w =
      ap (λ (new : ℕ). record {
        answer = 0;
        flows = shifted (amount_in heads flows places demands frame.terminals 0 w) (gather false 0 w) (gather true 0 w) flows;
        marks = joined frame.marks new;
        places = places;
        entry = record { step = Turn (record { amount = amount_in heads flows places demands frame.terminals 0 w; down = gather false 0 w; up = gather true 0 w; marked = new }) };
      })
      (fresh_same tails heads flows leaving frame.positive can.chart fits frame.vertices frame.marks)

  module _ (any_open : Bool) (places : List ℕ) (w : List Step) where
    abbrev judged : ℕ
    judged = turn_refusal_in true any_open (net_of frame tails heads []) flows w

    pub turn_not_made : (r : Refusal) → judged ≡ number r
        → unchanged (number r) flows frame.marks places ≡ turn_change true any_open (net_of frame tails heads demands) flows frame.marks places w
    turn_not_made r is =
        let same = sym is ∙ turn_tests any_open w in
        ap (λ (n : ℕ). unchanged n flows frame.marks places) same
        ∙ sym (change_refused true any_open (net_of frame tails heads demands) flows frame.marks places w (λ z. refused r (same ∙ z)))

    pub turn_is_made : (c : Change) → frame.positive < 2 ^ set_width → judged ≡ 0 → c ≡ augmented_by frame heads demands leaving flows places w
        → c ≡ turn_change true any_open (net_of frame tails heads demands) flows frame.marks places w
    turn_is_made c fits z e =
        e ∙ augmented fits places w
        ∙ sym (change_accepted true any_open (net_of frame tails heads demands) flows frame.marks places w (sym (turn_tests any_open w) ∙ z))

-- what a turn changes, by what its frame is
pub framed : (f g : Frame) → f ≡ g → (r : Result Augmented Refusal) (after places : List ℕ) (any_open : Bool) (tails heads demands flows : List ℕ) (w : List Step)
    → made_of f.marks r after places ≡ turn_change true any_open (net_of f tails heads demands) flows (set_of f.marks) places w
    → made_of g.marks r after places ≡ turn_change true any_open (net_of g tails heads demands) flows (set_of g.marks) places w
framed f g e r after places any_open tails heads demands flows w h = rw e at h

-- a network and its bare one
pub turn_of_bare : (net : Network) (play any_open : Bool) (flows : List ℕ) (marks : ℕ) (places : List ℕ) (w : List Step)
    → turn_change play any_open (bare_of net) flows marks places w ≡ turn_change play any_open net flows marks places w
unfolding turn_change turn_refusal_in turned_in
turn_of_bare net play any_open flows marks places w = refl

module _ (b : Board) (w : List Step) where
  -- on a board that is not in play a turn changes nothing
  pub closed_made : playing b ≡ false → unchanged 20 b.flows b.marks b.places ≡ turn_made b w
  unfolding turn_refusal_in
  closed_made h =
      let number : turn_refusal_in (playing b) (some_open b) b.network b.flows w ≡ 20 = pick_no _ _ _ h in
      sym (change_refused (playing b) (some_open b) b.network b.flows b.marks b.places w (λ z. omega (arith, z, number))
      ∙ ap (λ (n : ℕ). unchanged n b.flows b.marks b.places) number)

  pub open_made : (c : Change) (any_open : Bool) → playing b ≡ true → any_open ≡ some_open_in b.network b.flows b.marks b.places
      → c ≡ turn_change true any_open b.network b.flows b.marks b.places w → c ≡ turn_made b w
  open_made c any_open play o e = rw (play, ← o) e

  -- the call and its words by the change
  module _ (c : Change) (e : c ≡ turn_made b w) (words : List (List ℕ)) where
    by_change : (changed b c).board ≡ (turn_call b w).board
    by_change = ap (λ (p : Played). p.board) (ap (changed b) e ∙ sym (turn_changes b w))

    pub lent_refused : c.answer ≢ 0 → (numbered c b ≡ turn_call b w) × (words ≡ words_after b.moves (turn_call b w).board words)
    lent_refused n = (turn_refused b w c e n, rw by_change at (words_kept b c words n))

    pub lent_stored : (j : List Entry) (new : List (List ℕ)) → c.answer ≡ 0 → length b.journal ≡ length words
        → j ≡ set b.journal b.moves c.entry → new ≡ set words b.moves (packed c.entry)
        → (record { answer = 0; board = with_parts b c.flows c.marks b.places j (b.moves + 1) } ≡ turn_call b w)
        × (new ≡ words_after b.moves (turn_call b w).board words)
    lent_stored j new z long hj hn = (
      ap (λ (n : ℕ). record { answer = n; board = with_parts b c.flows c.marks b.places j (b.moves + 1) }) (sym z) ∙ turn_stored b w c e j z hj,
      rw by_change at (hn ∙ words_stored b c words long z),
    )
