-- One round of a run: the move is made on the lists of the board, without the text's flows and homes, and is stored or ends the run.
use mathlib.Core.Path.{◌≡◌, sym, ap, ◌∙◌, subst}
use mathlib.Core.Bool.{Bool, true, false}
use mathlib.Core.Logic.{◌≢◌}
use mathlib.Core.List.{List}
use Prim.Native.Nat.{ℕ, ◌+◌, ◌-◌, ◌<◌, ◌≤◌}
use native.Mathlib.Omega.{arith}
use borrow.Author.Tests.{le-leb, lt-leb}
use lib.Dec.{leb}
use lib.ListN.{length}
use Rattle.lists.specs.Choice.{both}
use Rattle.lists.proofs.Laws.{pick_yes, pick_no}
use Rattle.board.specs.Limits.{max_terminals, max_moves}
use Rattle.board.specs.Whole.{Table}
use Rattle.move_guard.specs.Moved.{Change}
use Rattle.move_guard.proofs.Facts.{playing_moves}
use Rattle.move_carry.specs.Frames.{frame_of, net_of}
use Rattle.move_carry.specs.declared.Frame.{Frame}
use Rattle.solve_carry.specs.Inner.{Resumes}
use Rattle.solve_finish.specs.Run.{Made, InPlay, step_change, Makes, left_after, resumption, Stores}
use Rattle.solve_finish.proofs.Ready.{ready_bounds}
use Rattle.solve_finish.proofs.Resuming.{resumes_made}
use Rattle.solve_finish.proofs.InPlace.{step_of_bare, Keeps, step_keeps, step_long}
use Rattle.solve_finish.proofs.Running.{run_plays}
use Rattle.solve_finish.proofs.Storing.{RunStored, kept_refused, kept_made}

-- the moves that are left after so many rounds, by whether the run goes on behind one more
pub left_some : (k : ℕ) → k < max_moves → max_moves - k ≢ 0
left_some k h z = omega (arith, h, z)

-- the test of the code, by whether its first half holds
pub few_small : (moves : ℕ) (value small : Bool) → moves ≤ max_moves → value ≡ small → value ≡ both (leb moves max_moves) small
unfolding both
few_small moves value small few is = rw (le-leb moves max_moves few) is

pub many_small : (moves : ℕ) (value small : Bool) → max_moves < moves → value ≡ leb moves max_moves → value ≡ both (leb moves max_moves) small
unfolding both
many_small moves value small many is = rw (lt-leb moves max_moves many) (is ∙ lt-leb moves max_moves many)

pub left_goes : (k moves : ℕ) (small : Bool) → both (leb moves max_moves) small ≡ true → max_moves - (k + 1) ≡ left_after (max_moves - k) moves small
unfolding left_after
left_goes k moves small t =
    let less : max_moves - (k + 1) ≡ max_moves - k - 1 = omega arith in
    less ∙ sym (pick_yes _ _ _ t)

pub left_ends : (left moves : ℕ) (small : Bool) → both (leb moves max_moves) small ≡ false → 0 ≡ left_after left moves small
unfolding left_after
left_ends left moves small f = sym (pick_no _ _ _ f)

module _ (t : Table) (old words : List (List ℕ)) (flows : List ℕ) (marks : ℕ) (places : List ℕ) (moves filled left : ℕ)
    (k : RunStored t old words flows marks places moves filled left) (n : left ≢ 0) where
  pub round_plays : InPlay t.network flows marks places
  round_plays = run_plays _ _ _ _ _ _ _ _ k.run n

  pub round_few : moves ≤ max_moves
  round_few = playing_moves _ (k.run.play n)

  module _ (made : Made) (frame : Frame) (positive resume : ℕ) (is : frame ≡ frame_of t.network marks positive resume)
      (a : Makes (step_change (net_of frame t.network.tails t.network.heads t.network.demands) flows frame.marks places) made) where
    its : Makes (step_change t.network flows marks places) made
    its =
        subst (λ (c : Change). Makes c made) (step_of_bare t.network flows marks places)
        (subst (λ (f : Frame). Makes (step_change (net_of f t.network.tails t.network.heads t.network.demands) flows f.marks places) made) is a)

    -- a move that is refused keeps flows and places
    pub round_refused : made.change.answer ≢ 0 → RunStored t old words made.change.flows marks made.change.places moves filled 0
    round_refused s =
        let keeps = subst (Keeps flows marks places) (sym its.changes) (step_keeps t.network flows marks places) s in
        kept_refused _ _ _ _ _ _ _ _ _ k n made its _ _ s keeps.0 keeps.2

    pub round_made : (new : List (List ℕ)) (filled' left' : ℕ) → made.change.answer ≡ 0 → left' ≡ left_after left (moves + 1) made.small
        → Stores filled moves made.change.entry words new filled'
        → RunStored t old new made.change.flows made.change.marks made.change.places (moves + 1) filled' left'
    round_made new filled' left' z l s =
        let short : length made.change.places ≡ max_terminals =
        ap (λ (c : Change). length c.places) its.changes ∙ step_long t.network flows marks places ∙ k.run.short in
        kept_made _ _ _ _ _ _ _ _ _ k n made its z short new filled' left' l s

    pub round_resumes : (i : ℕ) → made.change.answer ≡ 0 → i ≡ resumption made.change.entry.step
        → Resumes t.network made.change.flows made.change.marks made.change.places i
    round_resumes i z q =
        resumes_made t.network flows marks places (ready_bounds _ _ _ _ round_plays) made.change i its.changes z q
