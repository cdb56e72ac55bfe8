-- What the call `turn` changes, by the parts of a board: the tests and the changes read nothing else of the board, so on its own parts they are the call's.
-- And what a board in play has that a turn needs: its guard has tested it.
use mathlib.Core.Path.{◌≡◌, sym, ap, ◌∙◌}
use mathlib.Core.Bool.{Bool}
use mathlib.Core.Logic.{◌⊎◌, inl, inr, ◌≢◌}
use mathlib.Core.List.{List}
use Prim.Native.Nat.{ℕ, ◌+◌}
use lib.ListN.{set}
use borrow.Author.Tests.{eq-eqb, ne_eqb}
use Rattle.lists.proofs.Laws.{eq_or_ne, pick_yes, pick_no}
use Rattle.board.specs.Whole.{Entry, Board}
use Rattle.board.specs.declared.Network.{Network}
use Rattle.graph_flows.specs.Trails.{Step}
use Rattle.move_guard.specs.Guard.{playing}
use Rattle.move_guard.specs.Moved.{Change}
use Rattle.move_guard.specs.Moved.{moved, answered, unchanged, changed}
use Rattle.move_guard.proofs.Answers.{answered_yes, answered_no}
use Rattle.move_guard.proofs.Stores.{with_parts, numbered}
use Rattle.move_guard.proofs.Stores as stores
use Rattle.move_carry.specs.Opens.{some_open}
use Rattle.move_turn.specs.Turns.{turn_refusal_in, turn_refusal, turned, turned_in, turn_change, turn_call}

-- by the number of the refusal
module _ (play any_open : Bool) (net : Network) (flows : List ℕ) (marks : ℕ) (places : List ℕ) (w : List Step) where
  pub change_accepted : turn_refusal_in play any_open net flows w ≡ 0 → turn_change play any_open net flows marks places w ≡ turned_in net flows marks places w
  unfolding turn_change
  change_accepted h = pick_yes _ _ _ (eq-eqb _ 0 h)

  pub change_refused : turn_refusal_in play any_open net flows w ≢ 0
      → turn_change play any_open net flows marks places w ≡ unchanged (turn_refusal_in play any_open net flows w) flows marks places
  unfolding turn_change
  change_refused h = pick_no _ _ _ (ne_eqb _ 0 h)

  -- the number, and the places, which no turn changes
  pub change_answer : (turn_change play any_open net flows marks places w).answer ≡ turn_refusal_in play any_open net flows w
  unfolding turned_in
  change_answer = go (eq_or_ne (turn_refusal_in play any_open net flows w) 0)
    where
      go : (turn_refusal_in play any_open net flows w ≡ 0) ⊎ (turn_refusal_in play any_open net flows w ≢ 0)
          → (turn_change play any_open net flows marks places w).answer ≡ turn_refusal_in play any_open net flows w
      go (inl z) = ap (λ (c : Change). c.answer) (change_accepted z) ∙ sym z
      go (inr n) = ap (λ (c : Change). c.answer) (change_refused n)

  pub change_places : (turn_change play any_open net flows marks places w).places ≡ places
  unfolding turned_in
  change_places = go (eq_or_ne (turn_refusal_in play any_open net flows w) 0)
    where
      go : (turn_refusal_in play any_open net flows w ≡ 0) ⊎ (turn_refusal_in play any_open net flows w ≢ 0) → (turn_change play any_open net flows marks places w).places ≡ places
      go (inl z) = ap (λ (c : Change). c.places) (change_accepted z)
      go (inr n) = ap (λ (c : Change). c.places) (change_refused n)

-- what the call changes on a board
abbrev pub turn_made : Board → List Step → Change
turn_made b w = turn_change (playing b) (some_open b) b.network b.flows b.marks b.places w

pub turn_changes : (b : Board) (w : List Step) → turn_call b w ≡ changed b (turn_made b w)
unfolding turn_call
turn_changes b w = go (eq_or_ne number 0)
  where
    number : ℕ
    number = turn_refusal_in (playing b) (some_open b) b.network b.flows w

    go : (number ≡ 0) ⊎ (number ≢ 0) → answered (turn_refusal b w) b (turned b w) ≡ changed b (turn_made b w)
    go (inl z) =
        answered_yes _ b (turned b w) z
        ∙ sym (ap (changed b) (change_accepted _ _ _ _ _ _ w z) ∙ answered_yes _ b _ (ap (λ (c : Change). c.answer) (sym (change_accepted _ _ _ _ _ _ w z)) ∙ change_answer _ _ _ _ _ _ w ∙ z))
    go (inr n) =
        answered_no number b (turned b w) n
        ∙ sym (ap (changed b) (change_refused _ _ _ _ _ _ w n) ∙ answered_no number b _ n)

-- the call's answer by the change
module _ (b : Board) (w : List Step) (c : Change) (e : c ≡ turn_made b w) where
  by_change : changed b c ≡ turn_call b w
  by_change = ap (changed b) e ∙ sym (turn_changes b w)

  pub turn_refused : c.answer ≢ 0 → numbered c b ≡ turn_call b w
  turn_refused h = stores.change_refused b c h ∙ by_change

  turn_change-made : c.answer ≡ 0 → numbered c (moved b c.flows c.marks b.places c.entry) ≡ turn_call b w
  turn_change-made h =
      let kept : c.places ≡ b.places = ap (λ (k : Change). k.places) e ∙ change_places _ _ _ _ _ _ _ in
      ap (λ (p : List ℕ). numbered c (moved b c.flows c.marks p c.entry)) (sym kept) ∙ stores.change_stored b c h ∙ by_change

  -- the board's parts as the code stores them, the journal whole
  pub turn_stored : (j : List Entry) → c.answer ≡ 0 → j ≡ set b.journal b.moves c.entry
      → numbered c (with_parts b c.flows c.marks b.places j (b.moves + 1)) ≡ turn_call b w
  turn_stored j h e = rw e (turn_change-made h)
