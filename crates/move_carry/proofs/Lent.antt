-- What a carry with the journal lent gives: the board and the words with one more move, or a refusal, where both are as they were.
use mathlib.Core.Path.{◌≡◌, refl, sym, ap, ◌∙◌}
use mathlib.Core.Bool.{Bool, true}
use mathlib.Core.List.{List, []}
use Prim.Native.Nat.{ℕ, ◌+◌, ◌<◌, ◌≤◌}
use native.Mathlib.Omega.{arith}
use lib.ListN.{set}
use borrow.Author.Tests.{ltb-true}
use Rattle.lists.proofs.Laws.{pick_passed, both_left, both_right}
use Rattle.refusals.specs.declared.Refusal.{Refusal}
use Rattle.refusals.specs.Refusals.{number}
use Rattle.refusals.proofs.Laws.{refused}
use Rattle.board.specs.Limits.{max_edges, max_terminals, max_moves}
use Rattle.board.specs.Whole.{Board}
use Rattle.board.specs.Whole.{Played}
use Rattle.board.specs.declared.Network.{Network}
use Rattle.journal.specs.Words.{packed, entries_of, standing, journal_of, whole_of, words_after}
use Rattle.board.specs.Whole.{Table}
use Rattle.journal.proofs.Laws.{add_standing}
use Rattle.move_guard.specs.Moved.{Change}
use Rattle.move_guard.specs.Moved.{unchanged, changed}
use Rattle.move_guard.specs.Guard.{playing}
use Rattle.move_guard.proofs.Facts.{intact_terminals, playing-intact, playing_edges, playing_moves}
use Rattle.move_guard.proofs.Stores.{with_parts, change_stored, change_refused}
use Rattle.move_guard.proofs.Answers.{answered_yes, answered_no}
use Rattle.move_guard.proofs.Lent.{whole_long, words_stored, words_kept}
use Rattle.move_carry.specs.Opens.{enters_in}
use Rattle.move_carry.specs.Frames.{frame_of, net_of}
use Rattle.move_carry.specs.Carries.{on_board_in, on_board, carry_refusal, carry_refusal_in, carry_entry, carried_in, carry_call}

-- no test looks at the tails, the text's flows or the homes
pub carry_refusal_bare : (p : Bool) (net : Network) (flows : List ℕ) (marks positive : ℕ) (places : List ℕ) (i e : ℕ)
    → carry_refusal_in p (net_of (frame_of net marks positive 0) [] net.heads net.demands) flows marks places i e ≡ carry_refusal_in p net flows marks places i e
unfolding carry_refusal_in on_board_in enters_in
carry_refusal_bare p net flows marks positive places i e = refl

module _ (t : Table) (w : List (List ℕ)) (i e : ℕ) where
  abbrev b : Board
  b = whole_of t w

  -- an accepted carry is of a terminal and an edge of a board in play
  module _ (h : carry_refusal b i e ≡ 0) where
    plays : playing b ≡ true
    unfolding carry_refusal_in
    plays = (pick_passed (playing b) _ 19 h).0

    on_board_lem : on_board b i e ≡ true
    unfolding carry_refusal_in
    on_board_lem = (pick_passed (on_board b i e) _ 5 (pick_passed (playing b) _ 19 h).1).0

    pub room_edge : e < max_edges
    unfolding on_board_in
    room_edge = omega (arith, ltb-true e t.network.edges (both_right _ _ on_board_lem), playing_edges b plays)

    pub room_terminal : i < max_terminals
    unfolding on_board_in
    room_terminal = omega (arith, ltb-true i t.network.terminals (both_left _ _ on_board_lem), intact_terminals b (playing-intact b plays))

    pub room_move : t.moves ≤ max_moves
    room_move = playing_moves b plays

  -- one more move: the parts that the code stores
  module _ (change : Change) (words : List (List ℕ)) where
    pub lent_accepted : carry_refusal b i e ≡ 0 → change ≡ carried_in t.network t.flows t.marks t.places i e
        → words ≡ set w t.moves (packed (carry_entry i e)) → entries_of words ≡ set (entries_of w) t.moves (carry_entry i e)
        → (record { answer = 0; board = with_parts b change.flows t.marks change.places (journal_of (t.moves + 1) words) (t.moves + 1) } ≡ carry_call b i e)
        × (words ≡ words_after t.moves (carry_call b i e).board w)
    unfolding carry_call carried_in
    lent_accepted h ec hw he =
        let yes : Change = carried_in t.network t.flows t.marks t.places i e in
        let call : changed b yes ≡ carry_call b i e = answered_yes 0 b _ refl ∙ sym (answered_yes (carry_refusal b i e) b _ h) in
        let js : journal_of (t.moves + 1) words ≡ set b.journal t.moves (carry_entry i e) =
        ap (standing (t.moves + 1)) he ∙ sym (add_standing t.moves (t.moves + 1) (entries_of w) (carry_entry i e) (omega arith)) in (
          rw (ec, js) (change_stored b yes refl ∙ call),
          hw ∙ words_stored b yes w (whole_long t w) refl ∙ ap (λ (q : Played). words_after t.moves q.board w) call,
        )

  -- a refusal, where both are as they were
  pub lent_refused : (r : Refusal) → carry_refusal b i e ≡ number r
      → (record { answer = number r; board = b } ≡ carry_call b i e) × (w ≡ words_after t.moves (carry_call b i e).board w)
  unfolding carry_call
  lent_refused r is =
      let no : Change = unchanged (number r) t.flows t.marks t.places in
      let call : changed b no ≡ carry_call b i e = answered_no (number r) b _ (refused r) ∙ sym (rw is (answered_no (number r) b _ (refused r))) in
      (change_refused b no (refused r) ∙ call, words_kept b no w (refused r) ∙ ap (λ (q : Played). words_after t.moves q.board w) call)
