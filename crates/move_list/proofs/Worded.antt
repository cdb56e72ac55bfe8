-- Words that are those of a board's journal, place by place, stay so: a call changes the entries between the two counts of moves alone, and these are packed anew.
use mathlib.Core.Path.{◌≡◌, refl, sym, ap, ◌∙◌}
use mathlib.Core.Bool.{false}
use mathlib.Core.List.{List, [], ◌∷◌}
use mathlib.Core.Logic.{◌≢◌, ◌⊎◌, inl, inr}
use Prim.Native.Nat.{ℕ, ◌+◌, ◌-◌, ◌<◌, ◌≤◌}
use native.Mathlib.Omega.{arith}
use lib.Dec.{leb, eqb}
use lib.ListN.{length, get_or, set, length-set}
use lib.Seq.{get_or-set_other}
use borrow.Author.Tests.{eqb-false}
use Rattle.lists.specs.Choice.{pick}
use Rattle.lists.proofs.Laws.{Known, was_true, was_false, known, eq_or_ne, pick_yes, pick_no, pick_passed, pick_avoided}
use Rattle.board.specs.Record.{blank}
use Rattle.board.specs.Whole.{Entry, Board, Played}
use Rattle.journal.specs.Words.{packed_on, packed_all, words_after}
use Rattle.journal.proofs.Places.{packed_on-all}
use Rattle.journal.proofs.After.{after_none, after_fewer}
use Rattle.move_guard.specs.Guard.{loaded}
use Rattle.move_guard.specs.Moved.{moved, answered}
use Rattle.move_guard.proofs.Answers.{answered_yes, answered_no}
use Rattle.move_carry.specs.Carries.{carry_refusal, carry_call, carried_in}
use Rattle.move_turn.specs.Turns.{turn_refusal, turn_call, turned_in}
use Rattle.move_undo.specs.Undone.{undone, is_finished, way_back, finish_undone, undo_refusal, undo_call}
use Rattle.move_undo.proofs.Taken.{taken_moves, taken_length, taken_same}
use Rattle.solve_finish.proofs.Lent.{finish_packed}
use Rattle.move_list.specs.Calls.{Call, carry, turn, undo, hint, finish, Game, game_of, made, played}
use Rattle.move_list.specs.Words.{words_played}

-- the words of a board's journal
abbrev pub Kept : Board → List (List ℕ) → Type 0
Kept b w = w ≡ packed_all b.journal

-- a store leaves the other places
apart : (es : List Entry) (i : ℕ) (e : Entry) (j : ℕ) → (j < i) ⊎ (i + 1 ≤ j) → get_or es j blank ≡ get_or (set es i e) j blank
apart es i e j (inl h) = sym (get_or-set_other es i j e blank (λ q. omega (arith, q)))
apart es i e j (inr h) = sym (get_or-set_other es i j e blank (λ q. omega (arith, q)))

module _ (b : Board) (w : List (List ℕ)) (kept : Kept b w) where
  -- one place is packed anew
  one : (next : Board) (at : ℕ) (e : Entry) → (next.moves - b.moves) + (b.moves - next.moves) ≡ 1 → b.moves - (b.moves - next.moves) ≡ at
      → next.journal ≡ set b.journal at e → Kept next (words_after b.moves next w)
  one next at e count from j =
      ap (λ (p : ℕ × ℕ). packed_on p.0 p.1 next.journal w) (λ i. (count i, from i))
      ∙ ap (packed_on 1 at next.journal) kept
      ∙ rw j (packed_on-all at 1 b.journal (set b.journal at e) (sym (length-set b.journal at e)) (apart b.journal at e))

  same : Kept b (words_after b.moves b w)
  same = after_none b.moves b w refl ∙ kept

  -- places between the two counts of moves, where fewer moves stand then
  fewer : (next : Board) → next.moves ≤ b.moves → length next.journal ≡ length b.journal
      → ((i : ℕ) → (i < next.moves) ⊎ (b.moves ≤ i) → get_or next.journal i blank ≡ get_or b.journal i blank) → Kept next (words_after b.moves next w)
  fewer next less long others =
      after_fewer b.moves next w less ∙ ap (packed_on (b.moves - next.moves) next.moves next.journal) kept
      ∙ packed_on-all next.moves (b.moves - next.moves) b.journal next.journal (sym long) (λ i h. sym (others i (out i h)))
    where
      out : (i : ℕ) → (i < next.moves) ⊎ (next.moves + (b.moves - next.moves) ≤ i) → (i < next.moves) ⊎ (b.moves ≤ i)
      out i (inl l) = inl l
      out i (inr l) = inr (omega (arith, l, less))

  -- a call by its number
  answered_kept : (n : ℕ) (next : Board) → (n ≡ 0 → Kept next (words_after b.moves next w))
      → Kept (answered n b next).board (words_after b.moves (answered n b next).board w)
  answered_kept n next made = go (eq_or_ne n 0)
    where
      go : (n ≡ 0) ⊎ (n ≢ 0) → Kept (answered n b next).board (words_after b.moves (answered n b next).board w)
      go (inl h) =
          let is : (answered n b next).board ≡ next = ap (λ (p : Played). p.board) (answered_yes n b next h) in
          rw is (made h)
      go (inr h) =
          let is : (answered n b next).board ≡ b = ap (λ (p : Played). p.board) (answered_no n b next h) in
          rw is same

  pub moved_kept : (n : ℕ) (flows : List ℕ) (marks : ℕ) (to : List ℕ) (e : Entry)
      → let p = answered n b (moved b flows marks to e) in Kept p.board (words_after b.moves p.board w)
  moved_kept n flows marks to e =
      let next : Board = moved b flows marks to e in
      answered_kept n next (λ h. one next b.moves e (omega arith) (omega arith) refl)

  -- an accepted undo takes a move back, or all those of a finish
  undone_kept : eqb b.moves 0 ≡ false → Kept (undone b) (words_after b.moves (undone b) w)
  undone_kept t =
      let some : b.moves ≢ 0 = eqb-false b.moves 0 t in
      one (undone b) (b.moves - 1) blank (omega arith) (omega arith) refl

  finish_undone_kept : (way_back b).answer ≡ 0 → Kept (finish_undone b) (words_after b.moves (finish_undone b) w)
  finish_undone_kept z =
      let k : ℕ = b.moves - b.finish_from in
      let moves : (finish_undone b).moves ≡ b.moves - k = taken_moves k b z in
      fewer (finish_undone b) (omega (arith, moves)) (taken_length k b) (λ i h. taken_same k b i (omega arith) (out moves i h))
    where
      out : {m : ℕ} → (finish_undone b).moves ≡ m → (i : ℕ) → (i < (finish_undone b).moves) ⊎ (b.moves ≤ i) → (i < m) ⊎ (b.moves ≤ i)
      out e i (inl l) = inl (omega (arith, l, e))
      out e i (inr l) = inr l

  undo_kept : undo_refusal b ≡ 0 → let next = pick (is_finished b) (finish_undone b) (undone b) in Kept next (words_after b.moves next w)
  unfolding undo_refusal
  undo_kept h = go (known (is_finished b)) (pick_passed (loaded b) _ 19 h).1
    where
      next : Board
      next = pick (is_finished b) (finish_undone b) (undone b)

      go : Known (is_finished b)
          → pick (is_finished b) (pick (leb b.finish_from b.moves) (way_back b).answer 20) (pick (eqb b.moves 0) 27 0) ≡ 0
          → Kept next (words_after b.moves next w)
      go (was_true t) q =
          let tests = pick_passed (leb b.finish_from b.moves) (way_back b).answer 19 (sym (pick_yes _ _ _ t) ∙ q) in
          let is : next ≡ finish_undone b = pick_yes _ _ _ t in
          rw is (finish_undone_kept tests.1)
      go (was_false t) q =
          let is : next ≡ undone b = pick_no _ _ _ t in
          rw is (undone_kept (pick_avoided (eqb b.moves 0) 0 26 (sym (pick_no _ _ _ t) ∙ q)).0)

  pub made_kept : (c : Call) → Kept (made (game_of b) c).game.board (words_after b.moves (made (game_of b) c).game.board w)
  unfolding carry_call carried_in turn_call turned_in undo_call
  made_kept (carry i e) = moved_kept (carry_refusal b i e) _ _ _ _
  made_kept (turn s) = moved_kept (turn_refusal b s) _ _ _ _
  made_kept undo = answered_kept (undo_refusal b) _ undo_kept
  made_kept hint = same
  made_kept finish = finish_packed b w kept

-- and so do they over a list of calls
pub played_kept : (g : Game) (cs : List Call) (w : List (List ℕ)) → Kept g.board w → Kept (played g cs).board (words_played g cs w)
unfolding played words_played
played_kept g [] w kept = kept
played_kept g (c ∷ cs) w kept = played_kept (made g c).game cs (words_after g.board.moves (made g c).game.board w) (made_kept g.board w kept c)
