-- What an undo with the journal lent gives: by its number the board as it was and the same words; or a move or a finish taken back, with the places of their moves
-- blanked. Those places stand behind the moves that are left, so that blanking them changes no entry of the board, and it holds the blank there already.
use mathlib.Core.Path.{◌≡◌, refl, sym, ap, ap₂, ◌∙◌}
use mathlib.Core.Bool.{true, false}
use mathlib.Core.List.{List, []}
use mathlib.Core.Logic.{◌≢◌}
use Prim.Native.Nat.{ℕ, zero, suc, ◌+◌, ◌-◌, ◌<◌, ◌≤◌}
use native.Mathlib.Omega.{arith}
use native.Mathlib.Nat.{add-zero}
use lib.ListN.{get_or, set}
use borrow.Author.Tests.{eq-eqb, ne_eqb, le-leb, lt-leb}
use Rattle.lists.specs.Choice.{pick}
use Rattle.lists.proofs.Laws.{pick_yes, pick_no}
use Rattle.board.specs.Record.{finished_stage, blank}
use Rattle.board.specs.Whole.{Move, Entry, Board, Played, Table}
use Rattle.journal.specs.Words.{packed, entries_of, standing, journal_of, whole_of, packed_on, words_after}
use Rattle.journal.proofs.After.{after_none, after_fewer}
use Rattle.journal.proofs.Behind.{whole_behind}
use Rattle.move_guard.specs.Moved.{Change}
use Rattle.move_guard.specs.Moved.{last_entry}
use Rattle.move_guard.specs.Guard.{loaded}
use Rattle.move_guard.proofs.Answers.{answered_yes, answered_no}
use Rattle.move_guard.proofs.Stores.{with_parts}
use Rattle.move_guard.proofs.Lent.{words_blanked}
use Rattle.move_undo.specs.Undone.{undone_in, undone_move, undone, taken_back, reopened, is_finished, finish_undone, undo_refusal, undo_call}
use Rattle.move_undo.proofs.Taken.{less_standing, standing-behind, taken_moves}

-- what the code stores of a move that is taken back
module _ (t : Table) (w : List (List ℕ)) (m : Move) (em : (last_entry (whole_of t w)).step ≡ m) where
  abbrev back : Change
  back = undone_in t.network t.flows t.marks t.places m

  pub back_stored : (flows : List ℕ) (marks : ℕ) (places : List ℕ) (rest : ℕ) → flows ≡ back.flows → marks ≡ back.marks → places ≡ back.places → rest ≡ t.moves - 1
      → with_parts (whole_of t w) flows marks places (journal_of rest w) rest ≡ undone (whole_of t w)
  back_stored flows marks places rest hf hm hp er =
      let fewer : journal_of rest w ≡ set (journal_of t.moves w) (t.moves - 1) blank =
      ap (λ (n : ℕ). standing n (entries_of w)) er ∙ less_standing t.moves (entries_of w) in
      (λ i. with_parts (whole_of t w) (hf i) (hm i) (hp i) (fewer i) (er i)) ∙ ap (undone_move (whole_of t w)) (sym em)

-- the blank in places that hold it in the journal
packed-blank : (k at : ℕ) (es : List Entry) (w : List (List ℕ)) → ((i : ℕ) → at ≤ i → get_or es i blank ≡ blank) → packed_on k at [] w ≡ packed_on k at es w
unfolding packed_on
packed-blank zero at es w h = refl
packed-blank (suc k) at es w h =
    ap (λ (v : List (List ℕ)). set v (at + k) (packed blank)) (packed-blank k at es w h)
    ∙ ap (λ (e : Entry). set (packed_on k at es w) (at + k) (packed e)) (sym (h (at + k) (omega arith)))

-- one place that is blanked
one_blanked : (at : ℕ) (w : List (List ℕ)) (e : Entry) → e ≡ blank → set w at (packed e) ≡ packed_on 1 at [] w
unfolding packed_on
one_blanked at w e eb = rw (eb, add-zero at)

-- the words of a table with fewer moves, once the places behind them are blanked
words_fewer : (t : Table) (m : ℕ) (w : List (List ℕ)) → t.moves ≤ m → packed_on (m - t.moves) t.moves [] w ≡ words_after m (whole_of t w) w
words_fewer t m w h =
    packed-blank (m - t.moves) t.moves (journal_of t.moves w) w (λ i l. standing-behind t.moves (entries_of w) i l)
    ∙ sym (after_fewer m (whole_of t w) w h)

module _ (t : Table) (w : List (List ℕ)) where
  abbrev b : Board
  b = whole_of t w

  -- a number other than 0
  pub undo_refused : (n : ℕ) → n ≢ 0 → undo_refusal (whole_of t w) ≡ n
      → (record { answer = n; board = whole_of t w } ≡ undo_call (whole_of t w)) × (w ≡ words_after t.moves (undo_call (whole_of t w)).board w)
  unfolding undo_call
  undo_refused n some e =
      let call : record { answer = n; board = b } ≡ undo_call b =
      sym (answered_no (undo_refusal b) b _ (λ z. some (sym e ∙ z)) ∙ ap (λ (k : ℕ). record { answer = k; board = b }) e) in
      (call, sym (after_none t.moves b w refl) ∙ ap (λ (p : Played). words_after t.moves p.board w) call)

  accepted : (next : Board) → undo_refusal b ≡ 0 → next ≡ pick (is_finished b) (finish_undone b) (undone b) → record { answer = 0; board = next } ≡ undo_call b
  unfolding undo_call
  accepted next z e = ap (λ (x : Board). record { answer = 0; board = x }) e ∙ sym (answered_yes (undo_refusal b) b _ z)

  -- the board and the words of a table with fewer moves, once the places behind them are blanked
  blanked : (last : Table) (v : List (List ℕ)) → last.moves ≤ t.moves → v ≡ packed_on (t.moves - last.moves) last.moves [] w
      → (whole_of last v ≡ whole_of last w) × (v ≡ words_after t.moves (whole_of last w) w)
  blanked last v h e = (ap (whole_of last) e ∙ whole_behind last (t.moves - last.moves) [] w, e ∙ words_fewer last t.moves w h)

  -- where no load gave the board
  pub not-loaded : loaded (whole_of t w) ≡ false → undo_refusal (whole_of t w) ≡ 20
  unfolding undo_refusal
  not-loaded h = pick_no _ _ _ h

  module _ (h : loaded (whole_of t w) ≡ true) where
    -- finished
    module _ (over : t.stage ≡ finished_stage) where
      finished : is_finished b ≡ true
      finished = eq-eqb _ _ over

      pub not_behind : t.moves < t.finish_from → undo_refusal (whole_of t w) ≡ 20
      unfolding undo_refusal
      not_behind l = pick_yes _ _ _ h ∙ pick_yes _ _ _ finished ∙ pick_no _ _ _ (lt-leb t.finish_from t.moves l)

      module _ (order : t.finish_from ≤ t.moves) where
        pub way_number : (n : ℕ) → (taken_back (t.moves - t.finish_from) (whole_of t w)).answer ≡ n → undo_refusal (whole_of t w) ≡ n
        unfolding undo_refusal
        way_number n is =
            pick_yes _ _ _ h ∙ pick_yes _ _ _ finished ∙ pick_yes _ _ _ (le-leb t.finish_from t.moves order) ∙ is

        pub finish_undone_lem : (last : Table) → record { answer = 0; board = whole_of last w } ≡ taken_back (t.moves - t.finish_from) (whole_of t w)
            → (v : List (List ℕ)) → v ≡ packed_on (t.moves - t.finish_from) t.finish_from [] w
            → (record { answer = 0; board = reopened (whole_of last v) } ≡ undo_call (whole_of t w))
            × (v ≡ words_after t.moves (undo_call (whole_of t w)).board w)
        finish_undone_lem last way v ev =
            let zero : (taken_back (t.moves - t.finish_from) b).answer ≡ 0 = sym (ap (λ (p : Played). p.answer) way) in
            let same = ap (λ (p : Played). p.board.moves) way ∙ taken_moves (t.moves - t.finish_from) b zero in
            let from : last.moves ≡ t.finish_from = omega (arith, same, order) in
            let parts = blanked last v (omega (arith, from, order)) (ev ∙ ap (λ (n : ℕ). packed_on (t.moves - n) n [] w) (sym from)) in
            let call =
            accepted (reopened (whole_of last w)) (way_number 0 zero) (ap (λ (p : Played). reopened p.board) way ∙ sym (pick_yes _ _ _ finished)) in (
              ap (λ (x : Board). record { answer = 0; board = reopened x }) parts.0 ∙ call,
              parts.1 ∙ ap (λ (p : Played). words_after t.moves p.board w) call,
            )

    -- in play
    module _ (going : t.stage ≢ finished_stage) where
      unfinished : is_finished b ≡ false
      unfinished = ne_eqb _ _ going

      pub no_move : t.moves ≡ 0 → undo_refusal (whole_of t w) ≡ 27
      unfolding undo_refusal
      no_move z = pick_yes _ _ _ h ∙ pick_no _ _ _ unfinished ∙ pick_yes _ _ _ (eq-eqb t.moves 0 z)

      some_move : t.moves ≢ 0 → undo_refusal b ≡ 0
      unfolding undo_refusal
      some_move n = pick_yes _ _ _ h ∙ pick_no _ _ _ unfinished ∙ pick_no _ _ _ (ne_eqb t.moves 0 n)

      pub move_undone : (last : Table) (v : List (List ℕ)) (e : Entry) → t.moves ≢ 0 → whole_of last w ≡ undone (whole_of t w) → e ≡ blank
          → v ≡ set w last.moves (packed e)
          → (record { answer = 0; board = whole_of last v } ≡ undo_call (whole_of t w)) × (v ≡ words_after t.moves (undo_call (whole_of t w)).board w)
      move_undone last v e n el ee ev =
          let less : last.moves ≡ t.moves - 1 = ap (λ (x : Board). x.moves) el in
          let some : 0 < t.moves = omega (arith, n) in
          let same : whole_of last v ≡ whole_of last w = ap (whole_of last) (ev ∙ one_blanked last.moves w e ee) ∙ whole_behind last 1 [] w in
          let call = accepted (undone b) (some_move n) (sym (pick_no _ _ _ unfinished)) in (
            ap (λ (x : Board). record { answer = 0; board = x }) (same ∙ el) ∙ call,
            ev
                ∙ ap₂ (λ (i : ℕ) (x : Entry). set w i (packed x)) less ee
                ∙ words_blanked b (undone_in t.network t.flows t.marks t.places (last_entry b).step) w some
                ∙ ap (λ (p : Played). words_after t.moves p.board w) call,
          )
