-- The words of a lent journal after a call by its change: an accepted move is packed into the next place, one that is taken back leaves the blank in its place,
-- and a refused call changes no word.
use mathlib.Core.Path.{◌≡◌, refl, sym, ap, ◌∙◌}
use mathlib.Core.List.{List}
use mathlib.Core.Logic.{◌≢◌, ◌⊎◌, inl, inr}
use Prim.Native.Nat.{ℕ, ◌-◌, ◌<◌, ◌≤◌}
use native.Mathlib.Omega.{arith}
use lib.ListN.{length, get_or, set, length-map, get_or-eq_default}
use lib.Seq.{set_out, get_or-set_same}
use Rattle.lists.proofs.Laws.{lt_or_ge}
use Rattle.board.specs.Record.{blank}
use Rattle.board.specs.Whole.{Entry, Board, Played, Table}
use Rattle.journal.specs.Words.{packed, unpacked, entries_of, whole_of, words_after}
use Rattle.journal.proofs.Laws.{length-standing}
use Rattle.journal.proofs.After.{after_none, after_one, after_back_lem}
use Rattle.move_guard.specs.Moved.{Change}
use Rattle.move_guard.specs.Moved.{moved, changed, after_back}
use Rattle.move_guard.proofs.Answers.{answered_yes, answered_no}

-- a board has as many entries as its words have places
pub whole_long : (t : Table) (w : List (List ℕ)) → length (whole_of t w).journal ≡ length w
whole_long t w = length-standing t.moves (entries_of w) ∙ length-map w unpacked

-- a store is what stands at its place then, or there is no such place
stored_there : (es : List Entry) (w : List (List ℕ)) (i : ℕ) (e : Entry) → length es ≡ length w
    → set w i (packed e) ≡ set w i (packed (get_or (set es i e) i blank))
stored_there es w i e long = go (lt_or_ge i (length es))
  where
    go : (i < length es) ⊎ (length es ≤ i) → set w i (packed e) ≡ set w i (packed (get_or (set es i e) i blank))
    go (inl h) = ap (λ (x : Entry). set w i (packed x)) (sym (get_or-set_same es i e blank h))
    go (inr h) = set_out w i (packed e) (omega (arith, h, long)) ∙ sym (set_out w i (packed (get_or (set es i e) i blank)) (omega (arith, h, long)))

-- the blank stands where it is stored, and past the end
blank_there : (es : List Entry) (i : ℕ) → get_or (set es i blank) i blank ≡ blank
blank_there es i = go (lt_or_ge i (length es))
  where
    go : (i < length es) ⊎ (length es ≤ i) → get_or (set es i blank) i blank ≡ blank
    go (inl h) = get_or-set_same es i blank blank h
    go (inr h) = ap (λ (l : List Entry). get_or l i blank) (set_out es i blank h) ∙ get_or-eq_default es blank h

module _ (b : Board) (c : Change) (w : List (List ℕ)) where
  accepted : c.answer ≡ 0 → (changed b c).board ≡ moved b c.flows c.marks c.places c.entry
  accepted h = ap (λ (p : Played). p.board) (answered_yes c.answer b _ h)

  pub words_stored : length b.journal ≡ length w → c.answer ≡ 0
      → set w b.moves (packed c.entry) ≡ words_after b.moves (changed b c).board w
  words_stored long h =
      rw (accepted h)
      (stored_there b.journal w b.moves c.entry long
      ∙ sym (after_one b.moves (moved b c.flows c.marks c.places c.entry) w refl))

  pub words_kept : c.answer ≢ 0 → w ≡ words_after b.moves (changed b c).board w
  words_kept h =
      let same : (changed b c).board ≡ b = ap (λ (p : Played). p.board) (answered_no c.answer b _ h) in
      rw same (sym (after_none b.moves b w refl))

  pub words_blanked : 0 < b.moves → set w (b.moves - 1) (packed blank) ≡ words_after b.moves (after_back b c) w
  words_blanked some =
      ap (λ (x : Entry). set w (b.moves - 1) (packed x)) (sym (blank_there b.journal (b.moves - 1)))
      ∙ sym (after_back_lem b.moves (after_back b c) w (omega arith))
