-- The machine prints what the definition says of the whole input, by induction on the input. While the board is read, the bytes so far are kept as far as there
-- is room, which decides what loading and counting them gives; and the board's part of the input is those bytes with as many lines as are still to come.
use mathlib.Core.Path.{◌≡◌, refl, sym, ap, ◌∙◌}
use mathlib.Core.Bool.{true, false}
use mathlib.Core.List.{List, [], ◌∷◌, ◌++◌, append_assoc, append-nil}
use Prim.Native.Nat.{ℕ, zero, suc, min, ◌+◌, ◌-◌}
use native.Mathlib.Omega.{arith}
use lib.Dec.{leb, eqb}
use lib.ListN.{length, take, set, length-append, length-set, length-replicate}
use borrow.Author.Tests.{eqb-true, ne_eqb}
use Rattle.lists.specs.Choice.{pick}
use Rattle.lists.specs.Lists.{index_of}
use Rattle.lists.proofs.Laws.{Known, was_true, was_false, known, pick_yes, pick_no}
use Rattle.load.specs.Load.{Loaded}
use Rattle.load.specs.Load.{load_text}
use Rattle.play_lines.specs.Scans.{scan_all}
use Rattle.sheet_output.specs.Outputs.{number_line}
use Rattle.sheet_output.specs.Inputs.{text_space, first_lines, lines_wanted, board_part}
use Rattle.sheet_output.proofs.FirstLines.{index_behind, first_more, first_line, first_all}
use Rattle.sheet_output.proofs.Prefix.{load_prefix, wanted_prefix}
use Rattle.play_session.specs.Machine.{Session}
use Rattle.play_session.specs.Replies.{replies_from, play_output}
use Rattle.play_session.specs.Machine.{reading_stage, new_session, text_grown, text_so_far, lines_left, ready, expecting, board_line, load_told, board_told, line_ended, end_told}
use Rattle.play_session.specs.Inner.{runs}
use Rattle.play_session.proofs.Stages.{grown_reading, told_reading, ended_reading, runs-line, runs_byte}
use Rattle.play_session.proofs.KeptText.{capped, kept_more}
use Rattle.play_session.proofs.PlayedLines.{plays, prints_nothing}
use Rattle.play_session.proofs.BoardParts.{one_byte, no_byte, part-alone, part_first, output_of}

-- ---- the board is read

-- p are the bytes so far: as many of them as there is room for are kept
record Reading (s : Session) (p : List ℕ) : Type 0 where
  at : s.stage ≡ reading_stage
  used : s.used ≡ min (length p) text_space
  kept : text_so_far s ≡ take text_space p
  long : length s.text ≡ text_space

module _ (s : Session) (p : List ℕ) (r : Reading s p) where
  is_reading : eqb s.stage reading_stage ≡ true
  is_reading = rw r.at

  reads_byte : (c : ℕ) → Reading (text_grown s (c ∷ [])) (p ++ (c ∷ []))
  reads_byte c = record { at = r.at; used = used; kept = kept; long = length-set s.text s.used c ∙ r.long }
    where
      room : pick (leb (s.used + 1) text_space) (s.used + 1) text_space ≡ min (s.used + 1) text_space
      room = capped text_space (s.used + 1)

      used : pick (leb (s.used + 1) text_space) (s.used + 1) text_space ≡ min (length (p ++ (c ∷ []))) text_space
      used = room ∙ omega (arith, r.used, length-append p (c ∷ []))

      kept : take (pick (leb (s.used + 1) text_space) (s.used + 1) text_space) (set s.text s.used c) ≡ take text_space (p ++ (c ∷ []))
      kept = ap (λ (k : ℕ). take k (set s.text s.used c)) room ∙ kept_more text_space s.text p s.used c r.long r.used r.kept

  loaded : load_text (text_so_far s) ≡ load_text p
  loaded = ap load_text r.kept ∙ load_prefix p

  wanted : lines_wanted (text_so_far s) ≡ lines_wanted p
  wanted = ap lines_wanted r.kept ∙ wanted_prefix p

  end_reading : end_told s ≡ load_told (load_text p)
  unfolding end_told
  end_reading = pick_yes _ _ _ is_reading ∙ ap load_told loaded

-- the board is read, and played or refused
ready_prints : (l : Loaded) (s : Session) (x : List ℕ)
    → load_told l ++ runs (ready l s) x ≡ pick (eqb l.answer 0) (replies_from l.board [] x) (number_line l.answer)
unfolding load_told scan_all
ready_prints l s x = split (known (eqb l.answer 0))
  where
    split : Known (eqb l.answer 0)
        → load_told l ++ runs (ready l s) x ≡ pick (eqb l.answer 0) (replies_from l.board [] x) (number_line l.answer)
    split (was_true e) =
        ap (λ (t : List ℕ). t ++ runs (ready l s) x) (pick_yes _ _ _ e)
        ∙ plays x [] (ready l s) (pick_yes _ _ _ e) refl
        ∙ sym (pick_yes _ _ _ e)
    split (was_false e) =
        ap (λ (t : List ℕ). t ++ runs (ready l s) x) (pick_no _ _ _ e)
        ∙ ap (λ (t : List ℕ). number_line l.answer ++ t) (prints_nothing (ready l s) (pick_no _ _ _ e) x)
        ∙ append-nil (number_line l.answer)
        ∙ sym (pick_no _ _ _ e)

-- at the end of the input
end_prints : (s : Session) (p : List ℕ) → Reading s p → board_part (p ++ []) ≡ p → runs s [] ≡ play_output (p ++ [])
unfolding runs load_told replies_from pick
end_prints s p r h = end_reading s p r ∙ sym (output_of p [] h)

-- what the input x prints where lines of the board are still to come, the present one among them
abbrev Onward : List ℕ → Type 0
Onward x =
    (p : List ℕ) (s : Session) (k : ℕ) → Reading s p → s.left ≡ suc k → ((t : List ℕ) → board_part (p ++ t) ≡ p ++ first_lines (suc k) t)
    → runs s x ≡ play_output (p ++ x)

-- a line feed, with m lines of the board behind it
board_ends : (s : Session) (q x : List ℕ) (m : ℕ) → Reading s q → lines_left s ≡ m → ((t : List ℕ) → board_part (q ++ t) ≡ q ++ first_lines m t) → Onward x
    → board_told s ++ runs (board_line s) x ≡ play_output (q ++ x)
unfolding board_told board_line first_lines
board_ends s q x zero r left part more =
    let none : eqb (lines_left s) 0 ≡ true = rw left in
    ap (λ (t : List ℕ). t ++ runs (board_line s) x) (pick_yes _ _ _ none)
    ∙ ap (λ (p : Session). load_told (load_text (text_so_far s)) ++ runs p x) (pick_yes _ _ _ none)
    ∙ ap (λ (l : Loaded). load_told l ++ runs (ready l s) x) (loaded s q r)
    ∙ ready_prints (load_text q) s x
    ∙ sym (output_of q x (part x ∙ append-nil q))
board_ends s q x (suc k) r left part more =
    let some : eqb (lines_left s) 0 ≡ false = ne_eqb (lines_left s) 0 (λ z. omega (arith, left, z)) in
    ap (λ (t : List ℕ). t ++ runs (board_line s) x) (pick_no _ _ _ some)
    ∙ ap (λ (p : Session). runs p x) (pick_no _ _ _ some)
    ∙ more q (expecting (lines_left s) s) k (record { at = r.at; used = r.used; kept = r.kept; long = r.long }) left part

module _ (s : Session) (p x : List ℕ) (c : ℕ) (r : Reading s p) where
  abbrev fed : Session
  fed = text_grown s (10 ∷ [])

  feed_prints : (m : ℕ) → eqb c 10 ≡ true → lines_left fed ≡ m → ((t : List ℕ) → board_part (p ++ (10 ∷ t)) ≡ p ++ (10 ∷ first_lines m t)) → Onward x
      → runs s (c ∷ x) ≡ play_output (p ++ (c ∷ x))
  feed_prints m e left part more =
      let parts : (t : List ℕ) → board_part ((p ++ (10 ∷ [])) ++ t) ≡ (p ++ (10 ∷ [])) ++ first_lines m t =
      λ t. rw (append_assoc p (10 ∷ []) t, append_assoc p (10 ∷ []) (first_lines m t)) (part t) in
      runs-line s c x e
      ∙ ap (λ (t : List ℕ). t ++ runs (line_ended s) x) (told_reading s (is_reading s p r))
      ∙ ap (λ (q : Session). board_told fed ++ runs q x) (ended_reading s (is_reading s p r))
      ∙ board_ends fed (p ++ (10 ∷ [])) x m (reads_byte s p r 10) left parts more
      ∙ ap play_output (append_assoc p (10 ∷ []) x)
      ∙ ap (λ (b : ℕ). play_output (p ++ (b ∷ x))) (sym (eqb-true c 10 e))

  byte_prints : eqb c 10 ≡ false → runs (text_grown s (c ∷ [])) x ≡ play_output ((p ++ (c ∷ [])) ++ x) → runs s (c ∷ x) ≡ play_output (p ++ (c ∷ x))
  byte_prints e h =
      runs_byte s c x e
      ∙ ap (λ (q : Session). runs q x) (grown_reading s (c ∷ []) (is_reading s p r))
      ∙ h
      ∙ ap play_output (append_assoc p (c ∷ []) x)

-- ---- behind the board's first line

left_later : (s : Session) (k : ℕ) → s.left ≡ suc k → lines_left s ≡ k
unfolding lines_left
left_later s k h =
    let some : eqb s.left 0 ≡ false = ne_eqb s.left 0 (λ z. omega (arith, h, z)) in
    ap (λ (n : ℕ). n - 1) (pick_no _ _ _ some) ∙ omega (arith, h)

reads_on : (x p : List ℕ) (s : Session) (k : ℕ) → Reading s p → s.left ≡ suc k → ((t : List ℕ) → board_part (p ++ t) ≡ p ++ first_lines (suc k) t)
    → runs s x ≡ play_output (p ++ x)
reads_on [] p s k r left part = end_prints s p r (part [] ∙ ap (λ (t : List ℕ). p ++ t) (first_all k [] no_byte) ∙ append-nil p)
reads_on (c ∷ x) p s k r left part = split (known (eqb c 10)) (λ q t j. reads_on x q t j)
  where
    split : Known (eqb c 10) → Onward x → runs s (c ∷ x) ≡ play_output (p ++ (c ∷ x))
    split (was_true e) more =
        feed_prints s p x c r k e (left_later (text_grown s (10 ∷ [])) k left)
        (λ t. part (10 ∷ t) ∙ ap (λ (l : List ℕ). p ++ l) (first_line k [] t no_byte)) more
    split (was_false e) more =
        let parts : (t : List ℕ) → board_part ((p ++ (c ∷ [])) ++ t) ≡ (p ++ (c ∷ [])) ++ first_lines (suc k) t =
        λ t. rw (append_assoc p (c ∷ []) t, append_assoc p (c ∷ []) (first_lines (suc k) t))
        (part (c ∷ t) ∙ ap (λ (l : List ℕ). p ++ l) (first_more k (c ∷ []) t (one_byte c e))) in
        byte_prints s p x c r e (more (p ++ (c ∷ [])) (text_grown s (c ∷ [])) k (reads_byte s p r c) left parts)

-- ---- the board's first line

left_first : (s : Session) (p : List ℕ) → Reading s p → s.left ≡ 0 → lines_left s ≡ lines_wanted p - 1
unfolding lines_left
left_first s p r h = rw (wanted s p r) (ap (λ (n : ℕ). n - 1) (pick_yes _ _ _ (rw h)))

reads : (x p : List ℕ) (s : Session) → Reading s p → s.left ≡ 0 → index_of 10 p ≡ length p → runs s x ≡ play_output (p ++ x)
reads [] p s r left line = end_prints s p r (part-alone p line)
reads (c ∷ x) p s r left line = split (known (eqb c 10)) (λ q t. reads x q t)
  where
    split : Known (eqb c 10) → ((q : List ℕ) (t : Session) → Reading t q → t.left ≡ 0 → index_of 10 q ≡ length q → runs t x ≡ play_output (q ++ x))
        → runs s (c ∷ x) ≡ play_output (p ++ (c ∷ x))
    split (was_true e) ih =
        feed_prints s p x c r (lines_wanted (p ++ (10 ∷ [])) - 1) e
        (left_first (text_grown s (10 ∷ [])) (p ++ (10 ∷ [])) (reads_byte s p r 10) left)
        (part_first p line) (reads_on x)
    split (was_false e) ih =
        let more : index_of 10 (p ++ (c ∷ [])) ≡ length (p ++ (c ∷ [])) =
        omega (arith, index_behind 10 p (c ∷ []) line, one_byte c e, length-append p (c ∷ [])) in
        byte_prints s p x c r e (ih (p ++ (c ∷ [])) (text_grown s (c ∷ [])) (reads_byte s p r c) left more)

-- ---- the whole input

reads_new : Reading new_session []
reads_new = record { at = refl; used = refl; kept = refl; long = length-replicate {A = ℕ} text_space 0 }

pub prints : (input : List ℕ) → runs new_session input ≡ play_output input
prints input = reads input [] new_session reads_new refl no_byte
