-- After the board: each line feed answers the order of its line, since the line was scanned as that order; a last line without its line feed is of another form.
-- Where the board was refused nothing more is printed.
use mathlib.Core.Path.{◌≡◌, refl, sym, ap, ◌∙◌}
use mathlib.Core.Bool.{true, false}
use mathlib.Core.List.{List, [], ◌∷◌, ◌++◌, append-nil}
use Prim.Native.Nat.{ℕ}
use lib.Dec.{eqb}
use lib.ListN.{length}
use Rattle.lists.specs.Choice.{pick, both}
use Rattle.lists.proofs.Laws.{Known, was_true, was_false, known, pick_yes, pick_no}
use Rattle.board.specs.Whole.{Board}
use Rattle.board.specs.Whole.{Played}
use Rattle.play_lines.specs.Orders.{other, order_of}
use Rattle.play_lines.specs.Scans.{no_scan, scan_all, scanned, is_blank}
use Rattle.play_lines.specs.Inner.{StandsFor}
use Rattle.play_lines.proofs.Exact.{line_exact, scan_join, blank_empty}
use Rattle.sheet_output.specs.Outputs.{number_line}
use Rattle.play_session.specs.Machine.{Session}
use Rattle.play_session.specs.Replies.{replied, reply_text, replies_from}
use Rattle.play_session.specs.Machine.{reading_stage, playing_stage, over_stage, form_replied, scan_grown, played_line, line_ended, line_told, end_told}
use Rattle.play_session.specs.Inner.{runs}
use Rattle.play_session.proofs.Lines.{form_replied_lem, form_text_lem}
use Rattle.play_session.proofs.Stages.{grown-playing, grown_over, told_playing, told_over_lem, ended-playing, ended_over, runs-line, runs_byte}

-- ---- lines are played

replies_line : (b : Board) (l : List ℕ) (c : ℕ) (s : List ℕ) → eqb c 10 ≡ true
    → replies_from b l (c ∷ s) ≡ reply_text b (order_of l) ++ replies_from (replied b (order_of l)).board [] s
unfolding replies_from
replies_line b l c s e = rw (e, replies_from)

replies_byte : (b : Board) (l : List ℕ) (c : ℕ) (s : List ℕ) → eqb c 10 ≡ false → replies_from b l (c ∷ s) ≡ replies_from b (l ++ (c ∷ [])) s
unfolding replies_from
replies_byte b l c s e = rw (e, replies_from)

other_text : (b : Board) → reply_text b other ≡ number_line 1
unfolding reply_text replied pick both
other_text b = append-nil (number_line 1)

module _ (s : Session) (at : s.stage ≡ playing_stage) where
  not_reading : eqb s.stage reading_stage ≡ false
  not_reading = rw at

  is_playing : eqb s.stage playing_stage ≡ true
  is_playing = rw at

  end_playing : end_told s ≡ pick (is_blank s.scan) [] (number_line 1)
  unfolding end_told
  end_playing = pick_no _ _ _ not_reading ∙ pick_yes _ _ _ is_playing

pub plays : (x l : List ℕ) (s : Session) → s.stage ≡ playing_stage → s.scan ≡ scan_all no_scan l → runs s x ≡ replies_from s.board l x
unfolding runs replies_from scan_all
plays [] l s at scan =
    let blank : is_blank s.scan ≡ eqb (length l) 0 = ap is_blank scan ∙ blank_empty l in
    end_playing s at ∙ rw (blank, other_text s.board)
plays (c ∷ x) l s at scan = split (known (eqb c 10)) (λ m r p q. plays x m r p q)
  where
    split : Known (eqb c 10)
        → ((m : List ℕ) (r : Session) → r.stage ≡ playing_stage → r.scan ≡ scan_all no_scan m → runs r x ≡ replies_from r.board m x)
        → runs s (c ∷ x) ≡ replies_from s.board l (c ∷ x)
    split (was_true e) ih =
        let b = s.board in
        let f = scanned s.scan in
        let p = form_replied b f in
        let stands : StandsFor (order_of l) f = rw scan (line_exact l) in
        let told : line_told s ≡ reply_text b (order_of l) = told_playing s (not_reading s at) (is_playing s at) ∙ form_text_lem b (order_of l) f stands in
        let rest : runs (line_ended s) x ≡ replies_from (replied b (order_of l)).board [] x =
        ap (λ (r : Session). runs r x) (ended-playing s (not_reading s at) (is_playing s at))
        ∙ ih [] (played_line p s) at refl
        ∙ ap (λ (q : Played). replies_from q.board [] x) (form_replied_lem b (order_of l) f stands) in
        runs-line s c x e
        ∙ ap (λ (t : List ℕ). t ++ runs (line_ended s) x) told
        ∙ ap (λ (t : List ℕ). reply_text b (order_of l) ++ t) rest
        ∙ sym (replies_line b l c x e)
    split (was_false e) ih =
        runs_byte s c x e
        ∙ ap (λ (r : Session). runs r x) (grown-playing s (c ∷ []) (not_reading s at) (is_playing s at))
        ∙ ih (l ++ (c ∷ [])) (scan_grown s (c ∷ [])) at (ap (λ r. scan_all r (c ∷ [])) scan ∙ sym (scan_join no_scan l (c ∷ [])))
        ∙ sym (replies_byte s.board l c x e)

-- ---- the board was refused

module _ (s : Session) (at : s.stage ≡ over_stage) where
  over_reading : eqb s.stage reading_stage ≡ false
  over_reading = rw at

  over_playing : eqb s.stage playing_stage ≡ false
  over_playing = rw at

  pub prints_nothing : (x : List ℕ) → runs s x ≡ []
  unfolding runs end_told
  prints_nothing [] = pick_no _ _ _ over_reading ∙ pick_no _ _ _ over_playing
  prints_nothing (c ∷ x) = split (known (eqb c 10)) (prints_nothing x)
    where
      split : Known (eqb c 10) → runs s x ≡ [] → runs s (c ∷ x) ≡ []
      split (was_true e) ih =
          runs-line s c x e
          ∙ ap (λ (t : List ℕ). t ++ runs (line_ended s) x) (told_over_lem s over_reading over_playing)
          ∙ ap (λ (r : Session). runs r x) (ended_over s over_reading over_playing)
          ∙ ih
      split (was_false e) ih = runs_byte s c x e ∙ ap (λ (r : Session). runs r x) (grown_over s (c ∷ []) over_reading over_playing) ∙ ih
