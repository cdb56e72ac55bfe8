-- A session by its stage: what it does with bytes of a line, with a line feed, and with the input.
use mathlib.Core.Path.{◌≡◌, ◌∙◌}
use mathlib.Core.Bool.{true, false}
use mathlib.Core.List.{List, [], ◌∷◌, ◌++◌}
use Prim.Native.Nat.{ℕ}
use lib.Dec.{eqb}
use Rattle.lists.proofs.Laws.{Known, was_true, was_false, known, pick_yes, pick_no}
use Rattle.play_lines.specs.Scans.{scanned}
use Rattle.play_session.specs.Machine.{Session}
use Rattle.play_session.specs.Machine.{reading_stage, playing_stage, form_replied, form_text, text_grown, scan_grown, grown, board_line, board_told, played_line, line_ended, line_told}
use Rattle.play_session.specs.Inner.{runs}

-- which stage a number stands for
pub data Stage (n : ℕ) : Type 0 where
  reading : eqb n reading_stage ≡ true → Stage n
  playing : eqb n reading_stage ≡ false → eqb n playing_stage ≡ true → Stage n
  over : eqb n reading_stage ≡ false → eqb n playing_stage ≡ false → Stage n

pub stage_of : (n : ℕ) → Stage n
stage_of n = split (known (eqb n reading_stage)) (known (eqb n playing_stage))
  where
    split : Known (eqb n reading_stage) → Known (eqb n playing_stage) → Stage n
    split (was_true e) f = reading e
    split (was_false e) (was_true f) = playing e f
    split (was_false e) (was_false f) = over e f

-- bytes of a line
pub grown_reading : (s : Session) (l : List ℕ) → eqb s.stage reading_stage ≡ true → grown s l ≡ text_grown s l
unfolding grown
grown_reading s l e = pick_yes _ _ _ e

pub grown-playing : (s : Session) (l : List ℕ) → eqb s.stage reading_stage ≡ false → eqb s.stage playing_stage ≡ true → grown s l ≡ scan_grown s l
unfolding grown
grown-playing s l e f = pick_no _ _ _ e ∙ pick_yes _ _ _ f

pub grown_over : (s : Session) (l : List ℕ) → eqb s.stage reading_stage ≡ false → eqb s.stage playing_stage ≡ false → grown s l ≡ s
unfolding grown
grown_over s l e f = pick_no _ _ _ e ∙ pick_no _ _ _ f

-- a line feed
module _ (s : Session) where
  pub told_reading : eqb s.stage reading_stage ≡ true → line_told s ≡ board_told (text_grown s (10 ∷ []))
  unfolding line_told
  told_reading e = pick_yes _ _ _ e

  pub told_playing : eqb s.stage reading_stage ≡ false → eqb s.stage playing_stage ≡ true
      → line_told s ≡ form_text s.board (scanned s.scan)
  unfolding line_told
  told_playing e f = pick_no _ _ _ e ∙ pick_yes _ _ _ f

  pub told_over_lem : eqb s.stage reading_stage ≡ false → eqb s.stage playing_stage ≡ false → line_told s ≡ []
  unfolding line_told
  told_over_lem e f = pick_no _ _ _ e ∙ pick_no _ _ _ f

  pub ended_reading : eqb s.stage reading_stage ≡ true → line_ended s ≡ board_line (text_grown s (10 ∷ []))
  unfolding line_ended
  ended_reading e = pick_yes _ _ _ e

  pub ended-playing : eqb s.stage reading_stage ≡ false → eqb s.stage playing_stage ≡ true
      → line_ended s ≡ played_line (form_replied s.board (scanned s.scan)) s
  unfolding line_ended
  ended-playing e f = pick_no _ _ _ e ∙ pick_yes _ _ _ f

  pub ended_over : eqb s.stage reading_stage ≡ false → eqb s.stage playing_stage ≡ false → line_ended s ≡ s
  unfolding line_ended
  ended_over e f = pick_no _ _ _ e ∙ pick_no _ _ _ f

-- the input
pub runs-line : (s : Session) (c : ℕ) (cs : List ℕ) → eqb c 10 ≡ true → runs s (c ∷ cs) ≡ line_told s ++ runs (line_ended s) cs
unfolding runs
runs-line s c cs e = rw (e, runs)

pub runs_byte : (s : Session) (c : ℕ) (cs : List ℕ) → eqb c 10 ≡ false → runs s (c ∷ cs) ≡ runs (grown s (c ∷ [])) cs
unfolding runs
runs_byte s c cs e = rw (e, runs)
