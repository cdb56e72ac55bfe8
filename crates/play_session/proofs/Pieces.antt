-- A piece of the input is taken as its bytes would be one after another: bytes of a line that come together are kept, or scanned, as if they came apart.
-- The two sessions may differ past the room for the text; but loading and counting look no further, so sessions that agree as far as the room reaches print
-- the same.
use mathlib.Core.Path.{◌≡◌, refl, sym, ap, ◌∙◌}
use mathlib.Core.Bool.{false}
use mathlib.Core.List.{List, [], ◌∷◌, ◌++◌, append_assoc}
use Prim.Native.Nat.{ℕ, suc, min, ◌<◌}
use native.Mathlib.Numerals.{add-one}
use native.Mathlib.Omega.{arith}
use lib.Dec.{eqb}
use lib.ListN.{length, take, drop, length-append}
use lib.Seq.{take-take, drop-length}
use borrow.Author.Tests.{eqb-true, ltb-true, ltb-false}
use Rattle.lists.specs.Choice.{pick}
use Rattle.lists.specs.Lists.{index_of}
use Rattle.lists.proofs.Laws.{Known, was_true, was_false, known, pick_yes, pick_no, index_le}
use Rattle.load.specs.Load.{Loaded}
use Rattle.load.specs.Load.{load_text}
use Rattle.play_lines.specs.Scans.{scan_all, scanned}
use Rattle.play_lines.proofs.Exact.{scan_join}
use Rattle.sheet_output.specs.Inputs.{text_space, lines_wanted}
use Rattle.sheet_output.proofs.Prefix.{load_prefix, wanted_prefix}
use Rattle.play_session.specs.Machine.{Session}
use Rattle.play_session.specs.Machine.{form_replied, text_grown, scan_grown, grown, text_so_far, lines_left, ready, expecting, board_line, board_told, played_line, line_ended, line_told, end_told, has_line, taken_of, fed_session, fed_told}
use Rattle.play_session.specs.Inner.{runs}
use Rattle.play_session.proofs.Stages.{Stage, reading, playing, over, stage_of, grown_reading, grown-playing, grown_over, told_reading, told_playing, told_over_lem, ended_reading, ended-playing, ended_over, runs-line, runs_byte}
use Rattle.play_session.proofs.KeptText.{take-both, used_nothing, used_seen, used_join, text_seen, text_join}

-- ---- a session as far as its room reaches

abbrev seen : Session → Session
seen s = record {
  stage = s.stage;
  left = s.left;
  used = min s.used text_space;
  text = take text_space s.text;
  scan = s.scan;
  board = s.board;
}

seen_twice : (s : Session) → seen (seen s) ≡ seen s
seen_twice s = λ i. record {
  stage = s.stage;
  left = s.left;
  used = used i;
  text = text i;
  scan = s.scan;
  board = s.board;
}
  where
    used : min (min s.used text_space) text_space ≡ min s.used text_space
    used = omega arith

    text : take text_space (take text_space s.text) ≡ take text_space s.text
    text = take-take text_space text_space s.text (omega arith)

-- ---- bytes of a line

module _ (s : Session) where
  text_grown_seen : (l : List ℕ) → seen (text_grown s l) ≡ seen (text_grown (seen s) l)
  text_grown_seen l = λ i. record {
    stage = s.stage;
    left = s.left;
    used = used_seen text_space s.used (length l) i;
    text = text_seen text_space s.text s.used l i;
    scan = s.scan;
    board = s.board;
  }

  text_grown_nothing : seen (text_grown s []) ≡ seen s
  text_grown_nothing = λ i. record {
    stage = s.stage;
    left = s.left;
    used = used_nothing text_space s.used i;
    text = take text_space s.text;
    scan = s.scan;
    board = s.board;
  }

  text_grown_join : (l m : List ℕ) → seen (text_grown (text_grown s l) m) ≡ seen (text_grown s (l ++ m))
  text_grown_join l m = λ i. record {
    stage = s.stage;
    left = s.left;
    used = used_join text_space s.used (length l) (length m) (length (l ++ m)) (length-append l m) i;
    text = text_join text_space s.text s.used l m i;
    scan = s.scan;
    board = s.board;
  }

  scan_grown_join : (l m : List ℕ) → scan_grown (scan_grown s l) m ≡ scan_grown s (l ++ m)
  scan_grown_join l m = λ i. record {
    stage = s.stage;
    left = s.left;
    used = s.used;
    text = s.text;
    scan = sym (scan_join s.scan l m) i;
    board = s.board;
  }

  grown_seen : (l : List ℕ) → seen (grown s l) ≡ seen (grown (seen s) l)
  grown_seen l = split (stage_of s.stage)
    where
      split : Stage s.stage → seen (grown s l) ≡ seen (grown (seen s) l)
      split (reading e) = ap seen (grown_reading s l e) ∙ text_grown_seen l ∙ sym (ap seen (grown_reading (seen s) l e))
      split (playing e f) = ap seen (grown-playing s l e f) ∙ sym (seen_twice (scan_grown s l)) ∙ sym (ap seen (grown-playing (seen s) l e f))
      split (over e f) = ap seen (grown_over s l e f) ∙ sym (seen_twice s) ∙ sym (ap seen (grown_over (seen s) l e f))

  grown_nothing : seen (grown s []) ≡ seen s
  unfolding scan_all
  grown_nothing = split (stage_of s.stage)
    where
      split : Stage s.stage → seen (grown s []) ≡ seen s
      split (reading e) = ap seen (grown_reading s [] e) ∙ text_grown_nothing
      split (playing e f) = ap seen (grown-playing s [] e f)
      split (over e f) = ap seen (grown_over s [] e f)

  -- bytes, and then more of them
  grown_join : (l m : List ℕ) → seen (grown (grown s l) m) ≡ seen (grown s (l ++ m))
  grown_join l m = split (stage_of s.stage)
    where
      split : Stage s.stage → seen (grown (grown s l) m) ≡ seen (grown s (l ++ m))
      split (reading e) =
          ap (λ (r : Session). seen (grown r m)) (grown_reading s l e)
          ∙ ap seen (grown_reading (text_grown s l) m e)
          ∙ text_grown_join l m
          ∙ sym (ap seen (grown_reading s (l ++ m) e))
      split (playing e f) =
          ap (λ (r : Session). seen (grown r m)) (grown-playing s l e f)
          ∙ ap seen (grown-playing (scan_grown s l) m e f ∙ scan_grown_join l m ∙ sym (grown-playing s (l ++ m) e f))
      split (over e f) =
          ap (λ (r : Session). seen (grown r m)) (grown_over s l e f)
          ∙ ap seen (grown_over s m e f ∙ sym (grown_over s (l ++ m) e f))

  -- ---- what is printed, and the session behind a line

  loads : load_text (text_so_far s) ≡ load_text (text_so_far (seen s))
  loads = sym (load_prefix (text_so_far s)) ∙ ap load_text (take-both text_space s.used s.text)

  wants : lines_wanted (text_so_far s) ≡ lines_wanted (text_so_far (seen s))
  wants = sym (wanted_prefix (text_so_far s)) ∙ ap lines_wanted (take-both text_space s.used s.text)

  left_seen : lines_left s ≡ lines_left (seen s)
  unfolding lines_left
  left_seen = rw wants

  board_told_lem : board_told s ≡ board_told (seen s)
  unfolding board_told
  board_told_lem = rw (loads, left_seen)

  board_seen : seen (board_line s) ≡ seen (board_line (seen s))
  unfolding board_line
  board_seen = split (known (eqb (lines_left s) 0))
    where
      split : Known (eqb (lines_left s) 0) → seen (board_line s) ≡ seen (board_line (seen s))
      split (was_true e) =
          ap seen (pick_yes _ _ _ e)
          ∙ ap (λ (l : Loaded). seen (ready l s)) loads
          ∙ sym (seen_twice (ready (load_text (text_so_far (seen s))) s))
          ∙ sym (ap seen (pick_yes _ _ _ (rw (← left_seen) e)))
      split (was_false e) =
          ap seen (pick_no _ _ _ e)
          ∙ ap (λ (k : ℕ). seen (expecting k s)) left_seen
          ∙ sym (seen_twice (expecting (lines_left (seen s)) s))
          ∙ sym (ap seen (pick_no _ _ _ (rw (← left_seen) e)))

  end_told_lem : end_told s ≡ end_told (seen s)
  unfolding end_told
  end_told_lem = rw loads

-- ---- a line feed

module _ (s r : Session) (same : seen s ≡ seen r) where
  board_told_same : board_told s ≡ board_told r
  board_told_same = board_told_lem s ∙ ap board_told same ∙ sym (board_told_lem r)

  board_same : seen (board_line s) ≡ seen (board_line r)
  board_same = board_seen s ∙ ap (λ (q : Session). seen (board_line q)) same ∙ sym (board_seen r)

module _ (s : Session) where
  line_told_lem : line_told s ≡ line_told (seen s)
  line_told_lem = split (stage_of s.stage)
    where
      split : Stage s.stage → line_told s ≡ line_told (seen s)
      split (reading e) =
          told_reading s e
          ∙ board_told_same (text_grown s (10 ∷ [])) (text_grown (seen s) (10 ∷ [])) (text_grown_seen s (10 ∷ []))
          ∙ sym (told_reading (seen s) e)
      split (playing e f) = told_playing s e f ∙ sym (told_playing (seen s) e f)
      split (over e f) = told_over_lem s e f ∙ sym (told_over_lem (seen s) e f)

  line_seen : seen (line_ended s) ≡ seen (line_ended (seen s))
  line_seen = split (stage_of s.stage)
    where
      split : Stage s.stage → seen (line_ended s) ≡ seen (line_ended (seen s))
      split (reading e) =
          ap seen (ended_reading s e)
          ∙ board_same (text_grown s (10 ∷ [])) (text_grown (seen s) (10 ∷ [])) (text_grown_seen s (10 ∷ []))
          ∙ sym (ap seen (ended_reading (seen s) e))
      split (playing e f) =
          ap seen (ended-playing s e f)
          ∙ sym (seen_twice (played_line (form_replied s.board (scanned s.scan)) s))
          ∙ sym (ap seen (ended-playing (seen s) e f))
      split (over e f) = ap seen (ended_over s e f) ∙ sym (seen_twice s) ∙ sym (ap seen (ended_over (seen s) e f))

-- ---- two sessions that agree as far as the room reaches print the same

runs_same : (x : List ℕ) (s r : Session) → seen s ≡ seen r → runs s x ≡ runs r x
unfolding runs
runs_same [] s r same = end_told_lem s ∙ ap end_told same ∙ sym (end_told_lem r)
runs_same (c ∷ cs) s r same = split (known (eqb c 10)) (λ p q e. runs_same cs p q e)
  where
    split : Known (eqb c 10) → ((p q : Session) → seen p ≡ seen q → runs p cs ≡ runs q cs) → runs s (c ∷ cs) ≡ runs r (c ∷ cs)
    split (was_true e) ih =
        let told : line_told s ≡ line_told r = line_told_lem s ∙ ap line_told same ∙ sym (line_told_lem r) in
        let line_same : seen (line_ended s) ≡ seen (line_ended r) = line_seen s ∙ ap (λ (q : Session). seen (line_ended q)) same ∙ sym (line_seen r) in
        let rest : runs (line_ended s) cs ≡ runs (line_ended r) cs = ih (line_ended s) (line_ended r) line_same in
        runs-line s c cs e ∙ ap (λ (l : List ℕ). l ++ runs (line_ended s) cs) told ∙ ap (λ (l : List ℕ). line_told r ++ l) rest ∙ sym (runs-line r c cs e)
    split (was_false e) ih =
        let more : seen (grown s (c ∷ [])) ≡ seen (grown r (c ∷ [])) =
        grown_seen s (c ∷ []) ∙ ap (λ (q : Session). seen (grown q (c ∷ []))) same ∙ sym (grown_seen r (c ∷ [])) in
        runs_byte s c cs e ∙ ih (grown s (c ∷ [])) (grown r (c ∷ [])) more ∙ sym (runs_byte r c cs e)

-- ---- where the first line feed stands

no_feed : (c : ℕ) (l : List ℕ) → index_of 10 (c ∷ l) ≡ length (c ∷ l) → (eqb c 10 ≡ false) × (index_of 10 l ≡ length l)
unfolding index_of
no_feed c l h = split (known (eqb c 10))
  where
    split : Known (eqb c 10) → (eqb c 10 ≡ false) × (index_of 10 l ≡ length l)
    split (was_true e) = let z : 0 ≡ suc (length l) = rw (e, index_of) at h in absurd (omega arith)
    split (was_false e) = let z : suc (index_of 10 l) ≡ suc (length l) = rw (e, index_of) at h in (e, omega arith)

before_feed : (s : List ℕ) → index_of 10 (take (index_of 10 s) s) ≡ length (take (index_of 10 s) s)
unfolding index_of
before_feed [] = refl
before_feed (c ∷ s) = split (known (eqb c 10)) (before_feed s)
  where
    split : Known (eqb c 10) → index_of 10 (take (index_of 10 s) s) ≡ length (take (index_of 10 s) s)
        → index_of 10 (take (index_of 10 (c ∷ s)) (c ∷ s)) ≡ length (take (index_of 10 (c ∷ s)) (c ∷ s))
    split (was_true e) ih = rw (e, index_of)
    split (was_false e) ih = rw (e, index_of, e, index_of) (ap suc ih)

at_feed : (s : List ℕ) → index_of 10 s < length s → take (index_of 10 s) s ++ (10 ∷ drop (suc (index_of 10 s)) s) ≡ s
unfolding index_of
at_feed [] h = absurd (omega arith)
at_feed (c ∷ s) h = split (known (eqb c 10)) (λ g. at_feed s g)
  where
    split : Known (eqb c 10) → (index_of 10 s < length s → take (index_of 10 s) s ++ (10 ∷ drop (suc (index_of 10 s)) s) ≡ s)
        → take (index_of 10 (c ∷ s)) (c ∷ s) ++ (10 ∷ drop (suc (index_of 10 (c ∷ s))) (c ∷ s)) ≡ c ∷ s
    split (was_true e) ih = rw (e, index_of) (ap (λ (x : ℕ). x ∷ s) (sym (eqb-true c 10 e)))
    split (was_false e) ih =
        let g : suc (index_of 10 s) < suc (length s) = rw (e, index_of) at h in
        rw (e, index_of) (ap (λ (r : List ℕ). c ∷ r) (ih (omega arith)))

-- ---- pieces

-- bytes with no line feed among them
pub runs_on : (l x : List ℕ) (s : Session) → index_of 10 l ≡ length l → runs s (l ++ x) ≡ runs (grown s l) x
runs_on [] x s h = runs_same x s (grown s []) (sym (grown_nothing s))
runs_on (c ∷ l) x s h =
    let n = no_feed c l h in
    runs_byte s c (l ++ x) n.0
    ∙ runs_on l x (grown s (c ∷ [])) n.1
    ∙ runs_same x (grown (grown s (c ∷ [])) l) (grown s (c ∷ l)) (grown_join s (c ∷ []) l)

pub runs_fed : (s : Session) (bytes rest : List ℕ) → runs s (bytes ++ rest) ≡ fed_told s bytes ++ runs (fed_session s bytes) (drop (taken_of bytes) bytes ++ rest)
unfolding pick fed_told fed_session taken_of
runs_fed s bytes rest = split (known (has_line bytes))
  where
    i : ℕ
    i = index_of 10 bytes

    split : Known (has_line bytes) → runs s (bytes ++ rest) ≡ fed_told s bytes ++ runs (fed_session s bytes) (drop (taken_of bytes) bytes ++ rest)
    split (was_true e) =
        let first = take i bytes in
        let behind = drop (suc i) bytes ++ rest in
        let cut : first ++ (10 ∷ behind) ≡ bytes ++ rest =
        sym (append_assoc first (10 ∷ drop (suc i) bytes) rest) ∙ ap (λ (l : List ℕ). l ++ rest) (at_feed bytes (ltb-true _ _ e)) in
        rw (e, add-one i)
        (ap (λ (l : List ℕ). runs s l) (sym cut) ∙ runs_on first (10 ∷ behind) s (before_feed bytes) ∙ runs-line (grown s first) 10 behind refl)
    split (was_false e) =
        let all : i ≡ length bytes = omega (arith, index_le 10 bytes, ltb-false (index_of 10 bytes) (length bytes) e) in
        rw (e, drop-length bytes) (runs_on bytes rest s all)
