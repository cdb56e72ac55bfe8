-- The session that a sitting and the words of its journal stand for.
use Rattle.std.specs.Prelude.{List, ℕ, ◌+◌}
use Rattle.journal.specs.Words.{whole_of}
use Rattle.play_session.specs.Machine.{Session, reading_stage, playing_stage, over_stage}
use Rattle.play_session.specs.declared.Stage.{Stage}
use Rattle.play_session.specs.declared.Stage.TheVariants.{Reading, Playing, Over, Unknown}
use Rattle.play_session.specs.declared.Session as code

-- the code's `Session`: its board is without the journal
abbrev pub Sitting : Type 0
Sitting = code.Session

-- the number of a stage
abbrev pub stage_number : Stage → ℕ
stage_number Reading = reading_stage
stage_number Playing = playing_stage
stage_number Over = over_stage
stage_number (Unknown n) = 3 + n

abbrev pub session_of : Sitting → List (List ℕ) → Session
session_of s words = record {
  stage = stage_number s.stage;
  left = s.left;
  used = s.used;
  text = s.text;
  scan = s.scan;
  board = whole_of s.board words;
}
