-- Board texts. The load answers as the reader does, which accepts the texts of lawful networks and no others; and no call changes the network that the writer prints.
use mathlib.Core.Path.{◌≡◌, sym, ap, ◌∙◌}
use mathlib.Core.List.{List}
use Prim.Native.Nat.{ℕ, ◌≤◌}
use native.Mathlib.Omega.{arith}
use Rattle.decimal.proofs.Laws.{number_decimal, number_canonical, number_below}
use Rattle.board.specs.Record.{play_stage, finished_stage}
use Rattle.board.specs.Whole.{Board}
use Rattle.text.specs.Text.{text_of}
use Rattle.text.specs.Results.{read_text}
use Rattle.text.specs.Results.{Reading}
use Rattle.text.proofs.Accepted.{accepted_as, accepted_text, accepts}
use Rattle.text_writer.proofs.WritesBack.{writes_loaded, short_refused}
use Rattle.load.specs.Load.{load_text}
use Rattle.load.proofs.Loads.{read_accepted, load_answer, load_text_lem, loaded_reading}
use Rattle.load.proofs.Longest.{text_short}
use Rattle.promises.specs.Plays.{OfPlay, OfFinish}
use Rattle.promises.specs.Texts.{IsBoardText, WritesText, AboutTexts}
use Rattle.promises.proofs.Plays.{play_standing, play_faithful, finish_stage, finish_network}

board_text_lem : (text : List ℕ) → (load_text text).answer ≡ 0 → IsBoardText text
board_text_lem text h =
    let net = (read_text text).network in
    let read = accepted_text text net (read_accepted text (sym (load_answer text) ∙ h)) in
    record { network = net; lines = read.0; lawful = read.1 }

is_loaded : (text : List ℕ) → IsBoardText text → (load_text text).answer ≡ 0
is_loaded text t =
    rw t.lines (load_answer (text_of t.network) ∙ ap (λ (r : Reading). r.answer) (accepts t.network t.lawful))

-- a board at some stage of play with the network of the load
writes_text : (text : List ℕ) (b : Board) (buf : List ℕ) → (load_text text).answer ≡ 0 → b.network ≡ (load_text text).board.network
    → (play_stage ≤ b.stage) × (b.stage ≤ finished_stage) → WritesText text b buf
writes_text text b buf h same stage =
    let read : read_text text ≡ accepted_as b.network = rw same (loaded_reading text h) in
    record {
      answers = λ fits. (writes_loaded text b buf read stage fits).0;
      writes = λ fits. (writes_loaded text b buf read stage fits).1;
      refuses = λ short. (short_refused text b buf read stage short).0;
      keeps = λ short. (short_refused text b buf read stage short).1;
    }

in_play : (text : List ℕ) (b : Board) (buf : List ℕ) → OfPlay text b → WritesText text b buf
in_play text b buf p =
    let stage = (play_standing text b p).stage in
    writes_text text b buf p.accepted (play_faithful text b p).network (omega (arith, stage), omega (arith, stage))

finished : (text : List ℕ) (f : Board) (buf : List ℕ) → OfFinish text f → WritesText text f buf
finished text f buf p =
    let stage = finish_stage text f p in
    writes_text text f buf p.play.accepted (finish_network text f p) (omega (arith, stage), omega (arith, stage))

pub about_texts : AboutTexts
about_texts = record {
  numbers = λ s n. (λ h. (number_canonical s n h, number_below s n h), λ h. rw h.0 (number_decimal n h.1));
  load_iff = λ text. (board_text_lem text, is_loaded text);
  load_board = load_text_lem;
  written_in_play = in_play;
  written_finished = finished;
  text_room = text_short;
}
