-- What the three calls ensure, each put into the next, and the theorem about every list of calls. The words that the load emptied stay those of the journal
-- (proofs/Words.antt).
use mathlib.Core.Path.{ap, ◌∙◌}
use lib.Seq.{sets}
use Rattle.std.specs.Result.{result_unwrap_or}
use Rattle.refusals.specs.Refusals.{answer_of}
use Rattle.board.specs.Whole.{Table, Board}
use Rattle.journal.specs.Words.{whole_of}
use Rattle.load.specs.Load.{Loaded}
use Rattle.move_list.specs.Calls.{game_of, answers, hints_of, noted}
use Rattle.move_list.specs.Codes.{calls_of}
use Rattle.playthrough.proofs.Held.{held}
use Rattle.playthrough.proofs.Words.{opened, said, gathered, words_after_lem}
use Rattle.playthrough.proofs.play_through.Goals as goal

pub returns : goal.returns
returns c =
    let args = c.args in
    let text = args.text.now in
    let calls = calls_of args.steps.now args.codes.now in
    let given = c.load-loaded.result in
    let empty = c.load-loaded.new.journal in
    let loads = c.load-loaded.ensures in
    let runs = c.run-board.ensures in
    let ends = c.finish-finish.ensures in
    let start =
    ap (λ (t : Table). whole_of t empty) (c.unwrap_or-start.ensures ∙ ap (λ (t : Table). result_unwrap_or given t) c.closed.ensures)
    ∙ opened given empty ∙ ap (λ (l : Loaded). l.board) loads.journal_after in
    let number = ap answer_of c.and-loading.ensures ∙ said given empty ∙ ap (λ (l : Loaded). l.answer) loads.journal_after in
    let whole =
    gathered text calls _ empty start loads.journal_after_2 _ _ runs.journal_after runs.journal_after_2 _ _ ends.journal_after ends.journal_after_2 _ number in
    let words = words_after_lem text calls _ empty start loads.journal_after_2 _ _ runs.journal_after runs.journal_after_2 _ _ ends.journal_after ends.journal_after_2 in
    let written = runs.buf_after ∙ ap (λ (b : Board). sets args.given.now 0 (answers (game_of b) calls)) start in
    let hints = runs.hints_after ∙ ap (λ (b : Board). noted args.hints.now 0 (hints_of (game_of b) calls)) start in record {
      journal_after = whole;
      given_after = written;
      hints_after = hints;
      journal_after_2 = words;
      holds = held text calls _ _ _ _ _ whole written hints;
    }
