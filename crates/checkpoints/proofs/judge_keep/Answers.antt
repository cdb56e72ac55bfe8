-- The letter is looked at first, then the board.
use mathlib.Core.Path.{sym, ◌∙◌}
use Rattle.checkpoints.proofs.Laws.{placed, unplaced, keep_outside, keep_shut, keep_free}
use Rattle.checkpoints.proofs.judge_keep.Goals as goal

pub returns-in_default-clause-answer : goal.returns-in_default-clause-answer
returns-in_default-clause-answer c = keep_outside _ _ (unplaced _ (sym c.letter_of.ensures ∙ c.in_default.is))

pub returns-then-loaded : goal.returns-then-loaded
returns-then-loaded c =
    let place = placed _ _ (sym c.letter_of.ensures ∙ c.in-Some.is) in record {
      answer = keep_free _ _ place.0 (sym c.loaded.ensures ∙ c.if-loaded.true);
      place = place.1;
    }

pub returns-else-loaded-clause-answer : goal.returns-else-loaded-clause-answer
returns-else-loaded-clause-answer c =
    let place = placed _ _ (sym c.letter_of.ensures ∙ c.in-Some.is) in
    keep_shut _ _ place.0 (sym c.loaded.ensures ∙ c.if-loaded.false)
