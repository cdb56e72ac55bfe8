-- A byte before A, one from A to D, and one behind.
use mathlib.Core.Path.{◌∙◌}
use native.Mathlib.Omega.{arith}
use Rattle.checkpoints.proofs.Laws.{letter_before, letter_inside, letter-behind}
use Rattle.checkpoints.proofs.letter_of.Goals as goal

pub returns-in_err-k : goal.returns-in_err-k
returns-in_err-k c = let before = c.in_err-k.ensures in c.from_residual.ensures ∙ letter_before _ (omega (arith, before))

pub returns-then-k-lt-LETTERS : goal.returns-then-k-lt-LETTERS
returns-then-k-lt-LETTERS c = letter_inside _ _ c.in_ok-k.ensures.0 c.in_ok-k.ensures.1 c.if-k-lt-LETTERS.true

pub returns-else-k-lt-LETTERS : goal.returns-else-k-lt-LETTERS
returns-else-k-lt-LETTERS c = letter-behind _ _ c.in_ok-k.ensures.0 c.in_ok-k.ensures.1 c.if-k-lt-LETTERS.false
