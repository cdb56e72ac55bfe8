-- The bound asked for keeps the sum from wrapping; past the end the list's store changes nothing, like the code.
use mathlib.Core.Path.{sym}
use lib.Seq.{set_out}
use Rattle.text_judge.proofs.add_at.Goals as goal

pub returns-else-k-sums : goal.returns-else-k-sums
returns-else-k-sums c = sym (set_out _ _ _ c.if-k-sums.false)
