-- The entry that the words at the place stand for is that at the place; past the end both are the blank.
use mathlib.Core.Path.{ap, ◌∙◌}
use Rattle.journal.specs.Words.{unpacked}
use Rattle.journal.proofs.Laws.{read_at}
use Rattle.journal.proofs.entry_at.Goals as goal

pub returns : goal.returns
returns c = c.unpack.ensures ∙ ap unpacked c.at_or-w.ensures ∙ read_at c.args.journal.now c.args.i
