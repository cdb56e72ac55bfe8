-- The last of the standing moves is the one before their count; where none stands there is the blank.
use mathlib.Core.Path.{sym, ◌∙◌}
use native.Mathlib.Omega.{arith}
use Rattle.journal.specs.Words.{entries_of}
use Rattle.journal.proofs.Laws.{last_standing, none-standing}
use Rattle.journal.proofs.last_entry.Goals as goal

pub returns-then-moves-eq0 : goal.returns-then-moves-eq0
returns-then-moves-eq0 c = rw c.if-moves-eq0.true (c.blank.ensures ∙ sym (none-standing (entries_of c.args.journal.now)))

pub returns : goal.returns
returns c =
    let gone = c.if-moves-eq0.false in
    c.entry_at.ensures ∙ sym (last_standing _ c.args.moves (entries_of c.args.journal.now) (omega (arith, gone)))
