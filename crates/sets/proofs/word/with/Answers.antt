-- Where c joins, c is below 64, so the code's shift is 2 ^ c and the join sets that bit; else the set stays.
use mathlib.Core.Path.{sym, ◌∙◌}
use Rattle.lists.proofs.Laws.{pick_yes, pick_no}
use Rattle.sets.proofs.Bits.{with_code}
use Rattle.sets.proofs.word.with.Goals as goal

pub returns-then-joins : goal.returns-then-joins
returns-then-joins c = with_code _ _ c.requires ∙ sym (pick_yes _ _ _ c.if-joins.true)

pub returns-else-joins : goal.returns-else-joins
returns-else-joins c = sym (pick_no _ _ _ c.if-joins.false)
