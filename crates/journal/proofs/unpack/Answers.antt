-- The first word says which move it is.
use mathlib.Core.Path.{sym}
use Rattle.lists.proofs.Laws.{pick_yes, pick_no}
use borrow.Author.Tests.{eq-eqb, ne_eqb}
use Rattle.journal.specs.Words.{unpacked, unpacked_carry, unpacked_turn}
use Rattle.journal.proofs.unpack.Goals as goal

pub returns-then-w-eq0 : goal.returns-then-w-eq0
unfolding unpacked
returns-then-w-eq0 c = sym (pick_yes _ (unpacked_carry c.args.w) (unpacked_turn c.args.w) (eq-eqb _ 0 c.if-w-eq0.true))

pub returns : goal.returns
unfolding unpacked
returns c = sym (pick_no _ (unpacked_carry c.args.w) (unpacked_turn c.args.w) (ne_eqb _ 0 c.if-w-eq0.false))
