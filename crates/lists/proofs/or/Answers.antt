-- A true first test gives true and a false one gives the second test: the two clauses of `either`.
use Rattle.lists.specs.Choice.{either}
use Rattle.lists.proofs.or.Goals as goal

pub returns-then-a : goal.returns-then-a
unfolding either
returns-then-a c = rw c.if-a.true

pub returns-else-a : goal.returns-else-a
unfolding either
returns-else-a c = rw c.if-a.false
