-- A true first test gives the second test and a false one gives false: the two clauses of `both`.
use Rattle.lists.specs.Choice.{both}
use Rattle.lists.proofs.and.Goals as goal

pub returns-then-a : goal.returns-then-a
unfolding both
returns-then-a c = rw c.if-a.true

pub returns-else-a : goal.returns-else-a
unfolding both
returns-else-a c = rw c.if-a.false
