-- The empty set of marks is what its call ensures; every other part is that of the board before the first move.
use Rattle.load.proofs.opened.Goals as goal

pub returns : goal.returns
returns c = cc
