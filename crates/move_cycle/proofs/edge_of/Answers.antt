-- Without `code_up`, which is there once or not at all, a code is its edge.
use borrow.Author.Rules.{rules}
use Rattle.move_cycle.proofs.Codes.{edge_code}
use Rattle.move_cycle.proofs.edge_of.Goals as goal

pub returns : goal.returns
returns c = edge_code _ (search rules)
