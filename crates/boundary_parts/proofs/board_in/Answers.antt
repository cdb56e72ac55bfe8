-- What the two calls ensure, and the rows that are read.
use Rattle.boundary_parts.proofs.Rows.{stands-for}
use Rattle.boundary_parts.proofs.board_in.Goals as goal

pub returns : goal.returns
returns c =
    let args = c.args in
    stands-for args.numbers.now args.edges.now args.terminals.now _ _ _ c.stage_in.ensures c.network_in.ensures
