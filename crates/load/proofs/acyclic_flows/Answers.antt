-- The vertices and the edges are within what `cancel` asks for; what it leaves in the flows is the answer.
use mathlib.Core.Path.{◌≡◌}
use lib.ListN.{length}
use native.Mathlib.Omega.{arith}
use borrow.Author.Rules.{rules}
use Rattle.board.specs.Limits.{max_edges}
use Rattle.load.proofs.acyclic_flows.Goals as goal

pub cancel-requires : goal.cancel-requires
cancel-requires c =
    let heads : length c.args.net.heads ≡ max_edges = search rules in
    let flows : length c.args.net.flows ≡ max_edges = search rules in record {
      heads_in_bounds = (omega arith, omega arith);
      n_le_word_width = omega (arith, c.requires);
    }
