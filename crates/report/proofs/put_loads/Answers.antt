-- The lines by the sets of the routes are those by the rows.
use native.Mathlib.Omega.{arith}
use Rattle.report.proofs.Rows.{set_lines}
use Rattle.report.proofs.put_loads.Goals as goal

pub returns : goal.returns
returns c =
    let put = c.put_rows.ensures in
    let same = set_lines c.args.net c.args.acyclic.now c.args.routes.now.counts c.args.routes.now.rows _ c.requires.1.0 c.edge_sets-edges.ensures.are in record {
      value = rw (← same) put.value;
      upper_bound = omega arith;
      buf_after = rw (← same) put.buf_after;
    }
