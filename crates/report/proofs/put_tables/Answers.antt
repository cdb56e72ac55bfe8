-- The first line, the lines of the routes and the lines of the loads stand one behind the other.
use native.Mathlib.Omega.{arith}
use Rattle.report.proofs.Answers.{tables_written}
use Rattle.report.proofs.put_tables.Goals as goal

pub returns : goal.returns
returns c =
    let args = c.args in
    let d = tables_written args.net args.acyclic.now args.routes.now.counts args.routes.now.rows args.buf.now _ _ _ args.at _ _ _
    c.put_line-head.ensures.value c.put_line-head.ensures.buf_after c.put_routes-to.ensures.value c.put_routes-to.ensures.buf_after
    c.put_loads.ensures.value c.put_loads.ensures.buf_after in record {
      value = d.0;
      upper_bound = omega arith;
      buf_after = d.1;
    }
