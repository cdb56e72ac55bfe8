-- What is left of the lines, written into the buffer as it is now, gives all of them written into the first buffer.
use Rattle.std.proofs.Common.{arith, ap, ◌∙◌}
use lib.ListN.{length}
use Rattle.text_writer.proofs.Writing.{lines_turned, lines_done}
use Rattle.text_writer.proofs.put_rows.Goals as goal

pub loop-i-preserved : goal.loop-i-preserved
loop-i-preserved g c =
    let given = c.requires.1.1.1.1.1 c.loop-i.i c.row.result c.loop-i-test.true c.row.ensures in
    let same = c.as_slice.ensures ∙ given.0 in
    let size = ap length same in
    (omega (arith, given.1, size), lines_turned _ _ _ _ c.loop-i-test.true c.loop-i.invariant.1 _ _ _ same c.put_line-to.ensures.buf_after c.put_line-to.ensures.value)

pub returns-clause-value : goal.returns-clause-value
returns-clause-value g c = (lines_done _ _ _ _ c.loop-i-test.false c.loop-i.invariant.1).0

pub returns-clause-buf_after : goal.returns-clause-buf_after
returns-clause-buf_after g c = (lines_done _ _ _ _ c.loop-i-test.false c.loop-i.invariant.1).1
