-- What is left of the line, written into the buffer as it is now, gives the line written into the first buffer.
use mathlib.Core.Path.{refl, ap, ◌∙◌}
use native.Mathlib.Omega.{arith}
use lib.ListN.{length}
use lib.Seq.{length-sets}
use Rattle.text_writer.proofs.Writing.{line-begun, line-length, line_turned, line_done}
use Rattle.text_writer.proofs.put_line.Goals as goal

pub loop-i-init : goal.loop-i-init
loop-i-init c = (omega arith, record { size = refl; gives = refl })

pub loop-i-preserved : goal.loop-i-preserved
loop-i-preserved c = (
  omega arith,
  line_turned _ _ c.loop-i-test.true c.loop-i.invariant.1 _ _ _ _ c.write_number-end.ensures.buf_after c.write_number-end.ensures.value
      c.end_byte.ensures c.put-in-loop-i.ensures,
)

pub shape_of-buf : goal.shape_of-buf
shape_of-buf c =
    let at_args = c.args in
    ap length
    ((line_done at_args.values.now _ c.loop-i-test.false c.loop-i.invariant.1).1
    ∙ line-begun at_args.letter at_args.at at_args.values.now at_args.buf.now _ _ c.put.ensures c.put-2.ensures)
    ∙ simp length-sets

pub returns : goal.returns
returns c =
    let at_args = c.args in
    let d = line_done at_args.values.now _ c.loop-i-test.false c.loop-i.invariant.1 in record {
      value = d.0 ∙ line-length _ _ _;
      upper_bound = omega arith;
      buf_after = d.1 ∙ line-begun at_args.letter at_args.at at_args.values.now at_args.buf.now _ _ c.put.ensures c.put-2.ensures;
    }
