-- The first line, the edges and the terminals are written one behind the other; the list has the numbers of each.
use mathlib.Core.Path.{sym, ap}
use Prim.Native.Nat.{◌+◌, ◌*◌}
use native.Mathlib.Omega.{arith}
use lib.ListN.{length, length-take, length-drop}
use lib.Seq.{length-take-le}
use Rattle.lists.proofs.Laws.{rest_part}
use Rattle.catalog.proofs.Laws.{board_written}
use Rattle.catalog.proofs.put_board.Goals as goal

pub slice_bounds-put_line-end : goal.slice_bounds-put_line-end
slice_bounds-put_line-end c = sym (length-take-le 4 c.args.t.now (omega arith))

pub put_line-head-requires : goal.put_line-head-requires
put_line-head-requires c = (omega arith, omega (arith, length-take 4 c.args.t.now))

pub put_rows-to-requires : goal.put_rows-to-requires
put_rows-to-requires c =
    let t = c.args.t.now in
    let size = ap length (rest_part t 4) in
    (omega arith, (omega (arith, size, length-drop 4 t), omega (arith, length-take 4 t, c.put_line-head.ensures.upper_bound)))

pub put_rows-requires : goal.put_rows-requires
put_rows-requires c =
    let e = c.at_or-edges.result in
    let t = c.args.t.now in
    let size = ap length (rest_part t (4 + 3 * e)) in
    (omega arith, (omega (arith, size, length-drop (4 + 3 * e) t), omega (arith, length-take 4 t, c.put_line-head.ensures.upper_bound)))

pub returns : goal.returns
returns c =
    let all = board_written _ _ _ _ _ _ _ _ _ _ c.at_or-edges.ensures c.at_or-terminals.ensures c.put_line-head.ensures.value c.put_line-head.ensures.buf_after
    c.put_rows-to.ensures.value c.put_rows-to.ensures.buf_after c.put_rows.ensures.value c.put_rows.ensures.buf_after in record {
      value = all.0;
      buf_after = all.1;
    }
