-- The board is found in the table and there whole, so its text is the text of its number, which is measured first and then written.
-- `table` is unfolded where the code's numbers must be the table's.
use mathlib.Core.Path.{ap, ◌∙◌}
use Prim.Native.Nat.{◌≤◌}
use native.Mathlib.Omega.{arith}
use lib.ListN.{length}
use lib.Seq.{sets}
use Rattle.catalog.specs.Table.{table}
use Rattle.catalog.specs.Catalog.{catalog_text}
use Rattle.catalog.proofs.Laws.{sets_front, call_none, call_short, call_done}
use Rattle.catalog.proofs.Rule.{board_fits, board_text_lem}
use Rattle.catalog.proofs.write.Goals as goal

pub returns-then-number-ge-BOARDS : goal.returns-then-number-ge-BOARDS
returns-then-number-ge-BOARDS c =
    let all = call_none _ _ (omega (arith, c.if-number-ge-BOARDS.true)) in record {
      value = all.0;
      buf_after = all.1;
    }

pub put_board-length-requires : goal.put_board-length-requires
unfolding table
put_board-length-requires c =
    let at_start = c.start-from in
    board_fits _ at_start.result (omega (arith, c.if-number-ge-BOARDS.false)) at_start.ensures.t_value

pub returns-then-buf-length : goal.returns-then-buf-length
unfolding table
returns-then-buf-length c =
    let text = board_text_lem _ c.start-from.result c.if-number-ge-BOARDS.false c.start-from.ensures.t_value in
    let all = call_short _ _ c.if-number-ge-BOARDS.false (omega (arith, c.if-buf-length.true, c.put_board-length.ensures.value, ap length text)) in record {
      value = all.0;
      buf_after = all.1;
    }

pub put_board-requires : goal.put_board-requires
unfolding table
put_board-requires c =
    board_fits _ c.start-from.result c.if-number-ge-BOARDS.false c.start-from.ensures.t_value

pub returns : goal.returns
unfolding table
returns c =
    let at_args = c.args in
    let buf = at_args.buf.now in
    let text = board_text_lem _ c.start-from.result c.if-number-ge-BOARDS.false c.start-from.ensures.t_value in
    let fits : length (catalog_text at_args.number) ≤ length buf = omega (arith, c.if-buf-length.false, c.put_board-length.ensures.value, ap length text) in
    let all = call_done _ _ c.if-number-ge-BOARDS.false fits _ _ (c.put_board.ensures.value ∙ ap length text)
    (c.put_board.ensures.buf_after ∙ ap (λ s. sets buf 0 s) text ∙ sets_front (catalog_text at_args.number) buf fits) in record {
      value = all.0;
      buf_after = all.1;
    }
