-- The three parts are written one behind the other, each from where the last ended, which makes the whole text.
use Rattle.text_writer.proofs.Writing.{text_written}
use Rattle.text_writer.proofs.put_text.Goals as goal

pub returns : goal.returns
returns c =
    let head = c.put_line-head.ensures in
    let edges = c.put_rows-edges.ensures in
    let terminals = c.put_rows.ensures in
    let all = text_written c.args.net _ _ _ _ _ _ _ head.value head.buf_after edges.value edges.buf_after terminals.value terminals.buf_after in record {
      value = all.0;
      buf_after = all.1;
    }
