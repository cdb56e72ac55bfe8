-- A board that is not writable (29), a text longer than the buffer (8), or the text: the three answers of the definition.
-- A first writing, into a buffer of one byte, gives the length; a writable board's counts are within what it asks for.
use mathlib.Core.Path.{sym, ◌∙◌}
use native.Mathlib.Omega.{arith}
use Rattle.text_writer.proofs.Writing.{writable_counts, write_closed, write_short, write_done}
use Rattle.text_writer.proofs.write.Goals as goal

pub returns-then-not-writable : goal.returns-then-not-writable
returns-then-not-writable c =
    let all = write_closed _ _ c.args.buf.now (sym c.writable.ensures ∙ c.if-not-writable.true) in record {
      value = all.0;
      buf_after = all.1;
    }

pub put_text-length-requires : goal.put_text-length-requires
put_text-length-requires c = writable_counts _ _ (sym c.writable.ensures ∙ c.if-not-writable.false)

pub returns-then-buf-length : goal.returns-then-buf-length
returns-then-buf-length c =
    let all = write_short _ _ c.args.buf.now (sym c.writable.ensures ∙ c.if-not-writable.false)
    (omega (arith, c.if-buf-length.true, c.put_text-length.ensures.value)) in record {
      value = all.0;
      buf_after = all.1;
    }

pub put_text-requires : goal.put_text-requires
put_text-requires c = writable_counts _ _ (sym c.writable.ensures ∙ c.if-not-writable.false)

pub returns : goal.returns
returns c =
    let all = write_done _ _ c.args.buf.now (sym c.writable.ensures ∙ c.if-not-writable.false) _ _
    (omega (arith, c.if-buf-length.false, c.put_text-length.ensures.value)) c.put_text.ensures.value c.put_text.ensures.buf_after in record {
      value = all.0;
      buf_after = all.1;
    }
