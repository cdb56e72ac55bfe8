-- What is left of the lines, written into the buffer as it is now, gives all of them written into the first buffer.
use Prim.Native.Nat.{◌+◌, ◌-◌, ◌*◌, ◌≤◌}
use lib.ListN.{length}
use lib.Seq.{sets}
use Rattle.text.specs.Sizes.{line_bytes}
use Rattle.text.specs.Text.{lines_text}
use Rattle.text_writer.proofs.Writing.{TextLeft}
use Rattle.text_writer.proofs.put_rows.Given as goal

abbrev pub invariant-loop-i : goal.invariant-loop-i
invariant-loop-i g l =
    (l.to ≤ l.at + line_bytes g.rows.width * l.i)
    × TextLeft l.buf (sets l.initial.buf l.at (lines_text l.letter g.rows.row 0 l.count)) l.to (l.at + length (lines_text l.letter g.rows.row 0 l.count))
    (lines_text l.letter g.rows.row l.i (l.count - l.i))
