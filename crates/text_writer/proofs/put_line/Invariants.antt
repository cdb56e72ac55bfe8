-- What is left of the line, written into the buffer as it is now, gives the line written into the first buffer.
use Prim.Native.Nat.{◌+◌, ◌≤◌}
use lib.ListN.{length, drop}
use lib.Seq.{sets}
use Rattle.text.specs.Sizes.{line_bytes}
use Rattle.text.specs.Text.{numbers_text}
use Rattle.text_writer.proofs.Writing.{TextLeft}
use Rattle.text_writer.proofs.put_line.Given as goal

abbrev pub invariant-loop-i : goal.invariant-loop-i
invariant-loop-i l =
    (l.to ≤ l.at + line_bytes l.i)
    × TextLeft l.buf (sets l.initial.buf (l.at + 2) (numbers_text l.values)) l.to (l.at + 2 + length (numbers_text l.values)) (numbers_text (drop l.i l.values))
