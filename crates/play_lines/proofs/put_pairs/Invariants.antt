-- What is left of the steps, written into the buffer as it is now, gives all of them written into the first buffer.
use Prim.Native.Nat.{◌+◌, ◌*◌, ◌≤◌}
use lib.ListN.{length, drop}
use lib.Seq.{sets}
use Rattle.text_writer.proofs.Writing.{TextLeft}
use Rattle.move_cycle.specs.Steps.{code_steps}
use Rattle.play_lines.specs.MoveLines.{steps_text}
use Rattle.play_lines.specs.Inner.{step_bytes}
use Rattle.play_lines.proofs.put_pairs.Given as goal

abbrev pub invariant-loop-step : goal.invariant-loop-step
invariant-loop-step l =
    (l.to ≤ l.at + step_bytes * l.step-index)
    × TextLeft l.buf (sets l.initial.buf l.at (steps_text (code_steps l.steps))) l.to (l.at + length (steps_text (code_steps l.steps)))
    (steps_text (code_steps (drop l.step-index l.steps)))
