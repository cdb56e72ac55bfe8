-- The fields left, read on from the place reached with the values so far, give what the whole line gives.
use Rattle.std.proofs.Common.{◌≡◌, ◌≤◌, length}
use Rattle.text.specs.Text.{line}
use Rattle.text_lines.proofs.Reading.{line_rest}
use Rattle.text_lines.proofs.line.Given as goal

abbrev pub invariant-loop-i : goal.invariant-loop-i
invariant-loop-i g l = record {
  within : l.at ≤ length l.s;
  size : length l.values ≡ length l.ranges;
  rest : line_rest l.ranges l.s l.values l.at l.i ≡ line l.letter l.ranges l.s;
}
