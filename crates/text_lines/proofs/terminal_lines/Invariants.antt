-- What the terminal lines left make of the network so far is what all of them make of the first network.
-- Its count of vertices never changes, so the ranges made once are those of each line.
use Rattle.std.proofs.Common.{◌≡◌, ◌-◌, ◌≤◌, length, drop}
use Rattle.text.specs.Text.{terminal_lines}
use Rattle.text_lines.proofs.terminal_lines.Given as goal

abbrev pub invariant-loop-j : goal.invariant-loop-j
invariant-loop-j l = record {
  within : l.at ≤ length l.s;
  vertices : l.out.vertices ≡ l.initial.out.vertices;
  rest : terminal_lines l.out l.j (l.j-end - l.j) (drop l.at l.s) ≡ terminal_lines l.initial.out 0 l.j-end (drop l.start l.s);
}
