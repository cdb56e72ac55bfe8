-- What the edge lines left make of the network so far is what all of them make of the first network.
-- Its count of vertices never changes, so the ranges made once are those of each line.
use Rattle.std.proofs.Common.{◌≡◌, ◌-◌, ◌≤◌, length, drop}
use Rattle.text.specs.Text.{edge_lines}
use Rattle.text_lines.proofs.edge_lines.Given as goal

abbrev pub invariant-loop-i : goal.invariant-loop-i
invariant-loop-i l = record {
  within : l.at ≤ length l.s;
  vertices : l.out.vertices ≡ l.initial.out.vertices;
  rest : edge_lines l.out l.i (l.i-end - l.i) (drop l.at l.s) ≡ edge_lines l.initial.out 0 l.i-end (drop l.start l.s);
}
