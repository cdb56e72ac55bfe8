-- What is left of the bytes, read on from the record reached, gives the whole.
use mathlib.Core.Path.{◌≡◌}
use lib.ListN.{drop}
use Rattle.play_lines.specs.Scans.{scan_all}
use Rattle.play_lines.proofs.read_on.Given as goal

abbrev pub invariant-loop-c : goal.invariant-loop-c
invariant-loop-c l = scan_all l.state (drop l.c-index l.bytes) ≡ scan_all l.initial.state l.bytes
