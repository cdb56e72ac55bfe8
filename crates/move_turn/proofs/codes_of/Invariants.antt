-- The codes put so far stand for the steps of the bytes read so far.
use Prim.Native.Nat.{◌≤◌}
use mathlib.Core.Path.{◌≡◌}
use lib.ListN.{length}
use Rattle.board.specs.Limits.{max_edges}
use Rattle.move_turn.proofs.Decoding.{Decoded}
use Rattle.move_turn.proofs.codes_of.Given as goal

abbrev pub invariant-loop-i : goal.invariant-loop-i
invariant-loop-i l = (l.i ≤ length l.steps) × (length l.codes ≡ max_edges) × Decoded l.steps l.codes l.i
