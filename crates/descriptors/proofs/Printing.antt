-- A text that was written into a buffer from its start on is printed whole only where it fits: writing keeps the buffer's length.
use mathlib.Core.Path.{◌≡◌, ap}
use mathlib.Core.List.{List}
use Prim.Native.Nat.{ℕ, ◌≤◌}
use native.Mathlib.Omega.{arith}
use lib.ListN.{length}
use lib.Seq.{sets, length-sets}

pub printed_fits : (buf out text : List ℕ) (used : ℕ) → used ≡ length text → out ≡ sets buf 0 text → used ≤ length out → length text ≤ length buf
printed_fits buf out text used e q h = omega (arith, ap length q, length-sets buf 0 text)
