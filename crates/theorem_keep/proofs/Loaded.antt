-- A loaded board keeps the invariant, and so it is intact: it is the board of a lawful network before the first move.
use mathlib.Core.Path.{◌≡◌}
use mathlib.Core.Bool.{true}
use mathlib.Core.List.{List}
use Prim.Native.Nat.{ℕ}
use Rattle.load.specs.Load.{load_text}
use Rattle.move_guard.specs.Guard.{intact}
use Rattle.move_guard.proofs.Facts.{playing-intact}
use Rattle.theorem_cycles.specs.Invariant.{Invariant}
use Rattle.theorem_keep.proofs.Standing.{loaded-standing, standing-playing}

module _ (s : List ℕ) (h : (load_text s).answer ≡ 0) where
  pub loaded_invariant : Invariant (load_text s).board
  loaded_invariant = (loaded-standing s h).inv

  pub loaded-intact : intact (load_text s).board ≡ true
  loaded-intact = playing-intact (load_text s).board (standing-playing (load_text s).board (loaded-standing s h))
