-- What ends a field goes by how many fields are left on its line.
use mathlib.Core.Path.{◌≡◌}
use mathlib.Core.List.{List, [], ◌∷◌}
use Prim.Native.Nat.{ℕ, suc, ◌-◌, ◌<◌}
use native.Mathlib.Omega.{arith}
use lib.Dec.{ltb}
use lib.ListN.{length, drop, length-drop}
use borrow.Author.Tests.{lt-ltb, le-ltb}
use Rattle.lists.specs.Choice.{pick}
use Rattle.lists.proofs.Laws.{pick_yes, pick_no}
use Rattle.text.specs.Text.{end_byte}

-- what the code takes for the end of the field before those that are left
pub end_after : {A : Type 0} (l : List A) (k i : ℕ) → length l ≡ k → i < k → pick (ltb 0 (k - i - 1)) 44 10 ≡ end_byte (drop (suc i) l)
end_after {A} l k i e h = go (drop (suc i) l) (let d = length-drop (suc i) l in omega arith)
  where
    go : (t : List A) → k - i - 1 ≡ length t → pick (ltb 0 (k - i - 1)) 44 10 ≡ end_byte t
    go [] p = pick_no _ _ _ (le-ltb 0 (k - i - 1) (omega arith))
    go (y ∷ ys) p = pick_yes _ _ _ (lt-ltb 0 (k - i - 1) (omega arith))
