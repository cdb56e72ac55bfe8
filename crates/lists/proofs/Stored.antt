-- A run of stores, element by element: storing the next one leaves the rest of the run to store; at the end nothing is left; past the end of the list nothing
-- is stored.
use mathlib.Core.Path.{◌≡◌, refl}
use mathlib.Core.List.{List, [], ◌∷◌}
use Prim.Native.Nat.{ℕ, suc, ◌+◌, ◌<◌, ◌≤◌}
use native.Mathlib.Numerals.{add-one}
use native.Mathlib.Omega.{arith}
use lib.ListN.{length, get_or, drop, set, drop_of_length-le}
use lib.Seq.{sets, drop-cons, set_out}

-- from place k on; i of the elements are stored
module _ (buf xs : List ℕ) (k i : ℕ) where
  pub stored_turn : (z : ℕ) (r : List ℕ) → i < length xs → r ≡ set buf k (get_or xs i z) → sets r (k + 1) (drop (i + 1) xs) ≡ sets buf k (drop i xs)
  stored_turn z r h e = rw (e, drop-cons xs i z h, add-one i, add-one k)

  pub stored_end : length xs ≤ i → buf ≡ sets buf k (drop i xs)
  stored_end h = rw (drop_of_length-le xs h)

pub stored_past : (buf xs : List ℕ) (k : ℕ) → length buf ≤ k → sets buf k xs ≡ buf
stored_past buf [] k h = refl
stored_past buf (x ∷ xs) k h = rw (set_out buf k x h) (stored_past buf xs (suc k) (omega arith))
