-- Flows changed on sets of edges.
use Rattle.std.specs.Prelude.{List, ℕ, zero, suc, ◌+◌, ◌-◌, length, get_or, set}
use Rattle.lists.specs.Choice.{pick}
use Rattle.sets.specs.Sets.{has_bit}

module _ (x downs ups : ℕ) where
  -- "Down-steps fall and up-steps rise by it": a flow f of edge e
  unfoldable pub shifted_at : ℕ → ℕ → ℕ
  shifted_at e f = pick (has_bit downs e) (f - x) (pick (has_bit ups e) (f + x) f)

  -- new, with the changed flows of e, e + 1, .., e + k - 1
  unfoldable pub shift_from : List ℕ → List ℕ → ℕ → ℕ → List ℕ
  shift_from flows new e zero = new
  shift_from flows new e (suc k) = shift_from flows (set new e (shifted_at e (get_or flows e 0))) (suc e) k

  -- all of them
  unfoldable pub shifted : List ℕ → List ℕ
  shifted flows = shift_from flows flows 0 (length flows)
