-- The laws that the loop cites: what is left of a run, before and after one round, each in the code's own shape.
use mathlib.Core.Path.{◌≡◌, refl, ◌∙◌}
use mathlib.Core.Bool.{Bool, true}
use mathlib.Core.List.{List, []}
use Prim.Native.Nat.{ℕ, zero, suc, ◌+◌, ◌-◌, ◌<◌, ◌≤◌}
use native.Mathlib.Numerals.{add-one}
use native.Mathlib.Omega.{arith}
use lib.Dec.{ltb}
use borrow.Author.Tests.{lt-ltb, le-ltb}
use Rattle.graph.specs.Graph.{reached}
use Rattle.graph_cancel.specs.Cycles.{follow, cycle_vertex, cycle_from}
use Rattle.graph_cancel.specs.Lowering.{lower_cycle}
use Rattle.graph_cancel.specs.Cancelling.{cancelled}

step : (n i : ℕ) → i < n → n - i ≡ suc (n - suc i)
step n i h = omega arith

none : (n i : ℕ) → n ≤ i → n - i ≡ 0
none n i h = omega arith

-- the parts of one round, one call after the other
pub cycle_made : (tails heads flows : List ℕ) (n m v : ℕ) (s : List Bool) (cycle r : List ℕ) → n ≡ m → s ≡ reached heads tails flows n v
    → cycle ≡ follow tails heads flows s m [] v → r ≡ lower_cycle flows cycle → r ≡ lower_cycle flows (cycle_from tails heads n flows v)
unfolding cycle_from
cycle_made tails heads flows n m v s cycle r same p f e = e ∙ rw (f, p, same)

-- rounds of cancelling
module _ (tails heads : List ℕ) (n m r : ℕ) (flows : List ℕ) (v : ℕ) (at : v ≡ cycle_vertex tails heads n flows) where
  pub round_turn : (k : ℕ) (next : List ℕ) → k ≡ n → next ≡ lower_cycle flows (cycle_from tails heads k flows v) → r < m → v < n
      → cancelled tails heads n (m - (r + 1)) next ≡ cancelled tails heads n (m - r) flows
  unfolding cancelled
  round_turn k next same e h l =
      let t : ltb (cycle_vertex tails heads n flows) n ≡ true = rw (← at) (lt-ltb v n l) in
      rw (add-one r, step m r h, t, cancelled, e, same, at)

  pub round_none : n ≤ v → cancelled tails heads n (m - r) flows ≡ flows
  unfolding cancelled
  round_none h = go (m - r)
    where
      go : (k : ℕ) → cancelled tails heads n k flows ≡ flows
      go zero = refl
      go (suc k) = rw (← at, le-ltb v n h, cancelled)

pub rounds_over : (tails heads flows : List ℕ) (n m r : ℕ) → m ≤ r → cancelled tails heads n (m - r) flows ≡ flows
unfolding cancelled
rounds_over tails heads flows n m r h = rw (none m r h)
