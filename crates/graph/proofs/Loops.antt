-- The laws that the loops cite: what is left of a run, before and after one round, each in the code's own shape.
use mathlib.Core.Path.{◌≡◌, refl, ◌∙◌}
use mathlib.Core.Bool.{Bool, true, false, ◌||◌, true≢false}
use mathlib.Core.List.{List}
use Prim.Native.Nat.{ℕ, zero, suc, ◌+◌, ◌-◌, ◌<◌, ◌≤◌}
use native.Mathlib.Numerals.{add-one}
use native.Mathlib.Omega.{arith}
use lib.ListN.{length, get_or, set, replicate}
use Rattle.lists.specs.Choice.{pick}
use Rattle.graph.specs.Graph.{opens, pass, passes, reached}

step : (n i : ℕ) → i < n → n - i ≡ suc (n - suc i)
step n i h = omega arith

none : (n i : ℕ) → n ≤ i → n - i ≡ 0
none n i h = omega arith

-- a test of two that does not hold
pub neither : (a b : Bool) → (a || b) ≡ false → (a ≡ false) × (b ≡ false)
neither true b h = absurd (true≢false h)
neither false b h = (refl, h)

-- passes over the edges
module _ (from to flows : List ℕ) where
  pub pass_turn : (m e : ℕ) (s r : List Bool) → e < m → r ≡ pick (opens from flows s e) (set s (get_or to e 0) true) s
      → pass from to flows (e + 1) (m - (e + 1)) r ≡ pass from to flows e (m - e) s
  unfolding pass
  pass_turn m e s r h q = rw (add-one e, step m e h, q)

  pub pass_end : (m e : ℕ) (s : List Bool) → m ≤ e → pass from to flows e (m - e) s ≡ s
  unfolding pass
  pass_end m e s h = rw (none m e h)

  pub passes_turn : (n k : ℕ) (s : List Bool) → k < n → passes from to flows (n - (k + 1)) (pass from to flows 0 (length flows) s) ≡ passes from to flows (n - k) s
  unfolding passes
  passes_turn n k s h = rw (add-one k, step n k h)

  pub passes_end : (n k : ℕ) (s : List Bool) → n ≤ k → passes from to flows (n - k) s ≡ s
  unfolding passes
  passes_end n k s h = rw (none n k h)

  -- a pass that changes nothing is the last that matters
  pub passes_still : (k : ℕ) (s : List Bool) → pass from to flows 0 (length flows) s ≡ s → passes from to flows k s ≡ s
  unfolding passes
  passes_still zero s e = refl
  passes_still (suc k) s e = rw e (passes_still k s e)

-- the parts of `reached`, one call after the other
pub reach_made : (from to flows : List ℕ) (n m v : ℕ) (one r : List Bool) → one ≡ set (replicate n false) v true → m ≡ n
    → r ≡ passes from to flows m one → r ≡ reached from to flows n v
unfolding reached
reach_made from to flows n m v one r p q e = e ∙ rw (q, p)
