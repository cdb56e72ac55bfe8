-- The laws that the loops cite: what is left of a run, before and after one round, each in the code's own shape.
use mathlib.Core.Path.{◌≡◌, ◌∙◌}
use mathlib.Core.List.{List}
use Prim.Native.Nat.{ℕ, ◌+◌, ◌-◌, ◌<◌, ◌≤◌, min}
use native.Mathlib.Numerals.{add-one}
use lib.ListN.{length, get_or, set, drop, drop_of_length-le}
use lib.Seq.{drop-cons}
use Rattle.graph.proofs.Onwards.{lesser}
use Rattle.graph_cancel.specs.Lowering.{smallest, lowered, lower_cycle}

-- a fold over the edges of a cycle that has passed i of them
module _ (c : List ℕ) (i : ℕ) where
  pub smallest_turn : (flows : List ℕ) (x y : ℕ) → i < length c → y ≡ min (get_or flows (get_or c i 0) 0) x
      → smallest flows y (drop (i + 1) c) ≡ smallest flows x (drop i c)
  unfolding smallest
  smallest_turn flows x y h e = rw (drop-cons c i 0 h, add-one i, e ∙ lesser (get_or flows (get_or c i 0) 0) x)

  pub smallest_end : (flows : List ℕ) (x : ℕ) → length c ≤ i → smallest flows x (drop i c) ≡ x
  unfolding smallest
  smallest_end flows x h = rw (drop_of_length-le c h)

  pub lowered_turn : (flows r : List ℕ) (x : ℕ) → i < length c → r ≡ set flows (get_or c i 0) (get_or flows (get_or c i 0) 0 - x)
      → lowered r x (drop (i + 1) c) ≡ lowered flows x (drop i c)
  unfolding lowered
  lowered_turn flows r x h e = rw (drop-cons c i 0 h, add-one i, e)

  pub lowered_end : (flows : List ℕ) (x : ℕ) → length c ≤ i → lowered flows x (drop i c) ≡ flows
  unfolding lowered
  lowered_end flows x h = rw (drop_of_length-le c h)

-- the smallest flow, and then each edge lowered
pub lower_made : (flows cycle r : List ℕ) (x : ℕ) → x ≡ smallest flows (get_or flows (get_or cycle 0 0) 0) cycle → r ≡ lowered flows x cycle
    → r ≡ lower_cycle flows cycle
unfolding lower_cycle
lower_made flows cycle r x p q = q ∙ rw p
