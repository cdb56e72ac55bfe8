-- How many flows of a list are positive. Where each positive flow of one list is positive in another, the other has as many or more; and more, where one of its
-- positive flows is 0 in the first.
use mathlib.Core.Path.{◌≡◌}
use mathlib.Core.List.{List, [], ◌∷◌}
use Prim.Native.Nat.{ℕ, zero, suc, ◌≤◌, ◌<◌}
use native.Mathlib.Omega.{arith}
use lib.ListN.{length, get_or}
use Rattle.lists.proofs.Laws.{above_inside}
use Rattle.graph_flows.specs.Inner.{positives}

pub positives_some : (flows : List ℕ) (e : ℕ) → 0 < get_or flows e 0 → 0 < positives flows
unfolding positives
positives_some [] e h = absurd (omega arith)
positives_some (zero ∷ fs) zero h = absurd (omega arith)
positives_some (zero ∷ fs) (suc e) h = positives_some fs e h
positives_some (suc x ∷ fs) e h = omega arith

-- no entry from n on is positive
pub positives_within : (fs : List ℕ) (n : ℕ) → ((e : ℕ) → 0 < get_or fs e 0 → e < n) → positives fs ≤ n
unfolding positives
positives_within [] n h = omega arith
positives_within (zero ∷ fs) zero h = positives_within fs zero (λ e p. absurd (omega (arith, h (suc e) p)))
positives_within (zero ∷ fs) (suc n) h = omega (arith, positives_within fs n (λ e p. omega (arith, h (suc e) p)))
positives_within (suc x ∷ fs) zero h = absurd (omega (arith, h 0 (omega arith)))
positives_within (suc x ∷ fs) (suc n) h = omega (arith, positives_within fs n (λ e p. omega (arith, h (suc e) p)))

pub positives-most : (flows : List ℕ) → positives flows ≤ length flows
positives-most flows = positives_within flows (length flows) (above_inside flows)

-- the two lists
pub positives_below : (gs fs : List ℕ) → length gs ≡ length fs → ((e : ℕ) → 0 < get_or gs e 0 → 0 < get_or fs e 0) → positives gs ≤ positives fs
unfolding positives
positives_below [] fs l c = omega arith
positives_below (g ∷ gs) [] l c = absurd (omega arith)
positives_below (zero ∷ gs) (zero ∷ fs) l c = positives_below gs fs (omega arith) (λ e. c (suc e))
positives_below (zero ∷ gs) (suc f ∷ fs) l c = omega (arith, positives_below gs fs (omega arith) (λ e. c (suc e)))
positives_below (suc g ∷ gs) (zero ∷ fs) l c = absurd (omega (arith, c 0 (omega arith)))
positives_below (suc g ∷ gs) (suc f ∷ fs) l c = omega (arith, positives_below gs fs (omega arith) (λ e. c (suc e)))

pub positives_fewer : (gs fs : List ℕ) (d : ℕ) → length gs ≡ length fs → ((e : ℕ) → 0 < get_or gs e 0 → 0 < get_or fs e 0) → get_or gs d 0 ≡ 0 → 0 < get_or fs d 0
    → positives gs < positives fs
unfolding positives
positives_fewer gs [] d l c z p = absurd (omega arith)
positives_fewer [] (f ∷ fs) d l c z p = absurd (omega arith)
positives_fewer (g ∷ gs) (zero ∷ fs) zero l c z p = absurd (omega arith)
positives_fewer (zero ∷ gs) (suc f ∷ fs) zero l c z p = omega (arith, positives_below gs fs (omega arith) (λ e. c (suc e)))
positives_fewer (suc g ∷ gs) (suc f ∷ fs) zero l c z p = absurd (omega arith)
positives_fewer (zero ∷ gs) (zero ∷ fs) (suc d) l c z p = positives_fewer gs fs d (omega arith) (λ e. c (suc e)) z p
positives_fewer (zero ∷ gs) (suc f ∷ fs) (suc d) l c z p = omega (arith, positives_fewer gs fs d (omega arith) (λ e. c (suc e)) z p)
positives_fewer (suc g ∷ gs) (zero ∷ fs) (suc d) l c z p = absurd (omega (arith, c 0 (omega arith)))
positives_fewer (suc g ∷ gs) (suc f ∷ fs) (suc d) l c z p = omega (arith, positives_fewer gs fs d (omega arith) (λ e. c (suc e)) z p)
