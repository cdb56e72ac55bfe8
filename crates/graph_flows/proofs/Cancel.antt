-- Cycle cancelling. Lowering a cycle by its smallest flow keeps the balance at every vertex, raises no flow, and makes one positive edge zero.
-- So after as many rounds as there are positive edges none is left, and a round that finds no cycle ends it earlier: no positive cycle is left.
use mathlib.Core.Path.{◌≡◌, refl, ap, sym, ◌∙◌}
use mathlib.Core.Bool.{false, true, true≢false}
use mathlib.Core.Logic.{◌⊎◌, inl, inr}
use mathlib.Core.List.{List, [], ◌∷◌}
use Prim.Native.Nat.{ℕ, zero, suc, ◌+◌, ◌-◌, ◌≤◌, ◌<◌}
use native.Mathlib.Omega.{arith}
use native.Mathlib.Nat.{not-suc-le-zero}
use lib.Dec.{ltb}
use lib.ListN.{length, get_or, set}
use borrow.Author.Tests.{ltb-true, ltb-false}
use Rattle.lists.specs.Choice.{pick}
use Rattle.lists.specs.Lists.{sum_at}
use Rattle.lists.specs.Members.{has, Distinct}
use Rattle.lists.proofs.Laws.{Known, was_true, was_false, known, pick_yes, pick_no}
use Rattle.lists.proofs.Lowest.{lowest_least}
use Rattle.lists.proofs.Pigeon.{has_nothing, has_here, has_later, has_cases}
use Rattle.graph_cancel.specs.Cycles.{on_cycle, cycle_vertex, cycle_from}
use Rattle.graph_cancel.specs.Lowering.{smallest, lowered, lower_cycle}
use Rattle.graph_cancel.specs.Cancelling.{cancelled, acyclic_flows}
use Rattle.graph_flows.specs.Trails.{down, edges_of, downs, In}
use Rattle.graph_flows.specs.Inner.{positives, changed_along, Fits}
use Rattle.graph_flows.specs.Paths.{Acyclic, EndsBelow}
use Rattle.graph_flows.proofs.Change.{changed-length, closed_trail, changed_at}
use Rattle.graph_flows.proofs.Positives.{positives_some, positives-most, positives_fewer}
use Rattle.graph_flows.proofs.Walk.{Cycle, cycle_found, first_on_cycle, on_cycle_first}

-- the smallest flow is one of the flows, and at most each
record LeastMet (flows es : List ℕ) (x : ℕ) : Type 0 where
  edge : ℕ
  among : has edge es ≡ true
  value : get_or flows edge 0 ≡ x

wider : {flows es fs : List ℕ} {x : ℕ} → ((e : ℕ) → has e es ≡ true → has e fs ≡ true) → LeastMet flows es x → LeastMet flows fs x
wider f a = record { edge = a.edge; among = f a.edge a.among; value = a.value }

-- an element that comes twice in front
has_skip : (e d c : ℕ) (es : List ℕ) → has e (d ∷ es) ≡ true → has e (d ∷ c ∷ es) ≡ true
has_skip e d c es h = at (has_cases e d es h)
  where
    at : (e ≡ d) ⊎ (has e es ≡ true) → has e (d ∷ c ∷ es) ≡ true
    at (inl q) = has_here e d (c ∷ es) q
    at (inr i) = has_later e d (c ∷ es) (has_later e c es i)

has_twice : (e d : ℕ) (es : List ℕ) → has e (d ∷ d ∷ es) ≡ true → has e (d ∷ es) ≡ true
has_twice e d es h = at (has_cases e d (d ∷ es) h)
  where
    at : (e ≡ d) ⊎ (has e (d ∷ es) ≡ true) → has e (d ∷ es) ≡ true
    at (inl q) = has_here e d es q
    at (inr i) = i

module _ (flows : List ℕ) where
  attained : (d : ℕ) (es : List ℕ) → LeastMet flows (d ∷ es) (smallest flows (get_or flows d 0) es)
  unfolding smallest
  attained d [] = record { edge = d; among = has_here d d [] refl; value = refl }
  attained d (e ∷ es) = at (known (ltb (get_or flows e 0) (get_or flows d 0))) (attained e es) (attained d es)
    where
      at : Known (ltb (get_or flows e 0) (get_or flows d 0)) → LeastMet flows (e ∷ es) (smallest flows (get_or flows e 0) es)
          → LeastMet flows (d ∷ es) (smallest flows (get_or flows d 0) es) → LeastMet flows (d ∷ e ∷ es) (smallest flows (get_or flows d 0) (e ∷ es))
      at (was_true t) a b = rw (pick_yes (ltb (get_or flows e 0) (get_or flows d 0)) (get_or flows e 0) (get_or flows d 0) t) (wider (λ c. has_later c d (e ∷ es)) a)
      at (was_false t) a b = rw (pick_no (ltb (get_or flows e 0) (get_or flows d 0)) (get_or flows e 0) (get_or flows d 0) t) (wider (λ c. has_skip c d e es) b)

  pick-smaller : (x y : ℕ) → (pick (ltb x y) x y ≤ x) × (pick (ltb x y) x y ≤ y)
  pick-smaller x y = at (known (ltb x y))
    where
      at : Known (ltb x y) → (pick (ltb x y) x y ≤ x) × (pick (ltb x y) x y ≤ y)
      at (was_true t) = let h = ltb-true x y t in rw (pick_yes (ltb x y) x y t) (omega arith, omega arith)
      at (was_false t) = let h = ltb-false x y t in rw (pick_no (ltb x y) x y t) (omega arith, omega arith)

  smallest_start : (x : ℕ) (es : List ℕ) → smallest flows x es ≤ x
  unfolding smallest
  smallest_start x [] = omega arith
  smallest_start x (e ∷ es) =
      let y = pick (ltb (get_or flows e 0) x) (get_or flows e 0) x in
      omega (arith, smallest_start y es, (pick-smaller (get_or flows e 0) x).1)

  smallest_each : (x : ℕ) (es : List ℕ) (d : ℕ) → has d es ≡ true → smallest flows x es ≤ get_or flows d 0
  unfolding smallest
  smallest_each x [] d h = absurd (has_nothing d h)
  smallest_each x (e ∷ es) d h =
      let y = pick (ltb (get_or flows e 0) x) (get_or flows e 0) x in
      at (has_cases d e es h) (λ i. smallest_each y es d i)
    where
      at : (d ≡ e) ⊎ (has d es ≡ true) → (has d es ≡ true → smallest flows (pick (ltb (get_or flows e 0) x) (get_or flows e 0) x) es ≤ get_or flows d 0)
          → smallest flows (pick (ltb (get_or flows e 0) x) (get_or flows e 0) x) es ≤ get_or flows d 0
      at (inl q) ih =
          let y = pick (ltb (get_or flows e 0) x) (get_or flows e 0) x in
          rw q (omega (arith, smallest_start y es, (pick-smaller (get_or flows e 0) x).0))
      at (inr i) ih = ih i

-- lowering is a change along a trail of down-steps
lowered-changed : (flows : List ℕ) (x : ℕ) (es : List ℕ) → lowered flows x es ≡ changed_along flows x (downs es)
unfolding lowered changed_along
lowered-changed flows x [] = refl
lowered-changed flows x (e ∷ es) = lowered-changed (set flows e (get_or flows e 0 - x)) x es

edges_downs : (es : List ℕ) → edges_of (downs es) ≡ es
edges_downs [] = refl
edges_downs (e ∷ es) = ap (λ (l : List ℕ). e ∷ l) (edges_downs es)

in_downs : (d : ℕ) (es : List ℕ) → has d es ≡ true → In (down d) (downs es)
in_downs d [] h = absurd (has_nothing d h)
in_downs d (e ∷ es) h = at (has_cases d e es h) (λ i. in_downs d es i)
  where
    at : (d ≡ e) ⊎ (has d es ≡ true) → (has d es ≡ true → In (down d) (downs es)) → In (down d) (downs (e ∷ es))
    at (inl q) ih = inl (ap down q)
    at (inr i) ih = inr (ih i)

fits_downs : (flows : List ℕ) (x : ℕ) (es : List ℕ) → ((e : ℕ) → has e es ≡ true → e < length flows) → ((e : ℕ) → has e es ≡ true → x ≤ get_or flows e 0)
    → Distinct es → Fits flows x (downs es)
fits_downs flows x [] i r d = tt
fits_downs flows x (e ∷ es) i r d = (
  i e (has_here e e es refl),
  r e (has_here e e es refl),
  rw (edges_downs es) d.0,
  fits_downs flows x es (λ c h. i c (has_later c e es h)) (λ c h. r c (has_later c e es h)) d.1,
)

set_below : (flows : List ℕ) (e y d : ℕ) → y ≤ get_or flows e 0 → get_or (set flows e y) d 0 ≤ get_or flows d 0
set_below [] e y d h = omega arith
set_below (f ∷ fs) zero y zero h = h
set_below (f ∷ fs) zero y (suc d) h = omega arith
set_below (f ∷ fs) (suc e) y zero h = omega arith
set_below (f ∷ fs) (suc e) y (suc d) h = set_below fs e y d h

lowered_below : (flows : List ℕ) (x : ℕ) (es : List ℕ) (d : ℕ) → get_or (lowered flows x es) d 0 ≤ get_or flows d 0
unfolding lowered
lowered_below flows x [] d = omega arith
lowered_below flows x (e ∷ es) d =
    omega (arith, lowered_below (set flows e (get_or flows e 0 - x)) x es d, set_below flows e (get_or flows e 0 - x) d (omega arith))

-- what every round keeps: the new flows are as many, none is above its old flow, and the balance of each vertex is the same
pub record Less (tails heads flows now : List ℕ) : Type 0 where
  pub long : length now ≡ length flows
  pub below : (e : ℕ) → get_or now e 0 ≤ get_or flows e 0
  pub balance : (v : ℕ) → sum_at heads now v + sum_at tails flows v ≡ sum_at heads flows v + sum_at tails now v

less_refl : (tails heads flows : List ℕ) → Less tails heads flows flows
less_refl tails heads flows = record { long = refl; below = λ e. omega arith; balance = λ v. refl }

less_trans : {tails heads flows now end : List ℕ} → Less tails heads flows now → Less tails heads now end → Less tails heads flows end
less_trans p q = record {
  long = q.long ∙ p.long;
  below = λ e. omega (arith, p.below e, q.below e);
  balance = λ v. omega (arith, p.balance v, q.balance v);
}

-- a cycle lowered
module _ (tails heads flows : List ℕ) where
  abbrev least : List ℕ → ℕ
  least es = smallest flows (get_or flows (get_or es 0 0) 0) es

  least_attained : (es : List ℕ) → 0 < length es → LeastMet flows es (least es)
  least_attained [] h = absurd (not-suc-le-zero h)
  least_attained (e ∷ es) h = wider (λ c. has_twice c e es) (attained flows e (e ∷ es))

  module _ (es : List ℕ) (c : Cycle tails heads flows es) where
    fits : Fits flows (least es) (downs es)
    fits = fits_downs flows (least es) es c.edge (smallest_each flows (get_or flows (get_or es 0 0) 0) es) c.distinct

    is_changed : lower_cycle flows es ≡ changed_along flows (least es) (downs es)
    unfolding lower_cycle
    is_changed = lowered-changed flows (least es) es

    lower_long : length (lower_cycle flows es) ≡ length flows
    lower_long = ap length is_changed ∙ changed-length flows (least es) (downs es)

    lower_below : (e : ℕ) → get_or (lower_cycle flows es) e 0 ≤ get_or flows e 0
    unfolding lower_cycle
    lower_below e = lowered_below flows (least es) es e

    pub lower_less : length tails ≡ length flows → length heads ≡ length flows → Less tails heads flows (lower_cycle flows es)
    lower_less lt lh = record {
      long = lower_long;
      below = lower_below;
      balance = λ v. rw is_changed (omega (arith, closed_trail heads tails flows (least es) v c.trail fits lh lt));
    }

    -- the edge with the smallest flow becomes zero
    pub lower_fewer : positives (lower_cycle flows es) < positives flows
    lower_fewer =
        let a = least_attained es c.some in
        let d = a.edge in
        let zero_now : get_or (changed_along flows (least es) (downs es)) d 0 ≡ 0 =
        changed_at flows (least es) (downs es) (down d) fits (in_downs d es a.among) ∙ omega (arith, a.value) in
        positives_fewer (lower_cycle flows es) flows d lower_long (λ g h. omega (arith, h, lower_below g)) (rw is_changed zero_now) (c.positive d a.among)

-- the rounds
within_same : {tails heads flows now : List ℕ} {n : ℕ} → length now ≡ length flows → EndsBelow tails heads flows n → EndsBelow tails heads now n
within_same l w = record { start = λ e h. w.start e (omega arith); end = λ e h. w.end e (omega arith) }

module _ (tails heads : List ℕ) (n : ℕ) where
  module _ (flows : List ℕ) (w : EndsBelow tails heads flows n) where
    round_cycle : cycle_vertex tails heads n flows < n → Cycle tails heads flows (cycle_from tails heads n flows (cycle_vertex tails heads n flows))
    unfolding cycle_vertex
    round_cycle h = cycle_found tails heads flows n (cycle_vertex tails heads n flows) w h ((lowest_least (on_cycle tails heads n flows) 0 n).hit (omega arith))

    no_cycle : n ≤ cycle_vertex tails heads n flows → Acyclic tails heads flows
    unfolding cycle_vertex
    no_cycle h a b p q =
        let i : a < n = rw p.start at (w.start p.edge p.inside) in
        let yes = first_on_cycle tails heads flows n a w i (record { next = b; edge = p; rest = q }) in
        true≢false (sym yes ∙ (lowest_least (on_cycle tails heads n flows) 0 n).miss a (omega arith) (omega arith))

  abbrev next : List ℕ → List ℕ
  next flows = lower_cycle flows (cycle_from tails heads n flows (cycle_vertex tails heads n flows))

  cancelled_less : (k : ℕ) (flows : List ℕ) → EndsBelow tails heads flows n → length tails ≡ length flows → length heads ≡ length flows
      → Less tails heads flows (cancelled tails heads n k flows)
  unfolding cancelled
  cancelled_less zero flows w lt lh = less_refl tails heads flows
  cancelled_less (suc k) flows w lt lh = at (known (ltb (cycle_vertex tails heads n flows) n)) (λ v s t. cancelled_less k (next flows) v s t)
    where
      at : Known (ltb (cycle_vertex tails heads n flows) n)
          → (EndsBelow tails heads (next flows) n → length tails ≡ length (next flows) → length heads ≡ length (next flows)
          → Less tails heads (next flows) (cancelled tails heads n k (next flows)))
          → Less tails heads flows (cancelled tails heads n (suc k) flows)
      at (was_true t) ih =
          let es = cycle_from tails heads n flows (cycle_vertex tails heads n flows) in
          let less = lower_less tails heads flows es (round_cycle flows w (ltb-true (cycle_vertex tails heads n flows) n t)) lt lh in
          rw (t, cancelled) (less_trans less (ih (within_same less.long w) (lt ∙ sym less.long) (lh ∙ sym less.long)))
      at (was_false t) ih = rw (t, cancelled) (less_refl tails heads flows)

  cancelled_acyclic : (k : ℕ) (flows : List ℕ) → EndsBelow tails heads flows n → positives flows ≤ k → Acyclic tails heads (cancelled tails heads n k flows)
  unfolding cancelled
  cancelled_acyclic zero flows w h = λ a b p q. omega (arith, positives_some flows p.edge p.above)
  cancelled_acyclic (suc k) flows w h = at (known (ltb (cycle_vertex tails heads n flows) n)) (λ v s. cancelled_acyclic k (next flows) v s)
    where
      at : Known (ltb (cycle_vertex tails heads n flows) n)
          → (EndsBelow tails heads (next flows) n → positives (next flows) ≤ k → Acyclic tails heads (cancelled tails heads n k (next flows)))
          → Acyclic tails heads (cancelled tails heads n (suc k) flows)
      at (was_true t) ih =
          let es = cycle_from tails heads n flows (cycle_vertex tails heads n flows) in
          let c = round_cycle flows w (ltb-true (cycle_vertex tails heads n flows) n t) in
          let fewer = lower_fewer tails heads flows es c in
          rw (t, cancelled) (ih (within_same (lower_long tails heads flows es c) w) (omega arith))
      at (was_false t) ih = rw (t, cancelled) (no_cycle flows w (ltb-false (cycle_vertex tails heads n flows) n t))

  -- where no positive edge is on a cycle, the first round finds none, so nothing is lowered
  none_found : (flows : List ℕ) → Acyclic tails heads flows → ltb (cycle_vertex tails heads n flows) n ≡ false
  unfolding cycle_vertex
  none_found flows acyclic = at (known (ltb (cycle_vertex tails heads n flows) n))
    where
      at : Known (ltb (cycle_vertex tails heads n flows) n) → ltb (cycle_vertex tails heads n flows) n ≡ false
      at (was_true t) =
          let v = cycle_vertex tails heads n flows in
          let yes = (lowest_least (on_cycle tails heads n flows) 0 n).hit (omega (arith, ltb-true v n t)) in
          let f = on_cycle_first tails heads flows n v yes in
          absurd (acyclic v f.next f.edge f.rest)
      at (was_false t) = t

  pub nothing_cancelled : (flows : List ℕ) → Acyclic tails heads flows → acyclic_flows tails heads n flows ≡ flows
  unfolding acyclic_flows cancelled
  nothing_cancelled flows acyclic = rounds (length flows)
    where
      rounds : (k : ℕ) → cancelled tails heads n k flows ≡ flows
      rounds zero = refl
      rounds (suc k) = rw (none_found flows acyclic, cancelled)

module _ (tails heads flows : List ℕ) (n : ℕ) (w : EndsBelow tails heads flows n) (lt : length tails ≡ length flows) (lh : length heads ≡ length flows) where
  acyclic_less : Less tails heads flows (acyclic_flows tails heads n flows)
  unfolding acyclic_flows
  acyclic_less = cancelled_less tails heads n (length flows) flows w lt lh

  pub acyclic_length : length (acyclic_flows tails heads n flows) ≡ length flows
  acyclic_length = acyclic_less.long

  pub acyclic_below : (e : ℕ) → get_or (acyclic_flows tails heads n flows) e 0 ≤ get_or flows e 0
  acyclic_below = acyclic_less.below

  pub acyclic_balance : (v : ℕ)
      → sum_at heads (acyclic_flows tails heads n flows) v + sum_at tails flows v ≡ sum_at heads flows v + sum_at tails (acyclic_flows tails heads n flows) v
  acyclic_balance = acyclic_less.balance

  pub acyclic_acyclic : Acyclic tails heads (acyclic_flows tails heads n flows)
  unfolding acyclic_flows
  acyclic_acyclic = cancelled_acyclic tails heads n (length flows) flows w (positives-most flows)

  -- so no vertex is on a cycle
  pub acyclic_none : (v : ℕ) → on_cycle tails heads n (acyclic_flows tails heads n flows) v ≡ false
  acyclic_none v = at (known (on_cycle tails heads n (acyclic_flows tails heads n flows) v))
    where
      at : Known (on_cycle tails heads n (acyclic_flows tails heads n flows) v) → on_cycle tails heads n (acyclic_flows tails heads n flows) v ≡ false
      at (was_true t) = let f = on_cycle_first tails heads (acyclic_flows tails heads n flows) n v t in absurd (acyclic_acyclic v f.next f.edge f.rest)
      at (was_false t) = t
