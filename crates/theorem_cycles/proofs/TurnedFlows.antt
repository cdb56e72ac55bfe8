-- The flows after a turn. The cycle goes over an edge once, so an edge falls by the amount, or rises by it, or keeps its flow. What falls has the amount, by the
-- choice of the amount, so each vertex balances as before. What rises was positive and singular; and it rises no higher than what a terminal at its head needs,
-- where it was not higher before.
use mathlib.Core.Path.{◌≡◌, refl, sym, ap, ◌∙◌}
use mathlib.Core.Bool.{true, false, true≢false}
use mathlib.Core.Logic.{◌⊎◌, inl, inr}
use mathlib.Core.List.{List, [], ◌∷◌}
use Prim.Native.Nat.{ℕ, ◌+◌, ◌<◌, ◌≤◌}
use native.Mathlib.Omega.{arith}
use lib.ListN.{length, get_or}
use Rattle.lists.specs.Lists.{sum_at}
use Rattle.lists.specs.Members.{has, Distinct}
use Rattle.lists.proofs.Laws.{Known, was_true, was_false, known, lt_or_ge}
use Rattle.sets.specs.Sets.{has_bit}
use Rattle.board.specs.Whole.{Board}
use Rattle.graph_flows.specs.Trails.{Step, down, up, edge_of, edges_of, In}
use Rattle.graph_flows.specs.Inner.{changed_along, Room, Fits}
use Rattle.graph_flows.proofs.Change.{over, changed-length, changed_other, changed_at, closed_trail}
use Rattle.move_guard.specs.Parts.{flow, head, demand}
use Rattle.move_cycle.specs.Steps.{gather}
use Rattle.move_cycle.specs.Amounts.{amount}
use Rattle.move_cycle.specs.Shifts.{shifted}
use Rattle.move_cycle.proofs.Shifting.{shifted_changed}
use Rattle.theorem_cycles.specs.Invariant.{Invariant, At}
use Rattle.theorem_cycles.proofs.Flowing.{tails_long, heads_long}
use Rattle.theorem_cycles.proofs.Amounted.{amount_down, amount_up}
use Rattle.theorem_cycles.specs.Allowed.{Turnable}
use Rattle.theorem_cycles.proofs.TurnedMarks.{marks_now, now_single, not_equal}

fits_of : (flows : List ℕ) (x : ℕ) (w : List Step) → ((s : Step) → In s w → edge_of s < length flows) → ((e : ℕ) → In (down e) w → x ≤ get_or flows e 0)
    → Distinct (edges_of w) → Fits flows x w
fits_of flows x [] i r d = tt
fits_of flows x (s ∷ w) i r d = (i s (inl refl), room s refl, d.0, fits_of flows x w (λ t m. i t (inr m)) (λ e m. r e (inr m)) d.1)
  where
    room : (t : Step) → t ≡ s → Room flows x t
    room (down e) q = r e (inl q)
    room (up e) q = tt

-- the flows after the turn
abbrev pub flows_now : Board → List Step → List ℕ
flows_now b w = shifted (amount b w) (gather false 0 w) (gather true 0 w) b.flows

-- what became of an edge
data Became (b : Board) (w : List Step) (e : ℕ) : Type 0 where
  lower : get_or (flows_now b w) e 0 ≤ flow b e → Became b w e
  higher : In (up e) w → get_or (flows_now b w) e 0 ≡ flow b e + amount b w → Became b w e

module _ (b : Board) (w : List Step) (inv : Invariant b) (t : Turnable b w) where
  pub turn_fits : Fits b.flows (amount b w) w
  turn_fits =
      fits_of b.flows (amount b w) w
      (λ s i. omega (arith, t.inside s i, inv.flows_size, inv.sound.edges))
      (λ e i. amount_down b w e t.above i) t.cycle.distinct

  pub now_changed : flows_now b w ≡ changed_along b.flows (amount b w) w
  now_changed = shifted_changed b.flows (amount b w) w turn_fits

  pub now_length : length (flows_now b w) ≡ length b.flows
  now_length = ap length now_changed ∙ changed-length b.flows (amount b w) w

  became : (e : ℕ) → Became b w e
  became e = go (known (has e (edges_of w)))
    where
      same : get_or (flows_now b w) e 0 ≡ get_or (changed_along b.flows (amount b w) w) e 0
      same = ap (λ (l : List ℕ). get_or l e 0) now_changed

      by : (s : Step) → edge_of s ≡ e → In s w → Became b w e
      by (down d) q i =
          let now = changed_at b.flows (amount b w) w (down d) turn_fits i in
          let at : get_or (changed_along b.flows (amount b w) w) e 0 ≤ flow b e = rw (← q) (omega (arith, now)) in
          lower (omega (arith, same, at))
      by (up d) q i = higher (rw (← q) i) (same ∙ rw (← q) (changed_at b.flows (amount b w) w (up d) turn_fits i))

      go : Known (has e (edges_of w)) → Became b w e
      go (was_true h) = let o = over w e h in by o.step o.edge o.among
      go (was_false h) = lower (omega (arith, same, changed_other b.flows (amount b w) w e h))

  -- a positive edge was positive
  pub positive_before : (e : ℕ) → 0 < get_or (flows_now b w) e 0 → 0 < flow b e
  positive_before e h = go (became e)
    where
      go : Became b w e → 0 < flow b e
      go (lower l) = omega arith
      go (higher i q) = t.above (up e) i

  -- where an edge had no more than a terminal at its head needs, so it has now
  pub fit_after : (e i : ℕ) → 0 < flow b e → At b i (head b e) → flow b e ≤ demand b i → get_or (flows_now b w) e 0 ≤ demand b i
  fit_after e i h at l = go (became e) (lt_or_ge (flow b e) (demand b i))
    where
      go : Became b w e → (flow b e < demand b i) ⊎ (demand b i ≤ flow b e) → get_or (flows_now b w) e 0 ≤ demand b i
      go (lower k) q = omega arith
      go (higher m k) (inl q) = omega (arith, k, amount_up b w e i t.above m at.terminal at.here q)
      go (higher m k) (inr q) = absurd (not_equal b inv t.none_open e i h at (omega arith))

  -- what rises is marked
  pub unmarked_lower : (e : ℕ) → has_bit (marks_now b) e ≡ false → get_or (flows_now b w) e 0 ≤ flow b e
  unmarked_lower e h = go (became e)
    where
      go : Became b w e → get_or (flows_now b w) e 0 ≤ flow b e
      go (lower l) = l
      go (higher i q) = absurd (true≢false (sym (now_single b e (t.above (up e) i) (t.climbs e i)) ∙ h))

  pub balance_after : (v : ℕ)
      → sum_at b.network.heads (flows_now b w) v + sum_at b.network.tails b.flows v
      ≡ sum_at b.network.heads b.flows v + sum_at b.network.tails (flows_now b w) v
  balance_after v =
      rw now_changed
      (closed_trail b.network.tails b.network.heads b.flows (amount b w) v t.cycle.trail turn_fits
      (tails_long b inv) (heads_long b inv))
