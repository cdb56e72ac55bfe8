-- What a turn gains. Up-steps alone would lead below where the cycle began, so it has a down-step, and the amount is positive; by the choice of the amount an
-- edge falls to 0, or an edge that rose has what a terminal at its head needs. An edge that fell to 0 is one positive edge less. The other is positive, singular,
-- hence marked, so that a carry is open now; none was before.
use mathlib.Core.Path.{◌≡◌, refl, sym, ap, ◌∙◌}
use mathlib.Core.Bool.{true}
use mathlib.Core.List.{List}
use Prim.Native.Nat.{ℕ, ◌+◌, ◌-◌, ◌*◌, ◌<◌, ◌≤◌}
use native.Mathlib.Omega.{arith}
use lib.ListN.{get_or}
use Rattle.lists.specs.Choice.{pick}
use Rattle.lists.proofs.Laws.{pick_yes, pick_no}
use Rattle.board.specs.Whole.{Board}
use Rattle.graph_flows.specs.Trails.{Step, down, up, edge_of, In}
use Rattle.graph_flows.specs.Inner.{positives}
use Rattle.graph_flows.proofs.Positives.{positives_some, positives_below, positives_fewer}
use Rattle.graph_flows.proofs.Change.{after, changed_at}
use Rattle.move_guard.specs.Parts.{flow, head, marked, demand, place}
use Rattle.move_carry.specs.Opens.{some_open}
use Rattle.move_cycle.specs.Amounts.{amount}
use Rattle.move_turn.specs.Turns.{turned, turned_in}
use Rattle.theorem_cycles.specs.Invariant.{Invariant}
use Rattle.theorem_cycles.proofs.Openings.{facts_open, some_open_lem}
use Rattle.theorem_cycles.specs.Allowed.{Attained, Turnable, zeroed, met}
use Rattle.theorem_cycles.specs.Cycles.{Gain, zeroes, meets}
use Rattle.theorem_cycles.proofs.Amounted.{amount_above, amount_attained, SomeDown, some_down}
use Rattle.theorem_cycles.proofs.TurnedMarks.{now_single}
use Rattle.theorem_cycles.proofs.TurnedFlows.{turn_fits, now_changed, now_length, positive_before}
use Rattle.theorem_cycles.specs.Potential.{level, levels, potential}
use Rattle.theorem_cycles.proofs.Potential.{level_rises}

module _ (b : Board) (w : List Step) (inv : Invariant b) (t : Turnable b w) where
  falling : SomeDown w
  falling = some_down b.network.tails b.network.heads (level b) w t.cycle (λ s i. level_rises b inv (edge_of s) (t.above s i))

  pub turn_amount : 0 < amount b w
  turn_amount = amount_above b w falling.edge t.above falling.among

  pub turn_attained : Attained b w
  turn_attained = amount_attained b w falling.edge t.above falling.among

  -- a step's edge after the turn
  stepped : (s : Step) → In s w → flow (turned b w) (edge_of s) ≡ after b.flows (amount b w) s
  unfolding turned_in
  stepped s i =
      ap (λ (l : List ℕ). get_or l (edge_of s) 0) (now_changed b w inv t) ∙ changed_at b.flows (amount b w) w s (turn_fits b w inv t) i

  climbed : (e : ℕ) → In (up e) w → marked (turned b w) e ≡ true
  unfolding turned_in
  climbed e i = now_single b e (t.above (up e) i) (t.climbs e i)

  pub turn_gains : Gain b w
  turn_gains = go turn_attained
    where
      go : Attained b w → Gain b w
      go (zeroed e i q) = zeroes e i (stepped (down e) i ∙ omega (arith, q))
      go (met e k i l p q) = meets e k i l p (climbed e i) (stepped (up e) i ∙ q)

  -- no edge becomes positive
  covered : (e : ℕ) → 0 < flow (turned b w) e → 0 < flow b e
  unfolding turned_in
  covered = positive_before b w inv t

  fewer : positives (turned b w).flows ≤ positives b.flows
  unfolding turned_in
  fewer = positives_below (turned b w).flows b.flows (now_length b w inv t) covered

  zero_fewer : (e : ℕ) → In (down e) w → flow (turned b w) e ≡ 0 → positives (turned b w).flows < positives b.flows
  unfolding turned_in
  zero_fewer e i z = positives_fewer (turned b w).flows b.flows e (now_length b w inv t) covered z (t.above (down e) i)

  met_open : (e i : ℕ) → In (up e) w → i < b.network.terminals → place b i ≡ head b e → flow (turned b w) e ≡ demand b i → some_open (turned b w) ≡ true
  unfolding turned_in
  met_open e i s l p q = some_open_lem (turned b w) i e l (t.inside (up e) s) (facts_open (turned b w) i e (sym p) (omega (arith, q)) (λ m. q))

  same_levels : levels (turned b w) ≡ levels b
  unfolding turned_in
  same_levels = refl

  pub turned_falls : potential (turned b w) < potential b
  unfolding potential
  turned_falls = go turn_gains
    where
      go : Gain b w → positives (turned b w).flows + 2 * levels (turned b w) - pick (some_open (turned b w)) 1 0 < positives b.flows + 2 * levels b - pick (some_open b) 1 0
      go (zeroes e i z) =
          let shut = pick_no {A = ℕ} (some_open b) 1 0 t.none_open in
          omega (arith, zero_fewer e i z, same_levels, shut)
      go (meets e i s l p m q) =
          let shut = pick_no {A = ℕ} (some_open b) 1 0 t.none_open in
          let one = pick_yes {A = ℕ} (some_open (turned b w)) 1 0 (met_open e i s l p q) in
          let some = positives_some (turned b w).flows e (omega (arith, q, inv.sound.demand i l)) in
          omega (arith, fewer, same_levels, shut, one, some)
