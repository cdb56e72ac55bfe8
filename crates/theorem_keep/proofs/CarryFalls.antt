-- A carry lowers the potential: it brings its terminal to a vertex of lower rank, so it lowers the number by two, of which the last part takes back one at most.
use mathlib.Core.Path.{◌≡◌}
use mathlib.Core.Logic.{◌⊎◌, inl, inr, ◌≢◌}
use Prim.Native.Nat.{ℕ, ◌-◌, ◌<◌, ◌≤◌}
use native.Mathlib.Omega.{arith}
use lib.ListN.{get_or, set, length-set}
use lib.Seq.{get_or-set_same, get_or-set_other}
use Rattle.lists.proofs.Laws.{eq_or_ne}
use Rattle.board.specs.Whole.{Board}
use Rattle.lists.proofs.Totals.{total_less}
use Rattle.graph_flows.specs.Inner.{positives}
use Rattle.graph_flows.proofs.Positives.{positives_below}
use Rattle.move_guard.specs.Parts.{flow, tail, demand, place}
use Rattle.move_carry.specs.Opens.{some_open}
use Rattle.move_carry.specs.Carries.{carried, carried_in}
use Rattle.theorem_cycles.specs.Invariant.{Invariant}
use Rattle.theorem_cycles.specs.Allowed.{Carriable}
use Rattle.theorem_keep.proofs.Carried.{in_flows}
use Rattle.theorem_cycles.specs.Potential.{level, levels, potential}
use Rattle.theorem_cycles.proofs.Potential.{one_most, level_rises}

module _ (b : Board) (i e : ℕ) (inv : Invariant b) (c : Carriable b i e) where
  flow_after : (g : ℕ) → get_or (set b.flows e (flow b e - demand b i)) g 0 ≤ flow b g
  flow_after g = at (eq_or_ne g e)
    where
      at : (g ≡ e) ⊎ (g ≢ e) → get_or (set b.flows e (flow b e - demand b i)) g 0 ≤ flow b g
      at (inl q) = rw q (omega (arith, get_or-set_same b.flows e (flow b e - demand b i) 0 (in_flows b i e inv c)))
      at (inr n) = omega (arith, get_or-set_other b.flows e g (flow b e - demand b i) 0 n)

  fewer : positives (carried b i e).flows ≤ positives b.flows
  unfolding carried_in
  fewer = positives_below (carried b i e).flows b.flows (length-set b.flows e (flow b e - demand b i)) (λ g h. omega (arith, h, flow_after g))

  falls : level b (tail b e) < level b (place b i)
  falls = rw (← c.enters) (level_rises b inv e (omega (arith, inv.sound.demand i c.terminal, c.covers)))

  moved-level : level b (place (carried b i e) i) < level b (place b i)
  unfolding carried_in
  moved-level =
      rw (get_or-set_same b.places i (tail b e) 0 (omega (arith, c.terminal, inv.sound.terminals, inv.places_size, inv.sound.homes_size))) falls

  kept_level : (k : ℕ) → level b (place (carried b i e) k) ≤ level b (place b k)
  unfolding carried_in
  kept_level k = at (eq_or_ne k i)
    where
      at : (k ≡ i) ⊎ (k ≢ i) → level b (place (carried b i e) k) ≤ level b (place b k)
      at (inl q) = rw q (omega (arith, moved-level))
      at (inr n) = rw (get_or-set_other b.places i k (tail b e) 0 n) (omega arith)

  lower : levels (carried b i e) < levels b
  unfolding carried_in
  lower =
      total_less (λ k. level b (place (carried b i e) k)) (λ k. level b (place b k)) 0 b.network.terminals i kept_level (omega arith)
      (omega (arith, c.terminal)) moved-level

  pub carried_falls : potential (carried b i e) < potential b
  unfolding potential
  carried_falls = omega (arith, fewer, lower, one_most (some_open b))
