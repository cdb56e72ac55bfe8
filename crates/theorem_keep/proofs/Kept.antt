-- A board that keeps the invariant, within the limits and with small amounts, is intact.
use mathlib.Core.Path.{◌≡◌, refl, ◌∙◌}
use mathlib.Core.Bool.{true}
use mathlib.Core.Logic.{◌⊎◌, inl, inr}
use Prim.Native.Nat.{ℕ, ◌*◌, ◌-◌, ◌<◌, ◌≤◌}
use native.Mathlib.Omega.{arith}
use lib.Dec.{leb, ltb, eqb}
use lib.ListN.{length, get_or}
use borrow.Author.Tests.{le-leb, lt-ltb, le-ltb, eq-eqb, eqb-true}
use Rattle.lists.specs.Choice.{pick, both}
use Rattle.lists.specs.Lists.{all}
use Rattle.lists.proofs.Laws.{Known, was_true, was_false, known, lt_or_ge, pick_yes, pick_no, both_left, both_right, both_true, all_from, all_zero}
use Rattle.board.specs.Limits.{max_edges, max_terminals, max_moves, max_flow, max_total}
use Rattle.board.specs.Record.{blank}
use Rattle.board.specs.Whole.{Move, Carry, Turn, Board}
use Rattle.board.specs.declared.Network.{Network}
use Rattle.text_rules.specs.Sound.{Sound}
use Rattle.text_rules.specs.Rules.{edge_fits, terminal_fits, counts_fit, judged, lawful, Within, Lawful}
use Rattle.text_rules.proofs.Meaning.{lawful_tested}
use Rattle.move_guard.specs.Parts.{flow, acyclic_flow, place}
use Rattle.move_guard.specs.Guard.{edge_intact, terminal_intact, move_intact, intact}
use Rattle.theorem_cycles.specs.Invariant.{Invariant, amount_of, SmallAmounts}
use Rattle.theorem_cycles.proofs.Network.{acyclic_of_below}
use Rattle.theorem_cycles.proofs.Flowing.{small_flows}

-- the numbers of every place of a network within the limits
module _ (net : Network) (sound : Sound net) (within : Within net) where
  pub text_flow_small : (e : ℕ) → get_or net.flows e 0 ≤ max_flow
  text_flow_small e = go (lt_or_ge e net.edges)
    where
      go : (e < net.edges) ⊎ (net.edges ≤ e) → get_or net.flows e 0 ≤ max_flow
      go (inl h) = within.flow e h
      go (inr h) = omega (arith, (sound.no_edge e h).2)

  pub demand_small : (i : ℕ) → get_or net.demands i 0 ≤ max_flow
  demand_small i = go (lt_or_ge i net.terminals)
    where
      go : (i < net.terminals) ⊎ (net.terminals ≤ i) → get_or net.demands i 0 ≤ max_flow
      go (inl h) = within.demand i h
      go (inr h) = omega (arith, (sound.no_terminal i h).1)

module _ (b : Board) (inv : Invariant b) (within : Within b.network) (small : SmallAmounts b max_flow) where
  pub kept_lawful : Lawful b.network
  kept_lawful = record { sound = inv.sound; within = within; balanced = inv.balanced }

  -- as many terminals as there may be, each with the greatest demand
  demands_most : length b.network.demands * max_flow ≤ max_total
  demands_most = rw within.demands_size (omega arith)

  pub flows_within : (e : ℕ) → flow b e ≤ max_total
  flows_within e = omega (arith, small_flows b inv max_flow small.demands e, demands_most)

  move_intact_lem : (i : ℕ) → move_intact (get_or b.journal i blank).step ≡ true
  move_intact_lem i = go (get_or b.journal i blank).step (small.amounts i)
    where
      go : (m : Move) → amount_of m ≤ length b.network.demands * max_flow → move_intact m ≡ true
      go (Carry r) h = refl
      go (Turn a) h = le-leb a.amount max_total (omega (arith, h, demands_most))

  -- the test
  fits : both (counts_fit b.network) (both (all (edge_fits b.network) 0 max_edges) (both (all (terminal_fits b.network) 0 max_terminals) (eqb (judged b.network) 0))) ≡ true
  unfolding lawful
  fits = lawful_tested b.network kept_lawful

  below : (e : ℕ) → acyclic_flow b e ≤ get_or b.network.flows e 0
  below e = rw inv.acyclic (acyclic_of_below b.network inv.sound e)

  edge_intact_lem : (i : ℕ) → i < max_edges → edge_intact b i ≡ true
  edge_intact_lem i h = both_true _ _ (all_from (edge_fits b.network) max_edges i (both_left _ _ (both_right _ _ fits)) h)
      (both_true _ _ (le-leb _ _ (below i)) (go (known (eqb (acyclic_flow b i) 0)) (lt_or_ge 0 (flow b i))))
    where
      go : Known (eqb (acyclic_flow b i) 0) → (0 < flow b i) ⊎ (flow b i ≤ 0) → pick (eqb (acyclic_flow b i) 0) (eqb (flow b i) 0) (leb (flow b i) max_total) ≡ true
      go (was_true t) (inl q) = let z : acyclic_flow b i ≡ 0 = eqb-true _ _ t in absurd (omega (arith, inv.support i q))
      go (was_true t) (inr q) = let z : flow b i ≡ 0 = omega arith in pick_yes (eqb (acyclic_flow b i) 0) _ _ t ∙ eq-eqb _ _ z
      go (was_false t) q = pick_no (eqb (acyclic_flow b i) 0) _ _ t ∙ le-leb (flow b i) max_total (flows_within i)

  terminal_intact_lem : (j : ℕ) → j < max_terminals → terminal_intact b j ≡ true
  terminal_intact_lem j h = both_true _ _ (all_from (terminal_fits b.network) max_terminals j (both_left _ _ (both_right _ _ (both_right _ _ fits))) h)
      (go (lt_or_ge j b.network.terminals))
    where
      go : (j < b.network.terminals) ⊎ (b.network.terminals ≤ j)
          → pick (ltb j b.network.terminals) (ltb (place b j) b.network.vertices) (eqb (place b j) 0) ≡ true
      go (inl l) = pick_yes _ _ _ (lt-ltb _ _ l) ∙ lt-ltb _ _ (inv.placed j l)
      go (inr l) = pick_no _ _ _ (le-ltb _ _ l) ∙ eq-eqb _ _ (inv.unplaced j l)

  pub kept_intact : b.moves ≤ max_moves → intact b ≡ true
  unfolding intact
  kept_intact h =
      both_true _ _ (both_left _ _ fits)
      (both_true _ _ (all_zero (edge_intact b) max_edges edge_intact_lem)
      (both_true _ _ (all_zero (terminal_intact b) max_terminals terminal_intact_lem)
      (both_true _ _ (le-leb _ _ h) (move_intact_lem (b.moves - 1)))))
