-- Where play stops: with every terminal at the source no edge has a flow. The head of a positive edge would not be the source, and no terminal is there that
-- takes what comes in, so another positive edge would leave it, to a vertex of higher rank, and so on; but ranks are below the count of vertices.
use mathlib.Core.Path.{◌≡◌, refl, sym, ◌∙◌}
use mathlib.Core.Bool.{true}
use mathlib.Core.Logic.{◌⊎◌, inl, inr, ◌≢◌}
use Prim.Native.Nat.{ℕ, zero, suc, ◌+◌, ◌<◌, ◌≤◌}
use native.Mathlib.Omega.{arith}
use Rattle.lists.specs.Lists.{sum_at}
use Rattle.lists.proofs.Laws.{lt_or_ge}
use Rattle.board.specs.Whole.{Board}
use Rattle.graph_flows.proofs.Sums.{sum_entry}
use Rattle.graph_flows.proofs.Rank.{rank_below}
use Rattle.move_guard.specs.Parts.{flow, tail, head}
use Rattle.solve_next.specs.Choosing.{all_home}
use Rattle.theorem_cycles.specs.Invariant.{Invariant}
use Rattle.theorem_cycles.specs.Potential.{level}
use Rattle.theorem_cycles.proofs.Potential.{level_rises}
use Rattle.theorem_cycles.proofs.TurnedMarks.{positive_inside}
use Rattle.theorem_cycles.proofs.Degrees.{never_enters, in_at_least, at_terminal}
use Rattle.theorem_list.proofs.Ends.{home_facts}

module _ (b : Board) (inv : Invariant b) (home : all_home b ≡ true) where
  -- a vertex other than the source needs nothing
  none_needed : (v : ℕ) → v ≢ b.network.source → sum_at b.places b.network.demands v ≡ 0
  none_needed v n = go (lt_or_ge 0 (sum_at b.places b.network.demands v))
    where
      go : (0 < sum_at b.places b.network.demands v) ⊎ (sum_at b.places b.network.demands v ≤ 0) → sum_at b.places b.network.demands v ≡ 0
      go (inl l) =
          let w = sum_entry b.places b.network.demands v l in
          let at = at_terminal b inv w.e v w.key w.above in
          absurd (n (sym at.here ∙ home_facts b inv home w.e at.terminal))
      go (inr l) = omega (arith, l)

  -- a positive edge leaves the vertex
  record Further (v : ℕ) : Type 0 where
    edge : ℕ
    start : tail b edge ≡ v
    above : 0 < flow b edge

  further : (e : ℕ) → 0 < flow b e → Further (head b e)
  further e h =
      let v = head b e in
      let away : v ≢ b.network.source = never_enters b inv e h in
      let inside : v < b.network.vertices = inv.sound.head e (positive_inside b inv e h) in
      let most : flow b e ≤ sum_at b.network.heads b.flows v = in_at_least b inv v e (record { start = refl; above = h }) in
      let out : 0 < sum_at b.network.tails b.flows v = omega (arith, h, most, inv.balance v inside away, none_needed v away) in
      let w = sum_entry b.network.tails b.flows v out in
      record { edge = w.e; start = w.key; above = w.above }

  -- no positive edge leads to a vertex with k ranks or fewer above it
  never_positive : (k e : ℕ) → b.network.vertices ≤ k + level b (head b e) → 0 < flow b e → ⊥
  never_positive zero e low h =
      let below = rank_below b.network.tails b.network.heads b.acyclic b.network.vertices (head b e) (inv.sound.head e (positive_inside b inv e h)) in
      omega (arith, low, below)
  never_positive (suc k) e low h =
      let g = further e h in
      let up : level b (tail b g.edge) < level b (head b g.edge) = level_rises b inv g.edge g.above in
      let up' : level b (head b e) < level b (head b g.edge) = rw g.start at up in
      never_positive k g.edge (omega (arith, low, up')) g.above

  pub none_positive : (e : ℕ) → flow b e ≡ 0
  none_positive e = go (lt_or_ge 0 (flow b e))
    where
      go : (0 < flow b e) ⊎ (flow b e ≤ 0) → flow b e ≡ 0
      go (inl l) = absurd (never_positive b.network.vertices e (omega arith) l)
      go (inr l) = omega (arith, l)
