-- The edges of a board that keeps the invariant join vertices, and its positive edges lead up in the rank of the acyclic flow; each vertex balances, so no flow
-- passes what the terminals need together.
use mathlib.Core.Path.{◌≡◌, sym, ◌∙◌}
use mathlib.Core.Logic.{◌⊎◌, inl, inr}
use Prim.Native.Nat.{ℕ, ◌*◌, ◌<◌, ◌≤◌}
use native.Mathlib.Omega.{arith}
use lib.ListN.{length}
use Rattle.lists.proofs.Laws.{lt_or_ge}
use Rattle.board.specs.Whole.{Board}
use Rattle.text_rules.specs.Sound.{Sound}
use Rattle.graph_flows.specs.Paths.{PositiveEdge, EndsBelow}
use Rattle.graph_flows.specs.Inner.{rank}
use Rattle.graph_flows.proofs.Rank.{rank_rises}
use Rattle.graph_flows.proofs.Cut.{flow-most}
use Rattle.load.specs.Load.{acyclic_of}
use Rattle.move_guard.specs.Parts.{flow, demand, place}
use Rattle.theorem_cycles.specs.Invariant.{Invariant}
use Rattle.theorem_cycles.proofs.Network.{within, within_acyclic, long_acyclic, acyclic_of_acyclic, source_rank}

module _ (b : Board) (inv : Invariant b) where
  sound : Sound b.network
  sound = inv.sound

  level : ℕ → ℕ
  level = rank b.network.tails b.network.heads (acyclic_of b.network) b.network.vertices

  -- the edges join vertices
  pub joined : EndsBelow b.network.tails b.network.heads b.flows b.network.vertices
  joined =
      let w = within b.network sound in
      record { start = λ g h. w.start g (omega (arith, h, inv.flows_size)); end = λ g h. w.end g (omega (arith, h, inv.flows_size)) }

  pub tails_long : length b.network.tails ≡ length b.flows
  tails_long = sound.tails_size ∙ sym inv.flows_size

  pub heads_long : length b.network.heads ≡ length b.flows
  heads_long = sound.heads_size ∙ sym inv.flows_size

  -- a positive edge is positive in the acyclic flow, so it leads up
  pub positive_acyclic : (u v : ℕ) → PositiveEdge b.network.tails b.network.heads b.flows u v
      → PositiveEdge b.network.tails b.network.heads (acyclic_of b.network) u v
  positive_acyclic u v p = record {
    edge = p.edge;
    inside = omega (arith, p.inside, inv.flows_size, long_acyclic b.network sound);
    start = p.start;
    end = p.end;
    above = rw inv.acyclic at (inv.support p.edge p.above);
  }

  rises : (u v : ℕ) → PositiveEdge b.network.tails b.network.heads b.flows u v → level u < level v
  unfolding level
  rises u v p =
      rank_rises b.network.tails b.network.heads (acyclic_of b.network) b.network.vertices u v (within_acyclic b.network sound)
      (acyclic_of_acyclic b.network sound) (positive_acyclic u v p)

  at_vertex : (i : ℕ) → place b i < b.network.vertices
  at_vertex i = go (lt_or_ge i b.network.terminals)
    where
      go : (i < b.network.terminals) ⊎ (b.network.terminals ≤ i) → place b i < b.network.vertices
      go (inl h) = inv.placed i h
      go (inr h) = omega (arith, inv.unplaced i h, sound.source)

  -- where no demand is above m
  pub small_flows : (m : ℕ) → ((i : ℕ) → demand b i ≤ m) → (e : ℕ) → flow b e ≤ length b.network.demands * m
  unfolding level
  small_flows m small e =
      flow-most b.network.tails b.network.heads b.flows b.places b.network.demands b.network.vertices b.network.source level
      tails_long heads_long joined
      (λ i h. at_vertex i) (source_rank b.network sound inv.balanced) rises inv.balance m small e
