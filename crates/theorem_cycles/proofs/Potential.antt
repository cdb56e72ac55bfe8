-- Ranks rise along every edge that is positive in the acyclic flow, so along every positive edge. The potential is within the bound of moves: ranks are below the
-- count of vertices, and no edge past the count is positive.
use mathlib.Core.Path.{refl}
use mathlib.Core.Bool.{Bool, true, false}
use Prim.Native.Nat.{ℕ, ◌-◌, ◌*◌, ◌<◌, ◌≤◌}
use native.Mathlib.Nat.{mul_assoc}
use native.Mathlib.Omega.{arith}
use Rattle.lists.specs.Choice.{pick}
use Rattle.lists.proofs.Laws.{above_inside}
use Rattle.board.specs.Whole.{Board}
use Rattle.graph_flows.proofs.Rank.{rank_rises, rank_below}
use Rattle.lists.proofs.Totals.{total-most}
use Rattle.graph_flows.specs.Inner.{positives}
use Rattle.graph_flows.proofs.Positives.{positives_within}
use Rattle.load.specs.Load.{acyclic_of}
use Rattle.move_guard.specs.Parts.{flow, acyclic_flow, tail, head, place}
use Rattle.theorem_cycles.specs.Bound.{moves_bound}
use Rattle.theorem_cycles.specs.Invariant.{Invariant}
use Rattle.theorem_cycles.specs.Potential.{level, levels, potential}
use Rattle.theorem_cycles.proofs.Network.{within_acyclic, acyclic_of_acyclic}
use Rattle.theorem_cycles.proofs.TurnedMarks.{positive_inside}

-- the last part is one at most
pub one_most : (t : Bool) → pick t 1 0 ≤ 1
unfolding pick
one_most true = omega arith
one_most false = omega arith

module _ (b : Board) (inv : Invariant b) where
  -- it rises along every edge of the acyclic flow, and so along every positive edge
  pub acyclic_rises : (e : ℕ) → 0 < acyclic_flow b e → level b (tail b e) < level b (head b e)
  acyclic_rises e h =
      rw inv.acyclic
      (rank_rises b.network.tails b.network.heads _ b.network.vertices (tail b e) (head b e) (within_acyclic b.network inv.sound)
      (acyclic_of_acyclic b.network inv.sound)
      (record {
        edge = e;
        inside = above_inside (acyclic_of b.network) e (rw inv.acyclic at h);
        start = refl;
        end = refl;
        above = rw inv.acyclic at h;
      }))

  pub level_rises : (e : ℕ) → 0 < flow b e → level b (tail b e) < level b (head b e)
  level_rises e h = acyclic_rises e (inv.support e h)

  pub potential_first : potential b ≤ moves_bound b.network
  unfolding potential moves_bound
  potential_first =
      let n = b.network.vertices in
      let k = b.network.terminals in
      let low : levels b ≤ k * (n - 1) =
      total-most (λ i. level b (place b i)) (n - 1) 0 k
      (λ i a c. omega (arith, rank_below b.network.tails b.network.heads b.acyclic n (place b i) (inv.placed i (omega arith)))) in
      let few : positives b.flows ≤ b.network.edges = positives_within b.flows b.network.edges (positive_inside b inv) in
      omega (arith, mul_assoc 2 k (n - 1))
