-- Cycle cancelling: document 01, "Draining".
use Rattle.std.specs.Prelude.{true, false, List, ℕ, zero, suc, ltb, length}
use Rattle.graph_cancel.specs.Cycles.{cycle_vertex, cycle_from}
use Rattle.graph_cancel.specs.Lowering.{lower_cycle}

module _ (tails heads : List ℕ) (n : ℕ) where
  -- "Repeat until no ring is left": k rounds at most
  unfoldable pub cancelled : ℕ → List ℕ → List ℕ
  cancelled zero flows = flows
  cancelled (suc k) flows =
      let v = cycle_vertex tails heads n flows in
      elim (ltb v n) [ true ↦ cancelled k (lower_cycle flows (cycle_from tails heads n flows v)) | false ↦ flows ]

  -- "The flows then are the drained first flows": each round makes an edge zero, so as many rounds as edges are enough
  unfoldable pub acyclic_flows : List ℕ → List ℕ
  acyclic_flows flows = cancelled (length flows) flows
