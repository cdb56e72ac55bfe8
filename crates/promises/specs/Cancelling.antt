-- Document 01, "Draining".
use Rattle.std.specs.Prelude.{◌≡◌, true, ◌≢◌, ◌↔◌, List, ℕ, ◌+◌, ◌<◌, ◌≤◌, get_or}
use Rattle.lists.specs.Lists.{sum_at}
use Rattle.board.specs.declared.Network.{Network}
use Rattle.text_rules.specs.Sound.{demand_at}
use Rattle.text_rules.specs.Rules.{Lawful}
use Rattle.graph_cancel.specs.Cycles.{on_cycle}
use Rattle.graph_flows.specs.Paths.{First, Acyclic, EndsBelow}
use Rattle.load.specs.Load.{acyclic_of}

pub record AboutCancelling : Type 0 where
  -- "the lowest pool on a ring of wet channels": what it tests is that a path of positive edges leads from the vertex back to it
  pub on_cycle_lem : (tails heads flows : List ℕ) (n v : ℕ) → EndsBelow tails heads flows n → v < n
      → (on_cycle tails heads n flows v ≡ true) ↔ First tails heads flows v v
  -- "Repeat until no ring is left"
  pub none_left : (net : Network) → Lawful net → Acyclic net.tails net.heads (acyclic_of net)
  -- channels are lowered and none is raised
  pub none_raised : (net : Network) → Lawful net → (e : ℕ) → get_or (acyclic_of net) e 0 ≤ get_or net.flows e 0
  -- "Every pool but the spring must balance": it does, still
  pub still_balanced : (net : Network) → Lawful net → (v : ℕ) → v < net.vertices → v ≢ net.source
      → sum_at net.heads (acyclic_of net) v ≡ sum_at net.tails (acyclic_of net) v + demand_at net v
