-- What a network keeps whatever the limits are: its lists are of one length for the edges and one for the terminals, its numbers name vertices, and it balances.
use Rattle.std.specs.Prelude.{◌≡◌, ℕ, ◌+◌, ◌<◌, ◌≤◌, get_or, length}
use Rattle.lists.specs.Lists.{sum_at}
use Rattle.board.specs.declared.Network.{Network}

-- the flow that enters v, the flow that leaves v, and what the terminals there need; places past the counts hold 0
abbrev pub inflow : Network → ℕ → ℕ
inflow net v = sum_at net.heads net.flows v

abbrev pub outflow : Network → ℕ → ℕ
outflow net v = sum_at net.tails net.flows v

abbrev pub demand_at : Network → ℕ → ℕ
demand_at net v = sum_at net.homes net.demands v

-- the counts are within the lists; edges join vertices and terminals are at vertices; places past the counts hold 0; no edge is a loop, no terminal is at the
-- source, and each needs something
pub record Sound (net : Network) : Type 0 where
  pub tails_size : length net.tails ≡ length net.flows
  pub heads_size : length net.heads ≡ length net.flows
  pub homes_size : length net.homes ≡ length net.demands
  pub edges : net.edges ≤ length net.flows
  pub terminals : net.terminals ≤ length net.demands
  pub source : net.source < net.vertices
  pub tail : (i : ℕ) → i < net.edges → get_or net.tails i 0 < net.vertices
  pub head : (i : ℕ) → i < net.edges → get_or net.heads i 0 < net.vertices
  pub home : (j : ℕ) → j < net.terminals → get_or net.homes j 0 < net.vertices
  pub demand : (j : ℕ) → j < net.terminals → 1 ≤ get_or net.demands j 0
  pub no_edge : (i : ℕ) → net.edges ≤ i → (get_or net.tails i 0 ≡ 0) × (get_or net.heads i 0 ≡ 0) × (get_or net.flows i 0 ≡ 0)
  pub no_terminal : (j : ℕ) → net.terminals ≤ j → (get_or net.homes j 0 ≡ 0) × (get_or net.demands j 0 ≡ 0)
  pub no_loop : (i : ℕ) → i < net.edges → get_or net.tails i 0 ≡ get_or net.heads i 0 → ⊥
  pub away : (j : ℕ) → j < net.terminals → get_or net.homes j 0 ≡ net.source → ⊥

-- "A pool balances when the flow entering equals the flow leaving plus the needs of its mills. Every pool but the spring must balance."
abbrev pub Balanced : Network → Type 0
Balanced net = (v : ℕ) → v < net.vertices → (v ≡ net.source → ⊥) → inflow net v ≡ outflow net v + demand_at net v
