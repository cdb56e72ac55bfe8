-- The rules of a network: refusals 3, 4 and 5, and all that an accepted text keeps.
use Rattle.std.specs.Prelude.{◌≡◌, Bool, not, List, ℕ, ◌+◌, ◌<◌, ◌≤◌, leb, ltb, eqb, get_or, length}
use Rattle.lists.specs.Choice.{pick, both, either, unless}
use Rattle.lists.specs.Lists.{all, sum_at}
use Rattle.board.specs.Limits.{max_vertices, max_edges, max_terminals, max_flow}
use Rattle.board.specs.declared.Network.{Network}
use Rattle.text_rules.specs.Sound.{inflow, outflow, demand_at, Sound, Balanced}

-- 3: a channel's tail is its head; by the tails and the heads, and of a network
abbrev pub no_loop_in : List ℕ → List ℕ → ℕ → Bool
no_loop_in tails heads i = not (eqb (get_or tails i 0) (get_or heads i 0))

abbrev pub no_loop : Network → ℕ → Bool
no_loop net = no_loop_in net.tails net.heads

-- 4: a mill at the spring; by the pools of the mills and the spring, and of a network
abbrev pub away_from_source_in : List ℕ → ℕ → ℕ → Bool
away_from_source_in homes source j = not (eqb (get_or homes j 0) source)

abbrev pub away_from_source : Network → ℕ → Bool
away_from_source net = away_from_source_in net.homes net.source

-- 5: a pool out of balance; the spring need not balance. By the flow that enters each pool and what leaves it with the needs there, and of a network
abbrev pub balanced_in : (ℕ → ℕ) → (ℕ → ℕ) → ℕ → ℕ → Bool
balanced_in enters leaves source v = either (eqb v source) (eqb (enters v) (leaves v))

unfoldable pub balanced : Network → ℕ → Bool
unfolding sum_at either
balanced net = balanced_in (inflow net) (λ v. outflow net v + demand_at net v) net.source

-- 2: the numbers of an edge are in their ranges; those of a place past the edges are 0
abbrev pub edge_numbers_fit : Bool → ℕ → ℕ → ℕ → ℕ → Bool
edge_numbers_fit is_edge tail head flow vertices =
    pick is_edge (both (ltb tail vertices) (both (ltb head vertices) (leb flow max_flow))) (both (eqb tail 0) (both (eqb head 0) (eqb flow 0)))

-- the same at place i of a network
abbrev pub edge_fits : Network → ℕ → Bool
edge_fits net i = edge_numbers_fit (ltb i net.edges) (get_or net.tails i 0) (get_or net.heads i 0) (get_or net.flows i 0) net.vertices

-- 2: the numbers of a terminal are in their ranges; those of a place past the terminals are 0
abbrev pub terminal_numbers_fit : Bool → ℕ → ℕ → ℕ → Bool
terminal_numbers_fit is_terminal home demand vertices =
    pick is_terminal (both (ltb home vertices) (both (leb 1 demand) (leb demand max_flow))) (both (eqb home 0) (eqb demand 0))

-- the same at place j of a network
abbrev pub terminal_fits : Network → ℕ → Bool
terminal_fits net j = terminal_numbers_fit (ltb j net.terminals) (get_or net.homes j 0) (get_or net.demands j 0) net.vertices

-- 3, 4 or 5, in this order, each over the whole network; 0 where it keeps the rules
unfoldable pub judged : Network → ℕ
unfolding all balanced
judged net =
    unless (all (no_loop net) 0 net.edges) 3
    (unless (all (away_from_source net) 0 net.terminals) 4
    (unless (all (balanced net) 0 net.vertices) 5 0))

-- 2: the counts and the source are in their ranges
abbrev pub counts_fit_in : ℕ → ℕ → ℕ → ℕ → Bool
counts_fit_in vertices edges terminals source =
    both (both (leb 2 vertices) (leb vertices max_vertices))
    (both (both (leb 1 edges) (leb edges max_edges)) (both (both (leb 1 terminals) (leb terminals max_terminals)) (ltb source vertices)))

-- the same of a network
abbrev pub counts_fit : Network → Bool
counts_fit net = counts_fit_in net.vertices net.edges net.terminals net.source

-- a network such as an accepted text gives
unfoldable pub lawful : Network → Bool
lawful net =
    both (counts_fit net)
    (both (all (edge_fits net) 0 max_edges) (both (all (terminal_fits net) 0 max_terminals) (eqb (judged net) 0)))

-- the limits: how long the lists are, how many vertices, edges and terminals there are, and how large flows and demands
pub record Within (net : Network) : Type 0 where
  pub flows_size : length net.flows ≡ max_edges
  pub demands_size : length net.demands ≡ max_terminals
  pub vertices : (2 ≤ net.vertices) × (net.vertices ≤ max_vertices)
  pub edges : (1 ≤ net.edges) × (net.edges ≤ max_edges)
  pub terminals : (1 ≤ net.terminals) × (net.terminals ≤ max_terminals)
  pub flow : (i : ℕ) → i < net.edges → get_or net.flows i 0 ≤ max_flow
  pub demand : (j : ℕ) → j < net.terminals → get_or net.demands j 0 ≤ max_flow

-- what an accepted text says: numbers in their ranges, 0 in the places past the counts, and the three rules
pub record Lawful (net : Network) : Type 0 where
  pub sound : Sound net
  pub within : Within net
  pub balanced : Balanced net
