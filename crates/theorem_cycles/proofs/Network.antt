-- The acyclic flow of a sound network that balances: its edges join vertices, no flow is above the text's, each vertex balances as in the text, no positive edge has a
-- path back, and none enters the source.
use mathlib.Core.Path.{◌≡◌, sym, ◌∙◌}
use mathlib.Core.Logic.{◌⊎◌, inl, inr}
use Prim.Native.Nat.{ℕ, ◌+◌, ◌<◌, ◌≤◌}
use native.Mathlib.Omega.{arith}
use lib.ListN.{length, get_or}
use Rattle.lists.specs.Lists.{sum_at}
use Rattle.lists.proofs.Laws.{lt_or_ge}
use Rattle.board.specs.declared.Network.{Network}
use Rattle.text_rules.specs.Sound.{demand_at, Sound, Balanced}
use Rattle.graph_flows.specs.Paths.{PositiveEdge, EndsBelow, Acyclic}
use Rattle.graph_flows.specs.Inner.{rank}
use Rattle.graph_flows.proofs.Source.{none-enters, rank_source}
use Rattle.graph_flows.proofs.Cancel.{acyclic_length, acyclic_below, acyclic_balance, acyclic_acyclic}
use Rattle.load.specs.Load.{acyclic_of}

module _ (net : Network) (sound : Sound net) where
  abbrev pub acyclic_flow_in : ℕ → ℕ
  acyclic_flow_in e = get_or (acyclic_of net) e 0

  -- a place past the edges holds 0, which is a vertex
  pub within : EndsBelow net.tails net.heads net.flows net.vertices
  within = record { start = λ e h. tail e (lt_or_ge e net.edges); end = λ e h. head e (lt_or_ge e net.edges) }
    where
      tail : (e : ℕ) → (e < net.edges) ⊎ (net.edges ≤ e) → get_or net.tails e 0 < net.vertices
      tail e (inl h) = sound.tail e h
      tail e (inr h) = omega (arith, (sound.no_edge e h).0, sound.source)

      head : (e : ℕ) → (e < net.edges) ⊎ (net.edges ≤ e) → get_or net.heads e 0 < net.vertices
      head e (inl h) = sound.head e h
      head e (inr h) = omega (arith, (sound.no_edge e h).1, sound.source)

  pub acyclic_of_below : (e : ℕ) → acyclic_flow_in e ≤ get_or net.flows e 0
  acyclic_of_below = acyclic_below net.tails net.heads net.flows net.vertices within sound.tails_size sound.heads_size

  pub acyclic_of_acyclic : Acyclic net.tails net.heads (acyclic_of net)
  acyclic_of_acyclic = acyclic_acyclic net.tails net.heads net.flows net.vertices within sound.tails_size sound.heads_size

  pub long_acyclic : length (acyclic_of net) ≡ length net.flows
  long_acyclic = acyclic_length net.tails net.heads net.flows net.vertices within sound.tails_size sound.heads_size

  pub within_acyclic : EndsBelow net.tails net.heads (acyclic_of net) net.vertices
  within_acyclic = record { start = λ e h. within.start e (omega (arith, long_acyclic)); end = λ e h. within.end e (omega (arith, long_acyclic)) }

  module _ (balanced : Balanced net) where
    pub acyclic_of_balance : (v : ℕ) → v < net.vertices → (v ≡ net.source → ⊥)
        → sum_at net.heads (acyclic_of net) v ≡ sum_at net.tails (acyclic_of net) v + demand_at net v
    acyclic_of_balance v h s =
        omega (arith, acyclic_balance net.tails net.heads net.flows net.vertices within sound.tails_size sound.heads_size v, balanced v h s)

    -- no positive edge enters the source, and its rank is 0
    pub source_unentered : (a : ℕ) → PositiveEdge net.tails net.heads (acyclic_of net) a net.source → ⊥
    source_unentered =
        none-enters net.tails net.heads (acyclic_of net) net.vertices net.source (demand_at net) (sound.tails_size ∙ sym long_acyclic) within_acyclic
        acyclic_of_acyclic acyclic_of_balance

    pub source_rank : rank net.tails net.heads (acyclic_of net) net.vertices net.source ≡ 0
    source_rank =
        rank_source net.tails net.heads (acyclic_of net) net.vertices net.source (demand_at net) (sound.tails_size ∙ sym long_acyclic) within_acyclic
        acyclic_of_acyclic acyclic_of_balance
