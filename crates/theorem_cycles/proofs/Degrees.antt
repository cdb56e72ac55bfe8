-- Which positive edges meet at a vertex. Each vertex but the source takes in what it sends on and what its terminals need, so where a positive edge leaves, one
-- enters; and what a terminal away from the source needs comes from the source, so one leaves it. Where nothing leaves and no carry is open two enter: a single
-- edge would have just what the terminals there need together, so it would cover each of them, and where it is marked, too, it would be exactly what one needs.
use mathlib.Core.Path.{◌≡◌, refl, sym, ◌∙◌}
use mathlib.Core.Bool.{false, true≢false}
use mathlib.Core.Logic.{◌⊎◌, inl, inr, ◌≢◌}
use mathlib.Core.List.{List}
use Prim.Native.Nat.{ℕ, ◌+◌, ◌<◌, ◌≤◌}
use native.Mathlib.Omega.{arith}
use lib.ListN.{length, get_or, set}
use lib.Seq.{get_or-set_same, get_or-set_other}
use Rattle.lists.specs.Lists.{keyed, sum_at}
use Rattle.lists.proofs.Laws.{above_inside, Known, was_true, was_false, known, lt_or_ge}
use Rattle.board.specs.Whole.{Board}
use Rattle.move_guard.specs.Parts.{flow, tail, head, marked, demand, place}
use Rattle.text_rules.specs.Sound.{Sound}
use Rattle.move_carry.specs.Opens.{some_open}
use Rattle.graph_flows.specs.Paths.{Path, here, on, First, Acyclic}
use Rattle.graph_flows.proofs.Sums.{KeyedEntry, sum_entry, entry_within, sum-set, keyed_cases}
use Rattle.graph_flows.proofs.Source.{fed}
use Rattle.graph_flows.proofs.Walk.{path_cases}
use Rattle.load.specs.Load.{acyclic_of}
use Rattle.theorem_cycles.specs.Invariant.{Invariant, Marked, At}
use Rattle.theorem_cycles.proofs.Network.{acyclic_of_acyclic, source_unentered}
use Rattle.theorem_cycles.proofs.Flowing.{joined, tails_long, heads_long, positive_acyclic}
use Rattle.theorem_cycles.specs.Walked.{Leaves}
use Rattle.theorem_cycles.proofs.Openings.{facts_open, none_open}
use Rattle.theorem_cycles.proofs.TurnedMarks.{positive_inside, not_equal}

module _ (b : Board) where
  -- a positive edge that enters v
  pub record Entering (v : ℕ) : Type 0 where
    pub edge : ℕ
    pub enters : Leaves b.network.heads b.flows v edge

  -- one that enters v beside x
  pub record Other (v x : ℕ) : Type 0 where
    pub edge : ℕ
    pub enters : Leaves b.network.heads b.flows v edge
    pub differs : edge ≢ x

  -- a positive edge that leaves the source
  pub record Starting : Type 0 where
    pub edge : ℕ
    pub leaves : Leaves b.network.tails b.flows b.network.source edge

-- ---- a sum by key with one of its terms

-- the sum is that term, or has another term above 0
data Beside (ks xs : List ℕ) (v x : ℕ) : Type 0 where
  alone : sum_at ks xs v ≡ get_or xs x 0 → Beside ks xs v x
  another : (e : ℕ) → get_or ks e 0 ≡ v → 0 < get_or xs e 0 → e ≢ x → Beside ks xs v x

keyed_own : (k v x : ℕ) → k ≡ v → keyed k v x ≡ x
keyed_own k v x q = go (keyed_cases k v x)
  where
    go : ((k ≡ v) × (keyed k v x ≡ x)) ⊎ ((k ≢ v) × (keyed k v x ≡ 0)) → keyed k v x ≡ x
    go (inl p) = p.1
    go (inr p) = absurd (p.0 q)

-- the other terms are the sum once this one is 0
beside : (ks xs : List ℕ) (v x : ℕ) → x < length ks → x < length xs → get_or ks x 0 ≡ v → Beside ks xs v x
beside ks xs v x h g q = go (lt_or_ge 0 (sum_at ks (set xs x 0) v))
  where
    rest : sum_at ks (set xs x 0) v + keyed (get_or ks x 0) v (get_or xs x 0) ≡ sum_at ks xs v + keyed (get_or ks x 0) v 0
    rest = sum-set ks xs x 0 v h g

    differs : (w : KeyedEntry ks (set xs x 0) v) → w.e ≢ x
    differs w p = let low : 0 < get_or (set xs x 0) x 0 = rw p at w.above in omega (arith, low, get_or-set_same xs x 0 0 g)

    go : (0 < sum_at ks (set xs x 0) v) ⊎ (sum_at ks (set xs x 0) v ≤ 0) → Beside ks xs v x
    go (inl l) =
        let w = sum_entry ks (set xs x 0) v l in
        another w.e w.key (omega (arith, w.above, get_or-set_other xs x w.e 0 0 (differs w))) (differs w)
    go (inr l) = alone (omega (arith, l, rest, keyed_own (get_or ks x 0) v (get_or xs x 0) q, keyed_own (get_or ks x 0) v 0 q))

-- ---- the board's edges

module _ (b : Board) (inv : Invariant b) where
  law : Sound b.network
  law = inv.sound

  -- the edges of a path now are positive in the acyclic flow
  path_was : {u v : ℕ} → Path b.network.tails b.network.heads b.flows u v
      → Path b.network.tails b.network.heads (acyclic_of b.network) u v
  path_was here = here
  path_was (on {b = m} {c = v} p d) = on (path_was p) (positive_acyclic b inv m v d)

  -- so the flow is acyclic
  no_cycle : Acyclic b.network.tails b.network.heads b.flows
  no_cycle u v d p = acyclic_of_acyclic b.network law u v (positive_acyclic b inv u v d) (path_was p)

  places_long : length b.places ≡ length b.network.demands
  places_long = inv.places_size ∙ law.homes_size

  -- no positive edge enters the source
  pub never_enters : (e : ℕ) → 0 < flow b e → head b e ≢ b.network.source
  never_enters e h q =
      source_unentered b.network law inv.balanced (tail b e)
      (positive_acyclic b inv (tail b e) b.network.source
      (record { edge = e; inside = above_inside b.flows e h; start = refl; end = q; above = h }))

  -- an edge is within the flow at its ends
  out_at_least : (v e : ℕ) → Leaves b.network.tails b.flows v e → flow b e ≤ sum_at b.network.tails b.flows v
  out_at_least v e l =
      let g : e < length b.flows = above_inside b.flows e l.above in
      entry_within b.network.tails b.flows v e (omega (arith, g, tails_long b inv)) g l.start

  pub in_at_least : (v e : ℕ) → Leaves b.network.heads b.flows v e → flow b e ≤ sum_at b.network.heads b.flows v
  in_at_least v e l =
      let g : e < length b.flows = above_inside b.flows e l.above in
      entry_within b.network.heads b.flows v e (omega (arith, g, heads_long b inv)) g l.start

  -- a vertex other than the source that a positive edge leaves, one enters, too
  pub fed_vertex : (v e : ℕ) → v < b.network.vertices → v ≢ b.network.source → Leaves b.network.tails b.flows v e → Entering b v
  fed_vertex v e h n l =
      let w = sum_entry b.network.heads b.flows v (omega (arith, inv.balance v h n, out_at_least v e l, l.above)) in
      record { edge = w.e; enters = record { start = w.key; above = w.above } }

  -- ---- a positive edge leaves the source

  -- the terminals at v need what each of them needs, or more
  need_at_least : (i v : ℕ) → At b i v → demand b i ≤ sum_at b.places b.network.demands v
  need_at_least i v at =
      let g : i < length b.network.demands = omega (arith, at.terminal, law.terminals) in
      entry_within b.places b.network.demands v i (omega (arith, g, places_long)) g at.here

  -- where terminal i is away, a positive edge leaves the source
  pub starts : (i : ℕ) → i < b.network.terminals → place b i ≢ b.network.source → Starting b
  starts i low away = go (path_cases way)
    where
      need : demand b i ≤ sum_at b.places b.network.demands (place b i)
      need = need_at_least i (place b i) (record { terminal = low; here = refl })

      way : Path b.network.tails b.network.heads b.flows b.network.source (place b i)
      way =
          fed b.network.tails b.network.heads b.flows b.network.vertices b.network.source
          (λ v. sum_at b.places b.network.demands v) (tails_long b inv) (joined b inv) no_cycle inv.balance (place b i) (inv.placed i low)
          (omega (arith, inv.balance (place b i) (inv.placed i low) away, need, law.demand i low))

      go : (b.network.source ≡ place b i) ⊎ First b.network.tails b.network.heads b.flows b.network.source (place b i) → Starting b
      go (inl q) = absurd (away (sym q))
      go (inr f) = record { edge = f.edge.edge; leaves = record { start = f.edge.start; above = f.edge.above } }

  -- ---- a second edge enters

  -- a place with a demand above 0 is a terminal's
  pub at_terminal : (i v : ℕ) → place b i ≡ v → 0 < demand b i → At b i v
  at_terminal i v q h = go (lt_or_ge i b.network.terminals)
    where
      go : (i < b.network.terminals) ⊎ (b.network.terminals ≤ i) → At b i v
      go (inl l) = record { terminal = l; here = q }
      go (inr l) = absurd (omega (arith, h, (law.no_terminal i l).1))

  module _ (shut : some_open b ≡ false) where
    -- an edge with all that the terminals at its head need together: a carry over it is open
    covers_open : (x i : ℕ) → 0 < flow b x → At b i (head b x) → flow b x ≡ sum_at b.places b.network.demands (head b x) → ⊥
    covers_open x i h at q = go (known (marked b x))
      where
        least : demand b i ≤ flow b x
        least = omega (arith, q, need_at_least i (head b x) at)

        -- some terminal needs just what a marked edge has
        exact : Marked b x → Beside b.places b.network.demands (head b x) i → ⊥
        exact m (alone s) = not_equal b inv shut x i h at (omega (arith, q, s))
        exact m (another j p a d) = pair (inv.one_misfit x x i j m m refl at at' (λ s. d (sym s)))
          where
            at' : At b j (head b x)
            at' = at_terminal j (head b x) p a

            pair : (flow b x ≤ demand b i) ⊎ (flow b x ≤ demand b j) → ⊥
            pair (inl l) = not_equal b inv shut x i h at (omega (arith, l, least))
            pair (inr l) = not_equal b inv shut x j h at' (omega (arith, l, q, need_at_least j (head b x) at'))

        inside : i < length b.network.demands
        inside = omega (arith, at.terminal, law.terminals)

        go : Known (marked b x) → ⊥
        go (was_false t) =
            true≢false
            (sym (facts_open b i x (sym at.here) least (λ m. absurd (true≢false (sym m ∙ t))))
            ∙ none_open b i x at.terminal (positive_inside b inv x h) shut)
        go (was_true t) =
            exact (record { mark = t; above = h })
            (beside b.places b.network.demands (head b x) i (omega (arith, inside, places_long)) inside at.here)

    -- where no positive edge leaves v, a second one enters beside x
    pub second : (v x : ℕ) → v < b.network.vertices → v ≢ b.network.source → ((g : ℕ) → Leaves b.network.tails b.flows v g → ⊥)
        → Leaves b.network.heads b.flows v x → Other b v x
    second v x h n none l = go (beside b.network.heads b.flows v x (omega (arith, inside, heads_long b inv)) inside l.start)
      where
        inside : x < length b.flows
        inside = above_inside b.flows x l.above

        -- nothing flows out
        no_outflow : sum_at b.network.tails b.flows v ≡ 0
        no_outflow = out (lt_or_ge 0 (sum_at b.network.tails b.flows v))
          where
            out : (0 < sum_at b.network.tails b.flows v) ⊎ (sum_at b.network.tails b.flows v ≤ 0) → sum_at b.network.tails b.flows v ≡ 0
            out (inl a) = let w = sum_entry b.network.tails b.flows v a in absurd (none w.e (record { start = w.key; above = w.above }))
            out (inr a) = omega arith

        need : sum_at b.network.heads b.flows v ≡ sum_at b.places b.network.demands v
        need = omega (arith, inv.balance v h n, no_outflow)

        -- so a terminal is there
        some : KeyedEntry b.places b.network.demands v
        some = sum_entry b.places b.network.demands v (omega (arith, need, in_at_least v x l, l.above))

        go : Beside b.network.heads b.flows v x → Other b v x
        go (another e q a d) = record { edge = e; enters = record { start = q; above = a }; differs = d }
        go (alone q) =
            absurd
            (covers_open x some.e l.above (rw l.start (at_terminal some.e v some.key some.above)) (rw l.start (omega (arith, need, q))))
