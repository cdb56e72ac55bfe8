-- A carry of terminal i over edge e keeps the invariant. Flows only fall and marks stay, so what a positive marked edge says of the others is kept.
-- The terminal arrives at the tail of e. If a positive marked edge enters there, then e was the one edge that left it, and is marked; so e is at 0 now,
-- nothing leaves, and the newcomer is the only terminal there that may need less than such an edge has.
use mathlib.Core.Path.{◌≡◌, refl, sym, ◌∙◌}
use mathlib.Core.Bool.{true, false}
use mathlib.Core.Logic.{◌⊎◌, inl, inr, ◌≢◌}
use Prim.Native.Nat.{ℕ, ◌+◌, ◌*◌, ◌-◌, ◌<◌, ◌≤◌}
use native.Mathlib.Omega.{arith}
use lib.ListN.{length, get_or, set, length-set}
use lib.Seq.{get_or-set_same, get_or-set_other}
use Rattle.lists.specs.Lists.{sum_at}
use Rattle.lists.specs.Members.{has}
use Rattle.lists.proofs.Laws.{eq_or_ne}
use Rattle.lists.proofs.Pigeon.{has_cases}
use Rattle.board.specs.Record.{blank}
use Rattle.board.specs.Whole.{Carry, Entry, Board}
use Rattle.text_rules.specs.Sound.{Sound}
use Rattle.graph_flows.specs.Trails.{Trail, go, down, downs}
use Rattle.graph_flows.proofs.Sums.{keyed_add, sum-set, sum_key}
use Rattle.move_guard.specs.Parts.{flow, acyclic_flow, tail, head, marked, demand, place}
use Rattle.move_carry.specs.Carries.{carried, carried_in}
use Rattle.report_routes.specs.Routes.{route, load, largest}
use Rattle.theorem_cycles.specs.Invariant.{amount_of, Marked, At, Invariant, SmallAmounts}
use Rattle.theorem_cycles.specs.Allowed.{Carriable}
use Rattle.theorem_keep.proofs.CarriedRoutes.{route-moved, route_kept, load_kept, largest_kept, load_moved, largest-moved}

module _ (b : Board) (i e : ℕ) (inv : Invariant b) (c : Carriable b i e) where
  law : Sound b.network
  law = inv.sound

  needs : 1 ≤ demand b i
  needs = law.demand i c.terminal

  positive : 0 < flow b e
  positive = omega (arith, needs, c.covers)

  -- the edge and the terminal are within their lists
  pub in_flows : e < length b.flows
  in_flows = omega (arith, c.edge, law.edges, inv.flows_size)

  in_places : i < length b.places
  in_places = omega (arith, c.terminal, law.terminals, inv.places_size, law.homes_size)

  -- flows and places after the carry
  flow-moved : flow (carried b i e) e ≡ flow b e - demand b i
  unfolding carried_in
  flow-moved = get_or-set_same b.flows e (flow b e - demand b i) 0 in_flows

  flow_kept : (g : ℕ) → g ≢ e → flow (carried b i e) g ≡ flow b g
  unfolding carried_in
  flow_kept g n = get_or-set_other b.flows e g (flow b e - demand b i) 0 n

  flow_falls : (g : ℕ) → flow (carried b i e) g ≤ flow b g
  flow_falls g = at (eq_or_ne g e)
    where
      at : (g ≡ e) ⊎ (g ≢ e) → flow (carried b i e) g ≤ flow b g
      at (inl q) = rw q (omega (arith, flow-moved))
      at (inr n) = omega (arith, flow_kept g n)

  was_positive : (g : ℕ) → 0 < flow (carried b i e) g → 0 < flow b g
  was_positive g h = omega (arith, flow_falls g)

  was_marked : (g : ℕ) → Marked (carried b i e) g → Marked b g
  unfolding carried_in
  was_marked g m = record { mark = m.mark; above = was_positive g m.above }

  -- a marked edge is at 0 after the carry
  emptied : marked b e ≡ true → flow (carried b i e) e ≡ 0
  emptied m = omega (arith, flow-moved, c.exact m)

  place-moved : place (carried b i e) i ≡ tail b e
  unfolding carried_in
  place-moved = get_or-set_same b.places i (tail b e) 0 in_places

  place_kept : (k : ℕ) → k ≢ i → place (carried b i e) k ≡ place b k
  unfolding carried_in
  place_kept k n = get_or-set_other b.places i k (tail b e) 0 n

  was_at : (k v : ℕ) → k ≢ i → At (carried b i e) k v → At b k v
  unfolding carried_in
  was_at k v n a = record { terminal = a.terminal; here = sym (place_kept k n) ∙ a.here }

  -- where the terminal arrives
  arrived : (k v : ℕ) → k ≡ i → At (carried b i e) k v → tail b e ≡ v
  arrived k v q a = sym place-moved ∙ rw q at a.here

  placed : (k : ℕ) → k < b.network.terminals → place (carried b i e) k < b.network.vertices
  placed k h = at (eq_or_ne k i)
    where
      at : (k ≡ i) ⊎ (k ≢ i) → place (carried b i e) k < b.network.vertices
      at (inl q) = rw (q, place-moved) (law.tail e c.edge)
      at (inr n) = rw (place_kept k n) (inv.placed k h)

  unplaced : (k : ℕ) → b.network.terminals ≤ k → place (carried b i e) k ≡ 0
  unplaced k h = place_kept k (λ q. omega (arith, q, h, c.terminal)) ∙ inv.unplaced k h

  balance : (v : ℕ) → v < b.network.vertices → (v ≡ b.network.source → ⊥)
      → sum_at b.network.heads (carried b i e).flows v ≡ sum_at b.network.tails (carried b i e).flows v + sum_at (carried b i e).places b.network.demands v
  unfolding carried_in
  balance v h s =
      let f = flow b e in
      let d = demand b i in
      let split : f - d + d ≡ f = omega (arith, c.covers) in
      let p = sum-set b.network.heads b.flows e (f - d) v (omega (arith, in_flows, law.heads_size, inv.flows_size)) in_flows in
      let q = sum-set b.network.tails b.flows e (f - d) v (omega (arith, in_flows, law.tails_size, inv.flows_size)) in_flows in
      let r = rw (sym c.enters) at (sum_key b.places b.network.demands i (tail b e) v in_places
      (omega (arith, in_places, law.homes_size, inv.places_size))) in
      let x = rw split at (keyed_add (head b e) v (f - d) d) in
      let y = rw split at (keyed_add (tail b e) v (f - d) d) in
      omega (arith, inv.balance v h s)

  -- the terminals at the head of a marked edge
  all_fit : (g w k : ℕ) → Marked (carried b i e) g → tail b w ≡ head b g → 0 < flow (carried b i e) w → At (carried b i e) k (head b g)
      → flow (carried b i e) g ≤ demand b k
  all_fit g w k m t h a = at (eq_or_ne k i)
    where
      at : (k ≡ i) ⊎ (k ≢ i) → flow (carried b i e) g ≤ demand b k
      at (inl q) =
          let t' = arrived k (head b g) q a in
          let same : w ≡ e = inv.one_out g w e (was_marked g m) t (was_positive w h) t' positive in
          let zero_now = emptied (inv.down_closed g e (was_marked g m) t' positive) in
          absurd (omega (arith, zero_now, rw same at h))
      at (inr n) = omega (arith, flow_falls g, inv.all_fit g w k (was_marked g m) t (was_positive w h) (was_at k (head b g) n a))

  one_misfit : (g g' k j : ℕ) → Marked (carried b i e) g → Marked (carried b i e) g' → head b g' ≡ head b g
      → At (carried b i e) k (head b g) → At (carried b i e) j (head b g) → (k ≡ j → ⊥)
      → (flow (carried b i e) g ≤ demand b k) ⊎ (flow (carried b i e) g' ≤ demand b j)
  one_misfit g g' k j m m' s a a' n = at (eq_or_ne k i) (eq_or_ne j i)
    where
      kept : (flow b g ≤ demand b k) ⊎ (flow b g' ≤ demand b j) → (flow (carried b i e) g ≤ demand b k) ⊎ (flow (carried b i e) g' ≤ demand b j)
      kept (inl h) = inl (omega (arith, flow_falls g))
      kept (inr h) = inr (omega (arith, flow_falls g'))

      at : (k ≡ i) ⊎ (k ≢ i) → (j ≡ i) ⊎ (j ≢ i) → (flow (carried b i e) g ≤ demand b k) ⊎ (flow (carried b i e) g' ≤ demand b j)
      at (inl q) (inl r) = absurd (n (q ∙ sym r))
      at (inl q) (inr r) =
          kept (inr (inv.all_fit g' e j (was_marked g' m') (arrived k (head b g) q a ∙ sym s) positive (rw s (was_at j (head b g) r a'))))
      at (inr q) (inl r) = kept (inl (inv.all_fit g e k (was_marked g m) (arrived j (head b g) r a') positive (was_at k (head b g) q a)))
      at (inr q) (inr r) = kept (inv.one_misfit g g' k j (was_marked g m) (was_marked g' m') s (was_at k (head b g) q a) (was_at j (head b g) r a') n)

  module _ (in-journal : b.moves < length b.journal) where
    -- the journal
    blanks : (k : ℕ) → b.moves + 1 ≤ k → get_or (carried b i e).journal k blank ≡ blank
    unfolding carried_in
    blanks k h =
        get_or-set_other b.journal b.moves k (record { step = Carry (record { terminal = i; edge = e }) }) blank (λ q. omega (arith, q, h))
        ∙ inv.blanks k (omega arith)

    pub carried_small : (m : ℕ) → SmallAmounts b m → SmallAmounts (carried b i e) m
    unfolding carried_in
    carried_small m small = record { demands = small.demands; amounts = λ k. at k (eq_or_ne k b.moves) }
      where
        entry : Entry
        entry = record { step = Carry (record { terminal = i; edge = e }) }

        at : (k : ℕ) → (k ≡ b.moves) ⊎ (k ≢ b.moves)
            → amount_of (get_or (set b.journal b.moves entry) k blank).step ≤ length b.network.demands * m
        at k (inl q) = rw (q, get_or-set_same b.journal b.moves entry blank in-journal) (omega arith)
        at k (inr n) = rw (get_or-set_other b.journal b.moves k entry blank n) (small.amounts k)

    -- the loads
    load_unmarked : (g : ℕ) → marked b g ≡ false → flow (carried b i e) g + load (carried b i e) g ≤ acyclic_flow b g
    load_unmarked g m = at (eq_or_ne g e)
      where
        at : (g ≡ e) ⊎ (g ≢ e) → flow (carried b i e) g + load (carried b i e) g ≤ acyclic_flow b g
        at (inl q) = rw q (omega (arith, flow-moved, load_moved b i e in-journal, inv.load_unmarked e (rw q at m), c.covers))
        at (inr n) = omega (arith, flow_kept g n, load_kept b i e in-journal g n, inv.load_unmarked g m)

    load_positive : (g : ℕ) → Marked (carried b i e) g → load (carried b i e) g < acyclic_flow b g
    load_positive g m = at (eq_or_ne g e)
      where
        at : (g ≡ e) ⊎ (g ≢ e) → load (carried b i e) g < acyclic_flow b g
        at (inl q) = absurd (omega (arith, emptied (rw q at (was_marked g m).mark), rw q at m.above))
        at (inr n) = omega (arith, load_kept b i e in-journal g n, inv.load_positive g (was_marked g m))

    load_zero : (g : ℕ) → marked b g ≡ true → flow (carried b i e) g ≡ 0 → load (carried b i e) g < acyclic_flow b g + largest (carried b i e) g
    load_zero g m z = at (eq_or_ne g e)
      where
        at : (g ≡ e) ⊎ (g ≢ e) → load (carried b i e) g < acyclic_flow b g + largest (carried b i e) g
        at (inl q) = rw q (omega (
          arith,
          load_moved b i e in-journal,
          largest-moved b i e in-journal c.terminal,
          inv.load_positive e (record { mark = rw q at m; above = positive }),
        ))
        at (inr n) = omega (arith, load_kept b i e in-journal g n, largest_kept b i e in-journal g n, inv.load_zero g m (sym (flow_kept g n) ∙ z))

    -- the routes
    routes : (k : ℕ) → k < b.network.terminals
        → Trail b.network.tails b.network.heads (place (carried b i e) k) (downs (route (carried b i e) k)) (get_or b.network.homes k 0)
    routes k h = at (eq_or_ne k i)
      where
        at : (k ≡ i) ⊎ (k ≢ i)
            → Trail b.network.tails b.network.heads (place (carried b i e) k) (downs (route (carried b i e) k)) (get_or b.network.homes k 0)
        at (inl q) =
            let before : Trail b.network.tails b.network.heads (head b e) (downs (route b i)) (get_or b.network.homes i 0) =
            rw c.enters (inv.routes i c.terminal) in
            rw (q, place-moved, route-moved b i e in-journal) (go (down e) refl before)
        at (inr n) = rw (place_kept k n, route_kept b i e in-journal k n) (inv.routes k h)

    on_routes : (k g : ℕ) → k < b.network.terminals → has g (route (carried b i e) k) ≡ true → 0 < acyclic_flow b g
    on_routes k g h t = at (eq_or_ne k i)
      where
        in_front_lem : (g ≡ e) ⊎ (has g (route b i) ≡ true) → 0 < acyclic_flow b g
        in_front_lem (inl q) = rw q (inv.support e positive)
        in_front_lem (inr r) = inv.on_routes i g c.terminal r

        at : (k ≡ i) ⊎ (k ≢ i) → 0 < acyclic_flow b g
        at (inl q) = in_front_lem (has_cases g e (route b i) (rw (q, route-moved b i e in-journal) at t))
        at (inr n) = inv.on_routes k g h (rw (route_kept b i e in-journal k n) at t)

    pub carried_invariant : Invariant (carried b i e)
    unfolding carried_in
    carried_invariant = record {
      sound = law;
      balanced = inv.balanced;
      acyclic = inv.acyclic;
      flows_size = length-set b.flows e (flow b e - demand b i) ∙ inv.flows_size;
      places_size = length-set b.places i (tail b e) ∙ inv.places_size;
      placed = placed;
      unplaced = unplaced;
      room = omega (arith, inv.room, length-set b.journal b.moves (record { step = Carry (record { terminal = i; edge = e }) }));
      blanks = blanks;
      balance = balance;
      support = λ g h. inv.support g (was_positive g h);
      one_out = λ g w w' m t h t' h'. inv.one_out g w w' (was_marked g m) t (was_positive w h) t' (was_positive w' h');
      down_closed = λ g w m t h. inv.down_closed g w (was_marked g m) t (was_positive w h);
      across_closed = λ g g' m t h. inv.across_closed g g' (was_marked g m) t (was_positive g' h);
      all_fit = all_fit;
      one_misfit = one_misfit;
      load_unmarked = load_unmarked;
      load_positive = load_positive;
      load_zero = load_zero;
      routes = routes;
      on_routes = on_routes;
    }
