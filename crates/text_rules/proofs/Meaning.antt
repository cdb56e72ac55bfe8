-- The test of a network is what an accepted text says of it. Each part of the test is one fact of `Lawful`, place by place; past the counts
-- both say that the place holds 0.
use mathlib.Core.Path.{◌≡◌, refl, sym, ◌∙◌}
use mathlib.Core.Logic.{◌↔◌}
use mathlib.Core.Bool.{Bool, true, false, not}
use Prim.Native.Nat.{ℕ, ◌<◌, ◌≤◌}
use native.Mathlib.Omega.{arith}
use lib.Dec.{leb, ltb, eqb}
use lib.ListN.{length, get_or, get_or-eq_default}
use borrow.Author.Tests.{lt-ltb, le-ltb, le-leb, eq-eqb, ne_eqb, ltb-true, ltb-false, leb-true, eqb-true, eqb-false, not-true}
use Rattle.lists.specs.Choice.{pick, both}
use Rattle.lists.specs.Lists.{all}
use Rattle.lists.proofs.Laws.{Known, was_true, was_false, known, pick_yes, pick_no, both_left, both_right, both_true, all_from, all_zero}
use Rattle.board.specs.Limits.{max_vertices, max_edges, max_terminals, max_flow}
use Rattle.board.specs.declared.Network.{Network}
use Rattle.text_rules.specs.Rules.{edge_fits, terminal_fits, no_loop, away_from_source, balanced, judged, counts_fit, lawful, Lawful}
use Rattle.text_rules.specs.Sound.{Balanced}

-- what `judged` tests, said of each place
pub record Kept (net : Network) : Type 0 where
  pub no_loop : (i : ℕ) → i < net.edges → get_or net.tails i 0 ≡ get_or net.heads i 0 → ⊥
  pub away : (j : ℕ) → j < net.terminals → get_or net.homes j 0 ≡ net.source → ⊥
  pub balanced : Balanced net

pick_zero : (t : Bool) (a n : ℕ) → 0 < n → pick t a n ≡ 0 → (t ≡ true) × (a ≡ 0)
unfolding pick
pick_zero true a n h e = (refl, e)
pick_zero false a n h e = absurd (omega arith)

pub kept : (net : Network) → judged net ≡ 0 → Kept net
unfolding judged
kept net h =
    let p = pick_zero _ _ 3 (omega arith) h in
    let q = pick_zero _ _ 4 (omega arith) p.1 in
    let r = pick_zero _ _ 5 (omega arith) q.1 in
    record {
      no_loop = λ i less. eqb-false _ _ (not-true _ (all_from (no_loop net) _ i p.0 less));
      away = λ j less. eqb-false _ _ (not-true _ (all_from (away_from_source net) _ j q.0 less));
      balanced = λ v less other. eqb-true _ _ (rw (ne_eqb v net.source other) at (all_from (balanced net) _ v r.0 less));
    }

pub judged_zero : (net : Network) → Lawful net → judged net ≡ 0
unfolding judged
judged_zero net law =
    pick_yes _ _ _ (all_zero _ _ λ i h. differ _ _ (law.sound.no_loop i h))
    ∙ (pick_yes _ _ _ (all_zero _ _ λ j h. differ _ _ (law.sound.away j h))
    ∙ pick_yes _ _ _ (all_zero _ _ λ v h. go v h (known (eqb v net.source))))
  where
    differ : (a b : ℕ) → (a ≡ b → ⊥) → not (eqb a b) ≡ true
    differ a b h = rw (ne_eqb a b h)

    go : (v : ℕ) → v < net.vertices → Known (eqb v net.source) → balanced net v ≡ true
    go v h (was_true t) = rw t
    go v h (was_false t) = rw t (eq-eqb _ _ (law.balanced v h (eqb-false _ _ t)))

-- the lengths of the arrays, which no code can change
pub record Sized (net : Network) : Type 0 where
  pub tails : length net.tails ≡ max_edges
  pub heads : length net.heads ≡ max_edges
  pub flows : length net.flows ≡ max_edges
  pub homes : length net.homes ≡ max_terminals
  pub demands : length net.demands ≡ max_terminals

pub counts_tested : (net : Network) → (2 ≤ net.vertices) × (net.vertices ≤ max_vertices) → (1 ≤ net.edges) × (net.edges ≤ max_edges)
    → (1 ≤ net.terminals) × (net.terminals ≤ max_terminals) → net.source < net.vertices → counts_fit net ≡ true
counts_tested net vertices edges terminals source =
    both_true _ _ (both_true _ _ (le-leb _ _ vertices.0) (le-leb _ _ vertices.1))
    (both_true _ _ (both_true _ _ (le-leb _ _ edges.0) (le-leb _ _ edges.1))
    (both_true _ _ (both_true _ _ (le-leb _ _ terminals.0) (le-leb _ _ terminals.1)) (lt-ltb _ _ source)))

module _ (net : Network) (law : Lawful net) where
  edge_fits_lem : (i : ℕ) → edge_fits net i ≡ true
  edge_fits_lem i = go (known (ltb i net.edges))
    where
      go : Known (ltb i net.edges) → edge_fits net i ≡ true
      go (was_true t) =
          let h = ltb-true i net.edges t in
          pick_yes _ _ _ t
          ∙ both_true _ _ (lt-ltb _ _ (law.sound.tail i h)) (both_true _ _ (lt-ltb _ _ (law.sound.head i h)) (le-leb _ _ (law.within.flow i h)))
      go (was_false t) =
          let z = law.sound.no_edge i (ltb-false i net.edges t) in
          pick_no _ _ _ t ∙ both_true _ _ (eq-eqb _ _ z.0) (both_true _ _ (eq-eqb _ _ z.1) (eq-eqb _ _ z.2))

  terminal_fits_lem : (j : ℕ) → terminal_fits net j ≡ true
  terminal_fits_lem j = go (known (ltb j net.terminals))
    where
      go : Known (ltb j net.terminals) → terminal_fits net j ≡ true
      go (was_true t) =
          let h = ltb-true j net.terminals t in
          pick_yes _ _ _ t
          ∙ both_true _ _ (lt-ltb _ _ (law.sound.home j h)) (both_true _ _ (le-leb _ _ (law.sound.demand j h)) (le-leb _ _ (law.within.demand j h)))
      go (was_false t) =
          let z = law.sound.no_terminal j (ltb-false j net.terminals t) in
          pick_no _ _ _ t ∙ both_true _ _ (eq-eqb _ _ z.0) (eq-eqb _ _ z.1)

  pub lawful_tested : lawful net ≡ true
  unfolding lawful
  lawful_tested =
      both_true _ _
      (counts_tested net law.within.vertices law.within.edges law.within.terminals law.sound.source)
      (both_true _ _ (all_zero (edge_fits net) max_edges (λ i h. edge_fits_lem i))
      (both_true _ _ (all_zero (terminal_fits net) max_terminals (λ j h. terminal_fits_lem j)) (eq-eqb _ _ (judged_zero net law))))

module _ (net : Network) (size : Sized net) (h : lawful net ≡ true) where
  record Counts : Type 0 where
    pub vertices : (2 ≤ net.vertices) × (net.vertices ≤ max_vertices)
    pub edges : (1 ≤ net.edges) × (net.edges ≤ max_edges)
    pub terminals : (1 ≤ net.terminals) × (net.terminals ≤ max_terminals)
    pub source : net.source < net.vertices

  range : (low n high : ℕ) → both (leb low n) (leb n high) ≡ true → (low ≤ n) × (n ≤ high)
  range low n high e = (leb-true _ _ (both_left _ _ e), leb-true _ _ (both_right _ _ e))

  counts : Counts
  unfolding lawful
  counts =
      let c1 = both_left _ _ h in
      let c2 = both_right _ _ c1 in
      let c3 = both_right _ _ c2 in
      record {
        vertices = range 2 _ _ (both_left _ _ c1);
        edges = range 1 _ _ (both_left _ _ c2);
        terminals = range 1 _ _ (both_left _ _ c3);
        source = ltb-true _ _ (both_right _ _ c3);
      }

  edges_fit : all (edge_fits net) 0 max_edges ≡ true
  unfolding lawful
  edges_fit = both_left _ _ (both_right _ _ h)

  terminals_fit : all (terminal_fits net) 0 max_terminals ≡ true
  unfolding lawful
  terminals_fit = both_left _ _ (both_right _ _ (both_right _ _ h))

  the_rules : Kept net
  unfolding lawful
  the_rules = kept net (eqb-true _ _ (both_right _ _ (both_right _ _ (both_right _ _ h))))

  edge_in : (i : ℕ) → i < net.edges → (get_or net.tails i 0 < net.vertices) × (get_or net.heads i 0 < net.vertices) × (get_or net.flows i 0 ≤ max_flow)
  edge_in i less =
      let e = sym (pick_yes _ _ _ (lt-ltb _ _ less)) ∙ all_from (edge_fits net) max_edges i edges_fit (omega (arith, counts.edges)) in
      let r = both_right _ _ e in
      (ltb-true _ _ (both_left _ _ e), ltb-true _ _ (both_left _ _ r), leb-true _ _ (both_right _ _ r))

  terminal_in : (j : ℕ) → j < net.terminals → (get_or net.homes j 0 < net.vertices) × (1 ≤ get_or net.demands j 0) × (get_or net.demands j 0 ≤ max_flow)
  terminal_in j less =
      let e = sym (pick_yes _ _ _ (lt-ltb _ _ less)) ∙ all_from (terminal_fits net) max_terminals j terminals_fit (omega (arith, counts.terminals)) in
      let r = both_right _ _ e in
      (ltb-true _ _ (both_left _ _ e), leb-true _ _ (both_left _ _ r), leb-true _ _ (both_right _ _ r))

  edge_out : (i : ℕ) → net.edges ≤ i → (get_or net.tails i 0 ≡ 0) × (get_or net.heads i 0 ≡ 0) × (get_or net.flows i 0 ≡ 0)
  edge_out i past = go (known (ltb i max_edges))
    where
      go : Known (ltb i max_edges) → (get_or net.tails i 0 ≡ 0) × (get_or net.heads i 0 ≡ 0) × (get_or net.flows i 0 ≡ 0)
      go (was_true t) =
          let e = sym (pick_no _ _ _ (le-ltb _ _ past)) ∙ all_from (edge_fits net) max_edges i edges_fit (ltb-true _ _ t) in
          let r = both_right _ _ e in
          (eqb-true _ _ (both_left _ _ e), eqb-true _ _ (both_left _ _ r), eqb-true _ _ (both_right _ _ r))
      go (was_false t) =
          let out = ltb-false i max_edges t in (
            get_or-eq_default net.tails 0 (omega (arith, size.tails, out)),
            get_or-eq_default net.heads 0 (omega (arith, size.heads, out)),
            get_or-eq_default net.flows 0 (omega (arith, size.flows, out)),
          )

  terminal_out : (j : ℕ) → net.terminals ≤ j → (get_or net.homes j 0 ≡ 0) × (get_or net.demands j 0 ≡ 0)
  terminal_out j past = go (known (ltb j max_terminals))
    where
      go : Known (ltb j max_terminals) → (get_or net.homes j 0 ≡ 0) × (get_or net.demands j 0 ≡ 0)
      go (was_true t) =
          let e = sym (pick_no _ _ _ (le-ltb _ _ past)) ∙ all_from (terminal_fits net) max_terminals j terminals_fit (ltb-true _ _ t) in
          (eqb-true _ _ (both_left _ _ e), eqb-true _ _ (both_right _ _ e))
      go (was_false t) =
          let out = ltb-false j max_terminals t in
          (get_or-eq_default net.homes 0 (omega (arith, size.homes, out)), get_or-eq_default net.demands 0 (omega (arith, size.demands, out)))

  pub lawful_holds : Lawful net
  lawful_holds = record {
    sound = record {
      tails_size = size.tails ∙ sym size.flows;
      heads_size = size.heads ∙ sym size.flows;
      homes_size = size.homes ∙ sym size.demands;
      edges = omega (arith, counts.edges, size.flows);
      terminals = omega (arith, counts.terminals, size.demands);
      source = counts.source;
      tail = λ i less. (edge_in i less).0;
      head = λ i less. (edge_in i less).1;
      home = λ j less. (terminal_in j less).0;
      demand = λ j less. (terminal_in j less).1;
      no_edge = edge_out;
      no_terminal = terminal_out;
      no_loop = the_rules.no_loop;
      away = the_rules.away;
    };
    within = record {
      flows_size = size.flows;
      demands_size = size.demands;
      vertices = counts.vertices;
      edges = counts.edges;
      terminals = counts.terminals;
      flow = λ i less. (edge_in i less).2;
      demand = λ j less. (terminal_in j less).2;
    };
    balanced = the_rules.balanced;
  }

-- the lengths of a lawful network's lists
pub lawful_sized : (net : Network) → Lawful net → Sized net
lawful_sized net law = record {
  tails = law.sound.tails_size ∙ law.within.flows_size;
  heads = law.sound.heads_size ∙ law.within.flows_size;
  flows = law.within.flows_size;
  homes = law.sound.homes_size ∙ law.within.demands_size;
  demands = law.within.demands_size;
}

pub lawful_iff : (net : Network) → Sized net → (lawful net ≡ true) ↔ Lawful net
lawful_iff net size = (lawful_holds net size, lawful_tested net)
