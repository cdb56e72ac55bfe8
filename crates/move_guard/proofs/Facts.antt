-- What an intact board has passed, and so a board in play: each test, read as the fact it tests.
use mathlib.Core.Path.{◌≡◌, sym, ◌∙◌}
use mathlib.Core.Bool.{true}
use mathlib.Core.List.{List}
use mathlib.Core.Logic.{◌⊎◌, inl, inr}
use Prim.Native.Nat.{ℕ, ◌<◌, ◌≤◌}
use native.Mathlib.Omega.{arith}
use lib.Dec.{leb, ltb, eqb}
use lib.ListN.{length, get_or, get_or-eq_default}
use borrow.Author.Tests.{eqb-true, leb-true, ltb-true}
use Rattle.lists.specs.Choice.{both}
use Rattle.lists.specs.Lists.{all}
use Rattle.lists.proofs.Laws.{Known, was_true, was_false, known, lt_or_ge, pick_yes, pick_no, both_left, both_right, all_from}
use Rattle.board.specs.Limits.{max_vertices, max_edges, max_terminals, max_moves, max_flow, max_total}
use Rattle.board.specs.Record.{play_stage}
use Rattle.board.specs.Whole.{Board}
use Rattle.text_rules.specs.Rules.{counts_fit}
use Rattle.move_guard.specs.Moved.{last_entry}
use Rattle.move_guard.specs.Parts.{flow, tail, head, demand}
use Rattle.move_guard.specs.Guard.{edge_intact, terminal_intact, move_intact, intact, loaded, playing}

-- past the end of a list there is 0, which is a vertex
vertex_past : (ends : List ℕ) → length ends ≡ max_edges → ((e : ℕ) → e < max_edges → get_or ends e 0 < max_vertices) → (e : ℕ) → get_or ends e 0 < max_vertices
vertex_past ends long inside e = go (lt_or_ge e max_edges)
  where
    go : (e < max_edges) ⊎ (max_edges ≤ e) → get_or ends e 0 < max_vertices
    go (inl h) = inside e h
    go (inr h) = let z : get_or ends e 0 ≡ 0 = get_or-eq_default ends 0 (omega (arith, long)) in omega arith

module _ (b : Board) (sound : intact b ≡ true) where
  tests : both (counts_fit b.network)
      (both (all (edge_intact b) 0 max_edges)
      (both (all (terminal_intact b) 0 max_terminals) (both (leb b.moves max_moves) (move_intact (last_entry b).step)))) ≡ true
  unfolding intact
  tests = sound

  pub intact_vertices : b.network.vertices ≤ max_vertices
  intact_vertices = leb-true _ _ (both_right _ _ (both_left _ _ (both_left _ _ tests)))

  pub intact_edges : b.network.edges ≤ max_edges
  intact_edges = leb-true _ _ (both_right _ _ (both_left _ _ (both_right _ _ (both_left _ _ tests))))

  pub intact_terminals : b.network.terminals ≤ max_terminals
  intact_terminals = leb-true _ _ (both_right _ _ (both_left _ _ (both_right _ _ (both_right _ _ (both_left _ _ tests)))))

  pub intact_source : b.network.source < b.network.vertices
  intact_source = ltb-true _ _ (both_right _ _ (both_right _ _ (both_right _ _ (both_left _ _ tests))))

  pub intact_moves : b.moves ≤ max_moves
  intact_moves = leb-true _ _ (both_left _ _ (both_right _ _ (both_right _ _ (both_right _ _ tests))))

  pub intact_last : move_intact (last_entry b).step ≡ true
  intact_last = both_right _ _ (both_right _ _ (both_right _ _ (both_right _ _ tests)))

  pub intact_edge : (e : ℕ) → e < max_edges → edge_intact b e ≡ true
  intact_edge e h = all_from (edge_intact b) max_edges e (both_left _ _ (both_right _ _ tests)) h

  pub intact_terminal : (j : ℕ) → j < max_terminals → terminal_intact b j ≡ true
  intact_terminal j h = all_from (terminal_intact b) max_terminals j (both_left _ _ (both_right _ _ (both_right _ _ tests))) h

  -- each end of an edge is a vertex, and so is what stands past the edges
  ends : (e : ℕ) → e < max_edges → (tail b e < max_vertices) × (head b e < max_vertices)
  ends e h = go (known (ltb e b.network.edges))
    where
      go : Known (ltb e b.network.edges) → (tail b e < max_vertices) × (head b e < max_vertices)
      go (was_true t) =
          let numbers = sym (pick_yes _ _ _ t) ∙ both_left _ _ (intact_edge e h) in
          let from : tail b e < b.network.vertices = ltb-true _ _ (both_left _ _ numbers) in
          let to : head b e < b.network.vertices = ltb-true _ _ (both_left _ _ (both_right _ _ numbers)) in
          (omega (arith, from, intact_vertices), omega (arith, to, intact_vertices))
      go (was_false t) =
          let numbers = sym (pick_no _ _ _ t) ∙ both_left _ _ (intact_edge e h) in
          let from : tail b e ≡ 0 = eqb-true _ _ (both_left _ _ numbers) in
          let to : head b e ≡ 0 = eqb-true _ _ (both_left _ _ (both_right _ _ numbers)) in
          (omega (arith, from), omega (arith, to))

  pub intact-tail : length b.network.tails ≡ max_edges → (e : ℕ) → tail b e < max_vertices
  intact-tail long e = vertex_past b.network.tails long (λ i h. (ends i h).0) e

  pub intact-head : length b.network.heads ≡ max_edges → (e : ℕ) → head b e < max_vertices
  intact-head long e = vertex_past b.network.heads long (λ i h. (ends i h).1) e

  -- no flow and no demand is large, whatever the index
  pub intact-flow : length b.flows ≡ max_edges → (e : ℕ) → flow b e ≤ max_total
  intact-flow long e = go (lt_or_ge e max_edges) (known (eqb (get_or b.acyclic e 0) 0))
    where
      go : (e < max_edges) ⊎ (max_edges ≤ e) → Known (eqb (get_or b.acyclic e 0) 0) → flow b e ≤ max_total
      go (inl h) (was_true t) =
          let z : flow b e ≡ 0 = eqb-true _ _ (sym (pick_yes _ _ _ t) ∙ both_right _ _ (both_right _ _ (intact_edge e h))) in
          omega arith
      go (inl h) (was_false t) = leb-true _ _ (sym (pick_no _ _ _ t) ∙ both_right _ _ (both_right _ _ (intact_edge e h)))
      go (inr h) t =
          let z : flow b e ≡ 0 = get_or-eq_default b.flows 0 (omega (arith, long)) in
          omega arith

  pub intact-demand : length b.network.demands ≡ max_terminals → (j : ℕ) → demand b j ≤ max_flow
  intact-demand long j = go (lt_or_ge j max_terminals) (known (ltb j b.network.terminals))
    where
      go : (j < max_terminals) ⊎ (max_terminals ≤ j) → Known (ltb j b.network.terminals) → demand b j ≤ max_flow
      go (inl h) (was_true t) = leb-true _ _ (both_right _ _ (both_right _ _ (sym (pick_yes _ _ _ t) ∙ both_left _ _ (intact_terminal j h))))
      go (inl h) (was_false t) =
          let z : demand b j ≡ 0 = eqb-true _ _ (both_right _ _ (sym (pick_no _ _ _ t) ∙ both_left _ _ (intact_terminal j h))) in
          omega arith
      go (inr h) t =
          let z : demand b j ≡ 0 = get_or-eq_default b.network.demands 0 (omega (arith, long)) in
          omega arith

pub loaded_then_intact : (b : Board) → loaded b ≡ true → intact b ≡ true
unfolding loaded
loaded_then_intact b h = both_right _ _ h

-- the stage of play is within the stages of a loaded board, so that of these two tests the second is left
pub playing-staged : (b : Board) → playing b ≡ both (eqb b.stage play_stage) (intact b)
unfolding playing loaded both
playing-staged b = go (known (eqb b.stage play_stage))
  where
    go : Known (eqb b.stage play_stage) → playing b ≡ both (eqb b.stage play_stage) (intact b)
    go (was_true t) = rw (t, eqb-true b.stage play_stage t)
    go (was_false t) = rw t

module _ (b : Board) (play : playing b ≡ true) where
  pub playing-intact : intact b ≡ true
  unfolding playing
  playing-intact = loaded_then_intact b (both_right _ _ play)

  pub playing_edges : b.network.edges ≤ max_edges
  playing_edges = intact_edges b playing-intact

  pub playing-head : length b.network.heads ≡ max_edges → (e : ℕ) → head b e < max_vertices
  playing-head = intact-head b playing-intact

  pub playing_moves : b.moves ≤ max_moves
  playing_moves = intact_moves b playing-intact

  pub playing-flow : length b.flows ≡ max_edges → (e : ℕ) → flow b e ≤ max_total
  playing-flow = intact-flow b playing-intact

  pub playing-demand : length b.network.demands ≡ max_terminals → (j : ℕ) → demand b j ≤ max_flow
  playing-demand = intact-demand b playing-intact
