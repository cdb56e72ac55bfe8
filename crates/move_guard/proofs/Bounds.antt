-- What the calls lean on holds of the parts of a board in play: its guard has tested them.
use mathlib.Core.Path.{◌≡◌, sym, ◌∙◌}
use mathlib.Core.Bool.{true}
use mathlib.Core.Logic.{◌⊎◌, inl, inr}
use Prim.Native.Nat.{ℕ, ◌<◌, ◌≤◌}
use native.Mathlib.Omega.{arith}
use lib.ListN.{length, get_or, get_or-eq_default}
use borrow.Author.Tests.{lt-ltb, le-ltb, ltb-true, leb-true, eqb-true, eq-eqb}
use Rattle.lists.proofs.Laws.{lt_or_ge, pick_yes, pick_no, both_left, both_right}
use Rattle.board.specs.Limits.{max_vertices, max_edges}
use Rattle.board.specs.Whole.{Board}
use Rattle.move_guard.specs.Parts.{flow, acyclic_flow, demand, place}
use Rattle.move_guard.specs.Guard.{terminal_intact, intact, playing}
use Rattle.move_guard.specs.Bounds.{ListsSized, InBounds}
use Rattle.move_guard.proofs.Facts.{intact_vertices, intact_edges, intact_terminals, intact_source, intact_edge, intact_terminal, intact-tail, intact-head, intact-flow, intact-demand, playing-intact}

module _ (b : Board) (play : playing b ≡ true) where
  sound : intact b ≡ true
  sound = playing-intact b play

  -- the places past the edges hold no flow: their text flow is 0, so the acyclic flow is, and the flow with it
  past_zero : length b.flows ≡ max_edges → (e : ℕ) → b.network.edges ≤ e → flow b e ≡ 0
  past_zero long e above = go (lt_or_ge e max_edges)
    where
      go : (e < max_edges) ⊎ (max_edges ≤ e) → flow b e ≡ 0
      go (inl h) =
          let tests = intact_edge b sound e h in
          let numbers = sym (pick_no _ _ _ (le-ltb e b.network.edges above)) ∙ both_left _ _ tests in
          let text : get_or b.network.flows e 0 ≡ 0 = eqb-true _ _ (both_right _ _ (both_right _ _ numbers)) in
          let least : acyclic_flow b e ≤ get_or b.network.flows e 0 = leb-true _ _ (both_left _ _ (both_right _ _ tests)) in
          let none : acyclic_flow b e ≡ 0 = omega (arith, text, least) in
          eqb-true _ _ (sym (pick_yes _ _ _ (eq-eqb _ _ none)) ∙ both_right _ _ (both_right _ _ tests))
      go (inr h) = get_or-eq_default b.flows 0 (omega (arith, long))

  -- a terminal is at a vertex and needs something
  module _ (i : ℕ) (below : i < b.network.terminals) where
    numbers : terminal_intact b i ≡ true
    numbers = intact_terminal b sound i (omega (arith, below, intact_terminals b sound))

    place_vertex : place b i < max_vertices
    place_vertex =
        let h : place b i < b.network.vertices = ltb-true _ _ (sym (pick_yes _ _ _ (lt-ltb i b.network.terminals below)) ∙ both_right _ _ numbers) in
        omega (arith, h, intact_vertices b sound)

    demand_some : 0 < demand b i
    demand_some =
        let fits = sym (pick_yes _ _ _ (lt-ltb i b.network.terminals below)) ∙ both_left _ _ numbers in
        let h : 1 ≤ demand b i = leb-true _ _ (both_left _ _ (both_right _ _ fits)) in
        omega (arith, h)

  pub playing_bounds : ListsSized b.network b.flows → InBounds b.network b.flows b.places
  playing_bounds sized = record {
    vertices = intact_vertices b sound;
    edges = intact_edges b sound;
    source = omega (arith, intact_source b sound, intact_vertices b sound);
    tailed = intact-tail b sound sized.tails;
    headed = intact-head b sound sized.heads;
    small = intact-flow b sound sized.long;
    asked = λ i. let d = intact-demand b sound sized.demands i in omega (arith, d);
    all = sized.long;
    past = past_zero sized.long;
    placed = place_vertex;
    needs = demand_some;
  }
