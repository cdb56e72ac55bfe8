-- Why a turn whose steps were not all kept has its number by the greatest edge alone: with more steps than there are edges one comes twice, so they are no cycle; an
-- edge that the board has not is tested before; and that the board is in play first of all.
use mathlib.Core.Path.{◌≡◌, refl, ap, sym, ◌∙◌}
use mathlib.Core.Bool.{true, false}
use mathlib.Core.Logic.{◌⊎◌, inl, inr}
use mathlib.Core.List.{List, [], ◌∷◌}
use Prim.Native.Nat.{ℕ, suc, ◌≤◌, ◌<◌}
use native.Mathlib.Omega.{arith}
use lib.Dec.{ltb}
use lib.ListN.{length}
use borrow.Author.Tests.{leb-true, ltb-true, ltb-false, lt-ltb, le-ltb}
use Rattle.lists.specs.Choice.{pick}
use Rattle.lists.specs.Inner.{Below}
use Rattle.lists.proofs.Laws.{Known, was_true, was_false, known, lt_or_ge, pick_yes, pick_no, both_left, both_right}
use Rattle.lists.proofs.Pigeon.{pigeon}
use Rattle.board.specs.Limits.{max_edges}
use Rattle.board.specs.Whole.{Board}
use Rattle.board.specs.Whole.{Played}
use Rattle.journal.specs.Words.{words_after}
use Rattle.journal.proofs.After.{after_none}
use Rattle.move_guard.specs.Guard.{intact, playing}
use Rattle.move_guard.proofs.Facts.{playing-intact, playing_edges}
use Rattle.move_guard.proofs.Answers.{answered_no}
use Rattle.graph_flows.specs.Trails.{Step, edge_of, edges_of}
use Rattle.move_cycle.specs.Steps.{every, is_cycle}
use Rattle.move_cycle.specs.Inner.{greatest_edge}
use Rattle.move_cycle.proofs.Cycled.{cycle_closed}
use Rattle.move_turn.specs.Turns.{OnBoard}
use Rattle.move_turn.specs.Turns.{meets, turn_refusal, turned, turn_call, turn_unkept, turn_refusal_in}

-- the greatest edge is that of a step
greatest_both : (s : Step) (w : List Step) → (edge_of s ≤ greatest_edge (s ∷ w)) × (greatest_edge w ≤ greatest_edge (s ∷ w))
unfolding greatest_edge
greatest_both s w = split (known (ltb (edge_of s) (greatest_edge w)))
  where
    split : Known (ltb (edge_of s) (greatest_edge w)) → (edge_of s ≤ greatest_edge (s ∷ w)) × (greatest_edge w ≤ greatest_edge (s ∷ w))
    split (was_true t) = rw (pick_yes _ (greatest_edge w) (edge_of s) t) (omega (arith, ltb-true (edge_of s) (greatest_edge w) t))
    split (was_false t) = rw (pick_no _ (greatest_edge w) (edge_of s) t) (omega (arith, ltb-false (edge_of s) (greatest_edge w) t))

below_edges : (n : ℕ) (w : List Step) → greatest_edge w < n → Below n (edges_of w)
below_edges n [] h = tt
below_edges n (s ∷ w) h = let g = greatest_both s w in (omega (arith, g.0), below_edges n w (omega (arith, g.1)))

length_edges : (w : List Step) → length (edges_of w) ≡ length w
length_edges [] = refl
length_edges (s ∷ w) = ap suc (length_edges w)

module _ (b : Board) where
  on_board_lem : (w : List Step) → greatest_edge w < b.network.edges → every (meets OnBoard b) w ≡ true
  unfolding every
  on_board_lem [] h = refl
  on_board_lem (s ∷ w) h =
      let g = greatest_both s w in
      rw (lt-ltb (edge_of s) b.network.edges (omega (arith, g.0)), every) (on_board_lem w (omega (arith, g.1)))

  off_board : (w : List Step) → 0 < b.network.edges → b.network.edges ≤ greatest_edge w → every (meets OnBoard b) w ≡ false
  unfolding every greatest_edge
  off_board [] n h = absurd (omega (arith, n, h))
  off_board (s ∷ w) n h = split (lt_or_ge (edge_of s) b.network.edges) (known (ltb (edge_of s) (greatest_edge w))) (λ g. off_board w n g)
    where
      split : (edge_of s < b.network.edges) ⊎ (b.network.edges ≤ edge_of s) → Known (ltb (edge_of s) (greatest_edge w))
          → (b.network.edges ≤ greatest_edge w → every (meets OnBoard b) w ≡ false) → every (meets OnBoard b) (s ∷ w) ≡ false
      split (inl q) (was_true t) ih = rw (lt-ltb (edge_of s) b.network.edges q, every) (ih (rw (pick_yes _ (greatest_edge w) (edge_of s) t) at h))
      split (inl q) (was_false t) ih =
          let g : b.network.edges ≤ edge_of s = rw (pick_no _ (greatest_edge w) (edge_of s) t) at h in
          absurd (omega (arith, q, g))
      split (inr q) t ih = rw (le-ltb (edge_of s) b.network.edges q, every)

  some_edge : playing b ≡ true → 0 < b.network.edges
  unfolding intact
  some_edge p = leb-true _ _ (both_left _ _ (both_left _ _ (both_right _ _ (both_left _ _ (playing-intact b p)))))

  no_cycle : (w : List Step) → playing b ≡ true → greatest_edge w < b.network.edges → max_edges < length w
      → is_cycle b.network.tails b.network.heads w ≡ false
  no_cycle w p h m = split (known (is_cycle b.network.tails b.network.heads w))
    where
      split : Known (is_cycle b.network.tails b.network.heads w) → is_cycle b.network.tails b.network.heads w ≡ false
      split (was_true t) =
          let c = cycle_closed b.network.tails b.network.heads w t in
          let below = below_edges max_edges w (omega (arith, h, playing_edges b p)) in
          absurd (omega (arith, m, length_edges w, pigeon max_edges (edges_of w) c.distinct below))
      split (was_false t) = t

  -- a turn that is refused before its steps are looked at
  turn_out : (w : List Step) → playing b ≡ false → turn_refusal b w ≡ 20
  unfolding turn_refusal_in
  turn_out w p = pick_no _ _ _ p

  turn_off : (w : List Step) → playing b ≡ true → b.network.edges ≤ greatest_edge w → turn_refusal b w ≡ 6
  unfolding turn_refusal_in
  turn_off w p h = pick_yes _ _ _ p ∙ pick_no _ _ _ (off_board w (some_edge p) h)

  turn_many : (w : List Step) → playing b ≡ true → greatest_edge w < b.network.edges → max_edges < length w → turn_refusal b w ≡ 7
  unfolding turn_refusal_in
  turn_many w p h m = pick_yes _ _ _ p ∙ pick_yes _ _ _ (on_board_lem w h) ∙ pick_no _ _ _ (no_cycle w p h m)

  refused_turn : (w : List Step) (n : ℕ) → turn_refusal b w ≡ suc n → turn_call b w ≡ record { answer = suc n; board = b }
  unfolding turn_call
  refused_turn w n e = rw e (answered_no (suc n) b (turned b w) (λ z. omega (arith, z)))

  -- a board that is not in play refuses every turn alike
  pub closed_alike : (v w : List Step) → playing b ≡ false → turn_call b v ≡ turn_call b w
  closed_alike v w p = refused_turn v 19 (turn_out v p) ∙ sym (refused_turn w 19 (turn_out w p))

  -- by its greatest edge g a turn has its number, where there are more steps than edges or the board has not that edge
  pub unkept_number : (w : List Step) (g : ℕ) → g ≡ greatest_edge w → (length w ≤ max_edges → b.network.edges ≤ g)
      → ◌≡◌ {A = Played} (record { answer = turn_unkept b g; board = b }) (turn_call b w)
  unfolding turn_unkept pick
  unkept_number w g e n = split (known (playing b)) (known (ltb g b.network.edges))
    where
      split : Known (playing b) → Known (ltb g b.network.edges) → ◌≡◌ {A = Played} (record { answer = turn_unkept b g; board = b }) (turn_call b w)
      split (was_true p) (was_true t) =
          let l : g < b.network.edges = ltb-true _ _ t in
          let m : max_edges < length w = many (lt_or_ge max_edges (length w)) l in
          rw (p, t, pick) (sym (refused_turn w 6 (turn_many w p (omega (arith, l, e)) m)))
        where
          many : (max_edges < length w) ⊎ (length w ≤ max_edges) → g < b.network.edges → max_edges < length w
          many (inl m) l = m
          many (inr m) l = absurd (omega (arith, l, n m))
      split (was_true p) (was_false t) =
          let l : b.network.edges ≤ g = ltb-false _ _ t in
          rw (p, t, pick) (sym (refused_turn w 5 (turn_off w p (omega (arith, l, e)))))
      split (was_false p) t = rw (p, pick) (sym (refused_turn w 19 (turn_out w p)))

  -- and the words are kept
  pub unkept_lent : (w : List Step) (g n : ℕ) (words : List (List ℕ)) → n ≡ turn_unkept b g → g ≡ greatest_edge w → (length w ≤ max_edges → b.network.edges ≤ g)
      → (◌≡◌ {A = Played} (record { answer = n; board = b }) (turn_call b w)) × (words ≡ words_after b.moves (turn_call b w).board words)
  unkept_lent w g n words e q many =
      let told = unkept_number w g q many in
      (rw e told, sym (after_none b.moves b words refl) ∙ ap (λ (p : Played). words_after b.moves p.board words) told)
