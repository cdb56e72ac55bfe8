-- Why a board stays in play after an accepted move, but for the numbers that the loop tests. A carry lowers one flow and puts a terminal at the tail of one of
-- the board's edges, so that only the count of moves can pass its limit. A turn changes only the flows of positive edges, and an edge whose acyclic flow is 0 has
-- flow 0, so that what is left to test is that the flows are small.
use mathlib.Core.Path.{◌≡◌, refl, sym, ap, ◌∙◌}
use mathlib.Core.Bool.{Bool, true, false}
use mathlib.Core.Logic.{◌⊎◌, inl, inr}
use mathlib.Core.List.{List, [], ◌∷◌}
use Prim.Native.Nat.{ℕ, zero, suc, ◌+◌, ◌-◌, ◌<◌, ◌≤◌}
use native.Mathlib.Omega.{arith}
use lib.Dec.{leb, ltb, eqb}
use lib.ListN.{length, get_or, set}
use borrow.Author.Tests.{ltb-true, leb-true, eqb-true, le-leb, lt-ltb, eq-eqb}
use Rattle.lists.specs.Choice.{pick, both}
use Rattle.lists.proofs.Laws.{Known, was_true, was_false, known, lt_or_ge, pick_yes, pick_no, pick_passed, pick_avoided, both_left, both_right, both_true, all_from, all_zero, all_same}
use Rattle.sets.specs.Sets.{has_bit}
use Rattle.board.specs.Limits.{max_edges, max_terminals, max_moves, max_total}
use Rattle.board.specs.Record.{play_stage, blank}
use Rattle.board.specs.Whole.{Entry, Board}
use Rattle.text_rules.specs.Rules.{counts_fit}
use Rattle.graph_flows.specs.Trails.{Step, edge_of}
use Rattle.move_guard.specs.Parts.{flow, tail, demand, place}
use Rattle.move_guard.proofs.Facts.{intact_edge, intact_terminal, playing-staged, playing-intact, playing_edges, playing-flow, playing-demand}
use Rattle.move_guard.specs.Guard.{edge_intact, edge_intact_in, terminal_intact, terminal_intact_in, move_intact, intact, playing}
use Rattle.move_guard.specs.Moved.{moved}
use Rattle.move_carry.specs.Carries.{on_board, carry_refusal, carried, carried_in, carry_refusal_in, on_board_in}
use Rattle.move_cycle.specs.Steps.{every, gather, is_cycle}
use Rattle.move_cycle.proofs.Cycled.{every_in, gather_from}
use Rattle.move_cycle.specs.Amounts.{amount}
use Rattle.move_cycle.specs.Shifts.{shifted}
use Rattle.move_cycle.proofs.Shifting.{shifted_at_lem, shifted_past, shifted_other}
use Rattle.move_carry.specs.Opens.{some_open, is_home_in}
use Rattle.move_turn.specs.Turns.{OnBoard, Positive}
use Rattle.move_turn.specs.Turns.{meets, turn_refusal, turned, turn_refusal_in, turned_in}
use Rattle.move_cycle.proofs.Raising.{amount_small}
use Rattle.solve_finish.specs.Run.{all_small}

-- what a store leaves at a place
set_at : (xs : List ℕ) (i j x : ℕ) → (get_or (set xs i x) j 0 ≡ get_or xs j 0) ⊎ ((j ≡ i) × (get_or (set xs i x) j 0 ≡ x))
set_at [] i j x = inl refl
set_at (y ∷ ys) zero zero x = inr (refl, refl)
set_at (y ∷ ys) zero (suc j) x = inl refl
set_at (y ∷ ys) (suc i) zero x = inl refl
set_at (y ∷ ys) (suc i) (suc j) x = go (set_at ys i j x)
  where
    go : (get_or (set ys i x) j 0 ≡ get_or ys j 0) ⊎ ((j ≡ i) × (get_or (set ys i x) j 0 ≡ x))
        → (get_or (set ys i x) j 0 ≡ get_or ys j 0) ⊎ ((suc j ≡ suc i) × (get_or (set ys i x) j 0 ≡ x))
    go (inl q) = inl q
    go (inr (e, q)) = inr (ap suc e, q)

-- a flow that falls stays small
pub fall_small : (flows : List ℕ) (e x : ℕ) → x ≤ get_or flows e 0 → all_small flows ≡ true → all_small (set flows e x) ≡ true
unfolding all_small
fall_small flows e x less small = all_zero (λ k. leb (get_or (set flows e x) k 0) max_total) max_edges (λ k h. one k h (set_at flows e k x))
  where
    one : (k : ℕ) → k < max_edges → (get_or (set flows e x) k 0 ≡ get_or flows k 0) ⊎ ((k ≡ e) × (get_or (set flows e x) k 0 ≡ x))
        → leb (get_or (set flows e x) k 0) max_total ≡ true
    one k h (inl q) = rw q (all_from (λ k. leb (get_or flows k 0) max_total) max_edges k small h)
    one k h (inr (k-is, q)) =
        let was : get_or flows k 0 ≤ max_total = leb-true _ _ (all_from (λ k. leb (get_or flows k 0) max_total) max_edges k small h) in
        let same : get_or flows e 0 ≡ get_or flows k 0 = ap (λ (n : ℕ). get_or flows n 0) (sym k-is) in
        le-leb (get_or (set flows e x) k 0) max_total (omega (arith, q, same, was, less))

-- what a store leaves at its own place: the entry, or the blank past the end
store_own : (l : List Entry) (i : ℕ) (a d : Entry) → (get_or (set l i a) i d ≡ a) ⊎ (get_or (set l i a) i d ≡ d)
store_own [] i a d = inr refl
store_own (x ∷ l) zero a d = inl refl
store_own (x ∷ l) (suc i) a d = store_own l i a d

both_skip : (a x : Bool) → a ≡ true → both a x ≡ x
unfolding both
both_skip a x h = rw h

order : (s c x t y m : Bool) → s ≡ true → c ≡ true → t ≡ true → m ≡ true → both s (both c (both x (both t (both y m)))) ≡ both y x
unfolding both
order s c x t y m hs hc ht hm = rw (hs, hc, ht, hm) (go x y)
  where
    go : (x y : Bool) → both x (both y true) ≡ both y x
    go true true = refl
    go true false = refl
    go false true = refl
    go false false = refl

module _ (b : Board) (play : playing b ≡ true) where
  pub in_play : eqb b.stage play_stage ≡ true
  in_play = both_left _ _ (sym (playing-staged b) ∙ play)

  counts : counts_fit b.network ≡ true
  unfolding intact
  counts = both_left _ _ (playing-intact b play)

  edge : (e : ℕ) → e < max_edges → edge_intact b e ≡ true
  edge = intact_edge b (playing-intact b play)

  terminal : (j : ℕ) → j < max_terminals → terminal_intact b j ≡ true
  terminal = intact_terminal b (playing-intact b play)

  -- an edge is intact with another flow, which is 0 where it was, where that is small
  edge_now : (flows : List ℕ) (e : ℕ) → e < max_edges → (flow b e ≡ 0 → get_or flows e 0 ≡ 0)
      → edge_intact_in b.network b.acyclic flows e ≡ leb (get_or flows e 0) max_total
  edge_now flows e h zeros =
      both_skip _ _ (both_left _ _ (edge e h)) ∙ both_skip _ _ (both_left _ _ (both_right _ _ (edge e h))) ∙ go (known (eqb (get_or b.acyclic e 0) 0))
    where
      go : Known (eqb (get_or b.acyclic e 0) 0)
          → pick (eqb (get_or b.acyclic e 0) 0) (eqb (get_or flows e 0) 0) (leb (get_or flows e 0) max_total) ≡ leb (get_or flows e 0) max_total
      go (was_true t) =
          let z : get_or flows e 0 ≡ 0 = zeros (eqb-true _ _ (sym (pick_yes _ _ _ t) ∙ both_right _ _ (both_right _ _ (edge e h)))) in
          pick_yes _ _ _ t ∙ eq-eqb (get_or flows e 0) 0 z ∙ sym (le-leb (get_or flows e 0) max_total (omega (arith, z)))
      go (was_false t) = pick_no _ _ _ t

  -- one more move
  stays : (flows : List ℕ) (marks : ℕ) (places : List ℕ) (entry : Entry) → ((e : ℕ) → flow b e ≡ 0 → get_or flows e 0 ≡ 0)
      → ((j : ℕ) → j < max_terminals → terminal_intact_in b.network places j ≡ true) → move_intact entry.step ≡ true
      → playing (moved b flows marks places entry) ≡ both (leb (b.moves + 1) max_moves) (all_small flows)
  unfolding intact all_small
  stays flows marks places entry zeros there fits =
      playing-staged (moved b flows marks places entry)
      ∙ rw
      (all_same (edge_intact_in b.network b.acyclic flows) (λ e. leb (get_or flows e 0) max_total) 0 max_edges
      (λ e l h. edge_now flows e (omega arith) (zeros e)))
      (order _ _ _ _ _ _ in_play counts (all_zero (terminal_intact_in b.network places) max_terminals there) last)
    where
      last : move_intact (get_or (set b.journal b.moves entry) (b.moves + 1 - 1) blank).step ≡ true
      last = let n : b.moves + 1 - 1 ≡ b.moves = omega arith in rw n (go (store_own b.journal b.moves entry blank))
        where
          go : (get_or (set b.journal b.moves entry) b.moves blank ≡ entry) ⊎ (get_or (set b.journal b.moves entry) b.moves blank ≡ blank)
              → move_intact (get_or (set b.journal b.moves entry) b.moves blank).step ≡ true
          go (inl q) = rw q fits
          go (inr q) = rw q refl

  pub flows_small : length b.flows ≡ max_edges → all_small b.flows ≡ true
  unfolding all_small
  flows_small long = all_zero (λ e. leb (flow b e) max_total) max_edges (λ e h. le-leb (flow b e) max_total (playing-flow b play long e))

  tail_inside : (e : ℕ) → e < b.network.edges → ltb (tail b e) b.network.vertices ≡ true
  tail_inside e h =
      let most = playing_edges b play in
      both_left _ _ (sym (pick_yes _ _ _ (lt-ltb e b.network.edges h)) ∙ both_left _ _ (edge e (omega arith)))

  -- a carry
  module _ (i e : ℕ) (accepted : carry_refusal b i e ≡ 0) where
    on : on_board b i e ≡ true
    unfolding carry_refusal_in is_home_in
    on = (pick_passed (on_board b i e) _ 5 (pick_passed (playing b) _ 19 accepted).1).0

    lower : (k : ℕ) → get_or (set b.flows e (flow b e - demand b i)) k 0 ≤ flow b k
    lower k = go (set_at b.flows e k (flow b e - demand b i))
      where
        go : (get_or (set b.flows e (flow b e - demand b i)) k 0 ≡ flow b k) ⊎ ((k ≡ e) × (get_or (set b.flows e (flow b e - demand b i)) k 0 ≡ flow b e - demand b i))
            → get_or (set b.flows e (flow b e - demand b i)) k 0 ≤ flow b k
        go (inl q) = omega (arith, q)
        go (inr (k-is, q)) = let same : flow b e ≡ flow b k = ap (λ (n : ℕ). flow b n) (sym k-is) in omega (arith, q, same)

    there : (j : ℕ) → j < max_terminals → terminal_intact_in b.network (set b.places i (tail b e)) j ≡ true
    unfolding on_board_in
    there j h = go (set_at b.places i j (tail b e))
      where
        go : (get_or (set b.places i (tail b e)) j 0 ≡ place b j) ⊎ ((j ≡ i) × (get_or (set b.places i (tail b e)) j 0 ≡ tail b e))
            → terminal_intact_in b.network (set b.places i (tail b e)) j ≡ true
        go (inl q) = rw q (terminal j h)
        go (inr (j-is, q)) =
            let inside : ltb j b.network.terminals ≡ true = rw j-is (both_left _ _ on) in
            rw q
            (both_true _ _ (both_left _ _ (terminal j h))
            (pick_yes _ _ _ inside ∙ tail_inside e (ltb-true _ _ (both_right _ _ on))))

    pub carry_stays : playing (carried b i e) ≡ both (leb (b.moves + 1) max_moves) (all_small (carried b i e).flows)
    unfolding carried_in
    carry_stays = stays _ _ _ _ (λ k z. omega (arith, lower k, z)) there refl

  -- a turn
  module _ (w : List Step) (accepted : turn_refusal b w ≡ 0) (long : length b.flows ≡ max_edges) (wide : length b.network.demands ≡ max_terminals) where
    above : every (meets Positive b) w ≡ true
    unfolding turn_refusal_in
    above =
        let cycled = (pick_passed (is_cycle b.network.tails b.network.heads w) _ 6
        (pick_passed (every (meets OnBoard b) w) _ 5 (pick_passed (playing b) _ 19 accepted).1).1).1 in
        (pick_passed (every (meets Positive b) w) _ 24 (pick_avoided (some_open b) _ 23 cycled).1).0

    -- no step goes over an edge with flow 0
    apart : (ups : Bool) (e : ℕ) → flow b e ≡ 0 → has_bit (gather ups 0 w) e ≡ false
    apart ups e z = go (known (has_bit (gather ups 0 w) e))
      where
        go : Known (has_bit (gather ups 0 w) e) → has_bit (gather ups 0 w) e ≡ false
        go (was_true t) =
            let g = gather_from ups w e t in
            let q : edge_of g.step ≡ e = g.edge in
            let some : 0 < flow b (edge_of g.step) = ltb-true _ _ (every_in (meets Positive b) w g.step above g.among) in
            absurd (omega (arith, z, some, ap (λ (n : ℕ). flow b n) q))
        go (was_false t) = t

    still : (e : ℕ) → flow b e ≡ 0 → get_or (turned b w).flows e 0 ≡ 0
    unfolding turned_in
    still e z = go (lt_or_ge e (length b.flows))
      where
        go : (e < length b.flows) ⊎ (length b.flows ≤ e) → get_or (shifted (amount b w) (gather false 0 w) (gather true 0 w) b.flows) e 0 ≡ 0
        go (inl h) =
            shifted_at_lem (amount b w) (gather false 0 w) (gather true 0 w) b.flows e h
            ∙ shifted_other (amount b w) (gather false 0 w) (gather true 0 w) e (flow b e) (apart false e z) (apart true e z) ∙ z
        go (inr h) = shifted_past (amount b w) (gather false 0 w) (gather true 0 w) b.flows e h

    small : amount b w ≤ max_total
    small = amount_small b w max_total (playing-flow b play long) (λ j. let d = playing-demand b play wide j in omega (arith, d))

    pub turn_stays : playing (turned b w) ≡ both (leb (b.moves + 1) max_moves) (all_small (turned b w).flows)
    unfolding turned_in
    turn_stays = stays _ _ _ _ still terminal (le-leb (amount b w) max_total small)
