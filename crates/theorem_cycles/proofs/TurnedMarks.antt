-- The marks that a turn adds, with the flows of before. A newly marked edge is positive and singular, and no carry is open: below its head nothing parts, so the
-- edge after it is singular too; whether an edge is singular depends on its head alone; and it has less flow than each terminal at its head needs, or a carry of
-- that terminal would be open.
use mathlib.Core.Path.{◌≡◌, refl, sym, ◌∙◌}
use mathlib.Core.Bool.{true, false, true≢false}
use mathlib.Core.Logic.{◌⊎◌, inl, inr}
use Prim.Native.Nat.{ℕ, ◌+◌, ◌<◌, ◌≤◌}
use native.Mathlib.Omega.{arith}
use lib.Bits.{bit_or}
use lib.ListN.{length}
use borrow.Author.Tests.{ltb-true, lt-ltb, not-true}
use Rattle.lists.specs.Choice.{either}
use Rattle.lists.proofs.Laws.{above_inside, Known, was_true, was_false, known, lt_or_ge, both_left, both_right, both_true}
use Rattle.sets.specs.Sets.{has_bit}
use Rattle.sets.proofs.Bits.{has-none, has-joined, collect_new, collect_from}
use Rattle.board.specs.Whole.{Board}
use Rattle.graph_flows.specs.Paths.{PositiveEdge, here, Unparted}
use Rattle.graph_flows.proofs.Reach.{path_first}
use Rattle.move_guard.specs.Parts.{flow, acyclic_flow, tail, head, marked, demand}
use Rattle.move_carry.specs.Opens.{some_open}
use Rattle.move_edges.specs.Marking.{singular, is_fresh, fresh, fresh_in, singular_in}
use Rattle.report_routes.specs.Routes.{load, largest}
use Rattle.theorem_cycles.specs.Invariant.{Invariant, Marked, At}
use Rattle.theorem_cycles.proofs.Network.{acyclic_of_below}
use Rattle.theorem_cycles.proofs.Flowing.{joined}
use Rattle.theorem_cycles.proofs.Single.{straight_unparted, unparted_straight}
use Rattle.theorem_cycles.proofs.Openings.{facts_open, none_open}

-- the marks with the new ones
abbrev pub marks_now : Board → ℕ
marks_now b = bit_or b.marks (fresh b)

-- a newly marked edge
pub record Fresh (b : Board) (e : ℕ) : Type 0 where
  pub unmarked : marked b e ≡ false
  pub above : 0 < flow b e
  pub single : singular b e ≡ true

-- a positive edge with a mark, old or new
pub record Now (b : Board) (e : ℕ) : Type 0 where
  pub mark : has_bit (marks_now b) e ≡ true
  pub above : 0 < flow b e

module _ (b : Board) where
  pub fresh_facts : (e : ℕ) → has_bit (fresh b) e ≡ true → Fresh b e
  unfolding fresh_in
  fresh_facts e h = go (collect_from (is_fresh b) 0 0 (length b.flows) e h)
    where
      go : (has_bit 0 e ≡ true) ⊎ ((0 ≤ e) × (e < 0 + length b.flows) × (is_fresh b e ≡ true)) → Fresh b e
      go (inl t) = absurd (true≢false (sym t ∙ has-none e))
      go (inr t) =
          let rest = both_right _ _ t.2 in
          record { unmarked = not-true _ (both_left _ _ t.2); above = ltb-true _ _ (both_left _ _ rest); single = both_right _ _ rest }

  pub fresh_of_lem : (e : ℕ) → Fresh b e → has_bit (fresh b) e ≡ true
  unfolding fresh_in
  fresh_of_lem e f =
      collect_new (is_fresh b) 0 0 (length b.flows) e (omega arith) (omega (arith, above_inside b.flows e f.above))
      (both_true _ _ (rw f.unmarked refl) (both_true _ _ (lt-ltb _ _ f.above) f.single))

  pub now_cases : (e : ℕ) → has_bit (marks_now b) e ≡ true → (marked b e ≡ true) ⊎ Fresh b e
  unfolding either
  now_cases e h = go (known (marked b e))
    where
      go : Known (marked b e) → (marked b e ≡ true) ⊎ Fresh b e
      go (was_true t) = inl t
      go (was_false t) = inr (fresh_facts e (rw t at (sym (has-joined b.marks (fresh b) e) ∙ h)))

  pub now_old : (e : ℕ) → marked b e ≡ true → has_bit (marks_now b) e ≡ true
  unfolding either
  now_old e t = has-joined b.marks (fresh b) e ∙ rw t refl

  pub now_single : (e : ℕ) → 0 < flow b e → singular b e ≡ true → has_bit (marks_now b) e ≡ true
  unfolding either
  now_single e h s = go (known (marked b e))
    where
      go : Known (marked b e) → has_bit (marks_now b) e ≡ true
      go (was_true t) = now_old e t
      go (was_false t) = has-joined b.marks (fresh b) e ∙ rw (t, either) (fresh_of_lem e (record { unmarked = t; above = h; single = s }))

  pub unmarked_now : (e : ℕ) → has_bit (marks_now b) e ≡ false → marked b e ≡ false
  unmarked_now e h = go (known (marked b e))
    where
      go : Known (marked b e) → marked b e ≡ false
      go (was_true t) = absurd (true≢false (sym (now_old e t) ∙ h))
      go (was_false t) = t

module _ (b : Board) (inv : Invariant b) where
  -- a positive edge is one of the board's
  pub positive_inside : (e : ℕ) → 0 < flow b e → e < b.network.edges
  positive_inside e h = go (lt_or_ge e b.network.edges)
    where
      go : (e < b.network.edges) ⊎ (b.network.edges ≤ e) → e < b.network.edges
      go (inl l) = l
      go (inr l) =
          let above = rw inv.acyclic at (inv.support e h) in
          absurd (omega (arith, above, acyclic_of_below b.network inv.sound e, (inv.sound.no_edge e l).2))

  abbrev Unpartedly : ℕ → Type 0
  Unpartedly v = Unparted b.network.tails b.network.heads b.flows v

  single_unparted : (e : ℕ) → Fresh b e → Unpartedly (head b e)
  unfolding singular_in
  single_unparted e f =
      straight_unparted b.network.tails b.network.heads b.flows b.network.vertices (head b e) (joined b inv)
      (inv.sound.head e (positive_inside e f.above)) f.single

  pub unparted_single : (e : ℕ) → Unpartedly (head b e) → singular b e ≡ true
  unfolding singular_in
  unparted_single e u = unparted_straight b.network.tails b.network.heads b.flows b.network.vertices (head b e) u

  old : (e : ℕ) → Now b e → marked b e ≡ true → Marked b e
  old e n m = record { mark = m; above = n.above }

  pub now_one_out : (e g g' : ℕ) → Now b e → tail b g ≡ head b e → 0 < flow b g → tail b g' ≡ head b e → 0 < flow b g' → g ≡ g'
  now_one_out e g g' n p h p' h' = go (now_cases b e n.mark)
    where
      go : (marked b e ≡ true) ⊎ Fresh b e → g ≡ g'
      go (inl m) = inv.one_out e g g' (old e n m) p h p' h'
      go (inr f) = single_unparted e f (head b e) here g g' p h p' h'

  pub now_down_closed : (e g : ℕ) → Now b e → tail b g ≡ head b e → 0 < flow b g → has_bit (marks_now b) g ≡ true
  now_down_closed e g n p h = go (now_cases b e n.mark)
    where
      edge : PositiveEdge b.network.tails b.network.heads b.flows (head b e) (head b g)
      edge = record { edge = g; inside = above_inside b.flows g h; start = p; end = refl; above = h }

      go : (marked b e ≡ true) ⊎ Fresh b e → has_bit (marks_now b) g ≡ true
      go (inl m) = now_old b g (inv.down_closed e g (old e n m) p h)
      go (inr f) = now_single b g h (unparted_single g (λ u q. single_unparted e f u (path_first edge q)))

  pub now_across_closed : (e e' : ℕ) → Now b e → head b e' ≡ head b e → 0 < flow b e' → has_bit (marks_now b) e' ≡ true
  now_across_closed e e' n p h = go (now_cases b e n.mark)
    where
      go : (marked b e ≡ true) ⊎ Fresh b e → has_bit (marks_now b) e' ≡ true
      go (inl m) = now_old b e' (inv.across_closed e e' (old e n m) p h)
      go (inr f) = now_single b e' h (unparted_single e' (rw p (single_unparted e f)))

  module _ (shut : some_open b ≡ false) where
    -- no carry is open: what a positive edge has is not what a terminal at its head needs, and where the edge is unmarked it is less
    pub not_equal : (e i : ℕ) → 0 < flow b e → At b i (head b e) → flow b e ≡ demand b i → ⊥
    not_equal e i h at q =
        true≢false
        (sym (facts_open b i e (sym at.here) (omega (arith, q)) (λ m. q)) ∙ none_open b i e at.terminal (positive_inside e h) shut)

    fresh_less : (e i : ℕ) → Fresh b e → At b i (head b e) → flow b e ≤ demand b i
    fresh_less e i f at = go (lt_or_ge (flow b e) (demand b i))
      where
        go : (flow b e < demand b i) ⊎ (demand b i ≤ flow b e) → flow b e ≤ demand b i
        go (inl l) = omega arith
        go (inr l) =
            absurd
            (true≢false
            (sym (facts_open b i e (sym at.here) l (λ m. absurd (true≢false (sym m ∙ f.unmarked))))
            ∙ none_open b i e at.terminal (positive_inside e f.above) shut))

    pub now_all_fit : (e g i : ℕ) → Now b e → tail b g ≡ head b e → 0 < flow b g → At b i (head b e) → flow b e ≤ demand b i
    now_all_fit e g i n p h at = go (now_cases b e n.mark)
      where
        go : (marked b e ≡ true) ⊎ Fresh b e → flow b e ≤ demand b i
        go (inl m) = inv.all_fit e g i (old e n m) p h at
        go (inr f) = fresh_less e i f at

    pub now_one_misfit : (e e' i j : ℕ) → Now b e → Now b e' → head b e' ≡ head b e → At b i (head b e) → At b j (head b e) → (i ≡ j → ⊥)
        → (flow b e ≤ demand b i) ⊎ (flow b e' ≤ demand b j)
    now_one_misfit e e' i j n n' p at at' d = go (now_cases b e n.mark) (now_cases b e' n'.mark)
      where
        go : (marked b e ≡ true) ⊎ Fresh b e → (marked b e' ≡ true) ⊎ Fresh b e' → (flow b e ≤ demand b i) ⊎ (flow b e' ≤ demand b j)
        go (inl m) (inl m') = inv.one_misfit e e' i j (old e n m) (old e' n' m') p at at' d
        go (inr f) q = inl (fresh_less e i f at)
        go (inl m) (inr f) = inr (fresh_less e' j f (rw p at'))

  -- the loads
  pub now_load_positive : (e : ℕ) → Now b e → load b e < acyclic_flow b e
  now_load_positive e n = go (now_cases b e n.mark)
    where
      go : (marked b e ≡ true) ⊎ Fresh b e → load b e < acyclic_flow b e
      go (inl m) = inv.load_positive e (old e n m)
      go (inr f) = omega (arith, inv.load_unmarked e f.unmarked, f.above)

  pub now_load : (e : ℕ) → has_bit (marks_now b) e ≡ true → load b e < acyclic_flow b e + largest b e
  now_load e m = go (lt_or_ge 0 (flow b e)) (now_cases b e m)
    where
      go : (0 < flow b e) ⊎ (flow b e ≤ 0) → (marked b e ≡ true) ⊎ Fresh b e → load b e < acyclic_flow b e + largest b e
      go (inl h) q = omega (arith, now_load_positive e (record { mark = m; above = h }))
      go (inr h) (inl t) = inv.load_zero e t (omega arith)
      go (inr h) (inr f) = absurd (omega (arith, f.above))
