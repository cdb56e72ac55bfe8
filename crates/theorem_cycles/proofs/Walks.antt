-- The walk finds a cycle, whatever edges are chosen. At a vertex that it has not met before, an edge leads on that is not the one just used: down where another
-- edge leaves; up where nothing leaves and a second edge enters, or where only the edge just climbed leaves. The vertices that it has left are distinct, so
-- after at most n steps it meets one again. An edge of the walk joins vertices that it met, and only the last one touches the newest vertex, so no edge comes
-- twice.
use mathlib.Core.Path.{◌≡◌, refl, ap, sym, ◌∙◌}
use mathlib.Core.Bool.{true, false, true≢false}
use mathlib.Core.Logic.{◌⊎◌, inl, inr, ◌≢◌}
use mathlib.Core.List.{List, [], ◌∷◌, ◌++◌}
use Prim.Native.Nat.{ℕ, zero, suc, ◌+◌, ◌≤◌, ◌<◌}
use native.Mathlib.Omega.{arith}
use native.Mathlib.Nat.{not-suc-le-zero, le_of_suc-le-suc, add-zero}
use lib.Dec.{ltb, eqb}
use lib.ListN.{length, get_or, drop, length-drop, length-append}
use borrow.Author.Tests.{ltb-true, ltb-false, eqb-true, eqb-false}
use Rattle.lists.specs.Lists.{index_of}
use Rattle.lists.specs.Members.{has, Distinct}
use Rattle.lists.specs.Inner.{Below}
use Rattle.lists.proofs.Laws.{Known, was_true, was_false, known, eq_or_ne}
use Rattle.lists.proofs.Joined.{has-not, has_last, has_front, has-joined, distinct_joined, below_joined}
use Rattle.lists.proofs.Pigeon.{has_nothing, has_here, has_later, both_missed, pigeon}
use Rattle.move_edges.specs.Singular.{leaving}
use Rattle.graph_flows.specs.Paths.{First, OneLeaves, Unparted}
use Rattle.graph_flows.specs.Trails.{Step, down, up, edge_of, edges_of, start_of, end_of, Trail, stay, go, In}
use Rattle.graph_flows.proofs.Change.{over}
use Rattle.graph_flows.proofs.Walk.{path_cases}
use Rattle.solve_walk.proofs.Loops.{starts_length}
use Rattle.solve_walk.specs.Walk.{parts, starts_of, first_met, down_walk, up_walk}
use Rattle.theorem_cycles.specs.Walked.{Leaves, Rich, FoundCycle}
use Rattle.theorem_cycles.proofs.Single.{leaves_inside, leaving_from, leaving-leaves, leaving-alone}

-- ---- one step more at the end of a walk

edges_joined : (w : List Step) (s : Step) → edges_of (w ++ (s ∷ [])) ≡ (edges_of w ++ (edge_of s ∷ []))
edges_joined [] s = refl
edges_joined (t ∷ w) s = ap (λ (l : List ℕ). edge_of t ∷ l) (edges_joined w s)

in_joined : (r s : Step) (w : List Step) → In r (w ++ (s ∷ [])) → In r w ⊎ (r ≡ s)
in_joined r s [] (inl q) = inr q
in_joined r s [] (inr i) = absurd i
in_joined r s (t ∷ w) (inl q) = inl (inl q)
in_joined r s (t ∷ w) (inr i) = at (in_joined r s w i)
  where
    at : In r w ⊎ (r ≡ s) → In r (t ∷ w) ⊎ (r ≡ s)
    at (inl j) = inl (inr j)
    at (inr q) = inr q

module _ (tails heads : List ℕ) where
  starts_joined : (w : List Step) (s : Step) → starts_of tails heads (w ++ (s ∷ [])) ≡ (starts_of tails heads w ++ (start_of tails heads s ∷ []))
  starts_joined [] s = refl
  starts_joined (t ∷ w) s = ap (λ (l : List ℕ). start_of tails heads t ∷ l) (starts_joined w s)

  trail_joined : {a b : ℕ} {w : List Step} (s : Step) → Trail tails heads a w b → start_of tails heads s ≡ b
      → Trail tails heads a (w ++ (s ∷ [])) (end_of tails heads s)
  trail_joined s stay q = go s q stay
  trail_joined s (go t e r) q = go t e (trail_joined s r q)

  -- a walk that took a step has met the vertex that it started at
  first_met_lem : {a b : ℕ} (w : List Step) → Trail tails heads a w b → 0 < length w → has a (starts_of tails heads w) ≡ true
  first_met_lem [] t h = absurd (not-suc-le-zero h)
  first_met_lem {a} (_ ∷ w) (go s e t) h = has_here a (start_of tails heads s) (starts_of tails heads w) (sym e)

  -- the ends of a walked edge are met, or the walk is there
  start_met : (s : Step) (w : List Step) → In s w → has (start_of tails heads s) (starts_of tails heads w) ≡ true
  start_met s [] i = absurd i
  start_met s (t ∷ w) (inl q) = has_here _ (start_of tails heads t) (starts_of tails heads w) (ap (start_of tails heads) q)
  start_met s (t ∷ w) (inr i) = has_later _ (start_of tails heads t) (starts_of tails heads w) (start_met s w i)

  abbrev Met : List Step → ℕ → ℕ → Type 0
  Met w b u = (has u (starts_of tails heads w) ≡ true) ⊎ (u ≡ b)

  met_later : (s : Step) (w : List Step) (b u : ℕ) → Met w b u → Met (s ∷ w) b u
  met_later s w b u (inl h) = inl (has_later u (start_of tails heads s) (starts_of tails heads w) h)
  met_later s w b u (inr q) = inr q

  begin_met : {a b : ℕ} (w : List Step) → Trail tails heads a w b → Met w b a
  begin_met [] stay = inr refl
  begin_met {a} (_ ∷ w) (go s e t) = inl (has_here a (start_of tails heads s) (starts_of tails heads w) (sym e))

  end_met : {a b : ℕ} (s : Step) (w : List Step) → Trail tails heads a w b → In s w → Met w b (end_of tails heads s)
  end_met s [] t i = absurd i
  end_met {b = b} s (_ ∷ w) (go r e t) (inl q) = met_later r w b (end_of tails heads s) (rw q (begin_met w t))
  end_met {a = a} {b = b} s (_ ∷ w) (go r e t) (inr i) = met_later r w b (end_of tails heads s) (end_met {a = end_of tails heads r} s w t i)

  abbrev Touches : ℕ → ℕ → Type 0
  Touches e u = (get_or tails e 0 ≡ u) ⊎ (get_or heads e 0 ≡ u)

  step_met : {a b : ℕ} (s : Step) (w : List Step) (u : ℕ) → Trail tails heads a w b → In s w → Touches (edge_of s) u → Met w b u
  step_met (down e) w u t i (inl q) = inl (rw (← q) (start_met (down e) w i))
  step_met (down e) w u t i (inr q) = rw (← q) (end_met (down e) w t i)
  step_met (up e) w u t i (inr q) = inl (rw (← q) (start_met (up e) w i))
  step_met (up e) w u t i (inl q) = rw (← q) (end_met (up e) w t i)

  edge_met : {a b : ℕ} (e : ℕ) (w : List Step) (u : ℕ) → Trail tails heads a w b → has e (edges_of w) ≡ true → Touches e u → Met w b u
  edge_met e w u t h q = let o = over w e h in step_met o.step w u t o.among (rw o.edge q)

  -- ---- the walk since a vertex was first met

  since_trail : {a b : ℕ} (v : ℕ) (w : List Step) → Trail tails heads a w b → first_met tails heads w v < length w
      → Trail tails heads v (drop (first_met tails heads w v) w) b
  unfolding first_met index_of
  since_trail v [] t h = absurd (not-suc-le-zero h)
  since_trail {a} {b} v (_ ∷ w) (go s e t) h = at (known (eqb (start_of tails heads s) v)) (λ g. since_trail {a = end_of tails heads s} v w t g)
    where
      at : Known (eqb (start_of tails heads s) v)
          → (index_of v (starts_of tails heads w) < length w → Trail tails heads v (drop (index_of v (starts_of tails heads w)) w) b)
          → Trail tails heads v (drop (index_of v (starts_of tails heads (s ∷ w))) (s ∷ w)) b
      at (was_true q) ih = rw (q, index_of) (go s (eqb-true (start_of tails heads s) v q) t)
      at (was_false q) ih = rw (q, index_of) (ih (le_of_suc-le-suc (rw (q, index_of) at h)))

  unmet : (v : ℕ) (w : List Step) → length w ≤ first_met tails heads w v → has v (starts_of tails heads w) ≡ false
  unfolding first_met index_of has
  unmet v [] h = refl
  unmet v (s ∷ w) h = at (known (eqb (start_of tails heads s) v)) (λ g. unmet v w g)
    where
      at : Known (eqb (start_of tails heads s) v) → (length w ≤ index_of v (starts_of tails heads w) → has v (starts_of tails heads w) ≡ false)
          → has v (starts_of tails heads (s ∷ w)) ≡ false
      at (was_true q) ih = absurd (not-suc-le-zero (rw (q, index_of) at h))
      at (was_false q) ih =
          both_missed v (start_of tails heads s) (starts_of tails heads w) (λ p. eqb-false (start_of tails heads s) v q (sym p))
          (ih (le_of_suc-le-suc (rw (q, index_of) at h)))

in_drop : (k : ℕ) (s : Step) (w : List Step) → In s (drop k w) → In s w
in_drop zero s w i = i
in_drop (suc k) s [] i = i
in_drop (suc k) s (t ∷ w) i = inr (in_drop k s w i)

distinct_drop : (k : ℕ) (w : List Step) → Distinct (edges_of w) → Distinct (edges_of (drop k w))
distinct_drop zero w d = d
distinct_drop (suc k) [] d = d
distinct_drop (suc k) (t ∷ w) d = distinct_drop k w d.1

-- ---- what leaves a vertex

module _ (tails heads flows : List ℕ) where
  -- where nothing leaves, nothing parts; and so where x alone leaves, if nothing parts beyond it
  none_unparted : (v : ℕ) → ((g : ℕ) → Leaves tails flows v g → ⊥) → Unparted tails heads flows v
  none_unparted v none u p = at (path_cases p)
    where
      at : (v ≡ u) ⊎ First tails heads flows v u → OneLeaves tails heads flows u
      at (inl q) g g' s a s' a' = absurd (none g (record { start = s ∙ sym q; above = a }))
      at (inr f) g g' s a s' a' = absurd (none f.edge.edge (record { start = f.edge.start; above = f.edge.above }))

  one_unparted : (v x : ℕ) → ((g : ℕ) → Leaves tails flows v g → g ≡ x) → Unparted tails heads flows (get_or heads x 0) → Unparted tails heads flows v
  one_unparted v x only beyond u p = at (path_cases p)
    where
      at : (v ≡ u) ⊎ First tails heads flows v u → OneLeaves tails heads flows u
      at (inl q) g g' s a s' a' = only g (record { start = s ∙ sym q; above = a }) ∙ sym (only g' (record { start = s' ∙ sym q; above = a' }))
      at (inr f) g g' s a s' a' =
          let same : f.edge.edge ≡ x = only f.edge.edge (record { start = f.edge.start; above = f.edge.above }) in
          let q : get_or heads x 0 ≡ f.next = ap (λ (e : ℕ). get_or heads e 0) (sym same) ∙ f.edge.end in
          beyond u (rw q f.rest) g g' s a s' a'

  -- two edges leave: one of them is not x
  record Another (v x : ℕ) : Type 0 where
    edge : ℕ
    leaves : Leaves tails flows v edge
    differs : edge ≢ x

  parts-another : (v x : ℕ) → parts tails flows v ≡ true → Another v x
  unfolding parts
  parts-another v x t = at (eq_or_ne (leaving tails flows v 0) x)
    where
      least : ℕ
      least = leaving tails flows v 0

      next : ℕ
      next = leaving tails flows v (suc least)

      inside : next < length flows
      inside = ltb-true next (length flows) t

      above : suc least ≤ next
      above = leaving_from tails flows v (suc least)

      at : (least ≡ x) ⊎ (least ≢ x) → Another v x
      at (inl q) = record { edge = next; leaves = leaving-leaves tails flows v (suc least) inside; differs = λ p. omega (arith, p, q, above) }
      at (inr d) = record { edge = least; leaves = leaving-leaves tails flows v 0 (omega (arith, inside, above)); differs = d }

  -- else x is the only one
  parts-alone : (v x : ℕ) → parts tails flows v ≡ false → Leaves tails flows v x → (g : ℕ) → Leaves tails flows v g → g ≡ x
  unfolding parts
  parts-alone v x t l g m =
      let none : length flows ≤ leaving tails flows v (suc (leaving tails flows v 0)) = ltb-false _ _ t in
      leaving-alone tails flows v g none m ∙ sym (leaving-alone tails flows v x none l)

-- ---- the walk

module _ (tails heads flows : List ℕ) (falls rises : ℕ → ℕ → ℕ) (n source : ℕ) where
  abbrev Unpartedly : ℕ → Type 0
  Unpartedly v = Unparted tails heads flows v

  -- what is asked of one step
  abbrev Climbs : Step → Type 0
  Climbs (down e) = Unit {0}
  Climbs (up e) = Unpartedly (get_or heads e 0)

  -- the walk w came over edge x to v, and k vertices are not yet met
  record Going (k : ℕ) (w : List Step) (x v : ℕ) : Type 0 where
    trail : Trail tails heads source w v
    there : v < n
    distinct : Distinct (starts_of tails heads w)
    low : Below n (starts_of tails heads w)
    fuel : k + length w ≡ n
    once : Distinct (edges_of w)
    above : (s : Step) → In s w → 0 < get_or flows (edge_of s) 0
    climbs : (s : Step) → In s w → Climbs s
    -- where v is new, only x of the edges walked touches it
    newest : has v (starts_of tails heads w) ≡ false → (e : ℕ) → has e (edges_of w) ≡ true → Touches tails heads e v → e ≡ x

  -- v was met before: the steps since then are a cycle
  closes : (k : ℕ) (w : List Step) (x v : ℕ) → Going k w x v → first_met tails heads w v < length w → FoundCycle tails heads flows (drop (first_met tails heads w v) w)
  closes k w x v g h =
      let i = first_met tails heads w v in
      record {
        closed = record {
          vertex = v;
          trail = since_trail tails heads v w g.trail h;
          distinct = distinct_drop i w g.once;
          some = omega (arith, h, length-drop i w);
        };
        above = λ s j. g.above s (in_drop i s w j);
        climbs = λ e j. g.climbs (up e) (in_drop i (up e) w j);
      }

  -- all vertices are met: v too
  none_left : (w : List Step) (x v : ℕ) → Going 0 w x v → has v (starts_of tails heads w) ≡ false → ⊥
  none_left w x v g h =
      omega (arith, pigeon n (v ∷ starts_of tails heads w) (h, g.distinct) (g.there, g.low), starts_length tails heads w, g.fuel)

  -- v is new, and step s goes on from it, over an edge other than x
  module _ (k : ℕ) (w : List Step) (x v : ℕ) (g : Going (suc k) w x v) (new : has v (starts_of tails heads w) ≡ false) (s : Step)
      (from : start_of tails heads s ≡ v) (below : end_of tails heads s < n) (positive : 0 < get_or flows (edge_of s) 0) (differs : edge_of s ≢ x)
      (climb : Climbs s) where
    abbrev longer : List Step
    longer = w ++ (s ∷ [])

    abbrev end : ℕ
    end = end_of tails heads s

    touches : (t : Step) → start_of tails heads t ≡ v → Touches tails heads (edge_of t) v
    touches (down e) q = inl q
    touches (up e) q = inr q

    fresh : has (edge_of s) (edges_of w) ≡ false
    fresh = has-not (edge_of s) (edges_of w) (λ h. differs (g.newest new (edge_of s) h (touches s from)))

    longer_trail : Trail tails heads source longer end
    longer_trail = trail_joined tails heads s g.trail from

    longer_above : (r : Step) → In r w ⊎ (r ≡ s) → 0 < get_or flows (edge_of r) 0
    longer_above r (inl i) = g.above r i
    longer_above r (inr q) = rw q positive

    longer_climbs : (r : Step) → In r w ⊎ (r ≡ s) → Climbs r
    longer_climbs r (inl i) = g.climbs r i
    longer_climbs r (inr q) = rw q climb

    longer_newest : has end (starts_of tails heads longer) ≡ false → (e : ℕ) → has e (edges_of longer) ≡ true → Touches tails heads e end → e ≡ edge_of s
    longer_newest no_end e h q = at (has-joined e (edge_of s) (edges_of w) (rw (edges_joined w s) at h))
      where
        missed : has end (starts_of tails heads w ++ (start_of tails heads s ∷ [])) ≡ false
        missed = rw (starts_joined tails heads w s) at no_end

        old : Met tails heads w v end → ⊥
        old (inl i) = true≢false (sym (has_front end (start_of tails heads s) (starts_of tails heads w) i) ∙ missed)
        old (inr p) =
            let same : start_of tails heads s ≡ end = from ∙ sym p in
            true≢false (sym (has_last end (starts_of tails heads w)) ∙ rw same at missed)

        at : (has e (edges_of w) ≡ true) ⊎ (e ≡ edge_of s) → e ≡ edge_of s
        at (inl i) = absurd (old (edge_met tails heads e w end g.trail i q))
        at (inr p) = p

    going_on : Going k longer (edge_of s) end
    going_on = record {
      trail = longer_trail;
      there = below;
      distinct = rw (starts_joined tails heads w s, from) (distinct_joined v (starts_of tails heads w) g.distinct new);
      low = rw (starts_joined tails heads w s, from) (below_joined n v (starts_of tails heads w) g.low g.there);
      fuel = omega (arith, g.fuel, length-append w (s ∷ []));
      once = rw (edges_joined w s) (distinct_joined (edge_of s) (edges_of w) g.once fresh);
      above = λ r i. longer_above r (in_joined r s w i);
      climbs = λ r i. longer_climbs r (in_joined r s w i);
      newest = longer_newest;
    }

  module _ (r : Rich tails heads flows falls rises n source) where
    -- the walk came to v by no step, or down over x
    abbrev CameDown : List Step → ℕ → ℕ → Type 0
    CameDown w x v = ((x ≡ length flows) × (v ≡ source)) ⊎ (Leaves heads flows v x × (0 < length w))

    -- or up over x, beyond which nothing parts
    record CameUp (w : List Step) (x v : ℕ) : Type 0 where
      leaves : Leaves tails flows v x
      beyond : Unpartedly (get_or heads x 0)
      some : 0 < length w

    some_joined : (w : List Step) (s : Step) → 0 < length (w ++ (s ∷ []))
    some_joined w s = omega (arith, length-append w (s ∷ []))

    module _ (k : ℕ) (w : List Step) (x v : ℕ) (g : Going (suc k) w x v) (new : has v (starts_of tails heads w) ≡ false) where
      -- the source was met first
      off_source : 0 < length w → v ≢ source
      off_source some q = true≢false (sym (first_met_lem tails heads w g.trail some) ∙ rw q at new)

      -- one step more, down or up
      goes_down : falls v x < length flows → Going k (w ++ (down (falls v x) ∷ [])) (falls v x) (get_or heads (falls v x) 0)
      goes_down h =
          let c = r.choices.falls_leaves v x h in
          going_on k w x v g new (down (falls v x)) c.0.start (r.head_below (falls v x)) c.0.above c.1 tt

      came_down : falls v x < length flows → CameDown (w ++ (down (falls v x) ∷ [])) (falls v x) (get_or heads (falls v x) 0)
      came_down h =
          let c = r.choices.falls_leaves v x h in
          inr (record { start = refl; above = c.0.above }, some_joined w (down (falls v x)))

      goes_up : Leaves heads flows v (rises v x) × (rises v x ≢ x) → Unpartedly v
          → Going k (w ++ (up (rises v x) ∷ [])) (rises v x) (get_or tails (rises v x) 0)
      goes_up c u =
          going_on k w x v g new (up (rises v x)) c.0.start (r.tail_below (rises v x)) c.0.above c.1 (rw c.0.start u)

      came_up : Leaves heads flows v (rises v x) × (rises v x ≢ x) → Unpartedly v
          → CameUp (w ++ (up (rises v x) ∷ [])) (rises v x) (get_or tails (rises v x) 0)
      came_up c u = record {
        leaves = record { start = refl; above = c.0.above };
        beyond = rw c.0.start u;
        some = some_joined w (up (rises v x));
      }

      -- down, and no edge is found: nothing leaves v
      nothing_leaves : CameDown w x v → length flows ≤ falls v x → (e : ℕ) → Leaves tails flows v e → ⊥
      nothing_leaves c none e l = omega (arith, none, r.choices.falls_found v x e l (differs c))
        where
          differs : CameDown w x v → e ≢ x
          differs (inl p) q = omega (arith, p.0, q, leaves_inside tails flows v e l)
          differs (inr m) q = r.joins x m.0.above (rw q at l.start ∙ sym m.0.start)

      -- then a second edge enters it
      second_enters : CameDown w x v → length flows ≤ falls v x → Leaves heads flows v (rises v x) × (rises v x ≢ x)
      second_enters c none = at c
        where
          at : CameDown w x v → Leaves heads flows v (rises v x) × (rises v x ≢ x)
          at (inl p) = absurd (nothing_leaves c none r.start (rw p.1 r.starts))
          at (inr m) =
              let d = r.second v x g.there (off_source m.1) (nothing_leaves c none) m.0 in
              r.choices.climbs_found v x d.0 d.1 d.2

      -- up, and two edges leave: there is another one
      another-leaves : parts tails flows v ≡ true → falls v x < length flows
      another-leaves t = let a = parts-another tails heads flows v x t in r.choices.falls_found v x a.edge a.leaves a.differs

      -- up, and x alone leaves: an edge enters, and it is not x
      only_unparted : CameUp w x v → parts tails flows v ≡ false → Unpartedly v
      only_unparted c t = one_unparted tails heads flows v x (parts-alone tails heads flows v x t c.leaves) c.beyond

      one_enters : CameUp w x v → Leaves heads flows v (rises v x) × (rises v x ≢ x)
      one_enters c =
          let d = r.fed v x g.there (off_source c.some) c.leaves in
          r.choices.climbs_found v x d.0 d.1 (λ q. r.joins x c.leaves.above (c.leaves.start ∙ sym (rw q at d.1.start)))

    -- the walk from v on finds a cycle
    abbrev Downward : ℕ → List Step → ℕ → ℕ → Type 0
    Downward k w x v = FoundCycle tails heads flows (down_walk tails heads flows falls rises k w x v)

    abbrev Upward : ℕ → List Step → ℕ → ℕ → Type 0
    Upward k w x v = FoundCycle tails heads flows (up_walk tails heads flows falls rises k w x v)

    -- and after one step more
    abbrev OnDown : ℕ → List Step → ℕ → ℕ → Type 0
    OnDown k w x v =
        let on = w ++ (down (falls v x) ∷ []) in
        let to = get_or heads (falls v x) 0 in
        Going k on (falls v x) to → CameDown on (falls v x) to → Downward k on (falls v x) to

    abbrev OnUp : ℕ → List Step → ℕ → ℕ → Type 0
    OnUp k w x v =
        let on = w ++ (up (rises v x) ∷ []) in
        let to = get_or tails (rises v x) 0 in
        Going k on (rises v x) to → CameUp on (rises v x) to → Upward k on (rises v x) to

    mutual
      unfolding down_walk

      down_found : (k : ℕ) (w : List Step) (x v : ℕ) → Going k w x v → CameDown w x v → Downward k w x v
      down_found zero w x v g c = at (known (ltb (first_met tails heads w v) (length w)))
        where
          at : Known (ltb (first_met tails heads w v) (length w)) → Downward zero w x v
          at (was_true t) = closes zero w x v g (ltb-true _ _ t)
          at (was_false t) = absurd (none_left w x v g (unmet tails heads v w (ltb-false _ _ t)))
      down_found (suc k) w x v g c =
          at (known (ltb (first_met tails heads w v) (length w))) (known (ltb (falls v x) (length flows)))
          (λ a b. down_found k (w ++ (down (falls v x) ∷ [])) (falls v x) (get_or heads (falls v x) 0) a b)
          (λ a b. up_found k (w ++ (up (rises v x) ∷ [])) (rises v x) (get_or tails (rises v x) 0) a b)
        where
          at : Known (ltb (first_met tails heads w v) (length w)) → Known (ltb (falls v x) (length flows))
              → OnDown k w x v → OnUp k w x v → Downward (suc k) w x v
          at (was_true t) q by_down by-up = rw (t, down_walk) (closes (suc k) w x v g (ltb-true _ _ t))
          at (was_false t) (was_true q) by_down by-up =
              let new = unmet tails heads v w (ltb-false _ _ t) in
              let h = ltb-true _ _ q in
              rw (t, q, down_walk) (by_down (goes_down k w x v g new h) (came_down k w x v g new h))
          at (was_false t) (was_false q) by_down by-up =
              let new = unmet tails heads v w (ltb-false _ _ t) in
              let none = ltb-false _ _ q in
              let e = second_enters k w x v g new c none in
              let u = none_unparted tails heads flows v (nothing_leaves k w x v g new c none) in
              rw (t, q, down_walk) (by-up (goes_up k w x v g new e u) (came_up k w x v g new e u))

      up_found : (k : ℕ) (w : List Step) (x v : ℕ) → Going k w x v → CameUp w x v → Upward k w x v
      up_found zero w x v g c = at (known (ltb (first_met tails heads w v) (length w)))
        where
          at : Known (ltb (first_met tails heads w v) (length w)) → Upward zero w x v
          at (was_true t) = closes zero w x v g (ltb-true _ _ t)
          at (was_false t) = absurd (none_left w x v g (unmet tails heads v w (ltb-false _ _ t)))
      up_found (suc k) w x v g c =
          at (known (ltb (first_met tails heads w v) (length w))) (known (parts tails flows v))
          (λ a b. down_found k (w ++ (down (falls v x) ∷ [])) (falls v x) (get_or heads (falls v x) 0) a b)
          (λ a b. up_found k (w ++ (up (rises v x) ∷ [])) (rises v x) (get_or tails (rises v x) 0) a b)
        where
          at : Known (ltb (first_met tails heads w v) (length w)) → Known (parts tails flows v)
              → OnDown k w x v → OnUp k w x v → Upward (suc k) w x v
          at (was_true t) q by_down by-up = rw (t, up_walk) (closes (suc k) w x v g (ltb-true _ _ t))
          at (was_false t) (was_true q) by_down by-up =
              let new = unmet tails heads v w (ltb-false _ _ t) in
              let h = another-leaves k w x v g new q in
              rw (t, q, up_walk) (by_down (goes_down k w x v g new h) (came_down k w x v g new h))
          at (was_false t) (was_false q) by_down by-up =
              let new = unmet tails heads v w (ltb-false _ _ t) in
              let e = one_enters k w x v g new c in
              let u = only_unparted k w x v g new c q in
              rw (t, q, up_walk) (by-up (goes_up k w x v g new e u) (came_up k w x v g new e u))

    begin : Going n [] (length flows) source
    begin = record {
      trail = stay;
      there = r.source_below;
      distinct = tt;
      low = tt;
      fuel = add-zero n;
      once = tt;
      above = λ s i. absurd i;
      climbs = λ s i. absurd i;
      newest = λ h e i q. absurd (has_nothing e i);
    }

  -- the walk from the source, with n vertices not yet met
  pub found : Rich tails heads flows falls rises n source → FoundCycle tails heads flows (down_walk tails heads flows falls rises n [] (length flows) source)
  found r = down_found r n [] (length flows) source (begin r) (inl (refl, refl))
