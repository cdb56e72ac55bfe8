-- What the tests of steps mean. The test of a cycle keeps the set of the edges walked so far: a step passes where its edge is not in the set, and joins it.
-- So every edge of the steps left stands apart from the set, and from the steps before it; which is that no edge comes twice.
use mathlib.Core.Path.{◌≡◌, refl, sym, ap, ◌∙◌}
use mathlib.Core.Bool.{Bool, true, false, not, true≢false, false≢true}
use mathlib.Core.Logic.{◌⊎◌, inl, inr, ◌≢◌}
use mathlib.Core.List.{List, [], ◌∷◌}
use Prim.Native.Nat.{ℕ}
use native.Mathlib.Nat.{not-suc-le-zero}
use native.Mathlib.Omega.{arith}
use lib.Dec.{eqb}
use borrow.Author.Tests.{eqb-true, eq-eqb, not-true}
use Rattle.lists.specs.Choice.{pick, both}
use Rattle.lists.specs.Members.{has, Distinct}
use Rattle.lists.proofs.Laws.{Known, was_true, was_false, known, eq_or_ne, pick_yes, pick_no, both_left, both_right, both_true}
use Rattle.lists.proofs.Pigeon.{has_nothing, has_here, has_later, has_cases}
use Rattle.sets.specs.Sets.{has_bit, with_bit}
use Rattle.sets.proofs.Bits.{has-none, has_with_same, has_with_other, has_with_old}
use Rattle.graph_flows.specs.Trails.{Step, down, up, edge_of, edges_of, start_of, end_of, Trail, stay, go, Closed, In}
use Rattle.graph_flows.proofs.Change.{in_edges}
use Rattle.move_cycle.specs.Steps.{every, leads_back, is_cycle, goes, gather}

-- every step
pub every_in : (p : Step → Bool) (w : List Step) (s : Step) → every p w ≡ true → In s w → p s ≡ true
unfolding every
every_in p [] s h i = absurd i
every_in p (t ∷ w) s h i = split (known (p t)) i (λ g j. every_in p w s g j)
  where
    split : Known (p t) → In s (t ∷ w) → (every p w ≡ true → In s w → p s ≡ true) → p s ≡ true
    split (was_true e) (inl q) ih = rw q e
    split (was_true e) (inr j) ih = ih (rw (e, every) at h) j
    split (was_false e) j ih = absurd (false≢true (rw (e, every) at h))

pub every_of : (p : Step → Bool) (w : List Step) → ((s : Step) → In s w → p s ≡ true) → every p w ≡ true
unfolding every
every_of p [] f = refl
every_of p (t ∷ w) f = rw (f t (inl refl), every) (every_of p w (λ s i. f s (inr i)))

-- an edge that is not in a set with c is not c, and is not in the set
without_with : (m c k : ℕ) → has_bit (with_bit m c) k ≡ false → (k ≢ c) × (has_bit m k ≡ false)
without_with m c k h =
    let n : k ≢ c = λ e. true≢false (sym (has_with_same m c) ∙ rw e at h) in
    (n, sym (has_with_other m c k n) ∙ h)

-- the edges of the steps are distinct, and none is in the set
record Apart (m : ℕ) (w : List Step) : Type 0 where
  pub distinct : Distinct (edges_of w)
  pub outside : (e : ℕ) → has e (edges_of w) ≡ true → has_bit m e ≡ false

has-not : (e : ℕ) (es : List ℕ) → (has e es ≡ true → ⊥) → has e es ≡ false
has-not e es n = split (known (has e es))
  where
    split : Known (has e es) → has e es ≡ false
    split (was_true t) = absurd (n t)
    split (was_false t) = t

apart_more : (m : ℕ) (s : Step) (w : List Step) → has_bit m (edge_of s) ≡ false → Apart (with_bit m (edge_of s)) w → Apart m (s ∷ w)
apart_more m s w n a = record { distinct = (has-not c (edges_of w) missed, a.distinct); outside = λ e h. split e (has_cases e c (edges_of w) h) }
  where
    c : ℕ
    c = edge_of s

    missed : has c (edges_of w) ≡ true → ⊥
    missed h = (without_with m c c (a.outside c h)).0 refl

    split : (e : ℕ) → (e ≡ c) ⊎ (has e (edges_of w) ≡ true) → has_bit m e ≡ false
    split e (inl q) = rw q n
    split e (inr h) = (without_with m c e (a.outside e h)).1

apart_rest : (m : ℕ) (s : Step) (w : List Step) → Apart m (s ∷ w) → Apart (with_bit m (edge_of s)) w
apart_rest m s w a = record { distinct = a.distinct.1; outside = λ e h. rest e h }
  where
    rest : (e : ℕ) → has e (edges_of w) ≡ true → has_bit (with_bit m (edge_of s)) e ≡ false
    rest e h =
        let n : e ≢ edge_of s = λ q. true≢false (sym h ∙ rw q a.distinct.0) in
        has_with_other m (edge_of s) e n ∙ a.outside e (has_later e (edge_of s) (edges_of w) h)

-- the test of a cycle, from v with the set m of the edges walked so far
module _ (tails heads : List ℕ) where
  -- a step goes on: it starts at v, and its edge is not in the set
  abbrev goes_on : ℕ → ℕ → Step → Bool
  goes_on m v s = both (eqb (start_of tails heads s) v) (not (has_bit m (edge_of s)))

  back_step : (r m v : ℕ) (s : Step) (w : List Step) → leads_back tails heads r m v (s ∷ w) ≡ true
      → (start_of tails heads s ≡ v) × (has_bit m (edge_of s) ≡ false) × (leads_back tails heads r (with_bit m (edge_of s)) (end_of tails heads s) w ≡ true)
  unfolding leads_back
  back_step r m v s w h = split (known (goes_on m v s))
    where
      split : Known (goes_on m v s)
          → (start_of tails heads s ≡ v) × (has_bit m (edge_of s) ≡ false) × (leads_back tails heads r (with_bit m (edge_of s)) (end_of tails heads s) w ≡ true)
      split (was_true e) = (eqb-true (start_of tails heads s) v (both_left _ _ e), not-true _ (both_right _ _ e), rw (e, leads_back) at h)
      split (was_false e) = absurd (false≢true (rw (e, leads_back) at h))

  back_trail : (r m v : ℕ) (w : List Step) → leads_back tails heads r m v w ≡ true → Trail tails heads v w r
  unfolding leads_back
  back_trail r m v [] h = rw (eqb-true v r h) stay
  back_trail r m v (s ∷ w) h =
      let p = back_step r m v s w h in
      go s p.0 (back_trail r (with_bit m (edge_of s)) (end_of tails heads s) w p.2)

  back_apart : (r m v : ℕ) (w : List Step) → leads_back tails heads r m v w ≡ true → Apart m w
  back_apart r m v [] h = record { distinct = tt; outside = λ e g. absurd (has_nothing e g) }
  back_apart r m v (s ∷ w) h =
      let p = back_step r m v s w h in
      apart_more m s w p.1 (back_apart r (with_bit m (edge_of s)) (end_of tails heads s) w p.2)

  trail_back : {v r : ℕ} {w : List Step} (m : ℕ) → Trail tails heads v w r → Apart m w → leads_back tails heads r m v w ≡ true
  unfolding leads_back
  trail_back {v} m stay a = eq-eqb v v refl
  trail_back {v} {w = _ ∷ w} m (go s e t) a =
      let n : has_bit m (edge_of s) ≡ false = a.outside (edge_of s) (has_here (edge_of s) (edge_of s) (edges_of w) refl) in
      let q : not (has_bit m (edge_of s)) ≡ true = rw n in
      let g : goes_on m v s ≡ true = both_true (eqb (start_of tails heads s) v) (not (has_bit m (edge_of s))) (eq-eqb (start_of tails heads s) v e) q in
      rw (g, leads_back) (trail_back (with_bit m (edge_of s)) t (apart_rest m s w a))

  pub cycle_closed : (w : List Step) → is_cycle tails heads w ≡ true → Closed tails heads w
  unfolding is_cycle
  cycle_closed [] h = absurd (false≢true h)
  cycle_closed (s ∷ w) h =
      let v = start_of tails heads s in
      record { vertex = v; trail = back_trail v 0 v (s ∷ w) h; distinct = (back_apart v 0 v (s ∷ w) h).distinct; some = omega arith }

  from_start : {v r : ℕ} {s : Step} {w : List Step} → Trail tails heads v (s ∷ w) r → start_of tails heads s ≡ v
  from_start (go s e t) = e

  pub closed_cycle : (w : List Step) → Closed tails heads w → is_cycle tails heads w ≡ true
  unfolding is_cycle
  closed_cycle [] c = absurd (not-suc-le-zero c.some)
  closed_cycle (s ∷ w) c =
      let a : Apart 0 (s ∷ w) = record { distinct = c.distinct; outside = λ e h. has-none e } in
      rw (from_start c.trail) (trail_back 0 c.trail a)

-- the edges of the steps that go one way
pub record Gathered (ups : Bool) (w : List Step) (e : ℕ) : Type 0 where
  pub step : Step
  pub among : In step w
  pub way : goes ups step ≡ true
  pub edge : edge_of step ≡ e

module _ (ups : Bool) where
  -- the set after one step
  abbrev next : ℕ → Step → ℕ
  next m s = pick (goes ups s) (with_bit m (edge_of s)) m

  next_old : (m : ℕ) (s : Step) (e : ℕ) → has_bit m e ≡ true → has_bit (next m s) e ≡ true
  next_old m s e h = split (known (goes ups s))
    where
      split : Known (goes ups s) → has_bit (next m s) e ≡ true
      split (was_true t) = rw (pick_yes (goes ups s) (with_bit m (edge_of s)) m t) (has_with_old m (edge_of s) e h)
      split (was_false t) = rw (pick_no (goes ups s) (with_bit m (edge_of s)) m t) h

  gather_old : (m : ℕ) (w : List Step) (e : ℕ) → has_bit m e ≡ true → has_bit (gather ups m w) e ≡ true
  unfolding gather
  gather_old m [] e h = h
  gather_old m (s ∷ w) e h = gather_old (next m s) w e (next_old m s e h)

  gather_in : (m : ℕ) (w : List Step) (s : Step) → In s w → goes ups s ≡ true → has_bit (gather ups m w) (edge_of s) ≡ true
  unfolding gather
  gather_in m [] s i g = absurd i
  gather_in m (t ∷ w) s (inl q) g =
      let k : goes ups t ≡ true = rw (← q) g in
      let here : has_bit (next m t) (edge_of t) ≡ true = rw (pick_yes (goes ups t) (with_bit m (edge_of t)) m k) (has_with_same m (edge_of t)) in
      rw q (gather_old (next m t) w (edge_of t) here)
  gather_in m (t ∷ w) s (inr i) g = gather_in (next m t) w s i g

  pub gather-has : (w : List Step) (s : Step) → In s w → goes ups s ≡ true → has_bit (gather ups 0 w) (edge_of s) ≡ true
  gather-has w s i g = gather_in 0 w s i g

  next_from : (m : ℕ) (s : Step) (e : ℕ) → has_bit (next m s) e ≡ true → (has_bit m e ≡ true) ⊎ ((goes ups s ≡ true) × (edge_of s ≡ e))
  next_from m s e h = split (known (goes ups s)) (eq_or_ne e (edge_of s))
    where
      split : Known (goes ups s) → (e ≡ edge_of s) ⊎ (e ≢ edge_of s) → (has_bit m e ≡ true) ⊎ ((goes ups s ≡ true) × (edge_of s ≡ e))
      split (was_true t) (inl q) = inr (t, sym q)
      split (was_true t) (inr n) = inl (sym (has_with_other m (edge_of s) e n) ∙ rw (pick_yes (goes ups s) (with_bit m (edge_of s)) m t) at h)
      split (was_false t) q = inl (rw (pick_no (goes ups s) (with_bit m (edge_of s)) m t) at h)

  later : (s : Step) (w : List Step) (e : ℕ) → Gathered ups w e → Gathered ups (s ∷ w) e
  later s w e g = record { step = g.step; among = inr g.among; way = g.way; edge = g.edge }

  gather_back : (m : ℕ) (w : List Step) (e : ℕ) → has_bit (gather ups m w) e ≡ true → (has_bit m e ≡ true) ⊎ Gathered ups w e
  unfolding gather
  gather_back m [] e h = inl h
  gather_back m (s ∷ w) e h = split (gather_back (next m s) w e h)
    where
      first : (has_bit m e ≡ true) ⊎ ((goes ups s ≡ true) × (edge_of s ≡ e)) → (has_bit m e ≡ true) ⊎ Gathered ups (s ∷ w) e
      first (inl g) = inl g
      first (inr (t, q)) = inr (record { step = s; among = inl refl; way = t; edge = q })

      split : (has_bit (next m s) e ≡ true) ⊎ Gathered ups w e → (has_bit m e ≡ true) ⊎ Gathered ups (s ∷ w) e
      split (inl g) = first (next_from m s e g)
      split (inr g) = inr (later s w e g)

  pub gather_from : (w : List Step) (e : ℕ) → has_bit (gather ups 0 w) e ≡ true → Gathered ups w e
  gather_from w e h = split (gather_back 0 w e h)
    where
      split : (has_bit 0 e ≡ true) ⊎ Gathered ups w e → Gathered ups w e
      split (inl g) = absurd (false≢true (sym (has-none e) ∙ g))
      split (inr g) = g

-- where no edge comes twice, a step is known by its edge; so no edge is gathered both ways
pub same_step : (w : List Step) (s t : Step) → Distinct (edges_of w) → In s w → In t w → edge_of s ≡ edge_of t → s ≡ t
same_step [] s t d i j e = absurd i
same_step (z ∷ w) s t d (inl p) (inl q) e = p ∙ sym q
same_step (z ∷ w) s t d (inl p) (inr j) e = absurd (true≢false (sym (in_edges t w j) ∙ rw (sym e ∙ ap edge_of p) d.0))
same_step (z ∷ w) s t d (inr i) (inl q) e = absurd (true≢false (sym (in_edges s w i) ∙ rw (e ∙ ap edge_of q) d.0))
same_step (z ∷ w) s t d (inr i) (inr j) e = same_step w s t d.1 i j e

one_way : (s : Step) → goes false s ≡ true → goes true s ≡ true → ⊥
unfolding pick
one_way (down e) p q = false≢true q
one_way (up e) p q = false≢true p

pub gathered_apart : (w : List Step) (e : ℕ) → Distinct (edges_of w) → has_bit (gather false 0 w) e ≡ true → has_bit (gather true 0 w) e ≡ true → ⊥
gathered_apart w e d p q =
    let s = gather_from false w e p in
    let t = gather_from true w e q in
    one_way t.step (rw (same_step w s.step t.step d s.among t.among (s.edge ∙ sym t.edge)) at s.way) t.way
