-- The walk by sets is the walk by lists. The edges in the set at a vertex are those that the search over all edges would find; two edges leave where the set
-- without its lowest edge is not empty; and a step makes one vertex more seen, the one that it starts from.
use mathlib.Core.Path.{◌≡◌, refl, sym, ap, ◌∙◌}
use mathlib.Core.Bool.{Bool, true, false, not}
use mathlib.Core.List.{List, [], ◌∷◌, ◌++◌}
use mathlib.Core.Logic.{◌⊎◌, inl, inr, ◌≢◌}
use Prim.Native.Nat.{ℕ, suc, ◌<◌, ◌≤◌, ◌^◌}
use native.Mathlib.Omega.{arith}
use lib.Dec.{ltb, eqb}
use lib.ListN.{length}
use borrow.Author.Tests.{lt-ltb, le-ltb, eq-eqb, ne_eqb}
use Rattle.lists.specs.Lists.{index_of, lowest}
use Rattle.lists.proofs.Laws.{Known, was_true, was_false, known, lt_or_ge, eq_or_ne}
use Rattle.sets.specs.Sets.{has_bit, with_bit}
use Rattle.sets.specs.Inner.{set_width, is_empty, dropped, lowest_in}
use Rattle.sets.proofs.Scan.{empty_above}
use Rattle.sets.proofs.Bits.{has-none, has_with_same, has_with_other}
use Rattle.board.specs.Limits.{max_vertices, max_edges}
use Rattle.move_edges.specs.Incidence.{Incident, PositiveSet, touching_by}
use Rattle.move_edges.proofs.Leaving.{without_at, more_in}
use Rattle.graph_flows.specs.Trails.{Step, start_of}
use Rattle.solve_walk.specs.Walk.{touches, another, parts, starts_of, first_met}
use Rattle.solve_walk.proofs.Loops.{starts_length}
use Rattle.solve_walk.specs.Chart.{Charted, Seen, another_by, parts_by}

-- a set is not empty where its number is above 0
not-not : (t : Bool) → not (not t) ≡ t
not-not true = refl
not-not false = refl

not_empty : (m : ℕ) → not (is_empty m) ≡ ltb 0 m
not_empty m = ap not (empty_above m) ∙ not-not (ltb 0 m)

-- one end of the edges
module _ (ends flows edges : List ℕ) (positive v : ℕ) (at : Incident ends edges) (is_positive : PositiveSet flows positive) (small : v < max_vertices)
    (fits : positive < 2 ^ set_width) (long : length flows ≡ max_edges) where
  others : (x e : ℕ) → has_bit (dropped (touching_by edges positive v) x) e ≡ touches ends flows v x e
  unfolding touches
  others = without_at ends flows edges positive v at is_positive small fits long

  pub another_in : (x : ℕ) → another_by edges positive v x ≡ another ends flows v x
  unfolding another
  another_in x = ap (λ (p : ℕ → Bool). lowest p 0 set_width) (λ i e. others x e i) ∙ ap (λ (n : ℕ). lowest (touches ends flows v x) 0 n) (sym long)

  pub parts_in : parts_by edges positive v ≡ parts ends flows v
  unfolding parts
  parts_in = not_empty (dropped (touching_by edges positive v) (lowest_in (touching_by edges positive v))) ∙ more_in ends flows edges positive v at is_positive small fits long

-- the walk's two ends
module _ (tails heads flows leaving entering : List ℕ) (positive v : ℕ) (chart : Charted tails heads flows leaving entering positive)
    (fits : positive < 2 ^ set_width) (small : v < max_vertices) where
  pub falls_in : (x : ℕ) → another_by leaving positive v x ≡ another tails flows v x
  falls_in = another_in tails flows leaving positive v chart.leave chart.is_positive small fits chart.all

  pub climbs_in : (x : ℕ) → another_by entering positive v x ≡ another heads flows v x
  climbs_in = another_in heads flows entering positive v chart.enter chart.is_positive small fits chart.all

  pub parting_in : parts_by leaving positive v ≡ parts tails flows v
  parting_in = parts_in tails flows leaving positive v chart.leave chart.is_positive small fits chart.all

-- one start more: v is among them where it is among the old ones, or is the new one
index_new : (v : ℕ) (xs : List ℕ) → index_of v (xs ++ (v ∷ [])) < length (xs ++ (v ∷ []))
unfolding index_of
index_new v [] = rw (eq-eqb v v refl, index_of) (omega arith)
index_new v (x ∷ xs) = go (known (eqb x v)) (index_new v xs)
  where
    go : Known (eqb x v) → index_of v (xs ++ (v ∷ [])) < length (xs ++ (v ∷ [])) → index_of v (x ∷ (xs ++ (v ∷ []))) < length (x ∷ (xs ++ (v ∷ [])))
    go (was_true t) ih = rw (t, index_of) (omega arith)
    go (was_false t) ih = rw (t, index_of) (omega arith)

suc-ltb : (a b : ℕ) → ltb (suc a) (suc b) ≡ ltb a b
suc-ltb a b = go (lt_or_ge a b)
  where
    go : (a < b) ⊎ (b ≤ a) → ltb (suc a) (suc b) ≡ ltb a b
    go (inl l) = rw (lt-ltb a b l, lt-ltb (suc a) (suc b) (omega arith))
    go (inr l) = rw (le-ltb a b l, le-ltb (suc a) (suc b) (omega arith))

index_old : (v y : ℕ) (xs : List ℕ) → v ≢ y → ltb (index_of v (xs ++ (y ∷ []))) (length (xs ++ (y ∷ []))) ≡ ltb (index_of v xs) (length xs)
unfolding index_of
index_old v y [] n = rw (ne_eqb y v (λ q. n (sym q)), index_of) (suc-ltb 0 0)
index_old v y (x ∷ xs) n = go (known (eqb x v)) (index_old v y xs n)
  where
    go : Known (eqb x v) → ltb (index_of v (xs ++ (y ∷ []))) (length (xs ++ (y ∷ []))) ≡ ltb (index_of v xs) (length xs)
        → ltb (index_of v (x ∷ (xs ++ (y ∷ [])))) (length (x ∷ (xs ++ (y ∷ [])))) ≡ ltb (index_of v (x ∷ xs)) (length (x ∷ xs))
    go (was_true t) ih = rw (t, index_of) (lt-ltb 0 (length (x ∷ (xs ++ (y ∷ [])))) (omega arith) ∙ sym (lt-ltb 0 (length (x ∷ xs)) (omega arith)))
    go (was_false t) ih = rw (t, index_of) (suc-ltb (index_of v (xs ++ (y ∷ []))) (length (xs ++ (y ∷ []))) ∙ ih ∙ sym (suc-ltb (index_of v xs) (length xs)))

-- the vertices seen
module _ (tails heads : List ℕ) where
  starts_more : (w : List Step) (s : Step) → starts_of tails heads (w ++ (s ∷ [])) ≡ starts_of tails heads w ++ (start_of tails heads s ∷ [])
  starts_more [] s = refl
  starts_more (t ∷ w) s = ap (λ (l : List ℕ). start_of tails heads t ∷ l) (starts_more w s)

  met_at : (w : List Step) (v : ℕ) → ltb (first_met tails heads w v) (length w) ≡ ltb (index_of v (starts_of tails heads w)) (length (starts_of tails heads w))
  unfolding first_met
  met_at w v = rw (starts_length tails heads w)

  pub seen_none : Seen tails heads [] 0
  unfolding first_met index_of
  seen_none v l = has-none v ∙ sym (le-ltb 0 0 (omega arith))

  pub seen_more : (w longer : List Step) (seen met : ℕ) (s : Step) → longer ≡ w ++ (s ∷ []) → met ≡ with_bit seen (start_of tails heads s)
      → Seen tails heads w seen → Seen tails heads longer met
  seen_more w longer seen met s more joined before v l =
      rw (joined, more, met_at (w ++ (s ∷ [])) v, starts_more w s) (go (eq_or_ne v (start_of tails heads s)))
    where
      xs : List ℕ
      xs = starts_of tails heads w

      go : (v ≡ start_of tails heads s) ⊎ (v ≢ start_of tails heads s)
          → has_bit (with_bit seen (start_of tails heads s)) v ≡ ltb (index_of v (xs ++ (start_of tails heads s ∷ []))) (length (xs ++ (start_of tails heads s ∷ [])))
      go (inl q) = rw (← q, has_with_same seen v) (sym (lt-ltb _ _ (index_new v xs)))
      go (inr n) = has_with_other seen (start_of tails heads s) v n ∙ before v l ∙ met_at w v ∙ sym (index_old v (start_of tails heads s) xs n)
