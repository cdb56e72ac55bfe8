-- The walk from a vertex r on a cycle finds a cycle. It stays among the vertices that reach r, so an edge always leads on: at r because r is on a cycle,
-- elsewhere because the way to r begins with an edge. The vertices that it leaves are distinct until it stops, so n edges are enough.
use mathlib.Core.Path.{◌≡◌, refl, ap, sym, ◌∙◌}
use mathlib.Core.Bool.{Bool, true, false, true≢false}
use mathlib.Core.Logic.{◌⊎◌, inl, inr}
use mathlib.Core.List.{List, [], ◌∷◌}
use Prim.Native.Nat.{ℕ, zero, suc, ◌+◌, ◌≤◌, ◌<◌}
use native.Mathlib.Omega.{arith}
use native.Mathlib.Nat.{not-suc-le-zero, le_of_suc-le-suc, add-zero, zero-add}
use lib.Dec.{ltb, eqb}
use lib.ListN.{length, get_or, take}
use borrow.Author.Tests.{ltb-true, ltb-false, lt-ltb, eqb-true, eqb-false, eq-eqb}
use Rattle.lists.specs.Choice.{both}
use Rattle.lists.specs.Members.{has, Distinct}
use Rattle.lists.specs.Inner.{Below}
use Rattle.lists.proofs.Laws.{Known, was_true, was_false, known, both_left, both_right, both_true}
use Rattle.lists.proofs.Lowest.{lowest_least, lowest_found}
use Rattle.lists.proofs.Pigeon.{has_nothing, has_here, has_later, has_cases, both_missed, has-take, distinct_take, pigeon}
use Rattle.graph.specs.Graph.{reached, leads, onward}
use Rattle.graph_cancel.specs.Cycles.{since, on_cycle, follow, cycle_from}
use Rattle.graph_flows.specs.Trails.{down, downs, Trail, stay, go}
use Rattle.graph_flows.specs.Paths.{Path, here, on, First, EndsBelow}
use Rattle.graph_flows.proofs.Reach.{reaching_sound, reaching_complete}

-- a cycle of distinct positive edges, the latest first: a trail walked back, so tails and heads change places
pub record Cycle (tails heads flows es : List ℕ) : Type 0 where
  pub vertex : ℕ
  pub trail : Trail heads tails vertex (downs es) vertex
  pub some : 0 < length es
  pub edge : (e : ℕ) → has e es ≡ true → e < length flows
  pub positive : (e : ℕ) → has e es ≡ true → 0 < get_or flows e 0
  pub distinct : Distinct es

-- a path is nothing or starts with an edge
pub path_cases : {tails heads flows : List ℕ} {a c : ℕ} → Path tails heads flows a c → (a ≡ c) ⊎ First tails heads flows a c
path_cases here = inl refl
path_cases {tails} {heads} {flows} {a} {c} (on {b = b} p e) = at (path_cases p)
  where
    at : (a ≡ b) ⊎ First tails heads flows a b → (a ≡ c) ⊎ First tails heads flows a c
    at (inl q) = inr (record { next = c; edge = rw q e; rest = here })
    at (inr f) = inr (record { next = f.next; edge = f.edge; rest = on f.rest e })

-- the vertices that the edges leave
abbrev starts : List ℕ → List ℕ → List ℕ
starts tails [] = []
starts tails (e ∷ es) = get_or tails e 0 ∷ starts tails es

starts_length : (tails es : List ℕ) → length (starts tails es) ≡ length es
starts_length tails [] = refl
starts_length tails (e ∷ es) = ap suc (starts_length tails es)

starts_has : (tails : List ℕ) (e : ℕ) (es : List ℕ) → has e es ≡ true → has (get_or tails e 0) (starts tails es) ≡ true
starts_has tails e [] h = absurd (has_nothing e h)
starts_has tails e (d ∷ es) h = at (has_cases e d es h) (λ g. starts_has tails e es g)
  where
    at : (e ≡ d) ⊎ (has e es ≡ true) → (has e es ≡ true → has (get_or tails e 0) (starts tails es) ≡ true)
        → has (get_or tails e 0) (starts tails (d ∷ es)) ≡ true
    at (inl q) ih = has_here (get_or tails e 0) (get_or tails d 0) (starts tails es) (ap (λ x. get_or tails x 0) q)
    at (inr g) ih = has_later (get_or tails e 0) (get_or tails d 0) (starts tails es) (ih g)

-- edges that leave distinct vertices are distinct
starts_distinct : (tails es : List ℕ) → Distinct (starts tails es) → Distinct es
starts_distinct tails [] d = tt
starts_distinct tails (e ∷ es) d = (at (known (has e es)), starts_distinct tails es d.1)
  where
    at : Known (has e es) → has e es ≡ false
    at (was_true t) = absurd (true≢false (sym (starts_has tails e es t) ∙ d.0))
    at (was_false t) = t

-- where v was left, the walk since then; else v is new
since_trail : (tails heads : List ℕ) {a c : ℕ} (v : ℕ) (es : List ℕ) → Trail heads tails a (downs es) c → since tails v es < length es
    → Trail heads tails a (downs (take (suc (since tails v es)) es)) v
unfolding since
since_trail tails heads v [] t h = absurd (not-suc-le-zero h)
since_trail tails heads {a} v (e ∷ es) (go s p t) h = at (known (eqb (get_or tails e 0) v)) (λ g. since_trail tails heads v es t g)
  where
    at : Known (eqb (get_or tails e 0) v) → (since tails v es < length es → Trail heads tails (get_or tails e 0) (downs (take (suc (since tails v es)) es)) v)
        → Trail heads tails a (downs (take (suc (since tails v (e ∷ es))) (e ∷ es))) v
    at (was_true q) ih = rw (q, since) (let end : Trail heads tails (get_or tails e 0) [] v = rw (eqb-true (get_or tails e 0) v q) stay in go (down e) p end)
    at (was_false q) ih = rw (q, since) (go (down e) p (ih (le_of_suc-le-suc (rw (q, since) at h))))

since_new : (tails : List ℕ) (v : ℕ) (es : List ℕ) → length es ≤ since tails v es → has v (starts tails es) ≡ false
unfolding since has
since_new tails v [] h = refl
since_new tails v (e ∷ es) h = at (known (eqb (get_or tails e 0) v)) (λ g. since_new tails v es g)
  where
    at : Known (eqb (get_or tails e 0) v) → (length es ≤ since tails v es → has v (starts tails es) ≡ false) → has v (starts tails (e ∷ es)) ≡ false
    at (was_true q) ih = absurd (not-suc-le-zero (rw (q, since) at h))
    at (was_false q) ih =
        both_missed v (get_or tails e 0) (starts tails es) (λ p. eqb-false (get_or tails e 0) v q (sym p)) (ih (le_of_suc-le-suc (rw (q, since) at h)))

-- an edge that leads on from v into the set s
record Lead (tails heads flows : List ℕ) (s : List Bool) (v e : ℕ) : Type 0 where
  inside : e < length flows
  above : 0 < get_or flows e 0
  start : get_or tails e 0 ≡ v
  into : get_or s (get_or heads e 0) false ≡ true

module _ (tails heads flows : List ℕ) (s : List Bool) (v : ℕ) where
  leads_so : (e : ℕ) → e < length flows → leads tails heads flows s v e ≡ true → Lead tails heads flows s v e
  unfolding leads
  leads_so e i h =
      let up = ltb 0 (get_or flows e 0) in
      let from = eqb (get_or tails e 0) v in
      let to = get_or s (get_or heads e 0) false in
      let later = both_right up (both from to) h in
      record {
        inside = i;
        above = ltb-true 0 (get_or flows e 0) (both_left up (both from to) h);
        start = eqb-true (get_or tails e 0) v (both_left from to later);
        into = both_right from to later;
      }

  so_leads : {e : ℕ} → Lead tails heads flows s v e → leads tails heads flows s v e ≡ true
  unfolding leads
  so_leads {e} l = both_true (ltb 0 (get_or flows e 0)) (both (eqb (get_or tails e 0) v) (get_or s (get_or heads e 0) false)) (lt-ltb 0 (get_or flows e 0) l.above)
      (both_true (eqb (get_or tails e 0) v) (get_or s (get_or heads e 0) false) (eq-eqb (get_or tails e 0) v l.start) l.into)

  onward_lead : onward tails heads flows s v < length flows → Lead tails heads flows s v (onward tails heads flows s v)
  unfolding onward
  onward_lead h = leads_so (onward tails heads flows s v) h ((lowest_least (leads tails heads flows s v) 0 (length flows)).hit (rw zero-add h))

  onward_inside : {e : ℕ} → Lead tails heads flows s v e → onward tails heads flows s v < length flows
  unfolding onward
  onward_inside {e} l = omega (arith, lowest_found (leads tails heads flows s v) 0 (length flows) e (omega arith) (so_leads l))

-- what it means that v is on a cycle
module _ (tails heads flows : List ℕ) (n v : ℕ) where
  pub on_cycle_first : on_cycle tails heads n flows v ≡ true → First tails heads flows v v
  unfolding on_cycle
  on_cycle_first h =
      let s = reached heads tails flows n v in
      let l = onward_lead tails heads flows s v (ltb-true (onward tails heads flows s v) (length flows) h) in
      let e = onward tails heads flows s v in
      record {
        next = get_or heads e 0;
        edge = record { edge = e; inside = l.inside; start = l.start; end = refl; above = l.above };
        rest = reaching_sound tails heads flows n v (get_or heads e 0) l.into;
      }

  first_lead : {u : ℕ} → EndsBelow tails heads flows n → v < n → First tails heads flows u v
      → onward tails heads flows (reached heads tails flows n v) u < length flows
  first_lead {u} w b f =
      let p = f.edge in
      let into : get_or (reached heads tails flows n v) (get_or heads p.edge 0) false ≡ true =
      rw p.end (reaching_complete tails heads flows n v f.next w b f.rest) in
      onward_inside tails heads flows (reached heads tails flows n v) u {e = p.edge} (record { inside = p.inside; above = p.above; start = p.start; into = into })

  pub first_on_cycle : EndsBelow tails heads flows n → v < n → First tails heads flows v v → on_cycle tails heads n flows v ≡ true
  unfolding on_cycle
  first_on_cycle w b f = lt-ltb (onward tails heads flows (reached heads tails flows n v) v) (length flows) (first_lead w b f)

-- the walk from r, at v after the edges es, with k edges left
module _ (tails heads flows : List ℕ) (n r : ℕ) (inside : EndsBelow tails heads flows n) (below : r < n) (cyclic : on_cycle tails heads n flows r ≡ true) where
  abbrev back : List Bool
  back = reached heads tails flows n r

  record Going (k : ℕ) (es : List ℕ) (v : ℕ) : Type 0 where
    trail : Trail heads tails v (downs es) r
    distinct : Distinct (starts tails es)
    low : Below n (starts tails es)
    new : has v (starts tails es) ≡ false
    there : v < n
    returns : get_or back v false ≡ true
    edge : (e : ℕ) → has e es ≡ true → e < length flows
    positive : (e : ℕ) → has e es ≡ true → 0 < get_or flows e 0
    fuel : k + length es ≡ n

  -- an edge leads on
  never_stuck : (v : ℕ) → get_or back v false ≡ true → Lead tails heads flows back v (onward tails heads flows back v)
  never_stuck v h = onward_lead tails heads flows back v (at (path_cases (reaching_sound tails heads flows n r v h)))
    where
      at : (v ≡ r) ⊎ First tails heads flows v r → onward tails heads flows back v < length flows
      at (inl q) = rw q (first_lead tails heads flows n r inside below (on_cycle_first tails heads flows n r cyclic))
      at (inr f) = first_lead tails heads flows n r inside below f

  -- one edge more
  module _ (k : ℕ) (es : List ℕ) (v : ℕ) (g : Going (suc k) es v) where
    abbrev e : ℕ
    e = onward tails heads flows back v

    l : Lead tails heads flows back v e
    l = never_stuck v g.returns

    longer : Trail heads tails (get_or heads e 0) (downs (e ∷ es)) r
    longer = let before : Trail heads tails (get_or tails e 0) (downs es) r = rw l.start g.trail in go (down e) refl before

    longer_distinct : Distinct (starts tails (e ∷ es))
    longer_distinct = (rw l.start g.new, g.distinct)

    longer_edge : (d : ℕ) → has d (e ∷ es) ≡ true → d < length flows
    longer_edge d h = at (has_cases d e es h)
      where
        at : (d ≡ e) ⊎ (has d es ≡ true) → d < length flows
        at (inl q) = rw q l.inside
        at (inr i) = g.edge d i

    longer_positive : (d : ℕ) → has d (e ∷ es) ≡ true → 0 < get_or flows d 0
    longer_positive d h = at (has_cases d e es h)
      where
        at : (d ≡ e) ⊎ (has d es ≡ true) → 0 < get_or flows d 0
        at (inl q) = rw q l.above
        at (inr i) = g.positive d i

    -- its head was left before: the edges since then are a cycle
    closes : since tails (get_or heads e 0) (e ∷ es) < suc (length es) → Cycle tails heads flows (take (suc (since tails (get_or heads e 0) (e ∷ es))) (e ∷ es))
    closes h =
        let j = since tails (get_or heads e 0) (e ∷ es) in
        record {
          vertex = get_or heads e 0;
          trail = since_trail tails heads (get_or heads e 0) (e ∷ es) longer h;
          some = omega arith;
          edge = λ d i. longer_edge d (has-take (suc j) d (e ∷ es) i);
          positive = λ d i. longer_positive d (has-take (suc j) d (e ∷ es) i);
          distinct = distinct_take (suc j) (e ∷ es) (starts_distinct tails (e ∷ es) longer_distinct);
        }

    -- its head is new: the walk goes on
    goes_on : suc (length es) ≤ since tails (get_or heads e 0) (e ∷ es) → Going k (e ∷ es) (get_or heads e 0)
    goes_on h = record {
      trail = longer;
      distinct = longer_distinct;
      low = (inside.start e l.inside, g.low);
      new = since_new tails (get_or heads e 0) (e ∷ es) h;
      there = inside.end e l.inside;
      returns = l.into;
      edge = longer_edge;
      positive = longer_positive;
      fuel = omega (arith, g.fuel);
    }

    either : (Going k (e ∷ es) (get_or heads e 0) → Cycle tails heads flows (follow tails heads flows back k (e ∷ es) (get_or heads e 0)))
        → Cycle tails heads flows (follow tails heads flows back (suc k) es v)
    unfolding follow
    either later = at (known (ltb (since tails (get_or heads e 0) (e ∷ es)) (suc (length es))))
      where
        at : Known (ltb (since tails (get_or heads e 0) (e ∷ es)) (suc (length es))) → Cycle tails heads flows (follow tails heads flows back (suc k) es v)
        at (was_true t) = rw (t, follow) (closes (ltb-true (since tails (get_or heads e 0) (e ∷ es)) (suc (length es)) t))
        at (was_false t) = rw (t, follow) (later (goes_on (ltb-false (since tails (get_or heads e 0) (e ∷ es)) (suc (length es)) t)))

  follow_cycle : (k : ℕ) (es : List ℕ) (v : ℕ) → Going k es v → Cycle tails heads flows (follow tails heads flows back k es v)
  unfolding follow
  follow_cycle zero es v g = absurd (omega (arith, pigeon n (v ∷ starts tails es) (g.new, g.distinct) (g.there, g.low), starts_length tails es, g.fuel))
  follow_cycle (suc k) es v g = either k es v g (λ h. follow_cycle k (e k es v g ∷ es) (get_or heads (e k es v g) 0) h)

  start : Going n [] r
  unfolding has
  start = record {
    trail = stay;
    distinct = tt;
    low = tt;
    new = refl;
    there = below;
    returns = reaching_complete tails heads flows n r r inside below here;
    edge = λ d h. absurd (has_nothing d h);
    positive = λ d h. absurd (has_nothing d h);
    fuel = add-zero n;
  }

  walked : Cycle tails heads flows (cycle_from tails heads n flows r)
  unfolding cycle_from
  walked = follow_cycle n [] r start

pub cycle_found : (tails heads flows : List ℕ) (n v : ℕ) → EndsBelow tails heads flows n → v < n → on_cycle tails heads n flows v ≡ true
    → Cycle tails heads flows (cycle_from tails heads n flows v)
cycle_found tails heads flows n v w b c = walked tails heads flows n v w b c
