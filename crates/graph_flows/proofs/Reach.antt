-- What `reached` computes is what paths over positive edges reach. Sound: a vertex joins the set only over a positive edge from a vertex that is in
-- it. Complete: a pass that adds no vertex leaves a closed set, and n passes are enough, since the set starts with one vertex of n.
use mathlib.Core.Path.{◌≡◌, refl, ap, sym, ◌∙◌}
use mathlib.Core.Bool.{Bool, true, false, false≢true}
use mathlib.Core.Logic.{◌⊎◌, inl, inr, ◌≢◌}
use mathlib.Core.List.{List, [], ◌∷◌}
use Prim.Native.Nat.{ℕ, zero, suc, ◌+◌, ◌≤◌, ◌<◌}
use native.Mathlib.Omega.{arith}
use lib.Dec.{ltb}
use lib.ListN.{length, get_or, set, replicate, length-set, length-replicate, get_or-replicate, get_or-eq_default}
use lib.Seq.{get_or-set_same, get_or-set_other}
use borrow.Author.Tests.{ltb-true, ltb-false, lt-ltb}
use Rattle.lists.specs.Choice.{pick, both}
use Rattle.lists.proofs.Laws.{Known, was_true, was_false, known, eq_or_ne, pick_yes, pick_no, both_left, both_right, both_true}
use Rattle.graph.specs.Graph.{opens, pass, passes, reached}
use Rattle.graph.proofs.Loops.{passes_still}
use Rattle.graph_flows.specs.Paths.{PositiveEdge, Path, here, on, EndsBelow}

-- ---- paths

pub path_join : {from to flows : List ℕ} {a b c : ℕ} → Path from to flows a b → Path from to flows b c → Path from to flows a c
path_join p here = p
path_join p (on q d) = on (path_join p q) d

-- an edge in front of a path
pub path_first : {from to flows : List ℕ} {a b c : ℕ} → PositiveEdge from to flows a b → Path from to flows b c → Path from to flows a c
path_first d p = path_join (on here d) p

-- against the direction of the edges
pub turned : {from to flows : List ℕ} {a b : ℕ} → PositiveEdge from to flows a b → PositiveEdge to from flows b a
turned d = record { edge = d.edge; inside = d.inside; start = d.end; end = d.start; above = d.above }

pub backward : {from to flows : List ℕ} {a b : ℕ} → Path from to flows a b → Path to from flows b a
backward here = here
backward (on p d) = path_first (turned d) (backward p)

pub turned_within : {from to flows : List ℕ} {n : ℕ} → EndsBelow from to flows n → EndsBelow to from flows n
turned_within w = record { start = w.end; end = w.start }

-- ---- how many members a set has; a set grows, or is the same

unfoldable members : List Bool → ℕ
members [] = 0
members (true ∷ s) = suc (members s)
members (false ∷ s) = members s

members_le : (s : List Bool) → members s ≤ length s
unfolding members
members_le [] = omega arith
members_le (true ∷ s) = omega (arith, members_le s)
members_le (false ∷ s) = omega (arith, members_le s)

members_some : (s : List Bool) (v : ℕ) → v < length s → 0 < members (set s v true)
unfolding members
members_some [] v h = absurd (omega arith)
members_some (b ∷ s) zero h = omega arith
members_some (true ∷ s) (suc v) h = omega arith
members_some (false ∷ s) (suc v) h = members_some s v (omega arith)

record Grown (s r : List Bool) : Type 0 where
  long : length r ≡ length s
  more : members s ≤ members r
  same : members r ≡ members s → r ≡ s
  still_in : (u : ℕ) → get_or s u false ≡ true → get_or r u false ≡ true

grown_refl : (s : List Bool) → Grown s s
grown_refl s = record { long = refl; more = omega arith; same = λ e. refl; still_in = λ u m. m }

grown_trans : {a b c : List Bool} → Grown a b → Grown b c → Grown a c
grown_trans p q = record {
  long = q.long ∙ p.long;
  more = omega arith;
  same = λ e. q.same (omega (arith, p.more, q.more)) ∙ p.same (omega (arith, p.more, q.more));
  still_in = λ u m. q.still_in u (p.still_in u m);
}

set_keeps : (s : List Bool) (v u : ℕ) → get_or s u false ≡ true → get_or (set s v true) u false ≡ true
set_keeps [] v u m = m
set_keeps (b ∷ s) zero zero m = refl
set_keeps (b ∷ s) zero (suc u) m = m
set_keeps (b ∷ s) (suc v) zero m = m
set_keeps (b ∷ s) (suc v) (suc u) m = set_keeps s v u m

set_more : (s : List Bool) (v : ℕ) → members s ≤ members (set s v true)
unfolding members
set_more [] v = omega arith
set_more (true ∷ s) zero = omega arith
set_more (false ∷ s) zero = omega arith
set_more (true ∷ s) (suc v) = omega (arith, set_more s v)
set_more (false ∷ s) (suc v) = set_more s v

set_same : (s : List Bool) (v : ℕ) → members (set s v true) ≡ members s → set s v true ≡ s
unfolding members
set_same [] v e = refl
set_same (true ∷ s) zero e = refl
set_same (false ∷ s) zero e = absurd (omega arith)
set_same (true ∷ s) (suc v) e = ap (λ (l : List Bool). true ∷ l) (set_same s v (omega arith))
set_same (false ∷ s) (suc v) e = ap (λ (l : List Bool). false ∷ l) (set_same s v e)

set_grown : (s : List Bool) (v : ℕ) → Grown s (set s v true)
set_grown s v = record { long = length-set s v true; more = set_more s v; same = set_same s v; still_in = set_keeps s v }

pick-grown : (t : Bool) (v : ℕ) (s : List Bool) → Grown s (pick t (set s v true) s)
unfolding pick
pick-grown true v s = set_grown s v
pick-grown false v s = grown_refl s

-- the set that the passes start from has v alone
start_alone : (n v u : ℕ) → get_or (set (replicate n false) v true) u false ≡ true → u ≡ v
start_alone n v u h = go (eq_or_ne u v) (known (ltb u n))
  where
    go : (u ≡ v) ⊎ (u ≢ v) → Known (ltb u n) → u ≡ v
    go (inl e) k = e
    go (inr d) (was_true k) = absurd (false≢true (
        sym (get_or-replicate n u false false (ltb-true u n k)) ∙ sym (get_or-set_other (replicate n false) v u true false d) ∙ h))
    go (inr d) (was_false k) =
        let out : length (replicate n false) ≤ u = omega (arith, length-replicate n false, ltb-false u n k) in
        absurd (false≢true (sym (get_or-eq_default (replicate n false) false out) ∙ sym (get_or-set_other (replicate n false) v u true false d) ∙ h))

module _ (from to flows : List ℕ) where
  -- the set after edge e
  abbrev step : ℕ → List Bool → List Bool
  step e s = pick (opens from flows s e) (set s (get_or to e 0) true) s

  -- ---- sound: whatever holds of the first members and passes on along positive edges holds of all members

  module _ (P : ℕ → Type 0) (along : (a b : ℕ) → PositiveEdge from to flows a b → P a → P b) where
    abbrev Only : List Bool → Type 0
    Only s = (u : ℕ) → get_or s u false ≡ true → P u

    step_only : (e : ℕ) (s : List Bool) → e < length flows → Only s → Only (step e s)
    unfolding opens
    step_only e s h w u q = go (known (opens from flows s e)) (eq_or_ne u (get_or to e 0))
      where
        flow : Bool
        flow = ltb 0 (get_or flows e 0)

        member : Bool
        member = get_or s (get_or from e 0) false

        edge_e : both flow member ≡ true → PositiveEdge from to flows (get_or from e 0) (get_or to e 0)
        edge_e t = record { edge = e; inside = h; start = refl; end = refl; above = ltb-true 0 (get_or flows e 0) (both_left flow member t) }

        go : Known (opens from flows s e) → (u ≡ get_or to e 0) ⊎ (u ≢ get_or to e 0) → P u
        go (was_false t) c = w u (rw (pick_no (opens from flows s e) (set s (get_or to e 0) true) s t) at q)
        go (was_true t) (inl c) = rw c (along (get_or from e 0) (get_or to e 0) (edge_e t) (w (get_or from e 0) (both_right flow member t)))
        go (was_true t) (inr c) =
            w u (sym (get_or-set_other s (get_or to e 0) u true false c) ∙ rw (pick_yes (opens from flows s e) (set s (get_or to e 0) true) s t) at q)

    pass_only : (e k : ℕ) (s : List Bool) → e + k ≤ length flows → Only s → Only (pass from to flows e k s)
    unfolding pass
    pass_only e zero s h w = w
    pass_only e (suc k) s h w = pass_only (suc e) k (step e s) (omega arith) (step_only e s (omega arith) w)

    passes_only : (k : ℕ) (s : List Bool) → Only s → Only (passes from to flows k s)
    unfolding passes
    passes_only zero s w = w
    passes_only (suc k) s w = passes_only k (pass from to flows 0 (length flows) s) (pass_only 0 (length flows) s (omega arith) w)

  -- ---- complete: a pass that adds nothing leaves a closed set

  pass_grown : (e k : ℕ) (s : List Bool) → Grown s (pass from to flows e k s)
  unfolding pass
  pass_grown e zero s = grown_refl s
  pass_grown e (suc k) s = grown_trans (pick-grown (opens from flows s e) (get_or to e 0) s) (pass_grown (suc e) k (step e s))

  passes_grown : (k : ℕ) (s : List Bool) → Grown s (passes from to flows k s)
  unfolding passes
  passes_grown zero s = grown_refl s
  passes_grown (suc k) s = grown_trans (pass_grown 0 (length flows) s) (passes_grown k (pass from to flows 0 (length flows) s))

  -- edge j adds nothing
  abbrev Shut : List Bool → ℕ → Type 0
  Shut s j = 0 < get_or flows j 0 → get_or to j 0 < length s → get_or s (get_or from j 0) false ≡ true → get_or s (get_or to j 0) false ≡ true

  stable_shut : (e k j : ℕ) (s : List Bool) → members (pass from to flows e k s) ≡ members s → e ≤ j → j < e + k → Shut s j
  unfolding pass opens
  stable_shut e zero j s c h g = absurd (omega arith)
  stable_shut e (suc k) j s c h g = go (eq_or_ne e j) (λ q l. stable_shut (suc e) k j s q l (omega arith))
    where
      one : Grown s (step e s)
      one = pick-grown (opens from flows s e) (get_or to e 0) s

      rest : Grown (step e s) (pass from to flows (suc e) k (step e s))
      rest = pass_grown (suc e) k (step e s)

      still : step e s ≡ s
      still = one.same (omega (arith, c, one.more, rest.more))

      go : (e ≡ j) ⊎ (e ≢ j) → (members (pass from to flows (suc e) k s) ≡ members s → suc e ≤ j → Shut s j) → Shut s j
      go (inr d) ih = ih (rw still at c) (omega arith)
      go (inl d) ih = rw (← d) (λ f l m.
          let t : opens from flows s e ≡ true =
          both_true (ltb 0 (get_or flows e 0)) (get_or s (get_or from e 0) false) (lt-ltb 0 (get_or flows e 0) f) m in
          let put : set s (get_or to e 0) true ≡ s = sym (pick_yes (opens from flows s e) (set s (get_or to e 0) true) s t) ∙ still in
          ap (λ (r : List Bool). get_or r (get_or to e 0) false) (sym put) ∙ get_or-set_same s (get_or to e 0) true false l)

  -- after k passes the set is stable, or has k members more
  abbrev Stable : List Bool → Type 0
  Stable s = members (pass from to flows 0 (length flows) s) ≡ members s

  stages : (k : ℕ) (s : List Bool) → Stable (passes from to flows k s) ⊎ (members s + k ≤ members (passes from to flows k s))
  unfolding passes
  stages zero s = inr (omega arith)
  stages (suc k) s = go (stages k r) (eq_or_ne (members r) (members s))
    where
      r : List Bool
      r = pass from to flows 0 (length flows) s

      g : Grown s r
      g = pass_grown 0 (length flows) s

      go : Stable (passes from to flows k r) ⊎ (members r + k ≤ members (passes from to flows k r))
          → (members r ≡ members s) ⊎ (members r ≢ members s)
          → Stable (passes from to flows k r) ⊎ (members s + suc k ≤ members (passes from to flows k r))
      go (inl e) q = inl e
      go (inr e) (inr d) = inr (omega (arith, g.more))
      go (inr e) (inl q) = let z : r ≡ s = g.same q in inl (rw (z, passes_still from to flows k s z) q)

  pub reached_length : (n v : ℕ) → length (reached from to flows n v) ≡ n
  unfolding reached
  reached_length n v =
      (passes_grown n (set (replicate n false) v true)).long ∙ length-set (replicate n false) v true ∙ length-replicate n false

  pub reached_sound : (n v u : ℕ) → get_or (reached from to flows n v) u false ≡ true → Path from to flows v u
  unfolding reached
  reached_sound n v =
      passes_only (λ u. Path from to flows v u) (λ a b d p. on p d) n (set (replicate n false) v true) (λ u q. rw (start_alone n v u q) here)

  -- so n passes from one vertex of n close the set
  reached_closed : (n v a b : ℕ) → EndsBelow from to flows n → v < n → PositiveEdge from to flows a b
      → get_or (reached from to flows n v) a false ≡ true → get_or (reached from to flows n v) b false ≡ true
  unfolding reached
  reached_closed n v a b w h d m = go (stages n s)
    where
      s : List Bool
      s = set (replicate n false) v true

      r : List Bool
      r = passes from to flows n s

      long : length r ≡ n
      long = reached_length n v

      some : 0 < members s
      some = members_some (replicate n false) v (omega (arith, length-replicate n false))

      go : Stable r ⊎ (members s + n ≤ members r) → get_or r b false ≡ true
      go (inr e) = absurd (omega (arith, e, some, long, members_le r))
      go (inl e) =
          let l : get_or to d.edge 0 < length r = omega (arith, long, w.end d.edge d.inside) in
          rw (← d.end) (stable_shut 0 (length flows) d.edge r e (omega arith) (omega arith) d.above l (rw (← d.start) at m))

  pub reached_complete : (n v u : ℕ) → EndsBelow from to flows n → v < n → Path from to flows v u → get_or (reached from to flows n v) u false ≡ true
  unfolding reached
  reached_complete n v u w h here =
      (passes_grown n s).still_in v (get_or-set_same (replicate n false) v true false (omega (arith, length-replicate n false)))
    where
      s : List Bool
      s = set (replicate n false) v true
  reached_complete n v u w h (on {b = b} p d) = reached_closed n v b u w h d (reached_complete n v b w h p)

-- ---- the vertices that reach v: those that v reaches against the direction of the edges

pub reaching_sound : (tails heads flows : List ℕ) (n v u : ℕ) → get_or (reached heads tails flows n v) u false ≡ true → Path tails heads flows u v
reaching_sound tails heads flows n v u m = backward (reached_sound heads tails flows n v u m)

pub reaching_complete : (tails heads flows : List ℕ) (n v u : ℕ) → EndsBelow tails heads flows n → v < n → Path tails heads flows u v
    → get_or (reached heads tails flows n v) u false ≡ true
reaching_complete tails heads flows n v u w h p = reached_complete heads tails flows n v u (turned_within w) h (backward p)
