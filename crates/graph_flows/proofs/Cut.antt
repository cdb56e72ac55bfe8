-- In a balanced flow whose positive edges lead up in rank, no edge carries more than the terminals need together. Take the vertices of at least the rank
-- of the edge's head. What enters them is what leaves them and what is needed at them. Every positive edge that leaves one of them enters one of them,
-- and the edge itself enters one without leaving one, so its flow is part of what is needed.
use mathlib.Core.Path.{◌≡◌, refl, sym, ap, ◌∙◌}
use mathlib.Core.Bool.{Bool, true, false}
use mathlib.Core.Logic.{◌⊎◌, inl, inr, ◌≢◌}
use mathlib.Core.List.{List, [], ◌∷◌}
use Prim.Native.Nat.{ℕ, zero, suc, ◌+◌, ◌*◌, ◌≤◌, ◌<◌}
use native.Mathlib.Nat.{suc-mul}
use native.Mathlib.Omega.{arith}
use lib.Dec.{leb}
use lib.ListN.{length, get_or, get_or-eq_default}
use borrow.Author.Tests.{leb-true, le-leb, lt-leb}
use Rattle.lists.specs.Choice.{pick}
use Rattle.lists.specs.Lists.{total, keyed, sum_at}
use Rattle.lists.proofs.Totals.{total_same, total-none, total_add, total_one}
use Rattle.lists.proofs.Laws.{Known, was_true, was_false, known, lt_or_ge, above_inside, pick_yes, pick_no}
use Rattle.graph_flows.specs.Paths.{PositiveEdge, EndsBelow}
use Rattle.graph_flows.proofs.Sums.{keyed_cases}

-- the sum of the values whose key has p
unfoldable pub sum_of : (ℕ → Bool) → List ℕ → List ℕ → ℕ
sum_of p [] xs = 0
sum_of p (k ∷ ks) [] = 0
sum_of p (k ∷ ks) (x ∷ xs) = pick (p k) x 0 + sum_of p ks xs

-- the values whose key has p, summed by vertex
module _ (p : ℕ → Bool) where
  abbrev at : (ℕ → ℕ) → ℕ → ℕ
  at f v = pick (p v) (f v) 0

  at_add : (f g : ℕ → ℕ) (v : ℕ) → at (λ u. f u + g u) v ≡ at f v + at g v
  at_add f g v = go (known (p v))
    where
      go : Known (p v) → at (λ u. f u + g u) v ≡ at f v + at g v
      go (was_true t) = omega (arith, pick_yes {A = ℕ} (p v) (f v + g v) 0 t, pick_yes {A = ℕ} (p v) (f v) 0 t, pick_yes {A = ℕ} (p v) (g v) 0 t)
      go (was_false t) = omega (arith, pick_no {A = ℕ} (p v) (f v + g v) 0 t, pick_no {A = ℕ} (p v) (f v) 0 t, pick_no {A = ℕ} (p v) (g v) 0 t)

  at_zero : (f : ℕ → ℕ) (v : ℕ) → f v ≡ 0 → at f v ≡ 0
  at_zero f v z = go (known (p v))
    where
      go : Known (p v) → at f v ≡ 0
      go (was_true t) = pick_yes {A = ℕ} (p v) (f v) 0 t ∙ z
      go (was_false t) = pick_no {A = ℕ} (p v) (f v) 0 t

  at_same : (f g : ℕ → ℕ) (v : ℕ) → (p v ≡ true → f v ≡ g v) → at f v ≡ at g v
  at_same f g v e = go (known (p v))
    where
      go : Known (p v) → at f v ≡ at g v
      go (was_true t) = pick_yes {A = ℕ} (p v) (f v) 0 t ∙ e t ∙ sym (pick_yes {A = ℕ} (p v) (g v) 0 t)
      go (was_false t) = pick_no {A = ℕ} (p v) (f v) 0 t ∙ sym (pick_no {A = ℕ} (p v) (g v) 0 t)

  by_vertex : (ks xs : List ℕ) (n : ℕ) → ((i : ℕ) → i < length xs → get_or ks i 0 < n) → total (at (sum_at ks xs)) 0 n ≡ sum_of p ks xs
  unfolding sum_at sum_of
  by_vertex [] xs n b = total-none _ 0 n (λ v h g. at_zero (sum_at [] xs) v refl)
  by_vertex (k ∷ ks) [] n b = total-none _ 0 n (λ v h g. at_zero (sum_at (k ∷ ks) []) v refl)
  by_vertex (k ∷ ks) (x ∷ xs) n b =
      let split : total (at (sum_at (k ∷ ks) (x ∷ xs))) 0 n ≡ total (λ v. at (λ u. keyed k u x) v + at (sum_at ks xs) v) 0 n =
      total_same _ _ 0 n (λ v h g. at_add (λ u. keyed k u x) (sum_at ks xs) v) in
      let sums = total_add (at (λ u. keyed k u x)) (at (sum_at ks xs)) 0 n in
      let first : total (at (λ u. keyed k u x)) 0 n ≡ at (λ u. keyed k u x) k =
      total_one (at (λ u. keyed k u x)) 0 n k (omega arith) (omega (arith, b 0 (omega arith))) (λ v d. at_zero (λ u. keyed k u x) v (other v d)) in
      let here : at (λ u. keyed k u x) k ≡ pick (p k) x 0 = at_same (λ u. keyed k u x) (λ u. x) k (λ t. same) in
      omega (arith, by_vertex ks xs n (λ i h. b (suc i) (omega arith)))
    where
      other : (v : ℕ) → v ≢ k → keyed k v x ≡ 0
      other v d = go (keyed_cases k v x)
        where
          go : ((k ≡ v) × (keyed k v x ≡ x)) ⊎ ((k ≢ v) × (keyed k v x ≡ 0)) → keyed k v x ≡ 0
          go (inl q) = absurd (d (sym q.0))
          go (inr q) = q.1

      same : keyed k k x ≡ x
      same = go (keyed_cases k k x)
        where
          go : ((k ≡ k) × (keyed k k x ≡ x)) ⊎ ((k ≢ k) × (keyed k k x ≡ 0)) → keyed k k x ≡ x
          go (inl q) = q.1
          go (inr q) = absurd (q.0 refl)

  -- where every positive edge that leaves a vertex with p enters one, what leaves is at most what enters
  abbrev Leads : List ℕ → List ℕ → List ℕ → Type 0
  Leads ts hs xs = (g : ℕ) → 0 < get_or xs g 0 → p (get_or ts g 0) ≡ true → p (get_or hs g 0) ≡ true

  one_le : (t h x : ℕ) (ts hs xs : List ℕ) → Leads (t ∷ ts) (h ∷ hs) (x ∷ xs) → pick (p t) x 0 ≤ pick (p h) x 0
  one_le t h zero ts hs xs l = go (known (p t))
    where
      go : Known (p t) → pick (p t) 0 0 ≤ pick (p h) 0 0
      go (was_true c) = omega (arith, pick_yes {A = ℕ} (p t) 0 0 c)
      go (was_false c) = omega (arith, pick_no {A = ℕ} (p t) 0 0 c)
  one_le t h (suc x) ts hs xs l = go (known (p t))
    where
      go : Known (p t) → pick (p t) (suc x) 0 ≤ pick (p h) (suc x) 0
      go (was_true c) = omega (arith, pick_yes {A = ℕ} (p t) (suc x) 0 c, pick_yes {A = ℕ} (p h) (suc x) 0 (l 0 (omega arith) c))
      go (was_false c) = omega (arith, pick_no {A = ℕ} (p t) (suc x) 0 c)

  all_le : (ts hs xs : List ℕ) → length ts ≡ length xs → length hs ≡ length xs → Leads ts hs xs → sum_of p ts xs ≤ sum_of p hs xs
  unfolding sum_of
  all_le [] hs xs a b l = omega arith
  all_le (t ∷ ts) hs [] a b l = absurd (omega arith)
  all_le (t ∷ ts) [] (x ∷ xs) a b l = absurd (omega arith)
  all_le (t ∷ ts) (h ∷ hs) (x ∷ xs) a b l = omega (arith, one_le t h x ts hs xs l, all_le ts hs xs (omega arith) (omega arith) (λ g. l (suc g)))

  -- and an edge that enters one without leaving one is part of the difference
  edge_le : (ts hs xs : List ℕ) (e : ℕ) → length ts ≡ length xs → length hs ≡ length xs → Leads ts hs xs → p (get_or ts e 0) ≡ false → p (get_or hs e 0) ≡ true
      → sum_of p ts xs + get_or xs e 0 ≤ sum_of p hs xs
  unfolding sum_of
  edge_le ts hs [] e a b l f t = omega (arith, all_le ts hs [] a b l)
  edge_le [] hs (x ∷ xs) e a b l f t = absurd (omega arith)
  edge_le (t' ∷ ts) [] (x ∷ xs) e a b l f t = absurd (omega arith)
  edge_le (t' ∷ ts) (h ∷ hs) (x ∷ xs) zero a b l f t =
      omega (arith, pick_no {A = ℕ} (p t') x 0 f, pick_yes {A = ℕ} (p h) x 0 t, all_le ts hs xs (omega arith) (omega arith) (λ g. l (suc g)))
  edge_le (t' ∷ ts) (h ∷ hs) (x ∷ xs) (suc e) a b l f t = omega (arith, one_le t' h x ts hs xs l, edge_le ts hs xs e (omega arith) (omega arith) (λ g. l (suc g)) f t)

-- a sum of values of at most c each
pub sum-most : (p : ℕ → Bool) (ks xs : List ℕ) (c : ℕ) → ((i : ℕ) → get_or xs i 0 ≤ c) → sum_of p ks xs ≤ length xs * c
unfolding sum_of
sum-most p [] xs c b = omega arith
sum-most p (k ∷ ks) [] c b = omega arith
sum-most p (k ∷ ks) (x ∷ xs) c b = go (known (p k)) (sum-most p ks xs c (λ i. b (suc i)))
  where
    go : Known (p k) → sum_of p ks xs ≤ length xs * c → pick (p k) x 0 + sum_of p ks xs ≤ suc (length xs) * c
    go (was_true t) ih = rw (suc-mul (length xs) c) (omega (arith, pick_yes {A = ℕ} (p k) x 0 t, ih, b 0))
    go (was_false t) ih = rw (suc-mul (length xs) c) (omega (arith, pick_no {A = ℕ} (p k) x 0 t, ih))

module _ (tails heads flows places demands : List ℕ) (n source : ℕ) (rank : ℕ → ℕ) (long-tails : length tails ≡ length flows) (long-heads : length heads ≡ length flows)
    (within : EndsBelow tails heads flows n) (placed : (i : ℕ) → i < length demands → get_or places i 0 < n)
    (bottom : rank source ≡ 0) (rises : (a b : ℕ) → PositiveEdge tails heads flows a b → rank a < rank b)
    (balance : (v : ℕ) → v < n → (v ≡ source → ⊥) → sum_at heads flows v ≡ sum_at tails flows v + sum_at places demands v) where
  -- the vertices of rank r or more
  abbrev upper : ℕ → ℕ → Bool
  upper r v = leb r (rank v)

  not_source : (r v : ℕ) → 0 < r → upper r v ≡ true → v ≡ source → ⊥
  not_source r v h t e = let low : rank v ≡ 0 = ap rank e ∙ bottom in omega (arith, leb-true r (rank v) t)

  flux : (r : ℕ) → 0 < r → sum_of (upper r) heads flows ≡ sum_of (upper r) tails flows + sum_of (upper r) places demands
  flux r h =
      let ins = by_vertex (upper r) heads flows n within.end in
      let outs = by_vertex (upper r) tails flows n within.start in
      let needs = by_vertex (upper r) places demands n placed in
      let at_each : total (at (upper r) (sum_at heads flows)) 0 n ≡ total (λ v. at (upper r) (sum_at tails flows) v + at (upper r) (sum_at places demands) v) 0 n =
      total_same _ _ 0 n (λ v a b.
      at_same (upper r) (sum_at heads flows) (λ u. sum_at tails flows u + sum_at places demands u) v (λ t. balance v (omega (arith, b)) (not_source r v h t))
      ∙ at_add (upper r) (sum_at tails flows) (sum_at places demands) v) in
      let split = total_add (at (upper r) (sum_at tails flows)) (at (upper r) (sum_at places demands)) 0 n in
      omega arith

  -- no edge carries more than is needed at the vertices of its head's rank or more
  pub cut : (e : ℕ) → 0 < get_or flows e 0 → e < length flows → get_or flows e 0 ≤ sum_of (upper (rank (get_or heads e 0))) places demands
  cut e pos inside =
      let r = rank (get_or heads e 0) in
      let up : rank (get_or tails e 0) < r = rises _ _ (record { edge = e; inside = inside; start = refl; end = refl; above = pos }) in
      let lead : Leads (upper r) tails heads flows = λ g f t.
      let in_range : g < length flows = above_inside flows g f in
      le-leb r (rank (get_or heads g 0)) (omega (
        arith,
        leb-true r (rank (get_or tails g 0)) t,
        rises _ _ (record { edge = g; inside = in_range; start = refl; end = refl; above = f }),
      )) in
      let part = edge_le (upper r) tails heads flows e long-tails long-heads lead (lt-leb r (rank (get_or tails e 0)) up) (le-leb r r (omega arith)) in
      omega (arith, part, flux r (omega arith))

  pub flow-most : (c : ℕ) → ((i : ℕ) → get_or demands i 0 ≤ c) → (e : ℕ) → get_or flows e 0 ≤ length demands * c
  flow-most c small e = go (lt_or_ge e (length flows)) (lt_or_ge 0 (get_or flows e 0))
    where
      go : (e < length flows) ⊎ (length flows ≤ e) → (0 < get_or flows e 0) ⊎ (get_or flows e 0 ≤ 0) → get_or flows e 0 ≤ length demands * c
      go (inr h) q = omega (arith, get_or-eq_default flows 0 h)
      go (inl h) (inr q) = omega arith
      go (inl h) (inl q) = omega (arith, cut e q h, sum-most (upper (rank (get_or heads e 0))) places demands c small)
