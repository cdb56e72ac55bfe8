-- The sums of all keys at once: a value that is added at its key adds, to the sum at each place, what it adds to the sum of that place's key.
-- So after all values the sum at v has grown by `sum_at keys values v`.
use mathlib.Core.Path.{◌≡◌, refl, sym, ap₂, ◌∙◌}
use mathlib.Core.Bool.{Bool}
use mathlib.Core.List.{List, [], ◌∷◌}
use mathlib.Core.Logic.{⊎_elim, ◌≢◌}
use Prim.Native.Nat.{ℕ, zero, suc, ◌+◌, ◌*◌, ◌<◌, ◌≤◌}
use native.Mathlib.Nat.{add-zero}
use native.Mathlib.Omega.{arith}
use lib.Dec.{eqb}
use lib.ListN.{length, get_or, set, replicate, length-replicate}
use lib.Seq.{get_or-set_same, get_or-set_other}
use borrow.Author.Tests.{eq-eqb, ne_eqb}
use Rattle.lists.specs.Choice.{either}
use Rattle.lists.specs.Lists.{all, keyed, sum_at}
use Rattle.lists.proofs.Laws.{eq_or_ne, all_same, zeros_at}
use Rattle.board.specs.Limits.{max_vertices}
use Rattle.board.specs.declared.Network.{Network}
use Rattle.text_rules.specs.Sound.{inflow, outflow, demand_at}
use Rattle.text_rules.specs.Rules.{balanced_in, balanced}

-- a value y added at k
pub stored_keyed : (s : List ℕ) (k y v : ℕ) → v < length s → get_or (set s k (get_or s k 0 + y)) v 0 ≡ get_or s v 0 + keyed k v y
unfolding keyed
stored_keyed s k y v h = ⊎_elim here other (eq_or_ne k v)
  where
    here : k ≡ v → get_or (set s k (get_or s k 0 + y)) v 0 ≡ get_or s v 0 + keyed k v y
    here e = rw (e, eq-eqb v v refl, keyed) (get_or-set_same s v (get_or s v 0 + y) 0 h)

    other : k ≢ v → get_or (set s k (get_or s k 0 + y)) v 0 ≡ get_or s v 0 + keyed k v y
    other n = rw (ne_eqb k v n, keyed) (get_or-set_other s k v (get_or s k 0 + y) 0 (λ e. n (sym e)) ∙ sym (add-zero (get_or s v 0)))

pub stored_most : (s : List ℕ) (k y v : ℕ) → get_or (set s k (get_or s k 0 + y)) v 0 ≤ get_or s v 0 + y
stored_most [] k y v = omega arith
stored_most (x ∷ s) zero y zero = omega arith
stored_most (x ∷ s) zero y (suc v) = omega arith
stored_most (x ∷ s) (suc k) y zero = omega arith
stored_most (x ∷ s) (suc k) y (suc v) = stored_most s k y v

-- one more value, of those that are left
pub keyed_turn : (ks xs s r : List ℕ) (k y v total : ℕ) → r ≡ set s k (get_or s k 0 + y) → v < length s → get_or s v 0 + sum_at (k ∷ ks) (y ∷ xs) v ≡ total
    → get_or r v 0 + sum_at ks xs v ≡ total
unfolding sum_at
keyed_turn ks xs s r k y v total er less inv = rw (er, stored_keyed s k y v less) (omega (arith, inv))

-- no value is left
pub none_left : (ks xs : List ℕ) (v sum total : ℕ) → length ks ≡ 0 → sum + sum_at ks xs v ≡ total → sum ≡ total
unfolding sum_at
none_left [] xs v sum total e inv = omega (arith, inv)
none_left (k ∷ ks) xs v sum total e inv = absurd (omega arith)

-- sums that values were added to once, from nothing, are within the bound
pub nothing_most : (v : ℕ) → get_or (replicate max_vertices 0) v 0 ≤ 4294967296 * 65536
nothing_most v = omega (arith, zeros_at max_vertices v)

pub added_most : (r : List ℕ) → ((v : ℕ) → get_or r v 0 ≤ get_or (replicate max_vertices 0) v 0 + 4294967296 * 65536) → (v : ℕ)
    → get_or r v 0 ≤ 4294967296 * 65536
added_most r h v = omega (arith, h v, zeros_at max_vertices v)

-- the sums of a network's vertices, made from nothing
module _ (net : Network) (n : ℕ) (xs rest ys : List ℕ)
    (enters : (v : ℕ) → v < length {A = ℕ} (replicate n 0) → get_or xs v 0 ≡ get_or (replicate n 0) v 0 + inflow net v)
    (leaves : (v : ℕ) → v < length {A = ℕ} (replicate n 0) → get_or rest v 0 ≡ get_or (replicate n 0) v 0 + outflow net v) (size : length rest ≡ n)
    (needed : (v : ℕ) → v < length rest → get_or ys v 0 ≡ get_or rest v 0 + demand_at net v) (fits : net.vertices ≤ n) where
  abbrev even : ℕ → Bool
  even = balanced_in (λ v. get_or xs v 0) (λ v. get_or ys v 0) net.source

  even_balanced : (v : ℕ) → v < n → even v ≡ balanced net v
  unfolding balanced
  even_balanced v h =
      let less : v < length {A = ℕ} (replicate n 0) = omega (arith, length-replicate {A = ℕ} n 0) in
      let long : v < length rest = omega arith in
      let x : get_or xs v 0 ≡ inflow net v = omega (arith, enters v less, zeros_at n v) in
      let y : get_or ys v 0 ≡ outflow net v + demand_at net v = omega (arith, leaves v less, needed v long, zeros_at n v) in
      ap₂ (λ (a b : ℕ). either (eqb v net.source) (eqb a b)) x y

  pub all-balanced : all even 0 net.vertices ≡ all (balanced net) 0 net.vertices
  all-balanced = all_same _ _ 0 net.vertices (λ v l h. even_balanced v (omega arith))
