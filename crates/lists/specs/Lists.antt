-- What loops over lists compute.
use Rattle.std.specs.Prelude.{Bool, true, false, List, [], ◌∷◌, ℕ, zero, suc, ◌+◌, ltb, eqb}
use Rattle.lists.specs.Choice.{pick}

-- how many elements stand before the first b: all of them where there is none
unfoldable pub index_of : ℕ → List ℕ → ℕ
index_of b [] = 0
index_of b (x ∷ xs) = elim (eqb x b) [ true ↦ 0 | false ↦ suc (index_of b xs) ]

-- whether each of i, i + 1, .., i + k - 1 has p
unfoldable pub all : (ℕ → Bool) → ℕ → ℕ → Bool
all p i zero = true
all p i (suc k) = elim (p i) [ true ↦ all p (suc i) k | false ↦ false ]

-- x where the key is v, else 0
unfoldable pub keyed : ℕ → ℕ → ℕ → ℕ
keyed k v x = elim (eqb k v) [ true ↦ x | false ↦ 0 ]

-- the sum of the values whose key is v
unfoldable pub sum_at : List ℕ → List ℕ → ℕ → ℕ
sum_at [] xs v = 0
sum_at (k ∷ ks) [] v = 0
sum_at (k ∷ ks) (x ∷ xs) v = keyed k v x + sum_at ks xs v

-- the lowest of i, i + 1, .., i + k - 1 that has p; i + k where none has
unfoldable pub lowest : (ℕ → Bool) → ℕ → ℕ → ℕ
lowest p i zero = i
lowest p i (suc k) = elim (p i) [ true ↦ i | false ↦ lowest p (suc i) k ]

-- the sum, and the greatest, of f at i, i + 1, .., i + k - 1; 0 for none
unfoldable pub total : (ℕ → ℕ) → ℕ → ℕ → ℕ
total f i zero = 0
total f i (suc k) = f i + total f (suc i) k

unfoldable pub most : (ℕ → ℕ) → ℕ → ℕ → ℕ
most f i zero = 0
most f i (suc k) = pick (ltb (most f (suc i) k) (f i)) (f i) (most f (suc i) k)

-- f at i, i + 1, .., i + k - 1
unfoldable pub tabulated : {A : Type 0} → (ℕ → A) → ℕ → ℕ → List A
tabulated f i zero = []
tabulated f i (suc k) = f i ∷ tabulated f (suc i) k
