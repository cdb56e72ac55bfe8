-- Laws of `tabulated f i k` and of a run of stores, by walking the run. A list of f at the indices has f j at j;
-- storing another value at j gives the list of a function that differs from f at j alone. One store behind a run of
-- stores is the run of one element more.
use mathlib.Core.Path.{◌≡◌, refl, sym, ap, ◌∙◌}
use mathlib.Core.Logic.{◌≢◌}
use mathlib.Core.List.{List, [], ◌∷◌, ◌++◌}
use Prim.Native.Nat.{ℕ, zero, suc, ◌+◌, ◌<◌}
use native.Mathlib.Nat.{zero-add, add-zero}
use native.Mathlib.Omega.{arith}
use lib.ListN.{length, get_or, set}
use lib.Seq.{sets}
use Rattle.lists.specs.Lists.{tabulated}

pub length-tabulated : {A : Type 0} (f : ℕ → A) (i k : ℕ) → length (tabulated f i k) ≡ k
unfolding tabulated
length-tabulated f i zero = refl
length-tabulated f i (suc k) = ap suc (length-tabulated f (suc i) k)

tabulated_at : {A : Type 0} (f : ℕ → A) (i k j : ℕ) (d : A) → j < k → get_or (tabulated f i k) j d ≡ f (i + j)
unfolding tabulated
tabulated_at f i zero j d h = absurd (omega arith)
tabulated_at f i (suc k) zero d h = rw add-zero
tabulated_at f i (suc k) (suc j) d h =
    let s : i + suc j ≡ suc i + j = omega arith in
    rw s (tabulated_at f (suc i) k j d (omega arith))

pub tabulated_from : {A : Type 0} (f : ℕ → A) (k j : ℕ) (d : A) → j < k → get_or (tabulated f 0 k) j d ≡ f j
tabulated_from f k j d h = tabulated_at f 0 k j d h ∙ ap f (zero-add j)

tabulated_same : {A : Type 0} (f g : ℕ → A) (i k : ℕ) → ((m : ℕ) → i < suc m → f m ≡ g m) → tabulated f i k ≡ tabulated g i k
unfolding tabulated
tabulated_same f g i zero e = refl
tabulated_same f g i (suc k) e = rw (e i (omega arith), tabulated_same f g (suc i) k (λ m h. e m (omega arith)))

set_tabulated_at : {A : Type 0} (f g : ℕ → A) (i k j : ℕ) (x : A) → ((m : ℕ) → m ≢ i + j → f m ≡ g m) → x ≡ g (i + j)
    → set (tabulated f i k) j x ≡ tabulated g i k
unfolding tabulated
set_tabulated_at f g i zero j x e q = refl
set_tabulated_at f g i (suc k) zero x e q =
    let first : x ≡ g i = rw add-zero at q in
    rw (first, tabulated_same f g (suc i) k (λ m h. e m (λ z. omega (arith, z))))
set_tabulated_at f g i (suc k) (suc j) x e q =
    let s : i + suc j ≡ suc i + j = omega arith in
    rw (e i (λ z. omega (arith, z)), set_tabulated_at f g (suc i) k j x (λ m n. e m (λ z. n (z ∙ s))) (q ∙ ap g s))

pub set-tabulated : {A : Type 0} (f g : ℕ → A) (k j : ℕ) (x : A) → ((m : ℕ) → m ≢ j → f m ≡ g m) → x ≡ g j → set (tabulated f 0 k) j x ≡ tabulated g 0 k
set-tabulated f g k j x e q = set_tabulated_at f g 0 k j x (λ m n. e m (λ z. n (z ∙ sym (zero-add j)))) (q ∙ ap g (sym (zero-add j)))

pub sets_snoc : (row es : List ℕ) (k e : ℕ) → set (sets row k es) (k + length es) e ≡ sets row k (es ++ (e ∷ []))
sets_snoc row [] k e = rw add-zero
sets_snoc row (x ∷ es) k e =
    let s : k + suc (length es) ≡ suc k + length es = omega arith in
    rw s (sets_snoc (set row k x) es (suc k) e)
