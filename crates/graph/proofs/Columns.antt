-- A bitset for each vertex is as many sets at once: column v, the vertices whose bitset has v, goes through the very
-- steps of the set of the vertices that can be reached from v. Where the bitset of an edge's start joins the bitset of
-- its end, column v gains that end exactly where it has the start.
use mathlib.Core.Path.{◌≡◌, refl, sym, ap, ◌∙◌}
use mathlib.Core.Bool.{Bool, true, false}
use mathlib.Core.List.{List, [], ◌∷◌}
use mathlib.Core.Logic.{◌⊎◌, inl, inr, ◌≢◌}
use Prim.Native.Nat.{ℕ, zero, suc, ◌+◌, ◌<◌, ◌≤◌}
use native.Mathlib.Omega.{arith}
use lib.Dec.{ltb}
use borrow.Author.Tests.{lt-ltb, le-ltb}
use lib.ListN.{length, get_or, set, replicate, length-set, length-replicate, get_or-replicate}
use lib.Seq.{get_or-set_same, get_or-set_other, set-get_or, ext_get_or}
use Rattle.lists.specs.Choice.{pick, both, either}
use Rattle.lists.proofs.Laws.{Known, was_true, was_false, known, eq_or_ne, pick_yes, pick_no}
use Rattle.sets.specs.Sets.{has_bit, with_bit, joined}
use Rattle.sets.proofs.Bits.{has-none, has-joined, has_with_same, has_with_other}
use Rattle.graph.specs.Graph.{opens}
use Rattle.graph.specs.Bitsets.{column}

pub column-length : (bitsets : List ℕ) (v : ℕ) → length (column bitsets v) ≡ length bitsets
unfolding column
column-length [] v = refl
column-length (r ∷ bitsets) v = ap suc (column-length bitsets v)

pub column_at : (bitsets : List ℕ) (v u : ℕ) → get_or (column bitsets v) u false ≡ has_bit (get_or bitsets u 0) v
unfolding column
column_at [] v u = sym (has-none v)
column_at (r ∷ bitsets) v zero = refl
column_at (r ∷ bitsets) v (suc u) = column_at bitsets v u

column-set : (bitsets : List ℕ) (u x v : ℕ) → column (set bitsets u x) v ≡ set (column bitsets v) u (has_bit x v)
unfolding column
column-set [] u x v = refl
column-set (r ∷ bitsets) zero x v = refl
column-set (r ∷ bitsets) (suc u) x v = ap (λ (l : List Bool). has_bit r v ∷ l) (column-set bitsets u x v)

pub either_true : (a : Bool) → either a true ≡ true
unfolding either
either_true true = refl
either_true false = refl

pub either_false : (a : Bool) → either a false ≡ a
unfolding either
either_false true = refl
either_false false = refl

-- the bitset of u takes in the bitset of w
column-joined : (bitsets : List ℕ) (u w v : ℕ)
    → column (set bitsets u (joined (get_or bitsets u 0) (get_or bitsets w 0))) v ≡ pick (get_or (column bitsets v) w false) (set (column bitsets v) u true) (column bitsets v)
column-joined bitsets u w v = go (known (has_bit (get_or bitsets w 0) v))
  where
    both_bitsets : column (set bitsets u (joined (get_or bitsets u 0) (get_or bitsets w 0))) v ≡ set (column bitsets v) u (either (has_bit (get_or bitsets u 0) v) (has_bit (get_or bitsets w 0) v))
    both_bitsets = column-set bitsets u _ v ∙ ap (λ (b : Bool). set (column bitsets v) u b) (has-joined (get_or bitsets u 0) (get_or bitsets w 0) v)

    go : Known (has_bit (get_or bitsets w 0) v)
        → column (set bitsets u (joined (get_or bitsets u 0) (get_or bitsets w 0))) v ≡ pick (get_or (column bitsets v) w false) (set (column bitsets v) u true) (column bitsets v)
    go (was_true t) =
        both_bitsets
        ∙ ap (λ (b : Bool). set (column bitsets v) u b) (ap (either (has_bit (get_or bitsets u 0) v)) t ∙ either_true _)
        ∙ sym (pick_yes _ _ _ (column_at bitsets v w ∙ t))
    go (was_false t) =
        both_bitsets
        ∙ ap (λ (b : Bool). set (column bitsets v) u b) (ap (either (has_bit (get_or bitsets u 0) v)) t ∙ either_false _ ∙ sym (column_at bitsets v u))
        ∙ set-get_or (column bitsets v) u false
        ∙ sym (pick_no _ _ _ (column_at bitsets v w ∙ t))

-- one edge of a pass
pub column_turn : (from to flows bitsets r : List ℕ) (e v : ℕ)
    → r ≡ pick (ltb 0 (get_or flows e 0)) (set bitsets (get_or to e 0) (joined (get_or bitsets (get_or to e 0) 0) (get_or bitsets (get_or from e 0) 0))) bitsets
    → column r v ≡ pick (opens from flows (column bitsets v) e) (set (column bitsets v) (get_or to e 0) true) (column bitsets v)
unfolding opens both
column_turn from to flows bitsets r e v q = go (known (ltb 0 (get_or flows e 0)))
  where
    go : Known (ltb 0 (get_or flows e 0)) → column r v ≡ pick (opens from flows (column bitsets v) e) (set (column bitsets v) (get_or to e 0) true) (column bitsets v)
    go (was_true t) = rw (q, t) (ap (λ (l : List ℕ). column l v) (pick_yes _ _ _ refl) ∙ column-joined bitsets (get_or to e 0) (get_or from e 0) v)
    go (was_false t) = rw (q, t) (ap (λ (l : List ℕ). column l v) (pick_no _ _ _ refl) ∙ sym (pick_no _ _ _ refl))

-- one more element stored, where those before it are f of their index
pub stored_more : {A : Type 0} (f : ℕ → A) (l : List A) (i : ℕ) (a d : A) → i < length l → ((k : ℕ) → k < i → get_or l k d ≡ f k) → a ≡ f i
    → (k : ℕ) → k < i + 1 → get_or (set l i a) k d ≡ f k
stored_more f l i a d inside before e k h = go (eq_or_ne k i)
  where
    go : (k ≡ i) ⊎ (k ≢ i) → get_or (set l i a) k d ≡ f k
    go (inl s) = rw s (get_or-set_same l i a d inside ∙ e)
    go (inr n) = get_or-set_other l i k a d n ∙ before k (omega (arith, n))

-- each vertex alone in its bitset; past the vertices no bitset has any
pub column-alone : (bitsets : List ℕ) (n v : ℕ) → length bitsets ≡ n → ((u : ℕ) → u < n → get_or bitsets u 0 ≡ with_bit 0 u)
    → column bitsets v ≡ set (replicate n false) v true
column-alone bitsets n v size alone =
    ext_get_or false (column bitsets v) (set (replicate n false) v true)
    (column-length bitsets v ∙ size ∙ sym (length-set (replicate n false) v true ∙ length-replicate n false))
    (λ u h. go u (omega (arith, column-length bitsets v)) (eq_or_ne u v))
  where
    go : (u : ℕ) → u < n → (u ≡ v) ⊎ (u ≢ v) → get_or (column bitsets v) u false ≡ get_or (set (replicate n false) v true) u false
    go u h (inl e) =
        let inside : v < n = omega (arith, e, h) in
        let long : v < length (replicate n false) = omega (arith, inside, length-replicate n false) in
        rw e (column_at bitsets v v ∙ ap (λ (r : ℕ). has_bit r v) (alone v inside) ∙ has_with_same 0 v ∙ sym (get_or-set_same (replicate n false) v true false long))
    go u h (inr ne) =
        column_at bitsets v u
        ∙ ap (λ (r : ℕ). has_bit r v) (alone u h)
        ∙ has_with_other 0 u v (λ e. ne (sym e))
        ∙ has-none v
        ∙ sym (get_or-set_other (replicate n false) v u true false ne ∙ get_or-replicate n u false false h)

-- a set that agrees with the column at every vertex
pub column-made : (bitsets : List ℕ) (v : ℕ) (seen : List Bool) → length seen ≡ length bitsets
    → ((u : ℕ) → u < length bitsets → get_or seen u false ≡ get_or (column bitsets v) u false) → seen ≡ column bitsets v
column-made bitsets v seen size same =
    ext_get_or false seen (column bitsets v) (size ∙ sym (column-length bitsets v)) (λ u h. same u (omega arith))

-- an edge that is crossed: only a positive one
module _ {A : Type 0} (x : ℕ) (a b : A) where
  pub crossed : (x ≡ 0 → ⊥) → a ≡ pick (ltb 0 x) a b
  crossed h = let above : 0 < x = omega (arith, h) in sym (pick_yes _ _ _ (lt-ltb 0 x above))

  pub crossed_zero : x ≡ 0 → b ≡ pick (ltb 0 x) a b
  crossed_zero h = let none : x ≤ 0 = omega arith in sym (pick_no _ _ _ (le-ltb 0 x none))
