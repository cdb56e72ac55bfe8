-- The first lines of a text in parts. Bytes with no line feed among them only put off the first line feed, so they go in front of the first
-- lines of what follows; a line feed behind them ends one of the lines.
use mathlib.Core.Path.{◌≡◌, refl, sym, ap, ◌∙◌}
use mathlib.Core.List.{List, [], ◌∷◌, ◌++◌, append_assoc, append-nil}
use Prim.Native.Nat.{ℕ, zero, suc, ◌+◌}
use native.Mathlib.Omega.{arith}
use lib.Dec.{eqb}
use lib.ListN.{length}
use lib.Seq.{take-append-add, drop-append-add}
use Rattle.lists.specs.Lists.{index_of}
use Rattle.lists.proofs.Laws.{Known, was_true, was_false, known}
use Rattle.sheet_output.specs.Inputs.{first_lines}

-- where b is not among p, it is looked for behind p
pub index_behind : (b : ℕ) (p s : List ℕ) → index_of b p ≡ length p → index_of b (p ++ s) ≡ length p + index_of b s
unfolding index_of
index_behind b [] s h = omega arith
index_behind b (x ∷ p) s h = go (known (eqb x b)) (index_behind b p s)
  where
    go : Known (eqb x b) → (index_of b p ≡ length p → index_of b (p ++ s) ≡ length p + index_of b s)
        → index_of b ((x ∷ p) ++ s) ≡ length (x ∷ p) + index_of b s
    go (was_true t) ih = let z : 0 ≡ suc (length p) = rw (t, index_of) at h in absurd (omega arith)
    go (was_false t) ih =
        let less : suc (index_of b p) ≡ suc (length p) = rw (t, index_of) at h in
        rw (t, index_of) (omega (arith, ih (omega arith)))

pub first_more : (k : ℕ) (p s : List ℕ) → index_of 10 p ≡ length p → first_lines (suc k) (p ++ s) ≡ p ++ first_lines (suc k) s
unfolding first_lines
first_more k p s h =
    let next : suc (index_of 10 (p ++ s)) ≡ length p + suc (index_of 10 s) = omega (arith, index_behind 10 p s h) in
    rw (next, take-append-add, drop-append-add, append_assoc)

pub first_line : (k : ℕ) (p s : List ℕ) → index_of 10 p ≡ length p → first_lines (suc k) (p ++ (10 ∷ s)) ≡ p ++ (10 ∷ first_lines k s)
unfolding first_lines index_of
first_line k p s h = first_more k p (10 ∷ s) h

-- nothing has no line
first_nothing : (k : ℕ) → first_lines k [] ≡ []
unfolding first_lines
first_nothing zero = refl
first_nothing (suc k) = first_nothing k

pub first_all : (k : ℕ) (p : List ℕ) → index_of 10 p ≡ length p → first_lines (suc k) p ≡ p
first_all k p h =
    ap (λ (l : List ℕ). first_lines (suc k) l) (sym (append-nil p))
    ∙ (first_more k p [] h ∙ (ap (λ (l : List ℕ). p ++ l) (first_nothing (suc k)) ∙ append-nil p))
