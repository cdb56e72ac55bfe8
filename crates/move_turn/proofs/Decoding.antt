-- The steps of bytes, in the code's shape: one round of the search for the greatest edge; and the codes of the bytes, which stand
-- for the same steps since each code does.
use mathlib.Core.Path.{◌≡◌, refl, ap, ◌∙◌}
use mathlib.Core.List.{List, [], ◌∷◌}
use Prim.Native.Nat.{ℕ, suc, ◌+◌, ◌<◌, ◌≤◌}
use native.Mathlib.Omega.{arith}
use lib.ListN.{length, get_or, set, take, drop, drop_of_length-le}
use lib.Seq.{drop-cons, get_or-set_same, get_or-set_other}
use borrow.Author.Count.{below_more}
use lib.Dec.{ltb}
use native.Mathlib.Numerals.{add-one}
use borrow.Author.Tests.{ltb-true, ltb-false}
use Rattle.std.specs.Prelude.{max}
use Rattle.lists.proofs.Laws.{Known, was_true, was_false, known, pick_yes, pick_no}
use Rattle.graph_flows.specs.Trails.{Step, edge_of}
use Rattle.move_cycle.specs.Steps.{step_of, steps_of, code_step, code_steps}
use Rattle.move_cycle.specs.Inner.{greatest_edge}

-- the greatest edge of the steps, one by one
greatest_both : (s : Step) (w : List Step) → greatest_edge (s ∷ w) ≡ max (edge_of s) (greatest_edge w)
unfolding greatest_edge
greatest_both s w = go (known (ltb (edge_of s) (greatest_edge w)))
  where
    go : Known (ltb (edge_of s) (greatest_edge w)) → greatest_edge (s ∷ w) ≡ max (edge_of s) (greatest_edge w)
    go (was_true t) = let l = ltb-true (edge_of s) (greatest_edge w) t in pick_yes _ _ _ t ∙ omega (arith, l)
    go (was_false t) = let l = ltb-false (edge_of s) (greatest_edge w) t in pick_no _ _ _ t ∙ omega (arith, l)

module _ (s : List ℕ) (i most : ℕ) where
  pub greatest_more : (edge next : ℕ) → i < length s → edge ≡ edge_of (step_of (get_or s i 0)) → next ≡ max most edge
      → max next (greatest_edge (steps_of (drop (i + 1) s))) ≡ max most (greatest_edge (steps_of (drop i s)))
  unfolding steps_of
  greatest_more edge next h is bound =
      rw (bound, is, drop-cons s i 0 h, add-one i, steps_of, greatest_both (step_of (get_or s i 0)) (steps_of (drop (suc i) s))) (omega arith)

  pub greatest_all : length s ≤ i → most ≡ max most (greatest_edge (steps_of (drop i s)))
  unfolding steps_of greatest_edge
  greatest_all h = rw (drop_of_length-le s h) (omega arith)

-- the codes below n stand for the steps of the bytes
abbrev pub Decoded : List ℕ → List ℕ → ℕ → Type 0
Decoded bytes codes n = (k : ℕ) → k < n → code_step (get_or codes k 0) ≡ step_of (get_or bytes k 0)

-- one code more
pub decoded_more : (bytes codes : List ℕ) (i code : ℕ) → i < length codes → Decoded bytes codes i → code_step code ≡ step_of (get_or bytes i 0)
    → Decoded bytes (set codes i code) (i + 1)
decoded_more bytes codes i code h all here =
    let kept : Decoded bytes (set codes i code) i =
    λ k l. ap code_step (get_or-set_other codes i k code 0 (λ (e : k ≡ i). omega (arith, l, e))) ∙ all k l in
    below_more (λ (k : ℕ). code_step (get_or (set codes i code) k 0) ≡ step_of (get_or bytes k 0)) i kept (ap code_step (get_or-set_same codes i code 0 h) ∙ here)

-- all of them
pub decoded_all : (bytes codes : List ℕ) → length bytes ≤ length codes → Decoded bytes codes (length bytes) → code_steps (take (length bytes) codes) ≡ steps_of bytes
unfolding code_steps steps_of
decoded_all [] codes h all = refl
decoded_all (b ∷ bytes) [] h all = absurd (omega (arith, h))
decoded_all (b ∷ bytes) (c ∷ codes) h all = rw (all 0 (omega arith), decoded_all bytes codes (omega (arith, h)) (λ k l. all (suc k) (omega (arith, l))))

-- as many steps as bytes
pub bytes_length : (bytes : List ℕ) → length (steps_of bytes) ≡ length bytes
unfolding steps_of
bytes_length [] = refl
bytes_length (b ∷ bytes) = ap suc (bytes_length bytes)
