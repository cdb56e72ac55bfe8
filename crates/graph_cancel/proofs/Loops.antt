-- The laws that the loops cite: what is left of a run, before and after one round, each in the code's own shape.
use mathlib.Core.Path.{◌≡◌, refl, sym, ap, ◌∙◌}
use mathlib.Core.Bool.{Bool, true, false}
use mathlib.Core.List.{List, [], ◌∷◌}
use Prim.Native.Nat.{ℕ, zero, suc, ◌+◌, ◌-◌, ◌<◌, ◌≤◌}
use native.Mathlib.Numerals.{add-one}
use native.Mathlib.Nat.{add-zero}
use native.Mathlib.Omega.{arith}
use lib.Dec.{ltb}
use lib.ListN.{length, get_or, set, take, drop, length-drop, length-set, drop_of_length-le}
use lib.Seq.{drop-cons}
use borrow.Author.Tests.{eq-eqb, ne_eqb, lt-ltb, le-ltb}
use Rattle.graph.specs.Graph.{onward}
use Rattle.lists.proofs.Laws.{rest_part}
use Rattle.graph_cancel.specs.Cycles.{since, follow}

-- a search in a walk that has passed i edges
module _ (tails : List ℕ) (v : ℕ) (w : List ℕ) (i total : ℕ) (inv : i + since tails v (drop i w) ≡ total) where
  pub since_hit : i < length w → get_or tails (get_or w i 0) 0 ≡ v → i ≡ total
  unfolding since
  since_hit h e = sym (add-zero i) ∙ rw (drop-cons w i 0 h, eq-eqb _ v e, since) at inv

  pub since_miss : i < length w → (get_or tails (get_or w i 0) 0 ≡ v → ⊥) → i + 1 + since tails v (drop (i + 1) w) ≡ total
  unfolding since
  since_miss h n =
      let e : i + suc (since tails v (drop (suc i) w)) ≡ total = rw (drop-cons w i 0 h, ne_eqb (get_or tails (get_or w i 0) 0) v n, since) at inv in
      rw (add-one i) (omega arith)

  pub since_end : length w ≤ i → i ≡ total
  unfolding since
  since_end h = sym (add-zero i) ∙ rw (drop_of_length-le w h) at inv

-- a walk that fills a list from its end
put_front : (w : List ℕ) (k e : ℕ) → k < length w → drop k (set w k e) ≡ (e ∷ drop (suc k) w)
put_front [] k e h = absurd (omega arith)
put_front (x ∷ w) zero e h = refl
put_front (x ∷ w) (suc k) e h = put_front w k e (omega arith)

module _ (tails heads flows : List ℕ) (s : List Bool) (w r : List ℕ) (at v e u b : ℕ) (total : List ℕ) (some : 0 < at) (inside : at ≤ length w)
    (edge : e ≡ onward tails heads flows s v) (stored : r ≡ set w (at - 1) e) (end : u ≡ get_or heads e 0)
    (back : b ≡ since tails u (take (length r - (at - 1)) (drop (at - 1) r)))
    (inv : follow tails heads flows s at (drop at w) v ≡ total) where
  put : r ≡ set w (at - 1) (onward tails heads flows s v)
  put = stored ∙ ap (set w (at - 1)) edge

  next : u ≡ get_or heads (onward tails heads flows s v) 0
  next = end ∙ ap (λ (k : ℕ). get_or heads k 0) edge

  one_less : at ≡ suc (at - 1)
  one_less = omega arith

  walked : drop (at - 1) r ≡ onward tails heads flows s v ∷ drop at w
  walked =
      ap (drop (at - 1)) put
      ∙ put_front w (at - 1) (onward tails heads flows s v) (omega arith)
      ∙ ap (λ (k : ℕ). onward tails heads flows s v ∷ drop k w) (sym one_less)

  since_it : b ≡ since tails (get_or heads (onward tails heads flows s v) 0) (onward tails heads flows s v ∷ drop at w)
  since_it = rw (← next, ← walked, ← rest_part r (at - 1)) back

  size : suc (length (drop at w)) ≡ length r - (at - 1)
  size = omega (arith, length-drop at w, ap length put, length-set w (at - 1) (onward tails heads flows s v))

  turn : follow tails heads flows s (suc (at - 1)) (drop at w) v ≡ total
  turn = ap (λ (k : ℕ). follow tails heads flows s k (drop at w) v) (sym one_less) ∙ inv

  pub follow_hit : b < length r - (at - 1) → take (at - 1 + b + 1 - (at - 1)) (drop (at - 1) r) ≡ total
  unfolding follow
  follow_hit h =
      let t : ltb b (suc (length (drop at w))) ≡ true = rw size (lt-ltb b _ h) in
      let k : at - 1 + b + 1 - (at - 1) ≡ suc b = omega arith in
      rw (k, walked, since_it) (rw (← since_it, t, follow) at turn)

  pub follow_on : length r - (at - 1) ≤ b → follow tails heads flows s (at - 1) (drop (at - 1) r) u ≡ total
  unfolding follow
  follow_on h =
      let t : ltb b (suc (length (drop at w))) ≡ false = rw size (le-ltb b _ h) in
      rw (next, walked) (rw (← since_it, t, follow) at turn)

pub follow_over : (tails heads flows : List ℕ) (s : List Bool) (w : List ℕ) (at v : ℕ) → at ≤ 0 → follow tails heads flows s at (drop at w) v ≡ []
unfolding follow
follow_over tails heads flows s w at v h = let z : at ≡ 0 = omega arith in rw z
