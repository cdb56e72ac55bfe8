-- The laws that the loops cite: what is left of a set and of a sum, before and after one round, in the code's own
-- shape.
use mathlib.Core.Path.{◌≡◌, refl, sym, ◌∙◌}
use mathlib.Core.Bool.{Bool, true, false}
use mathlib.Core.Logic.{◌⊎◌, inl, inr, ◌≢◌}
use mathlib.Core.List.{List, ◌∷◌}
use Prim.Native.Nat.{ℕ, suc, ◌+◌, ◌-◌, ◌*◌, ◌<◌, ◌≤◌}
use native.Mathlib.Numerals.{add-one}
use native.Mathlib.Nat.{add-zero}
use native.Mathlib.Omega.{arith}
use lib.Dec.{eqb}
use lib.ListN.{length, get_or, set, drop, drop_of_length-le}
use lib.Seq.{drop-cons, get_or-set_same, get_or-set_other}
use borrow.Author.Tests.{eqb-true, eqb-false}
use Rattle.lists.specs.Choice.{pick, either}
use Rattle.lists.specs.Lists.{total}
use Rattle.lists.specs.Members.{has}
use Rattle.lists.proofs.Laws.{Known, was_true, was_false, known, eq_or_ne, pick_yes, pick_no}
use Rattle.sets.specs.Sets.{has_bit, with_bit}
use Rattle.sets.proofs.Bits.{has-none, has_with_same, has_with_other}
use Rattle.board.specs.Limits.{max_edges, max_flow}
use Rattle.report_routes.specs.Inner.{row_at, IsSetOf, AreRouteSets, RouteSets}

either-none : (a : Bool) → either a false ≡ a
unfolding either
either-none true = refl
either-none false = refl

either_some : (a : Bool) → either a true ≡ true
unfolding either
either_some true = refl
either_some false = refl

-- a set of the first i edges, and those that are left
module _ (xs : List ℕ) where
  abbrev pub EdgesPassed : ℕ → ℕ → Type 0
  EdgesPassed i set = (e : ℕ) → e < max_edges → either (has_bit set e) (has e (drop i xs)) ≡ has e xs

  pub set_start : EdgesPassed 0 0
  unfolding either
  set_start e h = rw (has-none e)

  -- the next edge joins the set, or is no edge
  pub set_turn : (i set next : ℕ) → i < length xs
      → ((get_or xs i 0 < max_edges) × (next ≡ with_bit set (get_or xs i 0))) ⊎ ((max_edges ≤ get_or xs i 0) × (next ≡ set)) → EdgesPassed i set → EdgesPassed (i + 1) next
  unfolding has either
  set_turn i set next h came inv e l = go (known (eqb e (get_or xs i 0))) came
    where
      before : either (has_bit set e) (has e (get_or xs i 0 ∷ drop (suc i) xs)) ≡ has e xs
      before = rw (drop-cons xs i 0 h) at (inv e l)

      go : Known (eqb e (get_or xs i 0)) → ((get_or xs i 0 < max_edges) × (next ≡ with_bit set (get_or xs i 0))) ⊎ ((max_edges ≤ get_or xs i 0) × (next ≡ set))
          → either (has_bit next e) (has e (drop (i + 1) xs)) ≡ has e xs
      go (was_true t) (inl w) =
          let q = eqb-true e (get_or xs i 0) t in
          let joined : has_bit next e ≡ true = rw (w.1, q) (has_with_same set (get_or xs i 0)) in
          rw joined (sym (either_some (has_bit set e)) ∙ rw (t, has) at before)
      go (was_true t) (inr w) = absurd (omega (arith, eqb-true e (get_or xs i 0) t))
      go (was_false t) (inl w) = rw (w.1, has_with_other set (get_or xs i 0) e (eqb-false e (get_or xs i 0) t), add-one i) (rw (t, has) at before)
      go (was_false t) (inr w) = rw (w.1, add-one i) (rw (t, has) at before)

  pub set_end : (i set : ℕ) → length xs ≤ i → EdgesPassed i set → IsSetOf set xs
  unfolding has
  set_end i set h inv e l = sym (either-none (has_bit set e)) ∙ (rw (drop_of_length-le xs h) at (inv e l))

-- the set of one route more
routes_turn : (routes counts : List ℕ) (rows : List (List ℕ)) (i route : ℕ) → i < length routes → AreRouteSets routes counts rows i
    → IsSetOf route (row_at counts rows i) → AreRouteSets (set routes i route) counts rows (i + 1)
routes_turn routes counts rows i route h are new j l = go (eq_or_ne j i)
  where
    go : (j ≡ i) ⊎ (j ≢ i) → IsSetOf (get_or (set routes i route) j 0) (row_at counts rows j)
    go (inl q) = rw (q, get_or-set_same routes i route 0 h) new
    go (inr n) = rw (get_or-set_other routes i j route 0 n) (are j (omega (arith, n)))

pub sets_turn : (routes counts : List ℕ) (rows : List (List ℕ)) (i route : ℕ) → i < length routes → RouteSets routes counts rows i
    → IsSetOf route (row_at counts rows i) → RouteSets (set routes i route) counts rows (i + 1)
sets_turn routes counts rows i route h so_far new = record {
  are = routes_turn routes counts rows i route h so_far.are new;
  past = λ j l. get_or-set_other routes i j route 0 (λ e. omega (arith, e, l)) ∙ so_far.past j (omega (arith, l));
}

-- a sum over the indices below n that has passed i
module _ (f : ℕ → ℕ) (n i sum whole : ℕ) where
  pub total_turn : (x : ℕ) → i < n → x ≡ f i → sum + total f i (n - i) ≡ whole → sum + x + total f (i + 1) (n - (i + 1)) ≡ whole
  unfolding total
  total_turn x h e inv =
      let s : n - i ≡ suc (n - suc i) = omega arith in
      let u : sum + (f i + total f (suc i) (n - suc i)) ≡ whole = rw s at inv in
      rw (add-one i) (omega arith)

  pub total_end : n ≤ i → sum + total f i (n - i) ≡ whole → sum ≡ whole
  unfolding total
  total_end h inv =
      let s : n - i ≡ 0 = omega arith in
      sym (add-zero sum) ∙ rw s at inv

-- what terminal i adds to the load of edge e, by the sets
abbrev pub part : List ℕ → List ℕ → ℕ → ℕ → ℕ
part routes demands e i = pick (has_bit (get_or routes i 0) e) (get_or demands i 0) 0

-- one terminal more: the sum grows by its demand where its set has e, else it stays
pub load_turn : (routes demands : List ℕ) (e n i sum next whole : ℕ) (found : Bool) → i < n → found ≡ has_bit (get_or routes i 0) e
    → ((found ≡ true) × (next ≡ sum + get_or demands i 0)) ⊎ ((found ≡ false) × (next ≡ sum)) → get_or demands i 0 ≤ max_flow
    → (sum ≤ i * max_flow) × (sum + total (part routes demands e) i (n - i) ≡ whole)
    → (next ≤ (i + 1) * max_flow) × (next + total (part routes demands e) (i + 1) (n - (i + 1)) ≡ whole)
load_turn routes demands e n i sum next whole found h q (inl w) small inv =
    let x = pick_yes (has_bit (get_or routes i 0) e) (get_or demands i 0) 0 (sym q ∙ w.0) in
    (omega (arith, w.1, small, inv.0), rw w.1 (total_turn (part routes demands e) n i sum whole (get_or demands i 0) h (sym x) inv.1))
load_turn routes demands e n i sum next whole found h q (inr w) small inv =
    let x = pick_no (has_bit (get_or routes i 0) e) (get_or demands i 0) 0 (sym q ∙ w.0) in
    let s : sum + 0 + total (part routes demands e) (i + 1) (n - (i + 1)) ≡ whole = total_turn (part routes demands e) n i sum whole 0 h (sym x) inv.1 in
    (omega (arith, w.1, inv.0), omega (arith, w.1, s))
