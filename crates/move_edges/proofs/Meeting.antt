-- The set that the code looks at has the edges that the definitions look for: it is what the edges at a vertex and the positive edges have in common. An edge
-- past the limit has no flow, and a set of the code's width has no bit for it.
use mathlib.Core.Path.{◌≡◌, refl, sym, ◌∙◌}
use mathlib.Core.Bool.{Bool, true, false}
use mathlib.Core.List.{List}
use mathlib.Core.Logic.{◌⊎◌, inl, inr}
use Prim.Native.Nat.{ℕ, ◌<◌, ◌≤◌, ◌^◌}
use native.Mathlib.Omega.{arith}
use lib.Bits.{and_le_r}
use lib.Dec.{ltb, eqb}
use lib.ListN.{length, get_or, get_or-eq_default}
use borrow.Author.Tests.{le-ltb}
use Rattle.lists.specs.Choice.{both}
use Rattle.lists.proofs.Laws.{lt_or_ge}
use Rattle.sets.specs.Sets.{has_bit}
use Rattle.sets.specs.Inner.{set_width}
use Rattle.sets.proofs.Bits.{has_past}
use Rattle.sets.proofs.Scan.{has-common}
use Rattle.board.specs.Limits.{max_vertices, max_edges}
use Rattle.move_edges.specs.Singular.{leaves}
use Rattle.move_edges.specs.Incidence.{Incident, PositiveSet, touching_by}

both_swap : (a b : Bool) → both a b ≡ both b a
unfolding both
both_swap true true = refl
both_swap true false = refl
both_swap false true = refl
both_swap false false = refl

-- no edge past the flows leaves a vertex
pub leaves_past : (ends flows : List ℕ) (v e : ℕ) → length flows ≤ e → leaves ends flows v e ≡ false
unfolding leaves both
leaves_past ends flows v e h = rw (get_or-eq_default flows 0 h, le-ltb 0 0 (omega arith))

module _ (ends flows edges : List ℕ) (positive v : ℕ) (at : Incident ends edges) (is_positive : PositiveSet flows positive) (small : v < max_vertices) where
  pub touching_at : (e : ℕ) → e < max_edges → has_bit (touching_by edges positive v) e ≡ leaves ends flows v e
  unfolding leaves
  touching_at e h = has-common (get_or edges v 0) positive e ∙ rw (at v e small h, is_positive e h) (both_swap (eqb (get_or ends e 0) v) (ltb 0 (get_or flows e 0)))

  pub touching_is : positive < 2 ^ set_width → length flows ≡ max_edges → (e : ℕ) → has_bit (touching_by edges positive v) e ≡ leaves ends flows v e
  touching_is fits long e = go (lt_or_ge e max_edges)
    where
      go : (e < max_edges) ⊎ (max_edges ≤ e) → has_bit (touching_by edges positive v) e ≡ leaves ends flows v e
      go (inl l) = touching_at e l
      go (inr l) =
          has_past (touching_by edges positive v) set_width e (omega (arith, fits, and_le_r (get_or edges v 0) positive)) l
          ∙ sym (leaves_past ends flows v e (omega (arith, long, l)))
