-- The vertices passed are alone in their bitsets.
use mathlib.Core.Path.{refl, ap, ◌∙◌}
use Prim.Native.Nat.{ℕ}
use Rattle.lists.proofs.Laws.{pick_yes}
use Rattle.sets.specs.Sets.{with_bit}
use Rattle.graph.proofs.Columns.{stored_more, column-alone}
use native.Mathlib.Omega.{arith}
use Rattle.graph.proofs.clear.Goals as goal

pub loop-v-preserved : goal.loop-v-preserved
loop-v-preserved c =
    let loop = c.loop-v in
    stored_more (with_bit 0) loop.bitsets loop.v _ 0 (omega arith) loop.invariant
    (c.with.ensures ∙ pick_yes _ _ _ refl ∙ ap (λ (m : ℕ). with_bit m loop.v) c.none.ensures)

pub returns : goal.returns
returns c =
    let loop = c.loop-v in
    λ v. column-alone _ _ v (omega arith) (λ k l. loop.invariant k (omega arith))
