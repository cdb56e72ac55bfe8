-- In each column, the passes left over the bitsets as they are give all passes over the first bitsets; after a pass
-- that changed nothing, none of them matters.
use mathlib.Core.Path.{sym, ap, ◌∙◌}
use mathlib.Core.List.{List}
use Prim.Native.Nat.{ℕ}
use Rattle.graph.specs.Graph.{passes}
use Rattle.graph.specs.Bitsets.{column}
use Rattle.graph.proofs.Loops.{passes_turn, passes_end, passes_still}
use Rattle.graph.proofs.spread.Goals as goal

pub returns-then-not-pass : goal.returns-then-not-pass
returns-then-not-pass c =
    let pass = c.pass.ensures in
    let same = λ (v : ℕ). ap (λ (l : List ℕ). column l v) (pass.bitsets_unchanged c.if-not-pass.true) in
    λ v. same v ∙ sym (passes_still _ _ _ _ _ (sym (pass.by_index v) ∙ same v)) ∙ c.loop.invariant v

pub loop-preserved : goal.loop-preserved
loop-preserved c =
    λ v. ap (passes _ _ _ _) (c.pass.ensures.by_index v) ∙ passes_turn _ _ _ _ _ _ c.loop-test.true ∙ c.loop.invariant v

pub returns : goal.returns
returns c = λ v. sym (passes_end _ _ _ _ _ _ c.loop-test.false) ∙ c.loop.invariant v
