-- In each column, the rest of the pass over the bitsets as they are gives the whole pass over the first bitsets;
-- bitsets that have not changed are the first.
use mathlib.Core.Path.{sym, ◌∙◌}
use Rattle.graph.proofs.Loops.{neither, pass_turn, pass_end}
use Rattle.graph.proofs.Columns.{column_turn}
use Rattle.graph.proofs.pass.Goals as goal

pub loop-e-preserved : goal.loop-e-preserved
loop-e-preserved c =
    let cross = c.cross-any_changed.ensures in
    let loop = c.loop-e in
    let from = c.args.from.now in
    let to = c.args.to.now in
    let flows = c.args.flows.now in
    let inv = loop.invariant in (
      λ v. pass_turn from to flows _ _ _ _ c.loop-e-test.true (column_turn from to flows loop.bitsets _ loop.e v cross.bitsets_after) ∙ inv.0 v,
      λ h. let none = neither _ _ h in cross.bitsets_unchanged none.1 ∙ inv.1 none.0,
    )

pub returns : goal.returns
returns c = record {
  by_index = λ v. sym (pass_end _ _ _ _ _ _ c.loop-e-test.false) ∙ c.loop-e.invariant.0 v;
  bitsets_unchanged = c.loop-e.invariant.1;
}
