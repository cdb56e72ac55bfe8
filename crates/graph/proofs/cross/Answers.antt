-- A zero edge leaves the bitsets, in the code and in the definition; for a positive one `join` ensures both claims.
use mathlib.Core.Path.{refl, sym, ◌∙◌}
use Rattle.graph.proofs.Columns.{crossed, crossed_zero}
use Rattle.graph.proofs.cross.Goals as goal

pub returns-then-at_or-eq0 : goal.returns-then-at_or-eq0
returns-then-at_or-eq0 c = record {
  bitsets_after = crossed_zero _ _ _ (sym c.at_or.ensures ∙ c.if-at_or-eq0.true);
  bitsets_unchanged = λ h. refl;
}

pub returns : goal.returns
returns c =
    let positive = c.if-at_or-eq0 in
    let flow = c.at_or in record {
      bitsets_after = c.join.ensures.bitsets_after ∙ rw (c.at_or-start.ensures, c.at_or-end.ensures) (crossed _ _ _ (λ z. positive.false (flow.ensures ∙ z)));
      bitsets_unchanged = c.join.ensures.bitsets_unchanged;
    }
