-- What the edge lines left make of the network so far is what all of them make of the first network.
-- Its count of vertices never changes, so the ranges made once are those of each line.
use mathlib.Core.Path.{refl, sym, ap, ◌∙◌}
use native.Mathlib.Nat.{sub-zero}
use Rattle.refusals.proofs.Laws.{passed_on}
use Rattle.text.specs.Text.{edge_ranges}
use Rattle.text_lines.proofs.Reading.{read_err, rest_used}
use Rattle.text_lines.proofs.Loops.{edge_stop, edge_step, edge_end}
use Rattle.text_lines.proofs.edge_lines.Goals as goal

pub loop-i-init : goal.loop-i-init
loop-i-init c = record { within = c.requires.0; vertices = refl; rest = rw sub-zero }

pub returns-in_err-l-clause-s_value : goal.returns-in_err-l-clause-s_value
returns-in_err-l-clause-s_value c =
    let l = c.loop-i in
    read_err c.args.s.now (passed_on _ _ c.from_residual.ensures.1)
    ∙ edge_stop l.out _ _ l.i l.at c.args.s.now _ c.loop-i-test.true c.line.result l.invariant.rest
    (c.edge_ranges-ranges.ensures ∙ ap edge_ranges (sym l.invariant.vertices)) c.line.ensures.s_value c.in_err-l.was

pub loop-i-preserved : goal.loop-i-preserved
loop-i-preserved c =
    let l = c.loop-i in
    record {
      within = rest_used c.args.s.now _ _ l.invariant.within c.in_ok-l.ensures.used_in_bounds;
      vertices = l.invariant.vertices;
      rest = edge_step l.out _ _ l.i l.at c.args.s.now _ c.loop-i-test.true c.line.result l.invariant.rest
          (c.edge_ranges-ranges.ensures ∙ ap edge_ranges (sym l.invariant.vertices)) c.line.ensures.s_value _ c.in_ok-l.was refl;
    }

pub returns-clause-s_value : goal.returns-clause-s_value
returns-clause-s_value c = sym (edge_end _ _ _ _ c.loop-i-test.false) ∙ c.loop-i.invariant.rest
