-- What the terminal lines left make of the network so far is what all of them make of the first network.
-- Its count of vertices never changes, so the ranges made once are those of each line.
use mathlib.Core.Path.{refl, sym, ap, ◌∙◌}
use native.Mathlib.Nat.{sub-zero}
use Rattle.refusals.proofs.Laws.{passed_on}
use Rattle.text.specs.Text.{terminal_ranges}
use Rattle.text_lines.proofs.Reading.{read_err, rest_used}
use Rattle.text_lines.proofs.Loops.{terminal_stop, terminal_step, terminal_end}
use Rattle.text_lines.proofs.terminal_lines.Goals as goal

pub loop-j-init : goal.loop-j-init
loop-j-init c = record { within = c.requires.0; vertices = refl; rest = rw sub-zero }

pub returns-in_err-l-clause-s_value : goal.returns-in_err-l-clause-s_value
returns-in_err-l-clause-s_value c =
    let l = c.loop-j in
    read_err c.args.s.now (passed_on _ _ c.from_residual.ensures.1)
    ∙ terminal_stop l.out _ _ l.j l.at c.args.s.now _ c.loop-j-test.true c.line.result l.invariant.rest
    (c.terminal_ranges-ranges.ensures ∙ ap terminal_ranges (sym l.invariant.vertices)) c.line.ensures.s_value c.in_err-l.was

pub loop-j-preserved : goal.loop-j-preserved
loop-j-preserved c =
    let l = c.loop-j in
    record {
      within = rest_used c.args.s.now _ _ l.invariant.within c.in_ok-l.ensures.used_in_bounds;
      vertices = l.invariant.vertices;
      rest = terminal_step l.out _ _ l.j l.at c.args.s.now _ c.loop-j-test.true c.line.result l.invariant.rest
          (c.terminal_ranges-ranges.ensures ∙ ap terminal_ranges (sym l.invariant.vertices)) c.line.ensures.s_value _ c.in_ok-l.was refl;
    }

pub returns-clause-s_value : goal.returns-clause-s_value
returns-clause-s_value c = sym (terminal_end _ _ _ _ c.loop-j-test.false) ∙ c.loop-j.invariant.rest
