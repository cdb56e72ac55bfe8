-- The line read is the definition's, as its ranges are. A refused line keeps its number, a source that is no vertex
-- gives 2, and else the four values make the network.
use mathlib.Core.Path.{ap, ◌∙◌}
use mathlib.Core.List.{List}
use lib.ListN.{drop}
use Rattle.refusals.proofs.Laws.{passed_on}
use Rattle.board.specs.declared.Network.{Network}
use Rattle.text.specs.declared.Range.{Range}
use Rattle.text.specs.Text.{got, line}
use Rattle.text_lines.proofs.Reading.{read_err}
use Rattle.text_lines.proofs.Loops.{head_stop, head_source, head_got}
use Rattle.text_reader.proofs.header.Goals as goal

pub returns-in_err-l-clause-s_value : goal.returns-in_err-l-clause-s_value
returns-in_err-l-clause-s_value c =
    read_err c.args.s.now (passed_on _ _ c.from_residual.ensures.1)
    ∙ head_stop _ c.line.result (c.line.ensures.s_value ∙ ap (λ (rs : List Range). line 66 rs c.args.s.now) c.head_ranges-ranges.ensures) c.in_err-l.was

pub returns-then-vertices-source-clause-s_value : goal.returns-then-vertices-source-clause-s_value
returns-then-vertices-source-clause-s_value c =
    head_source _ c.line.result (c.line.ensures.s_value ∙ ap (λ (rs : List Range). line 66 rs c.args.s.now) c.head_ranges-ranges.ensures) c.in_ok-l.was
    c.if-vertices-source.true

pub returns-clause-s_value : goal.returns-clause-s_value
returns-clause-s_value c =
    ap (λ (net : Network). got net (drop c.in_ok-l.l.used c.args.s.now)) c.headed.ensures
    ∙ head_got _ c.line.result (c.line.ensures.s_value ∙ ap (λ (rs : List Range). line 66 rs c.args.s.now) c.head_ranges-ranges.ensures) c.in_ok-l.was
    c.if-vertices-source.false
