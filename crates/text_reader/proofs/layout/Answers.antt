-- The first of the three parts that is refused decides, and then bytes behind the last, as in the definition.
-- The counts of the first line are within their ranges, which is what reading the lines behind it asks for.
use mathlib.Core.Path.{◌∙◌}
use Rattle.refusals.proofs.Laws.{passed_on}
use Rattle.text_lines.proofs.Reading.{read_err}
use Rattle.text_reader.proofs.Whole.{first_counts, second_counts, whole_head_stop, whole_edge_stop, whole_terminal_stop, whole_surplus, whole_end}
use Rattle.text_reader.proofs.layout.Goals as goal

pub returns-in_err-h : goal.returns-in_err-h
returns-in_err-h c =
    read_err c.args.s.now (passed_on _ _ c.from_residual.ensures.1) ∙ whole_head_stop _ c.header.result c.header.ensures.s_value c.in_err-h.was

pub edge_lines-requires : goal.edge_lines-requires
edge_lines-requires c =
    let n = first_counts _ c.header.result c.header.ensures.s_value _ c.in_ok-h.was in
    (c.in_ok-h.ensures.used_in_bounds, n.vertices, n.edges)

pub returns-in_err-e : goal.returns-in_err-e
returns-in_err-e c =
    read_err c.args.s.now (passed_on _ _ c.from_residual-in_err-e.ensures.1)
    ∙ whole_edge_stop _ c.header.result c.header.ensures.s_value _ c.in_ok-h.was c.edge_lines.result c.edge_lines.ensures.s_value c.in_err-e.was

pub terminal_lines-requires : goal.terminal_lines-requires
terminal_lines-requires c =
    let n = second_counts _ c.header.result c.header.ensures.s_value _ c.in_ok-h.was c.edge_lines.result c.edge_lines.ensures.s_value _ c.in_ok-e.was in
    (c.in_ok-e.ensures.used_in_bounds, n.vertices, n.terminals)

pub returns-in_err-t : goal.returns-in_err-t
returns-in_err-t c =
    read_err c.args.s.now (passed_on _ _ c.from_residual-in_err-t.ensures.1)
    ∙ whole_terminal_stop _ c.header.result c.header.ensures.s_value _ c.in_ok-h.was c.edge_lines.result c.edge_lines.ensures.s_value _ c.in_ok-e.was
    c.terminal_lines.result c.terminal_lines.ensures.s_value c.in_err-t.was

pub returns-then-t-s : goal.returns-then-t-s
returns-then-t-s c =
    whole_surplus _ c.header.result c.header.ensures.s_value _ c.in_ok-h.was c.edge_lines.result c.edge_lines.ensures.s_value _ c.in_ok-e.was
    c.terminal_lines.result c.terminal_lines.ensures.s_value _ c.in_ok-t.was c.if-t-s.true

pub returns : goal.returns
returns c =
    whole_end _ c.header.result c.header.ensures.s_value _ c.in_ok-h.was c.edge_lines.result c.edge_lines.ensures.s_value _ c.in_ok-e.was
    c.terminal_lines.result c.terminal_lines.ensures.s_value _ c.in_ok-t.was c.if-t-s.false
