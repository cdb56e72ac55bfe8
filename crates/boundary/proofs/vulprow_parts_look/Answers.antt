-- A view where the board was loaded, else zeros.
use mathlib.Core.Path.{sym, ap, ◌∙◌}
use Rattle.move_guard.specs.Guard.{loaded}
use Rattle.boundary_parts.specs.Shown.{board_numbers, board_edges, board_terminals}
use Rattle.boundary_parts.proofs.Shows.{look_refused, look_given}
use Rattle.boundary.proofs.vulprow_parts_look.Goals as goal

pub returns-then-not-loaded : goal.returns-then-not-loaded
returns-then-not-loaded c =
    let is = c.board_in-board.ensures c.args.journal.now in
    let all = look_refused _ (sym (ap loaded is) ∙ sym c.loaded.ensures ∙ c.if-not-loaded.true) in record {
      value = c.from.ensures ∙ all.0;
      counts_after = all.1.0;
      lines_after = all.1.1.0;
      posts_after = all.1.1.1;
    }

pub returns : goal.returns
returns c =
    let is = c.board_in-board.ensures c.args.journal.now in
    let view = look_given _ (sym (ap loaded is) ∙ sym c.loaded.ensures ∙ c.if-not-loaded.false) in
    let drawn = c.show_board.ensures in record {
      value = view.0;
      counts_after = drawn.numbers_after ∙ ap board_numbers is ∙ view.1.0;
      lines_after = drawn.edges_after ∙ ap board_edges is ∙ view.1.1.0;
      posts_after = drawn.terminals_after ∙ ap board_terminals is ∙ view.1.1.1;
    }
