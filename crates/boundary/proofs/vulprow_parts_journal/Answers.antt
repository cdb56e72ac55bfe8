-- The move at the place where one stands, else zeros.
use mathlib.Core.Path.{refl, sym, ap, ◌∙◌}
use Rattle.board.specs.Whole.{Entry, Board}
use Rattle.journal.specs.Words.{entries_of}
use Rattle.refusals.proofs.Laws.{refused}
use Rattle.boundary_parts.specs.Shown.{entry_refusal}
use Rattle.boundary_parts.proofs.Shows.{entry_refused, entry_given, entry_stands, standing_at}
use Rattle.boundary.proofs.vulprow_parts_journal.Goals as goal

pub returns-in-Err : goal.returns-in-Err
returns-in-Err c =
    let args = c.args in
    let number = c.in-Err.ensures ∙ ap (λ (b : Board). entry_refusal b args.place) (c.board_in-board.ensures args.journal.now) in
    let all = entry_refused _ _ _ number (refused c.in-Err.refusal) in record {
      value = c.from.ensures ∙ all.0;
      parts_after = all.1.0;
      rows_after = all.1.1;
    }

pub returns-in-Ok : goal.returns-in-Ok
returns-in-Ok c =
    let args = c.args in
    let words = args.journal.now in
    let number = c.in-Ok.ensures ∙ ap (λ (b : Board). entry_refusal b args.place) (c.board_in-board.ensures words) in
    let inside = entry_stands _ args.place (sym number) in
    let step = ap (λ (e : Entry). e.step) (c.entry_at-entry.ensures ∙ sym (standing_at _ (entries_of words) args.place inside)) in
    let given = entry_given _ args.place _ number refl _ step in
    let drawn = c.show_move.ensures in record {
      value = given.0;
      parts_after = drawn.numbers_after ∙ given.1.0;
      rows_after = drawn.rows_after ∙ given.1.1;
    }
