-- Whether the board was loaded is tested, and then its number is the code's. Where that is 0 the tables hold what the writing asks for, and the text over them is the
-- report. A buffer as long as the longest report has room for this one.
use mathlib.Core.Path.{◌≡◌, sym, ap, ◌∙◌}
use mathlib.Core.Bool.{true, false}
use mathlib.Core.List.{List}
use Prim.Native.Nat.{ℕ, ◌≤◌}
use native.Mathlib.Omega.{arith}
use borrow.Author.Rules.{rules}
use lib.Dec.{leb}
use lib.ListN.{length}
use lib.Seq.{sets}
use borrow.Author.Tests.{leb-true}
use Rattle.text.specs.Sizes.{report_bytes}
use Rattle.refusals.proofs.Laws.{refused, passed_on}
use Rattle.board.specs.Limits.{max_terminals}
use Rattle.board.specs.Whole.{Board}
use Rattle.journal.specs.Words.{whole_of}
use Rattle.report.specs.Reports.{unreported, report_text}
use Rattle.report.specs.Rows.{table_text, Printable}
use Rattle.report.proofs.Answers.{not-loaded, number_made, report_printable, report_text_lem, put_refused, put_short, put_done}
use Rattle.report.proofs.put_sheet.Goals as goal
use Rattle.report.proofs.put_sheet.Goals.{In_ok-unreported_in, else-whole-via-then-whole+then-room-lt-REPORT_BYTES+else-not-has_room, else-whole-via-then-whole+else-room-lt-REPORT_BYTES, else-whole-via-else-whole}

abbrev board_in : In_ok-unreported_in → Board
board_in c = whole_of c.args.board c.args.journal.now

reported : (c : In_ok-unreported_in) → unreported (board_in c) ≡ 0
reported c =
    sym (number_made (board_in c) _ 0 (sym c.loaded.ensures ∙ c.if-not-loaded.false) (rw c.fill-routes.ensures.counts_filled at c.routes_fit-fit.ensures)
    c.in_ok-unreported_in.ensures)

printable : (c : In_ok-unreported_in) → Printable c.args.board.network c.fill-routes.result.counts
printable c =
    let long : length c.args.board.network.demands ≡ max_terminals = search rules in
    report_printable (board_in c) (reported c) _ c.fill-routes.ensures.counts_filled long

text : (c : In_ok-unreported_in) → table_text c.args.board.network c.args.board.acyclic c.fill-routes.result.counts c.fill-routes.result.rows ≡ report_text (board_in c)
text c = report_text_lem (board_in c) (reported c) _ _ c.fill-routes.ensures.counts_filled c.fill-routes.ensures.rows_filled

pub returns-then-not-loaded : goal.returns-then-not-loaded
returns-then-not-loaded c =
    let board = whole_of c.args.board c.args.journal.now in
    let all = put_refused board _ _ _ _ (not-loaded board (sym c.loaded.ensures ∙ c.if-not-loaded.true)) (λ z. omega (arith, z)) in record {
      value = all.0;
      used_le_report_bytes = tt;
      buf_after = all.1.1;
    }

pub returns-in_err-unreported_in : goal.returns-in_err-unreported_in
returns-in_err-unreported_in c =
    let board = whole_of c.args.board c.args.journal.now in
    let number = number_made board _ _ (sym c.loaded.ensures ∙ c.if-not-loaded.false) (rw c.fill-routes.ensures.counts_filled at c.routes_fit-fit.ensures)
    c.in_err-unreported_in.ensures in
    let all = put_refused board c.args.whole c.args.buf.now c.args.at _ number (refused c.in_err-unreported_in.field-0.0) in
    rw (passed_on _ _ c.from_residual.ensures.1) (record {
      value = all.0;
      used_le_report_bytes = tt;
      buf_after = all.1.1;
    })

pub has_room-requires : goal.has_room-requires
has_room-requires c = printable (goal.at.has_room-requires c).In_ok-unreported_in

pub returns-then-not-has_room : goal.returns-then-not-has_room
returns-then-not-has_room c =
    let here = (goal.at.returns-then-not-has_room c).In_ok-unreported_in in
    let less : leb (length (report_text (board_in here))) (length c.args.buf.now) ≡ false =
    ap (λ (l : List ℕ). leb (length l) (length c.args.buf.now)) (sym (text here)) ∙ sym c.has_room.ensures ∙ c.if-not-has_room.true in
    let all = put_short (board_in here) c.args.whole c.args.buf.now c.args.at (reported here) c.if-whole.true less in record {
      value = all.0;
      used_le_report_bytes = tt;
      buf_after = all.1.1;
    }

pub put_tables-end-requires : goal.put_tables-end-requires
put_tables-end-requires c = (c.requires, printable (goal.at.put_tables-end-requires c).In_ok-unreported_in)

pub returns : goal.returns
returns c =
    let here = (goal.at.returns c).In_ok-unreported_in in
    let put = c.put_tables-end.ensures in
    let sizes = ap length (text here) in
    let size : length (report_text (board_in here)) ≤ report_bytes = omega (arith, put.value, put.upper_bound, sizes) in
    let room : c.args.whole ≡ true → length (report_text (board_in here)) ≤ length c.args.buf.now =
    λ yes. elim c.else-whole.branch [
      | else-whole-via-then-whole+then-room-lt-REPORT_BYTES+else-not-has_room w ↦
          leb-true _ _ (ap (λ (l : List ℕ). leb (length l) (length c.args.buf.now)) (sym (text here)) ∙ sym w.has_room.ensures ∙ w.if-not-has_room.false)
      | else-whole-via-then-whole+else-room-lt-REPORT_BYTES w ↦ omega (arith, size)
      | else-whole-via-else-whole w ↦ cc
    ] in
    let all = put_done (board_in here) c.args.whole c.args.buf.now c.args.at (reported here) _ _ room (omega (arith, put.value, sizes)) (omega arith)
    (put.buf_after ∙ ap (λ (l : List ℕ). sets c.args.buf.now c.args.at l) (text here)) in record {
      value = all.0;
      used_le_report_bytes = all.1.0;
      buf_after = all.1.1;
    }
