-- The ways out are the definition's: not in play, no move, the solver's move refused, or that move. The move is worked out and judged by the lists of the board.
use mathlib.Core.Path.{◌≡◌, refl, sym, ◌∙◌}
use mathlib.Core.Bool.{true}
use lib.ListN.{length}
use Rattle.board.specs.Limits.{max_edges, max_terminals}
use Rattle.board.specs.Whole.{Board}
use Rattle.journal.specs.Words.{whole_of}
use Rattle.move_guard.specs.Guard.{playing}
use Rattle.move_guard.specs.Bounds.{InBounds}
use Rattle.move_guard.proofs.Bounds.{playing_bounds}
use Rattle.refusals.proofs.Laws.{refused}
use Rattle.solve_next.specs.Views.{advice_told}
use Rattle.solve_next.proofs.Advised.{board_movable, advice_framed, number_framed, advice_short}
use Rattle.solve_next.proofs.Ways.{hint_closed, hint_none, hint_stuck, hint_move}
use borrow.Author.Rules.{rules}
use Rattle.solve_next.proofs.hint.Goals as goal

-- what is known of a board in play by the lengths of its lists
in_bounds : (b : Board) → playing b ≡ true → length b.network.tails ≡ max_edges → length b.network.heads ≡ max_edges
    → length b.network.demands ≡ max_terminals → length b.flows ≡ max_edges → InBounds b.network b.flows b.places
in_bounds b p tails heads demands long = playing_bounds b p (record { tails = tails; heads = heads; demands = demands; long = long })

pub returns-then-not-playing : goal.returns-then-not-playing
returns-then-not-playing c = hint_closed (whole_of c.args.board c.args.journal.now) (sym c.playing.ensures ∙ c.if-not-playing.true)

pub next_move-next-requires : goal.next_move-next-requires
next_move-next-requires c =
    let b = whole_of c.args.board c.args.journal.now in
    let all = in_bounds b (sym c.playing.ensures ∙ c.if-not-playing.false) (search rules) (search rules) (search rules) (search rules) in
    rw c.of-frame.ensures (board_movable b _ _ _ all c.at_vertices-leaving.ensures c.at_vertices-entering.ensures c.positive-positive.ensures)

pub returns-in_default : goal.returns-in_default
returns-in_default c =
    let b = whole_of c.args.board c.args.journal.now in
    let play = sym c.playing.ensures ∙ c.if-not-playing.false in
    let all = in_bounds b play (search rules) (search rules) (search rules) (search rules) in
    hint_none b play all (c.in_default.ensures ∙ advice_framed b.network b.flows b.marks b.places _ _ c.of-frame.ensures)

pub judge_in-requires : goal.judge_in-requires
judge_in-requires c =
    let b = whole_of c.args.board c.args.journal.now in
    let all = in_bounds b (sym c.playing.ensures ∙ c.if-not-playing.false) (search rules) (search rules) (search rules) (search rules) in record {
      edges_le_max_edges = rw c.of-frame.ensures all.edges;
      charted_out = rw c.of-frame.ensures (record { leave = c.at_vertices-leaving.ensures; is_positive = c.positive-positive.ensures; all = all.all; headed = all.headed });
      count_le_max_edges = rw (c.in-Some.ensures ∙ advice_framed b.network b.flows b.marks b.places _ _ c.of-frame.ensures) (advice_short b.network b.flows b.marks b.places all);
    }

pub returns-in-Ok : goal.returns-in-Ok
returns-in-Ok c =
    let b = whole_of c.args.board c.args.journal.now in
    let play = sym c.playing.ensures ∙ c.if-not-playing.false in
    let all = in_bounds b play (search rules) (search rules) (search rules) (search rules) in
    hint_move b play all _ (c.in-Some.ensures ∙ advice_framed b.network b.flows b.marks b.places _ _ c.of-frame.ensures) _
    (c.in-Ok.ensures ∙ number_framed b.network b.flows b.marks b.places _ _ c.of-frame.ensures (advice_told c.in-Some.advice)) refl

pub returns-in-Err : goal.returns-in-Err
returns-in-Err c =
    let b = whole_of c.args.board c.args.journal.now in
    let play = sym c.playing.ensures ∙ c.if-not-playing.false in
    let all = in_bounds b play (search rules) (search rules) (search rules) (search rules) in
    hint_stuck b play all _ (c.in-Some.ensures ∙ advice_framed b.network b.flows b.marks b.places _ _ c.of-frame.ensures) _
    (c.in-Err.ensures ∙ number_framed b.network b.flows b.marks b.places _ _ c.of-frame.ensures (advice_told c.in-Some.advice)) (refused _)
