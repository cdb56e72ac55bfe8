-- The rows and the counts are those of the moves that the walk has passed, from the last standing one on; at last it has passed all of them. The moves are read from
-- the words, whose standing ones are those of the journal.
use mathlib.Core.Path.{sym, ap, ◌∙◌}
use mathlib.Core.Logic.{inl, inr}
use Prim.Native.Nat.{◌≤◌}
use native.Mathlib.Omega.{arith}
use lib.ListN.{length, take, length-take}
use Rattle.board.specs.Limits.{max_moves}
use Rattle.board.specs.Whole.{Entry, move_of}
use Rattle.journal.specs.Words.{entries_of}
use Rattle.report_routes.proofs.Filling.{fill_start, fill_carried, fill_past, fill_turned, fill_short, fill_end}
use Rattle.report_routes.proofs.Standing.{words_long, filled_standing}
use Rattle.report_routes.proofs.fill.Goals as goal
use Rattle.report_routes.proofs.fill.Goals.{then-n, else-n}

pub loop-at-init : goal.loop-at-init
loop-at-init c =
    let words = c.args.journal.now in
    let long = words_long words max_moves c.told-journal in
    fill_start c.args.moves (entries_of words) c.min-standing.result (omega (arith, length-take c.args.moves (entries_of words)))

pub overflow_add-counts : goal.overflow_add-counts
overflow_add-counts c =
    let words = c.args.journal.now in
    let long = words_long words max_moves c.told-journal in
    let small = fill_short c.args.moves (entries_of words) c.loop-at.at c.loop-at.rows c.loop-at.counts c.loop-at.invariant _ c.if-i-lt-MAX_TERMINALS.true in
    omega (arith, small)

pub loop-at-preserved-then-i-lt-MAX_TERMINALS : goal.loop-at-preserved-then-i-lt-MAX_TERMINALS
loop-at-preserved-then-i-lt-MAX_TERMINALS c =
    let words = c.args.journal.now in
    let long = words_long words max_moves c.told-journal in
    let inside : c.loop-at.at ≤ length (take c.args.moves (entries_of words)) = omega (arith, length-take c.args.moves (entries_of words)) in
    fill_carried
    c.args.moves
    (entries_of words)
    c.loop-at.at
    c.loop-at.rows
    c.loop-at.counts
    c.loop-at.invariant
    _
    c.loop-at-test.true
    inside
    _
    c.if-n.rows
    (ap (λ (e : Entry). e.step) (sym c.entry_at-entry.ensures) ∙ ap move_of c.in-Carry.is)
    c.if-i-lt-MAX_TERMINALS.true
    (elim c.if-n.branch [ then-n w ↦ inl (w.if-n.true, w.rows-is) | else-n w ↦ inr (w.if-n.false, w.rows-is) ])

pub loop-at-preserved-else-i-lt-MAX_TERMINALS : goal.loop-at-preserved-else-i-lt-MAX_TERMINALS
loop-at-preserved-else-i-lt-MAX_TERMINALS c =
    let words = c.args.journal.now in
    let long = words_long words max_moves c.told-journal in
    let inside : c.loop-at.at ≤ length (take c.args.moves (entries_of words)) = omega (arith, length-take c.args.moves (entries_of words)) in
    fill_past
    c.args.moves
    (entries_of words)
    c.loop-at.at
    c.loop-at.rows
    c.loop-at.counts
    c.loop-at.invariant
    _
    c.loop-at-test.true
    inside
    _
    (ap (λ (e : Entry). e.step) (sym c.entry_at-entry.ensures) ∙ ap move_of c.in-Carry.is)
    c.if-i-lt-MAX_TERMINALS.false

pub loop-at-preserved : goal.loop-at-preserved
loop-at-preserved c =
    let words = c.args.journal.now in
    let long = words_long words max_moves c.told-journal in
    let inside : c.loop-at.at ≤ length (take c.args.moves (entries_of words)) = omega (arith, length-take c.args.moves (entries_of words)) in
    fill_turned
    c.args.moves
    (entries_of words)
    c.loop-at.at
    c.loop-at.rows
    c.loop-at.counts
    c.loop-at.invariant
    _
    c.loop-at-test.true
    inside
    _
    (ap (λ (e : Entry). e.step) (sym c.entry_at-entry.ensures) ∙ ap move_of c.in_default.is)

pub returns : goal.returns
returns c =
    let words = c.args.journal.now in
    let all = filled_standing c.args.moves words c.loop-at.rows c.loop-at.counts
    (fill_end c.args.moves (entries_of words) c.loop-at.at c.loop-at.rows c.loop-at.counts c.loop-at.invariant c.loop-at-test.false) in record {
      rows_filled = all.0;
      counts_filled = all.1;
    }
