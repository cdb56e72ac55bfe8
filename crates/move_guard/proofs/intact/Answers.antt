-- Where the counts fit, the tests of the lists, of the room in the journal and of the last move are those of the board; where not, it is not intact.
use mathlib.Core.Path.{sym, ◌∙◌}
use borrow.Author.Tests.{leb-true}
use Rattle.lists.proofs.Laws.{both_left, both_right}
use Rattle.journal.specs.Words.{whole_of}
use Rattle.move_guard.proofs.Parts.{counts_wrong, counts_right}
use Rattle.move_guard.proofs.intact.Goals as goal

pub returns-then-not-counts_fit : goal.returns-then-not-counts_fit
returns-then-not-counts_fit c =
    counts_wrong (whole_of c.args.board c.args.journal.now) (sym c.counts_fit_in-counts_fit.ensures ∙ c.if-not-counts_fit.true)

pub edges_intact-edges_fit-requires : goal.edges_intact-edges_fit-requires
edges_intact-edges_fit-requires c =
    let counts = sym c.counts_fit_in-counts_fit.ensures ∙ c.if-not-counts_fit.false in
    leb-true _ _ (both_right _ _ (both_left _ _ (both_right _ _ counts)))

pub terminals_intact-terminals_fit-requires : goal.terminals_intact-terminals_fit-requires
terminals_intact-terminals_fit-requires c =
    let counts = sym c.counts_fit_in-counts_fit.ensures ∙ c.if-not-counts_fit.false in
    leb-true _ _ (both_right _ _ (both_left _ _ (both_right _ _ (both_right _ _ counts))))

pub returns : goal.returns
returns c =
    let counts = sym c.counts_fit_in-counts_fit.ensures ∙ c.if-not-counts_fit.false in
    counts_right (whole_of c.args.board c.args.journal.now) _ _ _ _ _ _ _ counts c.edges_intact-edges_fit.ensures
    c.terminals_intact-terminals_fit.ensures c.last_entry-last.ensures c.move_intact.ensures c.and-room.ensures c.and.ensures c.and-2.ensures
