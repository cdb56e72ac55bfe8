-- The numbers in the order of the tests.
use mathlib.Core.Path.{sym, ◌∙◌}
use borrow.Author.Tests.{lt-ltb, le-ltb}
use Rattle.lists.proofs.Laws.{pick_yes, pick_no}
use Rattle.boundary_parts.specs.Shown.{entry_refusal}
use Rattle.boundary_parts.proofs.entry_refusal.Goals as goal

pub returns-then-not-loaded : goal.returns-then-not-loaded
unfolding entry_refusal
returns-then-not-loaded c = sym (pick_no _ _ _ (sym c.loaded.ensures ∙ c.if-not-loaded.true))

pub returns-then-place-board : goal.returns-then-place-board
unfolding entry_refusal
returns-then-place-board c =
    sym (pick_yes _ _ _ (sym c.loaded.ensures ∙ c.if-not-loaded.false) ∙ pick_yes _ _ _ (lt-ltb _ _ c.if-place-board.true))

pub returns-else-place-board : goal.returns-else-place-board
unfolding entry_refusal
returns-else-place-board c =
    sym (pick_yes _ _ _ (sym c.loaded.ensures ∙ c.if-not-loaded.false) ∙ pick_no _ _ _ (le-ltb _ _ c.if-place-board.false))
