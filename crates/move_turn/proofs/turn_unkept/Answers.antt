-- The three numbers, in the order of the tests.
use mathlib.Core.Path.{sym, ◌∙◌}
use borrow.Author.Tests.{lt-ltb, le-ltb}
use Rattle.lists.proofs.Laws.{pick_yes, pick_no}
use Rattle.move_turn.specs.Turns.{turn_unkept}
use Rattle.move_turn.proofs.turn_unkept.Goals as goal

pub returns-then-not-playing : goal.returns-then-not-playing
unfolding turn_unkept
returns-then-not-playing c = sym (pick_no _ _ _ (sym c.playing.ensures ∙ c.if-not-playing.true))

pub returns-then-greatest-net : goal.returns-then-greatest-net
unfolding turn_unkept
returns-then-greatest-net c =
    sym (pick_yes _ _ _ (sym c.playing.ensures ∙ c.if-not-playing.false) ∙ pick_yes _ _ _ (lt-ltb _ _ c.if-greatest-net.true))

pub returns-else-greatest-net : goal.returns-else-greatest-net
unfolding turn_unkept
returns-else-greatest-net c =
    sym (pick_yes _ _ _ (sym c.playing.ensures ∙ c.if-not-playing.false) ∙ pick_no _ _ _ (le-ltb _ _ c.if-greatest-net.false))
