-- A step down passes; for a step up, what is tested is whether its own edge is singular.
use mathlib.Core.Path.{sym, ◌∙◌}
use Rattle.lists.specs.Choice.{pick}
use Rattle.move_turn.proofs.up_singular.Goals as goal

pub returns-then-not-is_up : goal.returns-then-not-is_up
unfolding pick
returns-then-not-is_up c = rw (sym c.is_up.ensures ∙ c.if-not-is_up.true)

pub returns : goal.returns
unfolding pick
returns c =
    let rises = sym c.is_up.ensures ∙ c.if-not-is_up.false in
    rw (c.singular_by.ensures, c.edge_of-e.ensures, rises)
