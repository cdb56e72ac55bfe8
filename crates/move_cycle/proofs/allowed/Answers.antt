-- By the way of the step: down allows the flow of its edge, up what the terminals at the edge's head allow.
use mathlib.Core.Path.{sym, ◌∙◌}
use Rattle.move_cycle.proofs.Raising.{allowed_down, allowed_up}
use Rattle.move_cycle.proofs.allowed.Goals as goal

pub returns-then-not-is_up : goal.returns-then-not-is_up
returns-then-not-is_up c =
    let falls = sym c.is_up.ensures ∙ c.if-not-is_up.true in
    rw (c.smaller.ensures, c.at_or-flow.ensures, c.edge_of-edge.ensures) (allowed_down _ _ _ _ _ _ _ falls)

pub returns : goal.returns
returns c =
    let rises = sym c.is_up.ensures ∙ c.if-not-is_up.false in
    rw (c.raise.ensures, c.at_or-head.ensures, c.at_or-flow.ensures, c.edge_of-edge.ensures) (allowed_up _ _ _ _ _ _ _ rises)
