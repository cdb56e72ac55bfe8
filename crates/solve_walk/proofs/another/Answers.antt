-- The positive edges at v, these without x, and the lowest left: each call's answer put into the next.
use Rattle.solve_walk.proofs.another.Goals as goal

pub returns : goal.returns
returns c = rw (c.lowest.ensures, c.drop-others.ensures, c.touching-at.ensures)
