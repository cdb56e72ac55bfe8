-- Two or more edges leave where the positive edges at v, without the lowest, are not empty: the definition.
use Rattle.solve_walk.proofs.parts.Goals as goal

pub returns : goal.returns
returns c =
    rw (c.is_empty.ensures, c.drop-others.ensures, c.lowest-e.ensures, c.touching-at.ensures)
