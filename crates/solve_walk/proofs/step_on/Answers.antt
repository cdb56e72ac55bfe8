-- The count is below the number of places, so the step has a place behind the steps so far, and is read back from there.
use mathlib.Core.Path.{◌≡◌}
use Prim.Native.Nat.{◌<◌}
use native.Mathlib.Omega.{arith}
use lib.ListN.{length}
use Rattle.board.specs.Limits.{max_vertices}
use Rattle.lists.specs.Choice.{pick}
use Rattle.solve_walk.proofs.Loops.{walked_more}
use borrow.Author.Rules.{rules}
use Rattle.solve_walk.proofs.step_on.Goals as goal

pub returns-clause-steps : goal.returns-clause-steps
returns-clause-steps c =
    let size : length c.args.way.now.steps ≡ max_vertices = search rules in
    let small = c.requires.count_lt_max_vertices in
    let inside : c.args.way.now.count < length c.args.way.now.steps = omega (arith, size, small) in
    rw c.stride.ensures (walked_more _ _ c.args.ups _ inside c.requires.e_lt_code_up)

pub returns-clause-seen : goal.returns-clause-seen
unfolding pick
returns-clause-seen c = rw (c.with-way.ensures, c.at_or-start.ensures)
