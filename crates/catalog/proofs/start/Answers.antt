-- The boards that are left to pass, from the place reached on, lead to the board that all of them lead to from the start of the list.
use mathlib.Core.Path.{ap}
use Prim.Native.Nat.{◌+◌}
use native.Mathlib.Omega.{arith}
use Rattle.catalog.proofs.Laws.{boards_turned, boards_reached}
use Rattle.catalog.proofs.start.Goals as goal

pub loop-preserved : goal.loop-preserved
loop-preserved c =
    let next = ap (λ n. c.loop.at + n) c.span.ensures in
    (omega arith, boards_turned _ _ _ _ _ c.loop-test.true next _ c.loop.invariant.1 _ c.min-at.ensures)

pub returns-clause-t_value : goal.returns-clause-t_value
returns-clause-t_value c = boards_reached _ _ _ c.loop-test.false _ c.loop.invariant.1
