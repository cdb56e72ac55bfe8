-- Column v starts as v alone and then goes through as many passes as there are bitsets, and so does `reached`.
use native.Mathlib.Omega.{arith}
use Rattle.graph.proofs.Loops.{reach_made}
use Rattle.graph.proofs.reach.Goals as goal

pub returns : goal.returns
returns c =
    let at_spread = c.spread in
    let at_clear = c.clear in
    λ v. reach_made _ _ _ _ _ v _ _ (at_clear.ensures v) (omega arith) (at_spread.ensures v)
