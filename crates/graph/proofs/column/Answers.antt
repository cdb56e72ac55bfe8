-- The places passed hold the column.
use mathlib.Core.Path.{sym, ◌∙◌}
use mathlib.Core.Bool.{false}
use Prim.Native.Nat.{ℕ, ◌<◌}
use lib.ListN.{length, get_or}
use Rattle.graph.specs.Bitsets.{column}
use Rattle.graph.proofs.Columns.{stored_more, column_at, column-made}
use native.Mathlib.Omega.{arith}
use Rattle.graph.proofs.column.Goals as goal

pub loop-u-preserved : goal.loop-u-preserved
loop-u-preserved c =
    let loop = c.loop-u in
    let bitsets = c.args.bitsets.now in
    let v = c.args.v in
    let inside : loop.u < length loop.seen = omega arith in
    stored_more (λ (k : ℕ). get_or (column bitsets v) k false) loop.seen loop.u _ false inside loop.invariant
    (c.has.ensures ∙ sym (column_at bitsets v loop.u))

pub returns : goal.returns
returns c =
    let loop = c.loop-u in
    column-made _ _ _ (omega arith) (λ k h. loop.invariant k (omega arith))
