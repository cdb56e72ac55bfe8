-- The codes put so far stand for the steps of the bytes read so far.
use Prim.Native.Nat.{◌<◌}
use mathlib.Core.Path.{◌≡◌}
use native.Mathlib.Omega.{arith}
use lib.ListN.{length}
use borrow.Author.Rules.{rules}
use Rattle.move_turn.proofs.Decoding.{decoded_more, decoded_all}
use Rattle.move_turn.proofs.codes_of.Goals as goal

pub loop-i-init : goal.loop-i-init
loop-i-init c = (search rules, search rules, λ k h. absurd (omega (arith, h)))

pub loop-i-preserved : goal.loop-i-preserved
loop-i-preserved c =
    let loop = c.loop-i in
    let bytes = c.args.steps.now in
    let room : loop.i < length loop.codes = search rules in
    (search rules, search rules, decoded_more bytes loop.codes _ _ room loop.invariant.2 c.decoded.ensures)

pub returns : goal.returns
returns c =
    let loop = c.loop-i in
    let bytes = c.args.steps.now in
    let all : loop.i ≡ length bytes = omega arith in
    decoded_all bytes loop.codes (omega arith) (rw all at loop.invariant.2)
