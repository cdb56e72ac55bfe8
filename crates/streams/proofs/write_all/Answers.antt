-- What a write takes follows what was written before: together they are a longer part of the bytes, from the first on.
use Rattle.std.proofs.Common.{◌-◌, ◌++◌, arith, length, take, drop, sym, ap, subst, ◌∙◌, length-take}
use lib.Seq.{take-add, take-take}
use Rattle.std.specs.Io.KnownBytes.{Appends}
use Rattle.std.proofs.KnownBytes.{Appends-trans}
use Rattle.streams.proofs.write_all.Goals as goal

pub loop-done-preserved : goal.loop-done-preserved
loop-done-preserved g c =
    let done = c.loop-done.done in
    let n = c.write_some-n.result in
    let xs = c.args.bytes.now in
    let before = c.loop-done.invariant in
    let fits = c.write_some-n.ensures.in_bounds in
    let most = length-take (length xs - done) (drop done xs) in
    let joined = ap (λ l. take done xs ++ l) (take-take n (length xs - done) (drop done xs) (omega arith)) ∙ sym (take-add done n xs) in
    (omega arith, subst (Appends _ _) joined (Appends-trans _ _ _ _ _ before.1 c.write_some-n.ensures.written))
