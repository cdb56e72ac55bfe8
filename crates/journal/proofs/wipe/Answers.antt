-- The loop has blanked the places up to its own.
use mathlib.Core.Path.{◌≡◌, refl, ap, ◌∙◌}
use mathlib.Core.List.{List, []}
use Prim.Native.Nat.{ℕ, suc, ◌+◌, ◌-◌}
use native.Mathlib.Omega.{arith}
use lib.ListN.{set}
use Rattle.board.specs.Whole.{Entry}
use Rattle.journal.specs.Words.{packed, packed_on}
use Rattle.journal.proofs.wipe.Goals as goal

pub loop-i-init : goal.loop-i-init
unfolding packed_on
loop-i-init c = let none : c.args.from - c.args.from ≡ 0 = omega arith in rw none refl

pub loop-i-preserved : goal.loop-i-preserved
unfolding packed_on
loop-i-preserved c =
    let loop = c.loop-i in
    let from = c.args.from in
    let one_more : loop.i + 1 - from ≡ suc (loop.i - from) = omega arith in
    let here : from + (loop.i - from) ≡ loop.i = omega arith in
    rw (one_more, packed_on, here)
    (c.put_entry.ensures.journal_after
    ∙ ap (λ (e : Entry). set loop.journal loop.i (packed e)) c.blank.ensures
    ∙ ap (λ (t : List (List ℕ)). set t loop.i _) loop.invariant)

pub returns : goal.returns
returns c =
    let all : c.loop-i.i - c.args.from ≡ c.args.count = omega arith in
    c.loop-i.invariant ∙ ap (λ (n : ℕ). packed_on n c.args.from [] c.args.journal.now) all
