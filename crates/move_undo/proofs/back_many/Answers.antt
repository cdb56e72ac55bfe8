-- The moves that are left, from the board as it is now, end as all of them from the first board.
use mathlib.Core.Path.{◌≡◌, sym, ap, ◌∙◌}
use Prim.Native.Nat.{ℕ, ◌-◌, ◌+◌}
use native.Mathlib.Omega.{arith}
use Rattle.board.specs.Whole.{Played}
use Rattle.journal.specs.Words.{whole_of}
use Rattle.move_undo.specs.Undone.{taken_back}
use Rattle.move_undo.proofs.Taken.{taken_none, taken_one, taken_stuck}
use Rattle.move_undo.proofs.back_many.Goals as goal

pub loop-init : goal.loop-init
loop-init c = let all : c.args.count - 0 ≡ c.args.count = omega arith in ap (λ (n : ℕ). taken_back n (whole_of c.args.board c.args.journal.now)) all

pub returns-then-not-intact : goal.returns-then-not-intact
returns-then-not-intact c =
    let loop = c.loop in
    let stuck = taken_stuck _ _ (whole_of loop.b c.args.journal.now) c.loop-test.true (sym c.intact.ensures ∙ c.if-not-intact.true) in
    ap (λ (p : Played). p.answer) (sym (stuck ∙ loop.invariant))

pub back_one-b-requires : goal.back_one-b-requires
back_one-b-requires c = sym c.intact.ensures ∙ c.if-not-intact.false

pub loop-preserved : goal.loop-preserved
loop-preserved c =
    let loop = c.loop in
    ap (taken_back (c.args.count - (loop.counter + 1))) c.back_one-b.ensures
    ∙ taken_one _ _ (whole_of loop.b c.args.journal.now) c.loop-test.true (sym c.intact.ensures ∙ c.if-not-intact.false) ∙ loop.invariant

pub returns : goal.returns
returns c =
    let loop = c.loop in
    taken_none _ (whole_of loop.b c.args.journal.now) (omega (arith, c.loop-test.false)) ∙ loop.invariant
