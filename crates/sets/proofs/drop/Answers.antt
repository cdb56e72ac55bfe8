-- A set that has c is at least 2 ^ c, and c is below 64, so neither the shift nor the difference wraps.
-- A set that does not have c stays.
use mathlib.Core.Path.{sym, ap, ◌∙◌}
use Prim.Native.Nat.{ℕ, ◌-◌}
use Rattle.lists.proofs.Laws.{pick_yes, pick_no}
use Rattle.sets.specs.Inner.{dropped}
use Rattle.sets.proofs.Scan.{has_inside, has_least, shifted_one}
use borrow.Author.Rules.{rules}
use Rattle.sets.proofs.drop.Goals as goal

pub overflow_shl-result : goal.overflow_shl-result
overflow_shl-result c = has_inside c.args.m _ (search rules) (sym c.has.ensures ∙ c.if-has.true)

pub overflow_sub-result : goal.overflow_sub-result
overflow_sub-result c =
    let h = sym c.has.ensures ∙ c.if-has.true in
    rw (shifted_one _ (has_inside c.args.m _ (search rules) h)) (has_least _ _ h)

pub returns-then-has : goal.returns-then-has
unfolding dropped
returns-then-has c =
    let h = sym c.has.ensures ∙ c.if-has.true in
    ap (λ (n : ℕ). c.args.m - n) (shifted_one _ (has_inside c.args.m _ (search rules) h)) ∙ sym (pick_yes _ _ _ h)

pub returns-else-has : goal.returns-else-has
unfolding dropped
returns-else-has c = sym (pick_no _ _ _ (sym c.has.ensures ∙ c.if-has.false))
