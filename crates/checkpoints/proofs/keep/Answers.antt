-- Where the call is not refused, board and journal are stored at the letter's number.
use mathlib.Core.Path.{refl, sym, ap, ◌∙◌}
use native.Mathlib.Omega.{arith}
use Rattle.refusals.specs.Refusals.{answer_of}
use Rattle.refusals.proofs.Laws.{refused, passed_on}
use Rattle.checkpoints.proofs.Laws.{keep_inside, given_place}
use Rattle.checkpoints.proofs.Wholes.{keep_refused, keep_accepted}
use borrow.Author.Rules.{rules}
use Rattle.checkpoints.proofs.keep.Goals as goal

pub returns-in_err-k : goal.returns-in_err-k
returns-in_err-k c =
    let all = keep_refused _ _ _ _ _ (sym (ap answer_of c.in_err-k.was) ∙ c.judge_keep.ensures.answer) (refused c.in_err-k.field-0.0) in record {
      journals_after = rw (passed_on _ _ c.from_residual.ensures.1) all.0;
      journals_after_2 = all.1;
    }

pub bounds-next-k : goal.bounds-next-k
bounds-next-k c =
    let none = sym c.judge_keep.ensures.answer ∙ ap answer_of c.in_ok-k.was in
    omega (arith, keep_inside _ _ none, given_place _ _ _ c.in_ok-k.was c.judge_keep.ensures.place)

pub offset_bounds-next-k : goal.offset_bounds-next-k
offset_bounds-next-k c = search (rules, bounds-next-k c)

pub offset_bounds-journals-k : goal.offset_bounds-journals-k
offset_bounds-journals-k c = search (rules, bounds-next-k c.before)

pub bounds-journals-k : goal.bounds-journals-k
bounds-journals-k c = bounds-next-k c.before

pub returns : goal.returns
returns c =
    let all = keep_accepted _ _ _ _ _ (sym (ap answer_of c.in_ok-k.was) ∙ c.judge_keep.ensures.answer) _ (given_place _ _ _ c.in_ok-k.was c.judge_keep.ensures.place) refl in record {
      journals_after = all.0;
      journals_after_2 = all.1;
    }
