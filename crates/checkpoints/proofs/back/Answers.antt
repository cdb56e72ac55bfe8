-- Where the call is not refused, board and journal are those at the letter's number.
use mathlib.Core.Path.{◌≡◌, refl, sym, ap, ◌∙◌}
use native.Mathlib.Omega.{arith}
use lib.ListN.{length}
use Rattle.refusals.specs.Refusals.{answer_of}
use Rattle.refusals.proofs.Laws.{refused, passed_on}
use Rattle.checkpoints.specs.Letters.{letters}
use Rattle.checkpoints.specs.Lent.{lent_of}
use Rattle.checkpoints.proofs.Laws.{back_inside, given_place}
use Rattle.checkpoints.proofs.Wholes.{back_refused, back_accepted}
use borrow.Author.Rules.{rules}
use Rattle.checkpoints.proofs.back.Goals as goal

pub returns-in_err-k : goal.returns-in_err-k
returns-in_err-k c =
    let all = back_refused _ _ _ _ _ (sym (ap answer_of c.in_err-k.was) ∙ c.judge_back.ensures.answer) (refused c.in_err-k.field-0.0) in record {
      journals_after = rw (passed_on _ _ c.from_residual.ensures.1) all.0;
      journals_after_2 = all.1;
    }

pub bounds-rows-k : goal.bounds-rows-k
bounds-rows-k c =
    let none = sym c.judge_back.ensures.answer ∙ ap answer_of c.in_ok-k.was in
    omega (arith, back_inside _ _ _ none, given_place _ _ _ c.in_ok-k.was c.judge_back.ensures.place)

pub offset_bounds-rows-k : goal.offset_bounds-rows-k
offset_bounds-rows-k c = search (rules, bounds-rows-k c)

pub bounds-kept-k : goal.bounds-kept-k
bounds-kept-k c =
    let none = sym c.judge_back.ensures.answer ∙ ap answer_of c.in_ok-k.was in
    omega (arith, back_inside _ _ _ none, given_place _ _ _ c.in_ok-k.was c.judge_back.ensures.place)

pub offset_bounds-kept-k : goal.offset_bounds-kept-k
offset_bounds-kept-k c = search (rules, bounds-kept-k c)

pub returns : goal.returns
returns c =
    let args = c.args in
    let none = sym c.judge_back.ensures.answer ∙ ap answer_of c.in_ok-k.was in
    let place = given_place _ _ _ c.in_ok-k.was c.judge_back.ensures.place in
    let inside = back_inside _ _ _ none in
    let kept_long : length args.kept ≡ letters = c.well_formed.1.1.0.1.0.1 in
    let all = back_accepted args.board args.kept (lent_of args.journal.now args.journals.now) args.letter _ (sym (ap answer_of c.in_ok-k.was) ∙ c.judge_back.ensures.answer) c.in_ok-k.k _ _ _ place refl
    (omega (arith, inside, place, kept_long)) (omega (arith, inside, place)) refl refl in record {
      journals_after = all.0;
      journals_after_2 = all.1;
    }
