-- The letter is looked at first, then the board, then what is kept.
use mathlib.Core.Path.{◌≡◌, refl, sym, ap, ◌∙◌}
use Prim.Native.Nat.{ℕ, ◌<◌}
use lib.ListN.{length, get_or}
use native.Mathlib.Omega.{arith}
use Rattle.board.specs.Record.{closed_board}
use Rattle.move_guard.specs.Guard.{loaded}
use Rattle.checkpoints.specs.Letters.{letters}
use Rattle.checkpoints.specs.Lent.{wholes_of}
use Rattle.checkpoints.proofs.Laws.{placed, unplaced, back_outside, back_shut, back_empty, back_free}
use Rattle.checkpoints.proofs.Wholes.{wholes_here}
use borrow.Author.Rules.{rules}
use Rattle.checkpoints.proofs.judge_back.Goals as goal

pub returns-in_default-clause-answer : goal.returns-in_default-clause-answer
returns-in_default-clause-answer c = back_outside _ _ _ (unplaced _ (sym c.letter_of.ensures ∙ c.in_default.is))

pub returns-then-not-loaded-clause-answer : goal.returns-then-not-loaded-clause-answer
returns-then-not-loaded-clause-answer c =
    let place = placed _ _ (sym c.letter_of.ensures ∙ c.in-Some.is) in
    back_shut _ _ _ place.0 (sym c.loaded.ensures ∙ c.if-not-loaded.true)

pub bounds-kept-k : goal.bounds-kept-k
bounds-kept-k c =
    let place = placed _ _ (sym c.letter_of.ensures ∙ c.in-Some.is) in
    omega (arith, place.0, place.1)

pub offset_bounds-kept-k : goal.offset_bounds-kept-k
offset_bounds-kept-k c = search (rules, bounds-kept-k c)

pub bounds-rows-k : goal.bounds-rows-k
bounds-rows-k c =
    let place = placed _ _ (sym c.letter_of.ensures ∙ c.in-Some.is) in
    omega (arith, place.0, place.1)

pub offset_bounds-rows-k : goal.offset_bounds-rows-k
offset_bounds-rows-k c = search (rules, bounds-rows-k c)

pub returns-then-loaded : goal.returns-then-loaded
returns-then-loaded c =
    let place = placed _ _ (sym c.letter_of.ensures ∙ c.in-Some.is) in
    let below : c.in-Some.k < letters = omega (arith, place.0, place.1) in
    let kept_long : length c.args.kept ≡ letters = c.well_formed.1.1.0.1.0.1 in
    let here =
    wholes_here c.args.kept c.args.journals.now c.in-Some.k _ _ _ _ (omega (arith, below, kept_long))
    (omega (arith, below)) refl refl in
    let is = ap (λ (n : ℕ). loaded (get_or (wholes_of c.args.kept c.args.journals.now) n closed_board)) place.1 in
    record {
      answer = back_free _ _ _ place.0 (sym c.loaded.ensures ∙ c.if-not-loaded.false) (sym is ∙ sym (ap loaded here) ∙ sym c.loaded-2.ensures ∙ c.if-loaded.true);
      place = place.1;
    }

pub returns-else-loaded-clause-answer : goal.returns-else-loaded-clause-answer
returns-else-loaded-clause-answer c =
    let place = placed _ _ (sym c.letter_of.ensures ∙ c.in-Some.is) in
    let below : c.in-Some.k < letters = omega (arith, place.0, place.1) in
    let kept_long : length c.args.kept ≡ letters = c.well_formed.1.1.0.1.0.1 in
    let here =
    wholes_here c.args.kept c.args.journals.now c.in-Some.k _ _ _ _ (omega (arith, below, kept_long))
    (omega (arith, below)) refl refl in
    let is = ap (λ (n : ℕ). loaded (get_or (wholes_of c.args.kept c.args.journals.now) n closed_board)) place.1 in
    back_empty _ _ _ place.0 (sym c.loaded.ensures ∙ c.if-not-loaded.false) (sym is ∙ sym (ap loaded here) ∙ sym c.loaded-2.ensures ∙ c.if-loaded.false)
