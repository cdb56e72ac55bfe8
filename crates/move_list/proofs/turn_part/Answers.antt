-- The steps between are taken where there are such, and none where not.
use mathlib.Core.Path.{sym, ap, ◌∙◌}
use mathlib.Core.List.{List}
use Prim.Native.Nat.{ℕ}
use Rattle.journal.specs.Words.{whole_of, words_after}
use Rattle.move_cycle.specs.Steps.{steps_of}
use Rattle.move_turn.specs.Turns.{turn_call}
use Rattle.move_list.proofs.Coded.{part_some, part_none, part_start, part_end}
use Rattle.move_list.proofs.turn_part.Goals as goal

pub returns-then-not-inside : goal.returns-then-not-inside
returns-then-not-inside c =
    let args = c.args in
    let words = args.journal.now in
    let whole = whole_of args.board words in
    let tested = sym c.and-inside.ensures ∙ c.if-not-inside.true in
    let steps = sym (part_none args.steps.now args.a args.c tested) in
    let gave = c.turn.ensures in record {
      journal_after = gave.journal_after ∙ ap (λ (s : List ℕ). turn_call whole (steps_of s)) steps;
      journal_after_2 = gave.journal_after_2 ∙ ap (λ (s : List ℕ). words_after args.board.moves (turn_call whole (steps_of s)).board words) steps;
    }

pub slice_bounds-turn-count : goal.slice_bounds-turn-count
slice_bounds-turn-count c =
    part_start c.args.steps.now _ _ (sym c.and-inside.ensures ∙ c.if-not-inside.false)

pub returns : goal.returns
returns c =
    let args = c.args in
    let words = args.journal.now in
    let whole = whole_of args.board words in
    let tested = sym c.and-inside.ensures ∙ c.if-not-inside.false in
    let steps = sym (part_some args.steps.now args.a args.c tested) in
    let gave = c.turn-2.ensures in record {
      journal_after = gave.journal_after ∙ ap (λ (s : List ℕ). turn_call whole (steps_of s)) steps;
      journal_after_2 = gave.journal_after_2 ∙ ap (λ (s : List ℕ). words_after args.board.moves (turn_call whole (steps_of s)).board words) steps;
    }

pub slice_bounds-turn-start : goal.slice_bounds-turn-start
slice_bounds-turn-start c =
    part_start c.args.steps.now _ _ (sym c.and-inside.ensures ∙ c.if-not-inside.false)

pub slice_bounds-turn-end-2 : goal.slice_bounds-turn-end-2
slice_bounds-turn-end-2 c =
    part_end c.args.steps.now _ _ (sym c.and-inside.ensures ∙ c.if-not-inside.false)
