-- The calls that are left, from the board and the words as they are now, end in the same board and words as all of them; their answers and hints fill the buffers in the
-- same way.
use mathlib.Core.Path.{sym, ap, ◌∙◌}
use borrow.Author.Rules.{rules}
use Rattle.journal.specs.Words.{whole_of}
use Rattle.move_list.specs.Calls.{Game, game_of}
use Rattle.move_list.proofs.Coded.{played_end, answers_end, hints_end}
use Rattle.move_list.proofs.Going.{no_call, round_first, round_made, round_skipped, words_end}
use Rattle.move_list.proofs.run.Goals as goal

pub loop-code-init : goal.loop-code-init
loop-code-init c = round_first _ _ _ _ _ _ _ c.as_chunks.ensures.front

pub loop-code-preserved-in_default : goal.loop-code-preserved-in_default
loop-code-preserved-in_default c =
    let loop = c.loop-code in
    let none = sym (c.from_numbers.ensures c.args.steps.now) ∙ no_call c.args.steps.now _ c.in_default.not-Some in
    round_skipped _ _ _ _ _ _ _ _ _ _ _ _ _ _ c.loop-code-test.true loop.invariant none

pub overflow_add-k : goal.overflow_add-k
overflow_add-k c = search (rules, c.loop-code.invariant.inside, c.loop-code-test.true)

pub loop-code-preserved : goal.loop-code-preserved
loop-code-preserved c =
    let loop = c.loop-code in
    let gave = c.make-given.ensures in
    let one = sym (c.in-Some.ensures c.args.steps.now) in
    let says = ap (λ n. record { answer = n; game = game_of (whole_of c.make-given.new.board c.make-given.new.journal) }) c.number_of.ensures ∙ gave.value in
    round_made _ _ _ _ _ _ _ _ _ _ _ _ _ _ c.loop-code-test.true loop.invariant _ _ _ one says _ _ _ _ c.put.ensures gave.hints_after gave.journal_after

pub returns : goal.returns
returns c =
    let loop = c.loop-code in
    let steps = c.args.steps.now in
    let whole = c.as_chunks.result.0.now in
    let none = c.loop-code-test.false in
    let game = game_of (whole_of loop.b loop.journal) in record {
      journal_after = ap (λ (g : Game). g.board) (played_end steps whole loop.code-index game none ∙ loop.invariant.plays);
      journal_after_2 = words_end steps whole loop.code-index game loop.journal none ∙ loop.invariant.packs;
      buf_after = answers_end steps whole loop.code-index game loop.buf loop.k none ∙ loop.invariant.says;
      hints_after = hints_end steps whole loop.code-index game loop.hints loop.j none ∙ loop.invariant.hints_say;
    }
