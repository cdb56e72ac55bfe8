-- The bytes are decoded where there are no more of them than a board has edges; more of them are refused by their greatest edge.
use mathlib.Core.Path.{sym, ap, ◌∙◌}
use mathlib.Core.List.{List}
use native.Mathlib.Omega.{arith}
use lib.Seq.{length-take-le}
use Rattle.graph_flows.specs.Trails.{Step}
use Rattle.journal.specs.Words.{whole_of, words_after}
use Rattle.move_cycle.specs.Steps.{steps_of}
use Rattle.move_turn.specs.Turns.{turn_call}
use Rattle.move_turn.proofs.Decoding.{bytes_length}
use Rattle.move_turn.proofs.Unkept.{unkept_lent}
use borrow.Author.Rules.{rules}
use Rattle.move_turn.proofs.turn.Goals as goal

pub returns-then-steps-gt-MAX_EDGES : goal.returns-then-steps-gt-MAX_EDGES
returns-then-steps-gt-MAX_EDGES c =
    let b = whole_of c.args.board c.args.journal.now in
    let bytes = c.args.steps.now in
    let all = unkept_lent b (steps_of bytes) _ _ _ c.turn_unkept.ensures c.greatest_edge-greatest.ensures (λ few. absurd (omega (arith, few, bytes_length bytes, c.if-steps-gt-MAX_EDGES.true))) in record {
      journal_after = all.0;
      journal_after_2 = all.1;
    }

pub slice_bounds-turn_steps-end : goal.slice_bounds-turn_steps-end
slice_bounds-turn_steps-end c = sym (length-take-le _ _ (search rules))

pub returns : goal.returns
returns c =
    let words = c.args.journal.now in
    let b = whole_of c.args.board words in
    let same = c.codes_of-codes.ensures in record {
      journal_after = c.turn_steps.ensures.journal_after ∙ ap (turn_call b) same;
      journal_after_2 = c.turn_steps.ensures.journal_after_2 ∙ ap (λ (w : List Step). words_after b.moves (turn_call b w).board words) same;
    }
