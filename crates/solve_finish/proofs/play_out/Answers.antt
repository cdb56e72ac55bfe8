-- The loop plays a run on the board that the table and the words stand for (proofs/Rounds.antt). It ends where a move is refused, where the board is not in play
-- any more, and after as many moves as the journal has places.
use mathlib.Core.Path.{◌≡◌, refl, sym, ◌∙◌}
use native.Mathlib.Omega.{arith}
use Prim.Native.Nat.{◌+◌}
use lib.Dec.{leb}
use lib.ListN.{length}
use borrow.Author.Rules.{rules}
use Rattle.lists.specs.Choice.{both}
use Rattle.board.specs.Limits.{max_edges, max_terminals, max_moves}
use Rattle.journal.specs.Words.{whole_of}
use Rattle.refusals.proofs.Laws.{refused}
use Rattle.solve_carry.proofs.Resumed.{resumes_first}
use Rattle.solve_finish.specs.Run.{PartsSized}
use Rattle.solve_finish.proofs.Running.{run_starts}
use Rattle.solve_finish.proofs.Storing.{kept_starts, kept_over}
use Rattle.solve_finish.proofs.Rounds.{few_small, many_small, left_some, left_goes, left_ends, round_plays, round_few, round_refused, round_made, round_resumes}
use Rattle.solve_finish.proofs.play_out.Goals as goal
use Rattle.solve_finish.proofs.play_out.Goals.{then-moves, else-moves}

pub loop-init : goal.loop-init
loop-init c =
    let board = whole_of c.args.board c.args.journal.now in
    let long : length board.flows ≡ max_edges = search rules in
    let short : length board.places ≡ max_terminals = search rules in
    let sized : PartsSized board.network = record {
      tails = search rules;
      heads = search rules;
      demands = search rules;
    } in record {
      stored = kept_starts _ _ _ _ c.requires.flows_value.0 c.requires.flows_value.1 (run_starts board c.requires.journal_value long short sized);
      is_positive = c.positive-positive.ensures;
      resumes = resumes_first _ _ _ _;
    }

pub advance-requires : goal.advance-requires
advance-requires c =
    rw c.of-frame.ensures
    (record {
      net = c.args.board.network;
      bare = refl;
      in_play = round_plays _ _ _ _ _ _ _ _ _ c.loop.invariant.stored (left_some _ c.loop-test.true);
      leave = c.at_vertices-leaving.ensures;
      enter = c.at_vertices-entering.ensures;
      is_positive = c.loop.invariant.is_positive;
      resumes = c.loop.invariant.resumes;
    })

pub store-filled-requires : goal.store-filled-requires
store-filled-requires c = round_few _ _ _ _ _ _ _ _ _ c.loop.invariant.stored (left_some _ c.loop-test.true)

pub overflow_add-moves : goal.overflow_add-moves
overflow_add-moves c =
    record { fits = omega (arith, round_few _ _ _ _ _ _ _ _ _ c.loop.invariant.stored (left_some _ c.loop-test.true)) }

pub loop-preserved : goal.loop-preserved
loop-preserved c =
    let test : c.if-moves.value ≡ both (leb (c.loop.moves + 1) max_moves) c.in-Ok.made.small =
    elim c.if-moves.branch [ then-moves w ↦ few_small _ _ _ w.if-moves.true w.value-is | else-moves w ↦ many_small _ _ _ w.if-moves.false w.value-is ] in
    let some = left_some _ c.loop-test.true in record {
      stored = round_made _ _ _ _ _ _ _ _ _ c.loop.invariant.stored some _ _ _ _ c.of-frame.ensures c.in-Ok.ensures _ _ _ refl (left_goes _ _ _ (sym test ∙ c.if-not-made.false)) c.store-filled.ensures;
      is_positive = c.in-Ok.ensures.is_positive;
      resumes = round_resumes _ _ _ _ _ _ _ _ _ c.loop.invariant.stored some _ _ _ _ c.of-frame.ensures c.in-Ok.ensures _ refl c.resumption-resume.ensures;
    }

pub returns-after-loop : goal.returns-after-loop
returns-after-loop c = kept_over _ _ _ _ _ _ _ c.loop.invariant.stored (omega (arith, c.loop-test.false))

pub returns-in_default : goal.returns-in_default
returns-in_default c =
    kept_over _ _ _ _ _ _ 0
    (round_refused _ _ _ _ _ _ _ _ _ c.loop.invariant.stored (left_some _ c.loop-test.true) _ _ _ _ c.of-frame.ensures c.in_default.ensures (refused _)) refl

pub returns-then-not-made : goal.returns-then-not-made
returns-then-not-made c =
    let test : c.if-moves.value ≡ both (leb (c.loop.moves + 1) max_moves) c.in-Ok.made.small =
    elim c.if-moves.branch [ then-moves w ↦ few_small _ _ _ w.if-moves.true w.value-is | else-moves w ↦ many_small _ _ _ w.if-moves.false w.value-is ] in
    kept_over _ _ _ _ _ _ 0
    (round_made _ _ _ _ _ _ _ _ _ c.loop.invariant.stored (left_some _ c.loop-test.true) _ _ _ _ c.of-frame.ensures c.in-Ok.ensures _ _ _ refl (left_ends _ _ _ (sym test ∙ c.if-not-made.true)) c.store-filled.ensures) refl
