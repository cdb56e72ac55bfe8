-- The way back was worked out over the words as they are; where it stays within intact boards, the places behind it are blanked (proofs/Lent.antt).
use mathlib.Core.List.{List}
use Prim.Native.Nat.{ℕ, ◌≤◌}
use native.Mathlib.Omega.{arith}
use Rattle.board.specs.Limits.{max_moves}
use Rattle.board.specs.Whole.{Table}
use Rattle.journal.specs.Words.{whole_of}
use Rattle.move_guard.proofs.Facts.{loaded_then_intact, intact_moves}
use Rattle.refusals.proofs.Laws.{refused, passed_on}
use Rattle.move_undo.proofs.Taken.{taken_as}
use Rattle.move_undo.proofs.Lent.{undo_refused, not_behind, way_number, finish_undone_lem}
use Rattle.move_undo.proofs.undo_finish.Lts as lts
use Rattle.move_undo.proofs.undo_finish.Tie as tie
use Rattle.move_undo.proofs.undo_finish.Reads as reads
use Rattle.move_undo.proofs.undo_finish.Goals as goal

abbrev Start : Type 0
Start = lts.Start tie.the-claims reads.Pre reads.Post tie.handed_clauses

-- the table and the words at the start
abbrev table : Start → Table
table s = s.args.board

abbrev words : Start → List (List ℕ)
words s = s.args.journal.now

few : (s : Start) → (table s).moves ≤ max_moves
few s = let b = whole_of (table s) (words s) in intact_moves b (loaded_then_intact b s.requires.journal_value)

-- where the way back is worked out: the test before it, and the start
abbrev Back : Type 0
Back = lts.After-back_many tie.the-claims reads.Pre reads.Post tie.handed_clauses

abbrev start : Back → Start
start c = c.before.before.before.before

pub returns-then-board-from : goal.returns-then-board-from
returns-then-board-from c =
    let all = undo_refused (table c.before.before) (words c.before.before) 20 (λ z. omega (arith, z)) (not_behind (table c.before.before) (words c.before.before) c.requires.journal_value c.requires.stage_value c.if-board-from.true) in record {
      journal_after = all.0;
      journal_after_2 = all.1;
    }

pub returns-in_err-last : goal.returns-in_err-last
returns-in_err-last c =
    let s = start c.before.before.before in
    let way = taken_as _ _ c.in_err-last.was _ _ c.back_many.ensures in
    let all = undo_refused (table s) (words s) _ (refused c.in_err-last.field-0.0)
    (way_number (table s) (words s) s.requires.journal_value s.requires.stage_value c.if-board-from.false _ way) in record {
      journal_after = rw (passed_on _ _ c.from_residual.ensures.1) all.0;
      journal_after_2 = all.1;
    }

pub wipe-requires : goal.wipe-requires
wipe-requires c =
    let fits = few (start c.before.before.before) in
    let order = c.if-board-from.false in
    (omega (arith, fits, order), omega (arith, fits))

pub returns : goal.returns
returns c =
    let s = start c.before.before.before.before in
    let way = taken_as _ _ c.in_ok-last.was _ _ c.back_many.ensures in
    let all = finish_undone_lem (table s) (words s) s.requires.journal_value s.requires.stage_value c.if-board-from.false _ way _ c.wipe.ensures in record {
      journal_after = all.0;
      journal_after_2 = all.1;
    }
