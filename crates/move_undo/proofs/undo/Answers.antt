-- Each test leads to the part of the definition that it stands for (proofs/Lent.antt).
use mathlib.Core.Path.{◌≡◌, sym, ◌∙◌}
use mathlib.Core.Bool.{true}
use mathlib.Core.List.{List}
use Prim.Native.Nat.{ℕ}
use native.Mathlib.Omega.{arith}
use Rattle.board.specs.Whole.{Table}
use Rattle.journal.specs.Words.{whole_of}
use Rattle.move_guard.specs.Guard.{loaded}
use Rattle.move_guard.proofs.Facts.{loaded_then_intact}
use Rattle.move_undo.proofs.Lent.{undo_refused, not-loaded, no_move, move_undone}
use Rattle.move_undo.proofs.undo.Lts as lts
use Rattle.move_undo.proofs.undo.Tie as tie
use Rattle.move_undo.proofs.undo.Reads as reads
use Rattle.move_undo.proofs.undo.Goals as goal

abbrev Start : Type 0
Start = lts.Start tie.the-claims reads.Pre reads.Post tie.handed_clauses

-- the table and the words at the start
abbrev table : Start → Table
table s = s.args.board

abbrev words : Start → List (List ℕ)
words s = s.args.journal.now

-- where the board is known to be loaded, and where it is in play
abbrev Loaded : Type 0
Loaded = lts.Else1 tie.the-claims reads.Pre reads.Post tie.handed_clauses

abbrev start : Loaded → Start
start c = c.before.before

is_loaded : (c : Loaded) → loaded (whole_of (table (start c)) (words (start c))) ≡ true
is_loaded c = sym c.loaded.ensures ∙ c.if-not-loaded.false

abbrev Going : Type 0
Going = lts.Else2 tie.the-claims reads.Pre reads.Post tie.handed_clauses

abbrev tested : Going → Loaded
tested c = c.before.before

pub returns-then-not-loaded : goal.returns-then-not-loaded
returns-then-not-loaded c =
    let all = undo_refused (table c.before.before) (words c.before.before) 20 (λ z. omega (arith, z)) (not-loaded (table c.before.before) (words c.before.before) (sym c.loaded.ensures ∙ c.if-not-loaded.true)) in record {
      journal_after = all.0;
      journal_after_2 = all.1;
    }

pub undo_finish-requires : goal.undo_finish-requires
undo_finish-requires c = record {
  journal_value = is_loaded c.before.before.before;
  stage_value = c.if-board-eq-FINISHED.true;
}

pub returns-then-board-eq0 : goal.returns-then-board-eq0
returns-then-board-eq0 c =
    let s = start (tested c.before.before) in
    let all = undo_refused (table s) (words s) 27 (λ z. omega (arith, z)) (no_move (table s) (words s) (is_loaded (tested c.before.before)) c.if-board-eq-FINISHED.false c.if-board-eq0.true) in record {
      journal_after = all.0;
      journal_after_2 = all.1;
    }

pub back_one-last-requires : goal.back_one-last-requires
back_one-last-requires c =
    loaded_then_intact _ (is_loaded (tested c.before.before))

pub returns : goal.returns
returns c =
    let s = start (tested c.before.before.before.before.before.before.before) in
    let all = move_undone (table s) (words s) (is_loaded (tested c.before.before.before.before.before.before.before)) c.if-board-eq-FINISHED.false c.back_one-last.result _ _ c.if-board-eq0.false c.back_one-last.ensures
    c.blank.ensures c.put_entry.ensures.journal_after in record {
      journal_after = all.0;
      journal_after_2 = all.1;
    }
