-- What the load gives is stored.
use mathlib.Core.Path.{ap, ◌∙◌}
use Rattle.board.specs.Whole.{Table}
use Rattle.journal.specs.Words.{whole_of}
use Rattle.load.specs.Load.{Loaded}
use Rattle.boundary.proofs.Calls.{loaded-memory}
use Rattle.boundary.proofs.vulprow_parts_load.Goals as goal

pub returns-in-Ok : goal.returns-in-Ok
returns-in-Ok c =
    let gave = c.in-Ok.ensures in
    let kept = c.store.ensures in
    let board = ap (λ (l : Loaded). l.board) gave.journal_after in record {
      value = ap (λ (l : Loaded). l.answer) gave.journal_after;
      journal_after = loaded-memory _ _ _ _ _ _ _ board gave.journal_after_2 kept.numbers_after kept.edges_after kept.terminals_after kept.marks_after;
    }

pub returns-in-Err : goal.returns-in-Err
returns-in-Err c =
    let gave = c.in-Err.ensures in
    let kept = c.store-in-Err.ensures in
    let board = ap (λ (t : Table). whole_of t c.load.new.journal) c.closed.ensures ∙ ap (λ (l : Loaded). l.board) gave.journal_after in record {
      value = c.from.ensures ∙ ap (λ (l : Loaded). l.answer) gave.journal_after;
      journal_after = loaded-memory _ _ _ _ _ _ _ board gave.journal_after_2 kept.numbers_after kept.edges_after kept.terminals_after kept.marks_after;
    }
